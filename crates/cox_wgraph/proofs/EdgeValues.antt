-- There is one value for any two elements, which is mu from the shorter to the longer one; and what a row says of it.
use Rattle.std.proofs.Common.{◌≡◌, ℕ, ◌-◌, ◌≤◌, ◌<◌, ◌⊎◌, ◌≢◌, zero, suc, negsuc, inl, inr, List, length, ℤ, pos, ◌+ℤ◌, refl, sym, ◌∙◌}
use Rattle.std.proofs.Common.{⊎_elim, arith}
use Rattle.std.proofs.lemmas.Int.{ints}
use Rattle.std.proofs.lemmas.Bool.{cases_lt}
use Rattle.cox_base.specs.IntegerMatrix.{IntegerMatrix, integer_matrix}
use Rattle.cox_base.specs.Admissible.{IsAdmissible}
use Rattle.cox_base.specs.Element.{SameElement}
use Rattle.cox_base.specs.Length.{word_length}
use Rattle.cox_hecke.specs.Row.{IsMu}
use Rattle.cox_hecke.proofs.AllRows.{mu-exists, mu-unique}
use Rattle.cox_hecke.proofs.Descended.{mu-below}
use Rattle.cox_context.specs.Closed.{Elements, IsClosed}
use Rattle.cox_context.specs.Numbers.{word_at}
use Rattle.cox_row.specs.Rising.{number_at}
use Rattle.cox_row.specs.Mus.{value_at, AreMus}
use Rattle.cox_row.proofs.MuOfElements.{mu-words}
use Rattle.cox_wgraph.specs.Edges.{IsEdgeValue}
use Rattle.cox_wgraph.specs.Flat.{AreUndirected, AreEarlier}
use Rattle.cox_wgraph.specs.Building.{AreValues}

module _ (A : IntegerMatrix) (g : IsAdmissible A) where
  -- mu is 0 unless the first element is shorter
  pub mu-short : (x y : List ℕ) (m : ℤ) → word_length A y ≤ word_length A x → IsMu A x y m → m ≡ pos 0
  mu-short x y m l is = let e : word_length A y - word_length A x ≡ 0 = omega (arith, l) in rw e at is.value

  pub one_way : (x y : List ℕ) (up down : ℤ) → IsMu A x y up → IsMu A y x down → (up ≡ pos 0) ⊎ (down ≡ pos 0)
  one_way x y up down is_up is_down =
      ⊎_elim (λ (l : word_length A x < word_length A y). inr (mu-short y x down (omega (arith, l)) is_down))
      (λ (h : word_length A y ≤ word_length A x). inl (mu-short x y up h is_up)) (cases_lt (word_length A x) (word_length A y))

  pub edge-exists : (x y : List ℕ) → (m : ℤ) × IsEdgeValue A x y m
  edge-exists x y =
      let p = mu-exists A g x y in let q = mu-exists A g y x
      in (p.0 +ℤ q.0, record { up = p.0; down = q.0; is_up = p.1; is_down = q.1; value = refl })

  pub edge-unique : (x y : List ℕ) (m n : ℤ) → IsEdgeValue A x y m → IsEdgeValue A x y n → m ≡ n
  edge-unique x y m n c d =
      let e = mu-unique A g x y c.up d.up c.is_up d.is_up in let f = mu-unique A g y x c.down d.down c.is_down d.is_down
      in c.value ∙ rw (e, f) (sym d.value)

  pub edge-symmetric : (x y : List ℕ) (m : ℤ) → IsEdgeValue A x y m → IsEdgeValue A y x m
  edge-symmetric x y m c = record {
    up = c.down;
    down = c.up;
    is_up = c.is_down;
    is_down = c.is_up;
    value = omega (arith, ints, c.value);
  }

  pub edge-words : (x y v w : List ℕ) (m : ℤ) → SameElement A x v → SameElement A y w → IsEdgeValue A x y m → IsEdgeValue A v w m
  edge-words x y v w m e f c = record {
    up = c.up;
    down = c.down;
    is_up = mu-words A g c.up e f c.is_up;
    is_down = mu-words A g c.down f e c.is_down;
    value = c.value;
  }

  -- where mu(y,x) is 0, it is mu(x,y)
  pub edge-of_mu : (x y : List ℕ) (m : ℤ) → ((n : ℤ) → IsMu A y x n → n ≡ pos 0) → IsMu A x y m → IsEdgeValue A x y m
  edge-of_mu x y m back is =
      let q = mu-exists A g y x in let z : q.0 ≡ pos 0 = back q.0 q.1
      in record { up = m; down = q.0; is_up = is; is_down = q.1; value = omega (arith, ints, z) }

  pub mu-of_edge : (x y : List ℕ) (m : ℤ) → ((n : ℤ) → IsMu A y x n → n ≡ pos 0) → IsEdgeValue A x y m → IsMu A x y m
  mu-of_edge x y m back c =
      let z = back c.down c.is_down in let e : m ≡ c.up = omega (arith, ints, c.value, z) in rw e c.is_up

  pub edge-loop : (x : List ℕ) (m : ℤ) → IsEdgeValue A x x m → m ≡ pos 0
  edge-loop x m c =
      let a = mu-short x x c.up (omega arith) c.is_up in let b = mu-short x x c.down (omega arith) c.is_down
      in omega (arith, ints, c.value, a, b)

module _ (e : Elements) (g : IsAdmissible (integer_matrix e.matrix)) where
  pub some-values : (values : ℕ → ℕ → ℤ) × AreValues e values
  some-values = (
    λ a b. (edge-exists (integer_matrix e.matrix) g (word_at e.members a) (word_at e.members b)).0,
    λ a b _ _. (edge-exists (integer_matrix e.matrix) g (word_at e.members a) (word_at e.members b)).1,
  )

module _ (e : Elements) (g : IsAdmissible (integer_matrix e.matrix)) (closed : IsClosed (integer_matrix e.matrix) e.members) where
  zero_or_not : (m : ℤ) → (m ≡ pos 0) ⊎ (m ≢ pos 0)
  zero_or_not (pos zero) = inl refl
  zero_or_not (pos (suc n)) = inr (λ q. absurd (cc))
  zero_or_not (negsuc n) = inr (λ q. absurd (cc))

  -- a member is not below one before it, so mu from it to that one is 0
  pub no-back : (i j : ℕ) → i ≤ j → j < length e.members → (n : ℤ)
      → IsMu (integer_matrix e.matrix) (word_at e.members j) (word_at e.members i) n → n ≡ pos 0
  no-back i j l m n is =
      ⊎_elim (λ (zero : n ≡ pos 0). zero)
      (λ (some : n ≢ pos 0).
      let up = closed.upward j i m (omega (arith, l, m))
      (mu-below (integer_matrix e.matrix) g (word_at e.members j) (word_at e.members i) n is some)
      in let same : i ≡ j = omega (arith, l, up)
      in mu-short (integer_matrix e.matrix) g (word_at e.members j) (word_at e.members i) n (rw same (omega arith)) is)
      (zero_or_not n)

  module _ (values : ℕ → ℕ → ℤ) (are : AreValues e values) where
    pub undirected : AreUndirected (length e.members) values
    undirected = record {
      both = λ a b l m. edge-unique (integer_matrix e.matrix) g (word_at e.members a) (word_at e.members b) (values a b) (values b a)
          (are a b l m)
          (edge-symmetric (integer_matrix e.matrix) g (word_at e.members b) (word_at e.members a) (values b a) (are b a m l));
      loops = λ a l. edge-loop (integer_matrix e.matrix) g (word_at e.members a) (values a a) (are a a l l);
    }

    -- the values of mu of a row are the values of the edges to the members before
    pub earlier : (j : ℕ) (numbers : List ℕ) (list : List ℤ) → j < length e.members
        → AreMus (integer_matrix e.matrix) e.members (word_at e.members j) numbers list → AreEarlier values j numbers list
    earlier j numbers list l mus = record {
      size = mus.size;
      rising = mus.rising;
      within = within;
      value = λ k m. edge-unique (integer_matrix e.matrix) g (word_at e.members (number_at numbers k)) (word_at e.members j)
          (value_at list k) (values (number_at numbers k) j)
          (edge-of_mu (integer_matrix e.matrix) g (word_at e.members (number_at numbers k)) (word_at e.members j) (value_at list k)
          (no-back (number_at numbers k) j (let r = within k m in omega (arith, r)) l) (mus.value k m))
          (are (number_at numbers k) j (mus.within k m) l);
      some = mus.some;
      whole = λ u less some. mus.whole u (values u j) (omega (arith, less, l))
          (mu-of_edge (integer_matrix e.matrix) g (word_at e.members u) (word_at e.members j) (values u j)
          (no-back u j (omega (arith, less)) l) (are u j (omega (arith, less, l)) l)) some;
    }
      where
        within : (k : ℕ) → k < length numbers → number_at numbers k < j
        within k m = ⊎_elim (λ (less : number_at numbers k < j). less)
            (λ (h : j ≤ number_at numbers k). absurd (mus.some k m
            (no-back j (number_at numbers k) h (mus.within k m) (value_at list k) (mus.value k m)))) (cases_lt (number_at numbers k) j)
