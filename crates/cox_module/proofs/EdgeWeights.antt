-- mu as a value, the values of edges, and the weights of the action.
use Rattle.std.proofs.Common.{◌≡◌, ◌≢◌, ℕ, ◌-◌, ◌≤◌, ◌<◌, Bool, true, false, if◌then◌else◌, List, ◌∷◌, ◌⊎◌, inl, inr}
use Rattle.std.proofs.Common.{ℤ, pos, ◌+ℤ◌, refl, ap, sym, ◌∙◌, arith}
use Rattle.std.specs.Ordering.{int_eq}
use Rattle.std.proofs.lemmas.Int.{ints}
use Rattle.std.proofs.lemmas.Bool.{false≢true}
use Rattle.std.proofs.lemmas.Bool.Decides.{Decides-int_eq}
use Rattle.cox_base.specs.IntegerMatrix.{IntegerMatrix}
use Rattle.cox_base.specs.Admissible.{IsAdmissible}
use Rattle.cox_base.specs.Element.{SameElement}
use Rattle.cox_base.specs.Length.{word_length}
use Rattle.cox_base.specs.Descents.{IsLeftDescent}
use Rattle.cox_reflect.proofs.Elements.{same-refl, same-square}
use Rattle.cox_poly.specs.Multiples.{scaled}
use Rattle.cox_rpoly.specs.InverseOperators.{shortens_left}
use Rattle.cox_hecke.specs.Family.{Family, RespectsElements}
use Rattle.cox_hecke.specs.Sums.{sum_over}
use Rattle.cox_hecke.proofs.ListSums.{sum_over-equal}
use Rattle.cox_reflect.proofs.Search.{word_length-equal}
use Rattle.cox_hecke.specs.Row.{IsMu, middle_coefficient}
use Rattle.cox_hecke.proofs.Descents.{shortens_left-same, nat_lt-yes, yes-nat_lt}
use Rattle.cox_hecke.proofs.Signed.{respected}
use Rattle.cox_hecke.proofs.AllRows.{row_of, row_of-is, row_of-same, mu-by_row, mu-unique, mu-same}
use Rattle.cox_hecke.proofs.Descended.{mu-shift_left}
use Rattle.cox_wgraph.specs.Edges.{IsEdgeValue, IsJoined}
use Rattle.cox_module.proofs.ActionOnFunctions.{through}

module _ (A : IntegerMatrix) (g : IsAdmissible A) where
  -- mu(x,w)
  pub mu_at : List ℕ → List ℕ → ℤ
  mu_at x w = middle_coefficient (word_length A w - word_length A x) (row_of A g w x)

  pub mu_at-is : (x w : List ℕ) → IsMu A x w (mu_at x w)
  unfolding mu_at
  mu_at-is x w = mu-by_row A g x w (mu_at x w) (row_of A g w) (row_of-is A g w) refl

  pub mu_at-value : (x w : List ℕ) (m : ℤ) → IsMu A x w m → mu_at x w ≡ m
  mu_at-value x w m is = mu-unique A g x w (mu_at x w) m (mu_at-is x w) is

  pub mu_at-same : {x y v w : List ℕ} → SameElement A x y → SameElement A v w → mu_at x v ≡ mu_at y w
  unfolding mu_at
  mu_at-same {x} {y} {v} {w} e f =
      rw (word_length-equal A g e, word_length-equal A g f, row_of-same A g v w f, respected A g (row_of-is A g w).element e) refl

  pub mu_at-short : (x w : List ℕ) → word_length A w ≤ word_length A x → mu_at x w ≡ pos 0
  unfolding mu_at
  mu_at-short x w l = let e : word_length A w - word_length A x ≡ 0 = omega (arith, l) in rw e refl

  -- the value of the edge of x and y
  pub edge : List ℕ → List ℕ → ℤ
  edge x y = mu_at x y +ℤ mu_at y x

  -- .. where s is a left descent of y, else 0
  pub weight : ℕ → List ℕ → List ℕ → ℤ
  weight s x y = if shortens_left A s y then edge x y else pos 0

  pub weight-none : (s : ℕ) (x y : List ℕ) → shortens_left A s y ≡ false → weight s x y ≡ pos 0
  unfolding weight
  weight-none s x y e = rw e refl

  pub weight-edge : (s : ℕ) (x y : List ℕ) → shortens_left A s y ≡ true → weight s x y ≡ mu_at x y +ℤ mu_at y x
  unfolding weight edge
  weight-edge s x y e = rw e refl

  pub weight-same : (s : ℕ) {x x' y y' : List ℕ} → SameElement A x x' → SameElement A y y' → weight s x y ≡ weight s x' y'
  unfolding weight edge
  weight-same s {x} {x'} {y} {y'} e f = rw (shortens_left-same A g s f, mu_at-same e f, mu_at-same f e) refl

  -- the weight from x to sx
  pub weight-shift : (s : ℕ) (x : List ℕ) → IsLeftDescent A (s ∷ x) s → word_length A x < word_length A (s ∷ x) → weight s x (s ∷ x) ≡ pos 1
  weight-shift s x d l =
      let up : mu_at x (s ∷ x) ≡ pos 1
      = mu_at-value x (s ∷ x) (pos 1)
      (mu-same A g (s ∷ s ∷ x) x (s ∷ x) (pos 1) (same-square A g s x) (mu-shift_left A g (s ∷ x) s d))
      in let down : mu_at (s ∷ x) x ≡ pos 0 = mu_at-short (s ∷ x) x (omega (arith, l))
      in weight-edge s x (s ∷ x) (nat_lt-yes d) ∙ omega (arith, ints, up, down)

  -- the weight is the value of an edge
  pub weight-value : (s : ℕ) (x y : List ℕ) (m : ℤ) → IsLeftDescent A y s → IsEdgeValue A x y m → weight s x y ≡ m
  weight-value s x y m d is =
      weight-edge s x y (nat_lt-yes d)
      ∙ omega (arith, ints, is.value, mu_at-value x y is.up is.is_up, mu_at-value y x is.down is.is_down)

  pub weight-joined : (s : ℕ) (x y : List ℕ) → weight s x y ≢ pos 0 → IsLeftDescent A y s × IsJoined A x y
  weight-joined s x y some = go (shortens_left A s y) refl
    where
      go : (b : Bool) → shortens_left A s y ≡ b → IsLeftDescent A y s × IsJoined A x y
      go false e = absurd (some (weight-none s x y e))
      go true e = (
        yes-nat_lt (word_length A (s ∷ y)) (word_length A y) e,
        (
          weight s x y,
          record {
            value = record {
              up = mu_at x y;
              down = mu_at y x;
              is_up = mu_at-is x y;
              is_down = mu_at-is y x;
              value = weight-edge s x y e;
            };
            some = some;
          },
        ),
      )

  pub weight_or_not : (s : ℕ) (x y : List ℕ) → (weight s x y ≡ pos 0) ⊎ (weight s x y ≢ pos 0)
  weight_or_not s x y = go (int_eq (weight s x y) (pos 0)) refl
    where
      go : (b : Bool) → int_eq (weight s x y) (pos 0) ≡ b → (weight s x y ≡ pos 0) ⊎ (weight s x y ≢ pos 0)
      go true e = inl ((Decides-int_eq (weight s x y) (pos 0)).0 e)
      go false e = inr (λ z. false≢true (sym e ∙ (Decides-int_eq (weight s x y) (pos 0)).1 z))

  pub through-respects : (words : List (List ℕ)) (s : ℕ) (f : Family) → RespectsElements A f
      → RespectsElements A (through A weight words s f)
  through-respects words s f r x y e k =
      rw (shortens_left-same A g s e, respected A g r e, sums) refl
    where
      sums : sum_over words (λ z. scaled (weight s x z) (f z)) ≡ sum_over words (λ z. scaled (weight s y z) (f z))
      sums = λ i n. sum_over-equal words (λ z. scaled (weight s x z) (f z)) (λ z. scaled (weight s y z) (f z)) n
          (λ z. ap (λ (m : ℤ). scaled m (f z) n) (weight-same s e (same-refl A g z))) i
