-- Lists of coordinates: the pairing by the weight, and the image under a letter.
use Rattle.std.proofs.Common.{◌≡◌, ◌≢◌, ℕ, zero, suc, ◌+◌, ◌-◌, ◌*◌, ◌≤◌, ◌<◌, nat_abs, List, [], ◌∷◌, length, get_or, set, ◌⊎◌, ℤ, pos}
use Rattle.std.proofs.Common.{◌+ℤ◌, ◌-ℤ◌, ◌*ℤ◌, neg_ℤ, refl, ap, ap₂, sym, ◌∙◌, ⊎_elim, inl, inr, arith, get_or-set_same}
use Rattle.std.proofs.Common.{get_or-set_other}
use Rattle.std.proofs.Math.Nat.{mul-le-mul_right}
use Rattle.std.proofs.Math.Path.{fun_ext}
use Rattle.std.proofs.lemmas.Bool.{cases_eq, cases_lt, cases_order}
use Rattle.std.proofs.lemmas.Int.{ints}
use Rattle.cox_base.specs.Matrix.{IsLetter}
use Rattle.cox_base.specs.IntegerMatrix.{IntegerMatrix}
use Rattle.cox_base.specs.Admissible.{two, three, four, back_four, six, back_six, infinity, IsAdmissible, IsAdmissiblePair}
use Rattle.cox_base.specs.Element.{sum_to}
use Rattle.cox_reflect.specs.Action.{Vector, simple_root, pairing, minus_multiple, reflect}
use Rattle.cox_lemmas.proofs.Ring.{neg_mul, times_one}
use Rattle.cox_reflect.proofs.Sums.{simple_root-self, simple_root-other}
use Rattle.cox_reflect.proofs.Action.{reflect-other}
use Rattle.cox_minroots.specs.declared.root.Kind.{Kind}
use Rattle.cox_minroots.specs.declared.root.Kind.TheVariants.{OfRoot, OfCoroot}
use Rattle.cox_minroots.specs.Coordinates.{vector_of, matrix_of_kind, nat_sum_to, weight, CanTurn}

-- the coordinate at a letter
pub vector_of-letter : (xs : List ℕ) (i : ℕ) → 1 ≤ i → vector_of xs i ≡ pos (get_or xs (i - 1) 0)
unfolding vector_of
vector_of-letter xs zero l = absurd (omega arith)
vector_of-letter xs (suc k) l = let e : suc k - 1 ≡ k = omega arith in rw e refl

pub vector_of-zero : (xs : List ℕ) → vector_of xs 0 ≡ pos 0
unfolding vector_of
vector_of-zero xs = refl

-- equal vectors, equal coordinates
pub vector_of-at : (xs ys : List ℕ) → vector_of xs ≡ vector_of ys → (k : ℕ) → get_or xs k 0 ≡ get_or ys k 0
unfolding vector_of
vector_of-at xs ys e k = omega (arith, ints, ap (λ (v : Vector). v (suc k)) e)

-- a vector with another coordinate at s
pub vector_of-set : (xs : List ℕ) (s v : ℕ) → 1 ≤ s → s ≤ length xs → (w : Vector) → w s ≡ pos v
    → ((i : ℕ) → (i ≡ s → ⊥) → w i ≡ vector_of xs i) → vector_of (set xs (s - 1) v) ≡ w
unfolding vector_of
vector_of-set xs s v l h w own other = fun_ext at
  where
    at : (i : ℕ) → vector_of (set xs (s - 1) v) i ≡ w i
    at zero = sym (other zero (λ e. omega (arith, e, l)))
    at (suc k) = ⊎_elim same apart (cases_eq (suc k) s)
      where
        same : suc k ≡ s → pos (get_or (set xs (s - 1) v) k 0) ≡ w (suc k)
        same e =
            let place : s - 1 ≡ k = omega (arith, e)
            in let within : k < length xs = omega (arith, e, h)
            in rw place (rw get_or-set_same (sym own ∙ ap w (sym e)))

        apart : (suc k ≡ s → ⊥) → pos (get_or (set xs (s - 1) v) k 0) ≡ w (suc k)
        apart ne = let away : k ≢ s - 1 = λ (f : k ≡ s - 1). ne (omega (arith, f, l)) in rw get_or-set_other (sym (other (suc k) ne))

abbrev pub zeros : ℕ → List ℕ
zeros zero = []
zeros (suc n) = 0 ∷ zeros n

pub zeros-get_or : (n k : ℕ) → get_or (zeros n) k 0 ≡ 0
zeros-get_or zero k = refl
zeros-get_or (suc n) zero = refl
zeros-get_or (suc n) (suc k) = zeros-get_or n k

length-zeros : (n : ℕ) → length (zeros n) ≡ n
length-zeros zero = refl
length-zeros (suc n) = ap suc (length-zeros n)

-- the coordinates of e(s)
pub simple-coordinates : (n s : ℕ) → 1 ≤ s → s ≤ n → vector_of (set (zeros n) (s - 1) 1) ≡ simple_root s
simple-coordinates n s l h =
    vector_of-set (zeros n) s 1 l (omega (arith, h, length-zeros n)) (simple_root s) (simple_root-self s) other
  where
    all_zero : (i : ℕ) → vector_of (zeros n) i ≡ pos 0
    all_zero zero = vector_of-zero (zeros n)
    all_zero (suc k) = vector_of-letter (zeros n) (suc k) (omega arith) ∙ ap pos (zeros-get_or n (suc k - 1))

    other : (i : ℕ) → (i ≡ s → ⊥) → simple_root s i ≡ vector_of (zeros n) i
    other i ne = simple_root-other s i ne ∙ sym (all_zero i)

-- which are 0 and 1
pub simple-coordinates_small : (xs : List ℕ) (s k : ℕ) → vector_of xs ≡ simple_root s → get_or xs k 0 ≤ 1
unfolding vector_of
simple-coordinates_small xs s k e =
    let there : pos (get_or xs k 0) ≡ simple_root s (suc k) = ap (λ (v : Vector). v (suc k)) e
    in ⊎_elim (λ (own : suc k ≡ s). omega (arith, ints, there, simple_root-self s, ap (simple_root s) own))
    (λ (other : suc k ≡ s → ⊥). omega (arith, ints, there, simple_root-other s (suc k) other)) (cases_eq (suc k) s)

-- one more term of the sum of a loop over the letters
pub nat_sum_to-next : (t sum size x : ℕ) (f : ℕ → ℕ) → 1 ≤ t → sum ≡ nat_sum_to (t - 1) f → size * x ≡ f t
    → sum + size * x ≡ nat_sum_to (t + 1 - 1) f
unfolding nat_sum_to
nat_sum_to-next zero sum size x f l e h = absurd (omega (arith, l))
nat_sum_to-next (suc t) sum size x f l e h =
    let place : suc t + 1 - 1 ≡ suc t = omega arith
    in let before : suc t - 1 ≡ t = omega arith
    in let start : sum ≡ nat_sum_to t f = rw before at e
    in rw place (ap₂ (λ (a b : ℕ). a + b) start h)

pub nat_sum_to-bound : (t sum size x : ℕ) → 1 ≤ t → sum ≤ (t - 1) * 196605 → size ≤ 3 → x ≤ 65535
    → sum + size * x ≤ (t + 1 - 1) * 196605
nat_sum_to-bound t sum size x l h a b = omega (arith, l, h, mul-le-mul_right x a, b)

pub nat_sum_to-all : (kind : Kind) (A : IntegerMatrix) (s : ℕ) (xs : List ℕ) (m sum : ℕ) → m ≡ A.rank
    → sum ≡ nat_sum_to m (λ t. nat_abs ((matrix_of_kind kind A).entry s t) * get_or xs (t - 1) 0)
    → sum ≡ weight (matrix_of_kind kind A) s xs
unfolding weight
nat_sum_to-all OfRoot A s xs m sum all e = rw (← all) e
nat_sum_to-all OfCoroot A s xs m sum all e = rw (← all) e

-- ---- the pairing, by the weight

difference : (x w : ℕ) → 3 * x ≤ w → pos x -ℤ ((pos (4 * x) -ℤ pos w) *ℤ pos 1) ≡ pos (w - 3 * x)
difference x w h = rw (times_one (pos (4 * x) -ℤ pos w)) (omega (arith, ints, h))

pair_sizes : {a b : ℤ} → IsAdmissiblePair a b → (a ≡ neg_ℤ (pos (nat_abs a))) × (b ≡ neg_ℤ (pos (nat_abs b)))
pair_sizes two = (refl, refl)
pair_sizes three = (refl, refl)
pair_sizes four = (refl, refl)
pair_sizes back_four = (refl, refl)
pair_sizes six = (refl, refl)
pair_sizes back_six = (refl, refl)
pair_sizes infinity = (refl, refl)

-- x if the letter s is at most n, else 0
counted : ℕ → ℕ → ℕ → ℕ
counted n s x = ⊎_elim (λ _. 0) (λ _. x) (cases_lt n s)

counted-above : (n s x : ℕ) → n < s → counted n s x ≡ 0
unfolding counted
counted-above n s x l = go (cases_lt n s)
  where
    go : (c : (n < s) ⊎ (s ≤ n)) → ⊎_elim (λ _. 0) (λ _. x) c ≡ 0
    go (inl h) = refl
    go (inr h) = absurd (omega (arith, l, h))

counted-within : (n s x : ℕ) → s ≤ n → counted n s x ≡ x
unfolding counted
counted-within n s x l = go (cases_lt n s)
  where
    go : (c : (n < s) ⊎ (s ≤ n)) → ⊎_elim (λ _. 0) (λ _. x) c ≡ x
    go (inl h) = absurd (omega (arith, l, h))
    go (inr h) = refl

counted-next : (n s x : ℕ) → (suc n ≡ s → ⊥) → counted (suc n) s x ≡ counted n s x
counted-next n s x ne =
    ⊎_elim (λ (l : n < s). counted-above (suc n) s x (omega (arith, l, ne)) ∙ sym (counted-above n s x l))
    (λ (l : s ≤ n). counted-within (suc n) s x (omega (arith, l)) ∙ sym (counted-within n s x l)) (cases_lt n s)

product_sizes : (m y : ℕ) → neg_ℤ (pos m) *ℤ pos y ≡ neg_ℤ (pos (m * y))
product_sizes m y = let e : pos m *ℤ pos y ≡ pos (m * y) = omega (arith, ints) in neg_mul (pos m) (pos y) ∙ ap neg_ℤ e

module _ (A : IntegerMatrix) (g : IsAdmissible A) where
  entry-size : (s t : ℕ) → IsLetter A.rank s → IsLetter A.rank t → (t ≡ s → ⊥) → A.entry s t ≡ neg_ℤ (pos (nat_abs (A.entry s t)))
  entry-size s t ls lt ne =
      ⊎_elim (λ (e : s ≡ t). absurd (ne (sym e)))
      (⊎_elim (λ l. (pair_sizes (g.pairs s t ls lt l)).0) (λ l. (pair_sizes (g.pairs t s lt ls l)).1))
      (cases_order s t)

  sums : (s : ℕ) (xs : List ℕ) → IsLetter A.rank s → (n : ℕ) → n ≤ A.rank
      → sum_to n (λ t. A.entry s t *ℤ vector_of xs t)
      ≡ pos (4 * counted n s (get_or xs (s - 1) 0)) -ℤ pos (nat_sum_to n (λ t. nat_abs (A.entry s t) * get_or xs (t - 1) 0))
  unfolding sum_to nat_sum_to
  sums s xs ls zero h = rw (counted-above 0 s (get_or xs (s - 1) 0) (omega (arith, ls.from_one))) refl
  sums s xs ls (suc n) h = ⊎_elim (own (sums s xs ls n (omega arith))) (other (sums s xs ls n (omega arith))) (cases_eq (suc n) s)
    where
      y : ℕ
      y = get_or xs (suc n - 1) 0

      at_n : vector_of xs (suc n) ≡ pos (get_or xs (suc n - 1) 0)
      at_n = vector_of-letter xs (suc n) (omega arith)

      S : ℤ
      S = sum_to n (λ t. A.entry s t *ℤ vector_of xs t)

      W : ℕ
      W = nat_sum_to n (λ t. nat_abs (A.entry s t) * get_or xs (t - 1) 0)

      own : S ≡ pos (4 * counted n s (get_or xs (s - 1) 0)) -ℤ pos W → suc n ≡ s
          → S +ℤ (A.entry s (suc n) *ℤ vector_of xs (suc n))
          ≡ pos (4 * counted (suc n) s (get_or xs (s - 1) 0)) -ℤ pos (W + nat_abs (A.entry s (suc n)) * get_or xs (suc n - 1) 0)
      own before e =
          let two_there : A.entry s (suc n) ≡ pos 2 = rw e (g.diagonal s ls)
          in let same : get_or xs (suc n - 1) 0 ≡ get_or xs (s - 1) 0 = ap (λ (k : ℕ). get_or xs (k - 1) 0) e
          in rw (
            two_there,
            at_n,
            same,
            counted-within (suc n) s (get_or xs (s - 1) 0) (omega (arith, e)),
            before,
            counted-above n s (get_or xs (s - 1) 0) (omega (arith, e)),
          )
          (omega (arith, ints))

      other : S ≡ pos (4 * counted n s (get_or xs (s - 1) 0)) -ℤ pos W → (suc n ≡ s → ⊥)
          → S +ℤ (A.entry s (suc n) *ℤ vector_of xs (suc n))
          ≡ pos (4 * counted (suc n) s (get_or xs (s - 1) 0)) -ℤ pos (W + nat_abs (A.entry s (suc n)) * get_or xs (suc n - 1) 0)
      other before ne =
          let entry_there = entry-size s (suc n) ls (record { from_one = omega arith; to_rank = h }) ne
          in let product : A.entry s (suc n) *ℤ vector_of xs (suc n) ≡ neg_ℤ (pos (nat_abs (A.entry s (suc n)) * get_or xs (suc n - 1) 0))
          = ap₂ (λ (a b : ℤ). a *ℤ b) entry_there at_n ∙ product_sizes (nat_abs (A.entry s (suc n))) (get_or xs (suc n - 1) 0)
          in rw (product, before, counted-next n s (get_or xs (s - 1) 0) ne) (omega (arith, ints))

  pub pairing-weight : (s : ℕ) (xs : List ℕ) → IsLetter A.rank s
      → pairing A s (vector_of xs) ≡ pos (4 * get_or xs (s - 1) 0) -ℤ pos (weight A s xs)
  unfolding pairing weight
  pairing-weight s xs ls =
      sums s xs ls A.rank (omega arith)
      ∙ ap (λ (m : ℕ). pos (4 * m) -ℤ pos (nat_sum_to A.rank (λ t. nat_abs (A.entry s t) * get_or xs (t - 1) 0)))
      (counted-within A.rank s (get_or xs (s - 1) 0) ls.to_rank)

  -- the coordinates of the image under s
  pub turned-coordinates : (s : ℕ) (xs : List ℕ) → IsLetter A.rank s → A.rank ≤ length xs → CanTurn A s xs
      → vector_of (set xs (s - 1) (weight A s xs - 3 * get_or xs (s - 1) 0)) ≡ reflect A s (vector_of xs)
  unfolding reflect minus_multiple
  turned-coordinates s xs ls h c =
      vector_of-set xs s (weight A s xs - 3 * get_or xs (s - 1) 0) ls.from_one (omega (arith, ls.to_rank, h)) (reflect A s (vector_of xs))
      own
      (λ i ne. reflect-other A s (vector_of xs) i ne)
    where
      own : reflect A s (vector_of xs) s ≡ pos (weight A s xs - 3 * get_or xs (s - 1) 0)
      own =
          rw (simple_root-self s, pairing-weight s xs ls, vector_of-letter xs s ls.from_one)
          (difference (get_or xs (s - 1) 0) (weight A s xs) c.positive)
