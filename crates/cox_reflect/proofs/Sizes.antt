-- How large coordinates get: a letter multiplies the sum of their absolute values by 4 at most.
use Rattle.std.proofs.Common.{◌≡◌, ℕ, zero, suc, ◌+◌, ◌*◌, ◌^◌, ◌≤◌, ◌<◌, List, [], ◌∷◌, length, ℤ, ◌-ℤ◌, ◌*ℤ◌, nat_abs, refl}
use Rattle.std.proofs.Common.{sym, ⊎_elim, arith, lit≤, pow-suc, mul-le-mul_right}
use Rattle.std.proofs.lemmas.Bool.{cases_eq}
use Rattle.std.proofs.lemmas.Int.{ints, unsigned_abs-mul}
use Rattle.cox_base.specs.Matrix.{IsLetter}
use Rattle.cox_base.specs.IntegerMatrix.{IntegerMatrix}
use Rattle.cox_base.specs.Admissible.{two, three, four, back_four, six, IsAdmissible, IsAdmissiblePair, back_six, infinity}
use Rattle.cox_base.specs.Element.{sum_to}
use Rattle.cox_reflect.specs.Action.{Vector, simple_root, pairing, minus_multiple, reflect}
use Rattle.cox_reflect.specs.WordAction.{act, size}
use Rattle.cox_reflect.proofs.Sums.{letter_cases, simple_root-self, simple_root-other}
use Rattle.cox_reflect.proofs.Action.{act-nil, act-cons}
use Rattle.cox_reflect.proofs.RankTwo.{pair_of}

pub coordinate-size : (n i : ℕ) (v : Vector) → IsLetter n i → nat_abs (v i) ≤ size n v
unfolding size
coordinate-size zero i v l = absurd (omega (arith, l.from_one, l.to_rank))
coordinate-size (suc n) i v l = ⊎_elim last (before (coordinate-size n i v)) (cases_eq i (suc n))
  where
    last : i ≡ suc n → nat_abs (v i) ≤ size n v + nat_abs (v (suc n))
    last e = rw e (omega arith)

    before : (IsLetter n i → nat_abs (v i) ≤ size n v) → (i ≡ suc n → ⊥)
        → nat_abs (v i) ≤ size n v + nat_abs (v (suc n))
    before prefix ne =
        let small = prefix (record { from_one = l.from_one; to_rank = omega (arith, l.to_rank) }) in omega (arith, small)

pub size-prefix : (k n : ℕ) (v : Vector) → k ≤ n → size k v ≤ size n v
unfolding size
size-prefix k zero v l = let e : k ≡ 0 = omega arith in rw e (omega arith)
size-prefix k (suc n) v l =
    ⊎_elim (λ (e : k ≡ suc n). rw e (omega arith)) (before (size-prefix k n v)) (cases_eq k (suc n))
  where
    before : (k ≤ n → size k v ≤ size n v) → (k ≡ suc n → ⊥) → size k v ≤ size n v + nat_abs (v (suc n))
    before prefix ne = let small = prefix (omega arith) in omega (arith, small)

minus_multiple-other : (s i : ℕ) (v : Vector) (c : ℤ) → (i ≡ s → ⊥) → minus_multiple v c (simple_root s) i ≡ v i
unfolding minus_multiple
minus_multiple-other s i v c ne = rw (simple_root-other s i ne) (omega (arith, ints))

minus_multiple-self : (s : ℕ) (v : Vector) (c : ℤ) → minus_multiple v c (simple_root s) s ≡ v s -ℤ c
unfolding minus_multiple
minus_multiple-self s v c = rw (simple_root-self s) (omega (arith, ints))

size-below : (n s : ℕ) (v : Vector) (c : ℤ) → n < s → size n (minus_multiple v c (simple_root s)) ≡ size n v
unfolding size
size-below zero s v c l = refl
size-below (suc n) s v c l =
    let ne : suc n ≡ s → ⊥ = omega arith
    in rw (size-below n s v c (omega arith), minus_multiple-other s (suc n) v c ne)

pub size-minus_multiple : (n s : ℕ) (v : Vector) (c : ℤ) → size n (minus_multiple v c (simple_root s)) ≤ size n v + nat_abs c
unfolding size
size-minus_multiple zero s v c = omega arith
size-minus_multiple (suc n) s v c = ⊎_elim last (before (size-minus_multiple n s v c)) (cases_eq s (suc n))
  where
    at_last : size n (minus_multiple v c (simple_root (suc n))) + nat_abs (minus_multiple v c (simple_root (suc n)) (suc n)) ≤ size n v
        + nat_abs
        (v (suc n)) + nat_abs c
    at_last = rw (size-below n (suc n) v c (omega arith), minus_multiple-self (suc n) v c) (omega (arith, ints))

    last : s ≡ suc n
        → size n (minus_multiple v c (simple_root s)) + nat_abs (minus_multiple v c (simple_root s) (suc n)) ≤ size n v
        + nat_abs (v (suc n)) + nat_abs c
    last e = rw e at_last

    before : size n (minus_multiple v c (simple_root s)) ≤ size n v + nat_abs c → (s ≡ suc n → ⊥)
        → size n (minus_multiple v c (simple_root s)) + nat_abs (minus_multiple v c (simple_root s) (suc n)) ≤ size n v
        + nat_abs (v (suc n)) + nat_abs c
    before prefix ne = rw (minus_multiple-other s (suc n) v c (λ e. ne (sym e))) (omega (arith, prefix))

size-simple_root_below : (n s : ℕ) → n < s → size n (simple_root s) ≡ 0
unfolding size
size-simple_root_below zero s l = refl
size-simple_root_below (suc n) s l =
    let ne : suc n ≡ s → ⊥ = omega arith
    in rw (size-simple_root_below n s (omega arith), simple_root-other s (suc n) ne)

size-simple_root : (n s : ℕ) → size n (simple_root s) ≤ 1
unfolding size
size-simple_root zero s = omega arith
size-simple_root (suc n) s = ⊎_elim last (before (size-simple_root n s)) (cases_eq s (suc n))
  where
    at_last : size n (simple_root (suc n)) + nat_abs (simple_root (suc n) (suc n)) ≤ 1
    at_last = rw (size-simple_root_below n (suc n) (omega arith), simple_root-self (suc n)) (lit≤ tt)

    last : s ≡ suc n → size n (simple_root s) + nat_abs (simple_root s (suc n)) ≤ 1
    last e = rw e at_last

    before : size n (simple_root s) ≤ 1 → (s ≡ suc n → ⊥) → size n (simple_root s) + nat_abs (simple_root s (suc n)) ≤ 1
    before prefix ne = rw (simple_root-other s (suc n) (λ e. ne (sym e))) (omega (arith, prefix))

pair-small : {a b : ℤ} → IsAdmissiblePair a b → nat_abs a ≤ 3
pair-small two = lit≤ tt
pair-small three = lit≤ tt
pair-small four = lit≤ tt
pair-small back_four = lit≤ tt
pair-small six = lit≤ tt
pair-small back_six = lit≤ tt
pair-small infinity = lit≤ tt

-- a product by an entry, and a sum of such products
product-small : (a x : ℤ) → nat_abs a ≤ 3 → nat_abs (a *ℤ x) ≤ 3 * nat_abs x
product-small a x h = rw (unsigned_abs-mul a x) (mul-le-mul_right (nat_abs x) h)

module _ (A : IntegerMatrix) (g : IsAdmissible A) where
  pub entry-small : (s t : ℕ) → nat_abs (A.entry s t) ≤ 3
  entry-small s t =
      ⊎_elim (λ ls. ⊎_elim (inside ls) (λ foreign. rw (g.column_outside s t foreign) (lit≤ tt)) (letter_cases A.rank t))
      (λ foreign. rw (g.row_outside s t foreign) (lit≤ tt)) (letter_cases A.rank s)
    where
      diagonal : IsLetter A.rank t → nat_abs (A.entry t t) ≤ 3
      diagonal lt = rw (g.diagonal t lt) (lit≤ tt)

      inside : IsLetter A.rank s → IsLetter A.rank t → nat_abs (A.entry s t) ≤ 3
      inside ls lt =
          ⊎_elim (λ (e : s ≡ t). rw e (diagonal lt)) (λ ne. pair-small (pair_of A g s t ls lt ne)) (cases_eq s t)

  -- partial sums of a pairing
  pub sum_to-small : (s k : ℕ) (v : Vector) → nat_abs (sum_to k (λ t. A.entry s t *ℤ v t)) ≤ 3 * size k v
  unfolding sum_to size
  sum_to-small s zero v = omega arith
  sum_to-small s (suc k) v =
      omega (arith, ints, sum_to-small s k v, product-small (A.entry s (suc k)) (v (suc k)) (entry-small s (suc k)))

  pub pairing-small : (s : ℕ) (v : Vector) → nat_abs (pairing A s v) ≤ 3 * size A.rank v
  unfolding pairing
  pairing-small s v = sum_to-small s A.rank v

  pub size-reflect : (s : ℕ) (v : Vector) → size A.rank (reflect A s v) ≤ 4 * size A.rank v
  unfolding reflect
  size-reflect s v = omega (arith, size-minus_multiple A.rank s v (pairing A s v), pairing-small s v)

  pub size-act : (w : List ℕ) (s : ℕ) → size A.rank (act A w (simple_root s)) ≤ 4 ^ length w
  size-act [] s = rw (act-nil A (simple_root s)) (size-simple_root A.rank s)
  size-act (t ∷ w) s =
      rw (act-cons A t w (simple_root s), pow-suc 4 (length w)) (omega (arith, size-reflect t (act A w (simple_root s)), size-act w s))
