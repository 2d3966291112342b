-- Polynomials as lists of so many coefficients: (q - 1) f + q h, one by one and without overflow; and the values of links.
use Rattle.std.proofs.Common.{◌≡◌, ℕ, zero, suc, ◌+◌, ◌-◌, ◌^◌, ◌<◌, ◌≤◌, List, [], ◌∷◌, ◌++◌, length, take, get_or, set, replicate, ℤ, pos}
use Rattle.std.proofs.Common.{◌+ℤ◌, ◌-ℤ◌, unsigned_abs, FitsSigned, w64, refl, ap, sym, ◌∙◌, ⊎_elim, arith, lit<}
use Rattle.std.proofs.lemmas.Bool.{cases_lt, cases_eq}
use Rattle.std.proofs.lemmas.Int.{ints, fits_signed_from_abs}
use Rattle.std.proofs.lemmas.List.{get_or-set_same, get_or-set_other, length-set, length-append, get_or_append_left, take_more}
use Rattle.std.proofs.lemmas.List.{length-replicate, get_or-replicate}
use Rattle.std.proofs.Math.Seq.{get_or-append_seam}
use Rattle.cox_poly.specs.Coefficients.{one_polynomial, plus, times_q, times_q_less_one}
use Rattle.cox_poly.specs.Polynomial.{coefficient}
use Rattle.cox_poly.proofs.Polynomials.{coefficient_past, coefficient-zeros}
use Rattle.cox_rpoly.specs.declared.TheConstants.{MAX_DIFFERENCE}
use Rattle.cox_rpoly.specs.declared.terms.Link.{Link}
use Rattle.cox_rpoly.specs.Terms.{numbered, linked_value, AreLinkedValues, AreOnes}

pub coefficient-one : (k : ℕ) → coefficient (set (replicate (MAX_DIFFERENCE + 1) (pos 0)) 0 (pos 1)) k ≡ one_polynomial k
coefficient-one zero = get_or-set_same (replicate (MAX_DIFFERENCE + 1) (pos 0)) 0 (pos 1) (pos 0) (lit< tt)
coefficient-one (suc k) = let ne : suc k ≡ 0 → ⊥ = omega arith in get_or-set_other (replicate (MAX_DIFFERENCE + 1) (pos 0)) 0 (suc k)
    (pos 1) (pos 0) ne ∙ coefficient-zeros (MAX_DIFFERENCE + 1) (suc k)

-- the first n coefficients of (q - 1) f + q h are there
pub record IsCombined (f h terms : List ℤ) (n : ℕ) : Type 0 where
  pub size : length terms ≡ MAX_DIFFERENCE + 1
  pub done : (k : ℕ) → k < n → coefficient terms k ≡ plus (times_q_less_one (coefficient f)) (times_q (coefficient h)) k

pub IsCombined-more : (f h terms : List ℤ) (n : ℕ) (v : ℤ) → IsCombined f h terms n → 0 < n → n < MAX_DIFFERENCE + 1
    → v ≡ (coefficient f (n - 1) -ℤ coefficient f n) +ℤ coefficient h (n - 1) → IsCombined f h (set terms n v) (n + 1)
IsCombined-more f h terms zero v c some low e = absurd (omega arith)
IsCombined-more f h terms (suc m) v c some low e = record {
  size = length-set terms (suc m) v ∙ c.size;
  done = λ k below. ⊎_elim (λ (l : k < suc m). before k l) (λ (l : suc m ≤ k). here k (omega arith)) (cases_lt k (suc m));
}
  where
    before : (k : ℕ) → k < suc m → coefficient (set terms (suc m) v) k ≡ plus (times_q_less_one (coefficient f)) (times_q (coefficient h)) k
    before k l = let ne : k ≡ suc m → ⊥ = omega arith in get_or-set_other terms (suc m) k v (pos 0) ne ∙ c.done k l

    here : (k : ℕ) → k ≡ suc m → coefficient (set terms (suc m) v) k ≡ plus (times_q_less_one (coefficient f)) (times_q (coefficient h)) k
    here k is = let back : suc m - 1
        ≡ m = omega arith in rw is (get_or-set_same terms (suc m) v (pos 0) (omega (arith, low, c.size)) ∙ (rw back at e))

-- all of them
pub IsCombined-all : (f h terms : List ℤ) → length f ≡ MAX_DIFFERENCE + 1 → length h ≡ MAX_DIFFERENCE + 1 → coefficient f MAX_DIFFERENCE
    ≡ pos 0 → coefficient h MAX_DIFFERENCE ≡ pos 0 → IsCombined f h terms (MAX_DIFFERENCE + 1)
    → (k : ℕ) → coefficient terms k ≡ plus (times_q_less_one (coefficient f)) (times_q (coefficient h)) k
IsCombined-all f h terms size_f size_h top_f top_h c k = ⊎_elim (λ (l : k < MAX_DIFFERENCE + 1). c.done k l)
    (λ (l : MAX_DIFFERENCE + 1 ≤ k). past k l) (cases_lt k (MAX_DIFFERENCE + 1))
  where
    none : (p : List ℤ) → length p ≡ MAX_DIFFERENCE + 1 → coefficient p MAX_DIFFERENCE ≡ pos 0 → (j : ℕ) → MAX_DIFFERENCE ≤ j
        → coefficient p j ≡ pos 0
    none p size top j l = ⊎_elim (λ (e : j ≡ MAX_DIFFERENCE). rw e top)
        (λ (ne : j ≡ MAX_DIFFERENCE → ⊥). coefficient_past p j (omega (arith, size, l, ne))) (cases_eq j MAX_DIFFERENCE)

    past : (k : ℕ) → MAX_DIFFERENCE + 1 ≤ k → coefficient terms k ≡ plus (times_q_less_one (coefficient f)) (times_q (coefficient h)) k
    past zero l = absurd (omega arith)
    past (suc j) l =
        rw (none f size_f top_f j (omega arith), none f size_f top_f (suc j) (omega arith), none h size_h top_h j (omega arith))
        (coefficient_past terms (suc j) (omega (arith, l, c.size)))

-- with coefficients of 61 bits no step on the way needs more than 64
pub difference_fits : (f h : List ℤ) (j k : ℕ) → ((i : ℕ) → unsigned_abs (coefficient f i) ≤ 2 ^ 61)
    → FitsSigned w64 (coefficient f j -ℤ coefficient f k)
difference_fits f h j k small = fits_signed_from_abs w64 (coefficient f j -ℤ coefficient f k) (omega (arith, ints, small j, small k))

pub difference_sum_fits : (f h : List ℤ) (j k : ℕ) → ((i : ℕ) → unsigned_abs (coefficient f i) ≤ 2 ^ 61)
    → ((i : ℕ) → unsigned_abs (coefficient h i) ≤ 2 ^ 61)
    → FitsSigned w64 ((coefficient f j -ℤ coefficient f k) +ℤ coefficient h j)
difference_sum_fits f h j k small_f small_h = fits_signed_from_abs w64 ((coefficient f j -ℤ coefficient f k) +ℤ coefficient h j)
    (omega (arith, ints, small_f j, small_f k, small_h j))

-- ---- the values of links, one more

AreLinkedValues-push : (links : List Link) (next values : List (List ℤ)) (l : Link) (p : List ℤ) → AreLinkedValues links next values
    → ((k : ℕ) → coefficient p k ≡ linked_value next l k) → AreLinkedValues (links ++ l ∷ []) next (values ++ p ∷ [])
AreLinkedValues-push links next values l p are here = record {
  count = omega (arith, are.count, length-append links (l ∷ []), length-append values (p ∷ []));
  each = λ i m k below.
      ⊎_elim (before i m k) (λ (le : length links ≤ i). last i m k (omega (arith, le, below, length-append links (l ∷ []))))
      (cases_lt i (length links));
}
  where
    before : (i : ℕ) (m : Link) (k : ℕ) → i < length links → coefficient (numbered (values ++ p ∷ []) i) k
        ≡ linked_value next (get_or (links ++ l ∷ []) i m) k
    before i m k less =
        let inside : i < length values = omega (arith, less, are.count)
        in rw (get_or_append_left values (p ∷ []) [] i inside, get_or_append_left links (l ∷ []) m i less) (are.each i m k less)

    last : (i : ℕ) (m : Link) (k : ℕ) → i ≡ length links → coefficient (numbered (values ++ p ∷ []) i) k
        ≡ linked_value next (get_or (links ++ l ∷ []) i m) k
    last i m k is =
        let also : i ≡ length values = is ∙ sym are.count
        in let first = ap (λ (j : ℕ). get_or (values ++ p ∷ []) j []) also ∙ get_or-append_seam values p [] []
        in let second = ap (λ (j : ℕ). get_or (links ++ l ∷ []) j m) is ∙ get_or-append_seam links l [] m
        in rw (first, second) (here k)

-- a turn of the loop over links
pub AreLinkedValues-more : (links : List Link) (next values : List (List ℤ)) (n : ℕ) (d : Link) (p : List ℤ) → n < length links
    → AreLinkedValues (take n links) next values → ((k : ℕ) → coefficient p k ≡ linked_value next (get_or links n d) k)
    → AreLinkedValues (take (n + 1) links) next (values ++ p ∷ [])
AreLinkedValues-more links next values n d p inside are here =
    rw (take_more links n d inside) (AreLinkedValues-push (take n links) next values (get_or links n d) p are here)

-- ---- so many polynomials 1

take-none : (n : ℕ) → take {A = List ℤ} n [] ≡ []
take-none zero = refl
take-none (suc n) = refl

pub AreOnes-filled : (n m : ℕ) (old values : List (List ℤ)) (p : List ℤ) → old ≡ [] → m ≡ 0 → values ≡ take n old ++ replicate (n - m) p
    → ((k : ℕ) → coefficient p k ≡ one_polynomial k) → AreOnes n values
AreOnes-filled n m old values p none start filled one =
    let left : n - m ≡ n = omega arith
    in let all : values ≡ replicate n p = filled ∙ rw (none, take-none n, left) refl
    in rw all (record {
      count = length-replicate n p;
      each = λ i k below. rw (get_or-replicate n i p [] below) (one k);
    })
