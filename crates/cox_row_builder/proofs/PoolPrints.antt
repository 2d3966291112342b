-- Fingerprints of the polynomials of a pool: what they tell, and one more.
use Rattle.std.proofs.Common.{◌≡◌, ◌≢◌, ℕ, ◌/◌, ◌^◌, ◌<◌, List, [], ◌∷◌, ◌++◌, length, take, ℤ, Result, Ok, Err, sym, ap, ◌∙◌}
use Rattle.std.proofs.Common.{⊎_elim, arith}
use Rattle.std.specs.Result.{OnOk, OnErr}
use Rattle.std.specs.declared.alloc.AllocError.{AllocError}
use Rattle.std.proofs.lemmas.List.{get_or-take, length-take}
use Rattle.cox_lemmas.proofs.PushedItems.{push-length, push-old, push-new, push_cases}
use Rattle.cox_poly.specs.Polynomial.{SameCoefficients}
use Rattle.cox_poly.proofs.Fingerprints.{fingerprint-same}
use Rattle.cox_row.specs.Rising.{number_at}
use Rattle.cox_row.specs.Polynomials.{polynomial_at}
use Rattle.cox_row_builder.specs.Prints.{print_of, ArePrints}

-- equal polynomials have one fingerprint
pub print-same : (p r : List ℤ) → SameCoefficients p r → print_of p ≡ print_of r
print-same p r same = ap (λ n. n / 2 ^ 32) (fingerprint-same p r same)

-- where it differs the polynomial does
pub other-print : (pool : List (List ℤ)) (prints : List ℕ) (sums : List ℤ) (print j : ℕ) → ArePrints pool prints → print ≡ print_of sums
    → j < length pool → number_at prints j ≢ print → SameCoefficients (polynomial_at pool j) sums → ⊥
other-print pool prints sums print j are is l differs same =
    differs (are.each j l ∙ print-same (polynomial_at pool j) sums same ∙ sym is)

module _ (pool : List (List ℤ)) (prints : List ℕ) (are : ArePrints pool prints) (print : ℕ) where
  cut-size : length (take (length pool) prints) ≡ length pool
  cut-size = omega (arith, length-take (length pool) prints, are.size)

  cut-at : (j : ℕ) → j < length pool → number_at (take (length pool) prints ++ print ∷ []) j ≡ print_of (polynomial_at pool j)
  cut-at j l = push-old (take (length pool) prints) print 0 j (omega (arith, l, cut-size))
      ∙ get_or-take (length pool) prints j 0 l ∙ are.each j l

  prints-cut : ArePrints pool (take (length pool) prints ++ print ∷ [])
  prints-cut = record {
    size = omega (arith, push-length (take (length pool) prints) print, cut-size);
    each = cut-at;
  }

  prints-more : (p : List ℤ) → print ≡ print_of p → ArePrints (pool ++ p ∷ []) (take (length pool) prints ++ print ∷ [])
  prints-more p is = record {
    size = omega (arith, push-length (take (length pool) prints) print, cut-size, push-length pool p);
    each = λ j l. ⊎_elim
        (λ (old : j < length pool). rw (push-old pool p [] j old) (cut-at j old))
        (λ (last : j ≡ length pool). rw (push-new pool p [] j last)
        (push-new (take (length pool) prints) print 0 j (omega (arith, last, cut-size)) ∙ is))
        (push_cases pool p j l);
  }

  -- the polynomial was put behind the others, or was not
  pub prints-pushed : (new : List (List ℤ)) (p : List ℤ) (result : Result Unit AllocError) → print ≡ print_of p
      → OnOk result (new ≡ pool ++ p ∷ []) → OnErr result (new ≡ pool) → ArePrints new (take (length pool) prints ++ print ∷ [])
  prints-pushed new p (Ok done) is pushed kept = rw pushed (prints-more p is)
  prints-pushed new p (Err fault) is pushed kept = rw kept prints-cut
