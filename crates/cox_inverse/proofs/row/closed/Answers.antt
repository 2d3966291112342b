-- The coefficient above the limit is that of the sums.
use Rattle.std.proofs.Common.{◌≡◌, ℕ, zero, suc, ◌<◌, List, ℤ, pos, refl, FitsSigned, w64, rules, arith}
use Rattle.std.specs.Prelude.{unsigned_abs}
use Rattle.std.specs.Int.{w128}
use Rattle.std.proofs.lemmas.Int.{by_lt_z, to_z-of_z}
use Rattle.cox_poly.specs.declared.polynomial.Poly.{Poly}
use Rattle.cox_poly.proofs.Limits.{one_fault}
use Rattle.cox_poly.specs.Limit.{IsWithin, AllWithin, IsFirstAbove}
use Rattle.cox_poly.specs.Polynomial.{coefficient}
use Rattle.cox_inverse.proofs.row.closed.Goals as goal

-- where none is the first coefficient above the limit, none is above it
below_within : (limit : ℤ) (p : List ℤ) → ((d : ℕ) (v : ℤ) → IsFirstAbove limit p d v → ⊥) → (n k : ℕ) → k < n
    → IsWithin limit (coefficient p k)
below_within limit p none zero k l = absurd (omega (arith, l))
below_within limit p none (suc n) k l = by_lt_z limit (pos (unsigned_abs (coefficient p k)))
    (λ above. absurd (none k (coefficient p k) (record {
      value = refl;
      above = above;
      least = λ j less. below_within limit p none n j (omega (arith, less, l));
    })))
    (λ within. within)

none_above : (limit : ℤ) (p : List ℤ) → ((d : ℕ) (v : ℤ) → IsFirstAbove limit p d v → ⊥) → AllWithin limit p
none_above limit p none = λ k. below_within limit p none (suc k) k (omega arith)

pub returns-in-Err-TooBig-clause-too_big : goal.returns-in-Err-TooBig-clause-too_big
returns-in-Err-TooBig-clause-too_big c = λ d v.
    let fits : FitsSigned w128 c.in-Err-TooBig.value = search rules
    in let first = rw (to_z-of_z w64 c.args.limit c.ranges.limit) at
    ((c.close.ensures.too_big c.in-Err-TooBig.degree c.in-Err-TooBig.value).0 (cc (c.in-Err-TooBig.is, c.in-Err-TooBig.field-0-is)))
    in let same = one_fault {X = Poly} c.args.limit c.args.sums.now c.in-Err-TooBig.degree c.in-Err-TooBig.value first d v
    in rw (to_z-of_z w128 c.in-Err-TooBig.value fits) (
      λ e. let x : c.in-Err-TooBig.degree ≡ d = cc in let y : c.in-Err-TooBig.value ≡ v = cc in rw (← x, ← y) first,
      λ b. let told = same.1 b in cc,
    )

pub returns-in-Err-TooBig-clause-fault : goal.returns-in-Err-TooBig-clause-fault
returns-in-Err-TooBig-clause-fault c =
    let fits : FitsSigned w128 c.in-Err-TooBig.value = search rules
    in (
      refl,
      rw (to_z-of_z w128 c.in-Err-TooBig.value fits) (rw (to_z-of_z w64 c.args.limit c.ranges.limit) at
          ((c.close.ensures.too_big c.in-Err-TooBig.degree c.in-Err-TooBig.value).0 (cc (c.in-Err-TooBig.is, c.in-Err-TooBig.field-0-is)))),
    )

pub returns-in-Err-NoMemory-clause-fault : goal.returns-in-Err-NoMemory-clause-fault
returns-in-Err-NoMemory-clause-fault c =
    let none : (d : ℕ) (v : ℤ) → IsFirstAbove c.args.limit c.args.sums.now d v → ⊥
    = λ d v b. let told = (rw (to_z-of_z w64 c.args.limit c.ranges.limit) at (c.close.ensures.too_big d v)).1 b in absurd (cc)
    in none_above c.args.limit c.args.sums.now none
