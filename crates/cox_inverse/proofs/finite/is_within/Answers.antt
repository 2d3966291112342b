-- What is within the greatest one is within a limit that is not less.
use Rattle.std.proofs.Common.{◌≡◌, ℕ, List, ℤ, pos, true, Option, Some, None, w64, subst, arith}
use Rattle.std.specs.Prelude.{IfSome, is_some, ◌<ℤ◌, unsigned_abs}
use Rattle.std.specs.Prelude.{◌≤ℤ◌}
use Rattle.std.proofs.lemmas.Int.{ints, to_z-of_z}
use Rattle.cox_poly.specs.Polynomial.{coefficient}
use Rattle.cox_row.specs.Polynomials.{polynomial_at}
use Rattle.cox_row.specs.RowOf.{pool_of}
use Rattle.cox_inverse.proofs.FirstPairs.{at_most}
use Rattle.cox_inverse.proofs.finite.is_within.Goals as goal

pub returns-then-greatest-limit-clause-small : goal.returns-then-greatest-limit-clause-small
returns-then-greatest-limit-clause-small c = λ yes j l k.
    let least : c.args.greatest ≤ℤ c.args.limit = at_most c.args.greatest c.args.limit
    (rw (to_z-of_z w64 c.args.greatest c.ranges.greatest, to_z-of_z w64 c.args.limit c.ranges.limit) at c.if-greatest-limit.true)
    in let small = c.requires.within.coefficients j l k
    in omega (arith, ints, small, least)

-- what a value that is there has
found : (P : ℕ → Type 0) (o : Option ℕ) → is_some o ≡ true → IfSome o P → (d : ℕ) × P d
found P (Some d) is h = (d, h)
found P None is h = absurd (cc)

moved : (m limit : ℤ) (p q : List ℤ) (d : ℕ) → m ≡ limit → p ≡ q → m <ℤ pos (unsigned_abs (coefficient p d))
    → limit <ℤ pos (unsigned_abs (coefficient q d))
moved m limit p q d e f h = subst (λ x. x <ℤ pos (unsigned_abs (coefficient q d))) e
    (subst (λ r. m <ℤ pos (unsigned_abs (coefficient r d))) f h)

pub returns-then-is_some-clause-large : goal.returns-then-is_some-clause-large
returns-then-is_some-clause-large c = λ no.
    let some : is_some c.large_degree.result ≡ true = cc in
    let one = found _ c.large_degree.result some c.large_degree.ensures.some
    in let same : c.at.result ≡ polynomial_at (pool_of c.args.row.now) c.loop-k.k = cc
    in record {
      place = c.loop-k.k;
      within = omega (arith, rw c.pool.ensures at c.len-k-end.ensures);
      degree = one.0;
      above = moved _ _ _ _ one.0 (to_z-of_z w64 c.args.limit c.ranges.limit) same one.1.above;
    }
