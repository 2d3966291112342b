-- The lesser of the least so far and the next member.
use Rattle.std.proofs.Common.{◌≡◌, ℕ, ◌<◌, min, List, get_or, length, Contains, ⊎_elim, subst, below_more, arith}
use Rattle.std.proofs.lemmas.Bool.{cases_lt}
use Rattle.std.proofs.lemmas.List.Elements.{Contains-get_or}
use Rattle.cox_scc.proofs.search.least_of.Goals as goal

lesser_member : (xs : List ℕ) (least i x : ℕ) → Contains xs least → i < length xs → x ≡ min least (get_or xs i 0) → Contains xs x
lesser_member xs least i x found within is = ⊎_elim
    (λ lt. let same : least ≡ x = omega arith in subst (Contains xs) same found)
    (λ ge. let same : get_or xs i 0 ≡ x = omega arith in subst (Contains xs) same (Contains-get_or xs i 0 within))
    (cases_lt least (get_or xs i 0))

pub loop-member-preserved : goal.loop-member-preserved
loop-member-preserved c =
    let i = c.loop-member.invariant in record {
      member = lesser_member _ _ _ _ i.member c.loop-member-test.true c.min-least.ensures;
      least = below_more _ _ (λ k lt. omega (arith, i.least k lt, c.min-least.ensures)) (omega (arith, c.min-least.ensures));
    }
