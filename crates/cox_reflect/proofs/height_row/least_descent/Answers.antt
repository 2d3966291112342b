-- The first letter with a negative height is the least left descent; where there is none, there is no descent.
use Rattle.std.proofs.Common.{arith}
use Rattle.cox_reflect.proofs.HeightsUnderLetters.{descent_from_heights, descents_from}
use Rattle.cox_reflect.proofs.Roots.{left_descent-letter}
use Rattle.cox_reflect.proofs.height_row.least_descent.Goals as goal

pub returns-then-is_negative-clause-least : goal.returns-then-is_negative-clause-least
returns-then-is_negative-clause-least g c = λ A u p e a. record {
  descent = descent_from_heights A p u (g.H.HeightRow.values c.args.heights.now) c.loop-s.s a
      (record { from_one = omega arith; to_rank = omega (arith, e) })
      (c.is_negative.ensures.0 c.if-is_negative.true);
  least = descents_from A p u (g.H.HeightRow.values c.args.heights.now) c.loop-s.s a c.loop-s.invariant;
}

pub returns-clause-least : goal.returns-clause-least
returns-clause-least g c = λ A u p e a t d.
    omega (
      arith,
      e,
      (left_descent-letter A p u t d).to_rank,
      descents_from A p u (g.H.HeightRow.values c.args.heights.now) c.loop-s.s a
          c.loop-s.invariant t d,
    )
