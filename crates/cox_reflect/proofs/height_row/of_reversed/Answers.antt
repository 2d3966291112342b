-- A letter is put before a word of fewer letters.
use Rattle.std.proofs.Common.{◌<◌, reverse, take, length, arith}
use Rattle.std.proofs.lemmas.Bool.{false≢true}
use Rattle.std.proofs.lemmas.List.{length-take, length-reverse}
use Rattle.cox_base.specs.IntegerMatrix.{integer_matrix}
use Rattle.cox_reflect.proofs.Admissible.{IsAdmissible-integer_matrix}
use Rattle.cox_reflect.proofs.HeightsUnderLetters.{AreShortWith-word}
use Rattle.cox_reflect.proofs.height_row.of_reversed.Goals as goal

pub loop-s-init : goal.loop-s-init
loop-s-init g c =
    c.of_identity-heights.ensures (integer_matrix c.args.g.now) (omega (arith, c.rank.ensures.limit, c.rank.ensures.rank))

pub returns-in_err-put_first-clause-sure : goal.returns-in_err-put_first-clause-sure
returns-in_err-put_first-clause-sure g c = λ few.
    let less : length (reverse (take c.loop-s.s-index c.args.w.now)) < g.H.HeightRow.sure
    = omega (arith, few, length-reverse (take c.loop-s.s-index c.args.w.now), length-take c.loop-s.s-index c.args.w.now)
    in absurd (false≢true (c.in_err-put_first.ensures.sure (AreShortWith-word (integer_matrix c.args.g.now)
    (IsAdmissible-integer_matrix c.args.g.now c.rank.ensures.matrix)
    g.H.HeightRow.sure (reverse (take c.loop-s.s-index c.args.w.now)) _ (g.H.HeightRow.values c.loop-s.heights) less c.loop-s.invariant)))
