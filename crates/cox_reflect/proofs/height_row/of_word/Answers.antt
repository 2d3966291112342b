-- A letter is put before a word of fewer letters; after the last one it is the whole word.
use Rattle.std.proofs.Common.{reverse, map, arith}
use Rattle.std.proofs.lemmas.Bool.{false≢true}
use Rattle.std.proofs.lemmas.List.{reverse-reverse}
use Rattle.std.proofs.lemmas.Iterator.Adapters.{YieldsList-from_rev_slice}
use Rattle.std.proofs.lemmas.Iterator.Consumers.{YieldsList-turn, YieldsList-end}
use Rattle.cox_base.specs.IntegerMatrix.{integer_matrix}
use Rattle.cox_reflect.proofs.Admissible.{IsAdmissible-integer_matrix}
use Rattle.cox_reflect.proofs.BackwardTurns.{reverse-map_push, turn-letter, turn-length}
use Rattle.cox_reflect.proofs.HeightsUnderLetters.{AreShortWith-word}
use Rattle.cox_reflect.proofs.height_row.of_word.Goals as goal

pub loop-s-init : goal.loop-s-init
loop-s-init g c =
    c.of_identity-heights.ensures (integer_matrix c.args.g.now) (omega (arith, c.rank.ensures.limit, c.rank.ensures.rank))

pub put_first-requires : goal.put_first-requires
put_first-requires g c =
    let turn = YieldsList-turn (YieldsList-from_rev_slice c.args.w.now cc) c.loop-s.yielded _ c.loop-s.yielded_by _ _
    c.in-Some.field-0 c.in-Some.is c.next.ensures.steps
    in record { letter = turn-letter c.args.g.now.rank _ c.in-Some.field-0.now c.args.w.now c.requires.letters turn }

pub returns-in_err-put_first-clause-sure : goal.returns-in_err-put_first-clause-sure
returns-in_err-put_first-clause-sure g c = λ few.
    let turn = YieldsList-turn (YieldsList-from_rev_slice c.args.w.now cc) c.loop-s.yielded _ c.loop-s.yielded_by _ _
    c.in-Some.field-0 c.in-Some.is c.next.ensures.steps
    in let short = AreShortWith-word (integer_matrix c.args.g.now) (IsAdmissible-integer_matrix c.args.g.now c.rank.ensures.matrix)
    g.H.HeightRow.sure (reverse (map (λ x. x.now) c.loop-s.yielded)) c.in-Some.field-0.now (g.H.HeightRow.values c.loop-s.heights)
    (omega (arith, few, turn-length (λ x. x.now) c.loop-s.yielded c.args.w.now turn.0)) c.loop-s.invariant
    in absurd (false≢true (c.in_err-put_first.ensures.sure short))

pub returns-clause-heights : goal.returns-clause-heights
returns-clause-heights g c =
    let end = YieldsList-end (YieldsList-from_rev_slice c.args.w.now cc) c.loop-s.yielded _ c.loop-s.yielded_by _ _ c.in-None.is
    c.next.ensures.steps
    in rw (end.0, reverse-reverse c.args.w.now) at c.loop-s.invariant

pub loop-s-preserved : goal.loop-s-preserved
loop-s-preserved g c = rw (reverse-map_push (λ x. x.now) c.loop-s.yielded c.in-Some.field-0)
    (c.in_ok-put_first.ensures.heights (reverse (map (λ x. x.now) c.loop-s.yielded)) c.loop-s.invariant)
