-- Each turn replaces one height; after the last one all are those of s u. A test fails only where a number does not fit.
use Rattle.std.proofs.Common.{arith, rules, lit<, lit≤}
use mir.Syntax.{w128}
use Rattle.cox_base.specs.IntegerMatrix.{entry_of}
use Rattle.cox_reflect.proofs.Computed.{widened}
use Rattle.cox_base.specs.Matrix.{IsLetter}
use Rattle.cox_reflect.specs.declared.wide_heights.TheConstants.{LETTERS_OF_128_BITS, LARGEST}
use Rattle.cox_reflect.proofs.HeightTurns.{own-tested, own-small, turned-tested, turned-next, turned-end}
use Rattle.cox_reflect.proofs.wide_heights.WideHeightsHeightRow.put_first.Goals as goal

pub returns-then-unsigned_abs-gt-LARGEST-clause-sure : goal.returns-then-unsigned_abs-gt-LARGEST-clause-sure
returns-then-unsigned_abs-gt-LARGEST-clause-sure c = λ short.
    own-tested c.args.g.now c.rank-rank.ensures.matrix w128 c.args.s c.args.self.now.values c.requires.letter (search rules)
    LETTERS_OF_128_BITS
    c.unsigned_abs.result LARGEST (lit≤ tt) (lit< tt) short c.unsigned_abs.ensures.value c.if-unsigned_abs-gt-LARGEST.true (lit≤ tt)

pub returns-in_err-self-clause-sure : goal.returns-in_err-self-clause-sure
returns-in_err-self-clause-sure c = λ short.
    let k : IsLetter c.args.g.now.rank c.loop-t.t = record { from_one = omega arith; to_rank = omega arith }
    in let own = own-small c.args.g.now c.rank-rank.ensures.matrix w128 c.args.s c.args.self.now.values c.requires.letter (search rules)
    c.unsigned_abs.result LARGEST c.unsigned_abs.ensures.value c.if-unsigned_abs-gt-LARGEST.false (lit< tt)
    in turned-tested c.args.g.now c.rank-rank.ensures.matrix w128 c.args.s c.args.self.now.values c.requires.letter (search rules) own
    c.loop-t.t k c.loop-t.self.values c.loop-t.invariant c.from.result
    (widened c.from.result c.entry.result (entry_of c.args.g.now c.args.s c.loop-t.t) (search rules)
    c.from.ensures c.entry.ensures.value) (search rules) (search rules)
    LETTERS_OF_128_BITS (lit≤ tt) (lit< tt) short c.in_err-self.ensures

pub loop-t-preserved : goal.loop-t-preserved
loop-t-preserved c =
    let k : IsLetter c.args.g.now.rank c.loop-t.t = record { from_one = omega arith; to_rank = omega arith }
    in let own = own-small c.args.g.now c.rank-rank.ensures.matrix w128 c.args.s c.args.self.now.values c.requires.letter (search rules)
    c.unsigned_abs.result LARGEST c.unsigned_abs.ensures.value c.if-unsigned_abs-gt-LARGEST.false (lit< tt)
    in turned-next c.args.g.now c.rank-rank.ensures.matrix w128 c.args.s c.args.self.now.values c.requires.letter (search rules) own
    c.loop-t.t k c.loop-t.self.values c.loop-t.invariant c.from.result
    (widened c.from.result c.entry.result (entry_of c.args.g.now c.args.s c.loop-t.t) (search rules)
    c.from.ensures c.entry.ensures.value) (search rules) (search rules)
    c.in_ok-self.field-0 (omega (arith, c.rank-rank.ensures.limit, c.rank-rank.ensures.rank)) (search rules) c.in_ok-self.ensures.1

pub returns-clause-heights : goal.returns-clause-heights
returns-clause-heights c =
    turned-end c.args.g.now c.rank-rank.ensures.matrix w128 c.args.s c.args.self.now.values c.requires.letter (search rules) c.loop-t.t
    c.loop-t.self.values c.loop-t.invariant (omega arith)
