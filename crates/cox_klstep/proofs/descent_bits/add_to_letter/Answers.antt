-- What holds of more members holds of the first ones.
use Rattle.std.proofs.Common.{◌≡◌, length, arith}
use Rattle.cox_klstep.proofs.WordBits.{bits-fewer}
use Rattle.cox_klstep.proofs.descent_bits.add_to_letter.Goals as goal

pub returns-in_err-x-clause-kept : goal.returns-in_err-x-clause-kept
returns-in_err-x-clause-kept c = bits-fewer c.args.ctx.now c.args.side c.args.s c.args.from c.loop-x.x _
    c.loop-x.invariant.ahead c.add_to_word.ensures.kept

pub returns-clause-kept : goal.returns-clause-kept
returns-clause-kept c = bits-fewer c.args.ctx.now c.args.side c.args.s c.args.from c.loop-x.x _ c.loop-x.invariant.ahead
    c.loop-x.invariant.bits

pub returns-clause-added : goal.returns-clause-added
returns-clause-added c =
    let end : c.loop-x.x ≡ length c.args.ctx.now.members
    = omega (arith, c.loop-x-test.false, c.loop-x.invariant.within, c.len.ensures.len)
    in rw end at c.loop-x.invariant.bits
