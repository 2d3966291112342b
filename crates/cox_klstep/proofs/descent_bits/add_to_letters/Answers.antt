-- A letter more.
use Rattle.std.proofs.Common.{length, arith}
use Rattle.cox_klstep.proofs.WordBits.{added-start, added-kept, added-end, added-next, added-failed, letter-at}
use Rattle.cox_klstep.proofs.descent_bits.add_to_letters.Goals as goal

pub loop-k-init : goal.loop-k-init
loop-k-init c = added-start c.args.ctx.now c.args.side c.args.from (length c.args.ctx.now.members) c.requires.from c.args.letters.now.items
    c.requires.letters

pub add_to_letter-requires-clause-words : goal.add_to_letter-requires-clause-words
add_to_letter-requires-clause-words c =
    let e = c.args.ctx.now
    in let letters = c.loop-k.letters.items
    in letter-at e c.args.side c.args.from c.loop-k.k letters c.index_mut.result.now
    (added-kept e c.args.side c.args.from (length e.members) c.requires.from c.loop-k.k letters c.loop-k.invariant)
    (omega (arith, c.loop-k-test.true)) c.index_mut.ensures.value

pub loop-k-preserved : goal.loop-k-preserved
loop-k-preserved c = added-next c.args.ctx.now c.args.side c.args.from (length c.args.ctx.now.members) c.requires.from c.loop-k.k
    c.loop-k.letters.items c.loop-k.invariant c.add_to_letter.new.words (omega (arith, c.loop-k-test.true))
    c.in_ok-add_to_letter.ensures.added

pub returns-in_err-add_to_letter-clause-kept : goal.returns-in_err-add_to_letter-clause-kept
returns-in_err-add_to_letter-clause-kept c = added-failed c.args.ctx.now c.args.side c.args.from (length c.args.ctx.now.members)
    c.requires.from c.loop-k.k c.loop-k.letters.items c.loop-k.invariant c.add_to_letter.new.words (omega (arith, c.loop-k-test.true))
    c.add_to_letter.ensures.kept

pub returns-clause-kept : goal.returns-clause-kept
returns-clause-kept c = added-kept c.args.ctx.now c.args.side c.args.from (length c.args.ctx.now.members) c.requires.from c.loop-k.k
    c.loop-k.letters.items c.loop-k.invariant

pub returns-clause-added : goal.returns-clause-added
returns-clause-added c = added-end c.args.ctx.now c.args.side c.args.from (length c.args.ctx.now.members) c.requires.from c.loop-k.k
    c.loop-k.letters.items c.loop-k.invariant (omega (arith, c.loop-k-test.false))
