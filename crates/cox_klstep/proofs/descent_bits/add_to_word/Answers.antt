-- The word at the place gets its members.
use Rattle.std.proofs.Common.{◌/◌, refl, arith}
use Rattle.std.proofs.lemmas.List.{get_or_read}
use Rattle.cox_klstep.proofs.WordBits.{bits-fewer, bits-same, bits-put}
use Rattle.cox_klstep.proofs.descent_bits.add_to_word.Goals as goal

pub returns-in_err-make_room-clause-kept : goal.returns-in_err-make_room-clause-kept
returns-in_err-make_room-clause-kept c = bits-same c.args.ctx.now c.args.side c.args.s c.args.from c.args.words.now.items _
    c.requires.words c.make_room.ensures.longer c.make_room.ensures.same

pub returns-clause-added : goal.returns-clause-added
returns-clause-added c =
    let e = c.args.ctx.now
    in let words = c.make_room.new.words.items
    in bits-put e c.args.side c.args.s c.args.from _ (c.args.from / 64) c.with_members.result words
    (bits-same e c.args.side c.args.s c.args.from c.args.words.now.items words c.requires.words c.make_room.ensures.longer
    c.make_room.ensures.same) refl c.in_ok-make_room.ensures.room c.word_end-end.ensures.same
    (rw (get_or_read words _ _ c.in_ok-make_room.ensures.room c.index.ensures 0) at c.with_members.ensures.before)
    c.with_members.ensures.members

pub returns-clause-kept : goal.returns-clause-kept
returns-clause-kept c =
    bits-fewer c.args.ctx.now c.args.side c.args.s c.args.from _ _ (omega (arith, c.word_end-end.ensures.ahead)) (returns-clause-added c)
