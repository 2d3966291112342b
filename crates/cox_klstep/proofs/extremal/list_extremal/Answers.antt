-- The bits that are left are those of the extremal members.
use Rattle.std.proofs.Common.{◌+◌}
use Rattle.cox_klstep.specs.DescentBits.{AreNumbersOf}
use Rattle.cox_klstep.specs.ExtremalUpTo.{AreExtremalUpTo}
use Rattle.cox_klstep.proofs.ExtremalBits.{extremals-listed, ok-map}
use Rattle.cox_klstep.proofs.extremal.list_extremal.Goals as goal

pub returns : goal.returns
returns c =
    let e = c.args.ctx.now
    in let target = c.args.target.now
    in ok-map c.list_members.result (AreNumbersOf c.keep_with-2.new.words (target.member + 1) c.list_members.new.members.items)
    (AreExtremalUpTo e target.member c.list_members.new.members.items)
    (extremals-listed e c.len-len.ensures.admissible target c.requires.target c.args.bits.now c.requires.bits c.requires.done
    c.args.words.now c.keep_with.new.words c.keep_with-2.new.words c.requires.size c.keep_with.ensures.size c.requires.all
    (rw c.deref.ensures.value at c.keep_with.ensures.kept) (rw c.deref-2.ensures.value at c.keep_with-2.ensures.kept)
    c.list_members.new.members.items)
    c.list_members.ensures
