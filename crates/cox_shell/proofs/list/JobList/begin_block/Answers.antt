-- A list that is not too long takes one more block; of one that is too long no more is kept.
use Rattle.std.proofs.Common.{◌≡◌, sym, ap, ◌∙◌}
use Rattle.cox_shell.specs.OpenLists.{is_long}
use Rattle.cox_shell.proofs.KeptLists.{block-taken, block-left}
use Rattle.cox_shell.proofs.list.JobList.begin_block.Goals as goal
use Rattle.cox_shell.proofs.list.JobList.begin_block.Goals.{then-not-is_long+in_ok-begin_block, else-not-is_long}

pub invariant_of-self-2 : goal.invariant_of-self-2
invariant_of-self-2 c =
    let kept = c.self.inside.kept in
    let list = c.self.inside.whole.value in
    let test : is_long kept ≡ c.is_long.result = ap is_long (sym c.as_slice.ensures) ∙ sym c.is_long.ensures in
    elim c.if-not-is_long.branch [
      | then-not-is_long+in_ok-begin_block w ↦ rw (ap (λ s. s.kept) w.self-inside-is, c.whole_with_block-whole.ensures)
          (block-taken kept list w.begin_block.new.self c.self.invariant (test ∙ w.if-not-is_long.true)
          (w.in_ok-begin_block.ensures {u = tt}).ok)
      | else-not-is_long w ↦ rw (ap (λ s. s.kept) w.self-inside-is, c.whole_with_block-whole.ensures)
          (block-left kept list c.self.invariant (test ∙ w.if-not-is_long.false))
    ]
