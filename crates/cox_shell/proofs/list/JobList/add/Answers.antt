-- A list that is not too long takes one more line; of one that is too long no more is kept.
use Rattle.std.proofs.Common.{◌≡◌, sym, ap, ◌∙◌}
use Rattle.cox_shell.specs.OpenLists.{is_long}
use Rattle.cox_shell.proofs.KeptLists.{line-taken, line-left}
use Rattle.cox_shell.proofs.list.JobList.add.Goals as goal
use Rattle.cox_shell.proofs.list.JobList.add.Goals.{then-not-is_long+in_ok-add, else-not-is_long}

pub invariant_of-self-2 : goal.invariant_of-self-2
invariant_of-self-2 c =
    let kept = c.self.inside.kept in
    let list = c.self.inside.whole.value in
    let test : is_long kept ≡ c.is_long.result = ap is_long (sym c.as_slice.ensures) ∙ sym c.is_long.ensures in
    elim c.if-not-is_long.branch [
      | then-not-is_long+in_ok-add w ↦ rw (ap (λ s. s.kept) w.self-inside-is, c.whole_with_line-whole.ensures)
          (line-taken kept list w.add.new.self c.args.line c.self.invariant (test ∙ w.if-not-is_long.true)
          (w.in_ok-add.ensures {u = tt}).ok)
      | else-not-is_long w ↦ rw (ap (λ s. s.kept) w.self-inside-is, c.whole_with_line-whole.ensures)
          (line-left kept list c.args.line c.self.invariant (test ∙ w.if-not-is_long.false))
    ]
