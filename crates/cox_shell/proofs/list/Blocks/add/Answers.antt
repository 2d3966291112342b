-- The last block has one more line.
use Rattle.std.proofs.Common.{◌-◌, length, sym, ap, ◌∙◌, arith}
use Rattle.cox_shell.specs.OpenLists.{then_line}
use Rattle.cox_shell.proofs.KeptLines.{then_line-last}
use Rattle.cox_shell.proofs.list.Blocks.add.Goals as goal

pub returns-clause-ok : goal.returns-clause-ok
returns-clause-ok c =
    let line = c.in_ok-push.ensures {u = tt} in
    rw line.ok (sym (then_line-last c.self.inside.blocks.items (c.len-last.result - 1) c.index_mut.result.now c.args.line
    (omega (arith, c.len-last.ensures, c.requires, ap length c.self.view_is)) c.index_mut.ensures.value)
    ∙ ap (λ list. then_line list c.args.line) c.self.view_is)
