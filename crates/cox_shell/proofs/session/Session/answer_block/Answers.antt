-- One line after another.
use Rattle.std.proofs.Common.{refl, subst, ◌∙◌, arith}
use Rattle.cox_shell.specs.Reply.{State}
use Rattle.cox_shell.specs.AnsweredText.{AnswersLine}
use Rattle.cox_shell.proofs.AnsweredBlocks.{HasAnswered-start, HasAnswered-more, HasAnswered-all}
use Rattle.cox_shell.proofs.session.Session.answer_block.Goals as goal

pub lines-init : goal.lines-init
lines-init g c = record { same = refl; answered = HasAnswered-start _ _ _ }

pub lines-preserved : goal.lines-preserved
lines-preserved g c =
    let same = c.lines.invariant.same in
    let one = subst (λ (s : State). AnswersLine s c.line-item.result c.lines.answered c.answer_kept_line.new.answered) same
    (c.in_ok-answer_kept_line.ensures {u = tt}).answered in
    record {
      same = c.answer_kept_line.ensures.same ∙ same;
      answered = HasAnswered-more _ _ c.lines.line-index c.line-item.result _ c.lines.answered c.answer_kept_line.new.answered
          c.lines-test.true c.line-item.is c.lines.invariant.answered one;
    }

pub returns-clause-answered : goal.returns-clause-answered
returns-clause-answered g c = rw (← c.lines-line-items.ensures)
    (HasAnswered-all _ _ c.lines.line-index _ c.lines.answered (omega arith) c.lines.invariant.answered)
