-- One block after another, each behind its gate; the state stays.
use Rattle.std.proofs.Common.{arith, refl, rules, subst, ◌∙◌}
use Rattle.cox_shell.specs.Reply.{State}
use Rattle.cox_shell.specs.AnsweredText.{AnswersBlock}
use Rattle.cox_shell.proofs.AnsweredBlocks.{HasAnsweredBlocks-start, HasAnsweredBlocks-more, HasAnsweredBlocks-all}
use Rattle.cox_shell.proofs.at_once.answer_each.Goals as goal

pub each-init : goal.each-init
each-init g c = record { same = refl; answered = HasAnsweredBlocks-start _ _ _ }

pub each-preserved : goal.each-preserved
each-preserved g c =
    let same = c.each.invariant.same in
    let one = subst (λ (s : State). AnswersBlock s c.index-blocks-place.result c.each.answered c.answer_block.new.answered) same
    (c.in_ok-answer_block.ensures {u = tt}).answered in
    record {
      same = c.answer_block.ensures.same ∙ same;
      answered = HasAnsweredBlocks-more _ _ c.each.place c.index-blocks-place.result _ c.each.answered c.answer_block.new.answered
          c.each-test.true (search rules) c.each.invariant.answered one;
    }

pub returns-clause-answered : goal.returns-clause-answered
returns-clause-answered g c = HasAnsweredBlocks-all _ _ c.each.place _ c.each.answered (omega arith) c.each.invariant.answered
