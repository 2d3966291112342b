-- Blocks that are answered one after another are answered in a state where no list is open.
use Rattle.std.proofs.Common.{subst}
use Rattle.cox_shell.specs.Reply.{State}
use Rattle.cox_shell.specs.AnsweredText.{AnswersBlocks}
use Rattle.cox_shell.proofs.OpenListReplies.{answered-outside}
use Rattle.cox_shell.proofs.session.Session.answer_short_list.Goals as goal

pub returns-clause-answered : goal.returns-clause-answered
returns-clause-answered g c =
    answered-outside c.args.self.now c.args.blocks.now _ _ c.requires.outside c.new-answered.ensures
    (subst (λ (s : State). AnswersBlocks s c.args.blocks.now c.new-answered.result c.answer_each_block.new.answered)
    c.answer_at_once.ensures.same (c.in_ok-answer_each_block.ensures {u = tt}).answered)
