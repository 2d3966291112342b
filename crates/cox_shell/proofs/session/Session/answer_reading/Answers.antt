-- What a line of a block gives leaves the state.
use Rattle.std.proofs.Common.{refl, sym, subst}
use Rattle.cox_shell.specs.declared.block_line.BlockLine.{BlockLine}
use Rattle.cox_shell.specs.Reply.{silence}
use Rattle.cox_shell.specs.BlockReading.{IsBlockReply}
use Rattle.cox_shell.proofs.BlockLines.{inquiry_said-same}
use Rattle.cox_shell.proofs.SaidReplies.{Says-silence}
use Rattle.cox_shell.proofs.session.Session.answer_reading.Goals as goal

pub returns-in-Blank-clause-ok : goal.returns-in-Blank-clause-ok
returns-in-Blank-clause-ok g c =
    let says = Says-silence c.args.self.now c.args.self.now c.args.out.now.items refl in (
      silence c.args.self.now,
      subst (λ (gives : BlockLine). IsBlockReply gives c.args.self.now (silence c.args.self.now)) (sym c.in-Blank.is) refl,
      record { is_said = says.is_said; text = says.text },
    )

pub returns-in-Ask-clause-same : goal.returns-in-Ask-clause-same
returns-in-Ask-clause-same g c = inquiry_said-same _ c.in-Ask.inquiry c.args.self.now _ _ _ c.answer_inquiry.ensures.ok
    c.answer_inquiry.ensures.err
