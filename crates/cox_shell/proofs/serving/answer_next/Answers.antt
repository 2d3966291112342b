-- A line that is too long, or has a foreign byte, is refused.
use Rattle.cox_command.specs.declared.refusal.Refusal.TheVariants.{LongLine, ForeignByte}
use Rattle.cox_tokens.specs.Line.{content_of}
use Rattle.cox_shell.proofs.ServedLines.{content_refusal-long, content_refusal-foreign, answers_refused}
use Rattle.cox_shell.proofs.serving.answer_next.Goals as goal

pub returns-in-Long-clause-answers : goal.returns-in-Long-clause-answers
returns-in-Long-clause-answers g c =
    let reads = rw (c.in-Long.is, c.requires.going) at c.next.follows.holds-at-none in
    rw c.line_outcome-in-Long.ensures
    (answers_refused _ LongLine reads.0 _ _ _ _ _ _ _
    (content_refusal-long (content_of reads.0) reads.2.1) reads.1 c.requires.empty c.answer_given-in-Long.ensures.ok)

pub returns-in-Byte-clause-answers : goal.returns-in-Byte-clause-answers
returns-in-Byte-clause-answers g c =
    let reads = rw (c.in-Byte.is, c.requires.going) at c.next.follows.holds-at-none in
    rw c.line_outcome-in-Byte.ensures
    (answers_refused _ ForeignByte reads.0 _ _ _ _ _ _ _
    (content_refusal-foreign (content_of reads.0) _ reads.2.0 reads.2.1) reads.1 c.requires.empty c.answer_given-in-Byte.ensures.ok)
