-- The proof of `put_inorder`.
use Rattle.std.proofs.Common.{refl}
use Rattle.cox_base.specs.IntegerMatrix.{integer_matrix}
use Rattle.cox_print.specs.AnswerText.{truth_text}
use Rattle.cox_replies.specs.InquiryQuestion.{IsOrderText}
use Rattle.cox_replies.proofs.Unless.{PutsUnless-free}
use Rattle.cox_answers.proofs.answers.put_inorder.Goals as goal

pub returns : goal.returns
returns c =
    rw c.unrefused.ensures (PutsUnless-free _ (IsOrderText (integer_matrix c.args.table.now) c.args.y.now.items c.args.w.now.items)
    (truth_text c.below.result) _ _ (c.below.result, c.below.ensures, refl) c.put_truth.ensures)
