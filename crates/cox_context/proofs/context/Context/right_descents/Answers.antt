-- The letters of the set are the right descents.
use Rattle.std.proofs.Common.{ap, ◌∙◌, ℕ, filter}
use Rattle.cox_base.specs.declared.side.Side.TheVariants.{Right}
use Rattle.cox_base.specs.ShortLex.{letters}
use Rattle.cox_base.specs.IntegerMatrix.{integer_matrix}
use Rattle.cox_context.specs.Closed.{Elements}
use Rattle.cox_context.specs.Numbers.{word_at}
use Rattle.cox_context.specs.Sets.{has_letter}
use Rattle.cox_context.proofs.OrderOfMembers.{set-letters}
use Rattle.cox_context.proofs.context.Context.right_descents.Goals as goal

pub returns : goal.returns
returns c = c.letters_of.ensures
    ∙ ap (λ (n : ℕ). filter (has_letter c.right_descent_set.result) (letters n)) (c.rank.ensures.rank ∙ ap (λ
    (e : Elements). e.matrix.rank) c.self.view_is)
    ∙ set-letters Right (integer_matrix c.args.self.now.matrix) (word_at c.args.self.now.members c.args.i) c.right_descent_set.result
    c.right_descent_set.ensures
