-- The reply to a command that sets a group, where the number of its small roots is known.
use Rattle.std.proofs.Common.{Some, None, inl, inr, refl}
use Rattle.cox_base.specs.Matrix.{CoxeterMatrix}
use Rattle.cox_base.specs.IntegerMatrix.{integer_matrix}
use Rattle.cox_small.specs.SmallRoots.{HasMoreSmallRoots}
use Rattle.cox_small.specs.RootCounts.{HasFewSmallRoots}
use Rattle.cox_small.proofs.Counting.{not_both}
use Rattle.cox_command.specs.declared.refusal.Refusal.TheVariants.{ManyRoots}
use Rattle.cox_command.specs.declared.command.Command.TheVariants.{Group}
use Rattle.cox_shell.specs.Reply.{State, refusal, silence}
use Rattle.cox_shell.specs.CommandReply.{IsCommandReply}

pub group-set : (state : State) (g : CoxeterMatrix) → HasFewSmallRoots (integer_matrix g) state.limits.roots
    → IsCommandReply (Group g) state (silence (record state { group = Some g }))
group-set state g few =
    (None, inr (not_both (integer_matrix g) state.limits.roots few, inr (λ none. none, inr (λ none. none, inr (λ none. none, refl)))), refl)

pub group-refused : (state : State) (g : CoxeterMatrix) → HasMoreSmallRoots (integer_matrix g) state.limits.roots
    → IsCommandReply (Group g) state (refusal state ManyRoots)
group-refused state g many = (Some ManyRoots, inl (many, refl), refl)
