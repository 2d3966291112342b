-- The proof of `number_found`.
use Rattle.std.proofs.Common.{◌≡◌, ℕ, List, refl}
use Rattle.cox_answers.specs.Kept.{WorkspaceState}
use Rattle.cox_answers.specs.Needs.{HasRowOf}
use Rattle.cox_answers.specs.declared.needs.Found.{Found}
use Rattle.cox_answers.specs.declared.needs.Found.TheVariants.{Row}
use Rattle.cox_answers.proofs.workspace.Workspace.number_found.Goals as goal

has-number : (work : WorkspaceState) (w : List ℕ) (found : Found) → HasRowOf work w found → (i : ℕ) × (found ≡ Row i)
has-number work w (Row i) has = (i, refl)
has-number work w _ has = absurd has

pub unreachable-requires : goal.unreachable-requires
unreachable-requires c =
    let has = has-number c.args.self.now c.args.w.now.items c.args.found.now c.requires in c.in_default.not-Row has.0 has.1
