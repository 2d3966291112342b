-- All members before it are settled; or the shorter element and the corrections are.
use Rattle.std.proofs.Common.{◌≡◌, ℕ, ◌<◌, true, false, ⊎_elim, arith}
use Rattle.cox_row_symmetry.specs.DescentOf.{IsDescentAt}
use Rattle.cox_klstep.proofs.NeededRows.{all-needs}
use Rattle.cox_rows.specs.Ensured.{IsSettled}
use Rattle.cox_rows.proofs.SettledMembers.{descent-needs}
use Rattle.cox_rows.proofs.rows.Rows.can_settle.Goals as goal

pub returns-then-all-clause-needs : goal.returns-then-all-clause-needs
returns-then-all-clause-needs c t =
    let before : (j : ℕ) → j < c.args.i → IsSettled c.args.self.now j
    = λ j l. ⊎_elim (λ (all : c.args.all ≡ true). c.requires all j l)
    (λ (first : (c.args.all ≡ false) × (c.args.i ≡ 0)). absurd (omega (arith, l, first.1))) c.then-all.either
    in all-needs c.args.self.now.elements (IsSettled c.args.self.now) c.args.i c.context-context.ensures.admissible
    c.context-context.ensures.closed (c.context-context.ensures.members c.args.i (c.has.ensures.0 c.if-not-has.false)) before

pub returns-then-is_settled-clause-needs : goal.returns-then-is_settled-clause-needs
returns-then-is_settled-clause-needs c t =
    let is : IsDescentAt c.args.self.now.elements c.of-descent.result = rw c.context-context.ensures.context at c.of-descent.ensures.descent
    in rw c.of-descent.ensures.number at (descent-needs c.args.self.now.elements (IsSettled c.args.self.now) c.of-descent.result
    c.context-context.ensures.closed is (c.is_settled.ensures.small c.if-is_settled.true) (c.are_settled.ensures t))
