-- The proof of `put_totals`.
use Rattle.std.proofs.Common.{◌≡◌, ℕ, List, ap, refl, rules, FitsSigned}
use Rattle.std.specs.Int.{w128}
use Rattle.std.proofs.lemmas.Int.{to_z-of_z}
use Rattle.cox_base.specs.IntegerMatrix.{integer_matrix}
use Rattle.cox_answers.specs.Kept.{WorkspaceState}
use Rattle.cox_replies.specs.Totals.{Totals}
use Rattle.cox_replies.specs.WorkReply.{generated_words}
use Rattle.cox_replies.proofs.Unless.{PutsUnless-put}
use Rattle.cox_replies.proofs.WorkTotals.{work-line}
use Rattle.cox_answers.specs.Needs.{HasTotals}
use Rattle.cox_answers.specs.declared.needs.Found.{Found}
use Rattle.cox_answers.specs.declared.needs.Found.TheVariants as shown
use Rattle.cox_answers.proofs.workspace.Workspace.put_totals.Goals as goal

has-totals : (work : WorkspaceState) (words : List (List ℕ)) (found : Found) → HasTotals work words found
    → (totals : Totals) × (found ≡ shown.Totals totals)
has-totals work words (shown.Totals totals) has = (totals, refl)
has-totals work words _ has = absurd has

pub unreachable-requires : goal.unreachable-requires
unreachable-requires c =
    let table = c.args.self.now.table in
    let has = has-totals c.args.self.now (generated_words table.rank c.args.count c.args.start) c.args.found.now c.requires.found in
    c.in_default.not-Totals has.0 has.1

pub returns : goal.returns
returns c =
    let table = c.args.self.now.table in
    let words = generated_words table.rank c.args.count c.args.start in
    let totals = c.in-Totals.totals in
    let has : HasTotals c.args.self.now words (shown.Totals totals) = rw c.in-Totals.is at c.requires.found in
    let entries : c.totals.inside.entries ≡ totals.entries = ap (λ (t : Totals). t.entries) c.totals.view_is in
    let degree : c.totals.inside.degree ≡ totals.degree = ap (λ (t : Totals). t.degree) c.totals.view_is in
    let sum : c.totals.inside.sum ≡ totals.sum = ap (λ (t : Totals). t.sum) c.totals.view_is in
    let is = work-line (integer_matrix table) table.rank c.args.count c.args.start totals has.0 in
    let fits : FitsSigned w128 c.totals.inside.sum = search rules in
    let low = simp to_z-of_z at c.low_bits-sum.ensures in
    rw c.unrefused.ensures
    (PutsUnless-put _ _ _ _ _ has.1 (_, is, rw (low, c.from.ensures, entries, degree, sum) at c.put_work.ensures))
