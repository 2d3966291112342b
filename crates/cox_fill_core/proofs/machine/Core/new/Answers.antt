-- A new core has a state, a holder and marks for each row, and is the opening.
use Rattle.std.proofs.Common.{◌≡◌, ◌∙◌, [], length, vec_items, get_or, replicate, Contains, None, false, ℕ, Global, ap, subst, sym, arith}
use Rattle.std.proofs.lemmas.List.{length-map, length-replicate}
use Rattle.cox_fill_core.specs.Parts.{rows_at}
use Rattle.cox_fill_core.proofs.Marks.{all_replicate, marks_sized, listed_fill-opening}
use Rattle.cox_fill_core.proofs.machine.Core.new.Goals as goal

pub invariant_of-result-clause-a_mark_each : goal.invariant_of-result-clause-a_mark_each
invariant_of-result-clause-a_mark_each c = λ a lt.
    subst (λ z. length (get_or z a []) ≡ c.in_ok-needs.needs.len) (sym c.in_ok-blank.ensures.seen)
    (marks_sized _ _ a (omega (
      arith,
      c.in_ok-blank.blank.seen.ok,
      ap length c.in_ok-blank.ensures.seen,
      length-replicate c.args.actors
          (replicate (length c.args.needs.now) false),
    ))
    ∙ omega (
      arith,
      c.in_ok-needs.needs.ok,
      ap length c.in_ok-needs.ensures,
      length-map c.args.needs.now
          (vec_items {X = ℕ} {Z = Global}),
    ))

pub invariant_of-result-clause-lower : goal.invariant_of-result-clause-lower
invariant_of-result-clause-lower c = λ i j n. c.requires i j (subst (λ z. Contains (rows_at z i) j) c.in_ok-needs.ensures n)

pub invariant_of-result-clause-unheld : goal.invariant_of-result-clause-unheld
invariant_of-result-clause-unheld c =
    λ i _. subst (λ z. get_or z i None ≡ None) (sym c.in_ok-blank.ensures.holders) (all_replicate _ i None)

pub returns-clause-opening : goal.returns-clause-opening
returns-clause-opening c = listed_fill-opening _ _ _ _ _
    c.in_ok-blank.ensures.states c.in_ok-blank.ensures.holders c.in_ok-blank.ensures.seen
