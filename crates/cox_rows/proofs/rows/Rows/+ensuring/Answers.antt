-- What is made on the way to the row of w is needed by w, and when all that w needs is settled, w is.
use Rattle.std.proofs.Common.{◌≡◌, subst, sym, rules, arith}
use Rattle.std.specs.Prelude.{IfErr}
use Rattle.std.proofs.lemmas.Result.{MatchResult-weaker}
use Rattle.cox_base.specs.IntegerMatrix.{integer_matrix}
use Rattle.cox_hecke.specs.Needs.{IsNeeded}
use Rattle.cox_context.specs.Closed.{Elements}
use Rattle.cox_context.specs.Numbers.{word_at}
use Rattle.cox_row.specs.Rising.{number_at}
use Rattle.cox_klstep.specs.NeedsOf.{HasNeeds}
use Rattle.cox_klstep.proofs.NeededRows.{identity-needs}
use Rattle.cox_row_builder.specs.Faults.{IsFault}
use Rattle.cox_rows.specs.RowsFaults.{IsRowsFault}
use Rattle.cox_rows.specs.Ensured.{IsSettled}
use Rattle.cox_rows.proofs.EnsuredNeeds.{ensured-refl, ensured-then, fault-own}
use Rattle.cox_rows.proofs.EnsuredNeeds.{lower-first, lower-within, lower-ensured, lower-fault}
use Rattle.cox_rows.proofs.EnsuredNeeds.{corrections-before, corrections-ensured, needs-settled}
use Rattle.cox_rows.proofs.EnsuredNeeds.{under_way-start, next-within, next-rows, next-fault, under_way-next}
use Rattle.cox_rows.proofs.SettledMembers.{settled-row}
use Rattle.cox_rows.proofs.rows.Rows.+ensuring.Goals as goal

-- ---- the row and what it is made from

pub ensure_until-returns-then-is_settled-clause-rows : goal.ensure_until-returns-then-is_settled-clause-rows
ensure_until-returns-then-is_settled-clause-rows t c = ensured-refl _ c.args.self.now

pub ensure_until-make_settled-requires-clause-needs : goal.ensure_until-make_settled-requires-clause-needs
ensure_until-make_settled-requires-clause-needs t c =
    subst (λ (e : Elements). HasNeeds e (IsSettled c.ensure_lower.new.self) c.args.i) (sym c.ensure_lower.ensures.rows.elements)
    (c.in_ok-ensure_lower.ensures.settled c.if-not-branch.false)

pub ensure_until-returns-in_err-make_settled-clause-rows : goal.ensure_until-returns-in_err-make_settled-clause-rows
ensure_until-returns-in_err-make_settled-clause-rows t c =
    ensured-then c.args.self.now c.ensure_lower.new.self c.make_settled.new.self c.args.i c.context-context.ensures.admissible
    c.ensure_lower.ensures.rows c.make_settled.ensures.elements c.make_settled.ensures.limit c.make_settled.ensures.kept
    c.make_settled.ensures.others c.requires c.make_settled.ensures.counted c.make_settled.ensures.again

pub ensure_until-returns-in_err-make_settled-clause-fault : goal.ensure_until-returns-in_err-make_settled-clause-fault
ensure_until-returns-in_err-make_settled-clause-fault t c =
    let own : IfErr c.from_residual-in_err-make_settled.result (IsFault (integer_matrix c.ensure_lower.new.self.elements.matrix)
    c.ensure_lower.new.self.elements.members c.ensure_lower.new.self.limit (λ w. w ≡ c.args.i)) = search rules
    in fault-own c.args.self.now.elements c.args.self.now.limit c.args.i
    c.from_residual-in_err-make_settled.result c.context-context.ensures.admissible c.requires
    (rw (c.ensure_lower.ensures.rows.elements, c.ensure_lower.ensures.rows.limit) at own)

pub ensure_until-returns-clause-rows : goal.ensure_until-returns-clause-rows
ensure_until-returns-clause-rows t c =
    ensured-then c.args.self.now c.ensure_lower.new.self c.make_settled.new.self c.args.i c.context-context.ensures.admissible
    c.ensure_lower.ensures.rows c.make_settled.ensures.elements c.make_settled.ensures.limit c.make_settled.ensures.kept
    c.make_settled.ensures.others c.requires c.make_settled.ensures.counted c.make_settled.ensures.again

-- ---- the identity

pub ensure_lower-returns-then-i-eq0-clause-rows : goal.ensure_lower-returns-then-i-eq0-clause-rows
ensure_lower-returns-then-i-eq0-clause-rows t c = ensured-refl _ c.args.self.now

pub ensure_lower-returns-then-i-eq0-clause-settled : goal.ensure_lower-returns-then-i-eq0-clause-settled
ensure_lower-returns-then-i-eq0-clause-settled t c =
    let e : c.args.i ≡ 0 = omega arith
    in λ done. rw e (identity-needs c.args.self.now.elements c.context-context.ensures.admissible c.context-context.ensures.closed
    (IsSettled c.args.self.now))

-- ---- the shorter element

pub ensure_lower-ensure_until-requires : goal.ensure_lower-ensure_until-requires
ensure_lower-ensure_until-requires t c = (
  omega (
    arith,
    lower-first c.args.self.now c.context-context.result.now c.of-descent.result c.args.i c.context-context.ensures.context
        c.context-context.ensures.admissible c.context-context.ensures.closed c.of-descent.ensures.descent c.of-descent.ensures.number,
    c.decreases,
  ),
  lower-within c.args.self.now c.context-context.result.now c.of-descent.result c.args.i c.context-context.ensures.context
      c.context-context.ensures.admissible c.context-context.ensures.closed c.of-descent.ensures.descent c.of-descent.ensures.number,
)

pub ensure_lower-returns-in_err-ensure_until-clause-rows : goal.ensure_lower-returns-in_err-ensure_until-clause-rows
ensure_lower-returns-in_err-ensure_until-clause-rows t c = lower-ensured c.args.self.now c.context-context.result.now
    c.of-descent.result c.args.i c.context-context.ensures.context
    c.context-context.ensures.admissible c.context-context.ensures.closed c.of-descent.ensures.descent c.of-descent.ensures.number
    c.ensure_until.new.self c.ensure_until.ensures.rows

pub ensure_lower-returns-then-not-branch-clause-rows : goal.ensure_lower-returns-then-not-branch-clause-rows
ensure_lower-returns-then-not-branch-clause-rows t c = lower-ensured c.args.self.now c.context-context.result.now
    c.of-descent.result c.args.i c.context-context.ensures.context
    c.context-context.ensures.admissible c.context-context.ensures.closed c.of-descent.ensures.descent c.of-descent.ensures.number
    c.ensure_until.new.self c.ensure_until.ensures.rows

pub ensure_lower-returns-in_err-ensure_until-clause-fault : goal.ensure_lower-returns-in_err-ensure_until-clause-fault
ensure_lower-returns-in_err-ensure_until-clause-fault t c =
    let fault : IfErr c.from_residual.result (IsRowsFault c.args.self.now.elements c.args.self.now.limit
    (IsNeeded (integer_matrix c.args.self.now.elements.matrix)
    (word_at c.args.self.now.elements.members c.of-descent.result.lower))) = search rules
    in lower-fault c.args.self.now c.context-context.result.now c.of-descent.result c.args.i c.context-context.ensures.context
    c.context-context.ensures.admissible c.context-context.ensures.closed c.of-descent.ensures.descent
    c.of-descent.ensures.number c.from_residual.result fault

pub ensure_lower-corrections-requires-clause-lower : goal.ensure_lower-corrections-requires-clause-lower
ensure_lower-corrections-requires-clause-lower t c = settled-row c.ensure_until.new.self c.of-descent.result.lower
    (c.in_ok-ensure_until.ensures.settled c.if-not-branch.false)

pub ensure_lower-returns-in_err-corrections-clause-rows : goal.ensure_lower-returns-in_err-corrections-clause-rows
ensure_lower-returns-in_err-corrections-clause-rows t c = lower-ensured c.args.self.now c.context-context.result.now
    c.of-descent.result c.args.i c.context-context.ensures.context
    c.context-context.ensures.admissible c.context-context.ensures.closed c.of-descent.ensures.descent c.of-descent.ensures.number
    c.ensure_until.new.self c.ensure_until.ensures.rows

-- ---- the corrections

pub ensure_lower-ensure_each-requires : goal.ensure_lower-ensure_each-requires
ensure_lower-ensure_each-requires t c = (
  omega (arith, c.decreases),
  corrections-before c.args.self.now c.context-context.result.now c.of-descent.result c.args.i c.context-context.ensures.context
      c.context-context.ensures.admissible c.context-context.ensures.closed c.of-descent.ensures.descent
      c.of-descent.ensures.number c.ensure_until.new.self c.ensure_until.ensures.rows
      c.as_slice.result.now (rw c.as_slice.ensures.value c.in_ok-corrections.ensures),
)

pub ensure_lower-returns-clause-rows : goal.ensure_lower-returns-clause-rows
ensure_lower-returns-clause-rows t c = corrections-ensured c.args.self.now c.context-context.result.now c.of-descent.result
    c.args.i c.context-context.ensures.context
    c.context-context.ensures.admissible c.context-context.ensures.closed c.of-descent.ensures.descent c.of-descent.ensures.number
    c.ensure_until.new.self c.ensure_until.ensures.rows c.as_slice.result.now (rw c.as_slice.ensures.value c.in_ok-corrections.ensures)
    c.ensure_each.new.self c.ensure_each.ensures.rows

pub ensure_lower-returns-clause-settled : goal.ensure_lower-returns-clause-settled
ensure_lower-returns-clause-settled t c = MatchResult-weaker c.ensure_each.result c.ensure_each.ensures.settled
    (λ done settled t. needs-settled c.args.self.now c.context-context.result.now c.of-descent.result c.args.i
    c.context-context.ensures.context
    c.context-context.ensures.admissible c.context-context.ensures.closed c.of-descent.ensures.descent c.of-descent.ensures.number
    c.ensure_until.new.self c.ensure_until.ensures.rows c.as_slice.result.now (rw c.as_slice.ensures.value c.in_ok-corrections.ensures)
    c.ensure_each.new.self c.ensure_each.ensures.rows (c.in_ok-ensure_until.ensures.settled c.if-not-branch.false) (settled t))
    (λ fault told. told)

pub ensure_lower-returns-clause-fault : goal.ensure_lower-returns-clause-fault
ensure_lower-returns-clause-fault t c =
    rw (c.ensure_until.ensures.rows.elements, c.ensure_until.ensures.rows.limit) at c.ensure_each.ensures.fault

-- ---- one of them

pub ensure_each-each-init : goal.ensure_each-each-init
ensure_each-each-init t c = under_way-start c.args.i c.args.self.now c.args.numbers.now

pub ensure_each-ensure_until-requires : goal.ensure_each-ensure_until-requires
ensure_each-ensure_until-requires t c = (
  (let less = c.requires.before c.each.u-index c.each-test.true in omega (arith, less, c.decreases)),
  next-within c.args.i c.args.self.now c.each.self c.each.self c.args.numbers.now c.each.u-index
      c.context-context.ensures.admissible c.requires c.each.invariant c.each-test.true,
)

pub ensure_each-returns-in_err-ensure_until-clause-rows : goal.ensure_each-returns-in_err-ensure_until-clause-rows
ensure_each-returns-in_err-ensure_until-clause-rows t c = next-rows c.args.i c.args.self.now c.each.self
    c.ensure_until.new.self c.args.numbers.now c.each.u-index
    c.context-context.ensures.admissible c.requires c.each.invariant c.each-test.true c.ensure_until.ensures.rows

pub ensure_each-returns-then-not-branch-clause-rows : goal.ensure_each-returns-then-not-branch-clause-rows
ensure_each-returns-then-not-branch-clause-rows t c = next-rows c.args.i c.args.self.now c.each.self c.ensure_until.new.self
    c.args.numbers.now c.each.u-index
    c.context-context.ensures.admissible c.requires c.each.invariant c.each-test.true c.ensure_until.ensures.rows

pub ensure_each-returns-in_err-ensure_until-clause-fault : goal.ensure_each-returns-in_err-ensure_until-clause-fault
ensure_each-returns-in_err-ensure_until-clause-fault t c =
    let fault : IfErr c.from_residual.result (IsRowsFault c.each.self.elements c.each.self.limit
    (IsNeeded (integer_matrix c.each.self.elements.matrix)
    (word_at c.each.self.elements.members (number_at c.args.numbers.now c.each.u-index)))) = search rules
    in next-fault c.args.i c.args.self.now c.each.self c.ensure_until.new.self c.args.numbers.now c.each.u-index
    c.context-context.ensures.admissible c.requires c.each.invariant c.each-test.true c.from_residual.result fault

pub ensure_each-each-preserved : goal.ensure_each-each-preserved
ensure_each-each-preserved t c = under_way-next c.args.i c.args.self.now c.each.self c.ensure_until.new.self c.args.numbers.now
    c.each.u-index
    c.context-context.ensures.admissible c.requires c.each.invariant c.each-test.true c.ensure_until.ensures.rows
    (c.in_ok-ensure_until.ensures.settled c.if-not-branch.false)

pub ensure_each-returns-clause-rows : goal.ensure_each-returns-clause-rows
ensure_each-returns-clause-rows t c = c.each.invariant.rows

pub ensure_each-returns-clause-settled : goal.ensure_each-returns-clause-settled
ensure_each-returns-clause-settled t c = λ done k l. c.each.invariant.settled k (omega (arith, l))
