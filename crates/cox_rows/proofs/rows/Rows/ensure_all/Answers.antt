-- One member more is settled. Where all rows were there, nothing is added up.
use Rattle.std.proofs.Common.{◌<◌, length, refl, rules, ◌∙◌, arith, below_more}
use Rattle.std.specs.Prelude.{IfErr}
use Rattle.cox_rows.specs.RowsFaults.{IsFaultOfSome}
use Rattle.cox_rows.specs.Ensured.{IsSettled}
use Rattle.cox_rows.proofs.CountedRows.{counted-none, counted-trans}
use Rattle.cox_rows.proofs.SettledMembers.{settled-row, settled-more}
use Rattle.cox_rows.proofs.rows.Rows.ensure_all.Goals as goal

pub members-init : goal.members-init
members-init c = record {
  elements = refl;
  limit = refl;
  kept = λ j h. h;
  settled = λ k l. absurd (omega (arith, l));
  counted = counted-none c.args.self.now;
  again = λ all. refl;
}

pub members-preserved : goal.members-preserved
members-preserved c =
    let size = rw c.context.ensures.context at c.len-i-end.ensures.len
    in let within : c.members.i < length c.args.self.now.elements.members = omega (arith, size, c.members-test.true)
    in record {
      elements = c.ensure_next.ensures.elements ∙ c.members.invariant.elements;
      limit = c.ensure_next.ensures.limit ∙ c.members.invariant.limit;
      kept = λ j h. c.ensure_next.ensures.kept j (c.members.invariant.kept j h);
      settled = below_more (IsSettled c.ensure_next.new.self) c.members.i
          (λ k l. settled-more c.members.self c.ensure_next.new.self c.ensure_next.ensures.elements c.ensure_next.ensures.limit
          c.ensure_next.ensures.kept k (c.members.invariant.settled k l))
          c.in_ok-ensure_next.ensures.settled;
      counted = counted-trans c.args.self.now c.members.self c.ensure_next.new.self c.members.invariant.elements c.ensure_next.ensures.kept
          c.members.invariant.counted c.ensure_next.ensures.counted;
      again = λ all. c.ensure_next.ensures.again (c.members.invariant.kept c.members.i (all c.members.i within))
          ∙ c.members.invariant.again all;
    }

pub ensure_next-requires-clause-member : goal.ensure_next-requires-clause-member
ensure_next-requires-clause-member c =
    let size = rw c.context.ensures.context at c.len-i-end.ensures.len
    in rw c.members.invariant.elements (omega (arith, size, c.members-test.true))

pub ensure_next-requires-clause-before : goal.ensure_next-requires-clause-before
ensure_next-requires-clause-before c = c.members.invariant.settled

pub returns-in_err-ensure_next-clause-kept : goal.returns-in_err-ensure_next-clause-kept
returns-in_err-ensure_next-clause-kept c = λ j h. c.ensure_next.ensures.kept j (c.members.invariant.kept j h)

pub returns-in_err-ensure_next-clause-fault : goal.returns-in_err-ensure_next-clause-fault
returns-in_err-ensure_next-clause-fault c =
    let fault : IfErr c.from_residual.result (IsFaultOfSome c.members.self.elements c.members.self.limit) = search rules
    in rw (c.members.invariant.elements, c.members.invariant.limit) at fault

pub returns-in_err-ensure_next-clause-again : goal.returns-in_err-ensure_next-clause-again
returns-in_err-ensure_next-clause-again c = λ all.
    let size = rw c.context.ensures.context at c.len-i-end.ensures.len
    in let within : c.members.i < length c.args.self.now.elements.members = omega (arith, size, c.members-test.true)
    in c.ensure_next.ensures.again (c.members.invariant.kept c.members.i (all c.members.i within)) ∙ c.members.invariant.again all

pub returns-in_err-ensure_next-clause-counted : goal.returns-in_err-ensure_next-clause-counted
returns-in_err-ensure_next-clause-counted c =
    counted-trans c.args.self.now c.members.self c.ensure_next.new.self c.members.invariant.elements c.ensure_next.ensures.kept
    c.members.invariant.counted c.ensure_next.ensures.counted

pub returns-clause-kept : goal.returns-clause-kept
returns-clause-kept c = c.members.invariant.kept

pub returns-clause-counted : goal.returns-clause-counted
returns-clause-counted c = c.members.invariant.counted

pub returns-clause-again : goal.returns-clause-again
returns-clause-again c = c.members.invariant.again

pub returns-clause-there : goal.returns-clause-there
returns-clause-there c =
    let size = rw c.context.ensures.context at c.len-i-end.ensures.len
    in λ i l. settled-row c.members.self i (c.members.invariant.settled i (omega (arith, size, l, c.members-test.false)))

pub returns-clause-small : goal.returns-clause-small
returns-clause-small c =
    let size = rw c.context.ensures.context at c.len-i-end.ensures.len
    in λ i l. rw (c.members.invariant.elements, c.members.invariant.limit) at
    (c.members.invariant.settled i (omega (arith, size, l, c.members-test.false))).small
