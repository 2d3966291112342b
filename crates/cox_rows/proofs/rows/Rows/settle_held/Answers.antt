-- A member more is settled, or one is left.
use Rattle.std.proofs.Common.{refl, ◌∙◌, below_more, arith}
use Rattle.cox_rows.specs.Ensured.{IsSettled}
use Rattle.cox_rows.proofs.rows.Rows.settle_held.Goals as goal

pub members-init : goal.members-init
members-init c = record { same = refl; all = λ t j l. absurd (omega (arith, l)) }

pub members-preserved-then-is_settled : goal.members-preserved-then-is_settled
members-preserved-then-is_settled c = record {
  same = c.members.invariant.same;
  all = λ t. below_more (IsSettled c.members.self) c.members.i (c.members.invariant.all t) (c.is_settled.ensures.small
      c.if-is_settled.true);
}

pub members-preserved : goal.members-preserved
members-preserved c = record {
  same = c.settle.ensures.same ∙ c.members.invariant.same;
  all = λ t. below_more (IsSettled c.settle.new.self) c.members.i (rw c.settle.ensures.same (c.members.invariant.all t))
      (c.in-Ok.ensures {u = tt}).settled;
}
