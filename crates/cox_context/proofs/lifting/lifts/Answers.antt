-- Each letter of the word of the top is a step of lifting.
use Rattle.std.proofs.Common.{◌≡◌, ◌+◌, ◌∷◌, ◌<◌, ℕ, length, drop, slice_index, Option, Some, None, IfSome, arith, add-one, drop-cons}
use Rattle.std.specs.Option.{option_or}
use Rattle.std.proofs.lemmas.List.{drop_all}
use Rattle.cox_base.specs.IntegerMatrix.{IntegerMatrix, integer_matrix}
use Rattle.cox_base.specs.Admissible.{IsAdmissible}
use Rattle.cox_base.specs.Reduced.{IsReduced}
use Rattle.cox_reflect.proofs.Admissible.{IsAdmissible-integer_matrix}
use Rattle.cox_reflect.proofs.OrderByLifting.{IsReduced-drop}
use Rattle.cox_context.proofs.BelowTop.{left-start, left-next, left-answer}
use Rattle.cox_context.proofs.lifting.lifts.Goals as goal

either : (n : ℕ) (a b : Option ℕ) → IfSome a (λ k. k < n) → IfSome b (λ k. k < n) → IfSome (option_or a b) (λ k. k < n)
either n None b h k = k
either n (Some x) b h k = h

pub loop-t-init : goal.loop-t-init
loop-t-init c = record {
  inside = tt;
  settled = λ y lower. rw c.as_slice-t-items.ensures.value (left-start (integer_matrix c.args.shifts.now.matrix)
      (IsAdmissible-integer_matrix c.args.shifts.now.matrix c.rank-rank.ensures.matrix) c.args.shifts.now.members y c.args.top.now.items);
}

pub loop-t-preserved : goal.loop-t-preserved
loop-t-preserved c = record {
  inside = rw c.or-at.ensures (either (length c.args.shifts.now.members) c.shorter_left.result c.loop-t.at c.shorter_left.ensures.member
      c.loop-t.invariant.inside);
  settled = λ y lower.
      let A : IntegerMatrix = integer_matrix c.args.shifts.now.matrix
      in let g : IsAdmissible A = IsAdmissible-integer_matrix c.args.shifts.now.matrix c.rank-rank.ensures.matrix
      in let more : c.loop-t.t-index < length c.as_slice-t-items.result.now = c.loop-t-test.true
      in let t : ℕ = slice_index c.as_slice-t-items.result.now c.loop-t.t-index
      in let rest : drop c.loop-t.t-index c.as_slice-t-items.result.now ≡ t ∷ drop (c.loop-t.t-index + 1) c.as_slice-t-items.result.now
      = rw (add-one, drop-cons c.as_slice-t-items.result.now c.loop-t.t-index 0)
      in let whole : IsReduced A c.as_slice-t-items.result.now = rw c.as_slice-t-items.ensures.value c.requires.reduced
      in rw c.or-at.ensures (left-next A g c.args.shifts.now.members y c.args.top.now.items
      (drop c.loop-t.t-index c.as_slice-t-items.result.now)
      (drop (c.loop-t.t-index + 1) c.as_slice-t-items.result.now) t c.loop-t.at c.shorter_left.result rest
      (IsReduced-drop A g c.loop-t.t-index c.as_slice-t-items.result.now whole) (c.loop-t.invariant.settled y lower)
      (c.shorter_left.ensures.lower y lower));
}

pub returns : goal.returns
returns c = λ y s d lower.
    left-answer (integer_matrix c.args.shifts.now.matrix)
    (IsAdmissible-integer_matrix c.args.shifts.now.matrix c.rank-rank.ensures.matrix) c.args.shifts.now.members y c.args.top.now.items
    (drop c.loop-t.t-index c.as_slice-t-items.result.now) s c.loop-t.at c.eq.result c.eq.ensures c.rank-rank.ensures.closed d
    (drop_all c.loop-t.t-index c.as_slice-t-items.result.now (omega arith)) (c.loop-t.invariant.settled y lower)
