-- One letter more.
use Rattle.std.proofs.Common.{◌≡◌, ℕ, ◌+◌, ◌-◌, ◌/◌, ◌^◌, ◌<◌, ◌≤◌, bit_and, ap, ◌∙◌, ⊎_elim, arith}
use Rattle.std.proofs.lemmas.Bool.{cases_lt}
use Rattle.std.proofs.lemmas.Nat.{bit_set_by_shift, and_le_r}
use Rattle.cox_base.specs.Matrix.{CoxeterMatrix}
use Rattle.cox_base.specs.IntegerMatrix.{integer_matrix}
use Rattle.cox_reflect.proofs.NormalElements.{element-word}
use Rattle.cox_context.specs.Numbers.{word_at}
use Rattle.cox_context.proofs.Shifting.{element-at}
use Rattle.cox_inverse.proofs.TurnedMembers.{longest-last}
use Rattle.cox_inverse.proofs.finite.longest_member.Goals as goal

pub loop-r-preserved : goal.loop-r-preserved
loop-r-preserved c = λ k l.
    ⊎_elim (λ (less : k < c.loop-r.r). c.loop-r.invariant k less)
    (λ (more : c.loop-r.r ≤ k).
    let is : k ≡ c.loop-r.r = omega (arith, l, more)
    in let set : ℕ = c.right_descent_set-descents.result
    in let one : bit_and (c.right_descent_set-descents.result / 2 ^ c.loop-r.r) 1 ≡ 1
    = omega (arith, and_le_r (c.right_descent_set-descents.result / 2 ^ c.loop-r.r) 1, c.if-descents-r-eq0.false)
    in rw is ((bit_set_by_shift c.right_descent_set-descents.result c.loop-r.r).0 one))
    (cases_lt k c.loop-r.r)

pub returns-clause-some : goal.returns-clause-some
returns-clause-some c =
    let rank : c.rank-r-end.result ≡ c.args.ctx.now.matrix.rank = c.rank-r-end.ensures.rank ∙ ap (λ (m : CoxeterMatrix). m.rank)
    c.matrix.ensures
    in let inside : c.len-last.result - 1 < c.len-last.result = omega (arith, c.len-last.ensures.len, c.len-last.ensures.closed.some)
    in record {
      member = rw (← c.len-last.ensures.len) inside;
      is = record {
        letters = element-word (integer_matrix c.args.ctx.now.matrix) c.len-last.ensures.admissible
            (word_at c.args.ctx.now.members (c.len-last.result - 1))
            (element-at (integer_matrix c.args.ctx.now.matrix) c.len-last.ensures.admissible c.args.ctx.now.members
            c.len-last.ensures.closed (c.len-last.result - 1) (rw (← c.len-last.ensures.len) inside));
        descents = λ s l.
            let e : s - 1 + 1 ≡ s = omega (arith, l.from_one)
            in rw e at ((c.right_descent_set-descents.ensures (s - 1)).0
            (c.loop-r.invariant (s - 1) (omega (arith, l.from_one, l.to_rank, rank, c.loop-r-test.false))));
      };
    }

pub returns-then-descents-r-eq0-clause-none : goal.returns-then-descents-r-eq0-clause-none
returns-then-descents-r-eq0-clause-none c = λ k h.
    let rank : c.rank-r-end.result ≡ c.args.ctx.now.matrix.rank = c.rank-r-end.ensures.rank ∙ ap (λ (m : CoxeterMatrix). m.rank)
    c.matrix.ensures
    in let some = c.len-last.ensures.closed.some
    in let last : k ≡ c.len-last.result - 1 = longest-last c.args.ctx.now c.len-last.ensures.admissible c.len-last.ensures.closed k h
    (c.len-last.result - 1) (omega (arith, c.len-last.ensures.len, some)) (omega (arith, c.len-last.ensures.len, some))
    in let descent = h.is.descents (c.loop-r.r + 1) (record { from_one = omega arith; to_rank = omega (arith, rank, c.loop-r-test.true) })
    in let set = (c.right_descent_set-descents.ensures c.loop-r.r).1 (rw last at descent)
    in let one = (bit_set_by_shift c.right_descent_set-descents.result c.loop-r.r).1 set
    in absurd (omega (arith, one, c.if-descents-r-eq0.true))
