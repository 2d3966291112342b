-- One shift more is noted.
use Rattle.std.proofs.Common.{◌+◌, ◌<◌, refl, arith}
use Rattle.cox_base.specs.IntegerMatrix.{integer_matrix}
use Rattle.cox_context.specs.Numbers.{word_at}
use Rattle.cox_row_builder.proofs.Shifts.{shift-one, noted-pass, least-later}
use Rattle.cox_row_builder.proofs.FoundPolynomials.{begun-pass}
use Rattle.cox_row_builder.proofs.LargeFound.{large-pass}
use Rattle.cox_row_builder.proofs.builder.RowBuilder.pass.Goals as goal

pub loop-self-init : goal.loop-self-init
loop-self-init c = record {
  values = refl;
  large = refl;
  done = refl;
  passed = λ limit h bare. (
    c.args.self.now.done,
    omega arith,
    record { to = c.requires.ahead; noted = h.noted; next = h.next },
  );
}

pub loop-self-preserved : goal.loop-self-preserved
loop-self-preserved c = record {
  values = c.loop-self.invariant.values;
  large = c.loop-self.invariant.large;
  done = c.loop-self.invariant.done;
  passed = λ limit h bare.
      let old = c.loop-self.invariant.passed limit h bare
      in let less : c.loop-self.self.next < c.args.i = omega (arith, c.loop-self-test.true, c.requires.end)
      in let from = old.2.next.from less
      in let noted = noted-pass (integer_matrix c.args.ctx.now.matrix) c.len-len.ensures.admissible c.args.ctx.now.members
      c.len-len.ensures.closed c.args.i c.requires.i limit old.0 c.loop-self.self.next c.loop-self.self.next _ _ from (omega arith)
      old.2.next
      (λ x l m. bare x (omega (arith, l, old.1)) (omega (arith, m, c.loop-self-test.true))) old.2.noted
      in (
        c.loop-self.self.next + 1,
        omega (arith, old.1, from),
        record {
          to = omega (arith, c.loop-self-test.true);
          noted = c.in_ok-note.ensures (integer_matrix c.args.ctx.now.matrix) c.args.ctx.now.members
              (word_at c.args.ctx.now.members c.args.i) limit c.len-len.ensures.admissible noted
              (shift-one (integer_matrix c.args.ctx.now.matrix) c.len-len.ensures.admissible c.args.ctx.now.members
              c.len-len.ensures.closed c.args.i c.requires.i c.loop-self.self.next less (old.2.next.shift less));
          next = c.least_shift-self.ensures;
        },
      );
}

pub returns-clause-passed : goal.returns-clause-passed
returns-clause-passed c = λ limit h bare.
    let old = c.loop-self.invariant.passed limit h bare
    in record {
      begun = rw c.loop-self.invariant.values (begun-pass (integer_matrix c.args.ctx.now.matrix) c.args.ctx.now.members
          (word_at c.args.ctx.now.members c.args.i) limit c.args.self.now.done c.args.end _ _ _ c.requires.ahead bare h.begun);
      noted = noted-pass (integer_matrix c.args.ctx.now.matrix) c.len-len.ensures.admissible c.args.ctx.now.members
          c.len-len.ensures.closed c.args.i c.requires.i limit old.0 c.args.end c.loop-self.self.next _ _ old.2.to c.loop-self-test.false
          old.2.next
          (λ x l m. bare x (omega (arith, l, old.1)) m) old.2.noted;
      next = least-later (integer_matrix c.args.ctx.now.matrix) c.len-len.ensures.admissible c.args.ctx.now.members
          c.len-len.ensures.closed c.args.i c.requires.i old.0 c.args.end c.loop-self.self.next old.2.to c.loop-self-test.false old.2.next;
      large = rw c.loop-self.invariant.large (large-pass (integer_matrix c.args.ctx.now.matrix) c.args.ctx.now.members
          (word_at c.args.ctx.now.members c.args.i) limit _ _ c.args.self.now.done c.args.end c.requires.ahead bare h.large);
    }
