-- P(x,u) has no term beyond the sums, and its coefficients have 64 bits.
use Rattle.std.proofs.Common.{◌*◌, ◌^◌, FitsSigned, w64, rules, ◌∙◌, arith}
use Rattle.std.proofs.lemmas.Int.{to_z-of_z}
use Rattle.cox_base.specs.IntegerMatrix.{integer_matrix}
use Rattle.cox_context.specs.Numbers.{word_at}
use Rattle.cox_context.proofs.PlacedWords.{contains-at}
use Rattle.cox_context.proofs.Shifting.{length-at}
use Rattle.cox_klstep.proofs.AddedSums.{after-small, value-low, sum-same}
use Rattle.cox_klstep.proofs.sums.add_known.Goals as goal

pub add_scaled-requires-clause-degrees : goal.add_scaled-requires-clause-degrees
add_scaled-requires-clause-degrees c = value-low (integer_matrix c.args.ctx.now.matrix) c.requires.admissible
    (word_at c.args.ctx.now.members c.args.x) (word_at c.args.ctx.now.members c.args.term.now.number) c.args.p.now c.args.term.now.shift
    (omega (
      arith,
      length-at (integer_matrix c.args.ctx.now.matrix) c.requires.admissible c.args.ctx.now.members c.requires.closed
          c.args.term.now.number c.requires.u,
      c.requires.closed.short (word_at c.args.ctx.now.members c.args.term.now.number)
          (contains-at c.args.ctx.now.members c.args.term.now.number c.requires.u),
    ))
    c.requires.shift c.requires.value

pub add_scaled-requires-clause-room : goal.add_scaled-requires-clause-room
add_scaled-requires-clause-room c = λ k.
    let fits : FitsSigned w64 c.args.term.now.factor = search rules
    in rw (to_z-of_z w64 c.args.term.now.factor fits)
    (let small = after-small c.args.sums.now c.args.p.now c.args.term.now.factor c.args.term.now.shift k (2 ^ 125) (c.requires.room k)
    c.degree-degree.ensures.small
    c.requires.factor in omega (arith, small))

pub returns-clause-sum : goal.returns-clause-sum
returns-clause-sum c = λ f is k.
    let fits : FitsSigned w64 c.args.term.now.factor = search rules
    in (simp (to_z-of_z w64 c.args.term.now.factor fits) at (c.add_scaled.ensures.sum k))
    ∙ sum-same (integer_matrix c.args.ctx.now.matrix) c.requires.admissible (word_at c.args.ctx.now.members c.args.x)
    (word_at c.args.ctx.now.members c.args.term.now.number)
    c.args.sums.now c.args.p.now c.args.term.now.factor c.args.term.now.shift f c.requires.value is k

pub returns-clause-size : goal.returns-clause-size
returns-clause-size c = λ n old k.
    let fits : FitsSigned w64 c.args.term.now.factor = search rules
    in let is = simp (to_z-of_z w64 c.args.term.now.factor fits) at (c.add_scaled.ensures.sum k)
    in let small = after-small c.args.sums.now c.args.p.now c.args.term.now.factor c.args.term.now.shift k (n * 2 ^ 94) (old k)
    c.degree-degree.ensures.small
    c.requires.factor
    in rw is (omega (arith, small))
