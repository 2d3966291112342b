-- Each product and each sum fits in 128 bits, and the last sum is the pairing.
use Rattle.std.proofs.Common.{◌≡◌, ◌+◌, ◌-◌, sym, ◌∙◌, arith, rules}
use Rattle.std.proofs.lemmas.Int.{to_z-of_z}
use mir.Syntax.{w128}
use Rattle.cox_base.specs.Matrix.{IsLetter}
use Rattle.cox_base.specs.IntegerMatrix.{integer_matrix, entry_of}
use Rattle.cox_reflect.specs.RootHeight.{at_letter}
use Rattle.cox_reflect.proofs.Admissible.{IsAdmissible-integer_matrix}
use Rattle.cox_reflect.proofs.Sizes.{sum_to-small}
use Rattle.cox_reflect.proofs.Computed.{widened, product-fits, sum-value}
use Rattle.cox_reflect.proofs.RootCoordinates.{term-fits, part-fits, part-next, part-none}
use Rattle.cox_reflect.proofs.coordinates.pairing.Goals as goal

pub loop-t-init : goal.loop-t-init
loop-t-init c = sym (part-none _)

pub overflow_mul-sum : goal.overflow_mul-sum
overflow_mul-sum c =
    let g = IsAdmissible-integer_matrix c.args.g.now c.rank.ensures.matrix
    in let l : IsLetter c.args.g.now.rank c.loop-t.t = record { from_one = omega arith; to_rank = omega (arith, c.rank.ensures.rank) }
    in let entry = widened c.from.result c.entry.result (entry_of c.args.g.now c.args.s c.loop-t.t)
    (search rules) c.from.ensures c.entry.ensures.value
    in product-fits c.from.result (at_letter c.args.v.now c.loop-t.t) (entry_of c.args.g.now c.args.s c.loop-t.t) (search rules)
    (search rules) entry
    (term-fits (integer_matrix c.args.g.now) g c.args.s c.loop-t.t (at_letter c.args.v.now) l c.requires.room)

pub overflow_add-sum : goal.overflow_add-sum
overflow_add-sum c =
    let g = IsAdmissible-integer_matrix c.args.g.now c.rank.ensures.matrix
    in let l : IsLetter c.args.g.now.rank c.loop-t.t = record { from_one = omega arith; to_rank = omega (arith, c.rank.ensures.rank) }
    in let entry = widened c.from.result c.entry.result (entry_of c.args.g.now c.args.s c.loop-t.t)
    (search rules) c.from.ensures c.entry.ensures.value
    in rw (sum-value c.from.result (at_letter c.args.v.now c.loop-t.t) (entry_of c.args.g.now c.args.s c.loop-t.t) (search rules)
    (search rules) entry
    (term-fits (integer_matrix c.args.g.now) g c.args.s c.loop-t.t (at_letter c.args.v.now) l c.requires.room) _ _ c.loop-t.invariant)
    (part-fits (integer_matrix c.args.g.now) g c.args.s c.loop-t.t (at_letter c.args.v.now) l c.requires.room)

pub loop-t-preserved : goal.loop-t-preserved
loop-t-preserved c =
    let g = IsAdmissible-integer_matrix c.args.g.now c.rank.ensures.matrix
    in let l : IsLetter c.args.g.now.rank c.loop-t.t = record { from_one = omega arith; to_rank = omega (arith, c.rank.ensures.rank) }
    in let entry = widened c.from.result c.entry.result (entry_of c.args.g.now c.args.s c.loop-t.t)
    (search rules) c.from.ensures c.entry.ensures.value
    in let same : c.loop-t.t + 1 - 1 ≡ c.loop-t.t = omega arith
    in to_z-of_z w128 _ (overflow_add-sum c)
    ∙ sum-value c.from.result (at_letter c.args.v.now c.loop-t.t) (entry_of c.args.g.now c.args.s c.loop-t.t) (search rules)
    (search rules) entry
    (term-fits (integer_matrix c.args.g.now) g c.args.s c.loop-t.t (at_letter c.args.v.now) l c.requires.room) _ _ c.loop-t.invariant
    ∙ part-next (integer_matrix c.args.g.now) c.args.s c.loop-t.t (at_letter c.args.v.now) l.from_one
    ∙ rw same

pub returns-clause-value : goal.returns-clause-value
returns-clause-value c = let last : c.loop-t.t - 1 ≡ c.args.g.now.rank = omega (arith, c.rank.ensures.rank) in c.loop-t.invariant ∙ rw last

pub returns-clause-bound : goal.returns-clause-bound
returns-clause-bound c =
    rw (returns-clause-value c)
    (sum_to-small (integer_matrix c.args.g.now) (IsAdmissible-integer_matrix c.args.g.now c.rank.ensures.matrix) c.args.s c.args.g.now.rank
    (at_letter c.args.v.now))
