-- The identity alone is listed and marked.
use Rattle.std.proofs.Common.{rules, ◌≡◌, ◌∷◌, [], false}
use Rattle.std.proofs.Math.ListN.{replicate}
use Rattle.cox_base.specs.IntegerMatrix.{integer_matrix}
use Rattle.cox_context.proofs.ListedMembers.{listed-identity, marked-identity}
use Rattle.cox_context.proofs.appending.Found.new.Goals as goal

pub returns-clause-marked : goal.returns-clause-marked
returns-clause-marked c =
    let none : c.in_ok-marks.marks.items ≡ replicate c.len.result false = search rules
    in let one : c.in_ok-numbers.numbers.items ≡ 0 ∷ [] = search rules
    in rw (one, none, c.len.ensures.len) (marked-identity (integer_matrix c.args.context.now.matrix) c.len.ensures.admissible
    c.args.context.now.members c.len.ensures.closed)

pub returns-clause-found : goal.returns-clause-found
returns-clause-found c =
    let one : c.in_ok-numbers.numbers.items ≡ 0 ∷ [] = search rules
    in rw one (listed-identity (integer_matrix c.args.context.now.matrix) c.len.ensures.admissible c.args.context.now.members
    c.len.ensures.closed)
