-- The inverse of s v is that of v with s behind it.
use Rattle.std.proofs.Common.{refl}
use Rattle.cox_base.specs.IntegerMatrix.{integer_matrix}
use Rattle.cox_context.specs.Numbers.{word_at}
use Rattle.cox_context.proofs.InverseNumbers.{inverse-first, inverse-none, inverse-some}
use Rattle.cox_context.proofs.RightShifts.{first-letter}
use Rattle.cox_context.proofs.context.Context.+inverse_along.Goals as goal

pub returns-then-i-eq0 : goal.returns-then-i-eq0
returns-then-i-eq0 t c =
    rw c.if-i-eq0.true (inverse-first (integer_matrix c.args.self.now.matrix) c.len-len.ensures.admissible c.args.self.now.members
    c.len-len.ensures.closed)

pub returns-in_err-inverse : goal.returns-in_err-inverse
returns-in_err-inverse t c =
    rw c.from_residual.ensures (inverse-none (integer_matrix c.args.self.now.matrix) c.len-len.ensures.admissible c.args.self.now.members
    c.len-len.ensures.closed c.link-link.result.first (word_at c.args.self.now.members c.link-link.result.rest) c.args.i
    c.link-link.result.rest c.requires.member c.link-link.ensures.word refl c.in_err-inverse.ensures)

pub right-requires-clause-letter : goal.right-requires-clause-letter
right-requires-clause-letter t c =
    first-letter (integer_matrix c.args.self.now.matrix) c.len-len.ensures.admissible c.args.self.now.members c.len-len.ensures.closed
    c.link-link.result.first (word_at c.args.self.now.members c.link-link.result.rest) c.args.i c.requires.member c.link-link.ensures.word

pub returns : goal.returns
returns t c =
    inverse-some (integer_matrix c.args.self.now.matrix) c.len-len.ensures.admissible c.args.self.now.members c.len-len.ensures.closed
    c.link-link.result.first (word_at c.args.self.now.members c.link-link.result.rest) c.args.i c.link-link.result.rest
    c.in_ok-inverse.inverse c.right.result c.link-link.ensures.word refl c.in_ok-inverse.ensures.1 c.right.ensures
