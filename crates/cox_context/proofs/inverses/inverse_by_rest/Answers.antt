-- The inverse of s v is that of v with s behind it, which the table of right shifts has.
use Rattle.std.proofs.Common.{◌+◌, ◌-◌, ◌*◌, ◌<◌, length, refl, arith}
use Rattle.cox_base.specs.Matrix.{IsLetter}
use Rattle.cox_base.specs.IntegerMatrix.{integer_matrix}
use Rattle.cox_reflect.proofs.Admissible.{IsAdmissible-integer_matrix}
use Rattle.cox_context.specs.Numbers.{word_at}
use Rattle.cox_context.proofs.InverseNumbers.{inverse-first, inverse-none, inverse-some}
use Rattle.cox_context.proofs.RightShifts.{first-letter}
use Rattle.cox_context.proofs.ShiftPlaces.{place-within}
use Rattle.cox_context.proofs.inverses.inverse_by_rest.Goals as goal

pub returns-then-i-eq0 : goal.returns-then-i-eq0
returns-then-i-eq0 c =
    rw c.if-i-eq0.true (inverse-first (integer_matrix c.args.shifts.now.matrix)
    (IsAdmissible-integer_matrix c.args.shifts.now.matrix c.rank-rank.ensures.matrix) c.args.shifts.now.members c.rank-rank.ensures.closed)

pub returns-in_err-inverse : goal.returns-in_err-inverse
returns-in_err-inverse c =
    let word = rw c.members.ensures at c.link-link.ensures.word
    in let known = c.requires.rest c.link-link.result.first c.link-link.result.rest c.link-link.ensures.inward word
    in rw c.from_residual.ensures (inverse-none (integer_matrix c.args.shifts.now.matrix)
    (IsAdmissible-integer_matrix c.args.shifts.now.matrix c.rank-rank.ensures.matrix) c.args.shifts.now.members c.rank-rank.ensures.closed
    c.link-link.result.first (word_at c.args.shifts.now.members c.link-link.result.rest) c.args.i c.link-link.result.rest
    c.requires.member word refl (rw (← c.in_err-inverse.ensures) at known))

pub entry-requires-clause-letter : goal.entry-requires-clause-letter
entry-requires-clause-letter c =
    rw c.rank-rank.ensures.rank (first-letter (integer_matrix c.args.shifts.now.matrix)
    (IsAdmissible-integer_matrix c.args.shifts.now.matrix c.rank-rank.ensures.matrix) c.args.shifts.now.members c.rank-rank.ensures.closed
    c.link-link.result.first (word_at c.args.shifts.now.members c.link-link.result.rest) c.args.i c.requires.member
    (rw c.members.ensures at c.link-link.ensures.word))

pub entry-requires-clause-few : goal.entry-requires-clause-few
entry-requires-clause-few c =
    let known = c.requires.rest c.link-link.result.first c.link-link.result.rest c.link-link.ensures.inward
    (rw c.members.ensures at c.link-link.ensures.word)
    in let found = rw (← c.in_ok-inverse.ensures) at known
    in omega (arith, found.0, c.rank-rank.ensures.closed.few)

pub entry-requires-clause-within : goal.entry-requires-clause-within
entry-requires-clause-within c =
    let known = c.requires.rest c.link-link.result.first c.link-link.result.rest c.link-link.ensures.inward
    (rw c.members.ensures at c.link-link.ensures.word)
    in let found = rw (← c.in_ok-inverse.ensures) at known
    in let letter : IsLetter c.args.shifts.now.matrix.rank c.link-link.result.first
    = first-letter (integer_matrix c.args.shifts.now.matrix)
    (IsAdmissible-integer_matrix c.args.shifts.now.matrix c.rank-rank.ensures.matrix) c.args.shifts.now.members c.rank-rank.ensures.closed
    c.link-link.result.first (word_at c.args.shifts.now.members c.link-link.result.rest) c.args.i c.requires.member
    (rw c.members.ensures at c.link-link.ensures.word)
    in rw (c.rank-rank.ensures.rank, c.requires.size) (place-within c.args.shifts.now.matrix.rank (length c.args.shifts.now.members)
    c.in_ok-inverse.inverse c.link-link.result.first letter found.0)

pub returns : goal.returns
returns c =
    let g = IsAdmissible-integer_matrix c.args.shifts.now.matrix c.rank-rank.ensures.matrix
    in let word = rw c.members.ensures at c.link-link.ensures.word
    in let known = c.requires.rest c.link-link.result.first c.link-link.result.rest c.link-link.ensures.inward word
    in let found = rw (← c.in_ok-inverse.ensures) at known
    in let letter : IsLetter c.args.shifts.now.matrix.rank c.link-link.result.first
    = first-letter (integer_matrix c.args.shifts.now.matrix) g c.args.shifts.now.members c.rank-rank.ensures.closed
    c.link-link.result.first (word_at c.args.shifts.now.members c.link-link.result.rest) c.args.i c.requires.member word
    in let within : c.in_ok-inverse.inverse * c.args.shifts.now.matrix.rank + (c.link-link.result.first - 1) < length c.args.right.now
    = rw c.requires.size (place-within c.args.shifts.now.matrix.rank (length c.args.shifts.now.members) c.in_ok-inverse.inverse
    c.link-link.result.first letter found.0)
    in rw (c.entry.ensures, c.rank-rank.ensures.rank) (inverse-some (integer_matrix c.args.shifts.now.matrix) g c.args.shifts.now.members
    c.rank-rank.ensures.closed c.link-link.result.first (word_at c.args.shifts.now.members c.link-link.result.rest) c.args.i
    c.link-link.result.rest c.in_ok-inverse.inverse _ word refl found.1
    (c.requires.right.shift c.link-link.result.first c.in_ok-inverse.inverse letter found.0 within))
