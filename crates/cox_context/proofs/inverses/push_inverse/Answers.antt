-- The inverse of the last member is found by that of the rest of its word, and is noted at both.
use Rattle.std.proofs.Common.{ℕ, ◌-◌, ◌<◌, List, length, vec_len, ap, sym, arith}
use Rattle.std.proofs.lemmas.Bool.{eqb-false}
use Rattle.cox_base.specs.IntegerMatrix.{integer_matrix}
use Rattle.cox_reflect.proofs.Admissible.{IsAdmissible-integer_matrix}
use Rattle.cox_context.proofs.InverseNumbers.{rest-known, row-within, inverses-last, others-count}
use Rattle.cox_context.proofs.PushedRows.{last-place}
use Rattle.cox_context.proofs.inverses.push_inverse.Goals as goal

pub inverse_by_rest-inverse-requires-clause-rest : goal.inverse_by_rest-inverse-requires-clause-rest
inverse_by_rest-inverse-requires-clause-rest c = λ t r before rest.
    let some : 0 < length c.args.table.now.items = omega (
      arith,
      eqb-false (vec_len c.args.table.now) 0 (sym c.if-is_empty.ensures),
      c.as_slice.ensures.len,
      ap (λ (items : List ℕ). length items) c.as_slice.ensures.value,
    )
    in let last = last-place c.args.shifts.now.members c.members.result.now c.len-last.result c.members.ensures c.len-last.ensures.len
    c.len-last.ensures.some
    in rw c.as_slice.ensures.value (rest-known (integer_matrix c.args.shifts.now.matrix)
    (IsAdmissible-integer_matrix c.args.shifts.now.matrix c.rank-rank.ensures.matrix) c.args.shifts.now.members c.rank-rank.ensures.closed
    c.args.table.now.items c.requires.others some (c.len-last.result - 1) last t r before rest)

pub push_row-requires-clause-below : goal.push_row-requires-clause-below
push_row-requires-clause-below c = λ t k l f.
    let within = row-within (integer_matrix c.args.shifts.now.matrix)
    (IsAdmissible-integer_matrix c.args.shifts.now.matrix c.rank-rank.ensures.matrix) c.args.shifts.now.members c.rank-rank.ensures.closed
    _ c.inverse_by_rest-inverse.result c.inverse_by_rest-inverse.ensures t k l (rw c.unwrap_or.ensures at f)
    in omega (arith, within, c.len-last.ensures.len, ap (λ (words : List (List ℕ)). length words) c.members.ensures)

pub returns-clause-size : goal.returns-clause-size
returns-clause-size c = λ some. omega (
  arith,
  c.push_row.ensures.size,
  last-place c.args.shifts.now.members c.members.result.now c.len-last.result c.members.ensures c.len-last.ensures.len
      c.len-last.ensures.some,
)

pub returns-clause-kept : goal.returns-clause-kept
returns-clause-kept c =
    let some : 0 < length c.args.table.now.items = omega (
      arith,
      eqb-false (vec_len c.args.table.now) 0 (sym c.if-is_empty.ensures),
      c.as_slice.ensures.len,
      ap (λ (items : List ℕ). length items) c.as_slice.ensures.value,
    )
    in let last = last-place c.args.shifts.now.members c.members.result.now c.len-last.result c.members.ensures c.len-last.ensures.len
    c.len-last.ensures.some
    in inverses-last (integer_matrix c.args.shifts.now.matrix)
    (IsAdmissible-integer_matrix c.args.shifts.now.matrix c.rank-rank.ensures.matrix) c.args.shifts.now.members c.rank-rank.ensures.closed
    c.args.table.now.items c.push_row.new.table.items c.inverse_by_rest-inverse.result (c.len-last.result - 1) c.requires.others some last
    c.inverse_by_rest-inverse.ensures (rw c.unwrap_or.ensures at c.push_row.ensures)

pub inverse_by_rest-inverse-requires-clause-before : goal.inverse_by_rest-inverse-requires-clause-before
inverse_by_rest-inverse-requires-clause-before c =
    let count = others-count (integer_matrix c.args.shifts.now.matrix) c.args.shifts.now.members c.args.table.now.items c.requires.others
    (omega (
      arith,
      eqb-false (vec_len c.args.table.now) 0 (sym c.if-is_empty.ensures),
      c.as_slice.ensures.len,
      ap (λ (items : List ℕ). length items) c.as_slice.ensures.value,
    )) (c.len-last.result - 1)
    (last-place c.args.shifts.now.members c.members.result.now c.len-last.result c.members.ensures c.len-last.ensures.len
    c.len-last.ensures.some)
    in rw c.as_slice.ensures.value (omega (arith, count))

pub push_row-requires-clause-size : goal.push_row-requires-clause-size
push_row-requires-clause-size c =
    let count = others-count (integer_matrix c.args.shifts.now.matrix) c.args.shifts.now.members c.args.table.now.items c.requires.others
    (omega (
      arith,
      eqb-false (vec_len c.args.table.now) 0 (sym c.if-is_empty.ensures),
      c.as_slice.ensures.len,
      ap (λ (items : List ℕ). length items) c.as_slice.ensures.value,
    )) (c.len-last.result - 1)
    (last-place c.args.shifts.now.members c.members.result.now c.len-last.result c.members.ensures c.len-last.ensures.len
    c.len-last.ensures.some)
    in omega (arith, count)
