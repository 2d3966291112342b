-- The tables are read off the left shifts.
use Rattle.std.proofs.Common.{arith}
use Rattle.cox_base.specs.IntegerMatrix.{IntegerMatrix, integer_matrix}
use Rattle.cox_base.specs.Admissible.{IsAdmissible}
use Rattle.cox_reflect.proofs.Admissible.{IsAdmissible-integer_matrix}
use Rattle.cox_context.proofs.OrderOfMembers.{left-sets, right-sets}
use Rattle.cox_context.proofs.tables.Tables.new.Goals as goal

pub returns : goal.returns
returns c =
    let A : IntegerMatrix = integer_matrix c.args.group.now
    in let g : IsAdmissible A = IsAdmissible-integer_matrix c.args.group.now c.rank-rank.ensures.matrix
    in let words = c.args.listing.now.members
    in let size = rw c.shifts.ensures at c.in_ok-right.ensures.size
    in let shifts = rw c.shifts.ensures at c.in_ok-right.ensures.shifts
    in record {
      right_size = size;
      right_shifts = shifts;
      left_bits =
          left-sets A g words c.requires.closed c.args.listing.now.left.items c.in_ok-left_descents.left_descents.items c.requires.left
          (rw (c.rank-rank.ensures.rank, c.len-count.ensures.len, c.as_slice.ensures.value) at c.in_ok-left_descents.ensures);
      right_bits =
          right-sets A g words c.requires.closed c.in_ok-right.right.items c.in_ok-right_descents.right_descents.items size shifts
          (rw (c.rank-rank.ensures.rank, c.len-count.ensures.len, c.as_slice-2.ensures.value) at c.in_ok-right_descents.ensures);
      kept_inverses = record {
        size = λ some. absurd (omega (arith, some));
        inverses = record { inverse = λ i l m. absurd (omega (arith, m)) };
      };
    }
