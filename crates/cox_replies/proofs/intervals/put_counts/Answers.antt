-- The proof of `put_counts`.
use Rattle.std.proofs.Common.{refl, rules, arith}
use Rattle.cox_base.specs.IntegerMatrix.{integer_matrix}
use Rattle.cox_base.specs.Length.{word_length}
use Rattle.cox_base.specs.Interval.{counts_by_length}
use Rattle.cox_print.specs.AnswerText.{numbers_text}
use Rattle.cox_replies.proofs.LengthCounts.{counts-prefix}
use Rattle.cox_replies.proofs.intervals.put_counts.Goals as goal

pub returns : goal.returns
returns c = λ w list is.
    let members = c.args.context.now.members in
    let counts = counts-prefix members c.counts-counts.result c.args.letters (search rules) c.counts-counts.ensures (omega arith) in (
      numbers_text (counts_by_length members (word_length (integer_matrix c.args.context.now.matrix) w)),
      (members, list, refl),
      rw (counts, is) at c.put_numbers.ensures,
    )
