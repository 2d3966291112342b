-- What the loop of `put_pairs` keeps.
use Rattle.std.proofs.Common.{◌≡◌, ℕ, ◌++◌, List, take}
use Rattle.std.specs.List.{flat_map}
use Rattle.cox_base.specs.IntegerMatrix.{integer_matrix}
use Rattle.cox_base.specs.ShortLex.{normal_form}
use Rattle.cox_base.specs.Length.{word_length}
use Rattle.cox_hecke.specs.Family.{Family}
use Rattle.cox_hecke.specs.Row.{IsRow}
use Rattle.cox_context.specs.Numbers.{word_at}
use Rattle.cox_replies.proofs.PairTexts.{pair_line}
use Rattle.cox_replies.proofs.pairs.put_pairs.Given as goal

abbrev pub invariant-loop-x : goal.invariant-loop-x
invariant-loop-x l = (w : List ℕ) (p : Family) → word_at l.rows.elements.members l.i ≡ normal_form (integer_matrix l.rows.elements.matrix) w
    → IsRow (integer_matrix l.rows.elements.matrix) w p
    → l.out.items ≡ l.initial.out.items ++ flat_map
    (pair_line l.rows.elements.matrix.rank (word_length (integer_matrix l.rows.elements.matrix) w) l.rows.elements.members p)
    (take l.x-index l.numbers)
