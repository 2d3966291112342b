-- What the loop of `push_row` keeps.
use Rattle.std.proofs.Common.{◌≡◌, ◌+◌, ◌-◌, ◌++◌, map}
use Rattle.std.specs.List.{range_with_len}
use Rattle.cox_base.specs.NamedType.{type_label}
use Rattle.cox_base.proofs.named_type.push_row.Given as goal

abbrev pub invariant-loop-t : goal.invariant-loop-t
invariant-loop-t l =
    l.labels.items ≡ l.initial.labels.items ++ map (λ t. type_label l.letter l.n l.s t) (range_with_len (l.s + 1) (l.t - (l.s + 1)))
