-- What the loop of `put_other_letters` keeps.
use Rattle.std.proofs.Common.{◌≡◌, ◌++◌, take, decimal}
use Rattle.std.specs.List.{flat_map}
use Rattle.cox_print.proofs.element.put_other_letters.Given as goal

abbrev pub invariant-loop-letter : goal.invariant-loop-letter
invariant-loop-letter l =
    l.out.items ≡ l.initial.out.items ++ flat_map (λ letter. l.separator ++ decimal letter) (take l.letter-index l.letters)
