-- The list has the coordinates of the root under the letters so far.
use Rattle.std.proofs.Common.{reverse, map}
use Rattle.cox_base.specs.IntegerMatrix.{integer_matrix}
use Rattle.cox_reflect.specs.Action.{simple_root}
use Rattle.cox_reflect.specs.WordAction.{act}
use Rattle.cox_reflect.proofs.RootCoordinates.{AreCoordinates}
use Rattle.cox_reflect.proofs.coordinates.image.Given as goal

-- the letters taken so far, the last of the word first, have acted
abbrev pub invariant-loop-letter : goal.invariant-loop-letter
invariant-loop-letter l = AreCoordinates (integer_matrix l.g) l.root
    (act (integer_matrix l.g) (reverse (map (λ x. x.now) l.yielded)) (simple_root l.s))
