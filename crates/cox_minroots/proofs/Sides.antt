-- The word whose left descents are the descents on a side has as many letters.
use Rattle.std.proofs.Common.{◌≡◌, ℕ, List, length, refl}
use Rattle.std.proofs.lemmas.List.{length-reverse}
use Rattle.cox_base.specs.declared.side.Side.{Side}
use Rattle.cox_base.specs.declared.side.Side.TheVariants.{Left, Right}
use Rattle.cox_reflect.specs.Side.{word_on_side}

pub length-word_on_side : (side : Side) (w : List ℕ) → length (word_on_side side w) ≡ length w
length-word_on_side Left w = refl
length-word_on_side Right w = length-reverse w
