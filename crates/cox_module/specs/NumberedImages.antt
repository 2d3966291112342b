-- A cell by the numbers of its members, and the images in a table.
use Rattle.std.specs.Prelude.{◌≡◌, ℕ, ◌<◌, ◌-◌, List, [], length, map, slice_index_or}
use Rattle.std.specs.Global.{Vec}
use Rattle.cox_base.specs.IntegerMatrix.{IntegerMatrix}
use Rattle.cox_context.specs.Numbers.{word_at}
use Rattle.cox_module.specs.declared.term.Term.{Term}
use Rattle.cox_module.specs.Images.{IsImage}

-- the words of the members of a cell
abbrev pub cell_words : List (List ℕ) → List ℕ → List (List ℕ)
cell_words members cell = map (word_at members) cell

-- the images under each letter, from 1, in vectors
abbrev pub images_of : List (Vec Term) → List (List Term)
images_of images = map (λ v. v.items) images

abbrev pub tables_of : List (Vec (Vec Term)) → List (List (List Term))
tables_of operators = map (λ v. images_of v.items) operators

-- the image of the k-th element of the cell under the letter s
abbrev pub image_in : List (List (List Term)) → ℕ → ℕ → List Term
image_in operators s k = slice_index_or (slice_index_or operators (s - 1) []) k []

-- the images of the first n elements of the cell under a letter
pub record AreImagesUnder (A : IntegerMatrix) (cell : List (List ℕ)) (s n : ℕ) (images : List (List Term)) : Type 0 where
  pub size : length images ≡ n
  pub each : (k : ℕ) → k < n → IsImage A cell s k (slice_index_or images k [])
