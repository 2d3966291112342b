-- A loop over the letters of a word from the last to the first: xs are the items so far, whose letters f gives.
use Rattle.std.proofs.Common.{◌≡◌, ℕ, ◌<◌, List, [], ◌∷◌, ◌++◌, length, reverse, map, get_or, arith}
use Rattle.std.proofs.lemmas.List.{map-append, reverse-append, length-map, length-reverse}
use Rattle.cox_base.specs.Matrix.{IsLetter, IsWord}
use Rattle.cox_reflect.proofs.WordsAndSubwords.{IsWord-reverse}

-- one more letter before
pub reverse-map_push : {X : Type 0} (f : X → ℕ) (xs : List X) (x : X) → reverse (map f (xs ++ x ∷ [])) ≡ f x ∷ reverse (map f xs)
reverse-map_push f xs x = rw (map-append f xs (x ∷ [])) (reverse-append (map f xs) (f x ∷ []))

-- the letter of this turn
pub turn-letter : (n k s : ℕ) (w : List ℕ) → IsWord n w → (k < length (reverse w)) × (s ≡ get_or (reverse w) k s) → IsLetter n s
turn-letter n k s w h turn = rw turn.1 (IsWord-reverse w h k s turn.0)

-- there is a letter to come
pub turn-length : {X : Type 0} (f : X → ℕ) (xs : List X) (w : List ℕ) → length xs < length (reverse w)
    → length (reverse (map f xs)) < length w
turn-length f xs w before = omega (arith, before, length-reverse w, length-reverse (map f xs), length-map xs f)
