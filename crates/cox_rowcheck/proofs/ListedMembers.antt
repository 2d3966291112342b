-- The members in some order, each as a word.
use Rattle.std.proofs.Common.{◌≡◌, ℕ, ◌<◌, List, [], length, map, slice_index_or, Contains, ap, sym, ◌∙◌, arith}
use Rattle.std.specs.Prelude.{IsPermutation}
use Rattle.std.proofs.lemmas.List.{length-map, get_or_default, get_or-map}
use Rattle.std.proofs.lemmas.List.Sorted.{length_permutation, IsPermutation-sym, Contains-permutation}
use Rattle.arrayvec.specs.ArrayVec.{ArrayVec}
use Rattle.cox_context.specs.Numbers.{word_at}
use Rattle.cox_context.proofs.PlacedWords.{placed-contains}
use Rattle.cox_rowcheck.specs.Prefixes.{letters_of}

-- there are as many words as members
pub listed-count : (members : List (List ℕ)) (words : List (ArrayVec ℕ)) → IsPermutation members (map letters_of words)
    → length words ≡ length members
listed-count members words moved = sym (length-map words letters_of) ∙ length_permutation members (map letters_of words) moved

-- the letters of the n-th word
pub listed-at : (words : List (ArrayVec ℕ)) (n : ℕ) (word : ArrayVec ℕ) → n < length words → word ≡ slice_index_or words n word
    → word_at (map letters_of words) n ≡ word.items
listed-at words n word l is =
    get_or_default (map letters_of words) n [] (letters_of word) (omega (arith, l, length-map words letters_of))
    ∙ get_or-map letters_of words n word (letters_of word) l ∙ ap letters_of (sym is)

-- it is a member
pub listed-member : (members : List (List ℕ)) (words : List (ArrayVec ℕ)) (n : ℕ) (word : ArrayVec ℕ)
    → IsPermutation members (map letters_of words) → n < length words → word ≡ slice_index_or words n word → Contains members word.items
listed-member members words n word moved l is =
    Contains-permutation (map letters_of words) members word.items (IsPermutation-sym members (map letters_of words) moved)
    (placed-contains (map letters_of words) word.items (record {
      i = n;
      within = omega (arith, l, length-map words letters_of);
      is = listed-at words n word l is;
    }))
