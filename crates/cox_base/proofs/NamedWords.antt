-- The word that a text names: where the pieces of the text are letters, it is written so; and it has no more letters than there are pieces.
use Rattle.std.proofs.Common.{◌≡◌, ℕ, suc, ◌+◌, ◌<◌, ◌≤◌, Bool, true, false, cond, Option, Some, None, List, [], ◌∷◌, ◌++◌, map, length}
use Rattle.std.proofs.Common.{decimal, codes, refl, sym, ap, ◌∙◌, arith, inl, inr, append-nil}
use Rattle.std.specs.List.{filter_map, cons_option, flat_map, slice_split, join_by, join_with_byte}
use Rattle.std.proofs.lemmas.Bool.{cases_Bool}
use Rattle.std.proofs.lemmas.Slice.Eq.{bytes_eq-Decides}
use Rattle.std.proofs.lemmas.List.Splits.{join_with_byte-slice_split}
use Rattle.cox_base.specs.WordText.{has_digits, separator, word_text, is_e, is_dot, pieces_of, letter_of, word_of, first_foreign}
use Rattle.cox_base.proofs.TextPieces.{letter_of-is, foreign_from, foreign_from-here, foreign_from-next}

-- pieces that are letters are the numerals of what they name
numerals-pieces : (rank at : ℕ) (pieces : List (List ℕ)) → foreign_from rank at pieces ≡ None
    → map decimal (filter_map (letter_of rank) pieces) ≡ pieces
numerals-pieces rank at [] none = refl
numerals-pieces rank at (piece ∷ pieces) none =
    let next = at + (length piece + length (separator rank)) in
    named (letter_of rank piece) refl (numerals-pieces rank next pieces)
  where
    named : (found : Option ℕ) → letter_of rank piece ≡ found
        → (foreign_from rank (at + (length piece + length (separator rank))) pieces ≡ None
        → map decimal (filter_map (letter_of rank) pieces) ≡ pieces)
        → map decimal (cons_option found (filter_map (letter_of rank) pieces)) ≡ piece ∷ pieces
    named None e more = absurd (let here = sym none ∙ foreign_from-here rank at piece pieces e in cc)
    named (Some s) e more =
        let next = at + (length piece + length (separator rank)) in
        let rest = more (sym (foreign_from-next rank at next s piece pieces e refl) ∙ none) in
        let first = letter_of-is rank s piece e in
        ap (λ l. l ∷ map decimal (filter_map (letter_of rank) pieces)) first ∙ ap (λ l. piece ∷ l) rest

-- pieces one behind the other
abbrev joined : List ℕ → List (List ℕ) → List ℕ
joined between pieces = join_by (λ piece. piece) between pieces

joined-bytes : (text : List ℕ) → flat_map (λ piece. piece) (map (λ byte. byte ∷ []) text) ≡ text
joined-bytes [] = refl
joined-bytes (x ∷ text) = ap (λ rest. x ∷ rest) (joined-bytes text)

joined-nothing : (pieces : List (List ℕ)) → joined [] pieces ≡ flat_map (λ piece. piece) pieces
joined-nothing [] = refl
joined-nothing (piece ∷ pieces) = refl

joined-dot : (pieces : List (List ℕ)) → joined (46 ∷ []) pieces ≡ join_with_byte 46 pieces
joined-dot [] = refl
joined-dot (piece ∷ []) = append-nil piece
joined-dot (piece ∷ next ∷ pieces) = ap (λ rest. piece ++ 46 ∷ rest) (joined-dot (next ∷ pieces))

-- those of a text give it back
joined-pieces : (rank : ℕ) (text : List ℕ) → joined (separator rank) (pieces_of rank text) ≡ text
joined-pieces rank text = elim (cases_Bool (has_digits rank)) [
  | inl digits ↦ rw digits (joined-nothing (map (λ byte. byte ∷ []) text) ∙ joined-bytes text)
  | inr dotted ↦ rw dotted (joined-dot (slice_split is_dot text) ∙ join_with_byte-slice_split 46 text)
]

-- and numerals give the text of a word
joined-letters : (rank s : ℕ) (word : List ℕ) → word_text rank (s ∷ word) ≡ joined (separator rank) (map decimal (s ∷ word))
joined-letters rank s word = ap (λ rest. decimal s ++ rest) (others word)
  where
    others : (word : List ℕ)
        → flat_map (λ t. separator rank ++ decimal t) word ≡ flat_map (λ next. separator rank ++ next) (map decimal word)
    others [] = refl
    others (t ∷ word) = ap (λ rest. (separator rank ++ decimal t) ++ rest) (others word)

-- a text whose pieces are letters is that of the word that it names
pub text-word : (rank : ℕ) (text : List ℕ) → 0 < length text → first_foreign rank text ≡ None → word_text rank (word_of rank text) ≡ text
text-word rank text some none = tested (is_e text) refl
  where
    whole : (word : List ℕ) → map decimal word ≡ pieces_of rank text → word_text rank word ≡ text
    whole [] pieces = absurd (let none : text ≡ [] = sym (joined-pieces rank text) ∙ ap (joined (separator rank)) (sym pieces) in
        omega (arith, ap (length {A = ℕ}) none))
    whole (s ∷ word) pieces = joined-letters rank s word ∙ ap (joined (separator rank)) pieces ∙ joined-pieces rank text

    tested : (b : Bool) → is_e text ≡ b → word_text rank (word_of rank text) ≡ text
    tested true e = rw e (sym ((bytes_eq-Decides text (codes "e")).0 e))
    tested false e =
        rw e (whole (filter_map (letter_of rank) (pieces_of rank text)) (numerals-pieces rank 1 (pieces_of rank text) (rw e at none)))

-- no more letters than pieces
length-filter_map : (h : List ℕ → Option ℕ) (pieces : List (List ℕ)) → length (filter_map h pieces) ≤ length pieces
length-filter_map h [] = omega arith
length-filter_map h (piece ∷ pieces) = found (h piece) (length-filter_map h pieces)
  where
    found : (s : Option ℕ) → length (filter_map h pieces) ≤ length pieces
        → length (cons_option s (filter_map h pieces)) ≤ suc (length pieces)
    found None few = omega arith
    found (Some s) few = omega arith

pub word_of-short : (rank : ℕ) (text : List ℕ) → length (word_of rank text) ≤ length (pieces_of rank text)
word_of-short rank text = tested (is_e text) (pieces_of rank text)
  where
    tested : (b : Bool) (pieces : List (List ℕ)) → length (cond b [] (filter_map (letter_of rank) pieces)) ≤ length pieces
    tested true pieces = omega arith
    tested false pieces = length-filter_map (letter_of rank) pieces
