-- The pieces of a text, and the letters that they name.
use Rattle.std.proofs.Common.{◌≡◌, ℕ, suc, ◌+◌, ◌<◌, ◌≤◌, ◌⊎◌, Bool, true, false, Some, None, Option, List, [], ◌∷◌, ◌++◌, length}
use Rattle.std.proofs.Common.{take, drop, decimal, refl, sym, ap, ◌∙◌, arith, ⊎_elim, append_assoc, length-drop, drop-cons}
use Rattle.std.specs.Bool.{Decides}
use Rattle.std.specs.Option.{option_map, is_none}
use Rattle.std.specs.Str.{bytes_eq}
use Rattle.std.specs.List.{position, position_or_len, sum_by, filter_map, cons_option, slice_split, All}
use Rattle.std.proofs.lemmas.Fmt.{decimal_injective}
use Rattle.std.proofs.lemmas.Slice.Eq.{bytes_eq-Decides}
use Rattle.std.proofs.lemmas.List.Elements.{All-cons, All-nil}
use Rattle.std.proofs.lemmas.List.Sums.{sum_by-cons, fails_before_first}
use Rattle.std.proofs.lemmas.List.Splits.{slice_split_none, slice_split_first}
use Rattle.std.proofs.lemmas.List.{take_all, append-nil}
use Rattle.cox_base.specs.declared.limits.TheConstants.{MAX_RANK}
use Rattle.cox_base.specs.Matrix.{IsLetter, IsWord}
use Rattle.cox_base.specs.ShortLex.{letters}
use Rattle.cox_base.specs.WordText.{has_digits, separator, is_dot, pieces_of, letter_of}
use Rattle.cox_base.proofs.Positions.{position-cons_yes, position-cons_no, find-passes, find-range_none, find-range_some, find-range_within}

-- whether a piece is no letter
abbrev is_foreign : ℕ → List ℕ → Bool
is_foreign rank piece = is_none (letter_of rank piece)

-- how far behind a piece the next one begins
abbrev piece_step : ℕ → List ℕ → ℕ
piece_step rank piece = length piece + length (separator rank)

-- the same as `foreign_piece`, where the first piece begins at this place
abbrev pub foreign_from : ℕ → ℕ → List (List ℕ) → Option ℕ
foreign_from rank at pieces =
    option_map (λ k. sum_by (piece_step rank) (take k pieces) + at) (position (is_foreign rank) pieces)

-- a piece that is no letter
pub foreign_from-here : (rank at : ℕ) (piece : List ℕ) (pieces : List (List ℕ)) → letter_of rank piece ≡ None
    → foreign_from rank at (piece ∷ pieces) ≡ Some at
foreign_from-here rank at piece pieces none =
    rw (position-cons_yes (is_foreign rank) piece pieces (ap is_none none)) (ap Some (omega arith))

-- one that is
pub foreign_from-next : (rank at next letter : ℕ) (piece : List ℕ) (pieces : List (List ℕ)) → letter_of rank piece ≡ Some letter
    → next ≡ at + (length piece + length (separator rank)) → foreign_from rank at (piece ∷ pieces) ≡ foreign_from rank next pieces
foreign_from-next rank at next letter piece pieces some is =
    rw (position-cons_no (is_foreign rank) piece pieces (ap is_none some)) (moved (position (is_foreign rank) pieces))
  where
    moved : (found : Option ℕ)
        → option_map (λ k. sum_by (piece_step rank) (take k (piece ∷ pieces)) + at) (option_map suc found)
        ≡ option_map (λ k. sum_by (piece_step rank) (take k pieces) + next) found
    moved None = refl
    moved (Some k) = ap Some (omega (arith, is, sum_by-cons (piece_step rank) piece (take k pieces)))

-- the bytes of a text are not those of a piece
bytes_eq-false : (xs ys : List ℕ) → (xs ≡ ys → ⊥) → bytes_eq xs ys ≡ false
bytes_eq-false xs ys differ = go (bytes_eq xs ys) (bytes_eq-Decides xs ys)
  where
    go : (test : Bool) → Decides test (xs ≡ ys) → test ≡ false
    go true decides = absurd (differ (decides.0 refl))
    go false decides = refl

-- the letter that a piece names
pub letter_of-some : (rank s : ℕ) (piece : List ℕ) → rank ≤ MAX_RANK → IsLetter rank s → decimal s ≡ piece → letter_of rank piece ≡ Some s
unfolding letters
letter_of-some rank s piece limit letter is =
    find-range_some (λ t. bytes_eq (decimal t) piece) 1 rank s letter.from_one (omega (arith, letter.to_rank))
    (λ t low high. bytes_eq-false (decimal t) piece (λ e. omega (
      arith,
      high,
      decimal_injective t s (omega (arith, high, letter.to_rank, limit)) (omega (arith, letter.to_rank, limit)) (e ∙ sym is),
    )))
    ((bytes_eq-Decides (decimal s) piece).1 is)

pub letter_of-none : (rank : ℕ) (piece : List ℕ) → ((s : ℕ) → IsLetter rank s → decimal s ≡ piece → ⊥) → letter_of rank piece ≡ None
unfolding letters
letter_of-none rank piece none =
    find-range_none (λ t. bytes_eq (decimal t) piece) 1 rank
    (λ t low high. bytes_eq-false (decimal t) piece (none t (record { from_one = low; to_rank = omega (arith, high) })))

-- the numeral of a number that is no letter
pub letter_of-outside : (rank n : ℕ) (piece : List ℕ) → rank ≤ MAX_RANK → n < 100 → decimal n ≡ piece → (n ≡ 0) ⊎ (rank < n)
    → letter_of rank piece ≡ None
letter_of-outside rank n piece limit small is outside =
    letter_of-none rank piece (λ s letter e.
    let same : s ≡ n = decimal_injective s n (omega (arith, letter.to_rank, limit)) (omega arith) (e ∙ sym is) in
    ⊎_elim (λ (none : n ≡ 0). omega (arith, same, letter.from_one)) (λ (beyond : rank < n). omega (arith, same, letter.to_rank)) outside)

-- a piece that names a letter is its numeral
pub letter_of-is : (rank s : ℕ) (piece : List ℕ) → letter_of rank piece ≡ Some s → decimal s ≡ piece
letter_of-is rank s piece is =
    (bytes_eq-Decides (decimal s) piece).0 (find-passes (λ t. bytes_eq (decimal t) piece) (letters rank) s is)

-- what a piece names is a letter
pub letter_of-IsLetter : (rank s : ℕ) (piece : List ℕ) → letter_of rank piece ≡ Some s → IsLetter rank s
unfolding letters
letter_of-IsLetter rank s piece is =
    let within = find-range_within (λ t. bytes_eq (decimal t) piece) 1 rank s is in
    record { from_one = within.0; to_rank = omega (arith, within.1) }

-- the letters of pieces
pub IsWord-filter_map : (rank : ℕ) (pieces : List (List ℕ)) → IsWord rank (filter_map (letter_of rank) pieces)
IsWord-filter_map rank [] = All-nil (IsLetter rank)
IsWord-filter_map rank (piece ∷ pieces) = go (letter_of rank piece) refl (IsWord-filter_map rank pieces)
  where
    go : (found : Option ℕ) → letter_of rank piece ≡ found → IsWord rank (filter_map (letter_of rank) pieces)
        → IsWord rank (cons_option found (filter_map (letter_of rank) pieces))
    go None is rest = rest
    go (Some s) is rest = All-cons (IsLetter rank) s _ (letter_of-IsLetter rank s piece is) rest

-- the pieces of a text with dots
pub pieces_of-dotted : (rank : ℕ) (text : List ℕ) → has_digits rank ≡ false → pieces_of rank text ≡ slice_split is_dot text
pieces_of-dotted rank text dotted = rw dotted

-- the last piece
pub slice_split-last : (text piece : List ℕ) (n : ℕ) → n ≡ position_or_len is_dot text → piece ≡ take n text → length text ≤ n
    → slice_split is_dot text ≡ piece ∷ []
slice_split-last text piece n count front end =
    let none : All (λ byte. is_dot byte ≡ false) text = λ k d h. fails_before_first is_dot text k d (omega (arith, count)) in
    slice_split_none is_dot text none ∙ ap (λ first. first ∷ []) (sym (front ∙ take_all n text end))

-- a piece with a dot behind it
pub slice_split-next : (text piece behind : List ℕ) (dot n : ℕ) → n ≡ position_or_len is_dot text → piece ≡ take n text
    → drop n text ≡ dot ∷ behind → slice_split is_dot text ≡ piece ∷ slice_split is_dot behind
slice_split-next text piece behind dot n count front back =
    let within : n < length text = omega (arith, length-drop n text, ap length back) in
    let split = rw (← count) at (slice_split_first is_dot text 0 (rw (← count) within)) in
    let next : n + 1 ≡ suc n = omega arith in
    let rest : drop (n + 1) text ≡ behind = cc (drop-cons text n 0 within, next) in
    split ∙ rw (front, rest)

-- the letters of the pieces that were taken, and of those that are left
pub filter_map-next : (rank : ℕ) (piece : List ℕ) (s : ℕ) (old new : List (List ℕ)) (word longer whole : List ℕ) → old ≡ piece ∷ new
    → letter_of rank piece ≡ Some s → longer ≡ word ++ s ∷ [] → word ++ filter_map (letter_of rank) old ≡ whole
    → longer ++ filter_map (letter_of rank) new ≡ whole
filter_map-next rank piece s old new word longer whole taken letter pushed read =
    let named : filter_map (letter_of rank) (piece ∷ new) ≡ s ∷ filter_map (letter_of rank) new =
    ap (λ found. cons_option found (filter_map (letter_of rank) new)) letter in
    rw (pushed, append_assoc) (ap (λ rest. word ++ rest) (sym named ∙ ap (filter_map (letter_of rank)) (sym taken)) ∙ read)

-- no piece is left
pub filter_map-end : (rank : ℕ) (left : List (List ℕ)) (word whole : List ℕ) → left ≡ [] → word ++ filter_map (letter_of rank) left ≡ whole
    → word ≡ whole
filter_map-end rank left word whole end read =
    sym (append-nil word) ∙ ap (λ pieces. word ++ filter_map (letter_of rank) pieces) (sym end) ∙ read
