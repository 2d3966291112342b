-- A text that is cut before its first byte of a kind.
use Rattle.std.proofs.Common.{◌≡◌, ℕ, ◌==◌, Bool, List, ◌++◌, take, drop, sym, ◌∙◌}
use Rattle.std.specs.List.{position_or_len}
use Rattle.std.proofs.lemmas.List.{take-append-drop}
use Rattle.cox_polyread.proofs.Splits.{AreNot, Begins, AreSame, split-one, before-not, behind-begins}

-- whether a byte is this one
abbrev pub is_byte : ℕ → ℕ → Bool
is_byte byte other = other == byte

-- the two parts are the text
pub cut-whole : (byte : ℕ) (text front back : List ℕ) → front ≡ take (position_or_len (is_byte byte) text) text
    → back ≡ drop (position_or_len (is_byte byte) text) text → text ≡ front ++ back
cut-whole byte text front back front_is back_is =
    rw (front_is, back_is) (sym (take-append-drop (position_or_len (is_byte byte) text) text))

-- and they are the only ones of which the first has no such byte, and the second begins with one or is empty
pub cut-one : (byte : ℕ) (text front back us bs : List ℕ) → front ≡ take (position_or_len (is_byte byte) text) text
    → back ≡ drop (position_or_len (is_byte byte) text) text → text ≡ us ++ bs → AreNot (is_byte byte) us → Begins (is_byte byte) bs
    → AreSame us front bs back
cut-one byte text front back us bs front_is back_is whole none begins =
    let n = position_or_len (is_byte byte) text in
    rw (front_is, back_is) (split-one (is_byte byte) us (take n text) bs (drop n text) none (before-not (is_byte byte) text) begins
    (behind-begins (is_byte byte) text) (sym whole ∙ sym (take-append-drop n text)))
