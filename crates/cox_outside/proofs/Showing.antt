-- What is shown of a line that was kept.
use Rattle.std.proofs.Common.{◌≡◌, ℕ, ◌+◌, ◌-◌, ◌≤◌, Option, Bool, true, false, cond, List, length, take, refl, sym, ap, ◌∙◌, arith}
use Rattle.std.specs.Io.BufRead.{ends_with_byte}
use Rattle.std.proofs.lemmas.List.{take-take, take_all, length-take-le}
use Rattle.std.specs.List.{position}
use Rattle.cox_tokens.specs.declared.limits.TheConstants.{LINE_LIMIT}
use Rattle.cox_tokens.specs.Line.{carriage_return, content_of, is_foreign}
use Rattle.cox_outside.specs.Scan.{KeepsLine}

-- the length of the content
pub length-content : (line : List ℕ) (by_cr : Bool) → by_cr ≡ ends_with_byte carriage_return line → length (content_of line)
    ≡ cond by_cr (length line - 1) (length line)
length-content line by_cr h =
    rw (← h) (elim by_cr as (λ b. length (cond b (take (length line - 1) line) line) ≡ cond b (length line - 1) (length line)) [
      | true ↦ length-take-le (length line - 1) line (omega arith)
      | false ↦ refl
    ])

-- a prefix of what was kept
prefix-take : (line buffer : List ℕ) (count room n : ℕ) → count ≡ length line → take count buffer ≡ take room line → n ≤ count → n ≤ room
    → take n buffer ≡ take n line
prefix-take line buffer count room n size prefix within h =
    sym (take-take n count buffer within) ∙ ap (take n) prefix ∙ take-take n room line h

-- the content, where it is no longer than the room less one
pub prefix-content : (line buffer : List ℕ) (count room n : ℕ) (by_cr : Bool) → by_cr ≡ ends_with_byte carriage_return line → count
    ≡ length line → take count buffer ≡ take room line
    → n ≡ cond by_cr (count - 1) count → n ≤ room → take n buffer ≡ content_of line
prefix-content line buffer count room n by_cr last size prefix is h =
    rw (← last) (elim by_cr as (λ b. n ≡ cond b (count - 1) count → take n buffer ≡ cond b (take (length line - 1) line) line) [
      | true ↦ λ e. prefix-take line buffer count room n size prefix (omega arith) h ∙ ap (λ k. take k line) (e ∙ ap (λ k. k - 1) size)
      | false ↦ λ e. prefix-take line buffer count room n size prefix (omega arith) h ∙ take_all n line (omega arith)
    ] is)

-- a line that is not long is shown from what was kept of it
pub shown_prefix : (line buffer : List ℕ) (count n : ℕ) (by_cr : Bool) → KeepsLine line count by_cr buffer → n
    ≡ cond by_cr (count - 1) count → n ≤ LINE_LIMIT → take n buffer ≡ content_of line
shown_prefix line buffer count n by_cr k is h = prefix-content line buffer count (LINE_LIMIT + 1) n by_cr k.last k.size k.prefix is
    (omega arith)

-- its length is that of the line, less one for a CR
pub shown_length : (line buffer : List ℕ) (count n : ℕ) (by_cr : Bool) → KeepsLine line count by_cr buffer → n
    ≡ cond by_cr (count - 1) count → n ≡ length (content_of line)
shown_length line buffer count n by_cr k is = is ∙ ap (λ size. cond by_cr (size - 1) size) k.size ∙ sym (length-content line by_cr k.last)

-- the place of the first foreign byte, in an equal list
pub found_in : (prefix content : List ℕ) (place : Option ℕ) → prefix ≡ content → place ≡ position is_foreign prefix
    → position is_foreign content ≡ place
found_in prefix content place same found = ap (position is_foreign) (sym same) ∙ sym found
