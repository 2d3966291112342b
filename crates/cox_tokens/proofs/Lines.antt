-- The lines of a text, by its first line.
use Rattle.std.proofs.Common.{◌≡◌, ◌≢◌, ℕ, suc, ◌+◌, ◌-◌, ◌<◌, ◌≤◌, Bool, true, false, ◌==◌, nat_lt, nat_le, cond, List, [], ◌∷◌, ◌++◌}
use Rattle.std.proofs.Common.{length, take}
use Rattle.std.proofs.Common.{slice_index, refl, sym, ap, ◌∙◌, arith, add_comm, append_assoc, length-append}
use Rattle.std.proofs.lemmas.List.Elements.{All-head, All-tail}
use Rattle.std.proofs.lemmas.Bool.Decides.{nat_tests}
use Rattle.std.proofs.Math.Seq.{take-append-add}
use Rattle.std.proofs.lemmas.List.Splits.{length-slice_split}
use Rattle.std.specs.List.{slice_split, onto_first as std_onto_first}
use Rattle.std.specs.Io.BufRead.{strip_last}
use Rattle.cox_tokens.specs.Line.{line_feed, lines_of, ended_lines, lines_within}
use Rattle.cox_tokens.specs.Unbroken.{IsUnbroken}

-- the first byte of an unbroken text is not LF
not_lf : (byte : ℕ) (bytes : List ℕ) → IsUnbroken (byte ∷ bytes) → (byte == line_feed) ≡ false
not_lf byte bytes h = let other : byte ≢ line_feed = All-head (λ b. b ≢ line_feed) byte bytes h in grind (arith, nat_tests)

-- nor are the others
unbroken_tail : (byte : ℕ) (bytes : List ℕ) → IsUnbroken (byte ∷ bytes) → IsUnbroken bytes
unbroken_tail byte bytes h = All-tail (λ b. b ≢ line_feed) byte bytes h

-- puts a byte before the first line, or makes it a line where there is none
abbrev pub onto_first : ℕ → List (List ℕ) → List (List ℕ)
onto_first byte [] = (byte ∷ []) ∷ []
onto_first byte (line ∷ lines) = (byte ∷ line) ∷ lines

-- puts a byte before the first line, where there is one
abbrev pub into_first : ℕ → List (List ℕ) → List (List ℕ)
into_first byte [] = []
into_first byte (line ∷ lines) = (byte ∷ line) ∷ lines

-- a list with one more item in front, cut or not
cut_behind : (b : Bool) (byte count : ℕ) (bytes : List ℕ)
    → cond b (take (suc count) (byte ∷ bytes)) (byte ∷ bytes) ≡ byte ∷ cond b (take count bytes) bytes
cut_behind true byte count bytes = refl
cut_behind false byte count bytes = refl

-- a byte at the end is taken off whatever stands in front
strip_last-more : (last byte next : ℕ) (bytes : List ℕ) → strip_last last (byte ∷ next ∷ bytes) ≡ byte ∷ strip_last last (next ∷ bytes)
strip_last-more last byte next bytes =
    let two : suc (suc (length bytes)) - 1 ≡ suc (length bytes) = omega arith in
    let one : suc (length bytes) - 1 ≡ length bytes = omega arith in
    let more : nat_lt 0 (suc (suc (length bytes))) ≡ true = grind (arith, nat_tests) in
    let some : nat_lt 0 (suc (length bytes)) ≡ true = grind (arith, nat_tests) in
    rw (two, one, more, some) (cut_behind (slice_index (next ∷ bytes) (length bytes) == last) byte (length bytes) (next ∷ bytes))

-- the lines of a text by its first byte
pub lines_of-byte : (byte : ℕ) (bytes : List ℕ)
    → lines_of (byte ∷ bytes) ≡ cond (byte == line_feed) ([] ∷ lines_of bytes) (onto_first byte (lines_of bytes))
lines_of-byte byte [] = alone (byte == line_feed) refl
  where
    alone : (b : Bool) → (byte == line_feed) ≡ b
        → slice_split (λ x. x == line_feed) (cond b [] (byte ∷ [])) ≡ cond b ([] ∷ []) ((byte ∷ []) ∷ [])
    alone true e = refl
    alone false e = rw e refl
lines_of-byte byte (next ∷ bytes) = ap (slice_split (λ x. x == line_feed)) (strip_last-more line_feed byte next bytes)
    ∙ onto_some (byte == line_feed) byte (slice_split (λ x. x == line_feed) (strip_last line_feed (next ∷ bytes)))
  where
    onto_some : (b : Bool) (byte : ℕ) (parts : List (List ℕ))
        → cond b ([] ∷ parts) (std_onto_first byte parts) ≡ cond b ([] ∷ parts) (onto_first byte parts)
    onto_some b byte [] = refl
    onto_some b byte (part ∷ parts) = refl

-- those that end by LF, by the first byte
pub ended_lines-byte : (byte : ℕ) (bytes : List ℕ)
    → ended_lines (byte ∷ bytes) ≡ cond (byte == line_feed) ([] ∷ ended_lines bytes) (into_first byte (ended_lines bytes))
ended_lines-byte byte bytes =
    by_parts (byte == line_feed) byte (slice_split (λ x. x == line_feed) bytes)
    (omega (arith, length-slice_split (λ x. x == line_feed) bytes))
  where
    by_parts : (b : Bool) (byte : ℕ) (parts : List (List ℕ)) → 0 < length parts
        → (let all = cond b ([] ∷ parts) (std_onto_first byte parts) in take (length all - 1) all)
        ≡ cond b ([] ∷ take (length parts - 1) parts) (into_first byte (take (length parts - 1) parts))
    by_parts b byte [] some = absurd (omega arith)
    by_parts true byte (part ∷ parts) some =
        let two : suc (suc (length parts)) - 1 ≡ suc (length parts) = omega arith in
        let one : suc (length parts) - 1 ≡ length parts = omega arith in
        rw (two, one) refl
    by_parts false byte (part ∷ []) some = refl
    by_parts false byte (part ∷ next ∷ parts) some =
        let two : suc (suc (length parts)) - 1 ≡ suc (length parts) = omega arith in rw two refl

-- a line that ends by LF is the first
pub lines_of-line : (line rest : List ℕ) → IsUnbroken line → lines_of (line ++ line_feed ∷ rest) ≡ line ∷ lines_of rest
lines_of-line [] rest h = lines_of-byte line_feed rest
lines_of-line (byte ∷ line) rest h = lines_of-byte byte (line ++ line_feed ∷ rest)
    ∙ rw (not_lf byte line h) (ap (onto_first byte) (lines_of-line line rest (unbroken_tail byte line h)))

-- a last line that is not empty is the only one
pub lines_of-last : (line : List ℕ) → 0 < length line → IsUnbroken line → lines_of line ≡ line ∷ []
lines_of-last [] some h = absurd (omega arith)
lines_of-last (byte ∷ []) some h = lines_of-byte byte [] ∙ rw (not_lf byte [] h) refl
lines_of-last (byte ∷ next ∷ line) some h = lines_of-byte byte (next ∷ line)
    ∙ rw (not_lf byte (next ∷ line) h)
    (ap (onto_first byte) (lines_of-last (next ∷ line) (omega arith) (unbroken_tail byte (next ∷ line) h)))

-- the first of those that end by LF
pub ended_lines-line : (line rest : List ℕ) → IsUnbroken line → ended_lines (line ++ line_feed ∷ rest) ≡ line ∷ ended_lines rest
ended_lines-line [] rest h = ended_lines-byte line_feed rest
ended_lines-line (byte ∷ line) rest h = ended_lines-byte byte (line ++ line_feed ∷ rest)
    ∙ rw (not_lf byte line h) (ap (into_first byte) (ended_lines-line line rest (unbroken_tail byte line h)))

-- an unbroken text ends no line
pub ended_lines-none : (begun : List ℕ) → IsUnbroken begun → ended_lines begun ≡ []
ended_lines-none [] h = refl
ended_lines-none (byte ∷ begun) h = ended_lines-byte byte begun
    ∙ rw (not_lf byte begun h) (ap (into_first byte) (ended_lines-none begun (unbroken_tail byte begun h)))

-- one line before the others, whatever the rest is
both_cons : (b : Bool) (line : List ℕ) (lines more : List (List ℕ)) → cond b (line ∷ lines) (line ∷ more) ≡ line ∷ cond b lines more
both_cons b line lines more = elim b as (λ v. cond v (line ∷ lines) (line ∷ more) ≡ line ∷ cond v lines more) [ true ↦ refl | false ↦ refl ]

-- two numbers compare as they do with the same added to both
same_test : (n m more : ℕ) → nat_le (n + more) (m + more) ≡ nat_le n m
same_test n m more = grind (arith, nat_tests)

-- under a limit, the first line that ends by LF uses up its bytes
pub lines_within-line : (limit : ℕ) (line rest : List ℕ) → IsUnbroken line
    → lines_within (limit + length (line ++ line_feed ∷ [])) (line ++ line_feed ∷ rest) ≡ line ∷ lines_within limit rest
lines_within-line limit line rest h =
    let prefix = line ++ line_feed ∷ [] in
    let whole : line ++ line_feed ∷ rest ≡ prefix ++ rest = sym (append_assoc line (line_feed ∷ []) rest) in
    let size : length (line ++ line_feed ∷ rest) ≡ length rest + length prefix = ap length whole ∙ length-append prefix rest
    ∙ add_comm (length prefix) (length rest) in
    let cut : take (limit + length prefix) (line ++ line_feed ∷ rest) ≡ line ++ line_feed ∷ take limit rest =
    ap (take (limit + length prefix)) whole ∙ ap (λ n. take n (prefix ++ rest)) (add_comm limit (length prefix))
    ∙ take-append-add prefix rest limit ∙ append_assoc line (line_feed ∷ []) (take limit rest) in
    rw (size, same_test (length rest) limit (length prefix), cut, lines_of-line line rest h, ended_lines-line line (take limit rest) h)
    (both_cons (nat_le (length rest) limit) line (lines_of rest) (ended_lines (take limit rest)))

-- under a limit, the last line is the only one
pub lines_within-last : (limit : ℕ) (line : List ℕ) → 0 < length line → length line ≤ limit → IsUnbroken line → lines_within limit line
    ≡ line ∷ []
lines_within-last limit line some within h = let test : nat_le (length line) limit
    ≡ true = grind (arith, nat_tests) in rw test (lines_of-last line some h)

-- no bytes have no line
pub lines_within-none : (limit : ℕ) → lines_within limit [] ≡ []
lines_within-none limit = let test : nat_le 0 limit ≡ true = grind (arith, nat_tests) in rw test refl
