-- What is kept of a line, after one more byte.
use Rattle.std.proofs.Common.{◌≡◌, ℕ, ◌+◌, ◌-◌, ◌<◌, ◌≤◌, inl, inr, Bool, ◌==◌, List, [], ◌∷◌, ◌++◌, length, take, slice_set, refl, sym, ap}
use Rattle.std.proofs.Common.{◌∙◌, arith}
use Rattle.std.specs.Io.BufRead.{ends_with_byte}
use Rattle.std.proofs.lemmas.List.{take_all, take-append-le, take_more_set, length_push, get_or_push}
use Rattle.std.proofs.lemmas.Bool.{cases_lt}
use Rattle.std.proofs.lemmas.Bool.Decides.{nat_tests}
use Rattle.cox_tokens.specs.declared.limits.TheConstants.{LINE_LIMIT}
use Rattle.cox_tokens.specs.Line.{carriage_return}
use Rattle.cox_outside.specs.Scan.{KeepsLine}

-- the last byte of a list to which it was pushed
pub ends_with_byte-push : (byte last : ℕ) (bytes : List ℕ) → ends_with_byte byte (bytes ++ last ∷ []) ≡ (last == byte)
ends_with_byte-push byte last bytes =
    rw (length_push bytes last) (let same : (length bytes + 1) - 1 ≡ length bytes = omega arith in
    rw (same, get_or_push bytes last 0 (length bytes) refl) (grind (arith, nat_tests)))

-- the first bytes of a line, in a buffer with so much room, after one more byte
pub prefix-push : (room count byte : ℕ) (begun old new : List ℕ) → length old ≡ room → count ≡ length begun → take count old
    ≡ take room begun
    → (count < room → new ≡ slice_set old count byte) → (room ≤ count → new ≡ old) → take (count + 1) new ≡ take room (begun ++ byte ∷ [])
prefix-push room count byte begun old new size same prefix kept full =
    elim (cases_lt count room) [
      | inl lt ↦
          let within : count < length old = omega arith in
          let short : length begun ≤ room = omega arith in
          let longer : length (begun ++ byte ∷ []) ≤ room = omega (arith, length_push begun byte) in
          rw (kept lt) (take_more_set old count byte within ∙ ap (λ l. l ++ byte ∷ []) (prefix ∙ take_all room begun short)
          ∙ sym (take_all room (begun ++ byte ∷ []) longer))
      | inr le ↦
          let all : length old ≤ count = omega arith in
          let all_on : length old ≤ count + 1 = omega arith in
          let long : room ≤ length begun = omega arith in
          rw (full le) (take_all (count + 1) old all_on ∙ sym (take_all count old all) ∙ prefix
          ∙ sym (take-append-le room begun (byte ∷ []) long))
    ]

-- what is kept of a line, after one more byte
pub KeepsLine-push : (count byte : ℕ) (by_cr : Bool) (begun old new : List ℕ) → length old ≡ LINE_LIMIT + 1
    → KeepsLine begun count by_cr old
    → (count < LINE_LIMIT + 1 → new ≡ slice_set old count byte) → (LINE_LIMIT < count → new ≡ old)
    → KeepsLine (begun ++ byte ∷ []) (count + 1) (byte == carriage_return) new
KeepsLine-push count byte by_cr begun old new size k kept full = record {
  size = omega (arith, length_push begun byte, k.size);
  prefix = prefix-push (LINE_LIMIT + 1) count byte begun old new size k.size k.prefix kept (λ h. full (omega arith));
  last = sym (ends_with_byte-push carriage_return byte begun);
}
