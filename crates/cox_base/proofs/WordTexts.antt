-- The text of a word, and its pieces.
use Rattle.std.proofs.Common.{◌≡◌, ℕ, ◌+◌, ◌/◌, ◌%◌, ◌<◌, ◌≤◌, false, None, List, [], ◌∷◌, ◌++◌, map, length, decimal, codes, ◌==◌}
use Rattle.std.proofs.Common.{Result, Ok, Err, IsOkAnd, refl, sym, ap, ◌∙◌, arith, ⊎_elim}
use Rattle.std.specs.List.{filter_map, flat_map, slice_split, All}
use Rattle.arrayvec.specs.ArrayVec.{ArrayVec}
use Rattle.std.proofs.lemmas.Bool.{cases_Bool, cases_lt}
use Rattle.std.proofs.lemmas.Bool.Decides.{nat_tests}
use Rattle.std.proofs.lemmas.Fmt.{decimal_digit}
use Rattle.std.proofs.lemmas.List.{append-nil, length-map}
use Rattle.std.proofs.lemmas.List.Elements.{All-head, All-tail, All-cons, All-nil, All-weaker}
use Rattle.std.proofs.lemmas.List.Splits.{slice_split_none, slice_split_at}
use Rattle.cox_base.specs.declared.limits.TheConstants.{MAX_RANK, MAX_DIGIT_RANK, MAX_LETTERS}
use Rattle.cox_base.specs.declared.word.WordFault.{WordFault}
use Rattle.cox_base.specs.declared.word.WordFault.TheVariants.{Long, Letter}
use Rattle.cox_base.specs.Matrix.{IsLetter, IsWord}
use Rattle.cox_base.specs.WordText.{has_digits, separator, word_text, is_e, is_dot, pieces_of, letter_of, word_of}
use Rattle.cox_base.specs.WordText.{foreign_piece, first_foreign}
use Rattle.cox_base.specs.WordReading.{ReadsWord}
use Rattle.cox_base.proofs.Numerals.{decimal-two}
use Rattle.cox_base.proofs.TextPieces.{letter_of-some, foreign_from, foreign_from-next}

-- the letters behind the first, as they are written with what separates them
abbrev others_text : List ℕ → List ℕ → List ℕ
others_text separator letters = flat_map (λ next. separator ++ decimal next) letters

-- digits that stand side by side
digits-pieces : (letters : List ℕ) → All (λ s. s < 10) letters → map (λ byte. byte ∷ []) (others_text [] letters) ≡ map decimal letters
digits-pieces [] small = refl
digits-pieces (s ∷ letters) small =
    let one : s < 10 = All-head (λ t. t < 10) s letters small in
    rw (decimal_digit s one) (ap (λ rest. ((48 + s) ∷ []) ∷ rest) (digits-pieces letters (All-tail (λ t. t < 10) s letters small)))

-- no dot stands in a numeral
no_dot : (n : ℕ) → n < 100 → All (λ byte. is_dot byte ≡ false) (decimal n)
no_dot n small =
    ⊎_elim (λ (one : n < 10). rw (decimal_digit n one) (byte (48 + n) [] (omega arith) (All-nil _)))
    (λ (two : 10 ≤ n). rw (decimal-two n two small)
    (byte (48 + n / 10) ((48 + n % 10) ∷ []) (omega arith) (byte (48 + n % 10) [] (omega arith) (All-nil _))))
    (cases_lt n 10)
  where
    byte : (b : ℕ) (rest : List ℕ) → 46 < b → All (λ byte. is_dot byte ≡ false) rest → All (λ byte. is_dot byte ≡ false) (b ∷ rest)
    byte b rest above none = All-cons (λ byte. is_dot byte ≡ false) b rest (grind (arith, nat_tests)) none

-- numerals with dots between them
dotted-pieces : (s : ℕ) (letters : List ℕ) → All (λ t. t < 100) (s ∷ letters)
    → slice_split is_dot (decimal s ++ others_text (codes ".") letters) ≡ map decimal (s ∷ letters)
dotted-pieces s [] small = rw append-nil (slice_split_none is_dot (decimal s) (no_dot s (All-head (λ t. t < 100) s [] small)))
dotted-pieces s (t ∷ letters) small =
    slice_split_at is_dot (decimal s) 46 (decimal t ++ others_text (codes ".") letters)
    (no_dot s (All-head (λ t. t < 100) s (t ∷ letters) small)) refl
    ∙ ap (λ pieces. decimal s ∷ pieces) (dotted-pieces t letters (All-tail (λ t. t < 100) s (t ∷ letters) small))

-- the pieces of the text of letters are their numerals
pieces_of-letters : (rank s : ℕ) (letters : List ℕ) → rank ≤ MAX_RANK → IsWord rank (s ∷ letters)
    → pieces_of rank (decimal s ++ others_text (separator rank) letters) ≡ map decimal (s ∷ letters)
pieces_of-letters rank s letters limit word =
    ⊎_elim
    (λ digits.
    let few : rank ≤ MAX_DIGIT_RANK = grind (arith, nat_tests) in
    rw (digits) (digits-pieces (s ∷ letters)
    (All-weaker (IsLetter rank) (λ t. t < 10) (λ t letter. omega (arith, few, letter.to_rank)) (s ∷ letters) word)))
    (λ dotted. rw (dotted) (dotted-pieces s letters
    (All-weaker (IsLetter rank) (λ t. t < 100) (λ t letter. omega (arith, limit, letter.to_rank)) (s ∷ letters) word)))
    (cases_Bool (has_digits rank))

-- which are letters, the same ones
filter_map-numerals : (rank : ℕ) (word : List ℕ) → rank ≤ MAX_RANK → IsWord rank word
    → filter_map (letter_of rank) (map decimal word) ≡ word
filter_map-numerals rank [] limit letters = refl
filter_map-numerals rank (s ∷ word) limit letters =
    rw (letter_of-some rank s (decimal s) limit (All-head (IsLetter rank) s word letters) refl)
    (ap (λ rest. s ∷ rest) (filter_map-numerals rank word limit (All-tail (IsLetter rank) s word letters)))

foreign_from-numerals : (rank : ℕ) (word : List ℕ) (at : ℕ) → rank ≤ MAX_RANK → IsWord rank word
    → foreign_from rank at (map decimal word) ≡ None
foreign_from-numerals rank [] at limit letters = refl
foreign_from-numerals rank (s ∷ word) at limit letters =
    let next = at + (length (decimal s) + length (separator rank)) in
    foreign_from-next rank at next s (decimal s) (map decimal word)
    (letter_of-some rank s (decimal s) limit (All-head (IsLetter rank) s word letters) refl) refl
    ∙ foreign_from-numerals rank word next limit (All-tail (IsLetter rank) s word letters)

-- no numeral is `e`
is_e-letters : (s : ℕ) (rest : List ℕ) → s < 100 → is_e (decimal s ++ rest) ≡ false
is_e-letters s rest small =
    ⊎_elim (λ (one : s < 10). rw (decimal_digit s one) (byte (48 + s) rest (omega arith)))
    (λ (two : 10 ≤ s). rw (decimal-two s two small) (byte (48 + s / 10) ((48 + s % 10) ∷ rest) (omega arith))) (cases_lt s 10)
  where
    byte : (b : ℕ) (rest : List ℕ) → b < 101 → is_e (b ∷ rest) ≡ false
    byte b rest below = let other : (b == 101) ≡ false = grind (arith, nat_tests) in rw other refl

-- the text of a word names the word
pub word_of-text : (rank : ℕ) (word : List ℕ) → rank ≤ MAX_RANK → IsWord rank word → word_of rank (word_text rank word) ≡ word
word_of-text rank [] limit letters = refl
word_of-text rank (s ∷ word) limit letters =
    let other = is_e-letters s (others_text (separator rank) word)
    (omega (arith, limit, (All-head (IsLetter rank) s word letters).to_rank)) in
    rw other (ap (filter_map (letter_of rank)) (pieces_of-letters rank s word limit letters)
    ∙ filter_map-numerals rank (s ∷ word) limit letters)

-- and no other word
pub word_text-one : (rank : ℕ) (v w : List ℕ) → rank ≤ MAX_RANK → IsWord rank v → IsWord rank w → word_text rank v ≡ word_text rank w
    → v ≡ w
word_text-one rank v w limit v_is w_is same =
    sym (word_of-text rank v limit v_is) ∙ ap (word_of rank) same ∙ word_of-text rank w limit w_is

-- what reading a text answers, where its pieces are letters
read-whole : (rank : ℕ) (text word : List ℕ) (read : Result (ArrayVec ℕ) WordFault) → length (pieces_of rank text) ≤ MAX_LETTERS
    → first_foreign rank text ≡ None → word_of rank text ≡ word → ReadsWord read text rank → IsOkAnd read (λ again. again.items ≡ word)
read-whole rank text word (Ok again) short none is reads = reads.2 ∙ is
read-whole rank text word (Err (Long count)) short none is reads = absurd (omega (arith, reads.0, reads.1))
read-whole rank text word (Err (Letter at)) short none is reads = absurd (cc (reads.1, none))

-- reading the text of a word gives the word
pub text-read : (rank : ℕ) (word : List ℕ) (read : Result (ArrayVec ℕ) WordFault) → rank ≤ MAX_RANK → IsWord rank word
    → length word ≤ MAX_LETTERS → ReadsWord read (word_text rank word) rank → IsOkAnd read (λ again. again.items ≡ word)
text-read rank [] read limit letters short reads = read-whole rank (codes "e") [] read (pieces-e rank) refl refl reads
  where
    pieces-e : (rank : ℕ) → length (pieces_of rank (codes "e")) ≤ MAX_LETTERS
    pieces-e rank = ⊎_elim (λ digits. rw (digits) (omega arith)) (λ dotted. rw (dotted) (omega arith)) (cases_Bool (has_digits rank))
text-read rank (s ∷ word) read limit letters short reads =
    let text = word_text rank (s ∷ word) in
    let pieces = pieces_of-letters rank s word limit letters in
    let other = is_e-letters s (others_text (separator rank) word)
    (omega (arith, limit, (All-head (IsLetter rank) s word letters).to_rank)) in
    read-whole rank text (s ∷ word) read (omega (arith, ap length pieces, length-map (s ∷ word) decimal, short))
    (rw other (ap (foreign_piece rank) pieces ∙ foreign_from-numerals rank (s ∷ word) 1 limit letters))
    (word_of-text rank (s ∷ word) limit letters) reads
