-- The text of a word: its bytes, and what reading letters answers.
use Rattle.std.proofs.Common.{◌≡◌, ◌≢◌, ℕ, suc, ◌+◌, ◌*◌, ◌<◌, ◌≤◌, Bool, true, false, cond, List, [], ◌∷◌, ◌++◌, length, decimal}
use Rattle.std.proofs.Common.{Ok, Err, refl, sym, ap, subst, arith, length-append}
use Rattle.std.specs.List.{flat_map}
use Rattle.arrayvec.specs.ArrayVec.{ArrayVec}
use Rattle.std.proofs.lemmas.Fmt.{decimal_nonempty}
use Rattle.std.proofs.lemmas.List.Elements.{All-head, All-tail, All-weaker}
use Rattle.cox_base.specs.declared.limits.TheConstants.{MAX_RANK, MAX_LETTERS}
use Rattle.cox_base.specs.declared.word.WordFault.{WordFault}
use Rattle.cox_base.specs.Matrix.{IsLetter, IsWord}
use Rattle.cox_base.specs.WordText.{has_digits, separator, word_text}
use Rattle.cox_base.specs.WordReading.{ReadsWord}
use Rattle.cox_base.proofs.WordTexts.{text-read}
use Rattle.cox_base.proofs.NamedWords.{text-word, word_of-short}
use Rattle.cox_polyread.proofs.Splits.{AreNot, AreNot-append}
use Rattle.cox_certtext.specs.Certificate.{IsShortWord}
use Rattle.cox_cert.proofs.PlainTexts.{decimal-bytes, IsPlainText, plain-append, plain-more, plain-cond, plain-flat_map, decimal-plain}

-- a letter behind the first, with what separates it from the one before
abbrev next_text : ℕ → ℕ → List ℕ
next_text rank next = separator rank ++ decimal next

-- bytes: digits, dots, or the letter e alone
pub word_text-bytes : (f : ℕ → Bool) (rank : ℕ) (word : List ℕ) → rank ≤ MAX_RANK → IsWord rank word
    → ((d : ℕ) → d < 10 → f (48 + d) ≡ false) → f 46 ≡ false → f 101 ≡ false → AreNot f (word_text rank word)
word_text-bytes f rank [] limit is digits dot e = (e, tt)
word_text-bytes f rank (s ∷ word) limit is digits dot e =
    AreNot-append f (decimal s) (flat_map (next_text rank) word) (letter s (All-head (IsLetter rank) s word is))
    (others word (All-tail (IsLetter rank) s word is))
  where
    letter : (t : ℕ) → IsLetter rank t → AreNot f (decimal t)
    letter t l = decimal-bytes f t (omega (arith, limit, l.to_rank)) digits

    between : (b : Bool) → AreNot f (cond b [] (46 ∷ []))
    between true = tt
    between false = (dot, tt)

    others : (word : List ℕ) → IsWord rank word → AreNot f (flat_map (next_text rank) word)
    others [] is = tt
    others (t ∷ word) is =
        AreNot-append f (separator rank ++ decimal t) (flat_map (next_text rank) word)
        (AreNot-append f (separator rank) (decimal t) (between (has_digits rank)) (letter t (All-head (IsLetter rank) t word is)))
        (others word (All-tail (IsLetter rank) t word is))

-- how long it is
pub word_text-plain : (rank : ℕ) (word : List ℕ) → rank ≤ MAX_RANK → IsWord rank word
    → IsPlainText (3 * length word + 1) (word_text rank word)
word_text-plain rank [] limit is = record { size = omega arith; plain = (refl, tt) }
word_text-plain rank (s ∷ word) limit is =
    plain-more (2 + 3 * length word) (3 * suc (length word) + 1) (decimal s ++ flat_map (next_text rank) word) (omega arith)
    (plain-append 2 (3 * length word) (decimal s) (flat_map (next_text rank) word) (letter s (All-head (IsLetter rank) s word is))
    (plain-flat_map (next_text rank) 3 word (All-weaker (IsLetter rank) (λ t. IsPlainText 3 (next_text rank t)) next word
    (All-tail (IsLetter rank) s word is))))
  where
    letter : (t : ℕ) → IsLetter rank t → IsPlainText 2 (decimal t)
    letter t l = decimal-plain 2 t (omega arith) (omega (arith, limit, l.to_rank)) (omega (arith, limit, l.to_rank))

    between : IsPlainText 1 (separator rank)
    between = plain-cond 1 (has_digits rank) [] (46 ∷ []) (record { size = omega arith; plain = tt })
        (record { size = omega arith; plain = (refl, tt) })

    next : (t : ℕ) → IsLetter rank t → IsPlainText 3 (next_text rank t)
    next t l = plain-append 1 2 (separator rank) (decimal t) between (letter t l)

-- it has some bytes
pub word_text-some : (rank : ℕ) (word : List ℕ) → rank ≤ MAX_RANK → IsWord rank word → 0 < length (word_text rank word)
word_text-some rank [] limit is = omega arith
word_text-some rank (s ∷ word) limit is =
    let low = (All-head (IsLetter rank) s word is).to_rank in
    omega (arith, length-append (decimal s) (flat_map (next_text rank) word), decimal_nonempty s (omega (arith, limit, low)))

-- for code: what reading letters answers
pub letters-read : (rank : ℕ) (text : List ℕ) (word : ArrayVec ℕ) → 0 < length text → ReadsWord (Ok word) text rank
    → IsShortWord rank word.items × (word_text rank word.items ≡ text)
letters-read rank text word some reads =
    let short : length word.items ≤ MAX_LETTERS = omega (arith, reads.0, ap (length {A = ℕ}) reads.2, word_of-short rank text) in
    (record { letters = reads.3; short = short }, rw reads.2 (text-word rank text some reads.1))

pub letters-none : (rank : ℕ) (text : List ℕ) (fault : WordFault) → rank ≤ MAX_RANK → ReadsWord (Err fault) text rank
    → (word : List ℕ) → IsShortWord rank word → word_text rank word ≢ text
letters-none rank text fault limit reads word is same =
    text-read rank word (Err fault) limit is.letters is.short (subst (λ t. ReadsWord (Err fault) t rank) (sym same) reads)
