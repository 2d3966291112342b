-- The line of an entry: its word, a colon and its polynomial.
use Rattle.std.proofs.Common.{◌≡◌, ℕ, ◌≤◌, List, ◌∷◌, ◌++◌, codes, take, drop, refl, sym, ap, ◌∙◌, arith, append_assoc}
use Rattle.std.proofs.Common.{◌≢◌, ℤ, subst, Result, Ok, Err, IfOk}
use Rattle.std.specs.List.{position_or_len}
use Rattle.std.proofs.lemmas.Bool.{eqb-true}
use Rattle.std.proofs.lemmas.Bool.Decides.{nat_tests}
use Rattle.cox_base.specs.declared.limits.TheConstants.{MAX_RANK}
use Rattle.cox_base.specs.WordText.{word_text}
use Rattle.cox_base.proofs.WordTexts.{word_text-one}
use Rattle.cox_poly.specs.PolynomialText.{polynomial_text}
use Rattle.cox_polyread.specs.PolynomialReading.{IsTextOf}
use Rattle.arrayvec.specs.ArrayVec.{ArrayVec}
use Rattle.cox_poly.proofs.Polynomials.{same_polynomial}
use Rattle.cox_polyread.proofs.JoinedTerms.{polynomial_text-one}
use Rattle.cox_polyread.proofs.Splits.{AreNot, Begins, AreSame, split-one, behind-begins}
use Rattle.cox_certtext.specs.Certificate.{IsShortWord, IsTextEntry, entry_line}
use Rattle.cox_cert.specs.declared.reading.EntryLine.{EntryLine}
use Rattle.cox_cert.specs.declared.reading.EntryLine.TheVariants.{Small, Large, Foreign}
use Rattle.cox_cert.specs.LineReading.{ReadsPolynomial, ReadsEntry}
use Rattle.cox_cert.proofs.Cuts.{is_byte, cut-one, cut-whole}
use Rattle.cox_cert.proofs.WordLines.{word_text-bytes}

-- a word has no colon
word_text-no_colon : (rank : ℕ) (word : List ℕ) → rank ≤ MAX_RANK → IsShortWord rank word → AreNot (is_byte 58) (word_text rank word)
word_text-no_colon rank word limit is =
    word_text-bytes (is_byte 58) rank word limit is.letters (λ d low. grind (arith, nat_tests)) refl refl

-- the line in two parts
pub entry_line-split : (rank : ℕ) (entry : List ℕ × List ℤ) → entry_line rank entry ≡ word_text rank entry.0 ++ 58 ∷ polynomial_text entry.1
entry_line-split rank entry = append_assoc (word_text rank entry.0) (codes ":") (polynomial_text entry.1)

-- a line is that of one entry
pub entry_line-one : (rank : ℕ) (x y : List ℕ × List ℤ) → rank ≤ MAX_RANK → IsTextEntry rank x → IsTextEntry rank y
    → entry_line rank x ≡ entry_line rank y → x ≡ y
entry_line-one rank x y limit x_is y_is same =
    let parts = split-one (is_byte 58) (word_text rank x.0) (word_text rank y.0) (58 ∷ polynomial_text x.1) (58 ∷ polynomial_text y.1)
    (word_text-no_colon rank x.0 limit x_is.word) (word_text-no_colon rank y.0 limit y_is.word) refl refl
    (sym (entry_line-split rank x) ∙ same ∙ entry_line-split rank y) in
    let word = word_text-one rank x.0 y.0 limit x_is.word.letters y_is.word.letters parts.front in
    let texts : polynomial_text x.1 ≡ polynomial_text y.1 = ap (drop 1) parts.back in
    let polynomial = same_polynomial x.1 y.1 x_is.polynomial y_is.polynomial (polynomial_text-one x.1 y.1 texts) in
    ap (λ (w : List ℕ). pair w x.1) word ∙ ap (λ (p : List ℤ). pair y.0 p) polynomial
  where
    pair : List ℕ → List ℤ → List ℕ × List ℤ
    pair w p = (w, p)

-- for code: the parts of the line of an entry
pub entry_line-parts : (line front back : List ℕ) (rank : ℕ) (entry : List ℕ × List ℤ)
    → front ≡ take (position_or_len (is_byte 58) line) line → back ≡ drop (position_or_len (is_byte 58) line) line → rank ≤ MAX_RANK
    → IsTextEntry rank entry → line ≡ entry_line rank entry → AreSame (word_text rank entry.0) front (58 ∷ polynomial_text entry.1) back
entry_line-parts line front back rank entry front_is back_is limit is same =
    cut-one 58 line front back (word_text rank entry.0) (58 ∷ polynomial_text entry.1) front_is back_is (same ∙ entry_line-split rank entry)
    (word_text-no_colon rank entry.0 limit is.word) refl

-- for code: a line is cut before its colon, and its word is read
pub record HasWord (line text : List ℕ) (rank : ℕ) (word : ArrayVec ℕ) : Type 0 where
  pub limit : rank ≤ MAX_RANK
  pub is : IsShortWord rank word.items
  pub written : line ≡ word_text rank word.items ++ 58 ∷ text

pub HasWord-cut : (line front back text : List ℕ) (byte rank : ℕ) (word : ArrayVec ℕ)
    → front ≡ take (position_or_len (is_byte 58) line) line → back ≡ drop (position_or_len (is_byte 58) line) line → back ≡ byte ∷ text
    → rank ≤ MAX_RANK → IsShortWord rank word.items → word_text rank word.items ≡ front → HasWord line text rank word
HasWord-cut line front back text byte rank word front_is back_is split limit is written =
    let begins = subst (Begins (is_byte 58)) (sym back_is ∙ split) (behind-begins (is_byte 58) line) in
    let colon : byte ≡ 58 = eqb-true byte 58 begins in
    record {
      limit = limit;
      is = is;
      written = cut-whole 58 line front back front_is back_is ∙ ap (λ l. l ++ back) (sym written)
          ∙ ap (λ l. word_text rank word.items ++ l) (split ∙ ap (λ b. b ∷ text) colon);
    }

-- what the text of its polynomial gives, the line gives
entry-written : (line text : List ℕ) (rank : ℕ) (word : ArrayVec ℕ) (p : List ℤ) → HasWord line text rank word → IsTextOf p text
    → IsTextEntry rank (word.items, p) × (line ≡ entry_line rank (word.items, p))
entry-written line text rank word p has is = (
  record { word = has.is; polynomial = is.normal },
  has.written ∙ ap (λ l. word_text rank word.items ++ 58 ∷ l) (sym is.written) ∙ sym (entry_line-split rank (word.items, p)),
)

entry-foreign : (line text : List ℕ) (rank : ℕ) (word : ArrayVec ℕ) → HasWord line text rank word → ((p : List ℤ) → ¬ IsTextOf p text)
    → (entry : List ℕ × List ℤ) → IsTextEntry rank entry → line ≢ entry_line rank entry
entry-foreign line text rank word has none entry is same =
    let parts = split-one (is_byte 58) (word_text rank word.items) (word_text rank entry.0) (58 ∷ text) (58 ∷ polynomial_text entry.1)
    (word_text-no_colon rank word.items has.limit has.is) (word_text-no_colon rank entry.0 has.limit is.word) refl refl
    (sym has.written ∙ same ∙ entry_line-split rank entry) in
    none entry.1 (record { normal = is.polynomial; written = sym (ap (drop 1) parts.back) })

entry-read : (line text : List ℕ) (rank : ℕ) (word : ArrayVec ℕ) (entry : EntryLine) → HasWord line text rank word
    → ReadsPolynomial entry word text → ReadsEntry entry line rank
entry-read line text rank word (Small read p) has reads =
    let entry = entry-written line text rank word p has reads.1 in
    rw reads.0 (entry.0, reads.2, entry.1)
entry-read line text rank word (Large read) has reads =
    let entry = entry-written line text rank word reads.1.0 has reads.1.1 in
    rw reads.0 (has.is, (reads.1.0, entry.0, reads.1.2, entry.1))
entry-read line text rank word Foreign has reads = entry-foreign line text rank word has reads

pub entries-read : {E : Type 0} (line text : List ℕ) (rank : ℕ) (word : ArrayVec ℕ) (read : Result EntryLine E)
    → HasWord line text rank word → IfOk read (λ entry. ReadsPolynomial entry word text) → IfOk read (λ entry. ReadsEntry entry line rank)
entries-read line text rank word (Ok entry) has reads = entry-read line text rank word entry has reads
entries-read line text rank word (Err e) has reads = reads
