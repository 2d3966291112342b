-- For code: what the lines of a certificate give.
use Rattle.std.specs.Prelude.{◌≡◌, ◌≢◌, ℕ, ◌<◌, List, All, ℤ}
use Rattle.arrayvec.specs.ArrayVec.{ArrayVec}
use Rattle.cox_polyread.specs.PolynomialReading.{IsTextOf}
use Rattle.cox_rowcheck.specs.CheckablePolynomials.{IsCheckable}
use Rattle.cox_cert.specs.declared.reading.EntryLine.{EntryLine}
use Rattle.cox_cert.specs.declared.reading.EntryLine.TheVariants.{Small, Large, Foreign}
use Rattle.cox_certtext.specs.Certificate.{IsShortWord, IsTextEntry, entry_line}

-- labels of one digit
abbrev pub AreDigits : List ℕ → Type 0
AreDigits labels = All (λ label. label < 10) labels

-- what the text of a polynomial gives, behind that of a word
abbrev pub ReadsPolynomial : EntryLine → ArrayVec ℕ → List ℕ → Type 0
ReadsPolynomial (Small read p) word text = (read ≡ word) × IsTextOf p text × IsCheckable p
ReadsPolynomial (Large read) word text = (read ≡ word) × ((p : List ℤ) × IsTextOf p text × ¬ IsCheckable p)
ReadsPolynomial Foreign word text = (p : List ℤ) → ¬ IsTextOf p text

-- what a line of the list gives: a word and a small polynomial, a word and one that is not small, or nothing
abbrev pub ReadsEntry : EntryLine → List ℕ → ℕ → Type 0
ReadsEntry (Small word p) line rank = IsTextEntry rank (word.items, p) × IsCheckable p × (line ≡ entry_line rank (word.items, p))
ReadsEntry (Large word) line rank = IsShortWord rank word.items
    × ((p : List ℤ) × IsTextEntry rank (word.items, p) × (¬ IsCheckable p) × (line ≡ entry_line rank (word.items, p)))
ReadsEntry Foreign line rank = (entry : List ℕ × List ℤ) → IsTextEntry rank entry → line ≢ entry_line rank entry
