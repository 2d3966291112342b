-- Certificates: a group, a word of it, and words with a polynomial each; and the lines in which one is written. That these words are the
-- elements below it, and the polynomials the right ones, is not part of this definition: that is what a check finds out.
use Rattle.std.specs.Prelude.{◌≡◌, ℕ, ◌≤◌, List, [], ◌∷◌, ◌++◌, length, map, All, codes, decimal, ℤ}
use Rattle.std.specs.List.{flat_map, join_by}
use Rattle.cox_base.specs.Matrix.{CoxeterMatrix, IsWord}
use Rattle.cox_base.specs.Admissible.{IsCoxeterMatrix}
use Rattle.cox_base.specs.WordText.{word_text}
use Rattle.cox_base.specs.declared.limits.TheConstants.{MAX_RANK, MAX_LETTERS}
use Rattle.cox_poly.specs.Polynomial.{IsPolynomial}
use Rattle.cox_tokens.specs.Line.{line_feed, lines_of, content_of}
use Rattle.cox_tokens.specs.declared.limits.TheConstants.{LINE_LIMIT}
use Rattle.cox_print.specs.AnswerText.{pair_text}
use Rattle.cox_certtext.specs.declared.limits.TheConstants.{MAX_LISTED}

-- A group, a word of it, and the entries: words with a polynomial each. The text calls these rows.
pub record Certificate : Type 0 where
  pub matrix : CoxeterMatrix
  pub top : List ℕ
  pub entries : List (List ℕ × List ℤ)

abbrev pub words_of_entries : List (List ℕ × List ℤ) → List (List ℕ)
words_of_entries entries = map (λ entry. entry.0) entries

abbrev pub polynomials_of_entries : List (List ℕ × List ℤ) → List (List ℤ)
polynomials_of_entries entries = map (λ entry. entry.1) entries

-- a word that can be written
pub record IsShortWord (rank : ℕ) (word : List ℕ) : Type 0 where
  pub letters : IsWord rank word
  pub short : length word ≤ MAX_LETTERS

-- a word with a polynomial, as they can be written
pub record IsTextEntry (rank : ℕ) (entry : List ℕ × List ℤ) : Type 0 where
  pub word : IsShortWord rank entry.0
  pub polynomial : IsPolynomial entry.1

-- what can be written: a Coxeter matrix, a word of its letters, and from 1 to MAX_LISTED words with polynomials
pub record IsCertificate (c : Certificate) : Type 0 where
  pub matrix : IsCoxeterMatrix c.matrix
  pub rank : c.matrix.rank ≤ MAX_RANK
  pub top : IsShortWord c.matrix.rank c.top
  pub entries : All (IsTextEntry c.matrix.rank) c.entries
  pub some : 1 ≤ length c.entries
  pub few : length c.entries ≤ MAX_LISTED

-- the lines: `cert`, the rank and the labels; `element` and the word; `rows` and how many entries there are; the entries; `end`
abbrev pub matrix_line : CoxeterMatrix → List ℕ
matrix_line g = codes "cert " ++ decimal g.rank ++ flat_map (λ label. codes " " ++ decimal label) g.labels

abbrev pub top_line : ℕ → List ℕ → List ℕ
top_line rank top = codes "element " ++ word_text rank top

abbrev pub count_line : ℕ → List ℕ
count_line count = codes "rows " ++ decimal count

abbrev pub entry_line : ℕ → List ℕ × List ℤ → List ℕ
entry_line rank entry = pair_text rank entry.0 entry.1

abbrev pub end_line : List ℕ
end_line = codes "end"

abbrev pub certificate_lines : Certificate → List (List ℕ)
certificate_lines c = matrix_line c.matrix ∷ top_line c.matrix.rank c.top ∷ count_line (length c.entries)
    ∷ map (entry_line c.matrix.rank) c.entries ++ end_line ∷ []

-- the lines as one text; the end of the last is not part of it
abbrev pub certificate_text : Certificate → List ℕ
certificate_text c = join_by (λ line. line) (line_feed ∷ []) (certificate_lines c)

-- what is read of a text: its lines, each without the one CR that may stand right before its end
abbrev pub contents : List ℕ → List (List ℕ)
contents text = map content_of (lines_of text)

-- the lines are those of the certificate, and none is too long
pub record Gives (lines : List (List ℕ)) (c : Certificate) : Type 0 where
  pub is : IsCertificate c
  pub written : lines ≡ certificate_lines c
  pub short : All (λ line. length line ≤ LINE_LIMIT) lines
