-- The certificate of the row of w, and its text: the row's list between the other lines.
use Rattle.std.proofs.Common.{◌≡◌, ℕ, List, [], ◌∷◌, ◌++◌, map, ℤ, refl, ap, sym, ◌∙◌}
use Rattle.cox_base.specs.Matrix.{CoxeterMatrix}
use Rattle.cox_base.specs.IntegerMatrix.{IntegerMatrix, integer_matrix}
use Rattle.cox_base.specs.ShortLex.{normal_form}
use Rattle.cox_base.specs.Length.{word_length}
use Rattle.cox_base.specs.Members.{IsInInterval}
use Rattle.cox_base.specs.SortedList.{IsListOf}
use Rattle.cox_hecke.specs.Family.{Family}
use Rattle.cox_hecke.specs.Row.{IsRow}
use Rattle.cox_print.specs.AnswerText.{pair_text, list_text}
use Rattle.cox_certtext.specs.Certificate.{Certificate, entry_line, certificate_text}
use Rattle.cox_certtext.specs.CertificateParts.{certificate_head, certificate_foot}
use Rattle.cox_certtext.proofs.CertificateTexts.{certificate_text-parts}
use Rattle.cox_replies.specs.RowReply.{coefficients_to, pairs_text}
use Rattle.cox_replies.specs.CertReply.{IsCertText}

-- P(x,w), where p is the row of w
abbrev pub whole_in : IntegerMatrix → List ℕ → Family → List ℕ → List ℤ
whole_in A w p x = coefficients_to (word_length A w) (p x)

-- the words, each with its polynomial
abbrev pub entries_of : (List ℕ → List ℤ) → List (List ℕ) → List (List ℕ × List ℤ)
entries_of polynomial words = map (λ x. (x, polynomial x)) words

abbrev pub certificate_of : CoxeterMatrix → List ℕ → (List ℕ → List ℤ) → List (List ℕ) → Certificate
certificate_of m w polynomial words = record {
  matrix = m;
  top = normal_form (integer_matrix m) w;
  entries = entries_of polynomial words;
}

-- the lines of the entries
entry_lines-of : (rank : ℕ) (polynomial : List ℕ → List ℤ) (words : List (List ℕ))
    → map (entry_line rank) (entries_of polynomial words) ≡ map (λ x. pair_text rank x (polynomial x)) words
entry_lines-of rank polynomial [] = refl
entry_lines-of rank polynomial (x ∷ words) =
    ap (λ lines. pair_text rank x (polynomial x) ∷ lines) (entry_lines-of rank polynomial words)

-- the text of such a certificate
pub text-parts : (m : CoxeterMatrix) (w : List ℕ) (polynomial : List ℕ → List ℤ) (words : List (List ℕ))
    → certificate_text (certificate_of m w polynomial words)
    ≡ certificate_head m (normal_form (integer_matrix m) w) ++ list_text (map (λ x. pair_text m.rank x (polynomial x)) words)
    ++ certificate_foot
text-parts m w polynomial words =
    certificate_text-parts (certificate_of m w polynomial words)
    ∙ ap (λ lines. certificate_head m (normal_form (integer_matrix m) w) ++ list_text lines ++ certificate_foot)
    (entry_lines-of m.rank polynomial words)

-- its text
pub cert-text : (m : CoxeterMatrix) (w : List ℕ) (p : Family) → IsRow (integer_matrix m) w p → (words : List (List ℕ))
    → IsListOf (IsInInterval (integer_matrix m) w) words
    → IsCertText m w (certificate_head m (normal_form (integer_matrix m) w) ++ pairs_text (integer_matrix m) w p words
    ++ certificate_foot)
cert-text m w p row words list = (p, row, (words, list, sym (text-parts m w (whole_in (integer_matrix m) w p) words)))
