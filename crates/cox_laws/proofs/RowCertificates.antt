-- The certificate whose text `cert` answers.
use Rattle.std.proofs.Common.{◌≡◌, ℕ, ◌+◌, ◌<◌, List, [], ◌∷◌, ◌++◌, length, map, All, ℤ, refl, ap, sym, ◌∙◌, arith}
use Rattle.std.proofs.lemmas.List.{length-map, get_or-map}
use Rattle.cox_base.specs.Matrix.{CoxeterMatrix}
use Rattle.cox_base.specs.IntegerMatrix.{IntegerMatrix, integer_matrix}
use Rattle.cox_base.specs.Admissible.{IsAdmissible}
use Rattle.cox_base.specs.ShortLex.{normal_form}
use Rattle.cox_base.specs.Length.{word_length}
use Rattle.cox_base.specs.Members.{IsInInterval}
use Rattle.cox_base.specs.SortedList.{IsListOf}
use Rattle.cox_context.specs.Numbers.{word_at}
use Rattle.cox_poly.specs.Polynomial.{coefficient, IsPolynomial, SameCoefficients}
use Rattle.cox_rpoly.specs.Terms.{numbered}
use Rattle.cox_hecke.specs.Family.{Family}
use Rattle.cox_hecke.specs.Row.{IsRow}
use Rattle.cox_rowcheck.specs.ListedRows.{AreRow}
use Rattle.cox_print.specs.AnswerText.{pair_text, list_text}
use Rattle.cox_certtext.specs.Certificate.{Certificate, words_of_entries, polynomials_of_entries, certificate_text}
use Rattle.cox_certtext.specs.CertificateParts.{certificate_head, certificate_foot}
use Rattle.cox_replies.specs.RowReply.{coefficients_to}
use Rattle.cox_replies.specs.CertReply.{IsCertText}
use Rattle.cox_replies.proofs.PolynomialTexts.{same_text, listed}
use Rattle.cox_replies.proofs.PairTexts.{row-high}
use Rattle.cox_replies.proofs.CertTexts.{whole_in, entries_of, certificate_of, text-parts}
use Rattle.cox_laws.proofs.TrimmedLists.{trim, trim-same, trim-polynomial}

-- the certificate of the row of w, as it is read: no polynomial has a trailing zero
pub record IsCertificateOf (g : CoxeterMatrix) (w : List ℕ) (c : Certificate) : Type 0 where
  pub matrix : c.matrix ≡ g
  pub top : c.top ≡ normal_form (integer_matrix g) w
  pub interval : IsListOf (IsInInterval (integer_matrix g) w) (words_of_entries c.entries)
  pub row : AreRow (integer_matrix g) w (words_of_entries c.entries) (polynomials_of_entries c.entries)
  pub normal : All IsPolynomial (polynomials_of_entries c.entries)

-- P(x,w) without trailing zeros, where p is the row of w
abbrev polynomial_in : IntegerMatrix → List ℕ → Family → List ℕ → List ℤ
polynomial_in A w p x = trim (whole_in A w p x)

-- the parts of the entries
words_of_entries-back : (polynomial : List ℕ → List ℤ) (words : List (List ℕ)) → words_of_entries (entries_of polynomial words) ≡ words
words_of_entries-back polynomial [] = refl
words_of_entries-back polynomial (x ∷ words) = ap (λ xs. x ∷ xs) (words_of_entries-back polynomial words)

polynomials_of_entries-back : (polynomial : List ℕ → List ℤ) (words : List (List ℕ))
    → polynomials_of_entries (entries_of polynomial words) ≡ map polynomial words
polynomials_of_entries-back polynomial [] = refl
polynomials_of_entries-back polynomial (x ∷ words) = ap (λ ps. polynomial x ∷ ps) (polynomials_of_entries-back polynomial words)

-- polynomials with the same coefficients give the same lines
same_lines : (rank : ℕ) (polynomial other : List ℕ → List ℤ) → ((x : List ℕ) → SameCoefficients (polynomial x) (other x))
    → (words : List (List ℕ))
    → map (λ x. pair_text rank x (polynomial x)) words ≡ map (λ x. pair_text rank x (other x)) words
same_lines rank polynomial other same [] = refl
same_lines rank polynomial other same (x ∷ words) =
    rw (same_text (polynomial x) (other x) (same x), same_lines rank polynomial other same words) refl

module _ (m : CoxeterMatrix) (g : IsAdmissible (integer_matrix m)) (w : List ℕ) (p : Family) (row : IsRow (integer_matrix m) w p) where
  value : (x : List ℕ) (k : ℕ) → coefficient (polynomial_in (integer_matrix m) w p x) k ≡ p x k
  value x k =
      let whole = coefficients_to (word_length (integer_matrix m) w) (p x) in
      trim-same whole k ∙ (let e : 0 + k ≡ k = omega arith in rw e at (listed (p x) 0 (word_length (integer_matrix m) w + 1) k
      (λ i above. let f : 0 + i ≡ i = omega arith in rw f (row-high (integer_matrix m) g w p row x i (omega (arith, above))
      (omega (arith, above))))))

  are_row : (words : List (List ℕ)) → AreRow (integer_matrix m) w words (map (polynomial_in (integer_matrix m) w p) words)
  are_row words = record {
    count = length-map words (polynomial_in (integer_matrix m) w p);
    each = λ i l.
        let at : numbered (map (polynomial_in (integer_matrix m) w p) words) i
        ≡ polynomial_in (integer_matrix m) w p (word_at words i) = get_or-map (polynomial_in (integer_matrix m) w p) words i [] [] l in
        record { row = p; is = row; at = λ k. rw at (value (word_at words i) k) };
  }

  normal : (words : List (List ℕ)) → All IsPolynomial (map (polynomial_in (integer_matrix m) w p) words)
  normal words i d l =
      let inside : i < length words = omega (arith, l, length-map words (polynomial_in (integer_matrix m) w p)) in
      rw (get_or-map (polynomial_in (integer_matrix m) w p) words i [] d inside)
      (trim-polynomial (coefficients_to (word_length (integer_matrix m) w) (p (word_at words i))))

  certificate_of-is : (words : List (List ℕ)) → IsListOf (IsInInterval (integer_matrix m) w) words
      → IsCertificateOf m w (certificate_of m w (polynomial_in (integer_matrix m) w p) words)
  certificate_of-is words list = let polynomial = polynomial_in (integer_matrix m) w p in record {
    matrix = refl;
    top = refl;
    interval = rw (words_of_entries-back polynomial words) list;
    row = rw (words_of_entries-back polynomial words, polynomials_of_entries-back polynomial words) (are_row words);
    normal = rw (polynomials_of_entries-back polynomial words) (normal words);
  }

-- each right text is that of such a certificate
pub cert-certificate : (m : CoxeterMatrix) (g : IsAdmissible (integer_matrix m)) (w text : List ℕ) → IsCertText m w text
    → (c : Certificate) × IsCertificateOf m w c × (text ≡ certificate_text c)
cert-certificate m g w text (p, row, (words, list, e)) =
    let whole = whole_in (integer_matrix m) w p in
    let trimmed = polynomial_in (integer_matrix m) w p in (
      certificate_of m w trimmed words,
      certificate_of-is m g w p row words list,
      e ∙ text-parts m w whole words
          ∙ ap (λ lines. certificate_head m (normal_form (integer_matrix m) w) ++ list_text lines ++ certificate_foot)
          (sym (same_lines m.rank trimmed whole (λ x. trim-same (whole x)) words))
          ∙ sym (text-parts m w trimmed words),
    )
