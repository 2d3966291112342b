-- Lines are those of one certificate at most.
use Rattle.std.proofs.Common.{◌≡◌, ℕ, ◌≤◌, List, [], ◌∷◌, ◌++◌, map, length, codes, refl, sym, ap, subst, ◌∙◌, arith}
use Rattle.std.proofs.Common.{ℤ, length-append}
use Rattle.std.specs.List.{All}
use Rattle.std.proofs.lemmas.List.{append_cancel_left}
use Rattle.std.proofs.lemmas.List.Elements.{All-head, All-tail}
use Rattle.cox_base.specs.declared.limits.TheConstants.{MAX_RANK}
use Rattle.cox_base.specs.Matrix.{CoxeterMatrix}
use Rattle.cox_base.specs.WordText.{word_text}
use Rattle.cox_base.proofs.WordTexts.{word_text-one}
use Rattle.cox_certtext.specs.Certificate.{Certificate, IsCertificate, IsTextEntry, Gives, entry_line, end_line, certificate_lines}
use Rattle.cox_cert.proofs.MatrixLines.{matrix_line-one}
use Rattle.cox_cert.proofs.EntryLines.{entry_line-one}

-- the lines of the entries, and the end
entries-one : (rank : ℕ) (xs ys : List (List ℕ × List ℤ)) → rank ≤ MAX_RANK → All (IsTextEntry rank) xs → All (IsTextEntry rank) ys
    → map (entry_line rank) xs ++ end_line ∷ [] ≡ map (entry_line rank) ys ++ end_line ∷ [] → xs ≡ ys
entries-one rank [] [] limit x_are y_are same = refl
entries-one rank [] (y ∷ ys) limit x_are y_are same =
    absurd (omega (arith, ap (length {A = List ℕ}) same, length-append (map (entry_line rank) ys) (end_line ∷ [])))
entries-one rank (x ∷ xs) [] limit x_are y_are same =
    absurd (omega (arith, ap (length {A = List ℕ}) same, length-append (map (entry_line rank) xs) (end_line ∷ [])))
entries-one rank (x ∷ xs) (y ∷ ys) limit x_are y_are same =
    let line : entry_line rank x ≡ entry_line rank y = cc in
    let behind : map (entry_line rank) xs ++ end_line ∷ [] ≡ map (entry_line rank) ys ++ end_line ∷ [] = cc in
    let first = entry_line-one rank x y limit (All-head (IsTextEntry rank) x xs x_are) (All-head (IsTextEntry rank) y ys y_are) line in
    let rest = entries-one rank xs ys limit (All-tail (IsTextEntry rank) x xs x_are) (All-tail (IsTextEntry rank) y ys y_are) behind in
    cc

-- the certificate of these parts
abbrev made : CoxeterMatrix → List ℕ → List (List ℕ × List ℤ) → Certificate
made g top entries = record { matrix = g; top = top; entries = entries }

-- of one matrix
same_matrix-one : (g : CoxeterMatrix) (t u : List ℕ) (xs ys : List (List ℕ × List ℤ)) → IsCertificate (made g t xs)
    → IsCertificate (made g u ys) → certificate_lines (made g t xs) ≡ certificate_lines (made g u ys) → made g t xs ≡ made g u ys
same_matrix-one g t u xs ys c_is d_is same =
    let top_line : codes "element " ++ word_text g.rank t ≡ codes "element " ++ word_text g.rank u = cc in
    let texts = append_cancel_left (codes "element ") (word_text g.rank t) (word_text g.rank u) top_line in
    let top = word_text-one g.rank t u c_is.rank c_is.top.letters d_is.top.letters texts in
    let behind : map (entry_line g.rank) xs ++ end_line ∷ [] ≡ map (entry_line g.rank) ys ++ end_line ∷ [] = cc in
    let entries = entries-one g.rank xs ys c_is.rank c_is.entries d_is.entries behind in
    ap (λ w. made g w xs) top ∙ ap (λ l. made g u l) entries

pub certificate-one : (c d : Certificate) → IsCertificate c → IsCertificate d → certificate_lines c ≡ certificate_lines d → c ≡ d
certificate-one c d c_is d_is same =
    let first = ap head same in
    let matrix = matrix_line-one c.matrix d.matrix c_is.matrix d_is.matrix c_is.rank d_is.rank first in
    let d_as = ap (λ g. made g d.top d.entries) (sym matrix) in
    same_matrix-one c.matrix c.top d.top c.entries d.entries c_is (subst IsCertificate d_as d_is)
    (same ∙ ap certificate_lines d_as) ∙ sym d_as
  where
    head : List (List ℕ) → List ℕ
    head [] = []
    head (line ∷ lines) = line

-- lines give one certificate
pub gives-one : (lines : List (List ℕ)) (c d : Certificate) → Gives lines c → Gives lines d → c ≡ d
gives-one lines c d c_gives d_gives = certificate-one c d c_gives.is d_gives.is (sym c_gives.written ∙ d_gives.written)
