-- The text of a certificate gives its lines.
use Rattle.std.proofs.Common.{◌≡◌, ◌≢◌, ℕ, suc, ◌+◌, ◌-◌, ◌*◌, ◌<◌, ◌≤◌, ◌==◌, true, false, List, [], ◌∷◌, ◌++◌, map, length, flat_map}
use Rattle.std.proofs.Common.{ℤ, codes, decimal, get_or, nat_lt, refl, ap, ◌∙◌, arith, append_assoc, length-append, IsTrue}
use Rattle.std.specs.List.{All, join_by}
use Rattle.std.proofs.lemmas.List.{length-map}
use Rattle.std.proofs.lemmas.Bool.Decides.{nat_tests}
use Rattle.std.proofs.lemmas.Bool.{ne_eqb, true≢false}
use Rattle.std.proofs.lemmas.List.Elements.{All-head, All-tail, All-cons, All-nil, All-append, All-weaker, All-same, All-from_get_or}
use Rattle.cox_base.specs.declared.limits.TheConstants.{MAX_RANK}
use Rattle.cox_base.specs.Matrix.{CoxeterMatrix, is_label}
use Rattle.cox_base.specs.Admissible.{IsCoxeterMatrix}
use Rattle.cox_base.specs.WordText.{word_text}
use Rattle.cox_poly.specs.PolynomialText.{polynomial_text}
use Rattle.cox_polyread.proofs.Splits.{AreNot}
use Rattle.cox_tokens.specs.Line.{line_feed, lines_of, content_of, is_foreign}
use Rattle.cox_tokens.specs.Unbroken.{IsUnbroken}
use Rattle.cox_tokens.specs.declared.limits.TheConstants.{LINE_LIMIT}
use Rattle.cox_outside.specs.declared.limits.TheConstants.{INPUT_LIMIT}
use Rattle.cox_tokens.proofs.Lines.{lines_of-line}
use Rattle.cox_certtext.specs.declared.limits.TheConstants.{MAX_LISTED}
use Rattle.cox_rowcheck.specs.CheckablePolynomials.{IsCheckable}
use Rattle.cox_certtext.specs.Certificate.{Certificate, IsShortWord, IsCertificate, IsTextEntry, Gives, entry_line, end_line, matrix_line}
use Rattle.cox_certtext.specs.Certificate.{count_line, top_line, certificate_lines, certificate_text, contents, polynomials_of_entries}
use Rattle.cox_cert.specs.Causes.{HasSmall}
use Rattle.cox_certtext.specs.CertificateParts.{labels_text}
use Rattle.cox_cert.proofs.PlainTexts.{IsPlainText, AreNot-at, plain-append, plain-more, plain-flat_map, decimal-plain}
use Rattle.cox_cert.proofs.WordLines.{word_text-plain}
use Rattle.cox_cert.proofs.MatrixLines.{labels-digits, label_count-limit}
use Rattle.cox_cert.proofs.PolynomialLines.{polynomial_text-plain}

-- a line of plain bytes has no LF, and no CR at its end
plain-unbroken : (line : List ℕ) → AreNot is_foreign line → IsUnbroken line
plain-unbroken line plain =
    All-from_get_or (λ byte. byte ≢ line_feed) line 0 (λ k within feed. true≢false (rw feed at (AreNot-at is_foreign line k plain within)))

plain-content : (line : List ℕ) → AreNot is_foreign line → content_of line ≡ line
plain-content [] plain = refl
plain-content (byte ∷ line) plain =
    let whole = byte ∷ line in
    let last : suc (length line) - 1 ≡ length line = omega arith in
    let some : nat_lt 0 (suc (length line)) ≡ true = grind (arith, nat_tests) in
    let other : (get_or whole (length line) 0 == 13) ≡ false = ne_eqb (get_or whole (length line) 0) 13
    (λ (e : get_or whole (length line) 0 ≡ 13). true≢false (rw e at (AreNot-at is_foreign whole (length line) plain (omega arith)))) in
    rw (last, some, other) refl

-- lines, each with its end
ended : List (List ℕ) → List ℕ
ended [] = []
ended (line ∷ lines) = line ++ line_feed ∷ ended lines

ended-lines : (lines : List (List ℕ)) → All IsUnbroken lines → lines_of (ended lines) ≡ lines
unfolding ended
ended-lines [] unbroken = refl
ended-lines (line ∷ lines) unbroken =
    lines_of-line line (ended lines) (All-head IsUnbroken line lines unbroken)
    ∙ ap (λ rest. line ∷ rest) (ended-lines lines (All-tail IsUnbroken line lines unbroken))

-- they are the lines with an end between each two, and one behind the last
others-ended : (lines : List (List ℕ)) → flat_map (λ next. (line_feed ∷ []) ++ next) lines ++ line_feed ∷ [] ≡ line_feed ∷ ended lines
unfolding ended
others-ended [] = refl
others-ended (next ∷ lines) =
    ap (λ rest. line_feed ∷ rest)
    (append_assoc next (flat_map (λ l. (line_feed ∷ []) ++ l) lines) (line_feed ∷ []) ∙ ap (λ rest. next ++ rest) (others-ended lines))

joined-ended : (line : List ℕ) (lines : List (List ℕ))
    → join_by (λ l. l) (line_feed ∷ []) (line ∷ lines) ++ line_feed ∷ [] ≡ ended (line ∷ lines)
unfolding ended
joined-ended line lines =
    append_assoc line (flat_map (λ next. (line_feed ∷ []) ++ next) lines) (line_feed ∷ []) ∙ ap (λ rest. line ++ rest) (others-ended lines)

-- plain lines are their contents
lines-content : (lines : List (List ℕ)) → All (λ line. AreNot is_foreign line) lines → map content_of lines ≡ lines
lines-content [] plain = refl
lines-content (line ∷ lines) plain =
    let first = plain-content line (All-head (λ l. AreNot is_foreign l) line lines plain) in
    let rest = lines-content lines (All-tail (λ l. AreNot is_foreign l) line lines plain) in
    ap (λ l. l ∷ map content_of lines) first ∙ ap (λ l. line ∷ l) rest

-- how many bytes lines have with their ends
ended-size : (most : ℕ) (lines : List (List ℕ)) → All (IsPlainText most) lines → length (ended lines) ≤ (most + 1) * length lines
unfolding ended
ended-size most [] all = omega arith
ended-size most (line ∷ lines) all =
    let first = All-head (IsPlainText most) line lines all in
    let rest = ended-size most lines (All-tail (IsPlainText most) line lines all) in
    omega (arith, first.size, rest, length-append line (line_feed ∷ ended lines))

-- the lines of a certificate are plain and short: none has more bytes than this
abbrev pub most_bytes : ℕ
most_bytes = 2000

labels_text-plain : (labels : List ℕ) → All (λ m. IsTrue (is_label m)) labels → IsPlainText (2 * length labels) (labels_text labels)
labels_text-plain labels admitted =
    plain-flat_map (λ label. codes " " ++ decimal label) 2 labels
    (All-weaker (λ m. m < 10) (λ m. IsPlainText 2 (codes " " ++ decimal m)) one labels (labels-digits labels admitted))
  where
    one : (m : ℕ) → m < 10 → IsPlainText 2 (codes " " ++ decimal m)
    one m small =
        plain-append 1 1 (codes " ") (decimal m) (record { size = omega arith; plain = (refl, tt) })
        (decimal-plain 1 m (omega arith) (omega arith) (omega arith))

pub matrix_line-plain : (g : CoxeterMatrix) → IsCoxeterMatrix g → g.rank ≤ MAX_RANK → IsPlainText most_bytes (matrix_line g)
matrix_line-plain g is limit =
    let few = label_count-limit g.rank limit in
    let count = is.count in
    plain-more (7 + 2 * length g.labels) most_bytes (matrix_line g) (omega arith)
    (plain-append 7 (2 * length g.labels) (codes "cert " ++ decimal g.rank) (labels_text g.labels)
    (plain-append 5 2 (codes "cert ") (decimal g.rank)
    (record { size = omega arith; plain = (refl, (refl, (refl, (refl, (refl, tt))))) })
    (decimal-plain 2 g.rank (omega arith) (omega arith) (omega arith)))
    (labels_text-plain g.labels is.admitted))

pub short_word-plain : (rank : ℕ) (word : List ℕ) → rank ≤ MAX_RANK → IsShortWord rank word → IsPlainText 766 (word_text rank word)
short_word-plain rank word limit is =
    let short = is.short in
    plain-more (3 * length word + 1) 766 (word_text rank word) (omega arith) (word_text-plain rank word limit is.letters)

pub top_line-plain : (rank : ℕ) (word : List ℕ) → rank ≤ MAX_RANK → IsShortWord rank word → IsPlainText most_bytes (top_line rank word)
top_line-plain rank word limit is =
    plain-more 774 most_bytes (top_line rank word) (omega arith)
    (plain-append 8 766 (codes "element ") (word_text rank word)
    (record { size = omega arith; plain = (refl, (refl, (refl, (refl, (refl, (refl, (refl, (refl, tt)))))))) })
    (short_word-plain rank word limit is))

pub count_line-plain : (n : ℕ) → n ≤ MAX_LISTED → IsPlainText most_bytes (count_line n)
count_line-plain n few =
    plain-more 9 most_bytes (count_line n) (omega arith)
    (plain-append 5 4 (codes "rows ") (decimal n) (record { size = omega arith; plain = (refl, (refl, (refl, (refl, (refl, tt))))) })
    (decimal-plain 4 n (omega arith) (omega arith) (omega arith)))

entry_line-plain : (rank : ℕ) (entry : List ℕ × List ℤ) → rank ≤ MAX_RANK → IsTextEntry rank entry → IsCheckable entry.1
    → IsPlainText most_bytes (entry_line rank entry)
entry_line-plain rank entry limit is small =
    plain-more 1728 most_bytes (entry_line rank entry) (omega arith)
    (plain-append 767 961 (word_text rank entry.0 ++ codes ":") (polynomial_text entry.1)
    (plain-append 766 1 (word_text rank entry.0) (codes ":") (short_word-plain rank entry.0 limit is.word)
    (record { size = omega arith; plain = (refl, tt) }))
    (polynomial_text-plain entry.1 is.polynomial small))

entries-plain : (rank : ℕ) (entries : List (List ℕ × List ℤ)) → rank ≤ MAX_RANK → All (IsTextEntry rank) entries
    → All IsCheckable (polynomials_of_entries entries) → All (IsPlainText most_bytes) (map (entry_line rank) entries)
entries-plain rank [] limit are small = All-nil (IsPlainText most_bytes)
entries-plain rank (entry ∷ entries) limit are small =
    All-cons (IsPlainText most_bytes) (entry_line rank entry) (map (entry_line rank) entries)
    (entry_line-plain rank entry limit (All-head (IsTextEntry rank) entry entries are)
    (All-head IsCheckable entry.1 (polynomials_of_entries entries) small))
    (entries-plain rank entries limit (All-tail (IsTextEntry rank) entry entries are)
    (All-tail IsCheckable entry.1 (polynomials_of_entries entries) small))

pub end_line-plain : IsPlainText most_bytes end_line
end_line-plain = record { size = omega arith; plain = (refl, (refl, (refl, tt))) }

-- the lines behind the first
abbrev later_lines : Certificate → List (List ℕ)
later_lines c = (top_line c.matrix.rank c.top ∷ count_line (length c.entries) ∷ map (entry_line c.matrix.rank) c.entries) ++ end_line ∷ []

certificate_lines-plain : (c : Certificate) → IsCertificate c → HasSmall c → All (IsPlainText most_bytes) (certificate_lines c)
certificate_lines-plain c is small =
    let P = IsPlainText most_bytes in
    let rank = c.matrix.rank in
    let entries = map (entry_line rank) c.entries in
    let count = count_line (length c.entries) in
    let top = top_line rank c.top in
    All-append P (matrix_line c.matrix ∷ top ∷ count ∷ entries) (end_line ∷ [])
    (All-cons P (matrix_line c.matrix) (top ∷ count ∷ entries) (matrix_line-plain c.matrix is.matrix is.rank)
    (All-cons P top (count ∷ entries) (top_line-plain rank c.top is.rank is.top)
    (All-cons P count entries (count_line-plain (length c.entries) is.few) (entries-plain rank c.entries is.rank is.entries small))))
    (All-cons P end_line [] end_line-plain (All-nil P))

-- a certificate is read as it is written
certificate_text-contents : (c : Certificate) → IsCertificate c → HasSmall c
    → contents (certificate_text c ++ line_feed ∷ []) ≡ certificate_lines c
certificate_text-contents c is small =
    let lines = certificate_lines c in
    let plain = All-weaker (IsPlainText most_bytes) (λ line. AreNot is_foreign line) (λ line l. l.plain) lines
    (certificate_lines-plain c is small) in
    let unbroken = All-weaker (λ line. AreNot is_foreign line) IsUnbroken plain-unbroken lines plain in
    ap contents (joined-ended (matrix_line c.matrix) (later_lines c)) ∙ ap (map content_of) (ended-lines lines unbroken)
    ∙ lines-content lines plain

pub certificate_text-gives : (c : Certificate) → IsCertificate c → HasSmall c → Gives (contents (certificate_text c ++ line_feed ∷ [])) c
certificate_text-gives c is small =
    let text = certificate_text c ++ line_feed ∷ [] in
    let written = certificate_text-contents c is small in
    let short = All-weaker (IsPlainText most_bytes) (λ line. length line ≤ LINE_LIMIT) (λ line l. omega (arith, l.size))
    (certificate_lines c)
    (certificate_lines-plain c is small) in
    record {
      is = is;
      written = written;
      short = All-same (λ line. length line ≤ LINE_LIMIT) (contents text) (certificate_lines c) written short;
    }

-- and its text is within the limit of a check
pub certificate_text-within : (c : Certificate) → IsCertificate c → HasSmall c → length (certificate_text c ++ line_feed ∷ []) ≤ INPUT_LIMIT
certificate_text-within c is small =
    let entries = map (entry_line c.matrix.rank) c.entries in
    let same = ap length (joined-ended (matrix_line c.matrix) (later_lines c)) in
    let size = ended-size most_bytes (certificate_lines c) (certificate_lines-plain c is small) in
    let front = matrix_line c.matrix ∷ top_line c.matrix.rank c.top ∷ count_line (length c.entries) ∷ entries in
    let count : length (certificate_lines c) ≡ 4 + length c.entries
    = omega (arith, length-append front (end_line ∷ []), length-map c.entries (entry_line c.matrix.rank)) in
    omega (arith, same, size, count, is.few)
