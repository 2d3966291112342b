-- Lines with which no certificate begins, and lines that are no whole certificate's.
use Rattle.std.proofs.Common.{◌≡◌, ◌≢◌, ℕ, ◌+◌, ◌<◌, ◌≤◌, List, [], ◌∷◌, ◌++◌, length, map, All, ℤ, Some, sym, ap, ◌∙◌, subst, arith}
use Rattle.std.proofs.Common.{length-append, position}
use Rattle.std.proofs.lemmas.Bool.{true≢false}
use Rattle.std.proofs.lemmas.List.{length-map}
use Rattle.std.proofs.lemmas.List.Quantifiers.{position-Some}
use Rattle.std.proofs.lemmas.List.Elements.{All-head, All-tail}
use Rattle.cox_base.specs.Matrix.{CoxeterMatrix}
use Rattle.cox_tokens.specs.Line.{is_foreign}
use Rattle.cox_tokens.specs.declared.limits.TheConstants.{LINE_LIMIT}
use Rattle.cox_certtext.specs.declared.limits.TheConstants.{MAX_LISTED}
use Rattle.cox_certtext.specs.Certificate.{Certificate, IsShortWord, IsTextEntry, IsCertificate, Gives}
use Rattle.cox_certtext.specs.Certificate.{matrix_line, top_line, count_line, entry_line, end_line, certificate_lines}
use Rattle.cox_cert.specs.Drafts.{IsGroup, BeginsNone}
use Rattle.cox_cert.proofs.MatrixLines.{matrix_line-one}
use Rattle.cox_polyread.proofs.Splits.{AreNot}
use Rattle.cox_cert.proofs.PlainTexts.{AreNot-at}
use Rattle.cox_cert.proofs.PlainLines.{count_line-one, lines-plain}

-- ---- a foreign line, by its place

-- the matrix of a certificate that begins with the line of this one
same-matrix : (g : CoxeterMatrix) (c : Certificate) → IsGroup g → IsCertificate c → matrix_line g ≡ matrix_line c.matrix → c.matrix ≡ g
same-matrix g c is certificate e =
    sym (matrix_line-one g c.matrix is.matrix certificate.matrix is.rank certificate.rank e)

-- no line of an element
pub none-top : (g : CoxeterMatrix) (line : List ℕ) → IsGroup g → ((w : List ℕ) → IsShortWord g.rank w → line ≢ top_line g.rank w)
    → BeginsNone (matrix_line g ∷ line ∷ [])
none-top g line is none rest c gives =
    let same : c.matrix ≡ g = same-matrix g c is gives.is (cc gives.written) in
    let e : line ≡ top_line c.matrix.rank c.top = cc gives.written in
    none c.top (subst (λ (h : CoxeterMatrix). IsShortWord h.rank c.top) same gives.is.top)
    (subst (λ (h : CoxeterMatrix). line ≡ top_line h.rank c.top) same e)

-- the line behind so many entries is the next entry's ..
entry-there : (rank : ℕ) (lines : List (List ℕ)) (line : List ℕ) (rest : List (List ℕ)) (entries : List (List ℕ × List ℤ)) (last : List ℕ)
    → (lines ++ line ∷ []) ++ rest ≡ map (entry_line rank) entries ++ last ∷ [] → length lines < length entries
    → All (IsTextEntry rank) entries
    → (entry : List ℕ × List ℤ) × IsTextEntry rank entry × (line ≡ entry_line rank entry)
entry-there rank lines line rest [] last e less all = absurd (omega arith)
entry-there rank [] line rest (entry ∷ entries) last e less all = (entry, All-head (IsTextEntry rank) entry entries all, cc e)
entry-there rank (first ∷ lines) line rest (entry ∷ entries) last e less all =
    entry-there rank lines line rest entries last (cc e) (omega arith) (All-tail (IsTextEntry rank) entry entries all)

-- .. or the last line, behind all of them
end-there : (rank : ℕ) (lines : List (List ℕ)) (line : List ℕ) (rest : List (List ℕ)) (entries : List (List ℕ × List ℤ)) (last : List ℕ)
    → (lines ++ line ∷ []) ++ rest ≡ map (entry_line rank) entries ++ last ∷ [] → length lines ≡ length entries → line ≡ last
end-there rank [] line rest [] last e same = cc e
end-there rank [] line rest (entry ∷ entries) last e same = absurd (omega arith)
end-there rank (first ∷ lines) line rest [] last e same = absurd (omega arith)
end-there rank (first ∷ lines) line rest (entry ∷ entries) last e same = end-there rank lines line rest entries last (cc e) (omega arith)

-- no line of an entry, where one has to stand
pub none-entry : (g : CoxeterMatrix) (second : List ℕ) (n : ℕ) (lines : List (List ℕ)) (line : List ℕ) → IsGroup g → n ≤ MAX_LISTED
    → length lines < n
    → ((entry : List ℕ × List ℤ) → IsTextEntry g.rank entry → line ≢ entry_line g.rank entry)
    → BeginsNone ((matrix_line g ∷ second ∷ count_line n ∷ lines) ++ line ∷ [])
none-entry g second n lines line is few less none rest c gives =
    let same : c.matrix ≡ g = same-matrix g c is gives.is (cc gives.written) in
    let size : length c.entries ≡ n = count_line-one (length c.entries) n gives.is.few few (cc gives.written) in
    let behind : (lines ++ line ∷ []) ++ rest ≡ map (entry_line c.matrix.rank) c.entries ++ end_line ∷ [] = cc gives.written in
    let found = entry-there c.matrix.rank lines line rest c.entries end_line behind (omega arith) gives.is.entries in
    none found.0 (subst (λ (h : CoxeterMatrix). IsTextEntry h.rank found.0) same found.1)
    (subst (λ (h : CoxeterMatrix). line ≡ entry_line h.rank found.0) same found.2)

-- not the last line, where that has to stand
pub none-end : (first second : List ℕ) (n : ℕ) (lines : List (List ℕ)) (line : List ℕ) → n ≤ MAX_LISTED → length lines ≡ n
    → line ≢ end_line
    → BeginsNone ((first ∷ second ∷ count_line n ∷ lines) ++ line ∷ [])
none-end first second n lines line few full none rest c gives =
    let size : length c.entries ≡ n = count_line-one (length c.entries) n gives.is.few few (cc gives.written) in
    let behind : (lines ++ line ∷ []) ++ rest ≡ map (entry_line c.matrix.rank) c.entries ++ end_line ∷ [] = cc gives.written in
    none (end-there c.matrix.rank lines line rest c.entries end_line behind (omega arith))

-- the number of the lines of a certificate
pub lines-count : (c : Certificate) → length (certificate_lines c) ≡ 4 + length c.entries
lines-count c =
    omega (arith, length-append (map (entry_line c.matrix.rank) c.entries) (end_line ∷ []), length-map c.entries (entry_line c.matrix.rank))

-- nothing stands behind the last line
pub none-behind : (d : Certificate) (line : List ℕ) → IsCertificate d → BeginsNone (certificate_lines d ++ line ∷ [])
none-behind d line is rest c gives =
    let size : length d.entries ≡ length c.entries
    = count_line-one (length d.entries) (length c.entries) is.few gives.is.few (cc gives.written) in
    omega (
      arith,
      lines-count c,
      lines-count d,
      ap length gives.written,
      length-append (certificate_lines d ++ line ∷ []) rest,
      length-append (certificate_lines d) (line ∷ []),
    )

-- ---- too few lines

-- those up to one of the entries
pub unfinished-entries : (first second : List ℕ) (n : ℕ) (lines : List (List ℕ)) (c : Certificate) → n ≤ MAX_LISTED → length lines ≤ n
    → ¬ Gives (first ∷ second ∷ count_line n ∷ lines) c
unfinished-entries first second n lines c limit few gives =
    let size : n ≡ length c.entries = count_line-one n (length c.entries) limit gives.is.few (cc gives.written) in
    omega (arith, lines-count c, ap length gives.written)

-- ---- lines that are never a certificate's

-- what is behind some lines, and what holds of all
All-at : (P : List ℕ → Type 0) (lines : List (List ℕ)) (line : List ℕ) (rest : List (List ℕ)) → All P ((lines ++ line ∷ []) ++ rest)
    → P line
All-at P [] line rest all = All-head P line rest all
All-at P (first ∷ lines) line rest all = All-at P lines line rest (All-tail P first ((lines ++ line ∷ []) ++ rest) all)

-- one that is too long
pub none-long : (lines : List (List ℕ)) (line : List ℕ) → LINE_LIMIT < length line → BeginsNone (lines ++ line ∷ [])
none-long lines line long rest c gives =
    let short : length line ≤ LINE_LIMIT = All-at (λ other. length other ≤ LINE_LIMIT) lines line rest gives.short in omega arith

-- one with a foreign byte
pub none-byte : (lines : List (List ℕ)) (line : List ℕ) (i : ℕ) → position is_foreign line ≡ Some i → BeginsNone (lines ++ line ∷ [])
none-byte lines line i found rest c gives =
    let plain : AreNot is_foreign line = All-at (λ other. AreNot is_foreign other) lines line rest
    (subst (λ all. All (λ other. AreNot is_foreign other) all) (sym gives.written) (lines-plain c gives.is)) in
    let at = position-Some is_foreign line i 0 found in
    true≢false (sym at.1 ∙ AreNot-at is_foreign line i plain at.0)
