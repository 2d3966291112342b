-- Which cause is the first that applies to a certificate, by its parts.
use Rattle.std.proofs.Common.{◌≡◌, ◌↔◌, Bool, IsTrue, ℕ, ◌+◌, ◌-◌, ◌≤◌, ◌<◌, false, List, [], length, take, get_or, All}
use Rattle.std.proofs.Common.{ℤ, sym, ap, ◌∙◌, subst, arith}
use Rattle.std.proofs.lemmas.List.{length-map, get_or-map, take_more_same}
use Rattle.arrayvec.specs.ArrayVec.{ArrayVec}
use Rattle.cox_base.specs.Matrix.{CoxeterMatrix, IsWord}
use Rattle.cox_base.specs.IntegerMatrix.{integer_matrix}
use Rattle.cox_base.specs.ShortLex.{normal_form}
use Rattle.cox_base.specs.Members.{IsInInterval}
use Rattle.cox_base.specs.SortedList.{IsListOf}
use Rattle.cox_rpoly.specs.declared.TheConstants.{MAX_DIFFERENCE}
use Rattle.cox_rowcheck.specs.ListedRows.{AreRow}
use Rattle.cox_rowcheck.specs.CheckablePolynomials.{IsCheckable}
use Rattle.cox_rowcheck.specs.Conditions.{AreBounded}
use Rattle.cox_certtext.specs.declared.limits.TheConstants.{MAX_LISTED}
use Rattle.cox_cert.specs.declared.draft.Draft.{Draft}
use Rattle.cox_certtext.specs.Certificate.{Certificate, words_of_entries, polynomials_of_entries}
use Rattle.cox_cert.specs.Causes.{HasTop, HasInterval, HasRow}
use Rattle.cox_cert.specs.Drafts.{IsDraftOf, letters_of}
use Rattle.cox_cert.specs.Judgements.{HasCertificate, StatesTop, StatesInterval, StatesBounded, StatesRow}
use Rattle.cox_base.specs.Admissible.{IsCoxeterMatrix, IsAdmissible}
use Rattle.cox_reflect.proofs.Admissible.{IsAdmissible-integer_matrix}
use Rattle.cox_context.specs.Numbers.{word_at}
use Rattle.cox_cert.proofs.LastMember.{last-word, some-words}
use Rattle.cox_cert.proofs.NextLines.{entries-size}

-- ---- what the parts of a draft are

pub draft-letters : (draft : Draft) → HasCertificate draft → IsWord draft.group.rank draft.top.items
draft-letters draft h =
    subst (λ (g : CoxeterMatrix). IsWord g.rank draft.top.items) h.parts.matrix
    (subst (λ w. IsWord h.certificate.matrix.rank w) h.parts.top h.is.top.letters)

pub draft-few : (draft : Draft) → HasCertificate draft → length draft.words.items ≤ MAX_LISTED
draft-few draft h = omega (arith, entries-size draft h.certificate h.parts, h.is.few)

pub draft-small : (draft : Draft) → HasCertificate draft → draft.large ≡ false → All IsCheckable draft.polynomials.items
draft-small draft h e = subst (λ l. All IsCheckable l) (h.parts.polynomials e) (h.parts.small e)

pub draft-count : (draft : Draft) → HasCertificate draft → draft.large ≡ false
    → length draft.polynomials.items ≡ length (letters_of draft.words.items)
draft-count draft h e =
    sym (ap length (h.parts.polynomials e)) ∙ length-map h.certificate.entries (λ (entry : List ℕ × List ℤ). entry.1)
    ∙ sym (length-map h.certificate.entries (λ (entry : List ℕ × List ℤ). entry.0)) ∙ ap length h.parts.words

-- ---- the conditions, by these parts

module _ (draft : Draft) (c : Certificate) (parts : IsDraftOf draft c) where
  -- the certificate's parts are the draft's, in any fact of them
  of_parts : (P : CoxeterMatrix → List ℕ → List (List ℕ) → Type 0) → P draft.group draft.top.items (letters_of draft.words.items)
      → P c.matrix c.top (words_of_entries c.entries)
  of_parts P h = rw (parts.matrix, parts.top, parts.words) h

  to_parts : (P : CoxeterMatrix → List ℕ → List (List ℕ) → Type 0) → P c.matrix c.top (words_of_entries c.entries)
      → P draft.group draft.top.items (letters_of draft.words.items)
  to_parts P h = rw (← parts.matrix, ← parts.top, ← parts.words) h

  pub top-is : StatesTop draft → HasTop c
  top-is h =
      let both = of_parts (λ g w words. (normal_form (integer_matrix g) w ≡ w) × (length w ≤ MAX_DIFFERENCE)) (h.normal, h.short) in
      record { normal = both.0; short = both.1 }

  pub interval-is : StatesInterval draft → HasInterval c
  interval-is h = of_parts (λ g w words. IsListOf (IsInInterval (integer_matrix g) w) words) h

  pub row-is : draft.large ≡ false → StatesRow draft → HasRow c
  row-is e h =
      let own = subst (λ l. AreRow (integer_matrix draft.group) draft.top.items (letters_of draft.words.items) l)
      (sym (parts.polynomials e)) h in
      of_parts (λ g w words. AreRow (integer_matrix g) w words (polynomials_of_entries c.entries)) own

  pub row-of : draft.large ≡ false → HasRow c → StatesRow draft
  row-of e h =
      subst (λ l. AreRow (integer_matrix draft.group) draft.top.items (letters_of draft.words.items) l) (parts.polynomials e)
      (to_parts (λ g w words. AreRow (integer_matrix g) w words (polynomials_of_entries c.entries)) h)

-- ---- the last member

-- the members of the interval of a draft, of which the last is the element
module _ (draft : Draft) (certificate : HasCertificate draft) (top : StatesTop draft) (interval : StatesInterval draft) where
  admissible : IsAdmissible (integer_matrix draft.group)
  admissible = IsAdmissible-integer_matrix draft.group
      (subst IsCoxeterMatrix certificate.parts.matrix certificate.is.matrix)

  pub last-top : (members : List (List ℕ)) → members ≡ letters_of draft.words.items
      → word_at members (length members - 1) ≡ draft.top.items
  last-top members same =
      ap (λ l. word_at l (length l - 1)) same
      ∙ last-word (integer_matrix draft.group) admissible draft.top.items (letters_of draft.words.items) top.normal interval

  pub some-members : (members : List (List ℕ)) → members ≡ letters_of draft.words.items → 0 < length members
  some-members members same =
      subst (λ l. 0 < length l) (sym same)
      (some-words (integer_matrix draft.group) admissible draft.top.items (letters_of draft.words.items) top.normal interval)

  -- the same for what the check of a row is given
  module _ (g : CoxeterMatrix) (members : List (List ℕ)) (n : ℕ) (matrix : g ≡ draft.group)
      (same : members ≡ letters_of draft.words.items) (size : n ≡ length members) where
    last-at : word_at members (n - 1) ≡ draft.top.items
    last-at = ap (λ m. word_at members (m - 1)) size ∙ last-top members same

    pub last-inside : n - 1 < length members
    last-inside = omega (arith, size, some-members members same)

    pub row-interval : IsListOf (IsInInterval (integer_matrix g) (word_at members (n - 1))) members
    row-interval =
        subst (λ w. IsListOf (IsInInterval (integer_matrix g) w) members) (sym last-at)
        (subst (λ (h : CoxeterMatrix). IsListOf (IsInInterval (integer_matrix h) draft.top.items) members) (sym matrix)
        (subst (λ l. IsListOf (IsInInterval (integer_matrix draft.group) draft.top.items) l) (sym same) interval))

    pub row-short : length (word_at members (n - 1)) ≤ MAX_DIFFERENCE
    row-short = subst (λ w. length w ≤ MAX_DIFFERENCE) (sym last-at) top.short

    pub row-few : length members ≤ MAX_LISTED
    row-few =
        omega (arith, ap length same, draft-few draft certificate, length-map draft.words.items (λ (word : ArrayVec ℕ). word.items))

    pub row-decided : (polynomials : List (List ℤ)) (answer : Bool) → polynomials ≡ draft.polynomials.items
        → IsTrue answer ↔ AreRow (integer_matrix g) (word_at members (n - 1)) members polynomials → IsTrue answer ↔ StatesRow draft
    row-decided polynomials answer are decides =
        subst (λ (h : CoxeterMatrix). IsTrue answer ↔ AreRow (integer_matrix h) draft.top.items (letters_of draft.words.items)
        draft.polynomials.items) matrix
        (subst (λ w. IsTrue answer ↔ AreRow (integer_matrix g) w (letters_of draft.words.items) draft.polynomials.items) last-at
        (subst (λ l. IsTrue answer ↔ AreRow (integer_matrix g) (word_at members (n - 1)) l draft.polynomials.items) same
        (subst (λ l. IsTrue answer ↔ AreRow (integer_matrix g) (word_at members (n - 1)) members l) are decides)))

    pub row-bounded : (polynomials : List (List ℤ)) → polynomials ≡ draft.polynomials.items → AreBounded members (n - 1) polynomials
        → StatesBounded draft
    row-bounded polynomials are bounded =
        let count : n ≡ length draft.words.items
        = size ∙ ap length same ∙ length-map draft.words.items (λ (word : ArrayVec ℕ). word.items) in
        subst (λ m. AreBounded (letters_of draft.words.items) (m - 1) draft.polynomials.items) count
        (subst (λ l. AreBounded l (n - 1) draft.polynomials.items) same
        (subst (λ l. AreBounded members (n - 1) l) are bounded))

-- ---- members and words, one by one

letters-at : (words : List (ArrayVec ℕ)) (i : ℕ) (x : ArrayVec ℕ) → i < length words → x ≡ get_or words i x
    → word_at (letters_of words) i ≡ x.items
letters-at words i x inside is =
    get_or-map (λ (w : ArrayVec ℕ). w.items) words i x [] inside ∙ ap (λ (w : ArrayVec ℕ). w.items) (sym is)

pub members-more : (members : List (List ℕ)) (words : List (ArrayVec ℕ)) (i : ℕ) (x : ArrayVec ℕ) → i < length members → i < length words
    → take i members ≡ take i (letters_of words) → x ≡ get_or words i x → word_at members i ≡ x.items
    → take (i + 1) members ≡ take (i + 1) (letters_of words)
members-more members words i x inside within before is same =
    let size : i < length (letters_of words) = omega (arith, length-map words (λ (w : ArrayVec ℕ). w.items)) in
    take_more_same members (letters_of words) i [] inside size before (same ∙ sym (letters-at words i x within is))

pub members-differ : (members : List (List ℕ)) (words : List (ArrayVec ℕ)) (i : ℕ) (x : ArrayVec ℕ) → i < length words
    → x ≡ get_or words i x → ¬ (word_at members i ≡ x.items) → ¬ (members ≡ letters_of words)
members-differ members words i x within is other same =
    other (ap (λ l. word_at l i) same ∙ letters-at words i x within is)
