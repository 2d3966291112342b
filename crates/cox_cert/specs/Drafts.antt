-- For code: a certificate, as far as its lines are read.
use Rattle.std.specs.Prelude.{◌≡◌, ℕ, ◌≤◌, true, false, List, [], ◌∷◌, ◌++◌, length, map, All, Option, Some, None}
use Rattle.arrayvec.specs.ArrayVec.{ArrayVec}
use Rattle.cox_base.specs.Matrix.{CoxeterMatrix}
use Rattle.cox_base.specs.Admissible.{IsCoxeterMatrix}
use Rattle.cox_base.specs.declared.limits.TheConstants.{MAX_RANK}
use Rattle.cox_certtext.specs.declared.limits.TheConstants.{MAX_LISTED}
use Rattle.cox_cert.specs.declared.draft.Draft.{Draft}
use Rattle.cox_cert.specs.declared.draft.Form.{Form}
use Rattle.cox_cert.specs.declared.draft.Form.TheVariants as form
use Rattle.cox_certtext.specs.Certificate.{Certificate, IsShortWord, IsTextEntry, IsCertificate, Gives}
use Rattle.cox_certtext.specs.Certificate.{words_of_entries, polynomials_of_entries}
use Rattle.cox_certtext.specs.Certificate.{matrix_line, top_line, count_line, entry_line, certificate_lines}
use Rattle.cox_cert.specs.Causes.{HasSmall}

-- the letters of words
abbrev pub letters_of : List (ArrayVec ℕ) → List (List ℕ)
letters_of words = map (λ word. word.items) words

-- the draft has the parts of the certificate, and its polynomials if all are small
pub record IsDraftOf (draft : Draft) (c : Certificate) : Type 0 where
  pub matrix : c.matrix ≡ draft.group
  pub top : c.top ≡ draft.top.items
  pub words : words_of_entries c.entries ≡ letters_of draft.words.items
  pub large : draft.large ≡ true → ¬ HasSmall c
  pub small : draft.large ≡ false → HasSmall c
  pub polynomials : draft.large ≡ false → polynomials_of_entries c.entries ≡ draft.polynomials.items

-- a matrix that can be written
pub record IsGroup (g : CoxeterMatrix) : Type 0 where
  pub matrix : IsCoxeterMatrix g
  pub rank : g.rank ≤ MAX_RANK

-- the lines of a matrix and an element
pub record HasHead (g : CoxeterMatrix) (top : List ℕ) (lines : List (List ℕ)) : Type 0 where
  pub group : IsGroup g
  pub word : IsShortWord g.rank top
  pub written : lines ≡ matrix_line g ∷ top_line g.rank top ∷ []

-- the lines of a certificate of so many entries, up to one of the entries: the certificate here is of the entries so far
pub record HasEntries (draft : Draft) (lines : List (List ℕ)) : Type 0 where
  pub certificate : Certificate
  pub parts : IsDraftOf draft certificate
  pub group : IsGroup certificate.matrix
  pub word : IsShortWord certificate.matrix.rank certificate.top
  pub entries : All (IsTextEntry certificate.matrix.rank) certificate.entries
  pub some : 1 ≤ draft.count
  pub few : draft.count ≤ MAX_LISTED
  pub within : length certificate.entries ≤ draft.count
  pub written : lines ≡ matrix_line certificate.matrix ∷ top_line certificate.matrix.rank certificate.top ∷ count_line draft.count
      ∷ map (entry_line certificate.matrix.rank) certificate.entries

-- all lines of a certificate
pub record HasAll (draft : Draft) (lines : List (List ℕ)) : Type 0 where
  pub certificate : Certificate
  pub parts : IsDraftOf draft certificate
  pub is : IsCertificate certificate
  pub written : lines ≡ certificate_lines certificate

-- what was read, by its lines
abbrev pub IsForm : Form → List (List ℕ) → Type 0
IsForm form.Start lines = lines ≡ []
IsForm (form.Matrix g) lines = IsGroup g × (lines ≡ matrix_line g ∷ [])
IsForm (form.Top g top) lines = HasHead g top.items lines
IsForm (form.Entries draft) lines = HasEntries draft lines
IsForm (form.Ended draft) lines = HasAll draft lines

-- no certificate has these lines first
abbrev pub BeginsNone : List (List ℕ) → Type 0
BeginsNone lines = (rest : List (List ℕ)) (c : Certificate) → ¬ Gives (lines ++ rest) c

-- what was read by these lines, or that no certificate begins so
abbrev pub Forms : Option Form → List (List ℕ) → Type 0
Forms (Some form) lines = IsForm form lines
Forms None lines = BeginsNone lines

-- the certificate that has these lines, or that none has
abbrev pub Finishes : Option Draft → List (List ℕ) → Type 0
Finishes (Some draft) lines = HasAll draft lines
Finishes None lines = (c : Certificate) → ¬ Gives lines c
