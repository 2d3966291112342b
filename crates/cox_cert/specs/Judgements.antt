-- For code: which cause is the first that applies to a certificate.
use Rattle.std.specs.Prelude.{◌≡◌, ◌-◌, ◌≤◌, length, Option, Some, None}
use Rattle.cox_base.specs.IntegerMatrix.{integer_matrix}
use Rattle.cox_base.specs.ShortLex.{normal_form}
use Rattle.cox_base.specs.Members.{IsInInterval}
use Rattle.cox_base.specs.SortedList.{IsListOf}
use Rattle.cox_rpoly.specs.declared.TheConstants.{MAX_DIFFERENCE}
use Rattle.cox_rowcheck.specs.ListedRows.{AreRow}
use Rattle.cox_rowcheck.specs.Conditions.{AreBounded}
use Rattle.cox_cert.specs.declared.status.Cause.{Cause}
use Rattle.cox_cert.specs.declared.status.Cause.TheVariants.{Grammar, Top, Interval, Size, Row}
use Rattle.cox_cert.specs.declared.status.CheckStatus.{CheckStatus}
use Rattle.cox_cert.specs.declared.status.CheckStatus.TheVariants.{Yes, No, Usage, ReadFault, WriteFault, NoMemory, InputLimit}
use Rattle.cox_cert.specs.declared.draft.Draft.{Draft}
use Rattle.cox_certtext.specs.Certificate.{Certificate, IsCertificate}
use Rattle.cox_cert.specs.Causes.{HasTop, HasInterval, HasSmall, HasRow}
use Rattle.cox_cert.specs.Drafts.{IsDraftOf, letters_of}

-- these are the parts of some certificate
pub record HasCertificate (draft : Draft) : Type 0 where
  pub certificate : Certificate
  pub is : IsCertificate certificate
  pub parts : IsDraftOf draft certificate

-- the conditions, by the parts: the element is given by its normal form, of at most MAX_DIFFERENCE letters ..
pub record StatesTop (draft : Draft) : Type 0 where
  pub normal : normal_form (integer_matrix draft.group) draft.top.items ≡ draft.top.items
  pub short : length draft.top.items ≤ MAX_DIFFERENCE

-- .. the words are the elements below it, in ShortLex order ..
abbrev pub StatesInterval : Draft → Type 0
StatesInterval draft = IsListOf (IsInInterval (integer_matrix draft.group) draft.top.items) (letters_of draft.words.items)

-- .. the polynomial of the last word, which is the element, is 1, and the others meet the bound on their degrees ..
abbrev pub StatesBounded : Draft → Type 0
StatesBounded draft = AreBounded (letters_of draft.words.items) (length draft.words.items - 1) draft.polynomials.items

-- .. and the polynomials are its row
abbrev pub StatesRow : Draft → Type 0
StatesRow draft = AreRow (integer_matrix draft.group) draft.top.items (letters_of draft.words.items) draft.polynomials.items

-- the first cause that applies to a certificate, if one does
abbrev pub IsFirst : Option Cause → Certificate → Type 0
IsFirst None c = HasTop c × HasInterval c × HasSmall c × HasRow c
IsFirst (Some Grammar) c = ⊥
IsFirst (Some Top) c = ¬ HasTop c
IsFirst (Some Interval) c = HasTop c × ¬ HasInterval c
IsFirst (Some Size) c = HasTop c × HasInterval c × ¬ HasSmall c
IsFirst (Some Row) c = HasTop c × HasInterval c × HasSmall c × ¬ HasRow c

-- how the check of a certificate ends: memory runs out only where the first condition holds
abbrev pub IsJudged : CheckStatus → Certificate → Type 0
IsJudged Yes c = IsFirst None c
IsJudged (No cause) c = IsFirst (Some cause) c
IsJudged Usage c = ⊥
IsJudged ReadFault c = ⊥
IsJudged WriteFault c = ⊥
IsJudged NoMemory c = HasTop c
IsJudged InputLimit c = ⊥
