-- Faults of rows: by a weaker property, and as rows beyond the limits.
use Rattle.std.proofs.Common.{◌≡◌, ◌≢◌, ℕ, ◌<◌, List, length, ℤ, refl}
use Rattle.cox_base.specs.IntegerMatrix.{IntegerMatrix, integer_matrix}
use Rattle.cox_context.specs.Closed.{Elements}
use Rattle.cox_context.specs.Numbers.{word_at}
use Rattle.cox_row_builder.specs.declared.fault.StepFault.{StepFault}
use Rattle.cox_row_builder.specs.declared.fault.StepFault.TheVariants.{Coefficient, Mu, NoMemory}
use Rattle.cox_row_builder.specs.Faults.{IsFault}
use Rattle.cox_rows.specs.RowsFaults.{IsMemberWith, IsRowsFault}
use Rattle.cox_rows.specs.Beyond.{IsBeyond}
use Rattle.cox_rows.proofs.LargeRows.{coefficient-beyond, mu-beyond}

-- by a weaker property of numbers
number_fault-weaker : (A : IntegerMatrix) (members : List (List ℕ)) (limit : ℤ) (P Q : ℕ → Type 0) (fault : StepFault)
    → ((w : ℕ) → P w → Q w) → IsFault A members limit P fault → IsFault A members limit Q fault
number_fault-weaker A members limit P Q (Coefficient x w degree value) weaker h = (weaker w h.0, h.1)
number_fault-weaker A members limit P Q (Mu x w value) weaker h = (weaker w h.0, h.1)
number_fault-weaker A members limit P Q NoMemory weaker h = tt

-- by a weaker property of elements
pub fault-weaker : (e : Elements) (limit : ℤ) (P Q : List ℕ → Type 0) (fault : StepFault) → ((u : List ℕ) → P u → Q u)
    → IsRowsFault e limit P fault → IsRowsFault e limit Q fault
fault-weaker e limit P Q fault weaker h = number_fault-weaker (integer_matrix e.matrix) e.members limit (IsMemberWith e P)
    (IsMemberWith e Q) fault (λ w m. record { member = m.member; one = weaker (word_at e.members w) m.one }) h

-- the fault of the row of one member that has the property
pub fault-of_member : (e : Elements) (limit : ℤ) (P : List ℕ → Type 0) (i : ℕ) (fault : StepFault) → i < length e.members
    → P (word_at e.members i) → IsFault (integer_matrix e.matrix) e.members limit (λ w. w ≡ i) fault → IsRowsFault e limit P fault
fault-of_member e limit P i fault within one h = number_fault-weaker (integer_matrix e.matrix) e.members limit (λ w. w ≡ i)
    (IsMemberWith e P) fault (λ w is. rw is (record { member = within; one = one })) h

-- a fault, but for memory, is a row beyond the limits
pub fault-beyond : (e : Elements) (limit : ℤ) (P : List ℕ → Type 0) (fault : StepFault) → fault ≢ NoMemory
    → IsRowsFault e limit P fault
    → (w : ℕ) × IsMemberWith e P w × IsBeyond (integer_matrix e.matrix) limit (word_at e.members w)
fault-beyond e limit P (Coefficient x w degree value) some h = (
  w,
  h.0,
  coefficient-beyond (integer_matrix e.matrix) limit (word_at e.members w) (word_at e.members x) degree value h.1.large,
)
fault-beyond e limit P (Mu x w value) some h = (
  w,
  h.0,
  mu-beyond (integer_matrix e.matrix) limit (word_at e.members w) (word_at e.members x) value h.1.large,
)
fault-beyond e limit P NoMemory some h = absurd (some refl)
