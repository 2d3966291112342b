-- The rows that a row is made from are those of members with smaller numbers; and they are there where those of a list are.
use Rattle.std.proofs.Common.{◌≡◌, ℕ, ◌<◌, List, ◌∷◌, length, sym, arith}
use Rattle.cox_base.specs.IntegerMatrix.{IntegerMatrix, integer_matrix}
use Rattle.cox_base.specs.Admissible.{IsAdmissible}
use Rattle.cox_base.specs.ShortLex.{normal_form}
use Rattle.cox_base.specs.Bruhat.{IsBelow}
use Rattle.cox_reflect.proofs.Elements.{same-refl}
use Rattle.cox_reflect.proofs.Search.{normal_form-same}
use Rattle.cox_reflect.proofs.Bruhat.{below-refl}
use Rattle.cox_hecke.specs.Needs.{IsNeeded, itself, shorter, corrected}
use Rattle.cox_hecke.proofs.Descended.{mu-below}
use Rattle.cox_context.specs.Closed.{Elements, IsClosed}
use Rattle.cox_context.specs.Numbers.{word_at}
use Rattle.cox_row.specs.Rising.{number_at}
use Rattle.cox_row_symmetry.specs.declared.descents.Descent.{Descent}
use Rattle.cox_row_symmetry.specs.DescentOf.{IsDescentAt}
use Rattle.cox_row_symmetry.proofs.LowerMembers.{shorter-before, lower-same}
use Rattle.cox_klstep.specs.NeedsOf.{HasNeeds, AreNeeds}

-- the rows of all members with smaller numbers are enough
pub all-needs : (e : Elements) (holds : ℕ → Type 0) (i : ℕ) → IsAdmissible (integer_matrix e.matrix)
    → IsClosed (integer_matrix e.matrix) e.members → i < length e.members → ((j : ℕ) → j < i → holds j) → HasNeeds e holds i
all-needs e holds i g closed inside all = record {
  shorter = λ s j least l is. all j (shorter-before (integer_matrix e.matrix) g e.members closed i inside s j least.descent l
      (below-refl-by s j is));
  corrected = λ s u m least l c. all u (shorter-before (integer_matrix e.matrix) g e.members closed i inside s u least.descent l
      (mu-below (integer_matrix e.matrix) g (word_at e.members u) (s ∷ word_at e.members i) m c.is_mu c.some));
}
  where
    below-refl-by : (s j : ℕ) → word_at e.members j ≡ normal_form (integer_matrix e.matrix) (s ∷ word_at e.members i)
        → IsBelow (integer_matrix e.matrix) (word_at e.members j) (s ∷ word_at e.members i)
    below-refl-by s j is = below-refl (integer_matrix e.matrix) g
        (rw is (normal_form-same (integer_matrix e.matrix) g (s ∷ word_at e.members i)))

-- the rows of the shorter element and of a list of all corrections are enough
pub listed-needs : (e : Elements) (holds : ℕ → Type 0) (d : Descent) (numbers : List ℕ) → IsAdmissible (integer_matrix e.matrix)
    → IsClosed (integer_matrix e.matrix) e.members → IsDescentAt e d
    → AreNeeds (integer_matrix e.matrix) e.members d.letter (word_at e.members d.member) numbers
    → holds d.lower → ((k : ℕ) → k < length numbers → holds (number_at numbers k)) → HasNeeds e holds d.member
listed-needs e holds d numbers g closed descent are lower each = record {
  shorter = λ s j least l is.
      let same : s ≡ d.letter = omega (arith, least.least d.letter descent.least.descent, descent.least.least s least.descent)
      in let place : j ≡ d.lower = closed.distinct j d.lower l descent.lower_within
      (rw (is, same) (sym descent.lower_is))
      in rw place lower;
  corrected = λ s u m least l c.
      let same : s ≡ d.letter = omega (arith, least.least d.letter descent.least.descent, descent.least.least s least.descent)
      in let k = are.whole u m l (rw same at c)
      in rw (← k.2) (each k.0 k.1);
}

module _ (e : Elements) (g : IsAdmissible (integer_matrix e.matrix)) (closed : IsClosed (integer_matrix e.matrix) e.members) where
  -- the row of the identity needs no other
  pub identity-needs : (holds : ℕ → Type 0) → HasNeeds e holds 0
  identity-needs holds = all-needs e holds 0 g closed closed.some (λ j l. absurd (omega (arith, l)))

  -- corrections come before the member, and their rows and that of the shorter element are of its Need
  module _ (d : Descent) (is : IsDescentAt e d) where
    abbrev A : IntegerMatrix
    A = integer_matrix e.matrix

    abbrev w : List ℕ
    w = word_at e.members d.member

    pub shorter-needed : IsNeeded A w (word_at e.members d.lower)
    shorter-needed = shorter (itself (same-refl A g w)) is.least (lower-same e g closed d is)

    module _ (numbers : List ℕ) (are : AreNeeds A e.members d.letter w numbers) (k : ℕ) (l : k < length numbers) where
      pub correction-before : number_at numbers k < d.member
      correction-before =
          let c = are.each k l
          in shorter-before A g e.members closed d.member is.within d.letter (number_at numbers k) is.least.descent (are.within k l)
          (mu-below A g (word_at e.members (number_at numbers k)) (d.letter ∷ w) c.0 c.1.is_mu c.1.some)

      pub correction-needed : IsNeeded A w (word_at e.members (number_at numbers k))
      correction-needed = corrected (itself (same-refl A g w)) is.least (are.each k l).1
