-- The pool of a row has each polynomial P(x,w) once.
use Rattle.std.proofs.Common.{ℕ, ◌<◌, List, length, ℤ, arith}
use Rattle.cox_base.specs.IntegerMatrix.{IntegerMatrix}
use Rattle.cox_base.specs.Admissible.{IsAdmissible}
use Rattle.cox_base.specs.Element.{SameElement}
use Rattle.cox_base.specs.ShortLex.{normal_form}
use Rattle.cox_base.specs.Bruhat.{IsBelow}
use Rattle.cox_reflect.proofs.Elements.{same-sym}
use Rattle.cox_reflect.proofs.Search.{normal_form-same}
use Rattle.cox_poly.proofs.Polynomials.{same_polynomial}
use Rattle.cox_hecke.proofs.PolynomialValues.{kazhdan_lusztig-unique}
use Rattle.cox_context.specs.Closed.{IsClosed}
use Rattle.cox_context.specs.Numbers.{word_at}
use Rattle.cox_context.proofs.PlacedWords.{contains-placed}
use Rattle.cox_context.proofs.Shifting.{member-below}
use Rattle.cox_row.specs.Rising.{number_at}
use Rattle.cox_row.specs.ExtremalNumbers.{AreExtremal}
use Rattle.cox_row.specs.Polynomials.{polynomial_at, HavePolynomials}
use Rattle.cox_row.specs.Distinct.{ArePolynomialsOf}
use Rattle.cox_row.specs.Raised.{StandsFor}
use Rattle.cox_row.proofs.Raising.{stands-same}
use Rattle.cox_row.proofs.Tops.{top-exists, extremal-same}

module _ (A : IntegerMatrix) (g : IsAdmissible A) (members : List (List ℕ)) (closed : IsClosed A members) (i : ℕ)
    (inside : i < length members)
    (numbers places : List ℕ) (pool : List (List ℤ)) (extremal : AreExtremal A members (word_at members i) numbers)
    (have : HavePolynomials A members (word_at members i) numbers places pool) where
  -- for each x ≤ w an extremal member stands
  pub record IsKept (x : List ℕ) : Type 0 where
    pub k : ℕ
    pub within : k < length numbers
    pub stands : StandsFor A (word_at members i) x (word_at members (number_at numbers k))

  pub kept : (x : List ℕ) → IsBelow A x (word_at members i) → IsKept x
  kept x b =
      let t = top-exists A g (word_at members i) x b
      in let place = contains-placed members (normal_form A t.top) (member-below A g members closed t.top i inside (t.stands.to b))
      in let same : SameElement A t.top (word_at members place.i) = rw place.is (same-sym A g (normal_form-same A g t.top))
      in let stands = stands-same A g same t.stands
      in let there = extremal.whole place.i place.within (extremal-same A g same t.extremal) (stands.to b)
      in record { k = there.0; within = there.1; stands = rw there.2 stands }

  pub pool-polynomials : ArePolynomialsOf A (word_at members i) pool
  pool-polynomials = record {
    once = have.distinct.once;
    each = λ j l.
        let u = have.distinct.used j l
        in let within : u.0 < length numbers = omega (arith, u.1, have.size)
        in record {
          trimmed = have.distinct.trimmed j l;
          x = word_at members (number_at numbers u.0);
          below = extremal.below u.0 within;
          is = rw u.2 at (have.value u.0 within);
        };
    whole = λ p is.
        let k = kept is.x is.below
        in let placed : number_at places k.k < length pool = have.placed k.k (omega (arith, k.within, have.size))
        in (
          number_at places k.k,
          placed,
          same_polynomial (polynomial_at pool (number_at places k.k)) p (have.distinct.trimmed _ placed) is.trimmed
              (kazhdan_lusztig-unique A g is.x (word_at members i) _ _ (k.stands.same _ (have.value k.k k.within)) is.is),
        );
  }
