-- A family that is given at some words: it respects elements, it is 0 elsewhere, and it has the polynomial of each word there.
use Rattle.std.proofs.Common.{◌≡◌, ℕ, zero, suc, ◌<◌, Bool, true, false, List, [], ◌∷◌, length, ℤ, pos, refl, arith}
use Rattle.std.specs.Str.{bytes_eq}
use Rattle.std.proofs.lemmas.Slice.Eq.{bytes_eq-Decides}
use Rattle.cox_base.specs.IntegerMatrix.{IntegerMatrix}
use Rattle.cox_base.specs.Admissible.{IsAdmissible}
use Rattle.cox_base.specs.Members.{IsElement}
use Rattle.cox_reflect.proofs.Search.{normal_form-equal}
use Rattle.cox_poly.specs.Polynomial.{coefficient}
use Rattle.cox_rpoly.specs.Terms.{numbered}
use Rattle.cox_hecke.specs.Family.{RespectsElements}
use Rattle.cox_context.specs.Numbers.{word_at}
use Rattle.cox_rowcheck.specs.MemberFamily.{polynomial_of, family_of}

-- no word stands at two places
abbrev pub AreApart : List (List ℕ) → Type 0
AreApart words = (i j : ℕ) → i < length words → j < length words → word_at words i ≡ word_at words j → i ≡ j

-- the words of an element have one normal form
pub family-respects : (A : IntegerMatrix) → IsAdmissible A → (words : List (List ℕ)) (polynomials : List (List ℤ))
    → RespectsElements A (family_of A words polynomials)
family-respects A g words polynomials x y e k = rw (normal_form-equal A g e) refl

-- a word that the list does not have has 0
pub polynomial-outside : (words : List (List ℕ)) (polynomials : List (List ℤ)) (word : List ℕ)
    → ((i : ℕ) → i < length words → word_at words i ≡ word → ⊥) → (k : ℕ) → polynomial_of words polynomials word k ≡ pos 0
polynomial-outside [] polynomials word n k = refl
polynomial-outside (x ∷ words) [] word n k = refl
polynomial-outside (x ∷ words) (p ∷ polynomials) word n k = go (bytes_eq x word) refl
    (polynomial-outside words polynomials word (λ i l same. n (suc i) (omega (arith, l)) same) k)
  where
    go : (b : Bool) → bytes_eq x word ≡ b → polynomial_of words polynomials word k ≡ pos 0
        → polynomial_of (x ∷ words) (p ∷ polynomials) word k ≡ pos 0
    go true e rest = absurd (n 0 (omega arith) ((bytes_eq-Decides x word).0 e))
    go false e rest = rw e rest

-- a word of the list has the polynomial at its place
pub polynomial-at : (words : List (List ℕ)) (polynomials : List (List ℤ)) (i : ℕ) → AreApart words → length polynomials ≡ length words
    → i < length words → polynomial_of words polynomials (word_at words i) ≡ coefficient (numbered polynomials i)
polynomial-at [] polynomials i apart size l = absurd (omega (arith, l))
polynomial-at (x ∷ words) [] i apart size l = absurd (omega (arith, size))
polynomial-at (x ∷ words) (p ∷ polynomials) zero apart size l = rw ((bytes_eq-Decides x x).1 refl) refl
polynomial-at (x ∷ words) (p ∷ polynomials) (suc i) apart size l = go (bytes_eq x (word_at words i)) refl
    (polynomial-at words polynomials i
    (λ a b la lb same. let up : suc a ≡ suc b = apart (suc a) (suc b) (omega (arith, la)) (omega (arith, lb)) same in omega (arith, up))
    (omega (arith, size)) (omega (arith, l)))
  where
    go : (b : Bool) → bytes_eq x (word_at words i) ≡ b
        → polynomial_of words polynomials (word_at words i) ≡ coefficient (numbered polynomials i)
        → polynomial_of (x ∷ words) (p ∷ polynomials) (word_at words i) ≡ coefficient (numbered polynomials i)
    go true e rest = absurd (let same : 0 ≡ suc i = apart 0 (suc i) (omega arith) l ((bytes_eq-Decides x (word_at words i)).0 e)
        in omega (arith, same))
    go false e rest = rw e rest

-- so the family has it at the element of the word
pub family-at : (A : IntegerMatrix) (words : List (List ℕ)) (polynomials : List (List ℤ)) (i : ℕ) → AreApart words
    → IsElement A (word_at words i) → length polynomials ≡ length words → i < length words
    → family_of A words polynomials (word_at words i) ≡ coefficient (numbered polynomials i)
family-at A words polynomials i apart element size l = rw element.normal (polynomial-at words polynomials i apart size l)
