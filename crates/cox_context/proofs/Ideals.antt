-- What is closed downwards in Bruhat order: the group, and the interval up to an element.
use Rattle.std.proofs.Common.{◌≡◌, ℕ, ◌≤◌, Bool, true, nat_lt, List, [], ◌∷◌, length, filter, Contains, Option, None, Some, refl}
use Rattle.std.proofs.Common.{⊎_elim, arith, ltb-true}
use Rattle.std.proofs.lemmas.List.Elements.{All-head, All-contains, filter_passes}
use Rattle.arrayvec.specs.ArrayVec.{ArrayVec}
use Rattle.cox_base.specs.Matrix.{CoxeterMatrix, IsLetter}
use Rattle.cox_base.specs.Admissible.{IsCoxeterMatrix, IsAdmissible}
use Rattle.cox_base.specs.IntegerMatrix.{IntegerMatrix, integer_matrix}
use Rattle.cox_base.specs.ShortLex.{normal_form, letters}
use Rattle.cox_base.specs.Length.{word_length}
use Rattle.cox_base.specs.SideDescents.{descent_set}
use Rattle.cox_base.specs.Descents.{IsLeftDescent, left_descents}
use Rattle.cox_base.specs.Bruhat.{IsBelow}
use Rattle.cox_reflect.proofs.Admissible.{IsAdmissible-integer_matrix}
use Rattle.cox_reflect.proofs.Elements.{same-cons, same-refl}
use Rattle.cox_reflect.proofs.Search.{normal_form-same, word_length-length, length-normal_form}
use Rattle.cox_reflect.proofs.ShortLexFirst.{IsBefore-cons, normal_form-comes_first, none-before_normal_form}
use Rattle.cox_reflect.proofs.Bruhat.{below-trans, below-ascent, below-least}
use Rattle.cox_base.specs.Members.{IsElement, IsInInterval}
use Rattle.cox_context.specs.WantedMembers.{IsMember}
use Rattle.cox_reflect.proofs.NormalElements.{element-word, element-length}
use Rattle.cox_context.proofs.GrowingMembers.{IsTailed}

-- a property of elements that goes over to each element below
pub record IsIdeal (A : IntegerMatrix) (P : List ℕ → Type 0) : Type 0 where
  pub element : (w : List ℕ) → P w → IsElement A w
  pub down : (y w : List ℕ) → P w → IsElement A y → IsBelow A y w → P y
  pub least : P []

module _ (A : IntegerMatrix) (g : IsAdmissible A) where
  pub element-nil : IsElement A []
  element-nil = record { normal = empty (normal_form A []) (length-normal_form A g []) }
    where
      empty : (n : List ℕ) → length n ≤ 0 → n ≡ []
      empty [] l = refl
      empty (s ∷ x) l = absurd (omega (arith, l))

  -- the rest of a normal form behind its first letter is one
  pub element-tail : (s : ℕ) (x : List ℕ) → IsElement A (s ∷ x) → IsElement A x
  element-tail s x e = record {
    normal = ⊎_elim (λ same. same)
        (λ before. absurd (none-before_normal_form A g {w = s ∷ normal_form A x} {u = s ∷ x} (same-cons A g s (normal_form-same A g x))
        (rw e.normal (IsBefore-cons s before))))
        (normal_form-comes_first A g {w = x} {u = x} (same-refl A g x));
  }

  pub below-tail : (s : ℕ) (x : List ℕ) → IsElement A (s ∷ x) → IsBelow A x (s ∷ x)
  below-tail s x e = below-ascent A g x s (All-head (IsLetter A.rank) s x (element-word A g (s ∷ x) e))
      (omega (arith, element-length A g (s ∷ x) e, word_length-length A g x))

  pub contained-descent : (w : List ℕ) (s : ℕ) → Contains (left_descents A w) s → IsLeftDescent A w s
  unfolding descent_set
  contained-descent w s c =
      let test : ℕ → Bool = λ t. nat_lt (word_length A (t ∷ w)) (word_length A w)
      in ltb-true (word_length A (s ∷ w)) (word_length A w)
      (All-contains (λ t. test t ≡ true) (filter test (letters A.rank)) s (filter_passes test (letters A.rank)) c)

  pub group-ideal : IsIdeal A (IsElement A)
  group-ideal = record { element = λ w p. p; down = λ y w p e b. e; least = element-nil }

  pub interval-ideal : (top : List ℕ) → IsIdeal A (IsInInterval A top)
  interval-ideal top = record {
    element = λ w p. p.element;
    down = λ y w p e b. record { element = e; below = below-trans A g b p.below };
    least = record { element = element-nil; below = below-least A g top };
  }

  pub ideal-member : (top : Option (ArrayVec ℕ)) → IsIdeal A (IsMember A top)
  ideal-member None = group-ideal
  ideal-member (Some top) = interval-ideal top.items

  pub ideal-tailed : (P : List ℕ → Type 0) → IsIdeal A P → IsTailed A.rank P
  ideal-tailed P i = record {
    least = i.least;
    letter = λ s x p. All-head (IsLetter A.rank) s x (element-word A g (s ∷ x) (i.element (s ∷ x) p));
    tail = λ s x p. i.down x (s ∷ x) p (element-tail s x (i.element (s ∷ x) p)) (below-tail s x (i.element (s ∷ x) p));
  }

-- the scope that is meant, of a Coxeter matrix
pub member-tailed : (c : CoxeterMatrix) → IsCoxeterMatrix c → (top : Option (ArrayVec ℕ))
    → IsTailed c.rank (IsMember (integer_matrix c) top)
member-tailed c matrix top =
    let g : IsAdmissible (integer_matrix c) = IsAdmissible-integer_matrix c matrix
    in ideal-tailed (integer_matrix c) g (IsMember (integer_matrix c) top) (ideal-member (integer_matrix c) g top)
