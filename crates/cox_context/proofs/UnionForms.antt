-- The union with the interval up to w is that up to the normal form of w; and it has that normal form.
use Rattle.std.proofs.Common.{◌≡◌, ℕ, List, Contains, inl, inr, ⊎_elim, ◌↔◌, Result, IfErr}
use Rattle.cox_base.specs.IntegerMatrix.{IntegerMatrix}
use Rattle.cox_base.specs.Admissible.{IsAdmissible}
use Rattle.cox_base.specs.Element.{SameElement}
use Rattle.cox_base.specs.ShortLex.{normal_form}
use Rattle.cox_base.specs.Members.{IsElement}
use Rattle.cox_reflect.proofs.Elements.{same-refl, same-sym}
use Rattle.cox_reflect.proofs.Search.{normal_form-same}
use Rattle.cox_reflect.proofs.Bruhat.{below-same, below-refl}
use Rattle.cox_context.specs.declared.fault.ContextFault.{ContextFault}
use Rattle.cox_context.specs.FaultMeaning.{IsRefusal}
use Rattle.cox_context.specs.Union.{IsInUnion}
use Rattle.cox_context.proofs.ClosedContexts.{result-along}

module _ (A : IntegerMatrix) (g : IsAdmissible A) where
  -- the union with the interval up to an element has it
  pub union-top : (top : List ℕ) → IsElement A top → (old new : List (List ℕ))
      → ((word : List ℕ) → Contains new word ↔ IsInUnion A top old word) → Contains new top
  union-top top element old new are =
      (are top).1 (record { element = element; either = inl (below-refl A g (same-refl A g top)) })

  -- one word of an element for another
  union-along : (a b : List ℕ) (old : List (List ℕ)) → SameElement A a b → (word : List ℕ) → IsInUnion A a old word → IsInUnion A b old word
  union-along a b old same word p = record {
    element = p.element;
    either = ⊎_elim (λ below. inl (below-same A g (same-refl A g word) same below)) (λ there. inr there) p.either;
  }

  module _ (top w : List ℕ) (form : top ≡ normal_form A w) (old : List (List ℕ)) where
    same : SameElement A top w
    same = rw form (normal_form-same A g w)

    -- the normal form of w for w: what a context has then
    pub union-form : (new : List (List ℕ)) → ((word : List ℕ) → Contains new word ↔ IsInUnion A top old word)
        → (word : List ℕ) → Contains new word ↔ IsInUnion A w old word
    union-form new are word = (
      λ c. union-along top w old same word ((are word).0 c),
      λ p. (are word).1 (union-along w top old (same-sym A g same) word p),
    )

    -- and why it is refused
    pub refusal-form : {T : Type 0} (limit : ℕ) (r : Result T ContextFault) → IfErr r (IsRefusal (IsInUnion A top old) limit)
        → IfErr r (IsRefusal (IsInUnion A w old) limit)
    refusal-form limit r refused = result-along (IsInUnion A top old) (IsInUnion A w old) (union-along top w old same)
        (union-along w top old (same-sym A g same)) limit r refused
