-- The terms of an image, place by place.
use Rattle.std.proofs.Common.{◌≡◌, ℕ, suc, ◌≤◌, ◌<◌, List, [], ◌∷◌, ◌++◌, length, get_or, ⊎_elim, refl, ap, ◌∙◌, arith}
use Rattle.std.proofs.lemmas.Bool.{cases_lt}
use Rattle.std.proofs.lemmas.List.Elements.{All-nil, All-push}
use Rattle.cox_lemmas.proofs.PushedItems.{push-length, push-old, push-new, push_cases}
use Rattle.cox_base.specs.IntegerMatrix.{IntegerMatrix}
use Rattle.cox_context.specs.Numbers.{word_at}
use Rattle.cox_module.specs.declared.term.Entry.{Entry}
use Rattle.cox_module.specs.declared.term.Entry.TheVariants.{Minus}
use Rattle.cox_module.specs.declared.term.Term.{Term}
use Rattle.cox_module.specs.Images.{IsEntry, IsTerm, term, term_at, AreTermsBefore}

module _ (A : IntegerMatrix) (cell : List (List ℕ)) (s : ℕ) (x : List ℕ) where
  pub terms-none : AreTermsBefore A cell s x 0 []
  terms-none = record {
    rising = λ i j less l. absurd (omega (arith, l));
    before = All-nil (λ (t : Term). t.place < 0);
    each = All-nil (IsTerm A cell s x);
    whole = λ j e l. absurd (omega (arith, l));
  }

  module _ (n : ℕ) (terms : List Term) (are : AreTermsBefore A cell s x n terms) where
    older : (d : Term) (i : ℕ) → i < length terms → (get_or terms i d).place < suc n
    older d i l = let less = are.before i d l in omega (arith, less)

    -- the next place has no term
    pub terms-passed : ((e : Entry) → IsEntry A s x (word_at cell n) e → ⊥) → AreTermsBefore A cell s x (suc n) terms
    terms-passed none = record {
      rising = are.rising;
      before = λ i d l. older d i l;
      each = are.each;
      whole = λ j e l is. ⊎_elim (λ (less : j < n). are.whole j e less is)
          (λ (more : n ≤ j). let same : j ≡ n = omega (arith, l, more) in absurd (none e (rw same at is)))
          (cases_lt j n);
    }

    -- the next place has one
    pub terms-added : (e : Entry) → IsEntry A s x (word_at cell n) e → AreTermsBefore A cell s x (suc n) (terms ++ term n e ∷ [])
    terms-added e is = record {
      rising = λ i j less l. ⊎_elim
          (λ (old : j < length terms).
          rw (push-old terms (term n e) (term 0 Minus) i (omega (arith, less, old)), push-old terms (term n e) (term 0 Minus) j old)
          (are.rising i j less old))
          (λ (last : j ≡ length terms).
          let inside : i < length terms = omega (arith, less, last)
          in rw (push-old terms (term n e) (term 0 Minus) i inside, push-new terms (term n e) (term 0 Minus) j last)
          (are.before i (term 0 Minus) inside))
          (push_cases terms (term n e) j l);
      before = All-push (λ (t : Term). t.place < suc n) terms (term n e) (λ i d l. older d i l) (omega arith);
      each = All-push (IsTerm A cell s x) terms (term n e) are.each is;
      whole = λ j e' l is'. ⊎_elim (λ (less : j < n). earlier j (are.whole j e' less is'))
          (λ (more : n ≤ j).
          let same : n ≡ j = omega (arith, l, more)
          in (
            length terms,
            omega (arith, push-length terms (term n e)),
            ap (λ (t : Term). t.place) (push-new terms (term n e) (term 0 Minus) (length terms) refl) ∙ same,
          ))
          (cases_lt j n);
    }
      where
        earlier : (j : ℕ) → (i : ℕ) × (i < length terms) × ((term_at terms i).place ≡ j)
            → (i : ℕ) × (i < length (terms ++ term n e ∷ [])) × ((term_at (terms ++ term n e ∷ []) i).place ≡ j)
        earlier j (i, l, same) = (
          i,
          omega (arith, l, push-length terms (term n e)),
          ap (λ (t : Term). t.place) (push-old terms (term n e) (term 0 Minus) i l) ∙ same,
        )
