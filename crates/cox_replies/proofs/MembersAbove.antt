-- The members of a context that are above an element: they begin with that element itself, where it is a member, and else there are none.
use Rattle.std.proofs.Common.{◌≡◌, ℕ, zero, suc, ◌≤◌, ◌<◌, Bool, true, false, IsTrue, List, [], ◌∷◌, length, filter, take, Contains, ◌↔◌}
use Rattle.std.proofs.Common.{refl, arith}
use Rattle.std.proofs.lemmas.Bool.{false≢true, false_from_ne_true}
use Rattle.std.proofs.lemmas.List.{take_all}
use Rattle.cox_base.specs.IntegerMatrix.{IntegerMatrix}
use Rattle.cox_base.specs.Admissible.{IsAdmissible}
use Rattle.cox_base.specs.ShortLex.{normal_form}
use Rattle.cox_base.specs.Bruhat.{IsBelow}
use Rattle.cox_reflect.proofs.Elements.{same-refl, same-sym}
use Rattle.cox_reflect.proofs.Search.{normal_form-same}
use Rattle.cox_reflect.proofs.Bruhat.{below-same}
use Rattle.cox_context.specs.Closed.{IsClosed}
use Rattle.cox_context.specs.Numbers.{word_at}
use Rattle.cox_context.proofs.Shifting.{member-below}
use Rattle.cox_context.proofs.IntervalLists.{is_below, is_below-tells}

-- a test that none of the first members passes
filter-passes_none : (test : List ℕ → Bool) (n : ℕ) (members : List (List ℕ)) → n ≤ length members
    → ((k : ℕ) → k < n → test (word_at members k) ≡ false)
    → filter test (take n members) ≡ []
filter-passes_none test zero members within fails = refl
filter-passes_none test (suc n) [] within fails = refl
filter-passes_none test (suc n) (x ∷ members) within fails =
    let first : test x ≡ false = fails 0 (omega arith) in
    rw first (filter-passes_none test n members (omega (arith, within)) (λ k below. fails (suc k) (omega (arith, below))))

-- two answers to one question
same-answer : (b answer : Bool) (P : Type 0) → (b ≡ true) ↔ P → IsTrue answer ↔ P → b ≡ answer
same-answer b true P tells says = tells.1 (says.0 refl)
same-answer b false P tells says = false_from_ne_true b (λ e. false≢true (says.1 (tells.0 e)))

module _ (A : IntegerMatrix) (g : IsAdmissible A) (members : List (List ℕ)) (closed : IsClosed A members) (y : List ℕ) where
  -- the answer for the normal form is that for the element
  pub above-answer : (low i : ℕ) (answer : Bool) → word_at members low ≡ normal_form A y
      → IsTrue answer ↔ IsBelow A (word_at members low) (word_at members i)
      → is_below A y (word_at members i) ≡ answer
  above-answer low i answer is says =
      let P = IsBelow A y (word_at members i) in
      let says_it = rw is at says in
      same-answer (is_below A y (word_at members i)) answer P (is_below-tells A g y (word_at members i)) (
        λ t. below-same A g (normal_form-same A g y) (same-refl A g (word_at members i)) (says_it.0 t),
        λ b. says_it.1 (below-same A g (same-sym A g (normal_form-same A g y)) (same-refl A g (word_at members i)) b),
      )

  -- no member before the element itself is above it
  not-before : (low k : ℕ) → low < length members → word_at members low ≡ normal_form A y → k < low → IsBelow A y (word_at members k) → ⊥
  not-before low k within is before below =
      let inside : k < length members = omega (arith, within, before) in
      let up = closed.upward low k within inside (below-same A g
      (rw is (same-sym A g (normal_form-same A g y))) (same-refl A g (word_at members k)) below) in
      omega (arith, before, up)

  pub none-before : (low : ℕ) → low < length members → word_at members low ≡ normal_form A y → filter (is_below A y) (take low members) ≡ []
  none-before low within is =
      filter-passes_none (is_below A y) low members (omega (arith, within))
      (λ k before. false_from_ne_true (is_below A y (word_at members k))
      (λ e. not-before low k within is before ((is_below-tells A g y (word_at members k)).0 e)))

  -- no member is above an element that is none
  pub none-above : (Contains members (normal_form A y) → ⊥) → filter (is_below A y) members ≡ []
  none-above outside =
      rw (take_all (length members) members (omega arith)) at (filter-passes_none (is_below A y) (length members) members (omega arith)
      (λ k inside. false_from_ne_true (is_below A y (word_at members k))
      (λ e. outside (member-below A g members closed y k inside ((is_below-tells A g y (word_at members k)).0 e)))))
