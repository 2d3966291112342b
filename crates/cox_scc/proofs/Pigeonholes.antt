-- There are at most as many places on the stack as there are vertices, since a vertex tells its place.
use Rattle.std.proofs.Common.{◌≡◌, ◌≢◌, ℕ, zero, suc, ◌+◌, ◌<◌, ◌≤◌, cond, ◌==◌, ⊎_elim, sym, ◌∙◌, ap, arith}
use Rattle.std.proofs.lemmas.Bool.{cases_lt, cases_eq}
use Rattle.std.proofs.lemmas.Bool.Decides.{nat_tests}
use Rattle.cox_scc.specs.Visits.{Visit, Unseen, Open, Closed}
use Rattle.cox_scc.specs.Walk.{AreOnStack}
use Rattle.cox_scc.proofs.Keeping.{placed_enter}

-- the last value takes the place of the one at q
abbrev moved : (ℕ → ℕ) → ℕ → ℕ → ℕ → ℕ
moved f q last p = cond (p == q) (f last) (f p)

abbrev moved_back : (ℕ → ℕ) → ℕ → ℕ → ℕ → ℕ
moved_back g q last v = cond (g v == last) q (g v)

-- the value m stands at q
module _ (m last q : ℕ) (f g : ℕ → ℕ) (below : (p : ℕ) → p < last + 1 → f p < suc m) (back : (p : ℕ) → p < last + 1 → g (f p) ≡ p)
    (q_in : q < last + 1) (q_is : f q ≡ m) where
  moved_below : (p : ℕ) → p < last → moved f q last p < m
  moved_below p within = ⊎_elim
      (λ is. let here : moved f q last p ≡ f last = grind (arith, nat_tests) in
      let ne : f last ≢ m = λ e. let same : last ≡ q = sym (back last (omega arith)) ∙ ap g (e ∙ sym q_is) ∙ back q q_in in omega arith in
      omega (arith, here, below last (omega arith)))
      (λ other. let here : moved f q last p ≡ f p = grind (arith, nat_tests) in
      let ne : f p ≢ m = λ e. other (sym (back p (omega arith)) ∙ ap g (e ∙ sym q_is) ∙ back q q_in) in
      omega (arith, here, below p (omega arith)))
      (cases_eq p q)

  moved_back_is : (p : ℕ) → p < last → moved_back g q last (moved f q last p) ≡ p
  moved_back_is p within = ⊎_elim
      (λ is. let here : moved f q last p ≡ f last = grind (arith, nat_tests) in
      let value : g (moved f q last p) ≡ last = ap g here ∙ back last (omega arith) in
      let there : moved_back g q last (moved f q last p) ≡ q = grind (arith, nat_tests) in there ∙ sym is)
      (λ other. let here : moved f q last p ≡ f p = grind (arith, nat_tests) in
      let value : g (moved f q last p) ≡ p = ap g here ∙ back p (omega arith) in
      let there : moved_back g q last (moved f q last p) ≡ g (moved f q last p) = grind (arith, nat_tests) in there ∙ value)
      (cases_eq p q)

-- different numbers below n for all places below `size`: there are at most n places
pigeonhole : (n size : ℕ) (f g : ℕ → ℕ) → ((p : ℕ) → p < size → f p < n) → ((p : ℕ) → p < size → g (f p) ≡ p) → size ≤ n
pigeonhole zero size f g below back = ⊎_elim (λ some. let none : f 0 < 0 = below 0 some in absurd (omega arith)) (λ none. none)
    (cases_lt 0 size)
pigeonhole (suc m) zero f g below back = omega arith
pigeonhole (suc m) (suc last) f g below back =
    let fewer : ((p : ℕ) → p < suc last → f p ≢ m) → suc last ≤ suc m = λ free.
    (let less : suc last ≤ m =
    pigeonhole m (suc last) f g (λ p lt. let low : f p < suc m = below p lt in let ne : f p ≢ m = free p lt in omega arith) back in
    omega arith) in
    ⊎_elim
    (λ q_in. ⊎_elim
    (λ q_is. let less : last ≤ m = pigeonhole m last (moved f (g m) last) (moved_back g (g m) last)
    (moved_below m last (g m) f g (λ p lt. below p (omega arith)) (λ p lt. back p (omega arith)) (omega arith) q_is)
    (moved_back_is m last (g m) f g (λ p lt. below p (omega arith)) (λ p lt. back p (omega arith)) (omega arith) q_is) in omega arith)
    (λ free. fewer (λ p lt is. free (ap f (sym (ap g is) ∙ back p lt) ∙ is)))
    (cases_eq (f (g m)) m))
    (λ past. fewer (λ p lt is. let same : g m ≡ p = sym (ap g is) ∙ back p lt in omega arith))
    (cases_lt (g m) (suc last))

place_of_visit : Visit → ℕ
place_of_visit Unseen = 0
place_of_visit (Open place) = place
place_of_visit Closed = 0

-- there are at most as many places on the stack as there are vertices
pub stack_fits : (n : ℕ) (visit : ℕ → Visit) (stack : ℕ → ℕ) (size : ℕ) → AreOnStack n visit stack size → size ≤ n
unfolding place_of_visit
stack_fits n visit stack size placed =
    pigeonhole n size stack (λ v. place_of_visit (visit v)) placed.vertex (λ p within. ap place_of_visit (placed.visited p within))

-- there is room for a vertex that is not on the stack
pub stack_room : (n : ℕ) (visit : ℕ → Visit) (stack : ℕ → ℕ) (size v : ℕ) → v < n → visit v ≡ Unseen → AreOnStack n visit stack size
    → size < n
stack_room n visit stack size v v_in unseen placed =
    let fits : size + 1 ≤ n = stack_fits n (λ w. cond (w == v) (Open size) (visit w)) (λ p. cond (p == size) v (stack p)) (size + 1)
    (placed_enter n size v visit (λ w. cond (w == v) (Open size) (visit w)) stack (λ p. cond (p == size) v (stack p))
    (grind (arith, nat_tests)) (λ w ne. grind (arith, nat_tests)) (grind (arith, nat_tests)) (λ p lt. grind (arith, nat_tests))
    unseen v_in placed)
    in omega (arith, fits)
