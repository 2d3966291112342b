-- Two letters s and t. An alternating word moves a vector by a combination of e(s) and e(t), so two coefficients tell
-- all: the braid relations for m = 2, 3, 4 and 6, and that a shorter alternating word takes e(s) to a nonnegative
-- combination of e(s) and e(t).
use Rattle.std.proofs.Common.{◌≡◌, ℕ, zero, suc, ◌+◌, ◌-◌, ◌≤◌, ◌<◌, Bool, true, false, not, cond, List, [], ◌∷◌, ◌++◌, length, ℤ}
use Rattle.std.proofs.Common.{pos, negsuc, ◌+ℤ◌, ◌-ℤ◌, ◌*ℤ◌, ◌≤ℤ◌, refl, ap, ap₂, sym, ◌∙◌, ⊎_elim, arith, lit<, zero-add}
use Rattle.std.proofs.Common.{suc-add}
use Rattle.std.proofs.Math.Path.{fun_ext}
use Rattle.std.proofs.lemmas.Int.{ints}
use Rattle.std.proofs.lemmas.Bool.{cases_order}
use lib.IntN.{+ℤ_comm}
use lib.Signed.{le_z_yes}
use Rattle.cox_base.specs.Matrix.{IsLetter}
use Rattle.cox_base.specs.IntegerMatrix.{IntegerMatrix}
use Rattle.cox_base.specs.Admissible.{two, three, four, back_four, six, IsAdmissible, IsAdmissiblePair, HasOrder, order_six, order_back_six}
use Rattle.cox_base.specs.Admissible.{back_six, infinity, order_two, order_three, order_four, order_back_four}
use Rattle.cox_base.specs.Element.{SameElement}
use Rattle.cox_reflect.specs.Action.{Vector, simple_root, pairing, minus_multiple, reflect}
use Rattle.cox_reflect.specs.WordAction.{act}
use Rattle.cox_lemmas.proofs.Ring.{linears, multiply_out}
use Rattle.cox_reflect.proofs.Action.{act-nil, act-cons, pairing-minus_multiple, pairing-simple_root}
use Rattle.cox_reflect.proofs.Elements.{act-same}

abbrev pub is_even : ℕ → Bool
is_even zero = true
is_even (suc k) = not (is_even k)

-- .. s t, the alternating word of k letters that ends with t
unfoldable pub alternating : ℕ → ℕ → ℕ → List ℕ
alternating zero s t = []
alternating (suc k) s t = cond (is_even k) t s ∷ alternating k s t

-- v - x e(s) - y e(t)
unfoldable pub moved : ℕ → ℕ → Vector → ℤ × ℤ → Vector
moved s t v c = minus_multiple (minus_multiple v c.0 (simple_root s)) c.1 (simple_root t)

-- the coefficients after one letter more, t or s; p and q are p(s,v) and p(t,v), a and b are a(s,t) and a(t,s)
abbrev pub step : Bool → ℤ → ℤ → ℤ → ℤ → ℤ × ℤ → ℤ × ℤ
step true p q a b c = (c.0, (q -ℤ c.1) -ℤ (b *ℤ c.0))
step false p q a b c = ((p -ℤ c.0) -ℤ (a *ℤ c.1), c.1)

-- the coefficients after the alternating word of k letters
abbrev pub shift : ℕ → ℤ → ℤ → ℤ → ℤ → ℤ × ℤ
shift zero p q a b = (pos 0, pos 0)
shift (suc k) p q a b = step (is_even k) p q a b (shift k p q a b)

pub IsAdmissiblePair-swap : {a b : ℤ} → IsAdmissiblePair a b → IsAdmissiblePair b a
IsAdmissiblePair-swap two = two
IsAdmissiblePair-swap three = three
IsAdmissiblePair-swap four = back_four
IsAdmissiblePair-swap back_four = four
IsAdmissiblePair-swap six = back_six
IsAdmissiblePair-swap back_six = six
IsAdmissiblePair-swap infinity = infinity

pub HasOrder-swap : {a b : ℤ} {m : ℕ} → HasOrder a b m → HasOrder b a m
HasOrder-swap order_two = order_two
HasOrder-swap order_three = order_three
HasOrder-swap order_four = order_back_four
HasOrder-swap order_back_four = order_four
HasOrder-swap order_six = order_back_six
HasOrder-swap order_back_six = order_six

-- ---- braids

-- both alternating words of m letters give the same coefficients
record Braid (m : ℕ) (p q a b : ℤ) : Type 0 where
  at_s : (shift m p q a b).0 ≡ (shift m q p b a).1
  at_t : (shift m p q a b).1 ≡ (shift m q p b a).0

-- the steps for a(s,t) = -1 and a(t,s) = -3, one equation each, so that omega meets no long term
six_steps : (p q y1 x2 y3 x4 y5 x6 : ℤ) → y1 ≡ (q -ℤ pos 0) -ℤ (negsuc 2 *ℤ pos 0)
    → x2 ≡ (p -ℤ pos 0) -ℤ (negsuc 0 *ℤ y1)
    → y3 ≡ (q -ℤ y1) -ℤ (negsuc 2 *ℤ x2) → x4 ≡ (p -ℤ x2) -ℤ (negsuc 0 *ℤ y3) → y5 ≡ (q -ℤ y3) -ℤ (negsuc 2 *ℤ x4)
    → x6 ≡ (p -ℤ x4) -ℤ (negsuc 0 *ℤ y5)
    → (x6 ≡ (pos 4 *ℤ p) +ℤ (pos 2 *ℤ q)) × (y5 ≡ (pos 6 *ℤ p) +ℤ (pos 4 *ℤ q))
six_steps p q y1 x2 y3 x4 y5 x6 e1 e2 e3 e4 e5 e6 = (omega (arith, ints), omega (arith, ints))

-- the steps for a(s,t) = -3 and a(t,s) = -1, one equation each, so that omega meets no long term
back_six_steps : (p q y1 x2 y3 x4 y5 x6 : ℤ) → y1 ≡ (q -ℤ pos 0) -ℤ (negsuc 0 *ℤ pos 0)
    → x2 ≡ (p -ℤ pos 0) -ℤ (negsuc 2 *ℤ y1)
    → y3 ≡ (q -ℤ y1) -ℤ (negsuc 0 *ℤ x2) → x4 ≡ (p -ℤ x2) -ℤ (negsuc 2 *ℤ y3) → y5 ≡ (q -ℤ y3) -ℤ (negsuc 0 *ℤ x4)
    → x6 ≡ (p -ℤ x4) -ℤ (negsuc 2 *ℤ y5)
    → (x6 ≡ (pos 4 *ℤ p) +ℤ (pos 6 *ℤ q)) × (y5 ≡ (pos 2 *ℤ p) +ℤ (pos 4 *ℤ q))
back_six_steps p q y1 x2 y3 x4 y5 x6 e1 e2 e3 e4 e5 e6 = (omega (arith, ints), omega (arith, ints))

six_coefficients : (p q : ℤ)
    → ((shift 6 p q (negsuc 0) (negsuc 2)).0 ≡ (pos 4 *ℤ p) +ℤ (pos 2 *ℤ q)) ×
    ((shift 6 p q (negsuc 0) (negsuc 2)).1 ≡ (pos 6 *ℤ p) +ℤ (pos 4 *ℤ q))
six_coefficients p q = six_steps p q _ _ _ _ _ _ refl refl refl refl refl refl

back_six_coefficients : (p q : ℤ)
    → ((shift 6 p q (negsuc 2) (negsuc 0)).0 ≡ (pos 4 *ℤ p) +ℤ (pos 6 *ℤ q)) ×
    ((shift 6 p q (negsuc 2) (negsuc 0)).1 ≡ (pos 2 *ℤ p) +ℤ (pos 4 *ℤ q))
back_six_coefficients p q = back_six_steps p q _ _ _ _ _ _ refl refl refl refl refl refl

braid : {a b : ℤ} {m : ℕ} (p q : ℤ) → HasOrder a b m → Braid m p q a b
braid p q order_two = record { at_s = omega (arith, ints); at_t = omega (arith, ints) }
braid p q order_three = record { at_s = omega (arith, ints); at_t = omega (arith, ints) }
braid p q order_four = record { at_s = omega (arith, ints); at_t = omega (arith, ints) }
braid p q order_back_four = record { at_s = omega (arith, ints); at_t = omega (arith, ints) }
braid p q order_six = record {
  at_s = (six_coefficients p q).0 ∙ +ℤ_comm (pos 4 *ℤ p) (pos 2 *ℤ q) ∙ sym (back_six_coefficients q p).1;
  at_t = (six_coefficients p q).1 ∙ +ℤ_comm (pos 6 *ℤ p) (pos 4 *ℤ q) ∙ sym (back_six_coefficients q p).0;
}
braid p q order_back_six = record {
  at_s = (back_six_coefficients p q).0 ∙ +ℤ_comm (pos 4 *ℤ p) (pos 6 *ℤ q) ∙ sym (six_coefficients q p).1;
  at_t = (back_six_coefficients p q).1 ∙ +ℤ_comm (pos 2 *ℤ p) (pos 4 *ℤ q) ∙ sym (six_coefficients q p).0;
}

-- ---- what an alternating word makes of e(s)

-- the image (1 - x) e(s) - y e(t) of e(s) is nonnegative, or a braid relation shortens the word
pub data TwoLetters (k : ℕ) (a b : ℤ) : Type 0 where
  spread : (shift k (pos 2) b a b).0 ≤ℤ pos 1 → (shift k (pos 2) b a b).1 ≤ℤ pos 0 → TwoLetters k a b
  braids : (m : ℕ) → 0 < m → m ≤ k → HasOrder a b m → TwoLetters k a b

-- the coefficients for two letters with no relation, after an even and after an odd number of letters
Parallel : Bool → ℕ → ℤ × ℤ → Type 0
Parallel true k c = (c.0 +ℤ pos k ≡ pos 0) × (c.1 +ℤ pos k ≡ pos 0)
Parallel false k c = (c.0 +ℤ pos k ≡ pos 1) × (c.1 +ℤ pos (k + 1) ≡ pos 0)

parallel-step : (even : Bool) (k : ℕ) (c : ℤ × ℤ) → Parallel even k c
    → Parallel (not even) (suc k) (step even (pos 2) (negsuc 1) (negsuc 1) (negsuc 1) c)
unfolding Parallel
parallel-step true k c h = (omega (arith, ints, h), omega (arith, ints, h))
parallel-step false k c h = (omega (arith, ints, h), omega (arith, ints, h))

parallel : (k : ℕ) → Parallel (is_even k) k (shift k (pos 2) (negsuc 1) (negsuc 1) (negsuc 1))
unfolding Parallel
parallel zero = (refl, refl)
parallel (suc k) = parallel-step (is_even k) k (shift k (pos 2) (negsuc 1) (negsuc 1) (negsuc 1)) (parallel k)

parallel-spread : (even : Bool) (k : ℕ) (c : ℤ × ℤ) → Parallel even k c → (c.0 ≤ℤ pos 1) × (c.1 ≤ℤ pos 0)
unfolding Parallel
parallel-spread true k c h = (omega (arith, ints, h), omega (arith, ints, h))
parallel-spread false k c h = (omega (arith, ints, h), omega (arith, ints, h))

pub two_letters : {a b : ℤ} → IsAdmissiblePair a b → (k : ℕ) → TwoLetters k a b
two_letters two zero = spread (le_z_yes tt) (le_z_yes tt)
two_letters two (suc zero) = spread (le_z_yes tt) (le_z_yes tt)
two_letters two (suc (suc k)) = braids 2 (lit< tt) (omega arith) order_two
two_letters three zero = spread (le_z_yes tt) (le_z_yes tt)
two_letters three (suc zero) = spread (le_z_yes tt) (le_z_yes tt)
two_letters three (suc (suc zero)) = spread (le_z_yes tt) (le_z_yes tt)
two_letters three (suc (suc (suc k))) = braids 3 (lit< tt) (omega arith) order_three
two_letters four zero = spread (le_z_yes tt) (le_z_yes tt)
two_letters four (suc zero) = spread (le_z_yes tt) (le_z_yes tt)
two_letters four (suc (suc zero)) = spread (le_z_yes tt) (le_z_yes tt)
two_letters four (suc (suc (suc zero))) = spread (le_z_yes tt) (le_z_yes tt)
two_letters four (suc (suc (suc (suc k)))) = braids 4 (lit< tt) (omega arith) order_four
two_letters back_four zero = spread (le_z_yes tt) (le_z_yes tt)
two_letters back_four (suc zero) = spread (le_z_yes tt) (le_z_yes tt)
two_letters back_four (suc (suc zero)) = spread (le_z_yes tt) (le_z_yes tt)
two_letters back_four (suc (suc (suc zero))) = spread (le_z_yes tt) (le_z_yes tt)
two_letters back_four (suc (suc (suc (suc k)))) = braids 4 (lit< tt) (omega arith) order_back_four
two_letters six zero = spread (le_z_yes tt) (le_z_yes tt)
two_letters six (suc zero) = spread (le_z_yes tt) (le_z_yes tt)
two_letters six (suc (suc zero)) = spread (le_z_yes tt) (le_z_yes tt)
two_letters six (suc (suc (suc zero))) = spread (le_z_yes tt) (le_z_yes tt)
two_letters six (suc (suc (suc (suc zero)))) = spread (le_z_yes tt) (le_z_yes tt)
two_letters six (suc (suc (suc (suc (suc zero))))) = spread (le_z_yes tt) (le_z_yes tt)
two_letters six (suc (suc (suc (suc (suc (suc k)))))) = braids 6 (lit< tt) (omega arith) order_six
two_letters back_six zero = spread (le_z_yes tt) (le_z_yes tt)
two_letters back_six (suc zero) = spread (le_z_yes tt) (le_z_yes tt)
two_letters back_six (suc (suc zero)) = spread (le_z_yes tt) (le_z_yes tt)
two_letters back_six (suc (suc (suc zero))) = spread (le_z_yes tt) (le_z_yes tt)
two_letters back_six (suc (suc (suc (suc zero)))) = spread (le_z_yes tt) (le_z_yes tt)
two_letters back_six (suc (suc (suc (suc (suc zero))))) = spread (le_z_yes tt) (le_z_yes tt)
two_letters back_six (suc (suc (suc (suc (suc (suc k)))))) = braids 6 (lit< tt) (omega arith) order_back_six
two_letters infinity k =
    let h = parallel-spread (is_even k) k (shift k (pos 2) (negsuc 1) (negsuc 1) (negsuc 1)) (parallel k) in spread h.0 h.1

pub alternating-zero : (s t : ℕ) → alternating 0 s t ≡ []
unfolding alternating
alternating-zero s t = refl

pub alternating-suc : (k s t : ℕ) → alternating (suc k) s t ≡ cond (is_even k) t s ∷ alternating k s t
unfolding alternating
alternating-suc k s t = refl

pub length-alternating : (k s t : ℕ) → length (alternating k s t) ≡ k
unfolding alternating
length-alternating zero s t = refl
length-alternating (suc k) s t = ap suc (length-alternating k s t)

pub cond_not : (b : Bool) (t s : ℕ) → cond (not b) t s ≡ cond b s t
cond_not true t s = refl
cond_not false t s = refl

-- the other letter before the last
pub alternating-last : (k s t : ℕ) → alternating (suc k) s t ≡ alternating k t s ++ t ∷ []
unfolding alternating
alternating-last zero s t = refl
alternating-last (suc k) s t = ap₂ (λ (x : ℕ) (w : List ℕ). x ∷ w) (cond_not (is_even k) t s) (alternating-last k s t)

-- the end of an alternating word is alternating
alternating-add : (i j s t : ℕ) → (x : List ℕ) × (alternating (i + j) s t ≡ x ++ alternating j s t)
unfolding alternating
alternating-add zero j s t = ([], rw (zero-add j))
alternating-add (suc i) j s t =
    let h = alternating-add i j s t in (
      cond (is_even (i + j)) t s ∷ h.0,
      rw (suc-add i j) (ap (λ (w : List ℕ). cond (is_even (i + j)) t s ∷ w) h.1),
    )

pub alternating-ends : (k m s t : ℕ) → m ≤ k → (x : List ℕ) × (alternating k s t ≡ x ++ alternating m s t)
alternating-ends k m s t l = let e : k - m + m ≡ k = omega arith in rw e at (alternating-add (k - m) m s t)

moved-swap : (s t : ℕ) (v : Vector) (c d : ℤ × ℤ) → c.0 ≡ d.1 → c.1 ≡ d.0 → moved s t v c ≡ moved t s v d
unfolding moved minus_multiple
moved-swap s t v c d e f = fun_ext (λ i. rw (e, f) (omega (arith, linears)))

moved-step_s : (v x y e f p a : ℤ)
    → ((v -ℤ (x *ℤ e)) -ℤ (y *ℤ f)) -ℤ (((p -ℤ (x *ℤ pos 2)) -ℤ (y *ℤ a)) *ℤ e) ≡ (v -ℤ (((p -ℤ x) -ℤ (a *ℤ y)) *ℤ e)) -ℤ (y *ℤ f)
moved-step_s v x y e f p a = simp multiply_out (omega (arith, linears))

moved-step_t : (v x y e f q b : ℤ)
    → ((v -ℤ (x *ℤ e)) -ℤ (y *ℤ f)) -ℤ (((q -ℤ (x *ℤ b)) -ℤ (y *ℤ pos 2)) *ℤ f) ≡ (v -ℤ (x *ℤ e)) -ℤ (((q -ℤ y) -ℤ (b *ℤ x)) *ℤ f)
moved-step_t v x y e f q b = simp multiply_out (omega (arith, linears))

module _ (A : IntegerMatrix) (g : IsAdmissible A) where
  -- the pair of two different letters, in either order
  pub pair_of : (s t : ℕ) → IsLetter A.rank s → IsLetter A.rank t → (s ≡ t → ⊥)
      → IsAdmissiblePair (A.entry s t) (A.entry t s)
  pair_of s t l k ne =
      ⊎_elim (λ e. absurd (ne e)) (⊎_elim (λ lt. g.pairs s t l k lt) (λ gt. IsAdmissiblePair-swap (g.pairs t s k l gt))) (cases_order s t)

  pairing-moved : (r s t : ℕ) (v : Vector) (c : ℤ × ℤ)
      → pairing A r (moved s t v c) ≡ (pairing A r v -ℤ (c.0 *ℤ A.entry r s)) -ℤ (c.1 *ℤ A.entry r t)
  unfolding moved
  pairing-moved r s t v c =
      rw (
        pairing-minus_multiple A r (minus_multiple v c.0 (simple_root s)) c.1 (simple_root t),
        pairing-minus_multiple A r v c.0 (simple_root s),
        pairing-simple_root A g r s,
        pairing-simple_root A g r t,
      )

  moved-step : (even : Bool) (s t : ℕ) (v : Vector) (c : ℤ × ℤ) → IsLetter A.rank s → IsLetter A.rank t
      → reflect A (cond even t s) (moved s t v c) ≡ moved s t v (step even (pairing A s v) (pairing A t v) (A.entry s t) (A.entry t s) c)
  unfolding moved reflect minus_multiple
  moved-step true s t v c l k =
      ap (λ (p : ℤ). minus_multiple (moved s t v c) p (simple_root t)) (pairing-moved t s t v c)
      ∙ fun_ext (λ i. rw (g.diagonal t k) (moved-step_t (v i) c.0 c.1 (simple_root s i) (simple_root t i) (pairing A t v) (A.entry t s)))
  moved-step false s t v c l k =
      ap (λ (p : ℤ). minus_multiple (moved s t v c) p (simple_root s)) (pairing-moved s s t v c)
      ∙ fun_ext (λ i. rw (g.diagonal s l) (moved-step_s (v i) c.0 c.1 (simple_root s i) (simple_root t i) (pairing A s v) (A.entry s t)))

  act-alternating : (k s t : ℕ) (v : Vector) → IsLetter A.rank s → IsLetter A.rank t
      → act A (alternating k s t) v ≡ moved s t v (shift k (pairing A s v) (pairing A t v) (A.entry s t) (A.entry t s))
  unfolding moved minus_multiple
  act-alternating zero s t v ls lt =
      rw (alternating-zero s t, act-nil A v) (fun_ext (λ i. simp multiply_out (omega (arith, linears))))
  act-alternating (suc k) s t v ls lt =
      rw (alternating-suc k s t, act-cons A (cond (is_even k) t s) (alternating k s t) v, act-alternating k s t v ls lt)
      (moved-step (is_even k) s t v (shift k (pairing A s v) (pairing A t v) (A.entry s t) (A.entry t s)) ls lt)

  -- the braid relation of two letters
  pub act-braid : {m : ℕ} (s t : ℕ) (v : Vector) → IsLetter A.rank s → IsLetter A.rank t
      → HasOrder (A.entry s t) (A.entry t s) m
      → act A (alternating m s t) v ≡ act A (alternating m t s) v
  act-braid {m} s t v ls lt h =
      let b = braid (pairing A s v) (pairing A t v) h
      in act-alternating m s t v ls lt
      ∙ moved-swap s t v (shift m (pairing A s v) (pairing A t v) (A.entry s t) (A.entry t s))
      (shift m (pairing A t v) (pairing A s v) (A.entry t s) (A.entry s t)) b.at_s b.at_t
      ∙ sym (act-alternating m t s v lt ls)

  pub same-braid : {m : ℕ} (s t : ℕ) → IsLetter A.rank s → IsLetter A.rank t → HasOrder (A.entry s t) (A.entry t s) m
      → SameElement A (alternating m s t) (alternating m t s)
  same-braid s t ls lt h = act-same A g (λ x. act-braid s t x ls lt h)

  -- an alternating word takes e(s) to (1 - x) e(s) - y e(t)
  pub act-alternating_root : (k s t : ℕ) → IsLetter A.rank s → IsLetter A.rank t
      → act A (alternating k s t) (simple_root s) ≡ moved s t (simple_root s) (shift k (pos 2) (A.entry t s) (A.entry s t) (A.entry t s))
  act-alternating_root k s t ls lt =
      rw (act-alternating k s t (simple_root s) ls lt, pairing-simple_root A g s s, pairing-simple_root A g t s, g.diagonal s ls)
