-- Heights of the roots u^-1 e(t): how they change with a letter before u, how large they are, and that t is a left descent of u exactly
-- where the height is negative.
use Rattle.std.proofs.Common.{◌≡◌, ℕ, zero, suc, ◌+◌, ◌*◌, ◌^◌, ◌≤◌, ◌<◌, List, [], ◌∷◌, length, reverse, ℤ, pos, ◌-ℤ◌, ◌*ℤ◌}
use Rattle.std.proofs.Common.{◌≤ℤ◌, ◌<ℤ◌, nat_abs, refl, ap, sym, ◌∙◌, ⊎_elim, arith, lit<}
use Rattle.std.proofs.Math.Nat.{pow-le-pow_right, mul-le-mul_left}
use Rattle.std.proofs.lemmas.Bool.{cases_eq, cases_lt}
use Rattle.std.proofs.lemmas.Int.{ints, by_lt_z, unsigned_abs-mul}
use mathlib.Core.List.{reverse-cons}
use Rattle.cox_base.specs.Matrix.{IsLetter}
use Rattle.cox_base.specs.IntegerMatrix.{IntegerMatrix}
use Rattle.cox_base.specs.Admissible.{IsAdmissible}
use Rattle.cox_base.specs.Element.{sum_to, matrix, SameElement}
use Rattle.cox_base.specs.ShortLex.{normal_form}
use Rattle.cox_base.specs.Length.{word_length}
use Rattle.cox_base.specs.Descents.{IsLeftDescent}
use Rattle.cox_reflect.specs.Action.{Vector, simple_root, pairing, minus_multiple, reflect}
use Rattle.cox_reflect.specs.WordAction.{act, IsNonpositive}
use Rattle.cox_reflect.specs.RootHeight.{at_letter, height}
use Rattle.cox_reflect.specs.Height.{AreHeights, AreOfShortElement, AreShortWith}
use Rattle.cox_lemmas.proofs.Ring.{linears, multiply_out, one_times}
use Rattle.cox_reflect.proofs.Sums.{letter_above, last_letter, letter_cases, sum_to-same, sum_to-simple_root, sum_to-other_root}
use Rattle.cox_reflect.proofs.Sums.{simple_root-other}
use Rattle.cox_reflect.proofs.Action.{act-nil, act-push, act-minus_multiple, act-outside, pairing-simple_root}
use Rattle.cox_reflect.proofs.Elements.{matrix-column, same-act, same-reverse, same-sym}
use Rattle.cox_reflect.proofs.Search.{normal_form-same, word_length-length}
use Rattle.cox_reflect.proofs.Lengths.{word_length-is, word_length-cons}
use Rattle.cox_reflect.proofs.Deletion.{left_length}
use Rattle.cox_reflect.proofs.Sizes.{entry-small}
use Rattle.cox_reflect.proofs.Roots.{sign_of, SignOf, longer, shorter, root-not_zero, descent-nonpositive, left_descent_reverse}
use Rattle.cox_reflect.proofs.Roots.{reverse_left_descent, left_descent-letter}

-- ---- sums

sum_to-minus_alone : (n : ℕ) (v : Vector) (c : ℤ) (w : Vector) → sum_to n (minus_multiple v c w) ≡ sum_to n v -ℤ (c *ℤ sum_to n w)
unfolding sum_to minus_multiple
sum_to-minus_alone zero v c w = simp multiply_out (omega (arith, linears))
sum_to-minus_alone (suc n) v c w = rw (sum_to-minus_alone n v c w) (simp multiply_out (omega (arith, linears)))

sum_to-nonnegative : (n : ℕ) (v : Vector) → ((i : ℕ) → IsLetter n i → pos 0 ≤ℤ v i) → pos 0 ≤ℤ sum_to n v
unfolding sum_to
sum_to-nonnegative zero v h = omega (arith, linears)
sum_to-nonnegative (suc n) v h = omega (arith, linears, sum_to-nonnegative n v (λ i l. h i (letter_above n i l)), h (suc n) (last_letter n))

sum_to-nonpositive : (n : ℕ) (v : Vector) → ((i : ℕ) → IsLetter n i → v i ≤ℤ pos 0) → sum_to n v ≤ℤ pos 0
unfolding sum_to
sum_to-nonpositive zero v h = omega (arith, linears)
sum_to-nonpositive (suc n) v h = omega (arith, linears, sum_to-nonpositive n v (λ i l. h i (letter_above n i l)), h (suc n) (last_letter n))

-- numbers at most 0 with a sum at least 0 are 0
sum_to-vanishes : (n : ℕ) (v : Vector) → ((i : ℕ) → IsLetter n i → v i ≤ℤ pos 0) → pos 0 ≤ℤ sum_to n v → (i : ℕ) → IsLetter n i
    → v i ≡ pos 0
unfolding sum_to
sum_to-vanishes zero v h k i l = absurd (omega (arith, l.from_one, l.to_rank))
sum_to-vanishes (suc n) v h k i l = ⊎_elim at_last (before (sum_to-vanishes n v prefix)) (cases_eq i (suc n))
  where
    prefix : (j : ℕ) → IsLetter n j → v j ≤ℤ pos 0
    prefix j m = h j (letter_above n j m)

    last : v (suc n) ≤ℤ pos 0
    last = h (suc n) (last_letter n)

    at_last : i ≡ suc n → v i ≡ pos 0
    at_last e = let there : v (suc n) ≡ pos 0 = omega (arith, linears, k, last, sum_to-nonpositive n v prefix) in rw e there

    before : (pos 0 ≤ℤ sum_to n v → (j : ℕ) → IsLetter n j → v j ≡ pos 0) → (i ≡ suc n → ⊥) → v i ≡ pos 0
    before rest ne = rest (omega (arith, linears, k, last)) i (record { from_one = l.from_one; to_rank = omega (arith, l.to_rank) })

-- ---- heights

height-column : (A : IntegerMatrix) (u : List ℕ) (t : ℕ) → height A u t ≡ sum_to A.rank (act A (reverse u) (simple_root t))
unfolding height
height-column A u t = sum_to-same A.rank (λ i. matrix A (reverse u) i t) (act A (reverse u) (simple_root t))
    (λ i l. matrix-column A (reverse u) i t l)

-- a simple root has the height 1
pub height-nil : (A : IntegerMatrix) (t : ℕ) → IsLetter A.rank t → height A [] t ≡ pos 1
height-nil A t l =
    height-column A [] t ∙ ap (sum_to A.rank) (act-nil A (simple_root t))
    ∙ sum_to-same A.rank (simple_root t) (λ i. pos 1 *ℤ simple_root t i) (λ i m. sym (one_times (simple_root t i)))
    ∙ sum_to-simple_root A.rank (λ i. pos 1) t l

height-outside : (A : IntegerMatrix) (t : ℕ) → (IsLetter A.rank t → ⊥) → height A [] t ≡ pos 0
height-outside A t foreign =
    height-column A [] t ∙ ap (sum_to A.rank) (act-nil A (simple_root t))
    ∙ sum_to-same A.rank (simple_root t) (λ i. pos 1 *ℤ simple_root t i) (λ i m. sym (one_times (simple_root t i)))
    ∙ sum_to-other_root A.rank (λ i. pos 1) t foreign

module _ (A : IntegerMatrix) (g : IsAdmissible A) where
  -- (su)^-1 e(t) = u^-1 e(t) - a(s,t) u^-1 e(s)
  pub height-cons : (s : ℕ) (u : List ℕ) (t : ℕ) → height A (s ∷ u) t ≡ height A u t -ℤ (A.entry s t *ℤ height A u s)
  unfolding reflect
  height-cons s u t =
      height-column A (s ∷ u) t
      ∙ ap (λ (w : List ℕ). sum_to A.rank (act A w (simple_root t))) (reverse-cons s u)
      ∙ ap (sum_to A.rank) (act-push A (reverse u) s (simple_root t)
      ∙ act-minus_multiple A (reverse u) (simple_root t) (pairing A s (simple_root t)) (simple_root s))
      ∙ sum_to-minus_alone A.rank (act A (reverse u) (simple_root t)) (pairing A s (simple_root t)) (act A (reverse u) (simple_root s))
      ∙ rw (pairing-simple_root A g s t, height-column A u t, height-column A u s) refl

  -- heights depend on the element alone
  pub height-equal : {u v : List ℕ} → SameElement A u v → (t : ℕ) → height A u t ≡ height A v t
  height-equal {u} {v} e t =
      height-column A u t ∙ ap (sum_to A.rank) (same-act A g (same-reverse A g e) (simple_root t)) ∙ sym (height-column A v t)

-- ---- their size

nat_abs-step : (a e b : ℤ) → nat_abs e ≤ 3 → nat_abs (a -ℤ (e *ℤ b)) ≤ nat_abs a + 3 * nat_abs b
nat_abs-step a e b small =
    let product : nat_abs (e *ℤ b) ≡ nat_abs e * nat_abs b = unsigned_abs-mul e b
    in let least : nat_abs b * nat_abs e ≤ nat_abs b * 3 = mul-le-mul_left (nat_abs b) small
    in let sum : nat_abs (a -ℤ (e *ℤ b)) ≤ nat_abs a + nat_abs (e *ℤ b) = omega (arith, ints)
    in omega (arith, product, least, sum)

power : (k : ℕ) → 4 ^ suc k ≡ 4 * 4 ^ k
power k = omega arith

-- From u to su each height h(t) becomes h(t) - a(s,t) h(s): no number on the way there needs more than h bits and a sign.
pub record HasRoom (A : IntegerMatrix) (h s : ℕ) (heights : List ℤ) : Type 0 where
  pub own : 3 * nat_abs (at_letter heights s) < 2 ^ h
  pub each : (t : ℕ) → IsLetter A.rank t
      → nat_abs (at_letter heights t -ℤ (A.entry s t *ℤ at_letter heights s)) < 2 ^ h

module _ (A : IntegerMatrix) (g : IsAdmissible A) where
  pub height-bound : (u : List ℕ) (t : ℕ) → nat_abs (height A u t) ≤ 4 ^ length u
  height-bound [] t =
      ⊎_elim (λ l. rw (height-nil A t l) (omega arith)) (λ foreign. rw (height-outside A t foreign) (omega arith)) (letter_cases A.rank t)
  height-bound (s ∷ u) t =
      let step : nat_abs (height A u t -ℤ (A.entry s t *ℤ height A u s)) ≤ nat_abs (height A u t) + 3 * nat_abs (height A u s)
      = nat_abs-step (height A u t) (A.entry s t) (height A u s) (entry-small A g s t)
      in rw (height-cons A g s u t) (omega (arith, step, height-bound u t, height-bound u s, power (length u)))

  pub height-bound_reduced : (u : List ℕ) (t : ℕ) → nat_abs (height A u t) ≤ 4 ^ word_length A u
  height-bound_reduced u t =
      rw (height-equal A g {u = u} (same-sym A g (normal_form-same A g u)) t, word_length-is A u) (height-bound (normal_form A u) t)

  -- From u to su there is room, where both elements have few letters: one of them has fewer than the other.
  pub AreShortWith-room : (n h s : ℕ) (heights : List ℤ) → 1 ≤ n → 4 ^ n < 2 ^ h → IsLetter A.rank s → AreShortWith A n s heights
      → HasRoom A h s heights
  AreShortWith-room n h s heights some small ls c = record { own = own; each = each }
    where
      bound : (k : ℕ) → k ≤ n → 4 ^ k ≤ 4 ^ n
      bound k l = pow-le-pow_right (lit< tt) l

      before : nat_abs (height A c.word s) ≤ 4 ^ word_length A c.word
      before = height-bound_reduced c.word s

      turned : height A (s ∷ c.word) s ≡ height A c.word s -ℤ (pos 2 *ℤ height A c.word s)
      turned = rw (← g.diagonal s ls) (height-cons A g s c.word s)

      after : nat_abs (height A c.word s) ≤ 4 ^ word_length A (s ∷ c.word)
      after =
          let next : nat_abs (height A c.word s -ℤ (pos 2 *ℤ height A c.word s)) ≤ 4 ^ word_length A (s ∷ c.word)
          = rw turned at (height-bound_reduced (s ∷ c.word) s)
          in omega (arith, ints, next)

      fewer : (k : ℕ) → nat_abs (height A c.word s) ≤ 4 ^ k → suc k ≤ n → 3 * nat_abs (height A c.word s) < 2 ^ h
      fewer k l m = omega (arith, l, bound (suc k) m, power k, small)

      own : 3 * nat_abs (at_letter heights s) < 2 ^ h
      own =
          rw (c.heights_of.each s ls)
          (⊎_elim (λ longer. fewer (word_length A c.word) before (omega (arith, longer, c.next_short)))
          (λ shorter. fewer (word_length A (s ∷ c.word)) after (omega (arith, shorter, c.short))) (left_length A g s c.word ls))

      each : (t : ℕ) → IsLetter A.rank t → nat_abs (at_letter heights t -ℤ (A.entry s t *ℤ at_letter heights s)) < 2 ^ h
      each t l =
          let next : nat_abs (height A c.word t -ℤ (A.entry s t *ℤ height A c.word s)) ≤ 4 ^ word_length A (s ∷ c.word)
          = rw (height-cons A g s c.word t) at (height-bound_reduced (s ∷ c.word) t)
          in rw (c.heights_of.each t l, c.heights_of.each s ls)
          (omega (arith, next, bound (word_length A (s ∷ c.word)) c.next_short, small))

  -- the element of a short word is short,
  pub AreOfShortElement-word : (n : ℕ) (u : List ℕ) (heights : List ℤ) → length u ≤ n → AreHeights A u heights
      → AreOfShortElement A n heights
  AreOfShortElement-word n u heights short a =
      record { word = u; heights_of = a; short = omega (arith, word_length-length A g u, short) }

  -- a letter may come before a word of fewer letters,
  pub AreShortWith-word : (n : ℕ) (u : List ℕ) (s : ℕ) (heights : List ℤ) → length u < n → AreHeights A u heights
      → AreShortWith A n s heights
  AreShortWith-word n u s heights short a = record {
    word = u;
    heights_of = a;
    short = omega (arith, word_length-length A g u, short);
    next_short = omega (arith, word_length-length A g u, word_length-cons A g s u, short);
  }

  -- and a left descent before a word
  pub AreShortWith-descent : (n : ℕ) (u : List ℕ) (s : ℕ) (heights : List ℤ) → IsLeftDescent A u s → word_length A u ≤ n
      → AreHeights A u heights → AreShortWith A n s heights
  AreShortWith-descent n u s heights d short a = record { word = u; heights_of = a; short = short; next_short = omega (arith, d, short) }

-- the new numbers are the heights of s u
pub AreHeights-cons : (A : IntegerMatrix) (g : IsAdmissible A) (s : ℕ) (u : List ℕ) (old new : List ℤ)
    → IsLetter A.rank s → AreHeights A u old
    → ((t : ℕ) → IsLetter A.rank t → at_letter new t ≡ at_letter old t -ℤ (A.entry s t *ℤ at_letter old s))
    → AreHeights A (s ∷ u) new
AreHeights-cons A g s u old new ls a h = record {
  each = λ t l. h t l ∙ rw (a.each t l, a.each s ls) (sym (height-cons A g s u t));
}

-- ---- their signs

module _ (A : IntegerMatrix) (g : IsAdmissible A) where
  pub descent-height : (u : List ℕ) (t : ℕ) → IsLeftDescent A u t → height A u t <ℤ pos 0
  descent-height u t d =
      rw (height-column A u t) (by_lt_z (sum_to A.rank root) (pos 0) (λ h. h) (λ h. absurd (root-not_zero A g (reverse u) t (vanishes h))))
    where
      root : Vector
      root = act A (reverse u) (simple_root t)

      l : IsLetter A.rank t
      l = left_descent-letter A g u t d

      nonpositive : IsNonpositive root
      nonpositive = descent-nonpositive A g (reverse u) t l (left_descent_reverse A g u t d)

      apart : (i : ℕ) → (IsLetter A.rank i → ⊥) → i ≡ t → ⊥
      apart i foreign e = foreign (let f : t ≡ i = sym e in rw f at l)

      vanishes : pos 0 ≤ℤ sum_to A.rank root → (i : ℕ) → root i ≡ pos 0
      vanishes h i =
          ⊎_elim (sum_to-vanishes A.rank root (λ j m. nonpositive j) h i)
          (λ foreign. act-outside A g (reverse u) (simple_root t) i foreign ∙ simple_root-other t i (apart i foreign))
          (letter_cases A.rank i)

  pub height-descent : (u : List ℕ) (t : ℕ) → IsLetter A.rank t → height A u t <ℤ pos 0 → IsLeftDescent A u t
  height-descent u t l h = go (sign_of A g (reverse u) t l)
    where
      go : SignOf A (reverse u) t → IsLeftDescent A u t
      go (longer e p) =
          let sum : pos 0 ≤ℤ sum_to A.rank (act A (reverse u) (simple_root t)) = sum_to-nonnegative A.rank
          (act A (reverse u) (simple_root t)) (λ i m. p i)
          in absurd (omega (arith, linears, sum, height-column A u t, h))
      go (shorter e n) = reverse_left_descent A g u t (omega (arith, e))

  -- .. so a list of heights tells the descents
  pub descent_from_heights : (u : List ℕ) (heights : List ℤ) (t : ℕ) → AreHeights A u heights → IsLetter A.rank t
      → at_letter heights t <ℤ pos 0 → IsLeftDescent A u t
  descent_from_heights u heights t a l h = height-descent u t l (rw (a.each t l) at h)

  pub heights_at_descent : (u : List ℕ) (heights : List ℤ) (t : ℕ) → AreHeights A u heights → IsLeftDescent A u t
      → at_letter heights t <ℤ pos 0
  heights_at_descent u heights t a d = rw (a.each t (left_descent-letter A g u t d)) (descent-height u t d)

  -- where no letter below s has a negative height, no descent is below s
  pub descents_from : (u : List ℕ) (heights : List ℤ) (s : ℕ) → AreHeights A u heights
      → ((t : ℕ) → 1 ≤ t → t < s → pos 0 ≤ℤ at_letter heights t)
      → (t : ℕ) → IsLeftDescent A u t → s ≤ t
  descents_from u heights s a none t d =
      ⊎_elim (λ (below : t < s). absurd (omega (
        arith,
        linears,
        heights_at_descent u heights t a d,
        none t
            (left_descent-letter A g u t d).from_one below,
      ))) (λ (above : s ≤ t). above) (cases_lt t s)
