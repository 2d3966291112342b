-- The operators with a sign: `true` for those of the Hecke algebra, with q - 1; `false` for those with 1 - q in its place, of which the
-- second is the recursion of R-polynomials. Left and right operators commute, and one of each kind undoes the other but for a factor q.
use Rattle.std.proofs.Common.{◌≡◌, ℕ, zero, suc, Bool, true, false, not, if◌then◌else◌, List, [], ◌∷◌, ◌++◌, reverse}
use Rattle.std.proofs.Common.{◌+ℤ◌, ◌-ℤ◌, refl, sym, arith}
use Rattle.std.proofs.lemmas.Int.{ints}
use Rattle.cox_base.specs.Matrix.{IsLetter}
use Rattle.cox_base.specs.IntegerMatrix.{IntegerMatrix}
use Rattle.cox_base.specs.Admissible.{IsAdmissible}
use Rattle.cox_base.specs.Element.{SameElement}
use Rattle.cox_reflect.proofs.Elements.{same-trans, same-cons, same-push, same-square, same-push_twice, same-reverse}
use Rattle.cox_reflect.proofs.WordsAndSubwords.{reverse-push}
use Rattle.cox_poly.specs.Coefficients.{Coefficients, plus, times_q, times_q_less_one}
use Rattle.cox_poly.specs.Multiples.{minus, negated}
use Rattle.cox_rpoly.specs.InverseOperators.{shortens_left}
use Rattle.cox_hecke.specs.Family.{Family, RespectsElements}
use Rattle.cox_hecke.specs.Operators.{shortens_right}
use Rattle.cox_hecke.proofs.Descents.{shortens_left-same, shortens_right-same, shortens_left-back, shortens_right-back}
use Rattle.cox_hecke.proofs.Descents.{shortens-reverse}
use Rattle.cox_hecke.proofs.Descents.{SidesOf, apart, together, sides_of}

-- (q - 1) f or (1 - q) f
abbrev pub signed : Bool → Coefficients → Coefficients
signed true f = times_q_less_one f
signed false f = negated (times_q_less_one f)

-- what an operator makes of the polynomials at sx and at x
abbrev pub Combination : Type 0
Combination = Coefficients → Coefficients → Coefficients

-- the operator from the left, or from the right, with the one combination where the letter shortens x, and else with the other
abbrev pub by_left : IntegerMatrix → Combination → Combination → ℕ → Family → Family
by_left A shorter longer s h x = if shortens_left A s x then shorter (h (s ∷ x)) (h x) else longer (h (s ∷ x)) (h x)

abbrev pub by_right : IntegerMatrix → Combination → Combination → ℕ → Family → Family
by_right A shorter longer s h x = if shortens_right A s x then shorter (h (x ++ s ∷ [])) (h x) else longer (h (x ++ s ∷ [])) (h x)

-- those of T(s)
abbrev pub plus_signed : Bool → Combination
plus_signed b f c = plus f (signed b c)

abbrev pub first_times_q : Combination
first_times_q f c = times_q f

abbrev pub left_signed : IntegerMatrix → Bool → ℕ → Family → Family
left_signed A b = by_left A (plus_signed b) first_times_q

abbrev pub right_signed : IntegerMatrix → Bool → ℕ → Family → Family
right_signed A b = by_right A (plus_signed b) first_times_q

-- those of q T(s)^-1
abbrev pub first_alone : Combination
first_alone f c = f

abbrev pub minus_signed : Bool → Combination
minus_signed b f c = minus (times_q f) (signed b c)

abbrev pub left_back : IntegerMatrix → Bool → ℕ → Family → Family
left_back A b = by_left A first_alone (minus_signed b)

abbrev pub right_back : IntegerMatrix → Bool → ℕ → Family → Family
right_back A b = by_right A first_alone (minus_signed b)

-- q h
abbrev pub family_times_q : Family → Family
family_times_q h x = times_q (h x)

-- h at inverses
abbrev pub at_inverses : Family → Family
at_inverses h x = h (reverse x)

-- ---- (q - 1) f and (1 - q) f are linear, and q passes

signed-plus : (b : Bool) (f h : Coefficients) (k : ℕ) → signed b (plus f h) k ≡ signed b f k +ℤ signed b h k
signed-plus true f h zero = omega (arith, ints)
signed-plus true f h (suc k) = omega (arith, ints)
signed-plus false f h zero = omega (arith, ints)
signed-plus false f h (suc k) = omega (arith, ints)

signed-minus : (b : Bool) (f h : Coefficients) (k : ℕ) → signed b (minus f h) k ≡ signed b f k -ℤ signed b h k
signed-minus true f h zero = omega (arith, ints)
signed-minus true f h (suc k) = omega (arith, ints)
signed-minus false f h zero = omega (arith, ints)
signed-minus false f h (suc k) = omega (arith, ints)

signed-times_q : (b : Bool) (f : Coefficients) (k : ℕ) → signed b (times_q f) k ≡ times_q (signed b f) k
signed-times_q true f zero = refl
signed-times_q true f (suc k) = refl
signed-times_q false f zero = refl
signed-times_q false f (suc k) = refl

-- ---- the values: a of h at x, c at sx

left-back_core : (b p : Bool) (a c : Coefficients) (k : ℕ)
    → (if p then plus (if not p then a else minus (times_q a) (signed b c)) (signed b (if p then c else minus (times_q c) (signed b a)))
    else times_q (if not p then a else minus (times_q a) (signed b c))) k
    ≡ times_q a k
left-back_core b true a c k = omega (arith, ints)
left-back_core b false a c k = refl

back-left_core : (b p : Bool) (a c : Coefficients) (k : ℕ)
    → (if p then (if not p then plus a (signed b c) else times_q a)
    else minus (times_q (if not p then plus a (signed b c) else times_q a)) (signed b (if p then plus c (signed b a) else times_q c))) k
    ≡ times_q a k
back-left_core b true a c k = refl
back-left_core b false a c zero = omega (arith, ints, signed-times_q b c zero)
back-left_core b false a c (suc k) = omega (arith, ints, signed-times_q b c (suc k))

-- The polynomials of h at x, sx, xt, sxt; p and r say whether s and t shorten x, and also xt and sx. Then the left operator commutes with
-- the right one.
abbrev Commute : Combination → Combination → Type 0
Commute shorter longer = (p r : Bool) (a c d e : Coefficients) (k : ℕ)
    → (if p then shorter (if r then shorter e c else longer e c) (if r then shorter d a else longer d a)
    else longer (if r then shorter e c else longer e c) (if r then shorter d a else longer d a)) k
    ≡ (if r then shorter (if p then shorter e d else longer e d) (if p then shorter c a else longer c a)
    else longer (if p then shorter e d else longer e d) (if p then shorter c a else longer c a)) k

commute_core : (b : Bool) → Commute (plus_signed b) first_times_q
commute_core b true true a c d e k = omega (arith, ints, signed-plus b d (signed b a) k, signed-plus b c (signed b a) k)
commute_core b true false a c d e zero = omega (arith, ints, signed-times_q b d zero)
commute_core b true false a c d e (suc k) = omega (arith, ints, signed-times_q b d (suc k))
commute_core b false true a c d e zero = omega (arith, ints, signed-times_q b c zero)
commute_core b false true a c d e (suc k) = omega (arith, ints, signed-times_q b c (suc k))
commute_core b false false a c d e k = refl

commute_back_core : (b : Bool) → Commute first_alone (minus_signed b)
commute_back_core b true true a c d e k = refl
commute_back_core b true false a c d e k = refl
commute_back_core b false true a c d e k = refl
commute_back_core b false false a c d e zero =
    omega (
      arith,
      ints,
      signed-minus b (times_q d) (signed b a) zero,
      signed-minus b (times_q c) (signed b a) zero,
      signed-times_q b d zero,
      signed-times_q b c zero,
    )
commute_back_core b false false a c d e (suc k) =
    omega (
      arith,
      ints,
      signed-minus b (times_q d) (signed b a) (suc k),
      signed-minus b (times_q c) (signed b a) (suc k),
      signed-times_q b d (suc k),
      signed-times_q b c (suc k),
    )

times_q_core : (b p : Bool) (a c : Coefficients) (k : ℕ)
    → (if p then plus (times_q c) (signed b (times_q a)) else times_q (times_q c)) k
    ≡ times_q (if p then plus c (signed b a) else times_q c) k
times_q_core b true a c zero = omega (arith, ints, signed-times_q b a zero)
times_q_core b true a c (suc k) = omega (arith, ints, signed-times_q b a (suc k))
times_q_core b false a c k = refl

times_q_back_core : (b p : Bool) (a c : Coefficients) (k : ℕ)
    → (if p then times_q c else minus (times_q (times_q c)) (signed b (times_q a))) k
    ≡ times_q (if p then c else minus (times_q c) (signed b a)) k
times_q_back_core b true a c k = refl
times_q_back_core b false a c zero = omega (arith, ints, signed-times_q b a zero)
times_q_back_core b false a c (suc k) = omega (arith, ints, signed-times_q b a (suc k))

-- ---- q passes

pub left_signed-times_q : (A : IntegerMatrix) (b : Bool) (s : ℕ) (h : Family)
    → left_signed A b s (family_times_q h) ≡ family_times_q (left_signed A b s h)
left_signed-times_q A b s h = λ i x k. times_q_core b (shortens_left A s x) (h x) (h (s ∷ x)) k i

pub left_back-times_q : (A : IntegerMatrix) (b : Bool) (s : ℕ) (h : Family)
    → left_back A b s (family_times_q h) ≡ family_times_q (left_back A b s h)
left_back-times_q A b s h = λ i x k. times_q_back_core b (shortens_left A s x) (h x) (h (s ∷ x)) k i

module _ (A : IntegerMatrix) (g : IsAdmissible A) where
  -- equal polynomials at one element
  pub respected : {h : Family} {x y : List ℕ} → RespectsElements A h → SameElement A x y → h x ≡ h y
  respected {h} {x} {y} r e = λ i k. r x y e k i

  -- ---- what they make of families that respect elements respects them

  pub by_left-respects : (up down : Combination) (s : ℕ) (h : Family) → RespectsElements A h → RespectsElements A (by_left A up down s h)
  by_left-respects up down s h r x y e k = rw (shortens_left-same A g s e, respected r e, respected r (same-cons A g s e)) refl

  pub by_right-respects : (up down : Combination) (s : ℕ) (h : Family) → RespectsElements A h → RespectsElements A (by_right A up down s h)
  by_right-respects up down s h r x y e k = rw (shortens_right-same A g s e, respected r e, respected r (same-push A g s e)) refl

  pub family_times_q-respects : (h : Family) → RespectsElements A h → RespectsElements A (family_times_q h)
  family_times_q-respects h r x y e zero = refl
  family_times_q-respects h r x y e (suc k) = r x y e k

  pub at_inverses-respects : (h : Family) → RespectsElements A h → RespectsElements A (at_inverses h)
  at_inverses-respects h r x y e k = r (reverse x) (reverse y) (same-reverse A g e) k

  -- ---- one undoes the other, but for a factor q

  pub left_signed-back : (b : Bool) (s : ℕ) (h : Family) → IsLetter A.rank s → RespectsElements A h
      → left_signed A b s (left_back A b s h) ≡ family_times_q h
  left_signed-back b s h l r = λ i x k. at x k i
    where
      at : (x : List ℕ) (k : ℕ) → left_signed A b s (left_back A b s h) x k ≡ times_q (h x) k
      at x k = rw (shortens_left-back A g s x l, respected r (same-square A g s x))
          (left-back_core b (shortens_left A s x) (h x) (h (s ∷ x)) k)

  pub back-left : (b : Bool) (s : ℕ) (h : Family) → IsLetter A.rank s → RespectsElements A h
      → left_back A b s (left_signed A b s h) ≡ family_times_q h
  back-left b s h l r = λ i x k. at x k i
    where
      at : (x : List ℕ) (k : ℕ) → left_back A b s (left_signed A b s h) x k ≡ times_q (h x) k
      at x k = rw (shortens_left-back A g s x l, respected r (same-square A g s x))
          (back-left_core b (shortens_left A s x) (h x) (h (s ∷ x)) k)

  -- ---- left and right commute

  module _ (shorter longer : Combination) (core : Commute shorter longer) (s t : ℕ) (h : Family) (l : IsLetter A.rank s)
      (m : IsLetter A.rank t) (r : RespectsElements A h) where
    around : (x : List ℕ) → SameElement A (s ∷ x) (x ++ t ∷ []) → SameElement A (s ∷ x ++ t ∷ []) x
    around x e = same-trans A g (same-push A g t e) (same-push_twice A g x t)

    -- where sx = xt both give the same combination of h(x) and h(sx)
    far : (x : List ℕ) (p : Bool) → SameElement A (s ∷ x) (x ++ t ∷ []) → shortens_left A s x ≡ p → shortens_right A t x ≡ p
        → (k : ℕ) → by_left A shorter longer s (by_right A shorter longer t h) x k
        ≡ by_right A shorter longer t (by_left A shorter longer s h) x k
    far x b e p q k =
        rw (
          sym (shortens_left-same A g s e),
          shortens_right-same A g t e,
          shortens_left-back A g s x l,
          shortens_right-back A g t x m,
          p,
          q,
          respected r (around x e),
          respected r e,
        ) refl

    by_left-by_right : by_left A shorter longer s (by_right A shorter longer t h)
        ≡ by_right A shorter longer t (by_left A shorter longer s h)
    by_left-by_right = λ i x k. at x k (sides_of A g s t x l m) i
      where
        at : (x : List ℕ) (k : ℕ) → SidesOf A g s t x
            → by_left A shorter longer s (by_right A shorter longer t h) x k
            ≡ by_right A shorter longer t (by_left A shorter longer s h) x k
        at x k (apart p q) =
            rw (p, q) (core (shortens_left A s x) (shortens_right A t x) (h x) (h (s ∷ x)) (h (x ++ t ∷ [])) (h (s ∷ x ++ t ∷ [])) k)
        at x k (together e p) = far x (shortens_left A s x) e refl (sym p) k

  pub left-right : (b : Bool) (s t : ℕ) (h : Family) → IsLetter A.rank s → IsLetter A.rank t → RespectsElements A h
      → left_signed A b s (right_signed A b t h) ≡ right_signed A b t (left_signed A b s h)
  left-right b s t h l m r = by_left-by_right (plus_signed b) first_times_q (commute_core b) s t h l m r

  pub left_back-right_back : (b : Bool) (s t : ℕ) (h : Family) → IsLetter A.rank s → IsLetter A.rank t → RespectsElements A h
      → left_back A b s (right_back A b t h) ≡ right_back A b t (left_back A b s h)
  left_back-right_back b s t h l m r = by_left-by_right first_alone (minus_signed b) (commute_back_core b) s t h l m r

  -- ---- inverses turn left into right

  pub at_inverses-by_left : (up down : Combination) (s : ℕ) (h : Family)
      → at_inverses (by_left A up down s h) ≡ by_right A up down s (at_inverses h)
  at_inverses-by_left up down s h = λ i x. at x i
    where
      at : (x : List ℕ) → by_left A up down s h (reverse x) ≡ by_right A up down s (at_inverses h) x
      at x = rw (shortens-reverse A g s x, reverse-push x s) refl
