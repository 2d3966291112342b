-- Sums over lists of elements: they are linear, and they do not depend on the list as long as it names each element with a nonzero term
-- once.
use Rattle.std.proofs.Common.{◌≡◌, ℕ, zero, suc, ◌<◌, ◌≤◌, length, get_or, Bool, true, false, if◌then◌else◌, List, [], ◌∷◌, ◌⊎◌, inl, inr}
use Rattle.std.proofs.Common.{⊎_elim}
use Rattle.std.proofs.Common.{ℤ, pos, ◌+ℤ◌, ◌-ℤ◌, ◌*ℤ◌, refl, ap, sym, ◌∙◌, arith}
use Rattle.std.proofs.lemmas.Int.{ints}
use Rattle.std.proofs.lemmas.Bool.{false≢true}
use Rattle.std.proofs.lemmas.Slice.Eq.{bytes_eq-Decides}
use Rattle.cox_base.specs.IntegerMatrix.{IntegerMatrix}
use Rattle.cox_base.specs.Admissible.{IsAdmissible}
use Rattle.cox_base.specs.Element.{SameElement}
use Rattle.cox_base.specs.ShortLex.{normal_form}
use Rattle.cox_reflect.proofs.Elements.{same-refl, same-sym, same-trans, same-equal}
use Rattle.cox_reflect.proofs.Search.{normal_form-same, normal_form-equal}
use Rattle.cox_poly.specs.Coefficients.{Coefficients, zero_polynomial, plus, times_q}
use Rattle.cox_poly.specs.Multiples.{minus, scaled}
use Rattle.cox_poly.specs.Products.{flip}
use Rattle.cox_poly.specs.Size.{HasDegreeAtMost}
use Rattle.cox_poly.proofs.Coefficients.{flip-none, flip-plus}
use Rattle.cox_lemmas.proofs.Ring.{mul_add}
use Rattle.cox_hecke.specs.Family.{Family, RespectsElements}
use Rattle.cox_hecke.specs.Sums.{sum_over}
use Rattle.cox_hecke.specs.ListedElements.{is_same, occurrences}

-- ---- linear

pub sum_over-equal : (words : List (List ℕ)) (f h : Family) (k : ℕ) → ((y : List ℕ) → f y k ≡ h y k)
    → sum_over words f k ≡ sum_over words h k
sum_over-equal [] f h k e = refl
sum_over-equal (y ∷ words) f h k e = omega (arith, ints, e y, sum_over-equal words f h k e)

pub sum_over-none : (words : List (List ℕ)) (f : Family) (k : ℕ) → ((y : List ℕ) → f y k ≡ pos 0) → sum_over words f k ≡ pos 0
sum_over-none [] f k e = refl
sum_over-none (y ∷ words) f k e = omega (arith, ints, e y, sum_over-none words f k e)

pub sum_over-plus : (words : List (List ℕ)) (f h : Family) (k : ℕ)
    → sum_over words (λ y. plus (f y) (h y)) k ≡ sum_over words f k +ℤ sum_over words h k
sum_over-plus [] f h k = refl
sum_over-plus (y ∷ words) f h k = omega (arith, ints, sum_over-plus words f h k)

pub sum_over-minus : (words : List (List ℕ)) (f h : Family) (k : ℕ)
    → sum_over words (λ y. minus (f y) (h y)) k ≡ sum_over words f k -ℤ sum_over words h k
sum_over-minus [] f h k = refl
sum_over-minus (y ∷ words) f h k = omega (arith, ints, sum_over-minus words f h k)

pub sum_over-scaled : (words : List (List ℕ)) (c : ℤ) (f : Family) (k : ℕ)
    → sum_over words (λ y. scaled c (f y)) k ≡ c *ℤ sum_over words f k
sum_over-scaled [] c f k = omega (arith, ints)
sum_over-scaled (y ∷ words) c f k = sum c (f y k) (sum_over words f k) (sum_over words (λ y. scaled c (f y)) k)
    (sum_over-scaled words c f k)
  where
    sum : (c a b d : ℤ) → d ≡ c *ℤ b → (c *ℤ a) +ℤ d ≡ c *ℤ (a +ℤ b)
    sum c a b d e = ap (λ (z : ℤ). (c *ℤ a) +ℤ z) e ∙ sym (mul_add c a b)

pub sum_over-times_q : (words : List (List ℕ)) (f : Family) (k : ℕ) → sum_over words (λ y. times_q (f y)) k ≡ times_q (sum_over words f) k
sum_over-times_q [] f zero = refl
sum_over-times_q [] f (suc k) = refl
sum_over-times_q (y ∷ words) f zero = omega (arith, ints, sum_over-times_q words f zero)
sum_over-times_q (y ∷ words) f (suc k) = omega (arith, ints, sum_over-times_q words f (suc k))

-- a sum, flipped
pub flip-sum_over : (d : ℕ) (words : List (List ℕ)) (f : Family) (k : ℕ)
    → flip d (sum_over words f) k ≡ sum_over words (λ z. flip d (f z)) k
flip-sum_over d [] f k = ap (λ (h : Coefficients). h k) (flip-none d)
flip-sum_over d (y ∷ words) f k =
    ap (λ (h : Coefficients). h k) (flip-plus d (f y) (sum_over words f)) ∙ (λ i. flip d (f y) k +ℤ flip-sum_over d words f k i)

pub sum_over-degree : (words : List (List ℕ)) (f : Family) (n : ℕ) → ((y : List ℕ) → HasDegreeAtMost (f y) n)
    → HasDegreeAtMost (sum_over words f) n
sum_over-degree words f n low k above = sum_over-none words f k (λ y. low y k above)

pub sum_over-swap : (ys zs : List (List ℕ)) (f : List ℕ → Family) (k : ℕ)
    → sum_over ys (λ y. sum_over zs (f y)) k ≡ sum_over zs (λ z. sum_over ys (λ y. f y z)) k
sum_over-swap [] zs f k = sym (sum_over-none zs (λ z. zero_polynomial) k (λ z. refl))
sum_over-swap (y ∷ ys) zs f k =
    omega (arith, ints, sum_over-swap ys zs f k, sum_over-plus zs (f y) (λ z. sum_over ys (λ x. f x z)) k)

module _ (A : IntegerMatrix) (g : IsAdmissible A) where
  -- ---- equal elements

  pub same-is_same : {x y : List ℕ} → SameElement A x y → is_same A x y ≡ true
  same-is_same {x} {y} e = (bytes_eq-Decides (normal_form A x) (normal_form A y)).1 (normal_form-equal A g e)

  pub is_same-same : (x y : List ℕ) → is_same A x y ≡ true → SameElement A x y
  is_same-same x y t =
      same-trans A g (same-sym A g (normal_form-same A g x))
      (same-trans A g (same-equal A g ((bytes_eq-Decides (normal_form A x) (normal_form A y)).0 t)) (normal_form-same A g y))

  pub not_same-is_same : (x y : List ℕ) → (SameElement A x y → ⊥) → is_same A x y ≡ false
  not_same-is_same x y n = go (is_same A x y) refl
    where
      go : (b : Bool) → is_same A x y ≡ b → is_same A x y ≡ false
      go true e = absurd (n (is_same-same x y e))
      go false e = e

  pub is_same-respects : {x x' : List ℕ} (y : List ℕ) → SameElement A x x' → is_same A x y ≡ is_same A x' y
  is_same-respects y e = rw (normal_form-equal A g e) refl

  -- whether two words name one element can be told
  pub same_or_not : (x y : List ℕ) → SameElement A x y ⊎ (SameElement A x y → ⊥)
  same_or_not x y = go (is_same A x y) refl
    where
      go : (b : Bool) → is_same A x y ≡ b → SameElement A x y ⊎ (SameElement A x y → ⊥)
      go true e = inl (is_same-same x y e)
      go false e = inr (λ s. false≢true (sym e ∙ same-is_same s))

  pub occurrences-same : {x x' : List ℕ} (words : List (List ℕ)) → SameElement A x x' → occurrences A x words ≡ occurrences A x' words
  occurrences-same [] e = refl
  occurrences-same (y ∷ words) e = rw (is_same-respects y e, occurrences-same words e) refl

  -- ---- one element alone

  pub sum_over-one : (words : List (List ℕ)) (x : List ℕ) (f : Family) (k : ℕ) → RespectsElements A f
      → sum_over words (λ y. if is_same A x y then f y else zero_polynomial) k ≡ pos (occurrences A x words) *ℤ f x k
  sum_over-one [] x f k r = omega (arith, ints)
  sum_over-one (y ∷ words) x f k r = go (is_same A x y) refl (sum_over-one words x f k r)
    where
      go : (b : Bool) → is_same A x y ≡ b
          → sum_over words (λ z. if is_same A x z then f z else zero_polynomial) k ≡ pos (occurrences A x words) *ℤ f x k
          → sum_over (y ∷ words) (λ z. if is_same A x z then f z else zero_polynomial) k ≡ pos (occurrences A x (y ∷ words)) *ℤ f x k
      go true e rest = rw e (let same = r x y (is_same-same x y e) k in omega (arith, ints, rest, same))
      go false e rest = rw e (omega (arith, ints, rest))

  -- ---- any list will do

  -- terms of elements that the list does not name do not matter
  pub sum_over-named : (words : List (List ℕ)) (f h : Family) (k : ℕ) → ((y : List ℕ) → (occurrences A y words ≡ 0 → ⊥) → f y k ≡ h y k)
      → sum_over words f k ≡ sum_over words h k
  sum_over-named [] f h k e = refl
  sum_over-named (y ∷ words) f h k e =
      let first : f y k ≡ h y k = e y (λ z. named y (is_same A y y) (same-is_same (same-refl A g y)) (occurrences A y words) z)
      in let rest = sum_over-named words f h k (λ x n. e x (λ z. n (tail (is_same A x y) (occurrences A x words) z)))
      in omega (arith, ints, first, rest)
    where
      named : (y : List ℕ) (b : Bool) → b ≡ true → (n : ℕ) → (if b then suc n else n) ≡ 0 → ⊥
      named y true t n z = omega arith
      named y false t n z = absurd (false≢true t)

      tail : (b : Bool) (n : ℕ) → (if b then suc n else n) ≡ 0 → n ≡ 0
      tail true n z = omega arith
      tail false n z = z

  pub sum_over-lists : (ys zs : List (List ℕ)) (f : Family) (k : ℕ) → RespectsElements A f
      → ((y : List ℕ) → (f y k ≡ pos 0) ⊎ ((occurrences A y ys ≡ occurrences A y zs) × (occurrences A y zs ≤ 1)))
      → sum_over ys f k ≡ sum_over zs f k
  sum_over-lists ys zs f k r c =
      sum_over-named ys f (λ y. sum_over zs (λ z. if is_same A y z then f z else zero_polynomial)) k
      (λ y n. sym (sum_over-one zs y f k r ∙ once y (occurrences A y zs)
      (⊎_elim (λ e. inl e) (λ (o : (occurrences A y ys ≡ occurrences A y zs) × (occurrences A y zs ≤ 1)).
      inr (one (occurrences A y zs) o.1 (λ z. n (o.0 ∙ z)))) (c y))))
      ∙ sum_over-swap ys zs (λ y z. if is_same A y z then f z else zero_polynomial) k
      ∙ sum_over-named zs (λ z. sum_over ys (λ y. if is_same A y z then f z else zero_polynomial)) f k
      (λ z n. sum_over-equal ys (λ y. if is_same A y z then f z else zero_polynomial)
      (λ y. if is_same A z y then f y else zero_polynomial) k
      (λ y. turned y z)
      ∙ sum_over-one ys z f k r ∙ once z (occurrences A z ys)
      (⊎_elim (λ e. inl e) (λ (o : (occurrences A z ys ≡ occurrences A z zs) × (occurrences A z zs ≤ 1)).
      inr (o.0 ∙ one (occurrences A z zs) o.1 n)) (c z)))
    where
      one : (n : ℕ) → n ≤ 1 → (n ≡ 0 → ⊥) → n ≡ 1
      one n l some = omega (arith, l, some)

      once : (y : List ℕ) (n : ℕ) → (f y k ≡ pos 0) ⊎ (n ≡ 1) → pos n *ℤ f y k ≡ f y k
      once y n (inl e) = omega (arith, ints, ap (λ (z : ℤ). pos n *ℤ z) e)
      once y n (inr e) = rw e (omega (arith, ints))

      turned : (y z : List ℕ) → (if is_same A y z then f z else zero_polynomial) k ≡ (if is_same A z y then f y else zero_polynomial) k
      turned y z = ⊎_elim
          (λ (e : SameElement A y z). rw (same-is_same e, same-is_same (same-sym A g e)) (r z y (same-sym A g e) k))
          (λ (n : SameElement A y z → ⊥). rw (not_same-is_same y z n, not_same-is_same z y (λ e. n (same-sym A g e))) refl)
          (same_or_not y z)

  -- ---- an element at one place of the list alone

  pub occurrences-absent : (words : List (List ℕ)) (x : List ℕ) → ((i : ℕ) → i < length words → SameElement A x (get_or words i []) → ⊥)
      → occurrences A x words ≡ 0
  occurrences-absent [] x none = refl
  occurrences-absent (y ∷ words) x none =
      rw (not_same-is_same x y (none 0 (omega arith)))
      (occurrences-absent words x (λ i l. none (suc i) (omega (arith, l))))

  pub occurrences-at : (words : List (List ℕ)) (x : List ℕ) (i : ℕ) → i < length words → SameElement A x (get_or words i [])
      → ((j : ℕ) → j < length words → SameElement A x (get_or words j []) → j ≡ i) → occurrences A x words ≡ 1
  occurrences-at [] x i l e only = absurd (omega arith)
  occurrences-at (y ∷ words) x zero l e only =
      rw (same-is_same e) (ap suc (occurrences-absent words x (λ j m same. let f = only (suc j) (omega (arith, m)) same
      in omega (arith, f))))
  occurrences-at (y ∷ words) x (suc i) l e only =
      rw (not_same-is_same x y (λ same. let f = only 0 (omega arith) same in omega (arith, f)))
      (occurrences-at words x i (omega (arith, l)) e
      (λ j m same. let f = only (suc j) (omega (arith, m)) same in omega (arith, f)))
