-- When two words name one element: exactly where they act alike on every vector. So `SameElement` is an equivalence and a congruence.
-- The matrix of a word, a product of matrices, has the images of the simple roots as its columns.
use Rattle.std.proofs.Common.{◌≡◌, ℕ, zero, suc, ◌<◌, List, [], ◌∷◌, ◌++◌, reverse, ℤ, pos, ◌*ℤ◌, refl, ap, sym, ◌∙◌, ⊎_elim}
use Rattle.std.proofs.Common.{arith, subst, eq-eqb, ne_eqb}
use Rattle.std.proofs.Math.Path.{fun_ext}
use Rattle.std.proofs.lemmas.Int.{ints}
use lib.IntN.{*ℤ_comm}
use Rattle.std.proofs.lemmas.Bool.{cases_eq}
use Rattle.std.proofs.lemmas.List.{reverse-reverse}
use Rattle.cox_base.specs.Matrix.{IsLetter}
use Rattle.cox_base.specs.IntegerMatrix.{IntegerMatrix}
use Rattle.cox_base.specs.Admissible.{IsAdmissible}
use Rattle.cox_base.specs.Element.{sum_to, identity, matrix_product, generator_matrix, matrix, SameElement}
use Rattle.cox_reflect.specs.Action.{Vector, simple_root, pairing, minus_multiple, reflect}
use Rattle.cox_reflect.specs.WordAction.{act}
use Rattle.cox_lemmas.proofs.Ring.{linears, multiply_out}
use Rattle.cox_reflect.proofs.Sums.{letter_cases, sum_to-same, minus_multiple-sum_to, sum_to-simple_root, simple_root-self}
use Rattle.cox_reflect.proofs.Sums.{simple_root-other}
use Rattle.cox_reflect.proofs.Action.{act-nil, act-cons, act-append, act-push, act-minus_multiple, act-outside, act-other_root, act-fixed}
use Rattle.cox_reflect.proofs.Action.{act-reverse, reverse-act, reflect-reflect, reflect-outside}

-- ---- the columns of the matrix of a word

identity-simple_root : (i t : ℕ) → identity i t ≡ simple_root t i
unfolding identity simple_root
identity-simple_root i t = refl

identity-swap : (i k : ℕ) → identity i k ≡ simple_root i k
unfolding identity simple_root
identity-swap i k =
    ⊎_elim (λ (e : i ≡ k). rw (eq-eqb i k e, eq-eqb k i (sym e)))
    (λ (ne : i ≡ k → ⊥). rw (ne_eqb i k ne, ne_eqb k i (λ f. ne (sym f)))) (cases_eq i k)

-- the coordinate i of the vector whose coordinates are v
sum_to-identity : (n i : ℕ) (v : Vector) → IsLetter n i → sum_to n (λ k. identity i k *ℤ v k) ≡ v i
sum_to-identity n i v l =
    sum_to-same n (λ k. identity i k *ℤ v k) (λ k. v k *ℤ simple_root i k)
    (λ k m. *ℤ_comm (identity i k) (v k) ∙ ap (λ (x : ℤ). v k *ℤ x) (identity-swap i k))
    ∙ sum_to-simple_root n v i l

generator-column : (A : IntegerMatrix) (s i : ℕ) (v : Vector) → IsLetter A.rank i
    → sum_to A.rank (λ k. generator_matrix A s i k *ℤ v k) ≡ reflect A s v i
unfolding generator_matrix minus_multiple reflect pairing
generator-column A s i v l =
    sum_to-same A.rank (λ k. generator_matrix A s i k *ℤ v k) (λ k. minus_multiple (identity i) (identity i s) (A.entry s) k *ℤ v k)
    (λ k m. simp multiply_out (omega (arith, linears)))
    ∙ minus_multiple-sum_to A.rank (identity i) (identity i s) (A.entry s) v
    ∙ rw (sum_to-identity A.rank i v l, identity-simple_root i s) (simp multiply_out (omega (arith, linears)))

-- M(u) has the images of the simple roots as its columns
pub matrix-column : (A : IntegerMatrix) (u : List ℕ) (i t : ℕ) → IsLetter A.rank i
    → matrix A u i t ≡ act A u (simple_root t) i
unfolding matrix matrix_product
matrix-column A [] i t l = identity-simple_root i t ∙ sym (ap (λ (v : Vector). v i) (act-nil A (simple_root t)))
matrix-column A (s ∷ u) i t l =
    sum_to-same A.rank (λ k. generator_matrix A s i k *ℤ matrix A u k t)
    (λ k. generator_matrix A s i k *ℤ act A u (simple_root t) k) (λ k m. rw (matrix-column A u k t m))
    ∙ generator-column A s i (act A u (simple_root t)) l ∙ sym (ap (λ (v : Vector). v i) (act-cons A s u (simple_root t)))

-- x without its first n coordinates
strip : ℕ → Vector → Vector
strip zero x = x
strip (suc n) x = minus_multiple (strip n x) (x (suc n)) (simple_root (suc n))

strip-above : (n : ℕ) (x : Vector) (i : ℕ) → n < i → strip n x i ≡ x i
unfolding strip minus_multiple
strip-above zero x i l = refl
strip-above (suc n) x i l =
    let ne : i ≡ suc n → ⊥ = omega arith
    in let before : strip n x i ≡ x i = strip-above n x i (omega arith)
    in rw (simple_root-other (suc n) i ne) (simp multiply_out (omega (arith, linears)))

strip-inside : (n : ℕ) (x : Vector) (i : ℕ) → IsLetter n i → strip n x i ≡ pos 0
unfolding strip minus_multiple
strip-inside zero x i l = absurd (omega (arith, l.from_one, l.to_rank))
strip-inside (suc n) x i l = ⊎_elim here (before (strip-inside n x i)) (cases_eq i (suc n))
  where
    at : strip (suc n) x (suc n) ≡ pos 0
    at = rw (strip-above n x (suc n) (omega arith), simple_root-self (suc n)) (omega (arith, ints))

    here : i ≡ suc n → strip (suc n) x i ≡ pos 0
    here e = rw e at

    before : (IsLetter n i → strip n x i ≡ pos 0) → (i ≡ suc n → ⊥) → strip (suc n) x i ≡ pos 0
    before ih ne =
        let zero_there : strip n x i ≡ pos 0 = ih (record { from_one = l.from_one; to_rank = omega (arith, l.to_rank) })
        in rw (simple_root-other (suc n) i ne) (simp multiply_out (omega (arith, linears)))

minus_multiple-cancel : (a b : Vector) (c : ℤ) (w : Vector) → minus_multiple a c w ≡ minus_multiple b c w → a ≡ b
unfolding minus_multiple
minus_multiple-cancel a b c w e = fun_ext (λ i. omega (arith, linears, ap (λ (v : Vector). v i) e))

module _ (A : IntegerMatrix) (g : IsAdmissible A) where
  -- words of one element act alike on the simple roots ..
  same-roots : {u v : List ℕ} → SameElement A u v → (t : ℕ) → act A u (simple_root t) ≡ act A v (simple_root t)
  same-roots {u} {v} e t =
      ⊎_elim
      (λ (l : IsLetter A.rank t). fun_ext (λ i. ⊎_elim (inside l i)
      (λ foreign. act-outside A g u (simple_root t) i foreign ∙ sym (act-outside A g v (simple_root t) i foreign))
      (letter_cases A.rank i)))
      (λ foreign. act-other_root A g u t foreign ∙ sym (act-other_root A g v t foreign)) (letter_cases A.rank t)
    where
      inside : IsLetter A.rank t → (i : ℕ) → IsLetter A.rank i → act A u (simple_root t) i ≡ act A v (simple_root t) i
      inside l i k = sym (matrix-column A u i t k) ∙ e.equal i t k l ∙ matrix-column A v i t k

  -- .. so they act alike on every vector
  same-strip : {u v : List ℕ} → SameElement A u v → (x : Vector) (n : ℕ) → act A u (strip n x) ≡ act A v (strip n x)
      → act A u x ≡ act A v x
  unfolding strip
  same-strip e x zero h = h
  same-strip {u} {v} e x (suc n) h =
      let root : act A u (simple_root (suc n)) ≡ act A v (simple_root (suc n)) = same-roots e (suc n)
      in let both : minus_multiple (act A u (strip n x)) (x (suc n)) (act A v (simple_root (suc n))) ≡ minus_multiple (act A v (strip n x))
      (x (suc n)) (act A v (simple_root (suc n)))
      = ap (minus_multiple (act A u (strip n x)) (x (suc n))) (sym root)
      ∙ sym (act-minus_multiple A u (strip n x) (x (suc n)) (simple_root (suc n))) ∙ h
      ∙ act-minus_multiple A v (strip n x) (x (suc n)) (simple_root (suc n))
      in same-strip e x n (minus_multiple-cancel (act A u (strip n x)) (act A v (strip n x)) (x (suc n)) (act A v (simple_root (suc n)))
      both)

  pub same-act : {u v : List ℕ} → SameElement A u v → (x : Vector) → act A u x ≡ act A v x
  same-act {u} {v} e x =
      same-strip e x A.rank (act-fixed A g u (strip A.rank x) (strip-inside A.rank x)
      ∙ sym (act-fixed A g v (strip A.rank x) (strip-inside A.rank x)))

  pub act-same : {u v : List ℕ} → ((x : Vector) → act A u x ≡ act A v x) → SameElement A u v
  act-same {u} {v} h =
      record { equal = λ i t k l. matrix-column A u i t k ∙ ap (λ (y : Vector). y i) (h (simple_root t)) ∙ sym (matrix-column A v i t k) }

  -- it is enough that they act alike on the simple roots of the letters
  pub roots-same : {u v : List ℕ} → ((t : ℕ) → IsLetter A.rank t → act A u (simple_root t) ≡ act A v (simple_root t))
      → SameElement A u v
  roots-same {u} {v} h =
      record { equal = λ i t k l. matrix-column A u i t k ∙ ap (λ (y : Vector). y i) (h t l) ∙ sym (matrix-column A v i t k) }

  -- ---- an equivalence and a congruence

  pub same-refl : (u : List ℕ) → SameElement A u u
  same-refl u = act-same (λ x. refl)

  pub same-sym : {u v : List ℕ} → SameElement A u v → SameElement A v u
  same-sym e = act-same (λ x. sym (same-act e x))

  pub same-trans : {u v w : List ℕ} → SameElement A u v → SameElement A v w → SameElement A u w
  same-trans e f = act-same (λ x. same-act e x ∙ same-act f x)

  pub same-equal : {u v : List ℕ} → u ≡ v → SameElement A u v
  same-equal {u} e = subst (SameElement A u) e (same-refl u)

  pub same-append : {u u' v v' : List ℕ} → SameElement A u u' → SameElement A v v' → SameElement A (u ++ v) (u' ++ v')
  same-append {u} {u'} {v} {v'} e f =
      act-same (λ x. act-append A u v x ∙ ap (act A u) (same-act f x) ∙ same-act e (act A v' x) ∙ sym (act-append A u' v' x))

  pub same-cons : (s : ℕ) {u v : List ℕ} → SameElement A u v → SameElement A (s ∷ u) (s ∷ v)
  same-cons s e = same-append (same-refl (s ∷ [])) e

  pub same-push : (s : ℕ) {u v : List ℕ} → SameElement A u v → SameElement A (u ++ s ∷ []) (v ++ s ∷ [])
  same-push s e = same-append e (same-refl (s ∷ []))

  -- s s = e
  pub same-square : (s : ℕ) (u : List ℕ) → SameElement A (s ∷ s ∷ u) u
  same-square s u = act-same (λ x. rw (act-cons A s (s ∷ u) x, act-cons A s u x, reflect-reflect A g s (act A u x)))

  pub same-push_twice : (u : List ℕ) (s : ℕ) → SameElement A ((u ++ s ∷ []) ++ s ∷ []) u
  same-push_twice u s =
      act-same (λ x. rw (act-push A (u ++ s ∷ []) s x, act-push A u s (reflect A s x), reflect-reflect A g s x))

  pub same-reverse : {u v : List ℕ} → SameElement A u v → SameElement A (reverse u) (reverse v)
  same-reverse {u} {v} e =
      act-same (λ x. sym (ap (act A (reverse u)) (same-act e (act A (reverse v) x) ∙ reverse-act A g v x))
      ∙ act-reverse A g u (act A (reverse v) x))

  pub same-unreverse : {u v : List ℕ} → SameElement A (reverse u) (reverse v) → SameElement A u v
  same-unreverse {u} {v} e = rw (reverse-reverse u, reverse-reverse v) at (same-reverse e)

  -- a word before or after may be dropped
  pub same-drop_prefix : (w : List ℕ) {u v : List ℕ} → SameElement A (w ++ u) (w ++ v) → SameElement A u v
  same-drop_prefix w {u} {v} e =
      act-same (λ x. sym (act-reverse A g w (act A u x))
      ∙ ap (act A (reverse w)) (sym (act-append A w u x) ∙ same-act e x ∙ act-append A w v x) ∙ act-reverse A g w (act A v x))

  pub same-drop_back : (w : List ℕ) {u v : List ℕ} → SameElement A (u ++ w) (v ++ w) → SameElement A u v
  same-drop_back w {u} {v} e =
      act-same (λ x. ap (act A u) (sym (reverse-act A g w x)) ∙ sym (act-append A u w (act A (reverse w) x))
      ∙ same-act e (act A (reverse w) x) ∙ act-append A v w (act A (reverse w) x) ∙ ap (act A v) (reverse-act A g w x))

  -- a letter outside the rank changes nothing
  pub same-outside : (s : ℕ) (u : List ℕ) → (IsLetter A.rank s → ⊥) → SameElement A (s ∷ u) u
  same-outside s u foreign = act-same (λ x. rw (act-cons A s u x, reflect-outside A g s (act A u x) foreign))

  pub same-inverse : (u : List ℕ) → SameElement A (reverse u ++ u) []
  same-inverse u = act-same (λ x. act-append A (reverse u) u x ∙ act-reverse A g u x ∙ sym (act-nil A x))
