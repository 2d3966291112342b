-- Roots with their coroots: both move by the same words, have the same sign, and a root has one coroot.
-- A word acts as what is left of it without the letters that are none, so no law here asks for a word over the letters.
use Rattle.std.proofs.Common.{◌≡◌, ℕ, List, [], ◌∷◌, ◌++◌, ◌⊎◌, pos, ap, sym, ◌∙◌, ⊎_elim, inl, inr, arith, subst}
use Rattle.std.proofs.lemmas.List.Elements.{All-nil, All-cons}
use Rattle.cox_base.specs.Matrix.{IsLetter, IsWord}
use Rattle.cox_base.specs.IntegerMatrix.{IntegerMatrix}
use Rattle.cox_base.specs.Admissible.{IsAdmissible}
use Rattle.cox_base.specs.Element.{SameElement}
use Rattle.cox_reflect.specs.Action.{Vector, simple_root, reflect}
use Rattle.cox_reflect.specs.WordAction.{act, IsNonnegative, IsNonpositive}
use Rattle.cox_reflect.specs.Transpose.{transposed}
use Rattle.cox_lemmas.proofs.Ring.{linears}
use Rattle.cox_reflect.proofs.Sums.{letter_cases}
use Rattle.cox_reflect.proofs.Action.{act-nil, act-append, act-single}
use Rattle.cox_reflect.proofs.Elements.{same-refl, same-trans, same-cons, same-outside, same-act}
use Rattle.cox_reflect.proofs.Roots.{root_sign, root-not_zero, sign_changes}
use Rattle.cox_reflect.proofs.Transposed.{IsAdmissible-transposed, coroot-nonnegative, equal_coroots}
use Rattle.cox_small.specs.Elementary.{IsRoot}

-- b is a root, and c its coroot
pub record IsRootPair (A : IntegerMatrix) (b c : Vector) : Type 0 where
  pub word : List ℕ
  pub letter : ℕ
  pub inside : IsLetter A.rank letter
  pub image : act A word (simple_root letter) ≡ b
  pub coimage : act (transposed A) word (simple_root letter) ≡ c

-- ---- a word without the letters that are none

letters_of : ℕ → List ℕ → List ℕ
letters_of n [] = []
letters_of n (s ∷ u) = ⊎_elim (λ _. s ∷ letters_of n u) (λ _. letters_of n u) (letter_cases n s)

letters_of-word : (n : ℕ) (u : List ℕ) → IsWord n (letters_of n u)
unfolding letters_of
letters_of-word n [] = All-nil (IsLetter n)
letters_of-word n (s ∷ u) = go (letter_cases n s) (letters_of-word n u)
  where
    go : (c : IsLetter n s ⊎ (IsLetter n s → ⊥)) → IsWord n (letters_of n u)
        → IsWord n (⊎_elim (λ _. s ∷ letters_of n u) (λ _. letters_of n u) c)
    go (inl l) h = All-cons (IsLetter n) s (letters_of n u) l h
    go (inr foreign) h = h

letters_of-same : (A : IntegerMatrix) → IsAdmissible A → (u : List ℕ) → SameElement A u (letters_of A.rank u)
unfolding letters_of
letters_of-same A g [] = same-refl A g []
letters_of-same A g (s ∷ u) = go (letter_cases A.rank s) (letters_of-same A g u)
  where
    go : (c : IsLetter A.rank s ⊎ (IsLetter A.rank s → ⊥)) → SameElement A u (letters_of A.rank u)
        → SameElement A (s ∷ u) (⊎_elim (λ _. s ∷ letters_of A.rank u) (λ _. letters_of A.rank u) c)
    go (inl l) e = same-cons A g s e
    go (inr foreign) e = same-trans A g (same-outside A g s u foreign) e

module _ (A : IntegerMatrix) (g : IsAdmissible A) where
  inside_act : (u : List ℕ) (x : Vector) → act A (letters_of A.rank u) x ≡ act A u x
  inside_act u x = sym (same-act A g (letters_of-same A g u) x)

  -- ---- roots

  pub root-nonzero : {b : Vector} → IsRoot A b → ((i : ℕ) → b i ≡ pos 0) → ⊥
  root-nonzero r zeros = root-not_zero A g r.word r.letter (λ i. rw r.image (zeros i))

  pub root-has_sign : {b : Vector} → IsRoot A b → IsNonnegative b ⊎ IsNonpositive b
  root-has_sign r = rw r.image at (root_sign A g r.word r.letter)

  pub root-one_sign : {b : Vector} → IsRoot A b → IsNonnegative b → IsNonpositive b → ⊥
  root-one_sign r p n = root-nonzero r (λ i. omega (arith, linears, p i, n i))

  pub root-act : (u : List ℕ) {b : Vector} → IsRoot A b → IsRoot A (act A u b)
  root-act u r = record {
    word = u ++ r.word;
    letter = r.letter;
    inside = r.inside;
    image = act-append A u r.word (simple_root r.letter) ∙ ap (act A u) r.image;
  }

  pub root-reflect : (s : ℕ) {b : Vector} → IsRoot A b → IsRoot A (reflect A s b)
  root-reflect s {b} r = subst (IsRoot A) (act-single A s b) (root-act (s ∷ []) r)

  pub root-simple : (s : ℕ) → IsLetter A.rank s → IsRoot A (simple_root s)
  root-simple s l = record { word = []; letter = s; inside = l; image = act-nil A (simple_root s) }

  -- only e(s) changes its sign under s
  pub root-sign_changes : (s : ℕ) {b : Vector} → IsRoot A b → IsNonnegative b → IsNonpositive (reflect A s b) → b ≡ simple_root s
  root-sign_changes s r p n =
      sym r.image ∙ sign_changes A g r.word r.letter s (λ i. rw r.image (p i)) (λ i. rw r.image (n i))

  pub simple_or_stays : (s : ℕ) {b : Vector} → IsRoot A b → IsNonnegative b → (b ≡ simple_root s) ⊎ IsNonnegative (reflect A s b)
  simple_or_stays s r p =
      ⊎_elim (λ q. inr q) (λ n. inl (root-sign_changes s r p n)) (root-has_sign (root-reflect s r))

  -- ---- pairs

  pub pair-root : {b c : Vector} → IsRootPair A b c → IsRoot A b
  pair-root h = record { word = h.word; letter = h.letter; inside = h.inside; image = h.image }

  pub pair-swap : {b c : Vector} → IsRootPair A b c → IsRootPair (transposed A) c b
  pair-swap h = record { word = h.word; letter = h.letter; inside = h.inside; image = h.coimage; coimage = h.image }

  pub pair-act : (u : List ℕ) {b c : Vector} → IsRootPair A b c → IsRootPair A (act A u b) (act (transposed A) u c)
  pair-act u h = record {
    word = u ++ h.word;
    letter = h.letter;
    inside = h.inside;
    image = act-append A u h.word (simple_root h.letter) ∙ ap (act A u) h.image;
    coimage = act-append (transposed A) u h.word (simple_root h.letter) ∙ ap (act (transposed A) u) h.coimage;
  }

  pub pair-reflect : (s : ℕ) {b c : Vector} → IsRootPair A b c → IsRootPair A (reflect A s b) (reflect (transposed A) s c)
  pair-reflect s {b} {c} h =
      let P : Vector → Type 0 = λ x. IsRootPair A x (act (transposed A) (s ∷ []) c)
      in subst (IsRootPair A (reflect A s b)) (act-single (transposed A) s c) (subst P (act-single A s b) (pair-act (s ∷ []) h))

  pub pair-simple : (s : ℕ) → IsLetter A.rank s → IsRootPair A (simple_root s) (simple_root s)
  pair-simple s l = record {
    word = [];
    letter = s;
    inside = l;
    image = act-nil A (simple_root s);
    coimage = act-nil (transposed A) (simple_root s);
  }

  pub pair-nonnegative : {b c : Vector} → IsRootPair A b c → IsNonnegative b → IsNonnegative c
  pair-nonnegative h p =
      let u : List ℕ = letters_of A.rank h.word
      in let there : IsNonnegative (act (transposed A) u (simple_root h.letter))
      = coroot-nonnegative A g u h.letter (letters_of-word A.rank h.word) h.inside
      (λ i. rw (inside_act h.word (simple_root h.letter), h.image) (p i))
      in let moved : act (transposed A) u (simple_root h.letter) ≡ act (transposed A) h.word (simple_root h.letter)
      = sym (same-act (transposed A) (IsAdmissible-transposed A g) (letters_of-same (transposed A) (IsAdmissible-transposed A g) h.word)
      (simple_root h.letter))
      in λ i. rw (moved, h.coimage) at (there i)

  -- a root has one coroot
  pub pair-equal : {b c d : Vector} → IsRootPair A b c → IsRootPair A b d → c ≡ d
  pair-equal h k =
      let back : (u : List ℕ) (x : Vector) → act (transposed A) (letters_of A.rank u) x ≡ act (transposed A) u x
      = λ u x. sym (same-act (transposed A) (IsAdmissible-transposed A g) (letters_of-same (transposed A) (IsAdmissible-transposed A g) u)
      x)
      in sym h.coimage ∙ sym (back h.word (simple_root h.letter))
      ∙ equal_coroots A g (letters_of A.rank h.word) (letters_of A.rank k.word) h.letter k.letter (letters_of-word A.rank h.word)
      (letters_of-word A.rank k.word) h.inside k.inside
      (inside_act h.word (simple_root h.letter) ∙ h.image ∙ sym k.image ∙ sym (inside_act k.word (simple_root k.letter)))
      ∙ back k.word (simple_root k.letter) ∙ k.coimage

module _ (A : IntegerMatrix) (g : IsAdmissible A) where
  pub pair-nonpositive : {b c : Vector} → IsRootPair A b c → IsNonpositive b → IsNonpositive c
  pair-nonpositive {b} {c} h n =
      ⊎_elim up (λ q. q) (root-has_sign (transposed A) (IsAdmissible-transposed A g)
      (pair-root (transposed A) (IsAdmissible-transposed A g) (pair-swap A g h)))
    where
      up : IsNonnegative c → IsNonpositive c
      up q = absurd (root-one_sign A g (pair-root A g h)
          (pair-nonnegative (transposed A) (IsAdmissible-transposed A g) (pair-swap A g h) q) n)
