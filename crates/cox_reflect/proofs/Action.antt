-- The action of words on vectors, for an admissible matrix A: it is linear, a letter undoes itself, and the reversed word undoes a word.
-- A letter outside the rank acts as the identity, so most laws need no premise on letters.
use Rattle.std.proofs.Common.{◌≡◌, ℕ, List, [], ◌∷◌, ◌++◌, reverse, ℤ, pos, ◌-ℤ◌, ◌*ℤ◌, neg_ℤ, refl, ap, sym, ◌∙◌, ⊎_elim, arith, subst}
use Rattle.std.proofs.Math.Path.{fun_ext}
use Rattle.std.proofs.lemmas.List.{reverse-reverse}
use mathlib.Core.List.{reverse-cons}
use Rattle.cox_base.specs.Matrix.{IsLetter}
use Rattle.cox_base.specs.IntegerMatrix.{IntegerMatrix}
use Rattle.cox_base.specs.Admissible.{IsAdmissible}
use Rattle.cox_reflect.specs.Action.{Vector, simple_root, pairing, minus_multiple, reflect}
use Rattle.cox_reflect.specs.WordAction.{act}
use Rattle.cox_lemmas.proofs.Ring.{linears, multiply_out}
use Rattle.cox_reflect.proofs.Sums.{letter_cases, simple_root-other, sum_to-minus_multiple, sum_to-zero, sum_to-simple_root}
use Rattle.cox_reflect.proofs.Sums.{sum_to-other_root}

-- ---- linearity

pub pairing-minus_multiple : (A : IntegerMatrix) (s : ℕ) (v : Vector) (c : ℤ) (w : Vector)
    → pairing A s (minus_multiple v c w) ≡ pairing A s v -ℤ (c *ℤ pairing A s w)
unfolding pairing
pairing-minus_multiple A s v c w = sum_to-minus_multiple A.rank (A.entry s) v c w

pub reflect-minus_multiple : (A : IntegerMatrix) (s : ℕ) (v : Vector) (c : ℤ) (w : Vector)
    → reflect A s (minus_multiple v c w) ≡ minus_multiple (reflect A s v) c (reflect A s w)
unfolding reflect minus_multiple
reflect-minus_multiple A s v c w = fun_ext (λ i. rw (pairing-minus_multiple A s v c w) (simp multiply_out (omega (arith, linears))))

pub act-minus_multiple : (A : IntegerMatrix) (u : List ℕ) (v : Vector) (c : ℤ) (w : Vector)
    → act A u (minus_multiple v c w) ≡ minus_multiple (act A u v) c (act A u w)
unfolding act
act-minus_multiple A [] v c w = refl
act-minus_multiple A (s ∷ u) v c w = ap (reflect A s) (act-minus_multiple A u v c w) ∙ reflect-minus_multiple A s (act A u v) c (act A u w)

pub act-cons : (A : IntegerMatrix) (s : ℕ) (u : List ℕ) (v : Vector) → act A (s ∷ u) v ≡ reflect A s (act A u v)
unfolding act
act-cons A s u v = refl

pub act-nil : (A : IntegerMatrix) (v : Vector) → act A [] v ≡ v
unfolding act
act-nil A v = refl

pub act-single : (A : IntegerMatrix) (s : ℕ) (v : Vector) → act A (s ∷ []) v ≡ reflect A s v
unfolding act
act-single A s v = refl

pub act-append : (A : IntegerMatrix) (u v : List ℕ) (x : Vector) → act A (u ++ v) x ≡ act A u (act A v x)
unfolding act
act-append A [] v x = refl
act-append A (s ∷ u) v x = ap (reflect A s) (act-append A u v x)

pub act-push : (A : IntegerMatrix) (u : List ℕ) (s : ℕ) (x : Vector) → act A (u ++ s ∷ []) x ≡ act A u (reflect A s x)
act-push A u s x = act-append A u (s ∷ []) x ∙ ap (act A u) (act-single A s x)

-- a letter moves its own coordinate alone
pub reflect-other : (A : IntegerMatrix) (s : ℕ) (v : Vector) (i : ℕ) → (i ≡ s → ⊥) → reflect A s v i ≡ v i
unfolding reflect minus_multiple
reflect-other A s v i ne = rw (simple_root-other s i ne) (simp multiply_out (omega (arith, linears)))

pub reflect-fixed : (A : IntegerMatrix) (s : ℕ) (v : Vector) → pairing A s v ≡ pos 0 → reflect A s v ≡ v
unfolding reflect minus_multiple
reflect-fixed A s v e = fun_ext (λ i. rw e (simp multiply_out (omega (arith, linears))))

pub pairing-zero : (A : IntegerMatrix) (s : ℕ) (v : Vector) → ((i : ℕ) → IsLetter A.rank i → v i ≡ pos 0)
    → pairing A s v ≡ pos 0
unfolding pairing
pairing-zero A s v zeros = sum_to-zero A.rank (λ t. A.entry s t *ℤ v t) (λ t l. rw (zeros t l) (simp multiply_out))

-- ---- for an admissible matrix

module _ (A : IntegerMatrix) (g : IsAdmissible A) where
  -- p(s, e(t)) = a(s,t)
  pub pairing-simple_root : (s t : ℕ) → pairing A s (simple_root t) ≡ A.entry s t
  unfolding pairing
  pairing-simple_root s t =
      ⊎_elim (λ l. sum_to-simple_root A.rank (A.entry s) t l)
      (λ foreign. sum_to-other_root A.rank (A.entry s) t foreign ∙ sym (g.column_outside s t foreign)) (letter_cases A.rank t)

  pub pairing-outside : (s : ℕ) (v : Vector) → (IsLetter A.rank s → ⊥) → pairing A s v ≡ pos 0
  unfolding pairing
  pairing-outside s v foreign =
      sum_to-zero A.rank (λ t. A.entry s t *ℤ v t) (λ t l. rw (g.row_outside s t foreign) (simp multiply_out))

  pub reflect-outside : (s : ℕ) (v : Vector) → (IsLetter A.rank s → ⊥) → reflect A s v ≡ v
  reflect-outside s v foreign = reflect-fixed A s v (pairing-outside s v foreign)

  pub pairing-reflect : (s : ℕ) (v : Vector) → pairing A s (reflect A s v) ≡ neg_ℤ (pairing A s v)
  unfolding reflect
  pairing-reflect s v =
      pairing-minus_multiple A s v (pairing A s v) (simple_root s) ∙ ⊎_elim letter outside (letter_cases A.rank s)
    where
      letter : IsLetter A.rank s
          → pairing A s v -ℤ (pairing A s v *ℤ pairing A s (simple_root s)) ≡ neg_ℤ (pairing A s v)
      letter l = rw (pairing-simple_root s s, g.diagonal s l) (simp multiply_out (omega (arith, linears)))

      outside : (IsLetter A.rank s → ⊥)
          → pairing A s v -ℤ (pairing A s v *ℤ pairing A s (simple_root s)) ≡ neg_ℤ (pairing A s v)
      outside foreign = rw (pairing-outside s v foreign) (simp multiply_out)

  -- s (s v) = v
  pub reflect-reflect : (s : ℕ) (v : Vector) → reflect A s (reflect A s v) ≡ v
  unfolding reflect minus_multiple
  reflect-reflect s v =
      ap (λ (c : ℤ). minus_multiple (reflect A s v) c (simple_root s)) (pairing-reflect s v)
      ∙ fun_ext (λ i. simp multiply_out (omega (arith, linears)))

  -- the reversed word undoes a word
  pub act-reverse : (u : List ℕ) (v : Vector) → act A (reverse u) (act A u v) ≡ v
  act-reverse [] v = rw (act-nil A v, act-nil A v)
  act-reverse (s ∷ u) v =
      rw (reverse-cons s u, act-push A (reverse u) s (act A (s ∷ u) v), act-cons A s u v, reflect-reflect s (act A u v)) (act-reverse u v)

  pub reverse-act : (u : List ℕ) (v : Vector) → act A u (act A (reverse u) v) ≡ v
  reverse-act u v = let e : reverse (reverse u) ≡ u = reverse-reverse u in rw e at (act-reverse (reverse u) v)

  -- s e(s) = -e(s)
  pub reflect-simple_root : (s : ℕ) → IsLetter A.rank s → reflect A s (simple_root s) ≡ (λ i. neg_ℤ (simple_root s i))
  unfolding reflect minus_multiple
  reflect-simple_root s l =
      fun_ext (λ i. rw (pairing-simple_root s s, g.diagonal s l) (simp multiply_out (omega (arith, linears))))

  -- a coordinate that is no letter stays
  pub act-outside : (u : List ℕ) (v : Vector) (i : ℕ) → (IsLetter A.rank i → ⊥) → act A u v i ≡ v i
  act-outside [] v i foreign = rw (act-nil A v)
  act-outside (s ∷ u) v i foreign = rw (act-cons A s u v) (step (act A u v) ∙ act-outside u v i foreign)
    where
      step : (x : Vector) → reflect A s x i ≡ x i
      step x =
          ⊎_elim (λ (l : IsLetter A.rank s). reflect-other A s x i (λ (f : i ≡ s). foreign (subst (IsLetter A.rank) (sym f) l)))
          (λ outside. rw (reflect-outside s x outside)) (letter_cases A.rank s)

  -- a vector whose coordinates at letters are 0 is fixed
  pub act-fixed : (u : List ℕ) (v : Vector) → ((i : ℕ) → IsLetter A.rank i → v i ≡ pos 0) → act A u v ≡ v
  act-fixed [] v zeros = act-nil A v
  act-fixed (s ∷ u) v zeros =
      rw (act-cons A s u v, act-fixed u v zeros)
      (reflect-fixed A s v (pairing-zero A s v zeros))

  -- e(t) is fixed where t is no letter
  pub act-other_root : (u : List ℕ) (t : ℕ) → (IsLetter A.rank t → ⊥) → act A u (simple_root t) ≡ simple_root t
  act-other_root u t foreign =
      act-fixed u (simple_root t) (λ i l. simple_root-other t i (λ (f : i ≡ t). foreign (subst (IsLetter A.rank) f l)))
