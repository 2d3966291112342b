-- Whether Need(w) has a row beyond the limits can be told, by induction on the length of w: w is beyond them, or the shorter element needs
-- such a row, or a correction does.
use Rattle.std.proofs.Common.{◌≡◌, ℕ, zero, suc, ◌<◌, ◌≤◌, List, [], ◌∷◌, ℤ, pos, ◌⊎◌, inl, inr, ⊎_elim, arith}
use Rattle.std.specs.Prelude.{All, ◌≤ℤ◌}
use Rattle.std.proofs.lemmas.List.Elements.{All-head, All-tail}
use Rattle.std.proofs.lemmas.Bool.{cases_lt}
use Rattle.cox_base.specs.declared.side.Side.TheVariants.{Left}
use Rattle.cox_base.specs.IntegerMatrix.{IntegerMatrix}
use Rattle.cox_base.specs.Admissible.{IsAdmissible}
use Rattle.cox_base.specs.Element.{SameElement}
use Rattle.cox_base.specs.Length.{word_length}
use Rattle.cox_reflect.specs.LeastDescent.{IsLeastLeftDescent}
use Rattle.cox_reflect.proofs.Elements.{same-refl}
use Rattle.cox_hecke.specs.ListedElements.{occurrences}
use Rattle.cox_hecke.specs.Step.{IsCorrection}
use Rattle.cox_hecke.specs.StepFamily.{Correction, AreCorrections, corrected_elements}
use Rattle.cox_hecke.specs.Needs.{IsNeeded, itself}
use Rattle.cox_hecke.proofs.StepFamilies.{corrections_exist}
use Rattle.cox_hecke.proofs.NeededElements.{needed-trans}
use Rattle.cox_hecke.proofs.ListSums.{same_or_not, not_same-is_same}
use Rattle.cox_rows.specs.Beyond.{IsBeyond, NeedsBeyond}
use Rattle.cox_rows.proofs.NeedCases.{NeedCase, is, by_shorter, by_correction, need_case, need-shorter, least-unique, least_left_descent}
use Rattle.cox_rows.proofs.NeedCases.{need-correction, needed-from, correction-length}
use Rattle.cox_rows.proofs.BeyondDecided.{tell-beyond, beyond-same}

module _ (A : IntegerMatrix) (g : IsAdmissible A) (limit : ℤ) (least : pos 0 ≤ℤ limit) where
  pub needs_beyond-same : (v w : List ℕ) → SameElement A v w → NeedsBeyond A limit v → NeedsBeyond A limit w
  needs_beyond-same v w e h =
      record { element = h.element; needed = needed-from A g v w h.element e h.needed; beyond = h.beyond }

  pub needs_beyond-needed : (w z : List ℕ) → IsNeeded A w z → NeedsBeyond A limit z → NeedsBeyond A limit w
  needs_beyond-needed w z n h =
      record { element = h.element; needed = needed-trans A g w z h.element n h.needed; beyond = h.beyond }

  -- what Need(w) has is beyond the limits only where w is, or what the shorter element or a correction needs
  pub needs_beyond-none : (w : List ℕ) → (IsBeyond A limit w → ⊥)
      → ((s : ℕ) → IsLeastLeftDescent A w s → NeedsBeyond A limit (s ∷ w) → ⊥)
      → ((s : ℕ) (u : List ℕ) (m : ℤ) → IsLeastLeftDescent A w s → IsCorrection Left A s (s ∷ w) u m → NeedsBeyond A limit u → ⊥)
      → NeedsBeyond A limit w → ⊥
  needs_beyond-none w small shorter corrected h = go h.element (need_case A g w h.element h.needed) h.beyond
    where
      go : (z : List ℕ) → NeedCase A w z → IsBeyond A limit z → ⊥
      go z (is e) b = small (beyond-same A g limit least z w e b)
      go z (by_shorter {s} d n) b = shorter s d record { element = z; needed = n; beyond = b }
      go z (by_correction {s} {u} {m} d c n) b = corrected s u m d c record { element = z; needed = n; beyond = b }

  -- ---- by the length of w

  module _ (n : ℕ) (tell : (u : List ℕ) → word_length A u ≤ n → NeedsBeyond A limit u ⊎ (NeedsBeyond A limit u → ⊥)) (w : List ℕ)
      (long : word_length A w ≤ suc n) (small : IsBeyond A limit w → ⊥) (s : ℕ) (d : IsLeastLeftDescent A w s) where
    -- a correction that needs a row beyond the limits
    record CorrectionNeeds : Type 0 where
      pub element : List ℕ
      pub mu : ℤ
      pub is : IsCorrection Left A s (s ∷ w) element mu
      pub needs : NeedsBeyond A limit element

    short : (u : List ℕ) (m : ℤ) → IsCorrection Left A s (s ∷ w) u m → word_length A u ≤ n
    short u m c = omega (arith, correction-length A g s (s ∷ w) u m c, d.descent, long)

    tell-corrections : (list : List Correction) → All (λ c. IsCorrection Left A s (s ∷ w) c.element c.mu) list
        → CorrectionNeeds ⊎ ((x : List ℕ) → occurrences A x (corrected_elements list) ≡ 1 → NeedsBeyond A limit x → ⊥)
    tell-corrections [] all = inr (λ x e. absurd (omega (arith, e)))
    tell-corrections (c ∷ list) all =
        let first : IsCorrection Left A s (s ∷ w) c.element c.mu
        = All-head (λ c. IsCorrection Left A s (s ∷ w) c.element c.mu) c list all
        in ⊎_elim
        (λ (yes : NeedsBeyond A limit c.element). inl record { element = c.element; mu = c.mu; is = first; needs = yes })
        (λ (no : NeedsBeyond A limit c.element → ⊥). ⊎_elim
        (λ (found : CorrectionNeeds). inl found)
        (λ (rest : (x : List ℕ) → occurrences A x (corrected_elements list) ≡ 1 → NeedsBeyond A limit x → ⊥).
        inr (λ x e h. ⊎_elim
        (λ (same : SameElement A x c.element). no (needs_beyond-same x c.element same h))
        (λ (other : SameElement A x c.element → ⊥). rest x (rw (not_same-is_same A g x c.element other) at e) h)
        (same_or_not A g x c.element)))
        (tell-corrections list (All-tail (λ c. IsCorrection Left A s (s ∷ w) c.element c.mu) c list all)))
        (tell c.element (short c.element c.mu first))

    tell-step : (list : List Correction) → AreCorrections Left A s (s ∷ w) list → NeedsBeyond A limit w ⊎ (NeedsBeyond A limit w → ⊥)
    tell-step list are = ⊎_elim
        (λ (yes : NeedsBeyond A limit (s ∷ w)).
        inl (needs_beyond-needed w (s ∷ w) (need-shorter A g w (s ∷ w) s d (itself (same-refl A g (s ∷ w)))) yes))
        (λ (no : NeedsBeyond A limit (s ∷ w) → ⊥). ⊎_elim
        (λ (found : CorrectionNeeds). inl (needs_beyond-needed w found.element
        (need-correction A g w found.element found.element s found.mu d found.is (itself (same-refl A g found.element))) found.needs))
        (λ (none : (u : List ℕ) → occurrences A u (corrected_elements list) ≡ 1 → NeedsBeyond A limit u → ⊥).
        inr (needs_beyond-none w small
        (λ t f h. no (rw (least-unique A g w s t d f) at h))
        (λ t u m f c h. none u (are.once u m (rw (least-unique A g w s t d f) at c)) h)))
        (tell-corrections list are.each))
        (tell (s ∷ w) (omega (arith, d.descent, long)))

  tell-within : (n : ℕ) (w : List ℕ) → word_length A w ≤ n → NeedsBeyond A limit w ⊎ (NeedsBeyond A limit w → ⊥)
  tell-within zero w l = ⊎_elim
      (λ (yes : IsBeyond A limit w). inl record { element = w; needed = itself (same-refl A g w); beyond = yes })
      (λ (small : IsBeyond A limit w → ⊥). inr (needs_beyond-none w small
      (λ s d h. absurd (omega (arith, d.descent, l)))
      (λ s u m d c h. absurd (omega (arith, d.descent, l)))))
      (tell-beyond A g limit least w)
  tell-within (suc n) w l = ⊎_elim
      (λ (yes : IsBeyond A limit w). inl record { element = w; needed = itself (same-refl A g w); beyond = yes })
      (λ (small : IsBeyond A limit w → ⊥). ⊎_elim
      (λ (some : 0 < word_length A w).
      let s = least_left_descent A g w some
      in let list = corrections_exist A g Left w s.0 s.1.descent
      in tell-step n (λ u m. tell-within n u m) w l small s.0 s.1 list.0 list.1)
      (λ (none : word_length A w ≤ 0). inr (needs_beyond-none w small
      (λ s d h. absurd (omega (arith, d.descent, none)))
      (λ s u m d c h. absurd (omega (arith, d.descent, none)))))
      (cases_lt 0 (word_length A w)))
      (tell-beyond A g limit least w)

  pub tell-needs_beyond : (w : List ℕ) → NeedsBeyond A limit w ⊎ (NeedsBeyond A limit w → ⊥)
  tell-needs_beyond w = tell-within (word_length A w) w (omega arith)
