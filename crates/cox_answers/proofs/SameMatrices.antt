-- Coxeter matrices with the same labels.
use Rattle.std.proofs.Common.{◌≡◌, ℕ, zero, suc, ◌+◌, ◌-◌, ◌<◌, ◌≤◌, slice_index, length, arith, sym, ap, ◌∙◌, ⊎_elim}
use Rattle.std.proofs.lemmas.Bool.{cases_lt}
use Rattle.std.proofs.lemmas.Grind.{same_number_lists}
use Rattle.cox_base.specs.Matrix.{CoxeterMatrix, labels_before, place, label}
use Rattle.cox_base.specs.Admissible.{IsCoxeterMatrix}
use Rattle.cox_base.proofs.LabelPlaces.{labels_before-all, place-next}
use Rattle.cox_base.proofs.Entries.{label-above}

-- the letters of the label at a place
record IsPlaced (n k : ℕ) : Type 0 where
  pub s : ℕ
  pub t : ℕ
  pub from_one : 1 ≤ s
  pub rising : s < t
  pub to_rank : t ≤ n
  pub is : place n s t ≡ k

-- each place of the first rows is that of a label
placed : (n r k : ℕ) → r ≤ n → k < labels_before n r → IsPlaced n k
unfolding labels_before
placed n zero k rows within = absurd (omega (arith, within))
placed n (suc r) k rows within = ⊎_elim
    (λ (before : k < labels_before n r). placed n r k (omega (arith, rows)) before)
    (λ (behind : labels_before n r ≤ k). record {
      s = suc r;
      t = k - labels_before n r + suc (suc r);
      from_one = omega arith;
      rising = omega arith;
      to_rank = omega (arith, rows, within, behind);
      is = place-next n r (k - labels_before n r + suc (suc r)) ∙ omega (arith, behind);
    })
    (cases_lt k (labels_before n r))

-- two matrices are the same if they have the same labels above the diagonal
pub same_matrices : (g h : CoxeterMatrix) → IsCoxeterMatrix g → IsCoxeterMatrix h → h.rank ≡ g.rank
    → ((s t : ℕ) → 1 ≤ s → s < t → t ≤ g.rank → label g s t ≡ label h s t) → g ≡ h
same_matrices g h first second ranks same = grind (arith, ranks, labels)
  where
    count : length g.labels ≡ labels_before g.rank g.rank
    count = first.count ∙ sym (labels_before-all g.rank)

    labels : g.labels ≡ h.labels
    labels = same_number_lists g.labels h.labels (first.count ∙ rw (← ranks) (sym second.count)) (λ k within.
        let p = placed g.rank g.rank k (omega arith) (rw count at within) in
        rw (← p.is) (sym (label-above g p.s p.t p.rising) ∙ same p.s p.t p.from_one p.rising p.to_rank
        ∙ label-above h p.s p.t p.rising ∙ ap (λ n. slice_index h.labels (place n p.s p.t)) ranks))
