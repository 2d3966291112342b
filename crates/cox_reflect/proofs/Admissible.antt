-- The integer matrix of a Coxeter matrix is admissible, and its finite labels are the orders of the braid relations.
use Rattle.std.proofs.Common.{◌≡◌, ℕ, ◌<◌, ◌↔◌, ℤ, negsuc, refl, sym, ◌∙◌, ⊎_elim}
use Rattle.std.proofs.lemmas.Bool.{cases_eq, cases_order}
use Rattle.cox_base.specs.Matrix.{CoxeterMatrix, IsLetter, label}
use Rattle.cox_base.specs.Admissible.{IsCoxeterMatrix, HasOrder}
use Rattle.cox_base.specs.IntegerMatrix.{entry_of}
use Rattle.cox_base.specs.Admissible.{order_two, order_three, order_four, order_back_four, order_six, order_back_six}
use Rattle.cox_base.proofs.Entries.{label-above, label-symmetric, entry_of-above, entry_of-below}
use Rattle.cox_base.proofs.AdmissibleMatrices.{HasOrder-integer_matrix}
pub use Rattle.cox_base.proofs.AdmissibleMatrices.{IsAdmissible-integer_matrix}
use Rattle.cox_reflect.proofs.RankTwo.{HasOrder-swap}

HasOrder-unique : {a b : ℤ} {m k : ℕ} → HasOrder a b m → HasOrder a b k → m ≡ k
HasOrder-unique order_two order_two = refl
HasOrder-unique order_three order_three = refl
HasOrder-unique order_four order_four = refl
HasOrder-unique order_back_four order_back_four = refl
HasOrder-unique order_six order_six = refl
HasOrder-unique order_back_six order_back_six = refl

HasOrder-infinity : {k : ℕ} → HasOrder (negsuc 1) (negsuc 1) k → ⊥
HasOrder-infinity h = elim h [ ]

module _ (c : CoxeterMatrix) (h : IsCoxeterMatrix c) where
  -- where the label is infinity there is no order
  no_order : (s t m : ℕ) → IsLetter c.rank s → IsLetter c.rank t → s < t → label c s t ≡ 0 → HasOrder (entry_of c s t) (entry_of c t s) m
      → ⊥
  no_order s t m l k lt infinite order =
      let stored = sym (label-above c s t lt) ∙ infinite in
      let above : entry_of c s t ≡ negsuc 1 = rw stored at (entry_of-above c s t l.from_one lt k.to_rank) in
      let below : entry_of c t s ≡ negsuc 1 = rw stored at (entry_of-below c t s l.from_one lt k.to_rank) in
      HasOrder-infinity (rw (above, below) at order)

  -- m(s,t), where it is finite, is the order of that pair
  order_above : (s t m : ℕ) → IsLetter c.rank s → IsLetter c.rank t → s < t
      → HasOrder (entry_of c s t) (entry_of c t s) m ↔ ((label c s t ≡ m) × (m ≡ 0 → ⊥))
  order_above s t m l k lt = (
    λ order. ⊎_elim (λ infinite. absurd (no_order s t m l k lt infinite order))
        (λ some. let e : label c s t ≡ m = HasOrder-unique (HasOrder-integer_matrix c h s t l.from_one lt k.to_rank some) order in
        (e, λ z. some (e ∙ z)))
        (cases_eq (label c s t) 0),
    λ p. rw p.0 at (HasOrder-integer_matrix c h s t l.from_one lt k.to_rank (λ z. p.1 (sym p.0 ∙ z))),
  )

  pub order_label : (s t m : ℕ) → IsLetter c.rank s → IsLetter c.rank t → (s ≡ t → ⊥)
      → HasOrder (entry_of c s t) (entry_of c t s) m ↔ ((label c s t ≡ m) × (m ≡ 0 → ⊥))
  order_label s t m l k ne =
      ⊎_elim (λ e. absurd (ne e)) (⊎_elim (λ lt. order_above s t m l k lt) below) (cases_order s t)
    where
      below : t < s → HasOrder (entry_of c s t) (entry_of c t s) m ↔ ((label c s t ≡ m) × (m ≡ 0 → ⊥))
      below gt =
          let back = order_above t s m k l gt in rw (label-symmetric c s t) (λ o. back.0 (HasOrder-swap o), λ p. HasOrder-swap (back.1 p))
