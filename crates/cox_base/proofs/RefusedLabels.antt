-- Labels that are not admitted.
use Rattle.std.proofs.Common.{◌≡◌, ℕ, ◌+◌, ◌-◌, ◌<◌, Bool, true, false, not, if◌then◌else◌, Option, Some, None, List, length, slice_index}
use Rattle.std.proofs.Common.{arith, ap, refl, sym, ◌∙◌}
use Rattle.cox_base.specs.Matrix.{is_label}
use Rattle.cox_base.specs.Table.{IsFirstBad}
use Rattle.cox_base.proofs.Positions.{position-Some_at}

-- the first label that is not admitted
pub IsFirstBad-at : (labels : List ℕ) (i : ℕ) → i < length labels → ((k : ℕ) → k < i → is_label (slice_index labels k) ≡ true)
    → is_label (slice_index labels i) ≡ false → IsFirstBad labels (i + 1) (slice_index labels i)
IsFirstBad-at labels i within before here =
    let back : i + 1 - 1 ≡ i = omega arith in
    record {
      first = rw (position-Some_at (λ m. not (is_label m)) labels i 0 within (λ k h. ap not (before k h)) (ap not here));
      label_there = rw back;
    }

-- what the test of a label answers for one that is not admitted
pub is_label-false : (m : ℕ) (tested : Option ℕ) → tested ≡ (if is_label m then Some m else None) → tested ≡ None → is_label m ≡ false
is_label-false m tested is none = refused (is_label m) (sym is ∙ none)
  where
    refused : (b : Bool) → (if b then Some m else None) ≡ None → b ≡ false
    refused true some = cc
    refused false e = refl
