-- The places of numbers that rise, put one after another where they are looked up by number.
use Rattle.std.proofs.Common.{◌≡◌, ℕ, ◌+◌, ◌<◌, ◌≤◌, List, length, set, ◌∙◌, ⊎_elim, arith}
use Rattle.std.proofs.lemmas.Bool.{cases_lt}
use Rattle.std.proofs.lemmas.List.{get_or-set_same, get_or-set_other}
use Rattle.cox_row.specs.Rising.{number_at, AreRising}

pub placed-next : (numbers entries : List ℕ) (k : ℕ) → AreRising numbers → k < length numbers → number_at numbers k < length entries
    → ((j : ℕ) → j < k → number_at entries (number_at numbers j) ≡ j)
    → (j : ℕ) → j < k + 1 → number_at (set entries (number_at numbers k) k) (number_at numbers j) ≡ j
placed-next numbers entries k rising inside within placed j l = ⊎_elim
    (λ (old : j < k). get_or-set_other entries (number_at numbers k) (number_at numbers j) k 0
    (λ same. omega (arith, rising j k old inside, same)) ∙ placed j old)
    (λ (new : k ≤ j). let is : j ≡ k = omega (arith, l, new) in rw is (get_or-set_same entries (number_at numbers k) k 0 within))
    (cases_lt j k)
