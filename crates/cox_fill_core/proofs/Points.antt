-- A function of numbers with one value changed: its values there and elsewhere.
use Rattle.std.proofs.Common.{◌≡◌, ◌≢◌, ℕ, ◌⊎◌, arith}
use Rattle.std.proofs.lemmas.Bool.Decides.{nat_tests}
use Rattle.cox_fill_core.specs.Fill.{put}

pub put_here : {X : Type 0} (f : ℕ → X) (i : ℕ) (x : X) → put f i x i ≡ x
put_here f i x = grind (arith, nat_tests)

pub put_else : {X : Type 0} (f : ℕ → X) (i : ℕ) (x : X) (j : ℕ) → j ≢ i → put f i x j ≡ f j
put_else f i x j ne = grind (arith, nat_tests)

-- a value of the changed function that is y, at i or elsewhere
pub put_cases : {X : Type 0} (f : ℕ → X) (i : ℕ) (x : X) (j : ℕ) (y : X) → put f i x j ≡ y → ((j ≡ i) × (x ≡ y)) ⊎ ((j ≢ i) × (f j ≡ y))
put_cases f i x j y h = grind (arith, nat_tests)
