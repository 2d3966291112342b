-- The sets without the other ones are not both empty exactly where one of them has a letter that the other one lacks.
use Rattle.std.proofs.Common.{◌≡◌, ◌≢◌, ℕ, ◌<◌, ◌^◌, not, nat_eq, bit_and, bit_or, w16, ◌-◌, ◌⊎◌, inl, inr, refl, ⊎_elim, arith}
use Rattle.std.specs.Prelude.{IsTrue}
use Rattle.std.specs.Int.{bit_not}
use Rattle.std.proofs.lemmas.Bool.{cases_eq}
use Rattle.std.proofs.lemmas.Bool.Decides.{nat_tests}
use Rattle.std.proofs.lemmas.Nat.{and_le_l, le_or_l, le_or_r}
use Rattle.cox_row.proofs.LetterBits.{zero-subset, lowest-missing}
use Rattle.cox_cells.specs.NumberedCells.{HasBeyond}
use Rattle.cox_cells.proofs.steps.has_own.Goals as goal

test-some : (n : ℕ) → n ≢ 0 → IsTrue (not (nat_eq n 0))
test-some n some = grind (arith, nat_tests)

test-none : (n : ℕ) → IsTrue (not (nat_eq n 0)) → n ≢ 0
test-none n t none = grind (arith, nat_tests)

-- one set without another
beyond : (set other rest : ℕ) → set < 2 ^ 16 → other < 2 ^ 16 → rest < 2 ^ 16 → rest ≡ bit_and set (bit_not w16 other)
    → (rest ≢ 0 → HasBeyond set other) × (HasBeyond set other → rest ≢ 0)
beyond set other rest l m n is = (
  λ some. let b = lowest-missing set other rest l m is n some in record { bit = b.bit; among = b.among; lacks = b.lacks },
  λ h z. h.lacks (zero-subset set other rest l m is z h.bit h.among),
)

bits-some : (a b : ℕ) → bit_or a b ≢ 0 → (a ≢ 0) ⊎ (b ≢ 0)
bits-some a b some = ⊎_elim
    (λ (z : a ≡ 0). inr (λ (e : b ≡ 0). some (rw z (rw e refl))))
    (λ (n : a ≡ 0 → ⊥). inl n)
    (cases_eq a 0)

pub returns : goal.returns
returns c =
    let left : ℕ = bit_and c.args.own.left (65535 - c.args.others.left) in
    let right : ℕ = bit_and c.args.own.right (65535 - c.args.others.right) in
    let on_left = beyond c.args.own.left c.args.others.left left (omega arith) (omega arith)
    (omega (arith, and_le_l c.args.own.left (65535 - c.args.others.left))) refl in
    let on_right = beyond c.args.own.right c.args.others.right right (omega arith) (omega arith)
    (omega (arith, and_le_l c.args.own.right (65535 - c.args.others.right))) refl in (
      λ t. ⊎_elim (λ l. inl (on_left.0 l)) (λ r. inr (on_right.0 r)) (bits-some left right (test-none (bit_or left right) t)),
      λ h. test-some (bit_or left right) (⊎_elim
          (λ l z. on_left.1 l (omega (arith, le_or_l left right, z)))
          (λ r z. on_right.1 r (omega (arith, le_or_r left right, z)))
          h),
    )
