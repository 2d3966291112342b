-- The lists of descents, by any test that tells the descents among the letters.
use Rattle.std.proofs.Common.{◌≡◌, ℕ, zero, suc, ◌+◌, ◌≤◌, ◌<◌, Bool, true, nat_lt, List, filter, ◌↔◌, refl}
use Rattle.std.proofs.Common.{arith, ltb-true, lt-ltb}
use Rattle.std.specs.Bool.{one_answer}
use Rattle.std.specs.List.{range_with_len}
use Rattle.cox_base.specs.Matrix.{IsLetter}
use Rattle.cox_base.specs.IntegerMatrix.{IntegerMatrix}
use Rattle.cox_base.specs.ShortLex.{letters}
use Rattle.cox_base.specs.Length.{word_length}
use Rattle.cox_base.specs.declared.side.Side.{Side}
use Rattle.cox_base.specs.SideDescents.{times_letter, IsDescent, descent_set}

-- two tests that agree on a range keep the same numbers of it
filter-range : (p q : ℕ → Bool) (a n : ℕ) → ((s : ℕ) → a ≤ s → s < a + n → p s ≡ q s)
    → filter p (range_with_len a n) ≡ filter q (range_with_len a n)
filter-range p q a zero h = refl
filter-range p q a (suc n) h =
    let rest : filter p (range_with_len (a + 1) n) ≡ filter q (range_with_len (a + 1) n)
    = filter-range p q (a + 1) n (λ s l k. h s (omega arith) (omega arith))
    in rw (h a (omega arith) (omega arith), rest)

test-agrees : (m n : ℕ) (b : Bool) → (b ≡ true) ↔ (m < n) → nat_lt m n ≡ b
test-agrees m n b h = one_answer (nat_lt m n) b (ltb-true m n, lt-ltb m n) h

module _ (A : IntegerMatrix) where
  pub descent_set-by : (side : Side) (u : List ℕ) (test : ℕ → Bool)
      → ((s : ℕ) → IsLetter A.rank s → (test s ≡ true) ↔ IsDescent side A u s)
      → descent_set side A u ≡ filter test (letters A.rank)
  unfolding descent_set letters
  descent_set-by side u test h =
      filter-range (λ s. nat_lt (word_length A (times_letter side s u)) (word_length A u)) test 1 A.rank
      (λ s l k. test-agrees (word_length A (times_letter side s u)) (word_length A u) (test s)
      (h s (record { from_one = l; to_rank = omega arith })))
