-- The words that `work` generates.
use Rattle.std.specs.Prelude.{ℕ, zero, suc, ◌+◌, ◌*◌, ◌%◌, List, map}
use Rattle.std.specs.List.{range_with_len}
use Rattle.cox_command.specs.declared.generated.TheConstants.{MULTIPLIER, INCREMENT, MODULUS, WORD_LETTERS}

-- the state after so many steps
unfoldable pub state_after : ℕ → ℕ → ℕ
state_after zero g = g
state_after (suc steps) g = (MULTIPLIER * state_after steps g + INCREMENT) % MODULUS

-- the word that a state gives: a letter by the state after one step, by that after two, and so on
abbrev pub generated_word : ℕ → ℕ → List ℕ
generated_word rank g = map (λ steps. 1 + state_after steps g % rank) (range_with_len 1 WORD_LETTERS)
