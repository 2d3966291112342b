-- The words that `work` generates, letter by letter.
use Rattle.std.proofs.Common.{◌≡◌, ◌+◌, ◌*◌, ◌%◌, ◌++◌, ◌∷◌, [], ℕ, List, map, sym, ap, ap₂, ◌∙◌, add-one, arith}
use Rattle.std.specs.List.{range_with_len}
use Rattle.std.proofs.lemmas.List.FromFn.{map-range_with_len_more}
use Rattle.cox_command.specs.declared.generated.TheConstants.{MULTIPLIER, INCREMENT, MODULUS}
use Rattle.cox_command.specs.Generated.{state_after}

-- the state after one more step
pub state_after-next : (steps g now next : ℕ) → now ≡ state_after steps g → next ≡ (MULTIPLIER * now + INCREMENT) % MODULUS
    → next ≡ state_after (steps + 1) g
unfolding state_after
state_after-next steps g now next before step =
    rw add-one (step ∙ ap (λ state. (MULTIPLIER * state + INCREMENT) % MODULUS) before)

-- the letters that so many steps give: each that of the state after it
abbrev pub step_letters : ℕ → ℕ → ℕ → List ℕ
step_letters rank count g = map (λ steps. 1 + state_after steps g % rank) (range_with_len 1 count)

-- the letters, with that of one more step
pub step_letters-next : (rank steps g now letter : ℕ) (word more : List ℕ) → word ≡ step_letters rank steps g
    → now ≡ state_after (steps + 1) g → letter ≡ 1 + now % rank → more ≡ word ++ letter ∷ [] → more ≡ step_letters rank (steps + 1) g
step_letters-next rank steps g now letter word more before state is behind =
    let last : letter ≡ 1 + state_after (steps + 1) g % rank = is ∙ ap (λ n. 1 + n % rank) state in
    behind ∙ ap₂ (λ front back. front ++ back ∷ []) before last
    ∙ sym (map-range_with_len_more (λ count. 1 + state_after count g % rank) 1 steps (steps + 1) (omega arith))
