-- How a text is put behind others: whole, or, where memory runs out, a prefix of it.
use Rattle.std.specs.Prelude.{◌≡◌, ◌++◌, List, ℕ, Result, MatchResult}
use Rattle.std.specs.declared.alloc.AllocError.{AllocError}

-- a prefix of the text was put behind what was there
pub record PutsPrefix (text old new : List ℕ) : Type 0 where
  pub prefix : List ℕ
  pub rest : List ℕ
  pub parts : text ≡ prefix ++ rest
  pub behind : new ≡ old ++ prefix

-- the text was put behind what was there; where memory ran out only a prefix of it was
abbrev pub Puts : Result Unit AllocError → List ℕ → List ℕ → List ℕ → Type 0
Puts result text old new = MatchResult result (λ _. new ≡ old ++ text) (λ _. PutsPrefix text old new)
