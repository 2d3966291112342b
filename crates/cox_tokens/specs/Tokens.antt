-- The tokens of a line: its longest runs of bytes other than space.
use Rattle.std.specs.Prelude.{ℕ, ◌==◌, Bool, nat_lt, List, length, filter}
use Rattle.std.specs.List.{slice_split}

-- 32 is the code of a space
abbrev pub is_space : ℕ → Bool
is_space byte = byte == 32

-- of the pieces before, between and after the spaces, those that are not empty
abbrev pub tokens_of : List ℕ → List (List ℕ)
tokens_of line = filter (λ piece. nat_lt 0 (length piece)) (slice_split is_space line)
