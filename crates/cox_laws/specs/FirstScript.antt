-- A script of three lines, and its answer.
use Rattle.std.specs.Prelude.{ℕ, List, [], ◌∷◌, codes}
use Rattle.cox_shell.specs.Answer.{bytes_of}

-- its bytes: each line ends by LF
abbrev pub script_bytes : List ℕ
script_bytes = bytes_of (codes "type A 2" ∷ codes "compute 212" ∷ codes "length 212" ∷ [])

-- the bytes of its answer
abbrev pub answer_bytes : List ℕ
answer_bytes = bytes_of (codes "121" ∷ codes "3" ∷ [])
