-- A number of 64 bits that equal polynomials have in common.
use Rattle.std.specs.Prelude.{ℕ, ◌+◌, ◌*◌, ◌%◌, ◌^◌, List, [], ◌∷◌, ℤ, unsigned_abs}

-- the fingerprint of q p + c, from that of p
abbrev pub mixed : ℤ → ℕ → ℕ
mixed c h = ((h * 11400714819323198485) % 2 ^ 64 + unsigned_abs c % 2 ^ 64) % 2 ^ 64

abbrev pub fingerprint : List ℤ → ℕ
fingerprint [] = 0
fingerprint (c ∷ p) = mixed c (fingerprint p)
