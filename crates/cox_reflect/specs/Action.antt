-- How a generator acts on integer vectors: s takes v to v - p(s,v) e(s).
use Rattle.std.specs.Prelude.{ℕ, ◌==◌, if◌then◌else◌, ℤ, pos, ◌-ℤ◌, ◌*ℤ◌}
use Rattle.cox_base.specs.IntegerMatrix.{IntegerMatrix}
use Rattle.cox_base.specs.Element.{sum_to}

-- a vector; only its coordinates at letters matter
abbrev pub Vector : Type 0
Vector = ℕ → ℤ

-- e(t)
unfoldable pub simple_root : ℕ → Vector
simple_root t i = if i == t then pos 1 else pos 0

-- p(s,v) = a(s,1) v(1) + .. + a(s,n) v(n)
unfoldable pub pairing : IntegerMatrix → ℕ → Vector → ℤ
pairing A s v = sum_to A.rank (λ t. A.entry s t *ℤ v t)

-- v - c w
unfoldable pub minus_multiple : Vector → ℤ → Vector → Vector
minus_multiple v c w i = v i -ℤ (c *ℤ w i)

-- the image of v under the generator s
unfoldable pub reflect : IntegerMatrix → ℕ → Vector → Vector
reflect A s v = minus_multiple v (pairing A s v) (simple_root s)
