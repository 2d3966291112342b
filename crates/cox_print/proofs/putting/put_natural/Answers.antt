-- The proof of `put_natural`.
use Rattle.std.proofs.Common.{◌≡◌, ℕ, ◌<◌, ◌^◌, decimal, to_z, ap, arith}
use Rattle.std.specs.Fmt.{signed_decimal}
use Rattle.std.proofs.lemmas.Int.{to_z_pos}
use mir.Syntax.{w128}
use Rattle.cox_print.proofs.putting.put_natural.Goals as goal

-- the digits of a number that was cast to a signed one
cast-digits : (n : ℕ) → n < 2 ^ 64 → signed_decimal (to_z w128 n) ≡ decimal n
cast-digits n small = ap signed_decimal (to_z_pos w128 n (omega (arith, small)))

pub returns : goal.returns
returns c = let digits = cast-digits c.args.n (omega arith) in rw digits at c.put_number.ensures.text
