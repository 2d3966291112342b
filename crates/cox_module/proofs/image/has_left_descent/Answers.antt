-- The bit of the letter.
use Rattle.std.proofs.Common.{◌≡◌, ◌+◌, ◌-◌, ◌/◌, ◌^◌, bit_and, arith}
use Rattle.std.proofs.lemmas.Bool.{eqb-true, eq-eqb}
use Rattle.std.proofs.lemmas.Nat.{bit_set_by_shift}
use Rattle.cox_module.proofs.image.has_left_descent.Goals as goal

pub returns : goal.returns
returns c =
    let e : c.args.s - 1 + 1 ≡ c.args.s = omega (arith, c.requires.letter.from_one)
    in let bit = bit_set_by_shift c.label_set.result (c.args.s - 1)
    in let descent = c.label_set.ensures (c.args.s - 1)
    in (
      λ t. rw e at (descent.0 (bit.0 (eqb-true (bit_and (c.label_set.result / 2 ^ (c.args.s - 1)) 1) 1 t))),
      λ d. eq-eqb (bit_and (c.label_set.result / 2 ^ (c.args.s - 1)) 1) 1 (bit.1 (descent.1 (rw e d))),
    )
