-- No letter of the one set is missing in the other.
use Rattle.std.proofs.Common.{◌-◌, ◌<◌, ◌≤◌, bit_and, refl, ⊎_elim, arith}
use Rattle.std.proofs.lemmas.Bool.{cases_lt, eqb-true, eq-eqb}
use Rattle.std.proofs.lemmas.Nat.{and_le_l}
use Rattle.cox_row.proofs.LetterBits.{zero-subset, lowest-missing}
use Rattle.cox_row.proofs.raised.is_subset.Goals as goal

pub returns : goal.returns
returns c = (
  λ t. zero-subset c.args.wanted c.args.present (bit_and c.args.wanted (65535 - c.args.present)) (omega arith) (omega arith) refl
      (eqb-true (bit_and c.args.wanted (65535 - c.args.present)) 0 t),
  λ h. ⊎_elim
      (λ (some : 0 < bit_and c.args.wanted (65535 - c.args.present)).
      let missing = lowest-missing c.args.wanted c.args.present (bit_and c.args.wanted (65535 - c.args.present)) (omega arith) (omega arith)
      refl (omega (arith, and_le_l c.args.wanted (65535 - c.args.present))) (λ e. omega (arith, e, some))
      in absurd (missing.lacks (h missing.bit missing.among)))
      (λ (none : bit_and c.args.wanted (65535 - c.args.present) ≤ 0). eq-eqb (bit_and c.args.wanted (65535 - c.args.present)) 0
      (omega arith))
      (cases_lt 0 (bit_and c.args.wanted (65535 - c.args.present))),
)
