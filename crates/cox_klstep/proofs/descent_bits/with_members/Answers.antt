-- A member more.
use Rattle.std.proofs.Common.{◌≡◌, ◌%◌, ◌<◌, ◌≤◌, ◌∙◌, ⊎_elim, arith}
use Rattle.std.proofs.lemmas.Bool.{cases_lt}
use Rattle.cox_klstep.proofs.descent_bits.with_members.Goals as goal

pub loop-x-preserved : goal.loop-x-preserved
loop-x-preserved c =
    let was = c.loop-x.invariant
    in record {
      before = λ j l. c.with_bit-word.ensures.others j (omega (arith, l))
          (λ e. omega (arith, e, l, c.requires.same, c.loop-x-test.true, c.loop-x.auto.x))
          ∙ was.before j l;
      members = λ y from l. ⊎_elim
          (λ (old : y < c.loop-x.x). rw (c.with_bit-word.ensures.others (y % 64) (omega arith)
          (λ e. omega (arith, e, old, from, c.requires.same, c.loop-x-test.true))) (was.members y from old))
          (λ (new : c.loop-x.x ≤ y).
          let is : y ≡ c.loop-x.x = omega (arith, new, l)
          in rw is (
            λ bit. c.shortens.ensures.0 (c.with_bit-word.ensures.at.0 bit),
            λ d. c.with_bit-word.ensures.at.1 (c.shortens.ensures.1 d),
          ))
          (cases_lt y c.loop-x.x);
    }
