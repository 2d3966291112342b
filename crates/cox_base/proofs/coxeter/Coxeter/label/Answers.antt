-- The proof of `Coxeter::label`.
use Rattle.std.proofs.Common.{arith}
use Rattle.std.proofs.lemmas.Bool.Decides.{nat_tests}
use Rattle.cox_base.specs.Matrix.{label}
use Rattle.cox_base.proofs.Entries.{label-apart}
use Rattle.cox_base.proofs.coxeter.Coxeter.label.Goals as goal

pub returns-then-s-t : goal.returns-then-s-t
unfolding label
returns-then-s-t c = grind (arith, nat_tests)

pub returns : goal.returns
returns c =
    let apart = c.if-s-t.false in
    rw (c.as_slice.ensures.value, c.place_of_label.ensures.place, c.min.ensures, c.max.ensures, ← c.self.view_is, label-apart)
