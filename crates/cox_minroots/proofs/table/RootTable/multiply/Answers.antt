-- The letter is exchanged or put in.
use Rattle.cox_base.specs.IntegerMatrix.{integer_matrix}
use Rattle.cox_reflect.proofs.Admissible.{IsAdmissible-integer_matrix}
use Rattle.cox_minroots.proofs.ReducedProducts.{reduced-remove, word-remove}
use Rattle.cox_minroots.proofs.table.RootTable.multiply.Goals as goal

pub returns-in-Some-clause-reduced : goal.returns-in-Some-clause-reduced
returns-in-Some-clause-reduced c =
    rw c.remove.ensures.items (reduced-remove (integer_matrix c.args.self.now)
    (IsAdmissible-integer_matrix c.args.self.now c.in-Some.ensures.matrix) c.args.w.now.items c.args.s c.in-Some.place c.requires.reduced
    c.in-Some.ensures.within c.in-Some.ensures.without)

pub returns-in-Some-clause-letters : goal.returns-in-Some-clause-letters
returns-in-Some-clause-letters c =
    rw c.remove.ensures.items (word-remove c.args.w.now.items c.in-Some.place c.in-Some.ensures.within c.requires.letters)
