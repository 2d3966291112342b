-- Each last letter of the larger word goes, and if it shortens the smaller element it goes there too. At the end only e is below e.
use Rattle.std.proofs.Common.{◌∷◌, [], ◌++◌}
use Rattle.cox_base.specs.IntegerMatrix.{integer_matrix}
use Rattle.cox_reflect.proofs.Admissible.{IsAdmissible-integer_matrix}
use Rattle.cox_minroots.proofs.Lifting.{IsLifted, lifted-start, lifted-letter, lifted-down, lifted-up, lifted-end, empty_list}
use Rattle.cox_minroots.proofs.table.RootTable.below_by_table.Goals as goal

pub loop-s-init : goal.loop-s-init
loop-s-init c =
    lifted-start (integer_matrix c.args.self.now) (IsAdmissible-integer_matrix c.args.self.now c.reduced_inverse-small.ensures.matrix)
    c.args.y.now.items c.args.w.now.items c.reduced_inverse-small.result.items c.reduced_inverse-large.result.items
    c.reduced_inverse-small.ensures.same c.reduced_inverse-large.ensures.same c.reduced_inverse-small.ensures.reduced
    c.reduced_inverse-large.ensures.reduced c.reduced_inverse-small.ensures.letters c.reduced_inverse-large.ensures.letters

pub exchanged-requires-clause-letter : goal.exchanged-requires-clause-letter
exchanged-requires-clause-letter c =
    let lifted : IsLifted (integer_matrix c.args.self.now) c.args.y.now.items c.args.w.now.items c.loop-s.small.items
    (c.pop.new.self.items ++ c.in-Some.s ∷ []) =
    rw c.in-Some.ensures.items at c.loop-s.invariant
    in lifted-letter (integer_matrix c.args.self.now) (IsAdmissible-integer_matrix c.args.self.now c.reduced_inverse-small.ensures.matrix)
    c.args.y.now.items c.args.w.now.items c.loop-s.small.items c.pop.new.self.items c.in-Some.s lifted

pub loop-s-preserved-in-Some-exchanged : goal.loop-s-preserved-in-Some-exchanged
loop-s-preserved-in-Some-exchanged c =
    let lifted : IsLifted (integer_matrix c.args.self.now) c.args.y.now.items c.args.w.now.items c.loop-s.small.items
    (c.pop.new.self.items ++ c.in-Some.s ∷ []) =
    rw c.in-Some.ensures.items at c.loop-s.invariant
    in rw c.remove.ensures.items
    (lifted-down (integer_matrix c.args.self.now) (IsAdmissible-integer_matrix c.args.self.now c.reduced_inverse-small.ensures.matrix)
    c.args.y.now.items c.args.w.now.items c.loop-s.small.items c.pop.new.self.items c.in-Some.s lifted c.in-Some-exchanged.place
    c.in-Some-exchanged.ensures.within c.in-Some-exchanged.ensures.without)

pub loop-s-preserved : goal.loop-s-preserved
loop-s-preserved c =
    let lifted : IsLifted (integer_matrix c.args.self.now) c.args.y.now.items c.args.w.now.items c.loop-s.small.items
    (c.pop.new.self.items ++ c.in-Some.s ∷ []) =
    rw c.in-Some.ensures.items at c.loop-s.invariant
    in lifted-up (integer_matrix c.args.self.now) (IsAdmissible-integer_matrix c.args.self.now c.reduced_inverse-small.ensures.matrix)
    c.args.y.now.items c.args.w.now.items c.loop-s.small.items c.pop.new.self.items c.in-Some.s lifted c.in_default-exchanged.ensures.longer

pub returns : goal.returns
returns c =
    let lifted : IsLifted (integer_matrix c.args.self.now) c.args.y.now.items c.args.w.now.items c.loop-s.small.items []
    = rw (empty_list c.loop-s.large.items c.in_default.ensures.variant.1) at c.loop-s.invariant
    in lifted-end (integer_matrix c.args.self.now) (IsAdmissible-integer_matrix c.args.self.now c.reduced_inverse-small.ensures.matrix)
    c.args.y.now.items c.args.w.now.items c.loop-s.small.items lifted c.is_empty.result c.is_empty.ensures
