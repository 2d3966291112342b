-- One letter more is multiplied.
use Rattle.std.proofs.Common.{map, [], ◌∷◌}
use Rattle.std.proofs.lemmas.List.{map-append}
use Rattle.cox_base.specs.IntegerMatrix.{integer_matrix}
use Rattle.cox_reflect.proofs.Admissible.{IsAdmissible-integer_matrix}
use Rattle.cox_minroots.proofs.ReducedProducts.{multiplied-start, multiplied-next}
use Rattle.cox_minroots.proofs.table.RootTable.reduced_inverse.Goals as goal

pub loop-s-init : goal.loop-s-init
loop-s-init c =
    rw c.new-v.ensures
    (multiplied-start (integer_matrix c.args.self.now)
    (IsAdmissible-integer_matrix c.args.self.now (rw c.self.view_is at c.rank.ensures.matrix)))

pub loop-s-preserved : goal.loop-s-preserved
loop-s-preserved c =
    rw (map-append (λ x. x.now) c.loop-s.yielded (c.in-Some.field-0 ∷ []))
    (multiplied-next (integer_matrix c.args.self.now)
    (IsAdmissible-integer_matrix c.args.self.now (rw c.self.view_is at c.rank.ensures.matrix))
    (map (λ x. x.now) c.loop-s.yielded) c.loop-s.v.items c.in-Some.field-0.now c.multiply.new.w.items c.loop-s.invariant
    c.multiply.ensures.same c.multiply.ensures.reduced c.multiply.ensures.letters c.multiply.ensures.longer)
