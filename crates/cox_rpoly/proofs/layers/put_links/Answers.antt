-- One element more is linked, and what is lacked then was lacked before.
use Rattle.std.proofs.Common.{refl, arith}
use Rattle.std.proofs.lemmas.List.{length-take-le}
use Rattle.cox_base.specs.IntegerMatrix.{IntegerMatrix, integer_matrix}
use Rattle.cox_rpoly.proofs.LayerMembers.{AreLinks-more, Extends-trans, IsLackedBy-before, if_that_err}
use Rattle.cox_rpoly.proofs.layers.put_links.Goals as goal

pub returns-in_err-link-clause-fault : goal.returns-in_err-link-clause-fault
returns-in_err-link-clause-fault g c =
    let A : IntegerMatrix = integer_matrix (g.W.Words.matrix c.args.words.now)
    in if_that_err _ c.from_residual.result c.in_err-link.field-0.0 c.from_residual.ensures.1
    (λ out. IsLackedBy-before g.E.Element.is_of A c.args.rest.now c.args.next.now.keys c.loop-x.next.keys c.loop-x.invariant.extends
    (c.in_err-link.ensures.fault out))

pub loop-x-preserved : goal.loop-x-preserved
loop-x-preserved g c =
    let A : IntegerMatrix = integer_matrix (g.W.Words.matrix c.args.words.now)
    in record {
      members = c.in_ok-link.ensures.members;
      links = rw c.push_reserved.ensures.items
          (AreLinks-more g.E.Element.is_of A c.args.s c.args.rest.now c.args.layer.now c.loop-x.next.keys c.link.new.next.keys
          c.loop-x.links.items
          c.loop-x.x-index c.x-item.result c.in_ok-link.field-0 c.loop-x-test.true c.x-item.is c.loop-x.invariant.links
          c.in_ok-link.ensures.extends c.in_ok-link.ensures.link);
      extends = Extends-trans c.args.next.now.keys c.loop-x.next.keys c.link.new.next.keys c.loop-x.invariant.extends
          c.in_ok-link.ensures.extends;
      room = rw c.push_reserved.ensures.capacity c.loop-x.invariant.room;
    }

pub push_reserved-requires : goal.push_reserved-requires
push_reserved-requires g c =
    let few = length-take-le c.loop-x.x-index c.args.layer.now (omega (arith, c.loop-x-test.true))
    in omega (arith, few, c.loop-x.invariant.links.count, c.loop-x.invariant.room, c.loop-x-test.true, c.loop-x.links.ok)

pub loop-x-init : goal.loop-x-init
loop-x-init g c = record {
  members = c.requires.members_next;
  links = rw c.requires.none record { count = refl; each = λ i x l below. absurd (omega (arith, below)) };
  extends = record { kept = λ i x at. at };
  room = c.requires.room;
}
