-- The elements so far are linked to the next layer, which has what it had, and there is room for the other links.
use Rattle.cox_base.specs.IntegerMatrix.{integer_matrix}
use Rattle.std.proofs.Common.{◌≤◌, length, take, vec_capacity}
use Rattle.std.specs.Prelude.{All}
use Rattle.cox_rpoly.specs.Layer.{IsInLayer, AreLinks, Extends}
use Rattle.cox_rpoly.proofs.layers.put_links.Given as goal

abbrev pub invariant-loop-x : goal.invariant-loop-x
invariant-loop-x g l = record {
  members : All (IsInLayer g.E.Element.is_of (integer_matrix (g.W.Words.matrix l.words)) l.rest) l.next.keys;
  links : AreLinks g.E.Element.is_of (integer_matrix (g.W.Words.matrix l.words)) l.s l.rest (take l.x-index l.layer) l.next.keys
      l.links.items;
  extends : Extends l.fn.next.keys l.next.keys;
  room : length l.layer ≤ vec_capacity l.links;
}
