-- The next layer has no elements at first, and the list has room.
use Rattle.std.proofs.Common.{arith}
use Rattle.std.proofs.lemmas.List.Elements.{All-nil}
use Rattle.cox_base.specs.IntegerMatrix.{integer_matrix}
use Rattle.cox_rpoly.specs.Layer.{IsInLayer}
use Rattle.cox_rpoly.proofs.layers.next_layer.Goals as goal

pub put_links-requires-clause-members : goal.put_links-requires-clause-members
put_links-requires-clause-members g c = rw c.as_slice.ensures.keys c.requires.members

pub put_links-requires-clause-members_next : goal.put_links-requires-clause-members_next
put_links-requires-clause-members_next g c =
    rw c.new-next.ensures.empty (All-nil (IsInLayer g.E.Element.is_of (integer_matrix (g.W.Words.matrix c.args.words.now)) c.args.rest.now))

pub put_links-requires-clause-room : goal.put_links-requires-clause-room
put_links-requires-clause-room g c =
    rw c.as_slice.ensures.keys (omega (arith, c.len.ensures.len, c.in_ok-links.ensures.exact))

pub returns-clause-members : goal.returns-clause-members
returns-clause-members g c = c.in_ok-put_links.ensures.members

pub returns-clause-links : goal.returns-clause-links
returns-clause-links g c = rw c.as_slice.ensures.keys at c.in_ok-put_links.ensures.links
