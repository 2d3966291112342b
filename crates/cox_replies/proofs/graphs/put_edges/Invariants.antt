-- What the loop of `put_edges` keeps.
use Rattle.std.proofs.Common.{◌≡◌, ◌++◌, take}
use Rattle.std.specs.List.{flat_map}
use Rattle.cox_replies.proofs.GroupTexts.{edge_at_text}
use Rattle.cox_replies.proofs.graphs.put_edges.Given as goal

abbrev pub invariant-loop-edge : goal.invariant-loop-edge
invariant-loop-edge l =
    l.out.items ≡ l.initial.out.items ++ flat_map (edge_at_text l.context.matrix.rank l.context.members) (take l.edge-index l.edges)
