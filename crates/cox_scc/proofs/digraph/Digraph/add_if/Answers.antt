-- The ends of the new edge are vertices.
use Rattle.cox_scc.proofs.Edges.{within-push, within-take}
use Rattle.cox_scc.proofs.digraph.Digraph.add_if.Goals as goal

pub invariant_of-self : goal.invariant_of-self
invariant_of-self c =
    record { within = within-push _ _ _ c.args.a c.args.b _ c.push.ensures.items c.requires.from c.requires.to c.args.self.now.within }

pub invariant_of-self-2 : goal.invariant_of-self-2
invariant_of-self-2 c = record {
  within = within-take _ _ _ _ c.truncate.ensures.items
      (within-push _ _ _ c.args.a c.args.b _ c.push.ensures.items c.requires.from c.requires.to c.args.self.now.within);
}
