-- The members are what stands on the stack from the place on.
use Rattle.std.proofs.Common.{refl, arith}
use Rattle.cox_scc.proofs.Closing.{slice_is, become_class}
use Rattle.cox_scc.proofs.VisitedVertices.{open_seen}
use Rattle.cox_scc.proofs.search.Search.close.Goals as goal

pub returns : goal.returns
returns c = record {
  seen = refl;
  places_count = omega (arith, c.close_members.new.places.ok.0, c.close_members.ensures.places_count, c.args.self.now.places.ok.0);
  classes_count = omega (arith, c.close_members.new.classes.ok.0, c.close_members.ensures.classes_count, c.args.self.now.classes.ok.0);
  least = c.least_of-least.result;
  become = become_class c.args.self.now.stack.items _ _ c.args.low _ c.least_of-least.result c.args.self.now.seen.items _ _ _ _
      c.args.self.now.stack.ok.0
      (omega arith)
      (slice_is _ _ c.args.low c.deref-2.ensures.value) (slice_is _ _ c.args.low c.deref.ensures.value)
      c.least_of-least.ensures.member c.least_of-least.ensures.least (λ p below. open_seen _ _ p (c.requires.are_open p below))
      c.close_members.ensures;
  stack = c.truncate.ensures.items;
  parts = refl;
  waiting = refl;
}
