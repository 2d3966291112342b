-- The pass goes on at the place, and no vertex that was seen is unseen again.
use Rattle.std.proofs.Common.{◌≡◌, ◌≢◌, [], ◌++◌, IfNone}
use Rattle.std.specs.Option.{option_to_list}
use Rattle.cox_scc.specs.Visits.{Unseen}
use Rattle.cox_scc.specs.Walk.{visit_of, IsWalk, StaySeen, work_left}
use Rattle.cox_scc.proofs.search.Search.explore.Given as goal

abbrev pub invariant-loop-place : goal.invariant-loop-place
invariant-loop-place l = record {
  walk : IsWalk l.adjacency l.self (l.self.waiting.items ++ option_to_list l.place);
  seen : StaySeen l.fn.self l.self;
  end : IfNone l.place (l.self.waiting.items ≡ []);
  found : visit_of l.self l.root ≢ Unseen;
}

abbrev pub decreases-loop-place : goal.decreases-loop-place
decreases-loop-place l = work_left l.self (l.self.waiting.items ++ option_to_list l.place)
