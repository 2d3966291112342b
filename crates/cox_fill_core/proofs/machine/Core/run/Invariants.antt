-- The core stands after the events so far, the replies are those to them, and there is room for the rest.
use Rattle.std.proofs.Common.{◌≡◌, ◌≤◌, length, take, vec_capacity}
use Rattle.cox_fill_core.specs.Fill.{after_all, replies}
use Rattle.cox_fill_core.specs.Machine.{fill_of, needs_of, HasSameShape}
use Rattle.cox_fill_core.proofs.machine.Core.run.Given as goal

abbrev pub invariant-loop-event : goal.invariant-loop-event
invariant-loop-event l = record {
  replies : l.answers.items ≡ replies (needs_of l.fn.self) (fill_of l.fn.self) (take l.event-index l.events);
  state : fill_of l.self ≡ after_all (needs_of l.fn.self) (fill_of l.fn.self) (take l.event-index l.events);
  shape : HasSameShape l.fn.self l.self;
  room : length l.events ≤ vec_capacity l.answers;
  count : length l.answers.items ≡ l.event-index;
}
