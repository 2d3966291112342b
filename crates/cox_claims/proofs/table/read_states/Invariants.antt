-- The states so far are what the words say, and there is room for the rest.
use Rattle.std.proofs.Common.{◌≡◌, map, take, vec_capacity}
use Rattle.std.specs.Slots.{slots_items}
use Rattle.cox_claims.specs.Rule.{state_of}
use Rattle.cox_claims.proofs.table.read_states.Given as goal

abbrev pub invariant-loop-row : goal.invariant-loop-row
invariant-loop-row l = record {
  items : l.states.items ≡ map state_of (take l.row (slots_items l.closed.words));
  room : vec_capacity l.states ≡ vec_capacity l.initial.states;
}
