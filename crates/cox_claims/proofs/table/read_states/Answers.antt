-- The same holds with one word more.
use Rattle.std.proofs.Common.{◌∙◌}
use Rattle.cox_claims.proofs.Ends.{states_more}
use Rattle.cox_claims.proofs.table.read_states.Goals as goal

pub loop-row-preserved : goal.loop-row-preserved
loop-row-preserved c = record {
  items = c.push_reserved.ensures.items ∙ states_more _ _ _ _ _ c.loop-row.invariant.items c.word.ensures c.state_from.ensures;
  room = c.push_reserved.ensures.capacity ∙ c.loop-row.invariant.room;
}
