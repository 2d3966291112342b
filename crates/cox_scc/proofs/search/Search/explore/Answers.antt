-- The path begins with the root.
use Rattle.std.proofs.Common.{ap, ◌∙◌, arith}
use Rattle.cox_scc.proofs.PassStates.{empty_stack, walk_root, enter_seen, enter_found}
use Rattle.cox_scc.proofs.search.Search.explore.Goals as goal

pub enter-requires : goal.enter-requires
enter-requires c = record {
  room = omega (arith, empty_stack _ _ c.requires.walk);
  vertex = c.requires.root;
  seen_count = c.requires.walk.seen_count;
  places_count = c.requires.walk.places_count;
}

pub loop-place-init : goal.loop-place-init
loop-place-init c =
    let enters = c.in_ok-enter.ensures.enters in record {
      walk = walk_root _ c.args.self.now c.enter.new.self c.args.root _ c.requires.walk c.requires.root c.requires.unseen enters
          c.in_ok-enter.ensures.begins (ap (λ z. z.items) c.enter.ensures.waiting ∙ c.requires.idle);
      seen = enter_seen _ _ _ enters;
      end = tt;
      found = enter_found _ _ _ enters;
    }
