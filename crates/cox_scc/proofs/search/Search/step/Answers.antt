-- The edges of the vertex at the end of the path were followed, and the pass goes on where one led, or is done with the vertex.
use Rattle.std.proofs.Common.{ℕ, ◌<◌, ◌++◌, ◌∷◌, [], length, not, slice_index, subst, sym, ap, ◌∙◌, arith}
use Rattle.std.proofs.lemmas.List.{length_push}
use Rattle.std.specs.Prelude.{count_by}
use Rattle.cox_scc.proofs.Pigeonholes.{stack_room}
use Rattle.cox_scc.proofs.PassStates.{here_in, vertex_read, in_offsets, read_end, before_end, end_in, target_in, some_part, at_next}
use Rattle.cox_scc.proofs.PassStates.{HasFollowed, HasMet, HasFinished, has_met, walk_follow_read, walk-follows, walk_finish, walk_waits}
use Rattle.cox_scc.proofs.PassStates.{enter_seen, enter_count}
use Rattle.cox_scc.proofs.search.Search.step.Goals as goal
use Rattle.cox_scc.proofs.search.Search.step.Goals.{After-join}

pub index-requires : goal.index-requires
index-requires c = here_in _ _ _ c.args.here c.requires.walk

pub index-end-requires : goal.index-end-requires
index-end-requires c =
    let w = c.requires.walk in in_offsets _ _ _ _ w c.index.result.now (vertex_read _ _ _ _ w c.index.result.now c.index.ensures)

pub follow-followed-requires : goal.follow-followed-requires
follow-followed-requires c =
    let w = c.requires.walk in
    let end_is = read_end _ _ _ c.args.here w _ c.index-end.result.now (vertex_read _ _ _ _ w c.index.result.now c.index.ensures)
    c.index-end.ensures in record {
      from = omega (arith, end_is, before_end _ _ _ _ w);
      end = omega (
        arith,
        end_is,
        end_in _ _ _ _ w,
        ap length c.deref-3.ensures.value,
        c.args.adjacency.now.targets.ok.0,
      );
      targets = λ e from upto. subst (λ z. slice_index z e < length c.deref.result.now) (sym c.deref-3.ensures.value)
          (omega (
            arith,
            target_in _ _ _ _ w e from (omega (arith, end_is, upto)),
            ap length c.deref.ensures.value,
            w.seen_count,
            c.args.self.now.seen.ok.0,
          ));
      sized = omega (
        arith,
        ap length c.deref.ensures.value,
        ap length c.deref-2.ensures.value,
        w.seen_count,
        w.places_count,
        c.args.self.now.seen.ok.0,
        c.args.self.now.places.ok.0,
      );
    }

followed : (c : After-join) → HasFollowed c.args.adjacency.now c.args.self.now c.join.new.self c.args.self.now.waiting.items c.args.here
    c.index-end.result.now c.follow-followed.result
followed c = walk_follow_read c.args.adjacency.now c.args.self.now c.join.new.self c.args.self.now.waiting.items c.args.here
    c.follow-followed.result c.index.result.now c.index-end.result.now c.deref.result.now c.deref-2.result.now c.deref-3.result.now
    c.requires.walk c.index.ensures c.index-end.ensures c.deref.ensures.value c.deref-2.ensures.value c.deref-3.ensures.value
    c.follow-followed.ensures c.join.ensures.others c.join.ensures.joins

-- and where one edge more leads
met : (c : After-join) → c.follow-followed.result.next < c.index-end.result.now → (t : ℕ)
    → HasMet c.args.adjacency.now c.join.new.self c.follow-followed.result.next t
met c more t = has_met _ _ _ _ _ _ _ t (followed c) c.follow-followed.ensures.begun more

pub index-requires-then-followed-end : goal.index-requires-then-followed-end
index-requires-then-followed-end c = (met (goal.at.index-requires-then-followed-end c).After-join c.if-followed-end.true 0).in_targets

pub enter-requires : goal.enter-requires
enter-requires c =
    let f = followed (goal.at.enter-requires c).After-join in
    let m = met (goal.at.enter-requires c).After-join c.if-followed-end.true c.index-then-followed-end.result.now in
    let read = c.index-then-followed-end.ensures in record {
      room = omega (arith, c.args.adjacency.now.few, stack_room _ _ _ _ _ (m.below read) (m.unseen read) f.walk.placed);
      vertex = m.below read;
      seen_count = f.walk.seen_count;
      places_count = f.walk.places_count;
    }

pub returns-then-followed-end-clause-walk : goal.returns-then-followed-end-clause-walk
returns-then-followed-end-clause-walk c =
    let f = followed (goal.at.returns-then-followed-end-clause-walk c).After-join in
    walk_waits c.args.adjacency.now c.enter.new.self c.push.new.self _ (c.push.new.self.items ++ c.in_ok-there.there ∷ [])
    (ap (λ z. z ++ c.in_ok-there.there ∷ []) (ap (λ z. z.items ++ at_next c.args.here c.follow-followed.result ∷ [])
    (sym (c.in_ok-there.ensures.waiting ∙ f.waiting)) ∙ sym c.in_ok-push.ensures.items))
    (walk-follows _ _ _ c.enter.new.self _ _ _ _ c.in_ok-there.there c.index-then-followed-end.result.now f c.follow-followed.ensures.begun
    c.if-followed-end.true c.index-then-followed-end.ensures c.in_ok-there.ensures.enters c.in_ok-there.ensures.begins)

pub returns-then-followed-end-clause-seen : goal.returns-then-followed-end-clause-seen
returns-then-followed-end-clause-seen c =
    let f = followed (goal.at.returns-then-followed-end-clause-seen c).After-join in
    λ v is. f.stays v (enter_seen _ _ _ c.in_ok-there.ensures.enters v is)

pub returns-then-followed-end-clause-less : goal.returns-then-followed-end-clause-less
returns-then-followed-end-clause-less c =
    let f = followed (goal.at.returns-then-followed-end-clause-less c).After-join in
    let m = met (goal.at.returns-then-followed-end-clause-less c).After-join c.if-followed-end.true c.index-then-followed-end.result.now in
    let read = c.index-then-followed-end.ensures in
    let one_less = enter_count _ _ _ c.in_ok-there.ensures.enters (omega (arith, m.below read, f.walk.seen_count)) (m.unseen read) in
    omega (
      arith,
      one_less,
      ap (λ z. count_by not z.items) f.seen,
      length_push c.push.new.self.items c.in_ok-there.there,
      ap length c.in_ok-push.ensures.items,
      length_push c.enter.new.self.waiting.items (at_next c.args.here c.follow-followed.result),
      ap (λ z. length z.items) (c.in_ok-there.ensures.waiting ∙ f.waiting),
      length_push c.args.self.now.waiting.items c.args.here,
    )

pub finish-requires : goal.finish-requires
finish-requires c =
    let f = followed (goal.at.finish-requires c).After-join in record {
      some = some_part _ _ _ _ f.walk (omega (arith, f.end_is, c.if-followed-end.false));
      here = here_in _ _ _ _ f.walk;
      are_open = f.walk.placed.visited;
      vertices = λ p within. omega (arith, f.walk.placed.vertex p within, f.walk.places_count);
      sized = omega (arith, f.walk.classes_count, f.walk.places_count);
    }

-- the vertex at the place left the path
finished : (c : goal.After-pop) → HasFollowed c.args.adjacency.now c.args.self.now c.join.new.self c.args.self.now.waiting.items c.args.here
    c.index-end.result.now c.follow-followed.result
    → HasFinished c.args.adjacency.now c.join.new.self c.finish.new.self c.args.self.now.waiting.items
finished c f = walk_finish _ _ _ _ _ f.walk (omega (arith, f.end_is, c.if-followed-end.false)) c.finish.ensures

pub returns-clause-walk : goal.returns-clause-walk
returns-clause-walk c =
    let f = followed (goal.at.returns-clause-walk c).After-join in
    let done = finished c f in
    walk_waits _ c.finish.new.self c.pop.new.self _ _ (sym (ap (λ z. z.items) (done.waiting ∙ f.waiting)) ∙ c.pop.ensures.items) done.walk

pub returns-clause-seen : goal.returns-clause-seen
returns-clause-seen c =
    let f = followed (goal.at.returns-clause-seen c).After-join in
    λ v is. f.stays v ((finished c f).stays v is)

pub returns-clause-less : goal.returns-clause-less
returns-clause-less c =
    let f = followed (goal.at.returns-clause-less c).After-join in
    let done = finished c f in
    omega (
      arith,
      ap (λ z. count_by not z.items) (done.seen ∙ f.seen),
      ap (λ z. length z.items) (done.waiting ∙ f.waiting),
      ap length c.pop.ensures.items,
      length_push c.args.self.now.waiting.items c.args.here,
    )
