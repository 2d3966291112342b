-- One more edge leads to a vertex that was seen.
use Rattle.std.proofs.Common.{◌≡◌, ℕ, ◌+◌, ◌<◌, ◌≤◌, inl, inr, false, true, get_or, slice_index, ⊎_elim, subst, ◌∙◌, arith}
use Rattle.std.proofs.lemmas.Bool.{cases_lt}
use Rattle.cox_scc.proofs.search.follow.Goals as goal

pub loop-next-preserved : goal.loop-next-preserved
loop-next-preserved c =
    let i = c.loop-next.invariant in
    let last : (e : ℕ) → e < c.loop-next.next + 1 → c.loop-next.next ≤ e → c.loop-next.next ≡ e = λ e upto ge. omega arith in
    let place : ℕ = slice_index c.args.places.now (slice_index c.args.targets.now c.loop-next.next) in record {
      begun = omega (arith, i.begun);
      within = omega (arith, c.loop-next-test.true);
      was_seen = λ e from upto. ⊎_elim (λ lt. i.was_seen e from lt)
          (λ ge. subst (λ z. get_or c.args.seen.now (slice_index c.args.targets.now z) false ≡ true) (last e upto ge)
          c.if-seen-targets.true)
          (cases_lt e c.loop-next.next);
      below = omega (arith, c.min-low.ensures, i.below);
      least = λ e from upto. ⊎_elim (λ lt. omega (arith, c.min-low.ensures, i.least e from lt))
          (λ ge. subst (λ z. c.min-low.result ≤ slice_index c.args.places.now (slice_index c.args.targets.now z)) (last e upto ge)
          (omega (arith, c.min-low.ensures)))
          (cases_lt e c.loop-next.next);
      met = ⊎_elim
          (λ (lt : c.loop-next.low < place). let is : c.min-low.result ≡ c.loop-next.low = omega (arith, c.min-low.ensures) in
          ⊎_elim (λ own. inl (is ∙ own)) (λ met. inr (met.0, met.1, omega (arith, met.2), is ∙ met.3)) i.met)
          (λ (ge : place ≤ c.loop-next.low). inr (c.loop-next.next, i.begun, omega arith, omega (arith, c.min-low.ensures)))
          (cases_lt c.loop-next.low place);
    }
