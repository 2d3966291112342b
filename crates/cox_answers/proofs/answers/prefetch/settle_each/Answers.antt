-- The proof of `settle_each`.
use Rattle.std.proofs.Common.{◌≡◌, sym, ◌∙◌, arith, ⊎_elim}
use Rattle.std.proofs.lemmas.Bool.{cases_eq}
use Rattle.cox_row.specs.Rising.{number_at}
use Rattle.cox_answers.proofs.KnownRows.{more-ensured}
use Rattle.cox_answers.proofs.SettledRows.{still-made, made-now}
use Rattle.cox_answers.proofs.answers.prefetch.settle_each.Goals as goal

pub each-preserved : goal.each-preserved
each-preserved c =
    let old = c.each.rows in
    let new = c.ensure-made.new.self in
    let made = c.ensure-made.ensures in
    let numbers = c.args.numbers.now in
    let last = c.each.i-index in record {
      more = more-ensured c.args.rows.now old new _ c.each.invariant.more made.rows;
      settled = λ k within. ⊎_elim
          (λ (same : k ≡ last). rw same (made-now old new made.rows.elements made.rows.limit made.rows.kept (number_at numbers last)
          c.ensure-made.result (sym c.ran_out.ensures ∙ c.if-ran_out.false) made.all made.fault))
          (λ (other : k ≡ last → ⊥). still-made old new made.rows.elements made.rows.limit made.rows.kept (number_at numbers k)
          (c.each.invariant.settled k (omega (arith, within, other))))
          (cases_eq k last);
    }
