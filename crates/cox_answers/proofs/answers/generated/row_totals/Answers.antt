-- The proof of `row_totals`.
use Rattle.std.proofs.Common.{◌≡◌, ◌<◌, ◌+◌, length, refl, sym, ap₂, ◌∙◌, arith}
use Rattle.cox_base.specs.IntegerMatrix.{integer_matrix}
use Rattle.cox_hecke.proofs.AllRows.{row_of, row_of-is}
use Rattle.cox_context.specs.Numbers.{word_at}
use Rattle.cox_context.proofs.PlacedWords.{contains-at}
use Rattle.cox_context.proofs.Shifting.{length-at}
use Rattle.cox_replies.specs.Totals.{both_totals}
use Rattle.cox_replies.proofs.RowTotals.{first_totals-more, first_totals-same, totals-is, kazhdan_lusztig-low}
use Rattle.cox_replies.proofs.RowTotals.{below_it, below_it-true, below_it-false, first-are}
use Rattle.cox_answers.proofs.answers.generated.row_totals.Goals as goal
use Rattle.cox_answers.proofs.answers.generated.row_totals.Goals.{in-Some, in_default}

pub of-requires : goal.of-requires
of-requires c = λ k above.
    let A = integer_matrix c.args.rows.now.elements.matrix in
    let members = c.args.rows.now.elements.members in
    let i = c.args.i in
    let closed = rw c.context.ensures.context at c.len.ensures.closed in
    let admissible = rw c.context.ensures.context at c.len.ensures.admissible in
    let short = closed.short (word_at members i) (contains-at members i c.requires.member) in
    kazhdan_lusztig-low A admissible (word_at members i) (word_at members c.loop-x.x) c.in-Some.polynomial
    (c.in-Some.ensures {u = tt}).value k
    (omega (arith, above, short, length-at A admissible members closed i c.requires.member))

pub loop-x-preserved : goal.loop-x-preserved
loop-x-preserved c =
    let A = integer_matrix c.args.rows.now.elements.matrix in
    let members = c.args.rows.now.elements.members in
    let i = c.args.i in
    let x = c.loop-x.x in
    let closed = rw c.context.ensures.context at c.len.ensures.closed in
    let admissible = rw c.context.ensures.context at c.len.ensures.admissible in
    let within : x < length members = omega (arith, c.requires.member) in
    let test = below_it A admissible members closed i c.requires.member in
    elim c.match-polynomial.branch [
      | in-Some o ↦
          let value = (o.in-Some.ensures {u = tt}).value in
          let below = (c.polynomial.ensures.exactly).0 (rw o.in-Some.is refl) in
          let passes = below_it-true A admissible members closed i c.requires.member (word_at members x) below in
          rw (o.totals-is, o.add.ensures) (record {
            few = rw o.of.ensures.one (omega (arith, c.loop-x.invariant.few));
            totals = λ w p is row.
                ap₂ both_totals (c.loop-x.invariant.totals w p is row)
                (totals-is A admissible (word_at members i) w (word_at members x) p o.in-Some.polynomial o.of.result is row value
                o.of.ensures.totals)
                ∙ sym (first_totals-more A w p test members x within passes);
          })
      | in_default o ↦
          let fails = below_it-false A admissible members closed i c.requires.member (word_at members x)
          (λ below. absurd (cc ((o.in_default.ensures {u = tt}).exactly.1 below))) in
          rw o.totals-is (record {
            few = omega (arith, c.loop-x.invariant.few);
            totals = λ w p is row. c.loop-x.invariant.totals w p is row ∙ sym (first_totals-same A w p test members x within fails);
          })
    ]

pub returns-clause-totals : goal.returns-clause-totals
returns-clause-totals c = λ w is.
    let A = integer_matrix c.args.rows.now.elements.matrix in
    let members = c.args.rows.now.elements.members in
    let i = c.args.i in
    let closed = rw c.context.ensures.context at c.len.ensures.closed in
    let admissible = rw c.context.ensures.context at c.len.ensures.admissible in
    let last : c.loop-x.x ≡ i + 1 = omega arith in
    let row = row_of-is A admissible w in
    first-are A admissible members closed i c.requires.member w is (row_of A admissible w) row c.loop-x.totals
    (rw last at (c.loop-x.invariant.totals w (row_of A admissible w) is row))
