-- The proof of `Coxeter::named`.
use Rattle.std.proofs.Common.{◌≡◌, ◌+◌, ◌-◌, ◌∙◌, arith, rules, ap, sym, length}
use Rattle.cox_base.specs.NamedType.{rows_above, type_label}
use Rattle.cox_base.proofs.LabelPlaces.{labels_before-small, labels_before-next}
use Rattle.cox_base.proofs.LabelRows.{length-rows_above, rows_above-next, type_matrix-IsCoxeterMatrix, type_matrix-rows}
use Rattle.cox_base.proofs.coxeter.Coxeter.named.Goals as goal

pub loop-s-init : goal.loop-s-init
unfolding rows_above
loop-s-init c = search rules

pub push_row-requires-clause-room : goal.push_row-requires-clause-room
push_row-requires-clause-room c =
    let rank = c.rank_of-rank.result in
    let s = c.loop-s.s in
    let count = ap length c.loop-s.invariant ∙ length-rows_above rank (type_label c.args.letter c.args.n) (s - 1) in
    omega (arith, count, labels_before-next rank s (omega arith), labels_before-small rank s (omega arith) (omega arith))

pub loop-s-preserved : goal.loop-s-preserved
loop-s-preserved c =
    let s = c.loop-s.s in
    let next : s + 1 - 1 ≡ s = omega arith in
    rw (
      next,
      c.push_row.ensures,
      c.loop-s.invariant,
      ← rows_above-next c.rank_of-rank.result (type_label c.args.letter c.args.n) s
          (omega arith),
    )

pub from_labels-requires-clause-matrix : goal.from_labels-requires-clause-matrix
from_labels-requires-clause-matrix c =
    let rank = c.rank_of-rank in
    rw (type_matrix-rows c.args.letter c.args.n rank.result c.loop-s.s c.loop-s.labels.items rank.ensures.rank rank.ensures.some
    (omega arith) c.loop-s.invariant)
    (type_matrix-IsCoxeterMatrix c.args.letter c.args.n (sym c.has_type.ensures ∙ c.if-not-has_type.false))

pub returns-clause-matrix : goal.returns-clause-matrix
returns-clause-matrix c =
    let rank = c.rank_of-rank in
    c.from_labels.ensures
    ∙ type_matrix-rows c.args.letter c.args.n rank.result c.loop-s.s c.loop-s.labels.items rank.ensures.rank rank.ensures.some
    (omega arith) c.loop-s.invariant
