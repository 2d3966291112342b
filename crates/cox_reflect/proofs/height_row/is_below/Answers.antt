-- Each turn of the loop is a lemma of OrderByLifting; at the end the identity alone is below.
use Rattle.std.proofs.Common.{sym, arith}
use Rattle.std.proofs.lemmas.Bool.{false≢true}
use Rattle.std.proofs.lemmas.List.{drop_all}
use Rattle.cox_base.specs.IntegerMatrix.{integer_matrix}
use Rattle.cox_reflect.proofs.Admissible.{IsAdmissible-integer_matrix}
use Rattle.cox_reflect.proofs.OrderByLifting.{IsLifted-answer, turn-room, turn-down, turn-up}
use Rattle.cox_reflect.proofs.height_row.is_below.Goals as goal
use Rattle.cox_reflect.proofs.height_row.is_below.Goals.{then-is_negative+in_ok-put_first, else-is_negative}

pub loop-s-init : goal.loop-s-init
loop-s-init g c = record {
  each = λ y a. record { left = y; heights_of = a; settles = (λ b. b, λ b. b) };
  short = λ n short. short;
}

pub returns-in_err-put_first-clause-sure : goal.returns-in_err-put_first-clause-sure
returns-in_err-put_first-clause-sure g c = λ short.
    absurd (false≢true (c.in_err-put_first.ensures.sure
    (turn-room c.args.g.now c.rank-rank.ensures.matrix c.args.form.now c.requires.letters c.requires.reduced c.loop-s.s-index
    c.loop-s-test.true (g.H.HeightRow.values c.args.heights) (g.H.HeightRow.values c.loop-s.heights) c.loop-s.invariant c.is_negative.result
    c.is_negative.ensures c.if-is_negative.true g.H.HeightRow.sure short)))

pub loop-s-preserved : goal.loop-s-preserved
loop-s-preserved g c = elim c.if-is_negative.branch [
  | then-is_negative+in_ok-put_first w ↦ rw w.heights-is
      (turn-down c.args.g.now c.rank-rank.ensures.matrix c.args.form.now c.requires.letters c.requires.reduced c.loop-s.s-index
      c.loop-s-test.true (g.H.HeightRow.values c.args.heights) (g.H.HeightRow.values c.loop-s.heights) c.loop-s.invariant
      c.is_negative.result
      c.is_negative.ensures w.if-is_negative.true (g.H.HeightRow.values w.put_first.new.self) w.in_ok-put_first.ensures.heights)
  | else-is_negative w ↦ rw w.heights-is
      (turn-up c.args.g.now c.rank-rank.ensures.matrix c.args.form.now c.requires.letters c.requires.reduced c.loop-s.s-index
      c.loop-s-test.true (g.H.HeightRow.values c.args.heights) (g.H.HeightRow.values c.loop-s.heights) c.loop-s.invariant
      c.is_negative.result
      c.is_negative.ensures w.if-is_negative.false)
]

pub returns-clause-below : goal.returns-clause-below
returns-clause-below g c = λ y a.
    let p = IsAdmissible-integer_matrix c.args.g.now c.rank-rank.ensures.matrix
    in let l = c.loop-s.invariant.each y a
    in IsLifted-answer (integer_matrix c.args.g.now) p y c.args.form.now _ (g.H.HeightRow.values c.loop-s.heights) l
    (drop_all c.loop-s.s-index c.args.form.now (omega arith)) c.least_descent.result c.is_none.result
    (c.least_descent.ensures.least (integer_matrix c.args.g.now) l.left p (sym c.rank-rank.ensures.rank) l.heights_of) c.is_none.ensures
