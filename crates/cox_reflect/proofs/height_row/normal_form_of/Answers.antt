-- The normal form begins with the least left descent, and goes on with the normal form of the rest.
use Rattle.std.proofs.Common.{arith, lit<}
use Rattle.std.proofs.lemmas.Bool.{false≢true}
use Rattle.cox_base.specs.declared.limits.TheConstants.{MAX_LETTERS}
use Rattle.cox_base.specs.IntegerMatrix.{integer_matrix}
use Rattle.cox_reflect.proofs.FormsByDescents.{IsBegun-start, AreBegun-room, AreBegun-next, AreBegun-end}
use Rattle.cox_reflect.proofs.height_row.normal_form_of.Goals as goal

pub loop-s-init : goal.loop-s-init
loop-s-init g c = λ w a. rw c.new-form.ensures (IsBegun-start (integer_matrix c.args.g.now) w (g.H.HeightRow.values c.args.heights) a)

pub returns-in_err-put_first-clause-sure : goal.returns-in_err-put_first-clause-sure
returns-in_err-put_first-clause-sure g c = λ short.
    absurd (false≢true (c.in_err-put_first.ensures.sure
    (AreBegun-room c.args.g.now c.rank-rank.ensures.matrix c.rank-rank.result c.rank-rank.ensures.rank (g.H.HeightRow.values c.args.heights)
    (g.H.HeightRow.values c.loop-s.heights) c.loop-s.form.items c.loop-s.invariant g.H.HeightRow.sure c.in-Some.s short
    c.in-Some.ensures.least).0))

pub push-requires : goal.push-requires
push-requires g c =
    let room = AreBegun-room c.args.g.now c.rank-rank.ensures.matrix c.rank-rank.result c.rank-rank.ensures.rank
    (g.H.HeightRow.values c.args.heights) (g.H.HeightRow.values c.loop-s.heights) c.loop-s.form.items c.loop-s.invariant MAX_LETTERS
    c.in-Some.s c.requires.short c.in-Some.ensures.least
    in (lit< tt, omega (arith, room.1))

pub loop-s-smaller : goal.loop-s-smaller
loop-s-smaller g c =
    let room = AreBegun-room c.args.g.now c.rank-rank.ensures.matrix c.rank-rank.result c.rank-rank.ensures.rank
    (g.H.HeightRow.values c.args.heights) (g.H.HeightRow.values c.loop-s.heights) c.loop-s.form.items c.loop-s.invariant MAX_LETTERS
    c.in-Some.s c.requires.short c.in-Some.ensures.least
    in omega (arith, room.1, c.push.ensures.len)

pub loop-s-preserved : goal.loop-s-preserved
loop-s-preserved g c =
    rw c.push.ensures.items
    (AreBegun-next c.args.g.now c.rank-rank.ensures.matrix c.rank-rank.result c.rank-rank.ensures.rank (g.H.HeightRow.values c.args.heights)
    (g.H.HeightRow.values c.loop-s.heights) c.loop-s.form.items c.loop-s.invariant c.in-Some.s c.in-Some.ensures.least
    (g.H.HeightRow.values c.put_first.new.self) c.in_ok-put_first.ensures.heights)

pub returns-clause-form : goal.returns-clause-form
returns-clause-form g c =
    AreBegun-end c.args.g.now c.rank-rank.ensures.matrix c.rank-rank.result c.rank-rank.ensures.rank (g.H.HeightRow.values c.args.heights)
    (g.H.HeightRow.values c.loop-s.heights) c.loop-s.form.items c.loop-s.invariant c.in_default.ensures.least
