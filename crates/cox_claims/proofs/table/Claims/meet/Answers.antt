-- The meeting is allowed, and nothing that was seen is forgotten.
use Rattle.std.proofs.Common.{subst, sym, ap}
use Rattle.cox_claims.specs.Knowledge.{SeesAll}
use Rattle.cox_claims.proofs.Allowed.{join_allowed}
use Rattle.cox_claims.proofs.Views.{joined_sees_first, joined_sees_second}
use Rattle.cox_claims.proofs.table.Claims.meet.Goals as goal

pub join_seat-requires : goal.join_seat-requires
join_seat-requires c =
    let claims = c.args.self.now in
    let seat = c.args.seat.now in
    let other = c.args.other in
    let words = claims.a_word_each in
    let key = claims.keyed in (
      c.requires.own.0,
      c.requires.own.1,
      other.bare,
      rw words claims.some_rows,
      rw key (join_allowed claims.rows _ _ seat.seat.me.0 other.seat.me.0 seat.live other.live c.requires.idle),
    )

pub returns-clause-seen : goal.returns-clause-seen
returns-clause-seen c =
    let v = c.args.seat.now.seat.me.0 in
    let w = c.args.other.seat.me.0 in
    let is = ap (λ m. m.0) c.join_seat.ensures.2 in (
      subst (SeesAll v) (sym is) (joined_sees_first v w),
      subst (SeesAll w) (sym is) (joined_sees_second v w),
    )
