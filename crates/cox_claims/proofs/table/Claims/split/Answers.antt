-- The split is allowed.
use Rattle.cox_claims.proofs.Allowed.{split_allowed}
use Rattle.cox_claims.proofs.table.Claims.split.Goals as goal

pub split_seat-other-requires : goal.split_seat-other-requires
split_seat-other-requires c =
    let claims = c.args.self.now in
    let seat = c.args.seat.now in
    let words = claims.a_word_each in
    let key = claims.keyed in (
      c.requires,
      rw words claims.some_rows,
      rw key (split_allowed claims.rows _ seat.seat.me.0 seat.live),
    )
