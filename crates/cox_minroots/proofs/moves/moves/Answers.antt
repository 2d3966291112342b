-- One move more.
use Rattle.std.proofs.Common.{arith}
use Rattle.cox_minroots.proofs.Targets.{filling-start, filling-next}
use Rattle.cox_minroots.proofs.moves.moves.Goals as goal

pub loop-place-init : goal.loop-place-init
loop-place-init c = filling-start _ _ _ c.new-moves.ensures.items

pub loop-place-preserved : goal.loop-place-preserved
loop-place-preserved c =
    filling-next _ _ c.loop-place.moves.items c.loop-place.place c.move_of.result c.push.new.self.items
    (omega (arith, c.rank.ensures.rank, c.rank.ensures.limit)) c.loop-place.invariant c.in_ok-push.ensures.items c.move_of.ensures

pub returns-clause-moves : goal.returns-clause-moves
returns-clause-moves c = λ i s l ls.
    c.loop-place.invariant.move i s
    (omega (
      arith,
      l,
      ls.from_one,
      ls.to_rank,
      c.rank.ensures.rank,
      c.rank.ensures.limit,
      c.len-place-end.ensures,
      c.loop-place-test.false,
    )) ls
