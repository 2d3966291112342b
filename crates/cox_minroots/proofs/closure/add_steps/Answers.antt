-- The steps by one letter more are added.
use Rattle.std.proofs.Common.{arith}
use Rattle.cox_base.specs.Matrix.{IsLetter}
use Rattle.cox_minroots.proofs.Stepping.{stepping-start, stepping-turns, stepping-passed, stepping-added, stepping-lacks, on_err}
use Rattle.cox_minroots.proofs.closure.add_steps.Goals as goal
use Rattle.cox_minroots.proofs.closure.add_steps.Goals.{then-product-ge1+then-product-le-LONGEST+in_ok-insert, else-product-ge1}
use Rattle.cox_minroots.proofs.closure.add_steps.Goals.{else-product-ge1-via-then-product-ge1+else-product-le-LONGEST}
use Rattle.cox_minroots.proofs.closure.add_steps.Goals.{else-product-ge1-via-else-product-ge1}

pub loop-s-init : goal.loop-s-init
loop-s-init c = stepping-start _ _ _ c.requires.small c.requires.within

pub turned-requires : goal.turned-requires
turned-requires c =
    let letter : IsLetter c.args.g.now.rank c.loop-s.s
    = record { from_one = c.loop-s.auto.s; to_rank = omega (arith, c.loop-s-test.true, c.rank.ensures.rank) }
    in let pair = stepping-turns c.args.g.now c.rank.ensures.matrix (omega (arith, c.rank.ensures.rank, c.rank.ensures.limit))
    c.args.roots.now c.loop-s.roots c.args.i c.loop-s.s c.loop-s.invariant letter
    c.at-root.result c.at-root.ensures c.product-product.result c.product-product.ensures c.requires.few c.if-product-ge1.true
    c.if-product-le-LONGEST.true
    in record { letter = letter; root = pair.0; coroot = pair.1 }

pub returns-in_err-insert-clause-fault : goal.returns-in_err-insert-clause-fault
returns-in_err-insert-clause-fault c =
    let letter : IsLetter c.args.g.now.rank c.loop-s.s
    = record { from_one = c.loop-s.auto.s; to_rank = omega (arith, c.loop-s-test.true, c.rank.ensures.rank) }
    in on_err c.from_residual.result (stepping-lacks c.args.g.now c.rank.ensures.matrix
    (omega (arith, c.rank.ensures.rank, c.rank.ensures.limit)) c.args.roots.now c.loop-s.roots c.args.i c.loop-s.s c.loop-s.invariant
    letter c.at-root.result c.at-root.ensures c.product-product.result c.product-product.ensures c.requires.few c.turned.result
    c.turned.ensures.root c.turned.ensures.coroot c.if-product-ge1.true c.if-product-le-LONGEST.true c.in_err-insert.ensures.fault)

pub loop-s-preserved : goal.loop-s-preserved
loop-s-preserved c =
    let letter : IsLetter c.args.g.now.rank c.loop-s.s
    = record { from_one = c.loop-s.auto.s; to_rank = omega (arith, c.loop-s-test.true, c.rank.ensures.rank) }
    in elim c.if-product-ge1.branch [
      | then-product-ge1+then-product-le-LONGEST+in_ok-insert w ↦
          rw w.roots-is (stepping-added c.args.g.now c.rank.ensures.matrix (omega (arith, c.rank.ensures.rank, c.rank.ensures.limit))
          c.args.roots.now
          c.loop-s.roots c.args.i c.loop-s.s c.loop-s.invariant letter c.at-root.result c.at-root.ensures c.product-product.result
          c.product-product.ensures c.requires.few w.turned.result w.turned.ensures.root w.turned.ensures.coroot
          w.insert.new.self w.if-product-ge1.true w.if-product-le-LONGEST.true w.in_ok-insert.ensures.inserted)
      | else-product-ge1 w ↦ rw w.roots-is (elim w.else-product-ge1.branch [
        | else-product-ge1-via-then-product-ge1+else-product-le-LONGEST w' ↦
            stepping-passed c.args.g.now c.rank.ensures.matrix (omega (arith, c.rank.ensures.rank, c.rank.ensures.limit)) c.args.roots.now
            c.loop-s.roots c.args.i c.loop-s.s c.loop-s.invariant letter c.at-root.result c.at-root.ensures c.product-product.result
            c.product-product.ensures c.requires.few (λ m n. omega (arith, n, w'.if-product-le-LONGEST.false))
        | else-product-ge1-via-else-product-ge1 w' ↦ stepping-passed c.args.g.now c.rank.ensures.matrix
            (omega (arith, c.rank.ensures.rank, c.rank.ensures.limit)) c.args.roots.now
            c.loop-s.roots c.args.i c.loop-s.s c.loop-s.invariant letter c.at-root.result c.at-root.ensures c.product-product.result
            c.product-product.ensures c.requires.few (λ m n. omega (arith, m, w'.if-product-ge1.false))
      ])
    ]
