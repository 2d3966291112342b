-- The image of a small root is negative, out, or in the set.
use Rattle.std.proofs.Common.{arith}
use Rattle.cox_base.specs.Matrix.{IsLetter}
use Rattle.cox_base.specs.IntegerMatrix.{integer_matrix}
use Rattle.cox_reflect.proofs.Admissible.{IsAdmissible-integer_matrix}
use Rattle.cox_minroots.proofs.Targets.{move-negative, read-out, read-turns, read-there, read-found}
use Rattle.cox_minroots.proofs.moves.move_of.Goals as goal

pub returns-then-i-s : goal.returns-then-i-s
returns-then-i-s c =
    λ l. move-negative (integer_matrix c.args.g.now) (IsAdmissible-integer_matrix c.args.g.now c.rank.ensures.matrix)
    (omega (arith, c.rank.ensures.rank, c.rank.ensures.limit)) c.args.roots.now
    c.requires.closed c.args.i c.requires.within c.args.s (record { from_one = c.requires.letter; to_rank = l }) c.if-i-s.true

pub returns-then-product-gt-LONGEST : goal.returns-then-product-gt-LONGEST
returns-then-product-gt-LONGEST c =
    λ l. read-out c.args.g.now c.rank.ensures.matrix (omega (arith, c.rank.ensures.rank, c.rank.ensures.limit)) c.args.roots.now
    c.requires.closed c.requires.few
    c.args.i c.requires.within c.args.s
    (record { from_one = c.requires.letter; to_rank = omega (arith, c.if-from-rank.false, c.from.ensures, c.rank.ensures.rank) })
    c.at-root.result c.at-root.ensures c.product.result c.product.ensures c.if-product-gt-LONGEST.true

pub turned-requires : goal.turned-requires
turned-requires c =
    let letter : IsLetter c.args.g.now.rank c.args.s
    = record { from_one = c.requires.letter; to_rank = omega (arith, c.if-from-rank.false, c.from.ensures, c.rank.ensures.rank) }
    in let pair = read-turns c.args.g.now c.rank.ensures.matrix (omega (arith, c.rank.ensures.rank, c.rank.ensures.limit)) c.args.roots.now
    c.requires.closed c.requires.few
    c.args.i c.requires.within c.args.s letter
    c.at-root.result c.at-root.ensures c.product.result c.product.ensures c.if-i-s.false c.if-product-gt-LONGEST.false
    in record { letter = letter; root = pair.0; coroot = pair.1 }

pub unreachable-requires : goal.unreachable-requires
unreachable-requires c =
    c.in-None.ensures (read-there c.args.g.now c.rank.ensures.matrix (omega (arith, c.rank.ensures.rank, c.rank.ensures.limit))
    c.args.roots.now c.requires.closed c.requires.few
    c.args.i c.requires.within c.args.s
    (record { from_one = c.requires.letter; to_rank = omega (arith, c.if-from-rank.false, c.from.ensures, c.rank.ensures.rank) })
    c.at-root.result c.at-root.ensures c.product.result c.product.ensures c.turned.result c.turned.ensures.root
    c.turned.ensures.coroot c.if-i-s.false c.if-product-gt-LONGEST.false)

pub returns : goal.returns
returns c =
    λ l. read-found c.args.g.now c.rank.ensures.matrix (omega (arith, c.rank.ensures.rank, c.rank.ensures.limit)) c.args.roots.now
    c.requires.closed c.requires.few
    c.args.i c.requires.within c.args.s
    (record { from_one = c.requires.letter; to_rank = omega (arith, c.if-from-rank.false, c.from.ensures, c.rank.ensures.rank) })
    c.at-root.result c.at-root.ensures c.product.result c.product.ensures c.turned.result c.turned.ensures.root
    c.turned.ensures.coroot c.if-i-s.false c.if-product-gt-LONGEST.false
    c.in-Some.number c.in-Some.ensures
