-- The next letter leads from the last prefix to a longer one.
use Rattle.std.proofs.Common.{◌+◌, ◌<◌, length, take, ap, arith}
use Rattle.cox_base.specs.IntegerMatrix.{integer_matrix}
use Rattle.cox_rowcheck.specs.Prefixes.{IsColumnOf}
use Rattle.cox_rowcheck.proofs.WordColumns.{LeadsOn, leads-on}
use Rattle.cox_rowcheck.proofs.PrefixColumns.{prefix-at, prefix-next, prefixes-more}
use Rattle.cox_rowcheck.proofs.prefixes.climb.Goals as goal
use Rattle.cox_rowcheck.proofs.prefixes.climb.Goals.{After-index}

-- the column of the letters so far, behind which the word has another one
here : (c : After-index) → IsColumnOf (integer_matrix c.args.ctx.now.matrix) c.args.ctx.now.members (take c.loop-i.i c.args.word.now.items)
    c.index.result.now
here c = prefix-at (integer_matrix c.args.ctx.now.matrix) c.args.ctx.now.members c.args.word.now.items c.loop-i.stack.items c.loop-i.i
    c.index.result.now c.loop-i.invariant.prefixes (omega (arith, c.loop-i.invariant.count)) c.index.ensures

within : (c : After-index) → c.loop-i.i < length c.args.word.now.items
within c = omega (arith, ap length c.as_slice-letters.ensures.value)

on : (c : After-index) → LeadsOn (integer_matrix c.args.ctx.now.matrix) c.args.ctx.now.members c.args.word.now.items c.loop-i.i
    c.index.result.now.number
on c = leads-on (integer_matrix c.args.ctx.now.matrix) c.len-len.ensures.admissible c.args.ctx.now.members c.len-len.ensures.closed
    c.args.word.now.items c.requires.member c.loop-i.i (within c) c.index.result.now.number (here c).named (here c).inside

pub longer-requires-clause-letter : goal.longer-requires-clause-letter
longer-requires-clause-letter c =
    rw c.as_slice-letters.ensures.value (on (goal.at.longer-requires-clause-letter c).After-index).letter

pub longer-requires-clause-ascent : goal.longer-requires-clause-ascent
longer-requires-clause-ascent c =
    rw c.as_slice-letters.ensures.value (on (goal.at.longer-requires-clause-ascent c).After-index).ascent

pub longer-requires-clause-short : goal.longer-requires-clause-short
longer-requires-clause-short c =
    let before = (goal.at.longer-requires-clause-short c).After-index
    in omega (arith, c.requires.short, within before, (on before).short)

pub longer-requires-clause-member : goal.longer-requires-clause-member
longer-requires-clause-member c =
    rw c.as_slice-letters.ensures.value (on (goal.at.longer-requires-clause-member c).After-index).there

pub loop-i-preserved : goal.loop-i-preserved
loop-i-preserved c =
    let before = (goal.at.loop-i-preserved c).After-index
    in let pushed = c.in_ok-push.ensures {u = tt}
    in let next = rw c.as_slice-letters.ensures.value at (c.in_ok-next.ensures {u = tt})
    in record {
      prefixes = rw pushed.items (prefixes-more (integer_matrix c.args.ctx.now.matrix) c.args.ctx.now.members c.args.word.now.items
          c.loop-i.stack.items c.in_ok-next.next (c.loop-i.i + 1) c.loop-i.invariant.prefixes c.loop-i.invariant.count
          (omega (arith, within before))
          (prefix-next (integer_matrix c.args.ctx.now.matrix) c.args.ctx.now.members c.len-len.ensures.admissible c.len-len.ensures.closed
          c.args.word.now.items c.loop-i.i c.index.result.now.number (within before) (here before).named c.in_ok-next.next next));
      count = omega (arith, c.loop-i.invariant.count, pushed.len);
    }
