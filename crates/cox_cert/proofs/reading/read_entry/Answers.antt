-- The proof of `read_entry`.
use Rattle.std.proofs.Common.{ℕ, arith, ap, length}
use Rattle.cox_cert.proofs.EntryLines.{entry_line-parts, HasWord-cut, entries-read}
use Rattle.cox_cert.proofs.reading.read_entry.Goals as goal

pub returns-in_default : goal.returns-in_default
returns-in_default c = λ entry is same.
    let parts = entry_line-parts c.args.line.now c.cut.result.0.now c.cut.result.1.now c.args.rank entry
    c.cut.ensures.front c.cut.ensures.back
    c.requires.rank is same in
    c.in_default.ensures {u = tt} entry.0 is.word parts.front

pub returns-in_default-split_first : goal.returns-in_default-split_first
returns-in_default-split_first c = λ entry is same.
    let parts = entry_line-parts c.args.line.now c.cut.result.0.now c.cut.result.1.now c.args.rank entry
    c.cut.ensures.front c.cut.ensures.back
    c.requires.rank is same in
    omega (arith, ap (length {A = ℕ}) parts.back, (c.in_default-split_first.ensures {u = tt}).cases)

pub returns : goal.returns
returns c =
    let word = c.in-Some.ensures {u = tt} in
    let split = (c.in-Some-split_first.ensures {u = tt}).cases.0 in
    let has = HasWord-cut c.args.line.now c.cut.result.0.now c.cut.result.1.now c.in-Some-split_first.polynomial.now _ c.args.rank
    c.in-Some.word c.cut.ensures.front c.cut.ensures.back split c.requires.rank word.0 word.1 in
    entries-read c.args.line.now c.in-Some-split_first.polynomial.now c.args.rank c.in-Some.word c.entry_with.result has
    c.entry_with.ensures
