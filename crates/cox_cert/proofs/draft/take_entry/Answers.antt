-- An entry that is read is one more entry of the certificate; a line of no entry goes on with none.
use Rattle.std.proofs.Common.{inl, inr, sym, ◌∙◌, arith}
use Rattle.cox_cert.proofs.NextLines.{entries-more, entries-none}
use Rattle.cox_cert.proofs.draft.take_entry.Goals as goal

pub returns-in_ok-with_small-in-Small : goal.returns-in_ok-with_small-in-Small
returns-in_ok-with_small-in-Small c = λ lines h.
    let entry = rw (c.in-Small.is, c.rank.ensures.rank) at c.in_ok-word.ensures in
    let e = c.in_ok-with_small-in-Small.ensures in
    entries-more c.args.draft _ c.in-Small.word _ c.args.line.now lines h (omega (arith, c.requires.room, c.args.draft.words.ok.0))
    e.group e.top e.count e.words entry.0 entry.2 (λ l. inl (sym e.large ∙ l)) (λ l. (sym e.large ∙ l, entry.1, e.polynomials))

pub returns-in_ok-with_large-in-Large : goal.returns-in_ok-with_large-in-Large
returns-in_ok-with_large-in-Large c = λ lines h.
    let entry = rw (c.in-Large.is, c.rank.ensures.rank) at c.in_ok-word.ensures in
    let e = c.in_ok-with_large-in-Large.ensures in
    entries-more c.args.draft _ c.in-Large.word entry.1.0 c.args.line.now lines h (omega (arith, c.requires.room, c.args.draft.words.ok.0))
    e.group e.top e.count e.words entry.1.1 entry.1.3 (λ l. inr entry.1.2) (λ l. absurd (cc (l, e.large)))

pub returns-in-Foreign : goal.returns-in-Foreign
returns-in-Foreign c = λ lines h.
    entries-none c.args.draft c.args.line.now lines h (omega (arith, c.requires.room, c.args.draft.words.ok.0))
    (rw (c.in-Foreign.is, c.rank.ensures.rank) at c.in_ok-word.ensures)
