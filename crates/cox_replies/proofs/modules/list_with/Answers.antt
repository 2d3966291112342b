-- The proof of `list_with`.
use Rattle.std.proofs.Common.{◌≡◌, ◌<◌, ◌≤◌, [], true, false, ⊎_elim, sym, ◌∙◌, arith}
use Rattle.std.specs.Prelude.{nat_eq}
use Rattle.std.specs.List.{list_any}
use Rattle.std.proofs.lemmas.Bool.{cases_lt}
use Rattle.cox_replies.proofs.ListSearch.{any-found, any-none}
use Rattle.cox_replies.proofs.CellLists.{list-item}
use Rattle.cox_replies.proofs.modules.list_with.Goals as goal

pub unreachable-requires : goal.unreachable-requires
unreachable-requires c =
    c.loop-list.invariant c.requires.0 (omega (arith, c.requires.1, c.loop-list-test.false)) c.requires.2

pub loop-list-preserved : goal.loop-list-preserved
loop-list-preserved c = λ j l found.
    let at = c.loop-list.list-index in
    let none : list_any (λ y. nat_eq y c.args.i) c.list-item.result.items ≡ false =
    rw c.deref.ensures.value at (sym c.contains.ensures.value ∙ c.if-contains.false) in
    ⊎_elim (λ (less : j < at). c.loop-list.invariant j less found)
    (λ (more : at ≤ j).
    let same : j ≡ at = omega (arith, l, more) in
    any-none c.list-item.result.items c.args.i none
    (rw (same, list-item [] c.args.lists.now at c.list-item.result c.loop-list-test.true c.list-item.is) at found))
    (cases_lt j at)

pub returns-then-contains : goal.returns-then-contains
returns-then-contains c =
    let at = c.loop-list.list-index in
    let some : list_any (λ y. nat_eq y c.args.i) c.list-item.result.items ≡ true =
    rw c.deref.ensures.value at (sym c.contains.ensures.value ∙ c.if-contains.true) in (
      at,
      c.loop-list-test.true,
      c.deref-then-contains.ensures.value
          ∙ sym (list-item [] c.args.lists.now at c.list-item.result c.loop-list-test.true c.list-item.is),
      rw c.deref-then-contains.ensures.value (any-found c.list-item.result.items c.args.i some),
    )
