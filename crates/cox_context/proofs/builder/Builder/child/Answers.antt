-- The child is the next member, or it is not below the top, or it was found before, or an element below it was not.
use Rattle.std.proofs.Common.{◌∷◌, ap, sym, ◌∙◌}
use Rattle.std.proofs.lemmas.Bool.{false≢true}
use Rattle.cox_context.specs.Numbers.{word_at}
use Rattle.cox_context.specs.Building.{Building}
use Rattle.cox_context.specs.Growth.{above, known}
use Rattle.cox_context.proofs.NextChild.{unfound-ascent, found-contains}
use Rattle.cox_context.proofs.BuilderTables.{builder-seen}
use Rattle.cox_context.proofs.builder.Builder.child.Goals as goal

pub returns-then-is_below_top-clause-next : goal.returns-then-is_below_top-clause-next
returns-then-is_below_top-clause-next c =
    let v = c.args.self.now
    in let matrix = ap (λ (v : Building). v.search.matrix) c.self.view_is
    in let members = ap (λ (v : Building). v.members) c.self.view_is
    in let b = builder-seen c.self.view_is c.self.invariant
    in let shift = rw (c.shifts-shifts.ensures, matrix, members) at c.shift.ensures
    in let up = unfound-ascent v.search.matrix b.matrix v.members b.closed c.args.s c.args.parent c.requires.letter c.requires.parent
    c.shift.result shift (sym c.is_some.ensures ∙ c.if-is_some.false)
    in let lower = rw (c.shifts-shifts.ensures, matrix, members) at c.in-Ok.ensures.lower
    in let top = ap (λ (v : Building). v.search.top) c.self.view_is
    in let meant = rw (c.shifts-shifts.ensures, matrix, members, top) at c.is_below_top.ensures
    in record {
      new = up.0;
      meant = (meant (c.args.s ∷ word_at v.members c.args.parent) c.args.s up.1.descent lower).0 c.if-is_below_top.true;
      numbers = lower;
    }

pub returns-else-is_below_top-clause-none : goal.returns-else-is_below_top-clause-none
returns-else-is_below_top-clause-none c =
    let v = c.args.self.now
    in let matrix = ap (λ (v : Building). v.search.matrix) c.self.view_is
    in let members = ap (λ (v : Building). v.members) c.self.view_is
    in let b = builder-seen c.self.view_is c.self.invariant
    in let shift = rw (c.shifts-shifts.ensures, matrix, members) at c.shift.ensures
    in let up = unfound-ascent v.search.matrix b.matrix v.members b.closed c.args.s c.args.parent c.requires.letter c.requires.parent
    c.shift.result shift (sym c.is_some.ensures ∙ c.if-is_some.false)
    in let lower = rw (c.shifts-shifts.ensures, matrix, members) at c.in-Ok.ensures.lower
    in let top = ap (λ (v : Building). v.search.top) c.self.view_is
    in let meant = rw (c.shifts-shifts.ensures, matrix, members, top) at c.is_below_top.ensures
    in above (λ is. false≢true (sym c.if-is_below_top.false
    ∙ (meant (c.args.s ∷ word_at v.members c.args.parent) c.args.s up.1.descent lower).1 is))

pub returns-then-is_some-clause-none : goal.returns-then-is_some-clause-none
returns-then-is_some-clause-none c =
    let matrix = ap (λ (v : Building). v.search.matrix) c.self.view_is
    in let members = ap (λ (v : Building). v.members) c.self.view_is
    in let shift = rw (c.shifts-shifts.ensures, matrix, members) at c.shift.ensures
    in known (found-contains c.args.self.now.members _ c.shift.result shift (sym c.is_some.ensures ∙ c.if-is_some.true))
