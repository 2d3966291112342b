-- One letter more.
use Rattle.std.proofs.Common.{rules, ◌≡◌, ◌<◌, ◌-◌, ◌+◌, [], length, drop, arith, refl, ◌∙◌}
use Rattle.std.proofs.lemmas.List.{drop_all}
use Rattle.std.specs.Prelude.{IfErr}
use Rattle.cox_base.specs.IntegerMatrix.{integer_matrix}
use Rattle.cox_context.specs.FaultMeaning.{IsOverfull}
use Rattle.cox_context.specs.Spread.{listed_words, AreAppended, AreFound}
use Rattle.cox_context.specs.Union.{IsInUnion}
use Rattle.cox_context.proofs.AppendedEnds.{end-longer, appended-none, appended-trans, appended-more, appended-union}
use Rattle.cox_context.proofs.Spreading.{found-identity}
use Rattle.cox_context.proofs.UnionSizes.{overfull-end}
use Rattle.cox_context.proofs.appending.append_by_lists.Goals as goal

pub loop-done-init : goal.loop-done-init
loop-done-init c =
    let A = integer_matrix c.args.context.now.matrix
    in let top = c.args.top.now.items
    in let none : drop (length top - 0) top ≡ [] = drop_all (length top - 0) top (omega arith)
    in record {
      matrix = refl;
      appended = appended-none A (drop (length top - 0) top) c.args.context.now.members;
      few = c.requires.room;
      marked = c.in-Ok.ensures.marked;
      found = rw (none, c.in-Ok.ensures.found) (found-identity A c.len-count.ensures.admissible);
    }

pub step-requires-clause-found : goal.step-requires-clause-found
step-requires-clause-found c =
    let e : c.len-letters.result - 1 - c.loop-done.done + 1 ≡ length c.args.top.now.items - c.loop-done.done
    = omega (arith, c.len-letters.ensures.value, c.loop-done-test.true)
    in rw (e, c.loop-done.invariant.matrix) c.loop-done.invariant.found

pub loop-done-preserved : goal.loop-done-preserved
loop-done-preserved c =
    let M = c.args.context.now.matrix
    in let A = integer_matrix M
    in let top = c.args.top.now.items
    in let h = c.loop-done.invariant
    in let at = length top - (c.loop-done.done + 1)
    in let less : at < length top = omega (arith, c.len-letters.ensures.value, c.loop-done-test.true)
    in let e : c.len-letters.result - 1 - c.loop-done.done ≡ length top - (c.loop-done.done + 1)
    = omega (arith, c.len-letters.ensures.value)
    in let f : length top - c.loop-done.done ≡ at + 1 = omega (arith, c.len-letters.ensures.value, c.loop-done-test.true)
    in let before : AreAppended A (drop (at + 1) top) c.args.context.now.members c.loop-done.context.members = rw f at h.appended
    in let step : AreAppended A (drop at top) c.loop-done.context.members c.step.new.context.members
    = rw (h.matrix, e) at c.step.ensures.appended
    in record {
      matrix = c.step.ensures.matrix ∙ h.matrix;
      appended = appended-trans A (drop at top) c.args.context.now.members c.loop-done.context.members c.step.new.context.members
          (appended-more A (drop (at + 1) top) (drop at top) c.args.context.now.members c.loop-done.context.members
          (end-longer M c.len-count.ensures.admissible top c.requires.top at less) before) step;
      few = c.step.ensures.few;
      marked = c.in_ok-step.ensures.marked;
      found = rw (h.matrix, e) at c.in_ok-step.ensures.found;
    }

pub returns-clause-members : goal.returns-clause-members
returns-clause-members c =
    let A = integer_matrix c.args.context.now.matrix
    in let top = c.args.top.now.items
    in let h = c.loop-done.invariant
    in let e : length top - c.loop-done.done ≡ 0 = omega (arith, c.len-letters.ensures.value, c.loop-done-test.false)
    in let appended : AreAppended A top c.args.context.now.members c.loop-done.context.members = rw e at h.appended
    in let found : AreFound A top (listed_words c.loop-done.context.members c.loop-done.found.numbers.items) = rw e at h.found
    in appended-union A c.len-count.ensures.admissible c.args.context.now.members c.loop-done.context.members
    (rw h.matrix at c.len-count-2.ensures.closed) top appended c.loop-done.found.marks.items c.loop-done.found.numbers.items h.marked found

pub returns-in_err-step-clause-refused : goal.returns-in_err-step-clause-refused
returns-in_err-step-clause-refused c =
    let A = integer_matrix c.args.context.now.matrix
    in let top = c.args.top.now.items
    in let h = c.loop-done.invariant
    in let at = c.len-letters.result - 1 - c.loop-done.done
    in let told : IfErr c.from_residual.result (IsOverfull (IsInUnion (integer_matrix c.loop-done.context.matrix) (drop at top)
    c.loop-done.context.members) c.args.limit) = search rules
    in overfull-end A c.len-count.ensures.admissible top c.requires.top.reduced at (length top - c.loop-done.done)
    c.args.context.now.members c.loop-done.context.members h.appended c.args.limit c.from_residual.result (rw h.matrix at told)
