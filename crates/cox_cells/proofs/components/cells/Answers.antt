-- The classes of the steps are the cells.
use Rattle.std.proofs.Common.{◌≡◌, ℕ, ◌<◌, List, [], length, All, get_or, arith}
use Rattle.std.specs.Global.{Vec}
use Rattle.std.proofs.lemmas.List.{get_or_default}
use Rattle.std.proofs.lemmas.Result.{IfOk-weaker}
use Rattle.cox_base.specs.IntegerMatrix.{integer_matrix}
use Rattle.cox_base.specs.Members.{IsElement}
use Rattle.cox_base.specs.SortedList.{IsListOf}
use Rattle.cox_scc.specs.Graph.{edges_of}
use Rattle.cox_scc.specs.Reach.{HasEdge, AreClasses}
use Rattle.cox_cells.specs.Cells.{AreCells}
use Rattle.cox_cells.specs.NumberedCells.{AreClassLists, AreGathered, lists_of, list_at, words_of}
use Rattle.cox_cells.proofs.NumberedCells.{cells-are}
use Rattle.cox_cells.proofs.components.cells.Goals as goal

pub returns-clause-within : goal.returns-clause-within
returns-clause-within g c = IfOk-weaker c.gather.result _ _ (λ (cells : Vec (Vec ℕ)) lists. within cells.items lists.0 lists.1)
    c.gather.ensures
  where
    size : length c.deref.result.now ≡ length c.args.context.now.members
    size = omega (arith, c.deref.ensures.len, c.in_ok-classes.ensures.size, c.in_ok-steps.ensures.vertices)

    within : (cells : List (Vec ℕ)) (places : List ℕ) → AreGathered c.deref.result.now (length c.deref.result.now) places (lists_of cells)
        → All (All (λ i. i < length c.args.context.now.members)) (lists_of cells)
    within cells places h k d below m e inside =
        let same : get_or (lists_of cells) k d ≡ list_at (lists_of cells) k = get_or_default (lists_of cells) k d [] below in
        let size_of : m < length (list_at (lists_of cells) k) = rw same at inside in
        rw (same, get_or_default (list_at (lists_of cells) k) m e 0 size_of)
        (omega (arith, (h.each k below).before m size_of, size))

pub returns-clause-cells : goal.returns-clause-cells
returns-clause-cells g c = IfOk-weaker c.gather.result _ _ cells_of c.gather.ensures
  where
    cells_of : (cells : Vec (Vec ℕ)) → AreClassLists c.deref.result.now (lists_of cells.items)
        → IsListOf (IsElement (integer_matrix c.args.context.now.matrix)) c.args.context.now.members
        → AreCells c.args.kind (integer_matrix c.args.context.now.matrix) (words_of c.args.context.now.members cells.items)
    cells_of cells (places, h) all =
        let size : length c.deref.result.now ≡ length c.args.context.now.members =
        omega (arith, c.deref.ensures.len, c.in_ok-classes.ensures.size, c.in_ok-steps.ensures.vertices) in
        let classes : AreClasses (HasEdge (edges_of c.in_ok-steps.steps)) (length c.args.context.now.members) c.deref.result.now =
        rw (c.deref.ensures.value, ← c.in_ok-steps.ensures.vertices) c.in_ok-classes.ensures.same
        in cells-are c.args.kind c.args.context.now all (edges_of c.in_ok-steps.steps) c.in_ok-steps.ensures.steps c.deref.result.now places
        (lists_of cells.items) classes (rw size at h)
