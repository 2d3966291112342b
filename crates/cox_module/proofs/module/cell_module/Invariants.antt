-- The images under the letters so far.
use Rattle.std.proofs.Common.{◌≡◌, ℕ, suc, ◌<◌, [], length}
use Rattle.std.specs.Prelude.{slice_index_or}
use Rattle.cox_base.specs.IntegerMatrix.{integer_matrix}
use Rattle.cox_module.specs.NumberedImages.{AreImagesUnder, cell_words, tables_of}
use Rattle.cox_module.proofs.module.cell_module.Given as goal

abbrev pub invariant-loop-r : goal.invariant-loop-r
invariant-loop-r l = record {
  size : length (tables_of l.operators.items) ≡ l.r;
  each : (j : ℕ) → j < l.r
      → AreImagesUnder (integer_matrix l.graph.matrix) (cell_words l.graph.members l.cell) (suc j) (length l.cell)
      (slice_index_or (tables_of l.operators.items) j []);
}
