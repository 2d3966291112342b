-- The images under all letters; and the theorem.
use Rattle.std.proofs.Common.{◌≡◌, suc, ◌+◌, List, [], ◌∷◌, ◌++◌, length, ap, ◌∙◌, arith}
use Rattle.std.specs.Global.{Vec}
use Rattle.std.proofs.lemmas.List.{map-append}
use Rattle.cox_base.specs.IntegerMatrix.{integer_matrix}
use Rattle.cox_base.specs.Matrix.{CoxeterMatrix}
use Rattle.cox_base.specs.Admissible.{IsCoxeterMatrix}
use Rattle.cox_lemmas.proofs.PushedItems.{push-length}
use Rattle.cox_context.specs.Closed.{Elements}
use Rattle.cox_row.proofs.RisingNumbers.{rising-few}
use Rattle.cox_module.specs.declared.term.Term.{Term}
use Rattle.cox_module.specs.NumberedImages.{cell_words, tables_of, images_of, image_in}
use Rattle.cox_module.proofs.CellNumbers.{words-size}
use Rattle.cox_module.proofs.LetterTables.{letters-push, letters-all}
use Rattle.cox_module.proofs.Relations.{relations}
use Rattle.cox_module.proofs.module.cell_module.Goals as goal

pub operator-requires-clause-few : goal.operator-requires-clause-few
operator-requires-clause-few c =
    let few = rising-few (length c.args.graph.now.members) c.args.cell.now c.requires.rising c.requires.within
    in omega (arith, few, c.len-len.ensures.len, c.len-len.type_inv)

pub loop-r-preserved : goal.loop-r-preserved
loop-r-preserved c =
    let g = c.args.graph.now in
    let next : c.loop-r.r + 1 ≡ suc c.loop-r.r = omega arith in
    let pushed : tables_of c.push.new.self.items ≡ tables_of c.loop-r.operators.items ++ images_of c.in_ok-operator.field-0.items ∷ [] =
    ap tables_of c.in_ok-push.ensures.items
    ∙ map-append (λ (v : Vec (Vec Term)). images_of v.items) c.loop-r.operators.items (c.in_ok-operator.field-0 ∷ [])
    in record {
      size = omega (
        arith,
        ap (λ (list : List (List (List Term))). length list) pushed,
        push-length (tables_of c.loop-r.operators.items) (images_of c.in_ok-operator.field-0.items),
        c.loop-r.invariant.size,
      );
      each = rw (pushed, next) (letters-push (integer_matrix g.matrix) (cell_words g.members c.args.cell.now) (length c.args.cell.now)
          (tables_of c.loop-r.operators.items) (images_of c.in_ok-operator.field-0.items) c.loop-r.r c.loop-r.invariant.size
          c.loop-r.invariant.each (rw next at c.in_ok-operator.ensures));
    }

pub returns-clause-images : goal.returns-clause-images
returns-clause-images c =
    let g = c.args.graph.now in
    let rank : c.rank-rank.result ≡ g.matrix.rank = c.rank-rank.ensures.rank
    ∙ ap (λ (m : CoxeterMatrix). m.rank) (c.matrix.ensures ∙ ap (λ (e : Elements). e.matrix) c.context.ensures)
    in letters-all (integer_matrix g.matrix) (cell_words g.members c.args.cell.now) (tables_of c.loop-r.operators.items)
    (λ j l. rw (words-size g.members c.args.cell.now) (c.loop-r.invariant.each j (omega (arith, l, c.loop-r-test.false, rank))))

pub returns-clause-relations : goal.returns-clause-relations
returns-clause-relations c all is =
    let g = c.args.graph.now in
    let same : c.matrix.result.now ≡ g.matrix = c.matrix.ensures ∙ ap (λ (e : Elements). e.matrix) c.context.ensures in
    let rank : c.rank-rank.result ≡ g.matrix.rank = c.rank-rank.ensures.rank ∙ ap (λ (m : CoxeterMatrix). m.rank) same in
    let is_matrix : IsCoxeterMatrix g.matrix = rw same at c.rank-rank.ensures.matrix in
    rw (← words-size g.members c.args.cell.now)
    (relations g.matrix is_matrix g.members all (cell_words g.members c.args.cell.now) is (image_in (tables_of c.loop-r.operators.items))
    (letters-all (integer_matrix g.matrix) (cell_words g.members c.args.cell.now) (tables_of c.loop-r.operators.items)
    (λ j l. rw (words-size g.members c.args.cell.now) (c.loop-r.invariant.each j (omega (arith, l, c.loop-r-test.false, rank))))))
