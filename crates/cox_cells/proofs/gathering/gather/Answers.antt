-- Each vertex begins the list of its class, or comes to its end.
use Rattle.std.proofs.Common.{◌≡◌, ℕ, ◌+◌, ◌<◌, [], ◌∷◌, ◌++◌, suc, length, slice_index, slice_set, ap, ◌∙◌, arith}
use Rattle.std.specs.Global.{Vec}
use Rattle.std.proofs.lemmas.List.{length-map, get_or_read}
use Rattle.cox_row.specs.Rising.{number_at}
use Rattle.cox_cells.specs.NumberedCells.{AreGathered, lists_of}
use Rattle.cox_cells.proofs.ClassLists.{lists-few, gathered-begin, gathered-extend}
use Rattle.cox_cells.proofs.gathering.gather.Goals as goal
use Rattle.cox_cells.proofs.gathering.gather.Goals.{then-class-i+in_ok-begin, else-class-i+in_ok-extend}

pub begin-requires-clause-room : goal.begin-requires-clause-room
begin-requires-clause-room c =
    let few = lists-few (length c.args.classes.now) c.args.classes.now c.requires.least c.loop-i.i c.loop-i-test.true c.loop-i.places.items
    (lists_of c.loop-i.cells.items) c.loop-i.invariant.gathered
    in omega (arith, few, length-map c.loop-i.cells.items (λ (cell : Vec ℕ). cell.items), c.loop-i-test.true, c.requires.few)

pub loop-i-preserved : goal.loop-i-preserved
loop-i-preserved c =
    let next : c.loop-i.i + 1 ≡ suc c.loop-i.i = omega arith in
    elim c.if-class-i.branch [
      | then-class-i+in_ok-begin w ↦
          let l : c.loop-i.i < length c.loop-i.places.items = omega (arith, c.loop-i.invariant.size, c.loop-i-test.true) in
          let h : AreGathered c.args.classes.now (suc c.loop-i.i)
          (slice_set c.loop-i.places.items c.loop-i.i (length (lists_of c.loop-i.cells.items)))
          (lists_of c.loop-i.cells.items ++ (c.loop-i.i ∷ []) ∷ []) =
          gathered-begin (length c.args.classes.now) c.args.classes.now c.requires.least c.loop-i.i c.loop-i-test.true c.loop-i.places.items
          (lists_of c.loop-i.cells.items) c.loop-i.invariant.gathered w.if-class-i.true l
          in record {
            gathered = rw (
              next,
              w.cells-is,
              w.places-is,
              w.in_ok-begin.ensures.lists,
              w.in_ok-begin.ensures.places,
              ← length-map c.loop-i.cells.items (λ (cell : Vec ℕ). cell.items),
            ) h;
            size = ap (λ (v : Vec ℕ). length v.items) w.places-is ∙ w.begin.ensures.size ∙ c.loop-i.invariant.size;
          }
      | else-class-i+in_ok-extend w ↦
          let read : w.index.result.now ≡ number_at c.loop-i.places.items (slice_index c.args.classes.now c.loop-i.i) =
          get_or_read c.loop-i.places.items (slice_index c.args.classes.now c.loop-i.i) w.index.result.now
          (let vertex = (c.requires.least c.loop-i.i c.loop-i-test.true).vertex in omega (arith, vertex, c.loop-i.invariant.size))
          w.index.ensures 0 in
          record {
            gathered = rw (next, w.cells-is, w.places-is, w.in_ok-extend.ensures, read)
                (gathered-extend (length c.args.classes.now) c.args.classes.now c.requires.least c.loop-i.i c.loop-i-test.true
                c.loop-i.places.items
                (lists_of c.loop-i.cells.items) c.loop-i.invariant.gathered w.if-class-i.false);
            size = ap (λ (v : Vec ℕ). length v.items) w.places-is ∙ c.loop-i.invariant.size;
          }
    ]
