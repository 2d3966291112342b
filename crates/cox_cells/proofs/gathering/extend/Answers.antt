-- The list at the place is longer by the member.
use Rattle.std.proofs.Common.{◌≡◌, ℕ, ◌++◌, ◌∷◌, [], List, slice_set, ap, sym, ◌∙◌}
use Rattle.std.specs.Global.{Vec}
use Rattle.std.proofs.lemmas.List.{map-set, get_or-map}
use Rattle.cox_cells.specs.NumberedCells.{lists_of, list_at}
use Rattle.cox_cells.proofs.gathering.extend.Goals as goal

pub returns : goal.returns
returns c =
    let listed : list_at (lists_of c.args.cells.now.items) c.args.place ≡ c.index_mut.result.now.items =
    get_or-map (λ (cell : Vec ℕ). cell.items) c.args.cells.now.items c.args.place c.index_mut.result.now [] c.requires
    ∙ ap (λ (cell : Vec ℕ). cell.items) (sym c.index_mut.ensures.value)
    in map-set (λ (cell : Vec ℕ). cell.items) c.args.cells.now.items c.args.place c.push.new.self
    ∙ ap (λ (list : List ℕ). slice_set (lists_of c.args.cells.now.items) c.args.place list)
    (c.in_ok-push.ensures.items ∙ ap (λ (list : List ℕ). list ++ c.args.i ∷ []) (sym listed))
