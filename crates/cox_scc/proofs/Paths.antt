-- The places of the vertices of a path, with a last vertex and without it.
use Rattle.std.proofs.Common.{◌≡◌, List, [], ◌∷◌, ◌++◌, Contains, ◌∙◌, ap}
use Rattle.std.proofs.lemmas.List.{map_push, get_or-map, length-map}
use Rattle.cox_scc.specs.declared.search.Waiting.{Waiting}
use Rattle.cox_scc.specs.Walk.{places_of}

pub places_push : (path : List Waiting) (w : Waiting) → places_of (path ++ w ∷ []) ≡ places_of path ++ w.place ∷ []
places_push path w = map_push (λ (w : Waiting). w.place) path w

-- a vertex of the path has its place there
pub place_in : (path : List Waiting) (w : Waiting) → Contains path w → Contains (places_of path) w.place
place_in path w (k, within, is) = (
  k,
  rw length-map within,
  get_or-map (λ (w : Waiting). w.place) path k w w.place within ∙ ap (λ (z : Waiting). z.place) is,
)
