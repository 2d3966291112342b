-- The last part is what is cut off, where it begins at the place.
use Rattle.std.proofs.Common.{◌≡◌, ◌≢◌, ◌+◌, ◌-◌, ◌<◌, ◌++◌, ◌∷◌, [], inl, inr, length, slice_index, subst, refl, ◌∙◌, arith}
use Rattle.std.proofs.lemmas.List.{get_or_read}
use Rattle.cox_scc.proofs.Stacks.{cut_last}
use Rattle.cox_scc.proofs.search.Search.finish.Goals as goal

pub returns-then-index-here : goal.returns-then-index-here
returns-then-index-here c =
    let last = c.len-last.result - 1 in
    let count : length c.args.self.now.parts.items ≡ last + 1 =
    omega (arith, c.requires.some, c.len-last.ensures, c.args.self.now.parts.ok.0) in
    let parts_are = cut_last c.args.self.now.parts.items c.truncate.new.self.items last c.index.result.now count c.truncate.ensures.items
    c.index.ensures in
    inl (
      c.truncate.new.self,
      subst (λ z. c.args.self.now.parts.items ≡ c.truncate.new.self.items ++ z ∷ []) c.if-index-here.true parts_are,
      c.close.ensures,
    )

pub returns-else-index-here : goal.returns-else-index-here
returns-else-index-here c =
    let last = c.len-last.result - 1 in
    let within : last < length c.args.self.now.parts.items = omega
    (arith, c.requires.some, c.len-last.ensures, c.args.self.now.parts.ok.0) in
    let read = get_or_read c.args.self.now.parts.items last c.index.result.now within c.index.ensures 0 in
    inr (
      subst (λ z. slice_index c.args.self.now.parts.items (z - 1) ≢ c.args.here) c.len-last.ensures (λ e. c.if-index-here.false (read
          ∙ e)),
      refl,
    )
