-- The needed rows have marks.
use Rattle.std.proofs.Common.{◌<◌, ◌∙◌, length, Contains, subst, sym}
use Rattle.cox_fill_core.proofs.lists.least_missing.Goals as goal

pub least_of-requires : goal.least_of-requires
least_of-requires c = λ j n.
    subst (λ z. j < length z) (sym (c.deref-2.ensures.value ∙ c.known.view_is))
    (c.requires j (subst (λ z. Contains z j) (c.deref.ensures.value ∙ c.needs.view_is) n))
