-- One more image.
use Rattle.std.proofs.Common.{◌≡◌, ◌+◌, ◌++◌, ◌∷◌, [], suc, ap, ◌∙◌, arith}
use Rattle.std.specs.Global.{Vec}
use Rattle.std.proofs.lemmas.List.{map-append}
use Rattle.cox_base.specs.IntegerMatrix.{integer_matrix}
use Rattle.cox_module.specs.declared.term.Term.{Term}
use Rattle.cox_module.specs.NumberedImages.{cell_words, images_of}
use Rattle.cox_module.proofs.LetterTables.{images-push}
use Rattle.cox_module.proofs.module.operator.Goals as goal

pub loop-k-preserved : goal.loop-k-preserved
loop-k-preserved c =
    let g = c.args.graph.now in
    let next : c.loop-k.k + 1 ≡ suc c.loop-k.k = omega arith in
    let pushed : images_of c.push.new.self.items ≡ images_of c.loop-k.images.items ++ c.in_ok-image_of.field-0.items ∷ [] =
    ap images_of (c.in_ok-push.ensures {u = tt}).items
    ∙ map-append (λ (v : Vec Term). v.items) c.loop-k.images.items (c.in_ok-image_of.field-0 ∷ [])
    in rw (pushed, next) (images-push (integer_matrix g.matrix) (cell_words g.members c.args.cell.now) c.args.s c.loop-k.k
    (images_of c.loop-k.images.items) c.in_ok-image_of.field-0.items c.loop-k.invariant (c.in_ok-image_of.ensures {u = tt}))
