-- A value other than 0 is put behind the others.
use Rattle.std.proofs.Common.{◌≡◌, pos, FitsSigned, w64, to_z, of_z, rules, sym, ap, ◌∙◌}
use Rattle.std.proofs.lemmas.Int.{to_z-of_z}
use Rattle.cox_row_builder.proofs.NotedMus.{noted-skip, noted-push}
use Rattle.cox_row_builder.proofs.mus.Mus.note.Goals as goal

pub returns-in_ok-push-2 : goal.returns-in_ok-push-2
returns-in_ok-push-2 c = λ A members w limit g h mu.
    let fits : FitsSigned w64 c.args.value = search rules
    in let pushed = simp (to_z-of_z w64 c.args.value fits) at c.in_ok-push-2.ensures.items
    in rw (c.in_ok-push.ensures.items, pushed)
    (noted-push A g members w limit c.args.x c.args.self.now.numbers.items c.args.self.now.values.items
    c.args.value (λ e. c.if-value-ne0.true (ap (of_z w64) e)) mu h)

pub returns-else-value-ne0 : goal.returns-else-value-ne0
returns-else-value-ne0 c = λ A members w limit g h mu.
    let fits : FitsSigned w64 c.args.value = search rules
    in let none : c.args.value ≡ pos 0 = sym (to_z-of_z w64 c.args.value fits) ∙ ap (to_z w64) c.if-value-ne0.false
    in noted-skip A g members w limit c.args.x c.args.self.now.numbers.items c.args.self.now.values.items (rw none at mu) h
