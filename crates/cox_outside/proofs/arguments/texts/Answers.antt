-- One text more.
use Rattle.std.proofs.Common.{◌≡◌, ℕ, ◌+◌, ◌<◌, List, [], ◌∷◌, ◌++◌, length, map, take, get_or, refl}
use Rattle.std.proofs.lemmas.List.{map-append, take_all, take_more}
use Rattle.std.specs.String.{string_bytes}
use Rattle.cox_outside.proofs.arguments.texts.Goals as goal

more : {X Y Z : Type 0} (f : X → Z) (g : Y → Z) (texts : List X) (arguments : List Y) (i : ℕ) (x : X) (y : Y) → i < length arguments
    → y ≡ get_or arguments i y → f x ≡ g y → map f texts ≡ map g (take i arguments)
    → map f (texts ++ x ∷ []) ≡ map g (take (i + 1) arguments)
more f g texts arguments i x y l at same before =
    rw (take_more arguments i y l, ← at, map-append f texts (x ∷ []), map-append g (take i arguments) (y ∷ []), same, before) refl

pub loop-argument-preserved : goal.loop-argument-preserved
loop-argument-preserved c = rw c.in_ok-push.ensures.items (more (λ text. text.now) string_bytes c.loop-argument.texts.items
    c.args.arguments.now c.loop-argument.argument-index c.as_str.result c.argument-item.result c.loop-argument-test.true
    c.argument-item.is c.as_str.ensures.value c.loop-argument.invariant)

pub returns-clause-each : goal.returns-clause-each
returns-clause-each c = rw (take_all c.loop-argument.argument-index c.args.arguments.now c.loop-argument-test.false) at
    c.loop-argument.invariant
