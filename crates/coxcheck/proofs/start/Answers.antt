-- The proof of `start`: where an argument is no text, the check is one with any words.
use Rattle.std.proofs.Common.{ℕ, List, refl}
use Rattle.coxcheck.proofs.start.Goals as goal

pub returns-in-Ok-None : goal.returns-in-Ok-None
returns-in-Ok-None g c = rw (c.in-Ok-None.is, c.in-Ok-None.field-0-is) (λ (words : List (List ℕ)) some. record {
  check = c.refuse_words.ensures words some _;
  unread = λ more. refl;
})
