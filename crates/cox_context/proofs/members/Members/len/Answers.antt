-- There are as many words as links.
use Rattle.std.proofs.Common.{ℕ, List, length, ap, arith}
use Rattle.cox_context.proofs.LinkedWords.{words-size, words-first}
use Rattle.cox_context.proofs.members.Members.len.Goals as goal

pub returns-clause-len : goal.returns-clause-len
returns-clause-len c = omega
    (arith, c.len.ensures, words-size c.self.inside.links.items, ap (λ (words : List (List ℕ)). length words) c.self.view_is)

pub returns-clause-identity : goal.returns-clause-identity
returns-clause-identity c = rw (← c.self.view_is) (words-first c.self.inside.links.items)
