-- The sort moves the words, and with them their letters.
use Rattle.std.proofs.Common.{ℕ, List, map, subst}
use Rattle.std.specs.Prelude.{IsPermutation}
use Rattle.std.proofs.lemmas.List.Sorted.{IsPermutation-map}
use Rattle.cox_rowcheck.specs.Prefixes.{letters_of}
use Rattle.cox_rowcheck.proofs.order.words_in_order.Goals as goal

pub returns-clause-permutation : goal.returns-clause-permutation
returns-clause-permutation c =
    subst (λ (members : List (List ℕ)). IsPermutation members (map letters_of c.sort_unstable.new.self.items))
    (c.in_ok-words.ensures {u = tt})
    (IsPermutation-map letters_of c.in_ok-words.words.items c.sort_unstable.new.self.items c.sort_unstable.ensures.permutation)
