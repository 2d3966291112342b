-- Why a context is refused.
use Rattle.std.proofs.Common.{◌≡◌, ◌⊎◌, inl, inr, ℕ, ◌+◌, ◌≤◌, ◌<◌, List, [], ◌∷◌, ◌++◌, length, arith}
use Rattle.cox_lemmas.proofs.PushedItems.{push-length}
use Rattle.cox_base.specs.declared.limits.TheConstants.{MAX_LETTERS}
use Rattle.cox_context.specs.TooLarge.{IsTooLarge}
use Rattle.cox_context.specs.Numbers.{word_at}
use Rattle.cox_context.specs.Refusal.{IsPrefixOf, IsOver, IsLong}
use Rattle.cox_context.proofs.PlacedWords.{contains-placed}
use Rattle.cox_context.proofs.ShortLexLists.{HasMoreThan-over}

-- a prefix with one word more than the limit
pub over-prefix : (P : List ℕ → Type 0) (limit : ℕ) (words : List (List ℕ)) (word : List ℕ) → length words ≡ limit
    → IsPrefixOf P (words ++ word ∷ [])
    → ((i : ℕ) → i < length words + 1 → length (word_at (words ++ word ∷ []) i) ≤ MAX_LETTERS) → IsOver P limit
over-prefix P limit words word count prefix short = record {
  prefix = words ++ word ∷ [];
  first = prefix;
  count = omega (arith, push-length words word, count);
  short = λ other c. let p = contains-placed (words ++ word ∷ []) other c in rw (← p.is)
      (short p.i (omega (arith, p.within, push-length words word)));
}

-- what is found makes the elements too many, or one too long
pub too_large-found : (P : List ℕ → Type 0) (limit : ℕ) → IsOver P limit ⊎ IsLong P limit → IsTooLarge P limit
too_large-found P limit (inl over) = inl (HasMoreThan-over P limit over)
too_large-found P limit (inr long) = inr (long.long, long.member, omega (arith, long.letters))
