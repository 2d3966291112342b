-- Why a context is refused, as it is found: by its first members in ShortLex order.
use Rattle.std.specs.Prelude.{◌≡◌, ◌⊎◌, ℕ, ◌+◌, ◌≤◌, List, length, Contains}
use Rattle.std.specs.declared.cmp.Ordering.TheVariants.{Less}
use Rattle.cox_base.specs.ShortLex.{shortlex_cmp}
use Rattle.cox_base.specs.declared.limits.TheConstants.{MAX_LETTERS}
use Rattle.cox_base.specs.SortedList.{IsRising, IsListOf}

-- the first words with a property, in ShortLex order: each other word with it comes after all of them
pub record IsPrefixOf (P : List ℕ → Type 0) (words : List (List ℕ)) : Type 0 where
  pub rising : IsRising words
  pub sound : (word : List ℕ) → Contains words word → P word
  pub first : (word : List ℕ) → P word
      → Contains words word ⊎ ((other : List ℕ) → Contains words other → shortlex_cmp other word ≡ Less)

-- there are more than limit members, and the first limit + 1 have at most MAX_LETTERS letters each
pub record IsOver (P : List ℕ → Type 0) (limit : ℕ) : Type 0 where
  pub prefix : List (List ℕ)
  pub first : IsPrefixOf P prefix
  pub count : length prefix ≡ limit + 1
  pub short : (word : List ℕ) → Contains prefix word → length word ≤ MAX_LETTERS

-- no more than limit members have at most MAX_LETTERS letters, and one has one more: so one of the first limit + 1 members has
-- MAX_LETTERS + 1 letters
pub record IsLong (P : List ℕ → Type 0) (limit : ℕ) : Type 0 where
  pub words : List (List ℕ)
  pub are : IsListOf (λ word. P word × (length word ≤ MAX_LETTERS)) words
  pub count : length words ≤ limit
  pub long : List ℕ
  pub member : P long
  pub letters : length long ≡ MAX_LETTERS + 1
