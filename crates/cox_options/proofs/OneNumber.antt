-- What the words give where they name one option: the definition of the command, computed for each option in turn.
use Rattle.std.proofs.Common.{◌≡◌, ◌≢◌, ◌==◌, ℕ, true, false, not, List, [], ◌∷◌, All, Some, None, refl, slice_index, ⊎_elim}
use Rattle.std.proofs.lemmas.Bool.{cases_Bool, ne_eqb}
use Rattle.std.proofs.lemmas.List.Elements.{All-from_recursion, All-weaker}
use Rattle.std.specs.List.{AllByRecursion}
use Rattle.clap.specs.Lexer.{strip_byte}
use Rattle.clap.specs.ValueTests.{is_unsigned_in}
use Rattle.clap.proofs.OnLiterals.{clap_on_literals}
use Rattle.cox_options.specs.declared.options.TheConstants.{MAX_CONTEXT, MAX_ROOTS, MAX_COEF, MAX_WORKERS}
use Rattle.cox_options.specs.Arguments.{given_number, is_refused, decimal_value}
use Rattle.cox_options.specs.Command.{NumberOption, number_options}
use Rattle.cox_options.specs.OneOption.{joined_argument, named}

-- what follows from either answer to the test of a range
by_range : (most : ℕ) (text : List ℕ) (P : Type 0) → (is_unsigned_in 1 most text ≡ true → P) → (is_unsigned_in 1 most text ≡ false → P) → P
by_range most text P inside outside = ⊎_elim inside outside (cases_Bool (is_unsigned_in 1 most text))

-- `--NAME=N` is taken exactly when N writes a number of the range
abbrev JoinedTaken : NumberOption → Type 0
JoinedTaken option = (name text : List ℕ) → is_refused (name ∷ joined_argument option text ∷ []) ≡ not (is_unsigned_in 1 option.most text)

pub joined_taken : All JoinedTaken number_options
unfolding clap_on_literals
joined_taken = All-from_recursion JoinedTaken number_options (
  λ name text. by_range MAX_CONTEXT text _ (λ e. rw e refl) (λ e. rw e refl),
  (
    λ name text. by_range MAX_ROOTS text _ (λ e. rw e refl) (λ e. rw e refl),
    (
      λ name text. by_range MAX_COEF text _ (λ e. rw e refl) (λ e. rw e refl),
      (λ name text. by_range MAX_WORKERS text _ (λ e. rw e refl) (λ e. rw e refl), tt),
    ),
  ),
)

-- and gives that number
abbrev JoinedNumber : NumberOption → Type 0
JoinedNumber option = (name text : List ℕ) → given_number option.name (name ∷ joined_argument option text ∷ []) ≡ Some (decimal_value text)

pub joined_number : All JoinedNumber number_options
unfolding clap_on_literals
joined_number = All-from_recursion JoinedNumber number_options
    (λ name text. refl, (λ name text. refl, (λ name text. refl, (λ name text. refl, tt))))

-- the word does not begin with a hyphen
abbrev IsPlain : ℕ → List ℕ → Type 0
IsPlain x xs = ((x == 45) ≡ false) × (strip_byte 45 (x ∷ xs) ≡ None)

IsPlain-from_first : (x : ℕ) (xs : List ℕ) → x ≢ 45 → IsPlain x xs
IsPlain-from_first x xs first =
    let other : (x == 45) ≡ false = ne_eqb x 45 first in
    (other, rw other refl)

-- it holds at the empty word, and at each that begins with another byte
abbrev HoldsAtPlain : (NumberOption → List ℕ → List ℕ → Type 0) → NumberOption → Type 0
HoldsAtPlain P option = (name : List ℕ) → P option name [] × ((x : ℕ) (xs : List ℕ) → IsPlain x xs → P option name (x ∷ xs))

-- so it holds at each word that does not begin with a hyphen
each_plain : (P : NumberOption → List ℕ → List ℕ → Type 0) → AllByRecursion (HoldsAtPlain P) number_options
    → All (λ option. (name text : List ℕ) → slice_index text 0 ≢ 45 → P option name text) number_options
each_plain P parts = All-weaker (HoldsAtPlain P) _ go number_options (All-from_recursion (HoldsAtPlain P) number_options parts)
  where
    go : (option : NumberOption) → HoldsAtPlain P option → (name text : List ℕ) → slice_index text 0 ≢ 45 → P option name text
    go option parts name [] first = (parts name).0
    go option parts name (x ∷ xs) first = (parts name).1 x xs (IsPlain-from_first x xs first)

-- `--NAME N` is taken exactly when N writes a number of the range
abbrev NextTaken : NumberOption → List ℕ → List ℕ → Type 0
NextTaken option name text = is_refused (name ∷ named option ∷ text ∷ []) ≡ not (is_unsigned_in 1 option.most text)

pub next_taken : All (λ option. (name text : List ℕ) → slice_index text 0 ≢ 45 → NextTaken option name text) number_options
unfolding clap_on_literals
next_taken = each_plain NextTaken (
  λ name. (refl, λ x xs p. by_range MAX_CONTEXT (x ∷ xs) _ (λ e. rw (p.0, p.1, e) refl) (λ e. rw (p.0, p.1, e) refl)),
  (
    λ name. (refl, λ x xs p. by_range MAX_ROOTS (x ∷ xs) _ (λ e. rw (p.0, p.1, e) refl) (λ e. rw (p.0, p.1, e) refl)),
    (
      λ name. (refl, λ x xs p. by_range MAX_COEF (x ∷ xs) _ (λ e. rw (p.0, p.1, e) refl) (λ e. rw (p.0, p.1, e) refl)),
      (λ name. (refl, λ x xs p. by_range MAX_WORKERS (x ∷ xs) _ (λ e. rw (p.0, p.1, e) refl) (λ e. rw (p.0, p.1, e) refl)), tt),
    ),
  ),
)

-- and gives that number
abbrev NextNumber : NumberOption → List ℕ → List ℕ → Type 0
NextNumber option name text = given_number option.name (name ∷ named option ∷ text ∷ []) ≡ Some (decimal_value text)

pub next_number : All (λ option. (name text : List ℕ) → slice_index text 0 ≢ 45 → NextNumber option name text) number_options
unfolding clap_on_literals
next_number = each_plain NextNumber (
  λ name. (refl, λ x xs p. rw (p.0, p.1) refl),
  (
    λ name. (refl, λ x xs p. rw (p.0, p.1) refl),
    (λ name. (refl, λ x xs p. rw (p.0, p.1) refl), (λ name. (refl, λ x xs p. rw (p.0, p.1) refl), tt)),
  ),
)
