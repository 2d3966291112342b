-- How many members of each length are counted in a loop over the members.
use Rattle.std.proofs.Common.{◌≡◌, ℕ, ◌+◌, ◌≤◌, ◌<◌, ◌==◌, not, true, false, ℤ, pos, ◌+ℤ◌, FitsSigned, to_z, of_z, List, [], length, take}
use Rattle.std.proofs.Common.{get_or, set, refl, sym, ◌∙◌, ⊎_elim, arith, get_or-set_same, get_or-set_other}
use Rattle.std.proofs.lemmas.Bool.{cases_eq, eq-eqb, ne_eqb}
use Rattle.std.proofs.lemmas.Int.{ints, to_z-of_z, fits_signed_from_abs}
use Rattle.std.proofs.lemmas.List.{length-take, length-take-le, get_or-take}
use Rattle.std.proofs.lemmas.List.FromFn.{fill_by_all}
use Rattle.std.proofs.lemmas.List.Filters.{length-filter_more, length-filter_both}
use mir.Syntax.{w128}
use Rattle.cox_base.specs.declared.limits.TheConstants.{MAX_LETTERS}
use Rattle.cox_context.specs.declared.members.TheConstants.{MAX_MEMBERS}
use Rattle.cox_context.specs.Numbers.{word_at}
use Rattle.cox_base.specs.Interval.{count_of_length, counts_by_length}

-- no more are counted than were seen
pub count-most : (members : List (List ℕ)) (i k : ℕ) → count_of_length (take i members) k ≤ i
count-most members i k =
    omega (
      arith,
      length-filter_both (λ word. length word == k) (λ word. not (length word == k)) (λ word. refl) (take i members),
      length-take i members,
    )

-- a count is within the type of numbers, and one more is
count-fits : (a : ℕ) → a ≤ MAX_MEMBERS + 1 → FitsSigned w128 (pos a)
count-fits a few = fits_signed_from_abs w128 (pos a) (omega (arith, few))

pos-one_more : (a : ℕ) → pos a +ℤ pos 1 ≡ pos (a + 1)
pos-one_more a = omega (arith, ints)

pub count-room : (x : ℤ) (a : ℕ) → x ≡ pos a → a ≤ MAX_MEMBERS → FitsSigned w128 (to_z w128 (of_z w128 x) +ℤ pos 1)
count-room x a is few = rw (is, to_z-of_z w128 (pos a) (count-fits a (omega (arith, few))), pos-one_more)
    (count-fits (a + 1) (omega (arith, few)))

pub count-added : (x : ℤ) (a : ℕ) → x ≡ pos a → a ≤ MAX_MEMBERS → to_z w128 (of_z w128 (to_z w128 (of_z w128 x) +ℤ pos 1)) ≡ pos (a + 1)
count-added x a is few =
    rw (is, to_z-of_z w128 (pos a) (count-fits a (omega (arith, few))), pos-one_more)
    (to_z-of_z w128 (pos (a + 1)) (count-fits (a + 1) (omega (arith, few))))

-- one more of the length n
pub counts-more : (members : List (List ℕ)) (counts : List ℤ) (i n : ℕ) (more : ℤ)
    → ((k : ℕ) → k < MAX_LETTERS + 1 → get_or counts k (pos 0) ≡ pos (count_of_length (take i members) k)) → i < length members → n
    ≡ length (word_at members i)
    → n < length counts → more ≡ pos (count_of_length (take i members) n + 1)
    → (k : ℕ) → k < MAX_LETTERS + 1 → get_or (set counts n more) k (pos 0) ≡ pos (count_of_length (take (i + 1) members) k)
counts-more members counts i n more values below is within sum k bound = ⊎_elim same other (cases_eq k n)
  where
    same : k ≡ n → get_or (set counts n more) k (pos 0) ≡ pos (count_of_length (take (i + 1) members) k)
    same e =
        let counted : (length (word_at members i) == n) ≡ true = eq-eqb (length (word_at members i)) n (sym is) in
        let next = length-filter_more (λ word. length word == n) members i [] below in
        rw (e, get_or-set_same counts n more (pos 0) within, next, counted) sum

    other : (k ≡ n → ⊥) → get_or (set counts n more) k (pos 0) ≡ pos (count_of_length (take (i + 1) members) k)
    other different =
        let passed : (length (word_at members i) == k) ≡ false = ne_eqb (length (word_at members i)) k (λ e. different (sym (is ∙ e))) in
        let next = length-filter_more (λ word. length word == k) members i [] below in
        let none : count_of_length (take i members) k + 0 ≡ count_of_length (take i members) k = omega arith in
        rw (get_or-set_other counts n k more (pos 0) different, next, passed, none) (values k bound)

-- the first counts
pub counts-prefix : (members : List (List ℕ)) (counts : List ℤ) (n : ℕ) → length counts ≡ MAX_LETTERS + 1
    → ((k : ℕ) → k < MAX_LETTERS + 1 → get_or counts k (pos 0) ≡ pos (count_of_length members k)) → n ≤ MAX_LETTERS → take (n + 1) counts
    ≡ counts_by_length members n
counts-prefix members counts n size values few =
    fill_by_all (λ k. pos (count_of_length members k)) (take (n + 1) counts) (n + 1) (pos 0)
    (length-take-le (n + 1) counts (omega (arith, size, few)))
    (λ k below. get_or-take (n + 1) counts k (pos 0) below ∙ values k (omega (arith, below, few)))
