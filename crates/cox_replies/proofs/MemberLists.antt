-- Members by their numbers: what a loop over the members keeps by a test, and how many it counts of each length.
use Rattle.std.proofs.Common.{◌≡◌, ℕ, ◌+◌, ◌≤◌, ◌<◌, Bool, true, false, List, [], ◌∷◌, ◌++◌, length, filter, take, All, refl, ap, sym, ◌∙◌}
use Rattle.std.proofs.lemmas.List.{append-nil, map-append, take_all}
use Rattle.std.proofs.lemmas.List.Elements.{All-nil, All-push, filter_more}
use Rattle.cox_context.specs.Numbers.{word_at}
use Rattle.cox_replies.specs.Putting.{words_at}

-- the numbers of the members that pass a test, of the first members
pub record IsKept (test : List ℕ → Bool) (members : List (List ℕ)) (i : ℕ) (numbers : List ℕ) : Type 0 where
  pub within : All (λ k. k < length members) numbers
  pub words : words_at members numbers ≡ filter test (take i members)

-- none of the first members passes
pub IsKept-none : (test : List ℕ → Bool) (members : List (List ℕ)) (i : ℕ) → filter test (take i members) ≡ [] → IsKept test members i []
IsKept-none test members i none = record { within = All-nil (λ k. k < length members); words = sym none }

-- one member more, which passes
pub IsKept-more : (test : List ℕ → Bool) (members : List (List ℕ)) (i : ℕ) (numbers more : List ℕ) → IsKept test members i numbers
    → i < length members
    → test (word_at members i) ≡ true → more ≡ numbers ++ i ∷ [] → IsKept test members (i + 1) more
IsKept-more test members i numbers more kept below passes is = record {
  within = rw is (All-push (λ k. k < length members) numbers i kept.within below);
  words = rw (is, map-append, kept.words, filter_more test members i [] below, passes) refl;
}

-- one member more, which does not
pub IsKept-same : (test : List ℕ → Bool) (members : List (List ℕ)) (i : ℕ) (numbers : List ℕ) → IsKept test members i numbers
    → i < length members
    → test (word_at members i) ≡ false → IsKept test members (i + 1) numbers
IsKept-same test members i numbers kept below fails = record {
  within = kept.within;
  words = rw (filter_more test members i [] below, fails, append-nil) kept.words;
}

-- all members
pub IsKept-all : (test : List ℕ → Bool) (members : List (List ℕ)) (i : ℕ) (numbers : List ℕ) → IsKept test members i numbers
    → length members ≤ i
    → words_at members numbers ≡ filter test members
IsKept-all test members i numbers kept past = kept.words ∙ ap (filter test) (take_all i members past)
