-- The views of a table tell its words, and all its seats; and a table whose first seat has the view of the start is the table at the start.
use Rattle.std.proofs.Common.{◌≡◌, ℕ, ◌<◌, get_or, sym, subst, ◌∙◌, arith}
use Rattle.std.proofs.lemmas.Bool.Decides.{nat_tests}
use Rattle.std.proofs.lemmas.List.{ext_get_or}
use Rattle.cox_claims.specs.Rule.{state_of, IsKept, state_at, view_at}
use Rattle.cox_claims.specs.Events.{fresh_table, ViewsTellWords, StartsFree, HasNoMoreSeats}
use Rattle.cox_claims.proofs.Keeps.{same_state}
use Rattle.cox_claims.proofs.Splits.{split-none_left, only_seat}
use Rattle.cox_claims.proofs.EventSteps.{start_rule}

same_word : (n m : ℕ) → n < 4 → m < 4 → state_of n ≡ state_of m → n ≡ m
same_word n m p q e = grind (arith, nat_tests)

pub views_tell_words : (rows : ℕ) → ViewsTellWords rows
views_tell_words rows s t k l same =
    let kept = subst (λ vs. IsKept (state_at s.words) (view_at vs)) same k.kept in
    ext_get_or 0 s.words t.words (k.count ∙ sym l.count)
    (λ i lt. same_word (get_or s.words i 0) (get_or t.words i 0) (k.words i) (l.words i)
    (same_state (state_at s.words) (state_at t.words) (view_at t.views) i kept l.kept))

pub starts_free : (rows : ℕ) → StartsFree rows
starts_free rows s k at =
    let alone = only_seat s.views at k.seats in
    (views_tell_words rows s (fresh_table rows) k (start_rule rows) alone, alone)

pub no_more_seats : (rows : ℕ) → HasNoMoreSeats rows
no_more_seats rows s t k l more same = split-none_left s.views more t.views k.seats l.seats same
