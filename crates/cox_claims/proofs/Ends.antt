-- The states that a closed table gives are one for each row, and fit what the seat knows.
use Rattle.std.proofs.Common.{◌≡◌, ℕ, ◌+◌, List, [], ◌∷◌, ◌++◌, map, length, take, get_or, sym, ap, subst, ◌∙◌, arith}
use Rattle.std.proofs.lemmas.List.{take_more, get_or-map, length-map, map-append}
use mathlib.Core.Option.{some}
use lib.ListN.{get_elem?}
use Rattle.atomic_table.specs.Table.{Final, Seen}
use Rattle.cox_fill_core.specs.declared.event.RowState.{RowState}
use Rattle.cox_claims.specs.declared.view.View.{View}
use Rattle.cox_claims.specs.Knowledge.{IsKnown}
use Rattle.cox_claims.specs.Rule.{state_of, state_at, KeepsRule}
use Rattle.cox_claims.specs.Tables.{Closes}
use Rattle.cox_claims.proofs.Boards.{at_here, at_within, view_here}

-- the states of the first k words, with one word more
pub states_more : (states : List RowState) (words : List ℕ) (k n : ℕ) (x : RowState) → states ≡ map state_of (take k words)
    → get_elem? words k ≡ some n → x ≡ state_of n
    → states ++ x ∷ [] ≡ map state_of (take (k + 1) words)
states_more states words k n x so_far at is =
    ap (λ z. z ++ x ∷ []) so_far ∙ ap (λ z. map state_of (take k words) ++ z ∷ []) (is ∙ ap state_of (sym (at_here words k n 0 at)))
    ∙ sym (ap (map state_of) (take_more words k 0 (at_within words k n at)) ∙ map-append state_of (take k words) (get_or words k 0 ∷ []))

-- the states of a table that ended under the rule, beside what a seat knows
pub closes : (rows a : ℕ) (v : View) (words : List ℕ) (slots : List (Unit {0})) → Final (Seen (KeepsRule rows) a v) words slots
    → Closes v a rows (map state_of words)
closes rows a v words slots (s, seen, is, count, homes) = record {
  count = length-map words state_of ∙ ap length (sym is) ∙ seen.0.count;
  known = λ i lt. subst (IsKnown v i)
      (ap (λ z. state_at z i) is ∙ sym (get_or-map state_of words i 0 RowState.Free (omega (arith, ap length is, seen.0.count))))
      (subst (λ u. IsKnown u i (state_at s.words i)) (view_here s.views a v seen.1) (seen.0.kept.known a i));
  table = (s, seen.0, seen.1, ap (map state_of) (sym is));
}
