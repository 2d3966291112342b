-- The labels after `matrix`.
use Rattle.std.proofs.Common.{◌≡◌, ℕ, true, false, not, IsTrue, List, map, length, sym, ◌∙◌, ap, ⊎_elim}
use Rattle.std.specs.List.{All, list_all, position_or_len}
use Rattle.std.proofs.lemmas.Bool.{cases_lt, not-true, le-ltb}
use Rattle.std.proofs.lemmas.List.Sums.{passes_at_first, list_all-from_AllPass}
use Rattle.std.proofs.lemmas.List.Folds.{list_all_at, list_all-map}
use Rattle.cox_base.specs.Matrix.{is_label}
use Rattle.cox_base.specs.Table.{IsFirstBad}
use Rattle.cox_tokens.specs.Number.{value_of}

-- each label is admitted
pub labels-admitted : (tokens : List (List ℕ)) (labels : List ℕ) → labels ≡ map value_of tokens → All (λ m. IsTrue (is_label m)) labels
    → list_all (λ token. is_label (value_of token)) tokens ≡ true
labels-admitted tokens labels read admitted =
    sym (list_all-map is_label value_of tokens) ∙ ap (list_all is_label) (sym read) ∙ list_all-from_AllPass is_label labels admitted

-- one is not
labels-bad : (labels : List ℕ) (at value : ℕ) → IsFirstBad labels at value → list_all is_label labels ≡ false
labels-bad labels at value bad =
    let other = λ (m : ℕ). not (is_label m) in
    ⊎_elim
    (λ within. list_all_at is_label labels (position_or_len other labels) 0 within (not-true _ (passes_at_first other labels 0 within)))
    (λ beyond. absurd (cc (rw (le-ltb (position_or_len other labels) (length labels) beyond) at bad.first)))
    (cases_lt (position_or_len other labels) (length labels))

pub labels-refused : (tokens : List (List ℕ)) (labels : List ℕ) (at value : ℕ) → labels ≡ map value_of tokens → IsFirstBad labels at value
    → list_all (λ token. is_label (value_of token)) tokens ≡ false
labels-refused tokens labels at value read bad =
    sym (list_all-map is_label value_of tokens) ∙ ap (list_all is_label) (sym read) ∙ labels-bad labels at value bad
