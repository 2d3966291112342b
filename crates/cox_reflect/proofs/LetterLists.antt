-- Lists of numbers, one for each letter: a write at a letter, and the letters whose numbers are negative.
use Rattle.std.proofs.Common.{◌≡◌, ℕ, zero, suc, ◌+◌, ◌-◌, ◌≤◌, ◌<◌, Bool, true, false, T, List, [], ◌∷◌, ◌++◌, length, set}
use Rattle.std.proofs.Common.{filter, ℤ, pos, ◌<ℤ◌, int_lt, refl, sym, ◌∙◌, ⊎_elim, arith, get_or-set_same, get_or-set_other}
use Rattle.std.specs.List.{range_with_len}
use Rattle.std.specs.Bool.{Decides}
use Rattle.std.proofs.lemmas.Bool.{cases_eq, false_from_ne_true}
use Rattle.std.proofs.lemmas.List.Elements.{All-filter, All-cons, All-nil}
use Rattle.cox_lemmas.proofs.RangeFilters.{filter_range-yes, filter_range-no, length-filter_range}
use Rattle.cox_base.specs.declared.side.Side.TheVariants.{Left}
use Rattle.cox_base.specs.Matrix.{IsLetter, IsWord}
use Rattle.cox_base.specs.IntegerMatrix.{IntegerMatrix}
use Rattle.cox_base.specs.Admissible.{IsAdmissible}
use Rattle.cox_base.specs.ShortLex.{letters}
use Rattle.cox_base.specs.Descents.{left_descents}
use Rattle.cox_reflect.specs.RootHeight.{at_letter}
use Rattle.cox_reflect.specs.Height.{AreHeights}
use Rattle.cox_reflect.proofs.DescentLists.{descent_set-by}
use Rattle.cox_reflect.proofs.HeightsUnderLetters.{descent_from_heights, heights_at_descent}

pub at_letter-set_same : (xs : List ℤ) (t : ℕ) (v : ℤ) → 1 ≤ t → t ≤ length xs → at_letter (set xs (t - 1) v) t ≡ v
at_letter-set_same xs t v from to = get_or-set_same xs (t - 1) v (pos 0) (omega arith)

pub at_letter-set_other : (xs : List ℤ) (t q : ℕ) (v : ℤ) → 1 ≤ t → 1 ≤ q → (q ≡ t → ⊥) → at_letter (set xs (t - 1) v) q ≡ at_letter xs q
at_letter-set_other xs t q v from q_from ne = get_or-set_other xs (t - 1) (q - 1) v (pos 0) (λ e. ne (omega arith))

-- a loop's turn at t, which writes f t there
pub at_letter-more : (xs : List ℤ) (n t : ℕ) (v : ℤ) (f : ℕ → ℤ) → 1 ≤ t → t ≤ length xs → v ≡ f t
    → ((q : ℕ) → IsLetter n q → q < t → at_letter xs q ≡ f q)
    → (q : ℕ) → IsLetter n q → q < t + 1 → at_letter (set xs (t - 1) v) q ≡ f q
at_letter-more xs n t v f from to e before q l h = ⊎_elim here other (cases_eq q t)
  where
    at_t : at_letter (set xs (t - 1) v) t ≡ f t
    at_t = at_letter-set_same xs t v from to ∙ e

    here : q ≡ t → at_letter (set xs (t - 1) v) q ≡ f q
    here k = rw k at_t

    other : (q ≡ t → ⊥) → at_letter (set xs (t - 1) v) q ≡ f q
    other ne = at_letter-set_other xs t q v from l.from_one ne ∙ before q l (omega arith)

-- ---- the letters whose numbers are negative

pub true_from_T : (b : Bool) → T b → b ≡ true
true_from_T true h = refl
true_from_T false h = absurd h

Decides-int_lt : (x y : ℤ) → Decides (int_lt x y) (x <ℤ y)
Decides-int_lt x y = (λ e. record { lt = rw e tt }, λ h. true_from_T (int_lt x y) h.lt)

-- those among 1 to k
unfoldable pub negative_letters : List ℤ → ℕ → List ℕ
negative_letters xs k = filter (λ t. int_lt (at_letter xs t) (pos 0)) (range_with_len 1 k)

pub negative_letters-none : (xs : List ℤ) → negative_letters xs 0 ≡ []
unfolding negative_letters
negative_letters-none xs = refl

pub negative_letters-yes : (xs : List ℤ) (k s : ℕ) → s ≡ suc k → at_letter xs s <ℤ pos 0
    → negative_letters xs s ≡ negative_letters xs k ++ s ∷ []
unfolding negative_letters
negative_letters-yes xs k s e h =
    filter_range-yes (λ t. int_lt (at_letter xs t) (pos 0)) k s e ((Decides-int_lt (at_letter xs s) (pos 0)).1 h)

pub negative_letters-no : (xs : List ℤ) (k s : ℕ) → s ≡ suc k → (at_letter xs s <ℤ pos 0 → ⊥)
    → negative_letters xs s ≡ negative_letters xs k
unfolding negative_letters
negative_letters-no xs k s e h =
    filter_range-no (λ t. int_lt (at_letter xs t) (pos 0)) k s e
    (false_from_ne_true (int_lt (at_letter xs s) (pos 0)) (λ t. h ((Decides-int_lt (at_letter xs s) (pos 0)).0 t)))

letters-All : (a n top : ℕ) → 1 ≤ a → a + n ≤ top + 1 → IsWord top (range_with_len a n)
letters-All a zero top from to = All-nil (IsLetter top)
letters-All a (suc n) top from to =
    All-cons (IsLetter top) a (range_with_len (a + 1) n) (record { from_one = from; to_rank = omega arith })
    (letters-All (a + 1) n top (omega arith) (omega arith))

pub IsWord-negative_letters : (xs : List ℤ) (k : ℕ) → IsWord k (negative_letters xs k)
unfolding negative_letters
IsWord-negative_letters xs k = All-filter (λ t. int_lt (at_letter xs t) (pos 0)) (IsLetter k) (range_with_len 1 k)
    (letters-All 1 k k (omega arith) (omega arith))

pub length-negative_letters : (xs : List ℤ) (k : ℕ) → length (negative_letters xs k) ≤ k
unfolding negative_letters
length-negative_letters xs k = length-filter_range (λ t. int_lt (at_letter xs t) (pos 0)) k

-- the letters whose heights are negative are the left descents
pub negative_letters-descents : (A : IntegerMatrix) (g : IsAdmissible A) (u : List ℕ) (heights : List ℤ) → AreHeights A u heights
    → negative_letters heights A.rank ≡ left_descents A u
unfolding negative_letters letters
negative_letters-descents A g u heights a =
    sym (descent_set-by A Left u (λ t. int_lt (at_letter heights t) (pos 0)) (λ t l. (
      λ h. descent_from_heights A g u heights t a l ((Decides-int_lt (at_letter heights t) (pos 0)).0 h),
      λ d. (Decides-int_lt (at_letter heights t) (pos 0)).1 (heights_at_descent A g u heights t a d),
    )))
