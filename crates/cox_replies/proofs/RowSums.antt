-- The sum of q^l(x) P(x,w) over the x ≤ w, by the members of a context: how it grows by one member, and that its coefficients are small.
use Rattle.std.proofs.Common.{◌≡◌, ℕ, zero, suc, ◌+◌, ◌≤◌, ◌<◌, Bool, true, false, List, [], ◌∷◌, length, filter, take}
use Rattle.std.proofs.Common.{ℤ, pos, ◌+ℤ◌, add-one, refl, ap, sym, ◌∙◌, arith}
use Rattle.std.proofs.lemmas.Bool.{false≢true}
use Rattle.std.proofs.lemmas.Int.{ints}
use Rattle.std.proofs.lemmas.List.{length-take-le, get_or-take}
use Rattle.std.proofs.lemmas.List.FromFn.{fill_by_all}
use Rattle.cox_base.specs.IntegerMatrix.{IntegerMatrix}
use Rattle.cox_base.specs.Admissible.{IsAdmissible}
use Rattle.cox_base.specs.ShortLex.{normal_form}
use Rattle.cox_base.specs.Length.{word_length}
use Rattle.cox_base.specs.Bruhat.{IsBelow}
use Rattle.cox_reflect.proofs.Elements.{same-refl, same-sym}
use Rattle.cox_reflect.proofs.Bruhat.{below-same, below-length}
use Rattle.cox_poly.specs.Coefficients.{Coefficients, plus}
use Rattle.cox_poly.specs.Polynomial.{coefficient, coefficient_after}
use Rattle.cox_poly.specs.Products.{times_q_power}
use Rattle.cox_poly.specs.Multiples.{scaled}
use Rattle.cox_hecke.specs.Family.{Family}
use Rattle.cox_hecke.specs.Sums.{sum_over}
use Rattle.cox_hecke.specs.Row.{IsRow, IsKazhdanLusztig}
use Rattle.cox_hecke.proofs.AllRows.{row_of, row_of-is}
use Rattle.cox_context.specs.Closed.{IsClosed}
use Rattle.cox_base.specs.Members.{IsInInterval}
use Rattle.cox_base.specs.SortedList.{IsListOf}
use Rattle.cox_context.specs.Numbers.{word_at}
use Rattle.cox_context.proofs.IntervalLists.{is_below, is_below-tells}
use Rattle.cox_klstep.proofs.AddedSums.{none-scaled}
use Rattle.cox_replies.specs.RowReply.{coefficients_to}
use Rattle.cox_replies.proofs.RowMembers.{first-same, member-same}
use Rattle.cox_replies.proofs.SumsInAnyOrder.{total}
use Rattle.cox_replies.proofs.PairTexts.{row-high, row-value}

-- one word more
sum-next : (n : ℕ) (words : List (List ℕ)) (f : Family) (k : ℕ) → n < length words
    → sum_over (take (suc n) words) f k ≡ sum_over (take n words) f k +ℤ f (word_at words n) k
sum-next n [] f k below = absurd (omega arith)
sum-next zero (x ∷ words) f k below = omega (arith, ints)
sum-next (suc n) (x ∷ words) f k below = omega (arith, ints, sum-next n words f k (omega (arith, below)))

pub sum-more : (n : ℕ) (words : List (List ℕ)) (f : Family) (k : ℕ) → n < length words
    → sum_over (take (n + 1) words) f k ≡ sum_over (take n words) f k +ℤ f (word_at words n) k
sum-more n words f k below = rw add-one (sum-next n words f k below)

-- words that fail a test may be left out where their terms are 0
sum-filter : (test : List ℕ → Bool) (words : List (List ℕ)) (f : Family) (k : ℕ) → ((y : List ℕ) → test y ≡ false → f y k ≡ pos 0)
    → sum_over (filter test words) f k ≡ sum_over words f k
sum-filter test [] f k none = refl
sum-filter test (y ∷ words) f k none = go (test y) refl (sum-filter test words f k none)
  where
    go : (b : Bool) → test y ≡ b → sum_over (filter test words) f k ≡ sum_over words f k
        → sum_over (filter test (y ∷ words)) f k ≡ sum_over (y ∷ words) f k
    go true e rest = rw e (omega (arith, ints, rest))
    go false e rest = rw e (omega (arith, ints, none y e, rest))

-- the coefficients of a degree, summed up
sum-total : (words : List (List ℕ)) (f : Family) (k : ℕ) → sum_over words f k ≡ total (λ a b. a +ℤ b) (pos 0) (λ x. f x k) words
sum-total [] f k = refl
sum-total (y ∷ words) f k = ap (λ rest. f y k +ℤ rest) (sum-total words f k)

-- q^n times 0
pub power-none : (n : ℕ) (f : Coefficients) → ((k : ℕ) → f k ≡ pos 0) → (k : ℕ) → times_q_power n f k ≡ pos 0
power-none n f none k = omega (arith, ints, none-scaled (pos 1) n f none k)

-- the first sums
pub sums-prefix : (sums : List ℤ) (n : ℕ) (f : Coefficients) → n < length sums → ((k : ℕ) → coefficient sums k ≡ f k)
    → take (n + 1) sums ≡ coefficients_to n f
sums-prefix sums n f within values =
    fill_by_all f (take (n + 1) sums) (n + 1) (pos 0) (length-take-le (n + 1) sums (omega (arith, within)))
    (λ k below. get_or-take (n + 1) sums k (pos 0) below ∙ values k)

module _ (A : IntegerMatrix) (g : IsAdmissible A) where
  -- q^l(x) P(x,v) has no term of degree 256 or more, for x ≤ v of 255 letters at most
  pub term-degree : (x v : List ℕ) (q : List ℤ) (n k : ℕ) → word_length A v ≤ 255 → IsBelow A x v → IsKazhdanLusztig A x v (coefficient q)
      → n ≡ word_length A x → 256 ≤ k + n → coefficient q k ≡ pos 0
  term-degree x v q n k short below is size high =
      let no_longer = below-length A g below in
      ap (λ (f : Coefficients). f k) (row-value A g v (row_of A g v) (row_of-is A g v) x v (coefficient q) (same-refl A g v) is)
      ∙ row-high A g v (row_of A g v) (row_of-is A g v) x k (omega (arith, short, no_longer, size, high))
      (omega (arith, short, no_longer, size, high))

  module _ (w : List ℕ) (p : Family) (row : IsRow A w p) where
    -- a member that is added
    pub sum-added : (x : List ℕ) (old q : List ℤ) (n k : ℕ) → n ≡ word_length A x → IsKazhdanLusztig A x w (coefficient q)
        → coefficient_after old q (pos 1) n k ≡ plus (coefficient old) (times_q_power (word_length A x) (p x)) k
    sum-added x old q n k size is =
        ap (λ (f : Coefficients). plus (coefficient old) (scaled (pos 1) (times_q_power n f)) k)
        (row-value A g w p row x w (coefficient q) (same-refl A g w) is)
        ∙ ap (λ m. plus (coefficient old) (scaled (pos 1) (times_q_power m (p x))) k) size
        ∙ omega (arith, ints)

    -- the members up to that of w have the sum of the interval
    pub sum-interval : (members : List (List ℕ)) → IsClosed A members → (i : ℕ) → i < length members → word_at members i ≡ normal_form A w
        → (list : List (List ℕ)) → IsListOf (IsInInterval A w) list → (k : ℕ)
        → sum_over (take (i + 1) members) (λ x. times_q_power (word_length A x) (p x)) k
        ≡ sum_over list (λ x. times_q_power (word_length A x) (p x)) k
    sum-interval members closed i inside is list are k =
        let v = word_at members i in
        let kept = filter (λ x. is_below A x v) (take (i + 1) members) in
        let f : Family = λ x. times_q_power (word_length A x) (p x) in
        sym (sum-filter (λ x. is_below A x v) (take (i + 1) members) f k
        (λ y fails. power-none (word_length A y) (p y) (row.outside y (λ below. false≢true (sym fails
        ∙ (is_below-tells A g y v).1 (below-same A g (same-refl A g y)
        (same-sym A g (member-same A g members closed i inside w is)) below)))) k))
        ∙ sum-total kept f k
        ∙ first-same A g members closed i inside w is (λ a b. a +ℤ b) (pos 0) (λ a b c. omega (arith, ints)) (λ x. f x k) list are
        ∙ sym (sum-total list f k)
