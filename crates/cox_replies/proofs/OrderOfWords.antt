-- Lists that are sorted by the ShortLex order of words, and the order of two members by their first letters.
use Rattle.std.proofs.Common.{◌≡◌, ◌≢◌, ℕ, ◌≤◌, ◌<◌, false, List, [], ◌∷◌, length, get_or, ◌⊎◌, inl, inr, ⊎_elim}
use Rattle.std.proofs.Common.{Ordering, Less, Equal, Greater, nat_cmp, is_lt, eqb, All, IsPermutation, refl, ap, sym, ◌∙◌, arith}
use Rattle.std.specs.List.{AllPairs}
use Rattle.std.specs.List.Sorted.{IsSortedByKey, IsNonDecreasing}
use Rattle.std.specs.Cmp.Lexicographic.{slice_cmp}
use Rattle.std.proofs.lemmas.Bool.{cases_lt, false≢true}
use Rattle.std.proofs.lemmas.Bool.Decides.{Decides-eqb, nat_tests}
use Rattle.std.proofs.lemmas.Cmp.{nat_list_cmp_total, tied_itself}
use Rattle.std.proofs.lemmas.List.{get_or-map, length-map}
use Rattle.std.proofs.lemmas.List.Sorted.{sorted_far, ranks_by}
use Rattle.std.proofs.lemmas.Map.Keys.{IsDistinct-IsPermutation}
use Rattle.std.proofs.lemmas.Map.Made.{AllPairs-from_IsDistinct, IsDistinct-from_AllPairs}
use Rattle.cox_base.specs.IntegerMatrix.{IntegerMatrix}
use Rattle.cox_base.specs.Admissible.{IsAdmissible}
use Rattle.cox_base.specs.ShortLex.{normal_form, shortlex_cmp}
use Rattle.cox_base.specs.SortedList.{IsRising}
use Rattle.cox_reflect.specs.LeastDescent.{IsLeastLeftDescent}
use Rattle.cox_reflect.proofs.NormalForm.{normal_form-descent}
use Rattle.cox_reflect.proofs.ShortLexFirst.{IsBefore, before_cases, before-shortlex_cmp}
use Rattle.cox_context.specs.Closed.{IsClosed}
use Rattle.cox_context.specs.Numbers.{word_at}
use Rattle.cox_context.proofs.RisingMembers.{shortlex_total}
use Rattle.cox_context.proofs.Shifting.{element-at, first-member}
use Rattle.cox_replies.specs.Putting.{words_at}

-- ---- sorted lists

-- of two words neither equal nor the second before the first, the first comes before
pub before-not_less : (v w : List ℕ) → v ≢ w → is_lt (shortlex_cmp w v) ≡ false → shortlex_cmp v w ≡ Less
before-not_less v w differ not_less = go (before_cases v w)
  where
    go : (v ≡ w) ⊎ (IsBefore v w ⊎ IsBefore w v) → shortlex_cmp v w ≡ Less
    go (inl e) = absurd (differ e)
    go (inr (inl b)) = before-shortlex_cmp b
    go (inr (inr b)) = absurd (false≢true (sym not_less ∙ ap is_lt (before-shortlex_cmp b)))

module _ {X : Type 0} (word : X → List ℕ) (xs : List X) where
  -- where the words differ, a sorted list of them rises
  pub sorted-rising : IsSortedByKey word shortlex_cmp xs → AllPairs (λ x y. word x ≢ word y) xs
      → AllPairs (λ x y. shortlex_cmp (word x) (word y) ≡ Less) xs
  sorted-rising sorted differ i j d less within =
      before-not_less (word (get_or xs i d)) (word (get_or xs j d)) (differ i j d less within)
      (sorted_far (λ x y. is_lt (shortlex_cmp (word x) (word y))) (ranks_by shortlex_total word) xs sorted i j d
      (omega (arith, less)) within)

-- the words with numbers that stand so
pub words-rising : (members : List (List ℕ)) (numbers : List ℕ)
    → AllPairs (λ x y. shortlex_cmp (word_at members x) (word_at members y) ≡ Less) numbers → IsRising (words_at members numbers)
words-rising members numbers rising i j less within =
    let l : j < length numbers = omega (arith, within, length-map numbers (λ i. word_at members i)) in
    rw (get_or-map (λ k. word_at members k) numbers i 0 [] (omega (arith, less, l)), get_or-map (λ k. word_at members k) numbers j 0 [] l)
    (rising i j 0 less l)

-- where the words are in order, so are those with rising numbers
pub numbers-rising : (members : List (List ℕ)) → IsRising members → (numbers : List ℕ) → All (λ x. x < length members) numbers
    → AllPairs (λ x y. x ≢ y) numbers → IsNonDecreasing numbers
    → AllPairs (λ x y. shortlex_cmp (word_at members x) (word_at members y) ≡ Less) numbers
numbers-rising members rising numbers within distinct sorted i j d less l =
    let up : get_or numbers i d ≤ get_or numbers j d = sorted i j d (omega (arith, less)) l in
    let apart : get_or numbers i d ≡ get_or numbers j d → ⊥ = distinct i j d less l in
    rising (get_or numbers i d) (get_or numbers j d) (omega (arith, up, apart)) (within j d l)

-- ---- distinct numbers

-- numbers that are distinct stay so in another order
pub distinct-permuted : (old new : List ℕ) → IsPermutation old new → AllPairs (λ x y. x ≢ y) old → AllPairs (λ x y. x ≢ y) new
distinct-permuted old new moved distinct =
    AllPairs-from_IsDistinct Decides-eqb new
    (IsDistinct-IsPermutation eqb flips old new moved (IsDistinct-from_AllPairs Decides-eqb old distinct))
  where
    flips : (x y : ℕ) → eqb x y ≡ eqb y x
    flips x y = grind (arith, nat_tests)

-- ---- members by their first letters

module _ (A : IntegerMatrix) (g : IsAdmissible A) (members : List (List ℕ)) (closed : IsClosed A members) where
  -- distinct numbers are those of distinct words
  pub differ-words : (numbers : List ℕ) → All (λ x. x < length members) numbers → AllPairs (λ x y. x ≢ y) numbers
      → AllPairs (λ x y. word_at members x ≢ word_at members y) numbers
  differ-words numbers within distinct i j d less l =
      λ e. distinct i j d less l
      (closed.distinct (get_or numbers i d) (get_or numbers j d) (within i d (omega (arith, less, l))) (within j d l) e)

  -- a member begins with its least left descent
  pub first-descent : (i lower s : ℕ) → i < length members → IsLeastLeftDescent A (word_at members i) s
      → word_at members lower ≡ normal_form A (s ∷ word_at members i) → word_at members i ≡ s ∷ word_at members lower
  first-descent i lower s inside least is =
      sym (element-at A g members closed i inside).normal
      ∙ normal_form-descent A g (word_at members i) s least.descent (λ t l d. let k = least.least t d in omega (arith, k, l))
      ∙ ap (λ (w : List ℕ). s ∷ w) (sym is)

  -- of two members of one length neither is the identity
  pub some-letters : (i j : ℕ) → i < length members → j < length members → length (word_at members i) ≡ length (word_at members j)
      → i ≢ j → 0 < i
  some-letters i j m n size differ = ⊎_elim (λ some. some) (λ (none : i ≤ 0). absurd (differ (zero (omega (arith, none))))) (cases_lt 0 i)
    where
      empty : (w : List ℕ) → length w ≡ 0 → w ≡ []
      empty [] e = refl
      empty (s ∷ w) e = absurd (omega (arith, e))

      zero : i ≡ 0 → i ≡ j
      zero e =
          let first : word_at members i ≡ [] = rw e (first-member A g members closed) in
          let other : length (word_at members j) ≡ 0 = sym size ∙ ap length first in
          closed.distinct i j m n (first ∙ sym (empty (word_at members j) other))

-- ---- words by their first letters

pub same-letters : (v w : List ℕ) → v ≡ w → slice_cmp nat_cmp v w ≡ Equal
same-letters v w e = rw e (tied_itself nat_list_cmp_total w)

-- two words that begin with the same letter
pub next-letters : (s t : ℕ) (v w : List ℕ) → nat_cmp s t ≡ Equal → slice_cmp nat_cmp (s ∷ v) (t ∷ w) ≡ slice_cmp nat_cmp v w
next-letters s t v w e = rw e refl

-- two words that begin with letters that differ
pub first-letters : (s t : ℕ) (v w : List ℕ) (order : Ordering) → nat_cmp s t ≡ order → order ≢ Equal
    → slice_cmp nat_cmp (s ∷ v) (t ∷ w) ≡ order
first-letters s t v w Less e differ = rw e refl
first-letters s t v w Equal e differ = absurd (differ refl)
first-letters s t v w Greater e differ = rw e refl
