-- The labels of the named types, row by row.
use Rattle.std.proofs.Common.{◌≡◌, ℕ, zero, suc, ◌+◌, ◌-◌, ◌<◌, ◌≤◌, ◌==◌, ◌&&◌, ◌||◌, nat_le, Bool, true, false, if◌then◌else◌, IsTrue}
use Rattle.std.proofs.Common.{List, [], ◌∷◌, ◌++◌, map, length, slice_index, All, arith, refl, ◌∙◌, length-append, append_assoc, rules}
use Rattle.std.proofs.Common.{⊎_elim}
use Rattle.std.specs.List.{range_with_len}
use Rattle.std.proofs.lemmas.List.FromFn.{length-map-range_with_len, get_or-map-range_with_len, map-range_with_len_more}
use Rattle.std.proofs.lemmas.List.Elements.{All-append, All-map}
use Rattle.std.proofs.lemmas.Bool.{cases_eq}
use Rattle.std.proofs.lemmas.Bool.Decides.{nat_tests}
use Rattle.std.proofs.lemmas.List.{get_or_append_left, get_or-append_right, append-nil}
use Rattle.cox_base.specs.declared.limits.TheConstants.{MAX_RANK}
use Rattle.cox_base.specs.Matrix.{is_label, labels_before, place, label}
use Rattle.cox_base.specs.Admissible.{IsCoxeterMatrix}
use Rattle.cox_base.specs.NamedType.{rows_above, is_type, type_rank, type_label, type_matrix}
use Rattle.cox_base.proofs.LabelPlaces.{labels_before-more, labels_before-all, place-row, place-next}
use Rattle.cox_base.proofs.Entries.{label-above}

-- a list with a part of a row behind it
pub length-with_row : (xs ys : List ℕ) (f : ℕ → ℕ) (a n : ℕ) → ys ≡ xs ++ map f (range_with_len a n) → length ys ≡ length xs + n
length-with_row xs ys f a n e = rw (e, length-append, length-map-range_with_len)

-- one more label of the row
pub with_row-more : (xs ys zs : List ℕ) (f : ℕ → ℕ) (a t label : ℕ) → ys ≡ xs ++ map f (range_with_len a (t - a)) → a ≤ t
    → zs ≡ ys ++ label ∷ [] → label ≡ f t → zs ≡ xs ++ map f (range_with_len a (t + 1 - a))
with_row-more xs ys zs f a t label before from pushed is =
    let count : t + 1 - a ≡ t - a + 1 = omega arith in
    let at_t : a + (t - a) ≡ t = omega arith in
    rw (pushed, before, is, count, map-range_with_len_more f a (t - a) t at_t, append_assoc)

-- how many labels there are in the first rows
pub length-rows_above : (n : ℕ) (f : ℕ → ℕ → ℕ) (r : ℕ) → length (rows_above n f r) ≡ labels_before n r
unfolding rows_above labels_before
length-rows_above n f zero = refl
length-rows_above n f (suc r) = rw (length-append, length-rows_above n f r, length-map-range_with_len)

-- one more row
pub rows_above-next : (n : ℕ) (f : ℕ → ℕ → ℕ) (r : ℕ) → 1 ≤ r
    → rows_above n f r ≡ rows_above n f (r - 1) ++ map (f r) (range_with_len (r + 1) (n - r))
unfolding rows_above
rows_above-next n f zero from_one = absurd (omega arith)
rows_above-next n f (suc r) from_one = let before : suc r - 1 ≡ r = omega arith in rw before

-- the last row is empty
pub rows_above-last : (n : ℕ) (f : ℕ → ℕ → ℕ) → 1 ≤ n → rows_above n f n ≡ rows_above n f (n - 1)
rows_above-last n f from_one =
    let none : n - n ≡ 0 = omega arith in
    rows_above-next n f n from_one ∙ rw (none, append-nil)

-- each label of the rows has what f gives
pub rows_above-All : (P : ℕ → Type 0) (n : ℕ) (f : ℕ → ℕ → ℕ) (r : ℕ) → ((s t : ℕ) → P (f s t)) → All P (rows_above n f r)
unfolding rows_above
rows_above-All P n f zero each = search rules
rows_above-All P n f (suc r) each =
    All-append P _ _ (rows_above-All P n f r each) (All-map P (f (suc r)) (range_with_len (suc r + 1) (n - suc r))
    (λ k d h. each (suc r) _))

-- the label of s and t stands at its place, in the last of the rows
rows_above-row : (n : ℕ) (f : ℕ → ℕ → ℕ) (r t : ℕ) → suc r < t → t ≤ n
    → slice_index (rows_above n f (suc r)) (place n (suc r) t) ≡ f (suc r) t
unfolding rows_above
rows_above-row n f r t rising to_rank =
    let stands = place-next n r t in
    get_or-append_right (rows_above n f r) _ (labels_before n r) (place n (suc r) t) 0 (length-rows_above n f r) (omega arith)
    ∙ get_or-map-range_with_len (f (suc r)) (suc r + 1) (n - suc r) (place n (suc r) t - labels_before n r) t 0 (omega arith) (omega arith)

-- a later row leaves it there
rows_above-kept : (n : ℕ) (f : ℕ → ℕ → ℕ) (r s t : ℕ) → 1 ≤ s → s < t → t ≤ n → s ≤ r
    → slice_index (rows_above n f (suc r)) (place n s t) ≡ slice_index (rows_above n f r) (place n s t)
unfolding rows_above
rows_above-kept n f r s t from_one rising to_rank row =
    let whole : r - s + s ≡ r = omega arith in
    let more = rw whole at (labels_before-more n s (r - s)) in
    get_or_append_left (rows_above n f r) _ 0 (place n s t) (omega (
      arith,
      place-row n s t from_one rising to_rank,
      more,
      length-rows_above n f r,
    ))

-- the label of s and t stands at its place
pub rows_above-place : (n : ℕ) (f : ℕ → ℕ → ℕ) (s t r : ℕ) → 1 ≤ s → s < t → t ≤ n → s ≤ r
    → slice_index (rows_above n f r) (place n s t) ≡ f s t
rows_above-place n f s t zero from_one rising to_rank row = absurd (omega arith)
rows_above-place n f s t (suc r) from_one rising to_rank row =
    ⊎_elim (λ last. let e : s ≡ suc r = last in rw e (rows_above-row n f r t (omega arith) to_rank))
    (λ apart. rows_above-kept n f r s t from_one rising to_rank (omega (arith, apart))
    ∙ rows_above-place n f s t r from_one rising to_rank (omega (arith, apart)))
    (cases_eq s (suc r))

-- a choice of two labels that are admitted
admitted-if : (b : Bool) (m k : ℕ) → IsTrue (is_label m) → IsTrue (is_label k) → IsTrue (is_label (if b then m else k))
admitted-if true m k first second = first
admitted-if false m k first second = second

-- each label of a type is admitted
type_label-admitted : (letter n s t : ℕ) → IsTrue (is_label (type_label letter n s t))
type_label-admitted letter n s t =
    let chain = admitted-if (t == s + 1) 3 2 refl refl in
    admitted-if (letter == 65) _ _ chain (
    admitted-if (letter == 66) _ _ (admitted-if (s + 1 == n && t == n) 4 _ refl chain) (
    admitted-if (letter == 68) _ _ (admitted-if (t == n) _ _ (admitted-if (s + 2 == n) 3 2 refl refl) chain) (
    admitted-if (letter == 69) _ _ (admitted-if ((s == 1 && t == 3) || (s == 2 && t == 4)) 3 _ refl
    (admitted-if (nat_le s 2) 2 _ refl chain)) (
    admitted-if (letter == 70) _ _ (admitted-if (s == 2 && t == 3) 4 _ refl chain) (
    admitted-if (letter == 71) 6 _ refl (
    admitted-if (n == 1) 0 _ refl (admitted-if (s == 1 && t == n + 1) 3 _ refl chain)))))))

-- the rank of a type
pub type_rank-some : (letter n : ℕ) → IsTrue (is_type letter n) → 1 ≤ type_rank letter n
type_rank-some letter n typed = grind (arith, nat_tests)

pub type_rank-limit : (letter n : ℕ) → IsTrue (is_type letter n) → type_rank letter n ≤ MAX_RANK
type_rank-limit letter n typed = grind (arith, nat_tests)

-- the matrix of a type is a Coxeter matrix
pub type_matrix-IsCoxeterMatrix : (letter n : ℕ) → IsTrue (is_type letter n) → IsCoxeterMatrix (type_matrix letter n)
unfolding type_matrix
type_matrix-IsCoxeterMatrix letter n typed =
    let rank = type_rank letter n in
    record {
      some = type_rank-some letter n typed;
      count = length-rows_above rank (type_label letter n) rank ∙ labels_before-all rank;
      admitted = rows_above-All (λ m. IsTrue (is_label m)) rank (type_label letter n) rank (type_label-admitted letter n);
    }

-- the matrix of a type, by its rows but for the last
pub type_matrix-rows : (letter n rank s : ℕ) (labels : List ℕ) → rank ≡ type_rank letter n → 1 ≤ rank → s ≡ rank
    → labels ≡ rows_above rank (type_label letter n) (s - 1) → record { rank = rank; labels = labels } ≡ type_matrix letter n
unfolding type_matrix
type_matrix-rows letter n rank s labels ranked from_one end rows =
    rw (rows, end, ← rows_above-last rank (type_label letter n) from_one, ranked)

-- the labels of the matrix of a type
pub label-type_matrix : (letter n s t : ℕ) → 1 ≤ s → s < t → t ≤ type_rank letter n
    → label (type_matrix letter n) s t ≡ type_label letter n s t
unfolding type_matrix
label-type_matrix letter n s t from_one rising to_rank =
    let rank = type_rank letter n in
    label-above (type_matrix letter n) s t rising
    ∙ rows_above-place rank (type_label letter n) s t rank from_one rising to_rank (omega arith)
