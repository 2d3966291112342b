-- The places of labels in their list.
use Rattle.std.proofs.Common.{◌≡◌, ℕ, zero, suc, ◌+◌, ◌-◌, ◌*◌, ◌/◌, ◌<◌, ◌≤◌, arith, suc-add, zero-add, refl}
use Rattle.std.proofs.Math.Nat.{mul-le-mul}
use Rattle.cox_base.specs.declared.limits.TheConstants.{MAX_RANK, MAX_LABELS}
use Rattle.cox_base.specs.Matrix.{labels_before, place}

-- twice the number of labels in the first r rows
pub labels_before-twice : (n r : ℕ) → r ≤ n → 2 * labels_before n r + r * (r + 1) ≡ 2 * (n * r)
unfolding labels_before
labels_before-twice n zero h = omega arith
labels_before-twice n (suc r) h = let before = labels_before-twice n r (omega arith) in grind arith

-- the first rows have no more labels than more rows
pub labels_before-more : (n r k : ℕ) → labels_before n r ≤ labels_before n (k + r)
unfolding labels_before
labels_before-more n r zero = rw zero-add (omega arith)
labels_before-more n r (suc k) = let less = labels_before-more n r k in rw suc-add (omega arith)

-- all rows
pub labels_before-all : (n : ℕ) → labels_before n n ≡ n * (n - 1) / 2
unfolding labels_before
labels_before-all zero = refl
labels_before-all (suc n) =
    let twice = labels_before-twice (suc n) (suc n) (omega arith) in
    let doubled : 2 * labels_before (suc n) (suc n) ≡ suc n * (suc n - 1) = grind arith in
    omega arith

-- the rows of a matrix have at most as many labels as the greatest rank
pub labels_before-limit : (n r : ℕ) → n ≤ MAX_RANK → labels_before n r ≤ MAX_RANK * r
unfolding labels_before
labels_before-limit n zero limit = omega arith
labels_before-limit n (suc r) limit = let before = labels_before-limit n r limit in omega arith

-- one more row
pub labels_before-next : (n r : ℕ) → 1 ≤ r → labels_before n (r - 1) + (n - r) ≡ labels_before n r
unfolding labels_before
labels_before-next n zero from_one = absurd (omega arith)
labels_before-next n (suc r) from_one = let before : suc r - 1 ≡ r = omega arith in rw before

-- the place of a label, by the rows before its own
pub place-next : (n r t : ℕ) → place n (suc r) t ≡ labels_before n r + (t - suc r - 1)
unfolding place
place-next n r t = let before : suc r - 1 ≡ r = omega arith in rw before

-- the label of s and t stands among those of the row of s
pub place-row : (n s t : ℕ) → 1 ≤ s → s < t → t ≤ n → place n s t < labels_before n s
unfolding place
place-row n s t from_one rising to_rank = omega (arith, labels_before-next n s from_one)

-- it stands in the list
pub place-within : (n s t : ℕ) → 1 ≤ s → s < t → t ≤ n → place n s t < n * (n - 1) / 2
place-within n s t from_one rising to_rank =
    let whole : n - s + s ≡ n = omega arith in
    let more = rw whole at (labels_before-more n s (n - s)) in
    omega (arith, place-row n s t from_one rising to_rank, more, labels_before-all n)

-- a matrix has at most as many labels as one of the greatest rank
pub labels_before-small : (n r : ℕ) → n ≤ MAX_RANK → r ≤ n → labels_before n r ≤ MAX_LABELS
labels_before-small n r limit row =
    let whole : n - r + r ≡ n = omega arith in
    let more = rw whole at (labels_before-more n r (n - r)) in
    let fewer : n - 1 ≤ MAX_RANK - 1 = omega arith in
    let most : n * (n - 1) ≤ MAX_RANK * (MAX_RANK - 1) = mul-le-mul limit fewer in
    omega (arith, more, labels_before-all n)
