-- Sums over more and more words: the first words of a list, one more, and all.
use Rattle.std.proofs.Common.{◌≡◌, ℕ, zero, suc, ◌+◌, ◌*◌, ◌^◌, ◌<◌, ◌≤◌, List, [], ◌∷◌, ◌++◌, length, take, set}
use Rattle.std.proofs.Common.{ℤ, unsigned_abs, ◌+ℤ◌, ◌-ℤ◌}
use Rattle.std.proofs.Common.{refl, ap, sym, ◌∙◌, arith, ⊎_elim}
use Rattle.std.proofs.lemmas.Int.{ints}
use Rattle.std.proofs.lemmas.Bool.{cases_lt, cases_eq}
use Rattle.std.proofs.lemmas.List.{take_more, get_or_past, length-set, get_or-set_same, get_or-set_other}
use Rattle.std.proofs.lemmas.List.Edits.{swap_is}
use Rattle.std.proofs.lemmas.List.Sorted.{IsPermutation-keeps}
use Rattle.std.specs.Prelude.{IsPermutation}
use Rattle.std.specs.List.{swap}
use Rattle.cox_base.specs.IntegerMatrix.{IntegerMatrix}
use Rattle.cox_poly.specs.Coefficients.{Coefficients, plus}
use Rattle.cox_poly.specs.Polynomial.{coefficient}
use Rattle.cox_poly.specs.Products.{product}
use Rattle.cox_rpoly.specs.RPolynomial.{r_polynomial}
use Rattle.cox_rpoly.specs.Terms.{numbered}
use Rattle.cox_hecke.specs.Family.{Family}
use Rattle.cox_hecke.specs.Sums.{sum_over}
use Rattle.cox_context.specs.Numbers.{word_at}
use Rattle.cox_rowcheck.specs.MemberFamily.{family_of}
use Rattle.cox_rowcheck.specs.Columns.{IsColumn}
use Rattle.cox_rowcheck.specs.MemberSums.{HasAdded, AreZeros, AreSums}

sum_over-append : (xs ys : List (List ℕ)) (f : Family) (k : ℕ) → sum_over (xs ++ ys) f k ≡ sum_over xs f k +ℤ sum_over ys f k
sum_over-append [] ys f k = omega (arith, ints)
sum_over-append (x ∷ xs) ys f k = omega (arith, ints, sum_over-append xs ys f k)

sum_over-more : (words : List (List ℕ)) (n : ℕ) (f : Family) (k : ℕ) → n < length words
    → sum_over (take (n + 1) words) f k ≡ sum_over (take n words) f k +ℤ f (word_at words n) k
sum_over-more words n f k l =
    rw (take_more words n [] l) (omega (arith, ints, sum_over-append (take n words) (word_at words n ∷ []) f k))

module _ (A : IntegerMatrix) (members : List (List ℕ)) (polynomials : List (List ℤ)) where
  -- over no words the sums are 0
  pub sums-none : (sums : List (List ℤ)) (n : ℕ) → n ≡ length members → AreZeros n sums → AreSums A members polynomials [] sums
  sums-none sums n count zeros = record { size = zeros.size ∙ count; value = λ i k _. zeros.zero i k }

  -- one word y more: R(x,y) p was added at each member x, and p is p(y)
  pub sums-more : (words : List (List ℕ)) (n : ℕ) (old new column : List (List ℤ)) (p : List ℤ) → n < length words
      → AreSums A members polynomials (take n words) old
      → coefficient p ≡ family_of A members polynomials (word_at words n)
      → length new ≡ length old → IsColumn A members (word_at words n) column
      → ((i : ℕ) → i < length old → HasAdded (numbered old i) (numbered new i) (numbered column i) p)
      → AreSums A members polynomials (take (n + 1) words) new
  sums-more words n old new column p l sums same size is each = record {
    size = size ∙ sums.size;
    value = λ i k inside.
        let x : List ℕ = word_at members i
        in let y : List ℕ = word_at words n
        in let one : coefficient (numbered new i) k
        ≡ plus (coefficient (numbered old i)) (product (coefficient (numbered column i)) (coefficient p)) k
        = (each i (omega (arith, inside, sums.size))).value k
        in let factor : product (coefficient (numbered column i)) (coefficient p) k
        ≡ product (r_polynomial A x y) (family_of A members polynomials y) k
        = ap (λ (f : Coefficients). product f (coefficient p) k) (λ a b. is.value i b inside a)
        ∙ ap (λ (f : Coefficients). product (r_polynomial A x y) f k) same
        in let more = sum_over-more words n (λ y. product (r_polynomial A x y) (family_of A members polynomials y)) k l
        in omega (arith, ints, one, factor, more, sums.value i k inside);
  }

-- ---- the same words in another order

sum_over-set : (xs : List (List ℕ)) (i : ℕ) (y : List ℕ) (f : Family) (k : ℕ) → i < length xs
    → sum_over (set xs i y) f k ≡ (sum_over xs f k -ℤ f (word_at xs i) k) +ℤ f y k
sum_over-set [] i y f k l = absurd (omega (arith, l))
sum_over-set (x ∷ xs) zero y f k l = omega (arith, ints)
sum_over-set (x ∷ xs) (suc i) y f k l = omega (arith, ints, sum_over-set xs i y f k (omega (arith, l)))

sum_over-swap_two : (xs : List (List ℕ)) (i j : ℕ) (f : Family) (k : ℕ) → i < length xs → j < length xs
    → sum_over (swap xs i j) f k ≡ sum_over xs f k
sum_over-swap_two xs i j f k l m =
    let second = sum_over-set (set xs i (word_at xs j)) j (word_at xs i) f k (omega (arith, m, length-set xs i (word_at xs j)))
    in let first = sum_over-set xs i (word_at xs j) f k l
    in sym (ap (λ (ys : List (List ℕ)). sum_over ys f k) (swap_is xs i j [] l m))
    ∙ omega (arith, ints, first, second, ap (λ (y : List ℕ). f y k) there)
  where
    there : word_at (set xs i (word_at xs j)) j ≡ word_at xs j
    there = ⊎_elim
        (λ (e : j ≡ i). ap (λ (n : ℕ). word_at (set xs i (word_at xs j)) n) e ∙ get_or-set_same xs i (word_at xs j) [] l)
        (λ (n : j ≡ i → ⊥). get_or-set_other xs i j (word_at xs j) [] n)
        (cases_eq j i)

-- a sum does not ask for the order
pub sums-reordered : (A : IntegerMatrix) (members : List (List ℕ)) (polynomials : List (List ℤ)) (words others : List (List ℕ))
    (sums : List (List ℤ)) → IsPermutation words others → AreSums A members polynomials others sums
    → AreSums A members polynomials words sums
sums-reordered A members polynomials words others sums moved are = record {
  size = are.size;
  value = λ i k l. are.value i k l ∙ same (λ y. product (r_polynomial A (word_at members i) y) (family_of A members polynomials y)) k;
}
  where
    same : (f : Family) (k : ℕ) → sum_over others f k ≡ sum_over words f k
    same f k = IsPermutation-keeps words (λ (l : List (List ℕ)). sum_over l f k ≡ sum_over words f k) refl
        (λ l i j i_in j_in e. sum_over-swap_two l i j f k i_in j_in ∙ e) others moved

-- no sum grew by more than 2^100
pub sums-grown : (old new column : List (List ℤ)) (p : List ℤ) (n : ℕ) → length new ≡ length old
    → ((i k : ℕ) → unsigned_abs (coefficient (numbered old i) k) ≤ n * 2 ^ 100)
    → ((i : ℕ) → i < length old → HasAdded (numbered old i) (numbered new i) (numbered column i) p)
    → (i k : ℕ) → unsigned_abs (coefficient (numbered new i) k) ≤ (n + 1) * 2 ^ 100
sums-grown old new column p n size small each i k = ⊎_elim
    (λ (l : i < length old). omega (arith, (each i l).grown k, small i k))
    (λ (l : length old ≤ i). rw (get_or_past new i [] (omega (arith, size, l))) (omega arith))
    (cases_lt i (length old))
