-- The sums of (-1)^(l(z)-l(x)) P(x,z) q(z). The term of x itself is q(x), and the others are of longer elements. So over the elements below
-- w the sums determine q.
use Rattle.std.proofs.Common.{◌≡◌, ℕ, zero, suc, ◌+◌, ◌-◌, ◌<◌, ◌≤◌, Bool, true, false, if◌then◌else◌, List, ◌⊎◌, inl, inr, ⊎_elim}
use Rattle.std.proofs.Common.{pos, ◌+ℤ◌, refl, ap, sym, ◌∙◌, arith}
use Rattle.std.proofs.lemmas.Int.{ints}
use Rattle.std.proofs.lemmas.Bool.{cases_lt, false≢true}
use Rattle.cox_base.specs.IntegerMatrix.{IntegerMatrix}
use Rattle.cox_base.specs.Admissible.{IsAdmissible}
use Rattle.cox_base.specs.Element.{SameElement}
use Rattle.cox_base.specs.Length.{word_length}
use Rattle.cox_base.specs.Bruhat.{IsBelow}
use Rattle.cox_reflect.proofs.Search.{word_length-equal}
use Rattle.cox_reflect.proofs.Bruhat.{below-length, below-equal_length}
use Rattle.cox_poly.specs.Coefficients.{Coefficients, zero_polynomial, one_polynomial, plus}
use Rattle.cox_poly.specs.Products.{product}
use Rattle.cox_poly.proofs.Products.{product-zero, zero-product, one-product}
use Rattle.cox_rpoly.specs.Sign.{times_sign}
use Rattle.cox_rpoly.proofs.Signs.{times_sign-none}
use Rattle.cox_hecke.specs.Family.{Family, RespectsElements}
use Rattle.cox_hecke.specs.Sums.{sum_over}
use Rattle.cox_hecke.specs.Row.{IsRow}
use Rattle.cox_hecke.specs.ListedElements.{is_same, occurrences, ListsEach, LiesBetween}
use Rattle.cox_hecke.proofs.Signed.{respected}
use Rattle.cox_hecke.proofs.ListSums.{sum_over-equal, sum_over-plus, sum_over-one, sum_over-none, sum_over-named, sum_over-lists}
use Rattle.cox_hecke.proofs.ListSums.{same-is_same, is_same-same, is_same-respects}
use Rattle.cox_hecke.proofs.ElementLists.{below_or_not}
use Rattle.cox_hecke.proofs.OneRow.{between_or_not}
use Rattle.cox_hecke.proofs.AllRows.{row_of, row_of-is, row_of-same, row_of-value}
use Rattle.cox_inverse.specs.InverseRow.{signed_term}

module _ (A : IntegerMatrix) (g : IsAdmissible A) where
  -- an element above x is x or longer
  pub above-longer : {x z : List ℕ} → IsBelow A x z → (SameElement A x z → ⊥) → word_length A x < word_length A z
  above-longer {x} {z} b n = ⊎_elim (λ l. l)
      (λ (m : word_length A z ≤ word_length A x). absurd (n (below-equal_length A g b (omega (arith, m, below-length A g b)))))
      (cases_lt (word_length A x) (word_length A z))

  -- ---- terms

  -- (-1)^(l(z)-l(x)) P(x,z) q(z)
  abbrev pub term : Family → List ℕ → Family
  term q x = signed_term A (row_of A g) q x

  -- by any rows
  pub term-rows : (rows : List ℕ → Family) → ((z : List ℕ) → IsRow A z (rows z)) → (q : Family) (x z : List ℕ)
      → signed_term A rows q x z ≡ term q x z
  term-rows rows are q x z =
      ap (λ (f : Coefficients). times_sign (word_length A z - word_length A x) (product f (q z)))
      (sym (row_of-value A g z (rows z) (are z) x))

  -- of x itself
  pub term-own : (q : Family) (x z : List ℕ) → SameElement A x z → (k : ℕ) → term q x z k ≡ q z k
  term-own q x z e k =
      let none : word_length A z - word_length A x ≡ 0 = omega (arith, word_length-equal A g e)
      in let one : row_of A g z x ≡ one_polynomial = λ i k. ((row_of-is A g z).element x z e k ∙ (row_of-is A g z).top k) i
      in rw (none, one) (one-product (q z) k)

  -- of a z that is not above x
  pub term-apart : (q : Family) (x z : List ℕ) → (IsBelow A x z → ⊥) → (k : ℕ) → term q x z k ≡ pos 0
  term-apart q x z n k =
      let none : row_of A g z x ≡ zero_polynomial = λ i k. (row_of-is A g z).outside x n k i
      in let nothing : product zero_polynomial (q z) ≡ zero_polynomial = λ i k. zero-product (q z) k i
      in rw (none, nothing) (times_sign-none (word_length A z - word_length A x) k)

  -- where q is 0
  pub term-none : (q : Family) (x z : List ℕ) → ((k : ℕ) → q z k ≡ pos 0) → (k : ℕ) → term q x z k ≡ pos 0
  term-none q x z none k =
      let zero_there : q z ≡ zero_polynomial = λ i k. none k i
      in let nothing : product (row_of A g z x) zero_polynomial ≡ zero_polynomial = λ i k. product-zero (row_of A g z x) k i
      in rw (zero_there, nothing) (times_sign-none (word_length A z - word_length A x) k)

  -- by any words of z
  pub term-respects : (q : Family) → RespectsElements A q → (x : List ℕ) → RespectsElements A (term q x)
  term-respects q r x y z e k = rw (word_length-equal A g e, row_of-same A g y z e, respected A g r e) refl

  -- by any words of x
  pub term-same : (q : Family) (x y z : List ℕ) → SameElement A x y → (k : ℕ) → term q x z k ≡ term q y z k
  term-same q x y z e k = rw (word_length-equal A g e, respected A g (row_of-is A g z).element e) refl

  -- ---- sums

  -- over any list that names each element between x and w once
  pub term_sum-lists : (w : List ℕ) (q : Family) → RespectsElements A q → ((z : List ℕ) → (IsBelow A z w → ⊥) → (k : ℕ) → q z k ≡ pos 0)
      → (x : List ℕ) (ys zs : List (List ℕ))
      → ((z : List ℕ) → LiesBetween A x w z → occurrences A z ys ≡ 1) → ((z : List ℕ) → LiesBetween A x w z → occurrences A z zs ≡ 1)
      → (k : ℕ) → sum_over ys (term q x) k ≡ sum_over zs (term q x) k
  term_sum-lists w q r outside x ys zs once_ys once_zs k =
      sum_over-lists A g ys zs (term q x) k (term-respects q r x) (λ z. go z (between_or_not A g x w z))
    where
      go : (z : List ℕ) → LiesBetween A x w z ⊎ ((IsBelow A x z → ⊥) ⊎ (IsBelow A z w → ⊥))
          → (term q x z k ≡ pos 0) ⊎ ((occurrences A z ys ≡ occurrences A z zs) × (occurrences A z zs ≤ 1))
      go z (inl b) = inr (once_ys z b ∙ sym (once_zs z b), omega (arith, once_zs z b))
      go z (inr (inl n)) = inl (term-apart q x z n k)
      go z (inr (inr n)) = inl (term-none q x z (outside z n) k)

  -- the term of z, unless z is x
  abbrev pub other_term : Family → List ℕ → Family
  other_term q x z = if is_same A x z then zero_polynomial else term q x z

  -- the term of x, and the others
  pub term_sum-split : (words : List (List ℕ)) (q : Family) → RespectsElements A q → (x : List ℕ) → occurrences A x words ≡ 1
      → (k : ℕ) → sum_over words (term q x) k ≡ q x k +ℤ sum_over words (other_term q x) k
  term_sum-split words q r x once k =
      sum_over-equal words (term q x) (λ z. plus (own z) (other_term q x z)) k (λ z. parts z (is_same A x z) refl)
      ∙ sum_over-plus words own (other_term q x) k
      ∙ omega (arith, ints, rw once at (sum_over-one A g words x q k r))
    where
      own : Family
      own z = if is_same A x z then q z else zero_polynomial

      parts : (z : List ℕ) (b : Bool) → is_same A x z ≡ b → term q x z k ≡ own z k +ℤ other_term q x z k
      parts z true e = rw e (omega (arith, ints, term-own q x z (is_same-same A g x z e) k))
      parts z false e = rw e (omega (arith, ints))

  -- the other terms by any word of x
  pub other_term-same : (q : Family) (x y z : List ℕ) → SameElement A x y → (k : ℕ) → other_term q x z k ≡ other_term q y z k
  other_term-same q x y z e k = rw (is_same-respects A g z e) (go (is_same A y z))
    where
      go : (b : Bool) → (if b then zero_polynomial else term q x z) k ≡ (if b then zero_polynomial else term q y z) k
      go true = refl
      go false = term-same q x y z e k

  -- ---- over the elements below w

  module _ (w : List ℕ) (words : List (List ℕ)) (each : ListsEach A (λ z. IsBelow A z w) words) where
    -- what the list names is below w
    pub named-below : (z : List ℕ) → (occurrences A z words ≡ 0 → ⊥) → IsBelow A z w
    named-below z some = ⊎_elim (λ b. b) (λ (n : IsBelow A z w → ⊥). absurd (some (each.no_other z n))) (below_or_not A g z w)

    -- the other terms are of longer elements alone
    pub other_terms-equal : (q r : Family) (x : List ℕ) (k : ℕ)
        → ((z : List ℕ) → IsBelow A z w → word_length A x < word_length A z → (k : ℕ) → q z k ≡ r z k)
        → sum_over words (other_term q x) k ≡ sum_over words (other_term r x) k
    other_terms-equal q r x k longer =
        sum_over-named A g words (other_term q x) (other_term r x) k (λ z some. go z (named-below z some) (is_same A x z) refl)
      where
        go : (z : List ℕ) → IsBelow A z w → (b : Bool) → is_same A x z ≡ b → other_term q x z k ≡ other_term r x z k
        go z c true e = rw e refl
        go z c false e = rw e (⊎_elim above (λ (n : IsBelow A x z → ⊥). term-apart q x z n k ∙ sym (term-apart r x z n k))
            (below_or_not A g x z))
          where
            above : IsBelow A x z → term q x z k ≡ term r x z k
            above b =
                let equal : q z ≡ r z
                = λ i k. longer z c (above-longer b (λ same. false≢true (sym e ∙ same-is_same A g same))) k i
                in rw equal refl

    -- and where those are 0, the others add up to 0
    pub other_terms-none : (q : Family) (x : List ℕ) (k : ℕ)
        → ((z : List ℕ) → IsBelow A z w → IsBelow A x z → word_length A x < word_length A z → term q x z k ≡ pos 0)
        → sum_over words (other_term q x) k ≡ pos 0
    other_terms-none q x k none =
        sum_over-named A g words (other_term q x) (λ z. zero_polynomial) k (λ z some. go z (named-below z some) (is_same A x z) refl)
        ∙ sum_over-none words (λ z. zero_polynomial) k (λ z. refl)
      where
        go : (z : List ℕ) → IsBelow A z w → (b : Bool) → is_same A x z ≡ b → other_term q x z k ≡ pos 0
        go z c true e = rw e refl
        go z c false e = rw e (⊎_elim
            (λ (b : IsBelow A x z). none z c b (above-longer b (λ same. false≢true (sym e ∙ same-is_same A g same))))
            (λ (n : IsBelow A x z → ⊥). term-apart q x z n k) (below_or_not A g x z))

    -- the sums determine a family below w
    pub term_sums-determine : (q r : Family) → RespectsElements A q → RespectsElements A r
        → ((x : List ℕ) → IsBelow A x w → (k : ℕ) → sum_over words (term q x) k ≡ sum_over words (term r x) k)
        → (x : List ℕ) → IsBelow A x w → (k : ℕ) → q x k ≡ r x k
    term_sums-determine q r respects_q respects_r sums x b = by (suc (word_length A w)) x (omega arith) b
      where
        by : (m : ℕ) (x : List ℕ) → word_length A w < word_length A x + m → IsBelow A x w → (k : ℕ) → q x k ≡ r x k
        by zero x l b k = absurd (omega (arith, l, below-length A g b))
        by (suc m) x l b k =
            let rest = other_terms-equal q r x k (λ z c longer. by m z (omega (arith, l, longer)) c)
            in omega (
              arith,
              ints,
              sums x b k,
              term_sum-split words q respects_q x (each.once x b) k,
              term_sum-split words r respects_r x (each.once x b) k,
              rest,
            )
