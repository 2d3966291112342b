-- Rows: their last condition over any list that names the elements between x and w once, and that no element has two. For the difference of
-- two rows of w at a longest x where it is not 0 the condition says that it is itself turned round, against the bound on its degree.
use Rattle.std.proofs.Common.{◌≡◌, ℕ, zero, suc, ◌+◌, ◌-◌, ◌*◌, ◌≤◌, ◌<◌, Bool, true, false, if◌then◌else◌, List, ◌⊎◌, inl, inr, ⊎_elim}
use Rattle.std.proofs.Common.{pos, ◌-ℤ◌, refl, ap, sym, ◌∙◌, subst, arith}
use Rattle.std.proofs.lemmas.Int.{ints}
use Rattle.std.proofs.lemmas.Bool.{cases_lt, false≢true}
use Rattle.cox_base.specs.IntegerMatrix.{IntegerMatrix}
use Rattle.cox_base.specs.Admissible.{IsAdmissible}
use Rattle.cox_base.specs.Element.{SameElement}
use Rattle.cox_base.specs.Length.{word_length}
use Rattle.cox_base.specs.Bruhat.{IsBelow}
use Rattle.cox_reflect.proofs.Elements.{same-refl, same-sym}
use Rattle.cox_reflect.proofs.Search.{word_length-equal}
use Rattle.cox_reflect.proofs.Bruhat.{below-same, below-trans, below-length, below-equal_length}
use Rattle.cox_poly.specs.Coefficients.{Coefficients, zero_polynomial, one_polynomial}
use Rattle.cox_poly.specs.Products.{flip, product}
use Rattle.cox_poly.specs.Multiples.{minus}
use Rattle.cox_poly.proofs.Coefficients.{flip_at, flip-none}
use Rattle.cox_poly.proofs.Products.{product_of_none, product-zero, one-product}
use Rattle.cox_rpoly.specs.RPolynomial.{r_polynomial}
use Rattle.cox_rpoly.proofs.PolynomialsOfElements.{r_polynomial-not_below, r_polynomial-equal}
use Rattle.cox_hecke.specs.Family.{Family, RespectsElements}
use Rattle.cox_hecke.specs.Sums.{bar_sum}
use Rattle.cox_hecke.specs.Row.{IsRow}
use Rattle.cox_hecke.specs.ListedElements.{is_same, occurrences, LiesBetween}
use Rattle.cox_hecke.proofs.ListSums.{sum_over-equal, sum_over-none, sum_over-one, sum_over-lists, same-is_same}
use Rattle.cox_hecke.proofs.ElementLists.{Tells-ListsEach, below_list, below_or_not, sorted_between, sorted-once}
use Rattle.cox_hecke.proofs.BarSums.{bar_term-respects}
use Rattle.cox_hecke.proofs.Balance.{Balanced, Balanced-minus, bar_sum-minus}

-- a polynomial of a degree below n/2 that is itself when turned round in degree n is 0
flip_low : (n : ℕ) (f : Coefficients) → ((k : ℕ) → n ≤ 2 * k → f k ≡ pos 0) → ((k : ℕ) → flip n f k ≡ f k) → (k : ℕ) → f k ≡ pos 0
flip_low n f low same k = ⊎_elim
    (λ (l : 2 * k < n). sym (same k) ∙ flip_at f n k (n - k) (omega arith) ∙ low (n - k) (omega arith))
    (λ (l : n ≤ 2 * k). low k l)
    (cases_lt (2 * k) n)

pub one_above : (k : ℕ) → 0 < k → one_polynomial k ≡ pos 0
one_above zero l = absurd (omega arith)
one_above (suc k) l = refl

module _ (A : IntegerMatrix) (g : IsAdmissible A) where
  pub between_or_not : (x w y : List ℕ) → LiesBetween A x w y ⊎ ((IsBelow A x y → ⊥) ⊎ (IsBelow A y w → ⊥))
  between_or_not x w y = ⊎_elim
      (λ (b : IsBelow A x y). ⊎_elim (λ (c : IsBelow A y w). inl (record { above = b; below = c })) (λ (n : IsBelow A y w → ⊥). inr (inr n))
      (below_or_not A g y w))
      (λ (n : IsBelow A x y → ⊥). inr (inl n)) (below_or_not A g x y)

  -- ---- a family that is 0 outside the elements below w

  module _ (w : List ℕ) (f : Family) (outside : (x : List ℕ) → (IsBelow A x w → ⊥) → (k : ℕ) → f x k ≡ pos 0) where
    pub outside_path : (x : List ℕ) → (IsBelow A x w → ⊥) → f x ≡ zero_polynomial
    outside_path x n = λ i k. outside x n k i

    -- the terms outside are 0
    pub term-none : (x y : List ℕ) (k : ℕ) → (IsBelow A x y → ⊥) ⊎ (IsBelow A y w → ⊥) → product (r_polynomial A x y) (f y) k ≡ pos 0
    term-none x y k (inl n) = product_of_none (r_polynomial A x y) (f y) (r_polynomial-not_below A g x y n) k
    term-none x y k (inr n) = rw (outside_path y n) (product-zero (r_polynomial A x y) k)

    pub bar_sum-none : (words : List (List ℕ)) (x : List ℕ) → (IsBelow A x w → ⊥) → bar_sum A words f x ≡ zero_polynomial
    bar_sum-none words x n = λ i k. sum_over-none words (λ y. product (r_polynomial A x y) (f y)) k (λ y. term-none x y k (apart y)) i
      where
        apart : (y : List ℕ) → (IsBelow A x y → ⊥) ⊎ (IsBelow A y w → ⊥)
        apart y = ⊎_elim (λ (b : LiesBetween A x w y). absurd (n (below-trans A g b.above b.below))) (λ c. c) (between_or_not x w y)

    pub bar_sum-lists : RespectsElements A f → (x : List ℕ) (ys zs : List (List ℕ))
        → ((y : List ℕ) → LiesBetween A x w y → occurrences A y ys ≡ 1) → ((y : List ℕ) → LiesBetween A x w y → occurrences A y zs ≡ 1)
        → (k : ℕ) → bar_sum A ys f x k ≡ bar_sum A zs f x k
    bar_sum-lists r x ys zs once_ys once_zs k =
        sum_over-lists A g ys zs (λ y. product (r_polynomial A x y) (f y)) k (bar_term-respects A g x f r)
        (λ y. ⊎_elim (λ (b : LiesBetween A x w y). inr (once_ys y b ∙ sym (once_zs y b), omega (arith, once_zs y b)))
        (λ c. inl (term-none x y k c)) (between_or_not x w y))

  -- ---- the conditions of a row, with any list

  module _ (w : List ℕ) (p : Family) (row : IsRow A w p) where
    -- at the elements that are no shorter than w it is as at w, or 0
    pub row-long : (x : List ℕ) → word_length A w ≤ word_length A x → (k : ℕ) → 0 < k → p x k ≡ pos 0
    row-long x l k some = ⊎_elim
        (λ (b : IsBelow A x w). row.element x w (below-equal_length A g b (omega (arith, l, below-length A g b))) k ∙ row.top k
        ∙ one_above k some)
        (λ (n : IsBelow A x w → ⊥). row.outside x n k)
        (below_or_not A g x w)

    pub row-longer : (x : List ℕ) → word_length A w < word_length A x → (k : ℕ) → p x k ≡ pos 0
    row-longer x l = row.outside x (λ b. omega (arith, l, below-length A g b))

    pub row-other : (x : List ℕ) → word_length A w ≤ word_length A x → (SameElement A x w → ⊥) → (k : ℕ) → p x k ≡ pos 0
    row-other x l n = row.outside x (λ b. n (below-equal_length A g b (omega (arith, l, below-length A g b))))

    -- the last condition, over any list that names each element between x and w once
    pub row-bar : (x : List ℕ) (words : List (List ℕ)) → IsBelow A x w
        → ((y : List ℕ) → LiesBetween A x w y → occurrences A y words ≡ 1)
        → (k : ℕ) → flip (word_length A w - word_length A x) (p x) k ≡ bar_sum A words p x k
    row-bar x words b once k =
        let list = sorted_between A g x w
        in row.bar x list.0 b list.1 k
        ∙ bar_sum-lists w p row.outside row.element x list.0 words (sorted-once A g x w list.0 list.1) once k

    pub row-balanced : (words : List (List ℕ)) → ((y : List ℕ) → IsBelow A y w → occurrences A y words ≡ 1)
        → Balanced A (word_length A w) p (bar_sum A words p)
    row-balanced words once = record {
      none = λ x l. outside_path w p row.outside x (λ b. omega (arith, l, below-length A g b));
      none_sum = λ x l. bar_sum-none w p row.outside words x (λ b. omega (arith, l, below-length A g b));
      low = λ x d near k above. ⊎_elim
          (λ (l : word_length A x < word_length A w). row.degree x k l (omega (arith, near, above)))
          (λ (l : word_length A w ≤ word_length A x). row-long x l k (omega (arith, above)))
          (cases_lt (word_length A x) (word_length A w));
      turned = λ x d e. ⊎_elim (λ (b : IsBelow A x w). turned x d e b)
          (λ (n : IsBelow A x w → ⊥). ap (flip d) (outside_path w p row.outside x n) ∙ flip-none d
          ∙ sym (bar_sum-none w p row.outside words x n))
          (below_or_not A g x w);
    }
      where
        turned : (x : List ℕ) (d : ℕ) → word_length A w ≡ word_length A x + d → IsBelow A x w → flip d (p x) ≡ bar_sum A words p x
        turned x d e b =
            let difference : word_length A w - word_length A x ≡ d = omega (arith, e)
            in λ i k. (ap (λ (d : ℕ). flip d (p x) k) (sym difference) ∙ row-bar x words b (λ y c. once y c.below) k) i

  -- and back
  pub row-from : (w : List ℕ) (f : Family) (words : List (List ℕ)) → RespectsElements A f
      → ((x : List ℕ) → (IsBelow A x w → ⊥) → (k : ℕ) → f x k ≡ pos 0) → ((k : ℕ) → f w k ≡ one_polynomial k)
      → ((x : List ℕ) (k : ℕ) → word_length A x < word_length A w → word_length A w ≤ word_length A x + 2 * k → f x k ≡ pos 0)
      → ((y : List ℕ) → IsBelow A y w → occurrences A y words ≡ 1) → Balanced A (word_length A w) f (bar_sum A words f) → IsRow A w f
  row-from w f words respects outside top degree once balanced = record {
    element = respects;
    outside = outside;
    top = top;
    degree = degree;
    bar = λ x between b are k.
        ap (λ (h : Coefficients). h k) (balanced.turned x (word_length A w - word_length A x) (omega (arith, below-length A g b)))
        ∙ bar_sum-lists w f outside respects x words between (λ y c. once y c.below)
        (sorted-once A g x w between are) k;
  }

  -- a row of w is that of each of its words
  pub row-same : (v w : List ℕ) (p : Family) → SameElement A v w → IsRow A v p → IsRow A w p
  row-same v w p e row =
      let list = below_list A g v
      in let size : word_length A v ≡ word_length A w = word_length-equal A g e
      in let once : (y : List ℕ) → IsBelow A y v → occurrences A y list.0 ≡ 1 = (Tells-ListsEach A (λ y. IsBelow A y v) list.0 list.1).once
      in row-from w p list.0 row.element (λ x n. row.outside x (λ b. n (below-same A g (same-refl A g x) e b)))
      (λ k. row.element w v (same-sym A g e) k ∙ row.top k)
      (λ x k l m. row.degree x k (omega (arith, l, size)) (omega (arith, m, size)))
      (λ y b. once y (below-same A g (same-refl A g y) (same-sym A g e) b))
      (subst (λ (n : ℕ). Balanced A n p (bar_sum A list.0 p)) size (row-balanced v p row list.0 once))

  -- ---- at most one

  module _ (w : List ℕ) (p r : Family) (row_p : IsRow A w p) (row_r : IsRow A w r) where
    words : List (List ℕ)
    words = (below_list A g w).0

    once : (y : List ℕ) → IsBelow A y w → occurrences A y words ≡ 1
    unfolding words
    once = (Tells-ListsEach A (λ y. IsBelow A y w) (below_list A g w).0 (below_list A g w).1).once

    difference : Family
    difference x = minus (p x) (r x)

    difference-at : (x : List ℕ) (k : ℕ) → difference x k ≡ p x k -ℤ r x k
    unfolding difference
    difference-at x k = refl

    difference-respects : RespectsElements A difference
    unfolding difference
    difference-respects x y e k = omega (arith, ints, row_p.element x y e k, row_r.element x y e k)

    outside : (x : List ℕ) → (IsBelow A x w → ⊥) → (k : ℕ) → difference x k ≡ pos 0
    outside x n k = omega (arith, ints, difference-at x k, row_p.outside x n k, row_r.outside x n k)

    balanced : Balanced A (word_length A w) difference (bar_sum A words difference)
    unfolding difference
    balanced =
        subst (λ (G : Family). Balanced A (word_length A w) difference G) (λ i x. sym (bar_sum-minus A words p r x) i)
        (Balanced-minus A (word_length A w) (row-balanced w p row_p words once) (row-balanced w r row_r words once))

    -- where it is 0 at all longer elements
    differ_at : (x : List ℕ) → ((y : List ℕ) → word_length A x < word_length A y → (k : ℕ) → difference y k ≡ pos 0)
        → (k : ℕ) → difference x k ≡ pos 0
    differ_at x longer k = ⊎_elim
        (λ (b : IsBelow A x w). ⊎_elim (λ (l : word_length A x < word_length A w). inside b l k)
        (λ (l : word_length A w ≤ word_length A x). at_top (below-equal_length A g b (omega (arith, l, below-length A g b))) k)
        (cases_lt (word_length A x) (word_length A w)))
        (λ (n : IsBelow A x w → ⊥). outside x n k)
        (below_or_not A g x w)
      where
        at_top : SameElement A x w → (k : ℕ) → difference x k ≡ pos 0
        at_top e k =
            omega (arith, ints, difference-at x k, row_p.element x w e k, row_r.element x w e k, row_p.top k, row_r.top k)

        term : (k : ℕ) (y : List ℕ) → product (r_polynomial A x y) (difference y) k
            ≡ (if is_same A x y then product (r_polynomial A x y) (difference y) else zero_polynomial) k
        term k y = go (is_same A x y) refl
          where
            nothing : (SameElement A x y → ⊥) → product (r_polynomial A x y) (difference y) k ≡ pos 0
            nothing n = ⊎_elim
                (λ (b : IsBelow A x y).
                let l : word_length A x < word_length A y
                = ⊎_elim (λ l. l) (λ (m : word_length A y ≤ word_length A x).
                absurd (n (below-equal_length A g b (omega (arith, m, below-length A g b)))))
                (cases_lt (word_length A x) (word_length A y))
                in let none : difference y ≡ zero_polynomial = λ i k. longer y l k i
                in rw none (product-zero (r_polynomial A x y) k))
                (λ (n : IsBelow A x y → ⊥). term-none w difference outside x y k (inl n))
                (below_or_not A g x y)

            go : (b : Bool) → is_same A x y ≡ b → product (r_polynomial A x y) (difference y) k
                ≡ (if is_same A x y then product (r_polynomial A x y) (difference y) else zero_polynomial) k
            go true e = rw e refl
            go false e = rw e (nothing (λ same. false≢true (sym e ∙ same-is_same A g same)))

        sum : IsBelow A x w → (k : ℕ) → bar_sum A words difference x k ≡ difference x k
        sum b k =
            sum_over-equal words (λ y. product (r_polynomial A x y) (difference y))
            (λ y. if is_same A x y then product (r_polynomial A x y) (difference y) else zero_polynomial) k (term k)
            ∙ sum_over-one A g words x (λ y. product (r_polynomial A x y) (difference y)) k
            (bar_term-respects A g x difference difference-respects)
            ∙ rw (once x b, r_polynomial-equal A g (same-refl A g x)) (omega (arith, ints, one-product (difference x) k))

        inside : IsBelow A x w → word_length A x < word_length A w → (k : ℕ) → difference x k ≡ pos 0
        inside b l = flip_low (word_length A w - word_length A x) (difference x)
            (λ k m. omega (arith, ints, difference-at x k, row_p.degree x k l (omega (arith, m)), row_r.degree x k l (omega (arith, m))))
            (λ k. ap (λ (h : Coefficients). h k) (balanced.turned x (word_length A w - word_length A x) (omega (arith, l))) ∙ sum b k)

    differ_nowhere : (m : ℕ) (x : List ℕ) → word_length A w < word_length A x + m → (k : ℕ) → difference x k ≡ pos 0
    differ_nowhere zero x l = outside x (λ b. omega (arith, l, below-length A g b))
    differ_nowhere (suc m) x l = differ_at x (λ y longer. differ_nowhere m y (omega (arith, l, longer)))

    pub row-unique : (x : List ℕ) (k : ℕ) → p x k ≡ r x k
    row-unique x k =
        omega (arith, ints, difference-at x k, differ_nowhere (suc (word_length A w)) x (omega arith) k)
