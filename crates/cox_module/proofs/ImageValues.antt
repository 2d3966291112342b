-- Images by places are the action on functions of the elements of a cell.
use Rattle.std.proofs.Common.{◌≡◌, ◌≢◌, ℕ, zero, suc, ◌≤◌, ◌<◌, Bool, true, false, if◌then◌else◌, List, [], ◌∷◌, length, map}
use Rattle.std.proofs.Common.{◌⊎◌, inl, inr, ⊎_elim, ℤ, pos, ◌+ℤ◌, ◌*ℤ◌, refl, ap, ap₂, sym, ◌∙◌, arith}
use Rattle.std.specs.Prelude.{All}
use Rattle.std.proofs.lemmas.Int.{ints}
use Rattle.std.proofs.lemmas.Bool.{cases_order, false≢true}
use Rattle.std.proofs.lemmas.List.{get_or-map, length-map}
use Rattle.std.proofs.lemmas.List.Elements.{All-head, All-tail}
use Rattle.cox_base.specs.Matrix.{IsLetter, IsWord}
use Rattle.cox_base.specs.IntegerMatrix.{IntegerMatrix}
use Rattle.cox_base.specs.Admissible.{IsAdmissible}
use Rattle.cox_base.specs.Element.{SameElement}
use Rattle.cox_base.specs.Length.{word_length}
use Rattle.cox_reflect.proofs.Elements.{same-refl, same-sym, same-trans, same-equal}
use Rattle.cox_reflect.proofs.Search.{normal_form-equal}
use Rattle.cox_poly.specs.Coefficients.{Coefficients, zero_polynomial, plus, times_q}
use Rattle.cox_poly.specs.Multiples.{negated, scaled}
use Rattle.cox_rpoly.specs.InverseOperators.{shortens_left}
use Rattle.cox_hecke.specs.Family.{Family, RespectsElements}
use Rattle.cox_hecke.specs.ListedElements.{is_same, occurrences}
use Rattle.cox_hecke.specs.Sums.{sum_over}
use Rattle.cox_hecke.proofs.Signed.{respected}
use Rattle.cox_hecke.proofs.Descents.{shortens_left-same, nat_lt-yes, yes-nat_lt, no-nat_lt, nat_lt-no}
use Rattle.cox_hecke.proofs.ListSums.{sum_over-lists, sum_over-named, sum_over-one, sum_over-plus, sum_over-times_q}
use Rattle.cox_hecke.proofs.ListSums.{same-is_same, not_same-is_same, is_same-same, occurrences-absent, occurrences-at}
use Rattle.cox_context.specs.Numbers.{word_at}
use Rattle.cox_module.specs.declared.term.Entry.{Entry}
use Rattle.cox_module.specs.declared.term.Entry.TheVariants.{Minus, Square, Half}
use Rattle.cox_module.specs.declared.term.Term.{Term}
use Rattle.cox_module.specs.FreeModule.{Vector, times_entry}
use Rattle.cox_module.specs.Images.{IsEntry, IsTerm, term, term_at, IsImage, AreImages}
use Rattle.cox_module.proofs.ActionOnFunctions.{only_if, through, through_word}
use Rattle.cox_module.proofs.LinearFunctions.{value_at, value_word}
use Rattle.cox_module.proofs.LinearOperators.{times_q-linear}
use Rattle.cox_module.proofs.Occurrences.{StandsIn, standing_or_not, named-standing}
use Rattle.cox_module.proofs.Entries.{entry_or_not}
use Rattle.cox_module.proofs.EdgeWeights.{weight, weight-none, weight-value, weight-joined, weight-same, weight_or_not, through-respects}
use Rattle.cox_module.proofs.PlaceFunctions.{as_family, as_family-respects, as_family-at}

plus-zero : (c : Coefficients) → plus c zero_polynomial ≡ c
plus-zero c = λ i k. at (c k) i
  where
    at : (a : ℤ) → a +ℤ pos 0 ≡ a
    at a = omega (arith, ints)

zero-plus : (c : Coefficients) → plus zero_polynomial c ≡ c
zero-plus c = λ i k. at (c k) i
  where
    at : (a : ℤ) → pos 0 +ℤ a ≡ a
    at a = omega (arith, ints)

scaled-zero : (c : Coefficients) → times_q (scaled (pos 0) c) ≡ zero_polynomial
scaled-zero c = λ i k. at k i
  where
    at : (k : ℕ) → times_q (scaled (pos 0) c) k ≡ pos 0
    at zero = refl
    at (suc k) = omega (arith, ints)

module _ (A : IntegerMatrix) (g : IsAdmissible A) (cell : List (List ℕ))
    (distinct : (i j : ℕ) → i < length cell → j < length cell → SameElement A (word_at cell i) (word_at cell j) → i ≡ j) where
  once_at : (y : List ℕ) (i : ℕ) → i < length cell → SameElement A y (word_at cell i) → occurrences A y cell ≡ 1
  once_at y i l e = occurrences-at A g cell y i l e (λ j m e'. distinct j i m l (same-trans A g (same-sym A g e') e))

  is_same-second : (x : List ℕ) {y z : List ℕ} → SameElement A y z → is_same A x y ≡ is_same A x z
  is_same-second x e = rw (normal_form-equal A g e) refl

  -- ---- one image

  module _ (f : Vector) (s k : ℕ) (l : k < length cell) where
    x : List ℕ
    x = word_at cell k

    value : Family
    value = as_family A g cell f

    -- what y adds to the value of f at t(s) x: its entry times f(y)
    part_for : Bool → Family
    part_for b y = if b then only_if (is_same A (word_at cell k) y) (negated (as_family A g cell f y))
        else plus (only_if (is_same A (word_at cell k) y) (times_q (times_q (as_family A g cell f y))))
        (times_q (scaled (weight A g s (word_at cell k) y) (as_family A g cell f y)))

    part : Family
    part = part_for (shortens_left A s (word_at cell k))

    part-respects : RespectsElements A part
    unfolding part part_for
    part-respects y z e j =
        rw (
          is_same-second (word_at cell k) e,
          respected A g (as_family-respects A g cell f) e,
          weight-same A g s (same-refl A g (word_at cell k)) e,
        ) refl

    -- an entry gives its part
    entry-part : (p : ℕ) (e : Entry) → p < length cell → IsEntry A s (word_at cell k) (word_at cell p) e
        → times_entry e (f p) ≡ part (word_at cell p)
    unfolding part part_for
    entry-part p Minus m is =
        rw (nat_lt-yes is.1, same-is_same A g (same-equal A g is.0), as_family-at A g cell distinct f p m) refl
    entry-part p Square m is =
        let rises : shortens_left A s (word_at cell k) ≡ false
        = nat_lt-no (word_length A (s ∷ word_at cell k)) (word_length A (word_at cell k)) is.1
        in let apart : weight A g s (word_at cell k) (word_at cell p) ≡ pos 0
        = weight-none A g s (word_at cell k) (word_at cell p) (ap (shortens_left A s) (sym is.0) ∙ rises)
        in rw (rises, same-is_same A g (same-equal A g is.0), apart, as_family-at A g cell distinct f p m)
        (sym (ap (plus (times_q (times_q (f p)))) (scaled-zero (f p)) ∙ plus-zero (times_q (times_q (f p)))))
    entry-part p (Half n) m is =
        let rises : shortens_left A s (word_at cell k) ≡ false
        = nat_lt-no (word_length A (s ∷ word_at cell k)) (word_length A (word_at cell k)) is.0
        in let other : is_same A (word_at cell k) (word_at cell p) ≡ false
        = not_same-is_same A g (word_at cell k) (word_at cell p)
        (λ same. false≢true (sym rises ∙ shortens_left-same A g s same ∙ nat_lt-yes is.1))
        in rw (rises, other, weight-value A g s (word_at cell k) (word_at cell p) n is.1 is.2.value, as_family-at A g cell distinct f p m)
        (sym (times_q-linear.of_scaled n (f p)) ∙ sym (zero-plus (times_q (scaled n (f p)))))

    -- where there is no entry, there is no part
    part-none : (p : ℕ) → p < length cell → ((e : Entry) → IsEntry A s (word_at cell k) (word_at cell p) e → ⊥)
        → part (word_at cell p) ≡ zero_polynomial
    unfolding part part_for
    part-none p m none = go (shortens_left A s (word_at cell k)) refl (is_same A (word_at cell k) (word_at cell p)) refl
        (weight_or_not A g s (word_at cell k) (word_at cell p))
      where
        equal : is_same A (word_at cell k) (word_at cell p) ≡ true → word_at cell k ≡ word_at cell p
        equal e = ap (word_at cell) (distinct k p l m (is_same-same A g (word_at cell k) (word_at cell p) e))

        go : (b : Bool) → shortens_left A s (word_at cell k) ≡ b → (c : Bool) → is_same A (word_at cell k) (word_at cell p) ≡ c
            → (weight A g s (word_at cell k) (word_at cell p) ≡ pos 0) ⊎ (weight A g s (word_at cell k) (word_at cell p) ≢ pos 0)
            → part_for b (word_at cell p) ≡ zero_polynomial
        go true e true h w =
            absurd (none Minus (equal h, yes-nat_lt (word_length A (s ∷ word_at cell k)) (word_length A (word_at cell k)) e))
        go true e false h w = rw h refl
        go false e true h w =
            absurd (none Square (equal h, no-nat_lt (word_length A (s ∷ word_at cell k)) (word_length A (word_at cell k)) e))
        go false e false h (inl z) =
            rw (h, z) (zero-plus (times_q (scaled (pos 0) (as_family A g cell f (word_at cell p))))
            ∙ scaled-zero (as_family A g cell f (word_at cell p)))
        go false e false h (inr some) =
            let joined = weight-joined A g s (word_at cell k) (word_at cell p) some
            in absurd (none (Half joined.1.0)
            (no-nat_lt (word_length A (s ∷ word_at cell k)) (word_length A (word_at cell k)) e, joined.0, joined.1.1))

    word_of : Term → List ℕ
    word_of t = word_at cell t.place

    -- the terms give a sum of parts
    terms-parts : (terms : List Term) → All (λ (t : Term). t.place < length cell) terms → All (IsTerm A cell s (word_at cell k)) terms
        → value_at f terms ≡ sum_over (map word_of terms) part
    unfolding word_of
    terms-parts [] within each = refl
    terms-parts (t ∷ terms) within each =
        ap₂ (λ (a b : Coefficients). plus a b)
        (entry-part t.place t.entry (All-head (λ (u : Term). u.place < length cell) t terms within)
        (All-head (IsTerm A cell s (word_at cell k)) t terms each))
        (terms-parts terms (All-tail (λ (u : Term). u.place < length cell) t terms within)
        (All-tail (IsTerm A cell s (word_at cell k)) t terms each))

    module _ (image : List Term) (is : IsImage A cell s k image) where
      within_at : (i : ℕ) → i < length image → (term_at image i).place < length cell
      within_at i m = is.before i (term 0 Minus) m

      word-at : (i : ℕ) → i < length image → word_at (map word_of image) i ≡ word_at cell (term_at image i).place
      unfolding word_of
      word-at i m = get_or-map (λ (t : Term). word_at cell t.place) image i (term 0 Minus) [] m

      size : length (map word_of image) ≡ length image
      size = length-map image word_of

      one_place : (i j : ℕ) → i < length image → j < length image → (term_at image i).place ≡ (term_at image j).place → i ≡ j
      one_place i j m n e = ⊎_elim (λ (q : i ≡ j). q)
          (λ side. ⊎_elim (λ (less : i < j). let r = is.rising i j less n in absurd (omega (arith, r, e)))
          (λ (more : j < i). let r = is.rising j i more m in absurd (omega (arith, r, e))) side)
          (cases_order i j)

      listed : (y : List ℕ) (j : ℕ) → j < length cell → SameElement A y (word_at cell j)
          → (i : ℕ) × (i < length image) × ((term_at image i).place ≡ j) → occurrences A y (map word_of image) ≡ 1
      listed y j m same found = occurrences-at A g (map word_of image) y found.0 (omega (arith, found.1, size))
          (rw (word-at found.0 found.1, found.2) same)
          (λ i n other.
          let o : i < length image = omega (arith, n, size)
          in let e : (term_at image i).place ≡ j
          = distinct (term_at image i).place j (within_at i o) m
          (same-trans A g (same-sym A g (rw (word-at i o) at other)) same)
          in one_place i found.0 o found.1 (e ∙ sym found.2))

      -- an element that has a part stands in the image as in the cell
      counted : (y : List ℕ) (j : ℕ)
          → (part y j ≡ pos 0) ⊎ ((occurrences A y (map word_of image) ≡ occurrences A y cell) × (occurrences A y cell ≤ 1))
      counted y j = ⊎_elim inside outside (standing_or_not A g cell y)
        where
          outside : ((i : ℕ) → i < length cell → SameElement A y (word_at cell i) → ⊥)
              → (part y j ≡ pos 0) ⊎ ((occurrences A y (map word_of image) ≡ occurrences A y cell) × (occurrences A y cell ≤ 1))
          outside none =
              let here : occurrences A y cell ≡ 0 = occurrences-absent A g cell y none
              in let there : occurrences A y (map word_of image) ≡ 0 = occurrences-absent A g (map word_of image) y
              (λ i n same. let o : i < length image = omega (arith, n, size)
              in none (term_at image i).place (within_at i o) (rw (word-at i o) at same))
              in inr (there ∙ sym here, omega (arith, here))

          inside : StandsIn A cell y
              → (part y j ≡ pos 0) ⊎ ((occurrences A y (map word_of image) ≡ occurrences A y cell) × (occurrences A y cell ≤ 1))
          inside p = ⊎_elim
              (λ (found : (e : Entry) × IsEntry A s (word_at cell k) (word_at cell p.place) e).
              let here = once_at y p.place p.within p.same
              in inr (listed y p.place p.within p.same (is.whole p.place found.0 p.within found.1) ∙ sym here, omega (arith, here)))
              (λ (none : (e : Entry) → IsEntry A s (word_at cell k) (word_at cell p.place) e → ⊥).
              inl (part-respects y (word_at cell p.place) p.same j
              ∙ ap (λ (c : Coefficients). c j) (part-none p.place p.within none)))
              (entry_or_not A g s (word_at cell k) (word_at cell p.place))

      in_cell : value_at f image ≡ sum_over cell part
      in_cell = terms-parts image is.before is.each
          ∙ (λ i j. sum_over-lists A g (map word_of image) cell part j part-respects (λ y. counted y j) i)

      -- x itself counts once
      own : (c : Family) → RespectsElements A c → (j : ℕ)
          → sum_over cell (λ y. only_if (is_same A (word_at cell k) y) (c y)) j ≡ c (word_at cell k) j
      own c r j =
          let one = once_at (word_at cell k) k l (same-refl A g (word_at cell k))
          in sum_over-one A g cell (word_at cell k) c j r ∙ rw one (unit (c (word_at cell k) j))
        where
          unit : (a : ℤ) → pos 1 *ℤ a ≡ a
          unit a = omega (arith, ints)

      -- an image gives the action
      pub image-value : value_at f image ≡ through A (weight A g) cell s (as_family A g cell f) (word_at cell k)
      unfolding part part_for
      image-value = in_cell ∙ go (shortens_left A s (word_at cell k))
        where
          respects : RespectsElements A (as_family A g cell f)
          respects = as_family-respects A g cell f

          go : (b : Bool) → sum_over cell (part_for b)
              ≡ (if b then negated (as_family A g cell f (word_at cell k))
              else plus (times_q (times_q (as_family A g cell f (word_at cell k))))
              (times_q (sum_over cell (λ y. scaled (weight A g s (word_at cell k) y) (as_family A g cell f y)))))
          go true = λ i j. own (λ y. negated (as_family A g cell f y))
              (λ y z e n. ap (λ (c : Coefficients). negated c n) (respected A g respects e)) j i
          go false = λ i j. at j i
            where
              at : (j : ℕ) → sum_over cell (λ y. plus (only_if (is_same A (word_at cell k) y) (times_q (times_q (as_family A g cell f y))))
                  (times_q (scaled (weight A g s (word_at cell k) y) (as_family A g cell f y)))) j
                  ≡ plus (times_q (times_q (as_family A g cell f (word_at cell k))))
                  (times_q (sum_over cell (λ y. scaled (weight A g s (word_at cell k) y) (as_family A g cell f y)))) j
              at j =
                  sum_over-plus cell (λ y. only_if (is_same A (word_at cell k) y) (times_q (times_q (as_family A g cell f y))))
                  (λ y. times_q (scaled (weight A g s (word_at cell k) y) (as_family A g cell f y))) j
                  ∙ ap₂ (λ (a b : ℤ). a +ℤ b)
                  (own (λ y. times_q (times_q (as_family A g cell f y)))
                  (λ y z e n. ap (λ (c : Coefficients). times_q (times_q c) n) (respected A g respects e)) j)
                  (sum_over-times_q cell (λ y. scaled (weight A g s (word_at cell k) y) (as_family A g cell f y)) j)

  -- ---- along words

  -- functions that agree at the elements of the cell
  AgreeOnCell : Family → Family → Type 0
  AgreeOnCell F G = (y : List ℕ) → (occurrences A y cell ≡ 0 → ⊥) → F y ≡ G y

  agree-through : (F G : Family) → AgreeOnCell F G → (s : ℕ)
      → AgreeOnCell (through A (weight A g) cell s F) (through A (weight A g) cell s G)
  unfolding AgreeOnCell
  agree-through F G same s x some = go (shortens_left A s x)
    where
      sums : sum_over cell (λ y. scaled (weight A g s x y) (F y)) ≡ sum_over cell (λ y. scaled (weight A g s x y) (G y))
      sums = λ n k. sum_over-named A g cell (λ y. scaled (weight A g s x y) (F y)) (λ y. scaled (weight A g s x y) (G y)) k
          (λ y named. ap (λ (c : Coefficients). scaled (weight A g s x y) c k) (same y named)) n

      go : (b : Bool)
          → (if b then negated (F x) else plus (times_q (times_q (F x))) (times_q (sum_over cell (λ y. scaled (weight A g s x y) (F y)))))
          ≡ (if b then negated (G x) else plus (times_q (times_q (G x))) (times_q (sum_over cell (λ y. scaled (weight A g s x y) (G y)))))
      go true = ap negated (same x some)
      go false = ap₂ (λ (a b : Coefficients). plus (times_q (times_q a)) (times_q b)) (same x some) sums

  agree-word : (u : List ℕ) (F G : Family) → AgreeOnCell F G
      → AgreeOnCell (through_word A (weight A g) cell u F) (through_word A (weight A g) cell u G)
  agree-word [] F G same = same
  agree-word (s ∷ u) F G same =
      agree-word u (through A (weight A g) cell s F) (through A (weight A g) cell s G) (agree-through F G same s)

  module _ (images : ℕ → ℕ → List Term) (are : AreImages A cell images) where
    one_letter : (s : ℕ) → IsLetter A.rank s → (f : Vector)
        → AgreeOnCell (as_family A g cell (λ i. value_at f (images s i))) (through A (weight A g) cell s (as_family A g cell f))
    unfolding AgreeOnCell
    one_letter s letter f y some =
        let p = named-standing A g cell y some
        in respected A g (as_family-respects A g cell (λ i. value_at f (images s i))) p.same
        ∙ as_family-at A g cell distinct (λ i. value_at f (images s i)) p.place p.within
        ∙ image-value f s p.place p.within (images s p.place) (are s p.place letter p.within)
        ∙ sym (respected A g (through-respects A g cell s (as_family A g cell f) (as_family-respects A g cell f)) p.same)

    pub word-value : (u : List ℕ) → IsWord A.rank u → (f : Vector) (k : ℕ) → k < length cell
        → value_word images u f k ≡ through_word A (weight A g) cell u (as_family A g cell f) (word_at cell k)
    unfolding AgreeOnCell
    word-value [] w f k l = sym (as_family-at A g cell distinct f k l)
    word-value (s ∷ u) w f k l =
        let one = once_at (word_at cell k) k l (same-refl A g (word_at cell k))
        in word-value u (All-tail (IsLetter A.rank) s u w) (λ i. value_at f (images s i)) k l
        ∙ agree-word u (as_family A g cell (λ i. value_at f (images s i))) (through A (weight A g) cell s (as_family A g cell f))
        (one_letter s (All-head (IsLetter A.rank) s u w) f) (word_at cell k) (λ z. omega (arith, one, z))
