-- Lists of the elements below w, each once, by a descent s of w: x and sx for each x below sw with sx > x. And of those between two
-- elements, also in ShortLex order.
use Rattle.std.proofs.Common.{◌≡◌, ℕ, zero, suc, ◌<◌, Bool, true, false, not, if◌then◌else◌, List, [], ◌∷◌, ◌⊎◌, inl, inr, ⊎_elim, filter}
use Rattle.std.proofs.Common.{refl, ap, sym, ◌∙◌, arith, subst, map, length, get_or, Contains}
use Rattle.std.specs.Prelude.{◌==◌}
use Rattle.std.proofs.lemmas.Bool.{cases_order, false≢true}
use Rattle.std.proofs.lemmas.List.{get_or_default}
use Rattle.cox_base.specs.Matrix.{IsLetter}
use Rattle.cox_base.specs.IntegerMatrix.{IntegerMatrix}
use Rattle.cox_base.specs.Admissible.{IsAdmissible}
use Rattle.cox_base.specs.Element.{SameElement}
use Rattle.cox_base.specs.Length.{word_length}
use Rattle.cox_base.specs.Descents.{IsLeftDescent}
use Rattle.cox_base.specs.ShortLex.{normal_form}
use Rattle.cox_base.specs.Bruhat.{IsBelow}
use Rattle.cox_base.specs.SortedList.{IsListOf}
use Rattle.cox_base.specs.Interval.{IsBetween}
use Rattle.cox_reflect.proofs.Elements.{same-refl, same-sym, same-trans, same-cons, same-square}
use Rattle.cox_reflect.proofs.Members.{In, here, there, Each-map, Each-from, In-map}
use Rattle.cox_reflect.proofs.Search.{normal_form-same, normal_form-equal}
use Rattle.cox_reflect.proofs.Lengths.{cons-word_length, empty_same}
use Rattle.cox_reflect.proofs.ShortLexFirst.{IsBefore-irrefl, shortlex_cmp-before}
use Rattle.cox_reflect.proofs.NormalElements.{element-normal_form, element-unique}
use Rattle.cox_reflect.proofs.Listing.{listing, in-contains}
use Rattle.cox_reflect.proofs.Roots.{left_descent-letter}
use Rattle.cox_reflect.proofs.Bruhat.{below-same, below-refl, below_identity, lift_down, lift_up}
use Rattle.cox_rpoly.specs.InverseOperators.{shortens_left}
use Rattle.cox_hecke.specs.ListedElements.{is_same, occurrences, ListsEach, LiesBetween}
use Rattle.cox_hecke.proofs.Descents.{yes-nat_lt, no-nat_lt, shortens_left-same, shortens_left-back, some_left_descent}
use Rattle.cox_hecke.proofs.ListSums.{same-is_same, is_same-same, not_same-is_same, same_or_not, occurrences-at}

-- x and sx for each x of the list with sx > x
abbrev pub paired : IntegerMatrix → ℕ → List (List ℕ) → List (List ℕ)
paired A s [] = []
paired A s (y ∷ words) = if shortens_left A s y then paired A s words else y ∷ (s ∷ y) ∷ paired A s words

-- the list tells whether an element has the property
abbrev pub Tells : IntegerMatrix → (List ℕ → Type 0) → List (List ℕ) → Type 0
Tells A P words = (x : List ℕ) → ((occurrences A x words ≡ 1) × P x) ⊎ ((occurrences A x words ≡ 0) × (P x → ⊥))

pub Tells-ListsEach : (A : IntegerMatrix) (P : List ℕ → Type 0) (words : List (List ℕ)) → Tells A P words → ListsEach A P words
Tells-ListsEach A P words t = record {
  once = λ x p. ⊎_elim (λ y. y.0) (λ n. absurd (n.1 p)) (t x);
  no_other = λ x p. ⊎_elim (λ y. absurd (p y.1)) (λ n. n.0) (t x);
}

module _ (A : IntegerMatrix) (g : IsAdmissible A) where
  differ : (s : ℕ) (x y : List ℕ) (p : Bool) → shortens_left A s x ≡ p → shortens_left A s y ≡ not p → is_same A x y ≡ false
  differ s x y true e f = not_same-is_same A g x y (λ same. false≢true (sym f ∙ sym (shortens_left-same A g s same) ∙ e))
  differ s x y false e f = not_same-is_same A g x y (λ same. false≢true (sym e ∙ shortens_left-same A g s same ∙ f))

  pub is_same-moved : (s : ℕ) (x y : List ℕ) → is_same A x (s ∷ y) ≡ is_same A (s ∷ x) y
  is_same-moved s x y = ⊎_elim
      (λ (e : SameElement A x (s ∷ y)). same-is_same A g e
      ∙ sym (same-is_same A g (same-trans A g (same-cons A g s e) (same-square A g s y))))
      (λ (n : SameElement A x (s ∷ y) → ⊥). not_same-is_same A g x (s ∷ y) n
      ∙ sym (not_same-is_same A g (s ∷ x) y (λ e. n (same-trans A g (same-sym A g (same-square A g s x)) (same-cons A g s e)))))
      (same_or_not A g x (s ∷ y))

  pub occurrences-paired : (s : ℕ) (words : List (List ℕ)) (x : List ℕ) → IsLetter A.rank s
      → occurrences A x (paired A s words) ≡ (if shortens_left A s x then occurrences A (s ∷ x) words else occurrences A x words)
  occurrences-paired s [] x l = go (shortens_left A s x)
    where
      go : (p : Bool) → ◌≡◌ {A = ℕ} 0 (if p then 0 else 0)
      go true = refl
      go false = refl
  occurrences-paired s (y ∷ words) x l =
      go (shortens_left A s y) (shortens_left A s x) refl refl (occurrences-paired s words x l)
    where
      there : (x : List ℕ) (p : Bool) → shortens_left A s x ≡ p → shortens_left A s (s ∷ x) ≡ not p
      there x p e = shortens_left-back A g s x l ∙ ap not e

      go : (p q : Bool) → shortens_left A s y ≡ p → shortens_left A s x ≡ q
          → occurrences A x (paired A s words) ≡ (if shortens_left A s x then occurrences A (s ∷ x) words else occurrences A x words)
          → occurrences A x (paired A s (y ∷ words))
          ≡ (if shortens_left A s x then occurrences A (s ∷ x) (y ∷ words) else occurrences A x (y ∷ words))
      go true true e f rest = rw (e, differ s (s ∷ x) y false (there x true f) e, f) (rw f at rest)
      go true false e f rest = rw (e, differ s x y false f e, f) (rw f at rest)
      go false true e f rest = rw (e, differ s x y true f e, is_same-moved s x y, f)
          (ap (λ (n : ℕ). if is_same A (s ∷ x) y then suc n else n) (rw f at rest))
      go false false e f rest =
          rw (e, differ s x (s ∷ y) false f (there y false e), f) (ap (λ (n : ℕ). if is_same A x y then suc n else n) (rw f at rest))

  -- ---- the elements below w

  pub below_lists : (n : ℕ) (w : List ℕ) → word_length A w ≡ n → (words : List (List ℕ)) × Tells A (λ x. IsBelow A x w) words
  below_lists zero w z = (
    [] ∷ [],
    λ x. ⊎_elim
        (λ (e : SameElement A x []). inl
        (rw (same-is_same A g e) refl, below-refl A g (same-trans A g e (same-sym A g (empty_same A g w z)))))
        (λ (n : SameElement A x [] → ⊥). inr (
          rw (not_same-is_same A g x [] n) refl,
          λ b. n ((below_identity A g x).0 (below-same A g (same-refl A g x) (empty_same A g w z) b)),
        ))
        (same_or_not A g x []),
  )
  below_lists (suc n) w z = step (some_left_descent A g w (omega (arith, z))) (λ v e. below_lists n v e)
    where
      step : (s : ℕ) × IsLeftDescent A w s
          → ((v : List ℕ) → word_length A v ≡ n → (words : List (List ℕ)) × Tells A (λ x. IsBelow A x v) words)
          → (words : List (List ℕ)) × Tells A (λ x. IsBelow A x w) words
      step (s, d) lists = pairs (lists (s ∷ w) (omega (arith, z, d, cons-word_length A g s w)))
        where
          pairs : (words : List (List ℕ)) × Tells A (λ x. IsBelow A x (s ∷ w)) words
              → (words : List (List ℕ)) × Tells A (λ x. IsBelow A x w) words
          pairs (words, tells) = (paired A s words, λ x. go x (shortens_left A s x) refl)
            where
              l : IsLetter A.rank s
              l = left_descent-letter A g w s d

              go : (x : List ℕ) (p : Bool) → shortens_left A s x ≡ p
                  → ((occurrences A x (paired A s words) ≡ 1) × IsBelow A x w)
                  ⊎ ((occurrences A x (paired A s words) ≡ 0) × (IsBelow A x w → ⊥))
              go x true e =
                  let c : IsLeftDescent A x s = yes-nat_lt (word_length A (s ∷ x)) (word_length A x) e
                  in let count : occurrences A x (paired A s words) ≡ occurrences A (s ∷ x) words = occurrences-paired s words x l
                  ∙ rw e refl
                  in ⊎_elim (λ y. inl (count ∙ y.0, (lift_down A g x w s d c).1 y.1))
                  (λ n. inr (count ∙ n.0, λ b. n.1 ((lift_down A g x w s d c).0 b))) (tells (s ∷ x))
              go x false e =
                  let c : IsLeftDescent A x s → ⊥ = no-nat_lt (word_length A (s ∷ x)) (word_length A x) e
                  in let count : occurrences A x (paired A s words) ≡ occurrences A x words = occurrences-paired s words x l ∙ rw e refl
                  in ⊎_elim (λ y. inl (count ∙ y.0, (lift_up A g x w s d c).1 y.1))
                  (λ n. inr (count ∙ n.0, λ b. n.1 ((lift_up A g x w s d c).0 b))) (tells x)

  pub below_list : (w : List ℕ) → (words : List (List ℕ)) × Tells A (λ x. IsBelow A x w) words
  below_list w = below_lists (word_length A w) w refl

  pub below_or_not : (x w : List ℕ) → IsBelow A x w ⊎ (IsBelow A x w → ⊥)
  below_or_not x w = ⊎_elim (λ y. inl y.1) (λ n. inr n.1) ((below_list w).1 x)

  -- ---- the elements between x and w

  -- whether x ≤ y
  above : List ℕ → List ℕ → Bool
  above x y = occurrences A x (below_list y).0 == 1

  above-yes : (x y : List ℕ) → IsBelow A x y → above x y ≡ true
  unfolding above
  above-yes x y b = ⊎_elim (λ c. rw c.0 refl) (λ n. absurd (n.1 b)) ((below_list y).1 x)

  above-no : (x y : List ℕ) → (IsBelow A x y → ⊥) → above x y ≡ false
  unfolding above
  above-no x y b = ⊎_elim (λ c. absurd (b c.1)) (λ n. rw n.0 refl) ((below_list y).1 x)

  above-same : (x : List ℕ) {y z : List ℕ} → SameElement A y z → above x y ≡ above x z
  above-same x {y} {z} e = ⊎_elim
      (λ (b : IsBelow A x y). above-yes x y b ∙ sym (above-yes x z (below-same A g (same-refl A g x) e b)))
      (λ (n : IsBelow A x y → ⊥). above-no x y n ∙ sym (above-no x z (λ b. n (below-same A g (same-refl A g x) (same-sym A g e) b))))
      (below_or_not x y)

  pub occurrences-filter : (t : List ℕ → Bool) → ((y z : List ℕ) → SameElement A y z → t y ≡ t z) → (words : List (List ℕ)) (x : List ℕ)
      → occurrences A x (filter t words) ≡ (if t x then occurrences A x words else 0)
  occurrences-filter t r [] x = go (t x)
    where
      go : (p : Bool) → ◌≡◌ {A = ℕ} 0 (if p then 0 else 0)
      go true = refl
      go false = refl
  occurrences-filter t r (y ∷ words) x = go (t y) (is_same A x y) refl refl (occurrences-filter t r words x)
    where
      go : (p q : Bool) → t y ≡ p → is_same A x y ≡ q → occurrences A x (filter t words) ≡ (if t x then occurrences A x words else 0)
          → occurrences A x (filter t (y ∷ words)) ≡ (if t x then occurrences A x (y ∷ words) else 0)
      go true true e f rest = let h : t x ≡ true = r x y (is_same-same A g x y f) ∙ e in rw (e, f, h) (ap suc (rw h at rest))
      go true false e f rest = rw (e, f) rest
      go false true e f rest = let h : t x ≡ false = r x y (is_same-same A g x y f) ∙ e in rw (e, h) (rw h at rest)
      go false false e f rest = rw (e, f) rest

  pub between_list : (x w : List ℕ) → (words : List (List ℕ)) × Tells A (λ y. LiesBetween A x w y) words
  between_list x w = (filter (above x) (below_list w).0, λ y. go y (below_or_not x y) ((below_list w).1 y))
    where
      count : (y : List ℕ) → occurrences A y (filter (above x) (below_list w).0)
          ≡ (if above x y then occurrences A y (below_list w).0 else 0)
      count y = occurrences-filter (above x) (λ y z e. above-same x e) (below_list w).0 y

      go : (y : List ℕ) → IsBelow A x y ⊎ (IsBelow A x y → ⊥)
          → ((occurrences A y (below_list w).0 ≡ 1) × IsBelow A y w) ⊎ ((occurrences A y (below_list w).0 ≡ 0) × (IsBelow A y w → ⊥))
          → ((occurrences A y (filter (above x) (below_list w).0) ≡ 1) × LiesBetween A x w y)
          ⊎ ((occurrences A y (filter (above x) (below_list w).0) ≡ 0) × (LiesBetween A x w y → ⊥))
      go y (inl b) (inl c) = inl (count y ∙ rw (above-yes x y b) c.0, record { above = b; below = c.1 })
      go y (inl b) (inr c) = inr (count y ∙ rw (above-yes x y b) c.0, λ (i : LiesBetween A x w y). c.1 i.below)
      go y (inr n) c = inr (count y ∙ rw (above-no x y n) refl, λ (i : LiesBetween A x w y). n i.above)

  -- ---- the same in ShortLex order

  -- what a list names is the element of one of its words
  named_or_none : (y : List ℕ) (words : List (List ℕ))
      → (occurrences A y words ≡ 0) ⊎ ((z : List ℕ) × In z words × SameElement A y z)
  named_or_none y [] = inl refl
  named_or_none y (z ∷ words) = go (is_same A y z) refl (named_or_none y words)
    where
      go : (b : Bool) → is_same A y z ≡ b → (occurrences A y words ≡ 0) ⊎ ((x : List ℕ) × In x words × SameElement A y x)
          → (occurrences A y (z ∷ words) ≡ 0) ⊎ ((x : List ℕ) × In x (z ∷ words) × SameElement A y x)
      go true t rest = inr (z, here, is_same-same A g y z t)
      go false t (inl absent) = inl (rw t absent)
      go false t (inr found) = inr (found.0, there found.1, found.2)

  -- and each of its words is named
  in-named : {z : List ℕ} {words : List (List ℕ)} → In z words → occurrences A z words ≡ 0 → ⊥
  in-named {z} (here {xs = words}) e =
      let f : suc (occurrences A z words) ≡ 0 = rw (same-is_same A g (same-refl A g z)) at e in omega (arith, f)
  in-named {z} (there {y = y} {xs = words} i) e = go (is_same A z y) e (in-named i)
    where
      go : (b : Bool) → (if b then suc (occurrences A z words) else occurrences A z words) ≡ 0 → (occurrences A z words ≡ 0 → ⊥) → ⊥
      go true e rest = omega (arith, e)
      go false e rest = rest e

  between-same : (x w : List ℕ) {y z : List ℕ} → SameElement A y z → LiesBetween A x w y → LiesBetween A x w z
  between-same x w e b = record {
    above = below-same A g (same-refl A g x) e b.above;
    below = below-same A g e (same-refl A g w) b.below;
  }

  -- there is a list in ShortLex order of what is between x and w ..
  pub sorted_between : (x w : List ℕ) → (words : List (List ℕ)) × IsListOf (IsBetween A x w) words
  sorted_between x w = listing (IsBetween A x w) (map (normal_form A) list.0)
      (Each-map (IsBetween A x w) (normal_form A) (Each-from list.0 between))
      (λ y b. ⊎_elim (λ (none : occurrences A y list.0 ≡ 0). absurd (omega (
        arith,
        none,
        (Tells-ListsEach A (LiesBetween A x w) list.0
            list.1).once y (record { above = b.above; below = b.below }),
      )))
      (λ (found : (z : List ℕ) × In z list.0 × SameElement A y z). subst (λ (z : List ℕ). In z (map (normal_form A) list.0))
      (normal_form-equal A g (same-sym A g found.2) ∙ b.element.normal) (In-map (normal_form A) found.1))
      (named_or_none y list.0))
    where
      list : (words : List (List ℕ)) × Tells A (λ y. LiesBetween A x w y) words
      list = between_list x w

      between : (y : List ℕ) → In y list.0 → IsBetween A x w (normal_form A y)
      between y i =
          let b : LiesBetween A x w y = ⊎_elim (λ c. c.1) (λ n. absurd (in-named i n.0)) (list.1 y)
          in let c = between-same x w (same-sym A g (normal_form-same A g y)) b
          in record { element = element-normal_form A g y; above = c.above; below = c.below }

  -- .. and such a list names each element once
  pub sorted-once : (x w : List ℕ) (words : List (List ℕ)) → IsListOf (IsBetween A x w) words → (y : List ℕ) → LiesBetween A x w y
      → occurrences A y words ≡ 1
  sorted-once x w words are y b = occurrences-at A g words y found.0 found.1 (rw at (same-sym A g (normal_form-same A g y))) only
    where
      n : List ℕ
      n = normal_form A y

      found : Contains words n
      found =
          let c = between-same x w (same-sym A g (normal_form-same A g y)) b
          in are.whole n (record { element = element-normal_form A g y; above = c.above; below = c.below })

      at : get_or words found.0 [] ≡ n
      at = get_or_default words found.0 [] n found.1 ∙ found.2

      apart : (i j : ℕ) → i < j → j < length words → get_or words i [] ≡ get_or words j [] → ⊥
      apart i j l m e = IsBefore-irrefl (rw e at (shortlex_cmp-before (get_or words i []) (get_or words j []) (are.rising i j l m)))

      only : (j : ℕ) → j < length words → SameElement A y (get_or words j []) → j ≡ found.0
      only j l same =
          let member = are.sound (get_or words j []) (j, l, get_or_default words j (get_or words j []) [] l)
          in let equal : get_or words j [] ≡ get_or words found.0 [] =
          element-unique A g (get_or words j []) n member.element (element-normal_form A g y)
          (same-trans A g (same-sym A g same) (same-sym A g (normal_form-same A g y))) ∙ sym at
          in ⊎_elim (λ (e : j ≡ found.0). e)
          (λ side. ⊎_elim (λ (less : j < found.0). absurd (apart j found.0 less found.1 equal))
          (λ (more : found.0 < j). absurd (apart found.0 j more l (sym equal))) side)
          (cases_order j found.0)

  pub sorted-lists : (x w : List ℕ) (words : List (List ℕ)) → IsListOf (IsBetween A x w) words → ListsEach A (LiesBetween A x w) words
  sorted-lists x w words are = record {
    once = sorted-once x w words are;
    no_other = λ y n. ⊎_elim (λ (none : occurrences A y words ≡ 0). none)
        (λ (found : (z : List ℕ) × In z words × SameElement A y z). let b = are.sound found.0 (in-contains found.1)
        in absurd (n (between-same x w (same-sym A g found.2) (record { above = b.above; below = b.below }))))
        (named_or_none y words);
  }
