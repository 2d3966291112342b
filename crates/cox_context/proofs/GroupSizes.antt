-- Whether a group has too many elements, or one that is too long, is decided; and where it has not, there is a list of all its elements.
use Rattle.std.proofs.Common.{◌≡◌, ◌⊎◌, ℕ, ◌+◌, ◌<◌, ◌≤◌, List, [], ◌∷◌, length, take, map}
use Rattle.std.proofs.Common.{Contains, inl, inr, sym, ◌∙◌, ⊎_elim, arith, subst}
use Rattle.std.proofs.lemmas.Bool.{cases_lt, cases_eq}
use Rattle.std.proofs.lemmas.List.{get_or-take, length-take-le}
use Rattle.std.specs.declared.cmp.Ordering.TheVariants.{Less}
use Rattle.cox_base.specs.declared.limits.TheConstants.{MAX_LETTERS}
use Rattle.cox_base.specs.IntegerMatrix.{IntegerMatrix}
use Rattle.cox_base.specs.Admissible.{IsAdmissible}
use Rattle.cox_base.specs.ShortLex.{normal_form, words_up_to, shortlex_cmp}
use Rattle.cox_reflect.proofs.Members.{In, here, there, Each-map, Each-weaker, In-map}
use Rattle.cox_reflect.proofs.Search.{IsWordWithin, Each-words_up_to, In-words_up_to, length-normal_form}
use Rattle.cox_reflect.proofs.ShortLexFirst.{by_length, before-shortlex_cmp}
use Rattle.cox_base.specs.SortedList.{IsListOf}
use Rattle.cox_base.specs.Members.{IsElement}
use Rattle.cox_context.specs.Numbers.{word_at}
use Rattle.cox_context.specs.TooLarge.{IsTooLarge}
use Rattle.cox_context.specs.Refusal.{IsPrefixOf, IsOver, IsLong}
use Rattle.cox_reflect.proofs.NormalElements.{element-normal_form, element-word}
use Rattle.cox_reflect.proofs.Listing.{listing, contains-in, in-contains}
use Rattle.cox_context.proofs.Ideals.{element-tail}
use Rattle.cox_context.proofs.PlacedWords.{contains-placed, contains-at}
use Rattle.cox_context.proofs.ShortLexLists.{HasMoreThan-few}
use Rattle.cox_context.proofs.RefusalCauses.{too_large-found}

-- an element of at most n letters
abbrev IsShort : IntegerMatrix → ℕ → List ℕ → Type 0
IsShort A n word = IsElement A word × (length word ≤ n)

-- the first words of a list are its first ..
module _ (P : List ℕ → Type 0) (words : List (List ℕ)) (n : ℕ) (are : IsListOf P words) (within : n ≤ length words) where
  pub taken-length : length (take n words) ≡ n
  taken-length = length-take-le n words within

  at : (i : ℕ) → i < n → word_at (take n words) i ≡ word_at words i
  at i l = get_or-take n words i [] l

  here_or_later : (i : ℕ) → i < length words → Contains (take n words) (word_at words i)
      ⊎ ((other : List ℕ) → Contains (take n words) other → shortlex_cmp other (word_at words i) ≡ Less)
  here_or_later i l = ⊎_elim
      (λ (inside : i < n).
      inl (subst (Contains (take n words)) (at i inside) (contains-at (take n words) i (omega (arith, inside, taken-length)))))
      (λ (beyond : n ≤ i). inr (λ other c. let p = contains-placed (take n words) other c in
      let before : p.i < n = omega (arith, p.within, taken-length) in
      rw (sym (sym (at p.i before) ∙ p.is)) (are.rising p.i i (omega (arith, before, beyond)) l)))
      (cases_lt i n)

  pub taken : IsPrefixOf P (take n words)
  taken = record {
    rising = λ i j l k. let b : j < n = omega (arith, k, taken-length) in
        rw (at i (omega (arith, l, b)), at j b) (are.rising i j l (omega (arith, b, within)));
    sound = λ word c. let p = contains-placed (take n words) word c in
        let b : p.i < n = omega (arith, p.within, taken-length) in
        subst P (sym (at p.i b) ∙ p.is) (are.sound (word_at words p.i) (contains-at words p.i (omega (arith, b, within))));
    first = λ word holds. let p = contains-placed words word (are.whole word holds) in
        subst
        (λ (x : List ℕ). Contains (take n words) x ⊎ ((other : List ℕ) → Contains (take n words) other → shortlex_cmp other x ≡ Less))
        p.is (here_or_later p.i p.within);
  }

-- whether a list has a word of n letters
with_length : (n : ℕ) (words : List (List ℕ))
    → ((x : List ℕ) × In x words × (length x ≡ n)) ⊎ ((x : List ℕ) → In x words → length x ≡ n → ⊥)
with_length n [] = inr (λ x i e. elim i [ ])
with_length n (w ∷ words) =
    ⊎_elim (λ (same : length w ≡ n). inl (w, here, same)) (λ other. more other (with_length n words)) (cases_eq (length w) n)
  where
    none : (length w ≡ n → ⊥) → ((x : List ℕ) → In x words → length x ≡ n → ⊥) → (x : List ℕ) → In x (w ∷ words) → length x ≡ n → ⊥
    none other rest x here e = other e
    none other rest x (there i) e = rest x i e

    more : (length w ≡ n → ⊥) → ((x : List ℕ) × In x words × (length x ≡ n)) ⊎ ((x : List ℕ) → In x words → length x ≡ n → ⊥)
        → ((x : List ℕ) × In x (w ∷ words) × (length x ≡ n)) ⊎ ((x : List ℕ) → In x (w ∷ words) → length x ≡ n → ⊥)
    more other (inl found) = inl (found.0, there found.1, found.2)
    more other (inr rest) = inr (none other rest)

module _ (A : IntegerMatrix) (g : IsAdmissible A) where
  -- there is a list of the elements of at most n letters
  short-exists : (n : ℕ) → (words : List (List ℕ)) × IsListOf (IsShort A n) words
  short-exists n = listing (IsShort A n) (map (normal_form A) (words_up_to A.rank n))
      (Each-map (IsShort A n) (normal_form A)
      (Each-weaker (λ w (h : IsWordWithin A.rank n w). (element-normal_form A g w, omega (arith, length-normal_form A g w, h.size)))
      (Each-words_up_to A.rank n)))
      (λ word p. subst (λ (x : List ℕ). In x (map (normal_form A) (words_up_to A.rank n))) p.0.normal
      (In-map (normal_form A) (In-words_up_to A.rank n word (element-word A g word p.0) p.1)))

  -- where an element has more than n letters, one has n + 1
  longer : (n : ℕ) (word : List ℕ) → IsElement A word → n < length word → (x : List ℕ) × IsElement A x × (length x ≡ n + 1)
  longer n [] e more = absurd (omega (arith, more))
  longer n (s ∷ x) e more = ⊎_elim (λ (far : n < length x). longer n x (element-tail A g s x e) far)
      (λ (near : length x ≤ n). (s ∷ x, e, omega (arith, near, more))) (cases_lt n (length x))

  -- an element with n + 1 letters, if there is one
  long-decided : (n : ℕ) → ((x : List ℕ) × IsElement A x × (length x ≡ n + 1)) ⊎ ((x : List ℕ) → IsElement A x → length x ≤ n)
  long-decided n =
      let list = short-exists (n + 1) in
      ⊎_elim (λ found. inl (found.0, (list.1.sound found.0 (in-contains found.1)).0, found.2))
      (λ (none : (x : List ℕ) → In x list.0 → length x ≡ n + 1 → ⊥). inr (λ x e. ⊎_elim
      (λ (far : n < length x). let long = longer n x e far in
      absurd (none long.0 (contains-in list.0 (list.1.whole long.0 (long.1, omega (arith, long.2)))) long.2))
      (λ (near : length x ≤ n). near) (cases_lt n (length x))))
      (with_length (n + 1) list.0)

  module _ (limit : ℕ) where
    list : (words : List (List ℕ)) × IsListOf (IsShort A MAX_LETTERS) words
    list = short-exists MAX_LETTERS

    whole : ((x : List ℕ) → IsElement A x → length x ≤ MAX_LETTERS) → IsListOf (IsElement A) list.0
    whole short = record { rising = list.1.rising; sound = λ w c. (list.1.sound w c).0; whole = λ w e. list.1.whole w (e, short w e) }

    -- the first words of at most MAX_LETTERS letters are the first of all
    over : limit < length list.0 → IsOver (IsElement A) limit
    over many = record {
      prefix = take (limit + 1) list.0;
      first = record {
        rising = prefix.rising;
        sound = λ word c. (prefix.sound word c).0;
        first = λ word e. ⊎_elim (λ (far : MAX_LETTERS < length word). inr (λ other c.
            before-shortlex_cmp {v = other} {w = word} (by_length (omega (arith, far, (prefix.sound other c).1)))))
            (λ (near : length word ≤ MAX_LETTERS). prefix.first word (e, near)) (cases_lt MAX_LETTERS (length word));
      };
      count = taken-length (IsShort A MAX_LETTERS) list.0 (limit + 1) list.1 (omega (arith, many));
      short = λ word c. (prefix.sound word c).1;
    }
      where
        prefix : IsPrefixOf (IsShort A MAX_LETTERS) (take (limit + 1) list.0)
        prefix = taken (IsShort A MAX_LETTERS) list.0 (limit + 1) list.1 (omega (arith, many))

    -- what is found, and that nothing is
    found-or-none : (IsOver (IsElement A) limit ⊎ IsLong (IsElement A) limit)
        ⊎ ((length list.0 ≤ limit) × ((x : List ℕ) → IsElement A x → length x ≤ MAX_LETTERS))
    found-or-none = by_count (cases_lt limit (length list.0)) (long-decided MAX_LETTERS)
      where
        by_count : (limit < length list.0) ⊎ (length list.0 ≤ limit)
            → ((x : List ℕ) × IsElement A x × (length x ≡ MAX_LETTERS + 1)) ⊎ ((x : List ℕ) → IsElement A x → length x ≤ MAX_LETTERS)
            → (IsOver (IsElement A) limit ⊎ IsLong (IsElement A) limit)
            ⊎ ((length list.0 ≤ limit) × ((x : List ℕ) → IsElement A x → length x ≤ MAX_LETTERS))
        by_count (inl many) long = inl (inl (over many))
        by_count (inr few) (inl (x, e, letters)) =
            inl (inr (record { words = list.0; are = list.1; count = few; long = x; member = e; letters = letters }))
        by_count (inr few) (inr short) = inr (few, short)

    not-large : length list.0 ≤ limit → ((x : List ℕ) → IsElement A x → length x ≤ MAX_LETTERS) → IsTooLarge (IsElement A) limit → ⊥
    not-large few short (inl many) = HasMoreThan-few (IsElement A) limit list.0 (whole short) few many
    not-large few short (inr long) = omega (arith, short long.0 long.1, long.2)

    -- the group is too large exactly where that is found by its first elements
    pub group-found : IsTooLarge (IsElement A) limit → IsOver (IsElement A) limit ⊎ IsLong (IsElement A) limit
    group-found large = ⊎_elim (λ (found : IsOver (IsElement A) limit ⊎ IsLong (IsElement A) limit). found)
        (λ (none : (length list.0 ≤ limit) × ((x : List ℕ) → IsElement A x → length x ≤ MAX_LETTERS)).
        absurd (not-large none.0 none.1 large)) found-or-none

    pub group-decided : IsTooLarge (IsElement A) limit
        ⊎ ((IsTooLarge (IsElement A) limit → ⊥) × (words : List (List ℕ)) × IsListOf (IsElement A) words)
    group-decided = ⊎_elim (λ (found : IsOver (IsElement A) limit ⊎ IsLong (IsElement A) limit).
        inl (too_large-found (IsElement A) limit found))
        (λ (none : (length list.0 ≤ limit) × ((x : List ℕ) → IsElement A x → length x ≤ MAX_LETTERS)).
        inr (not-large none.0 none.1, list.0, whole none.1)) found-or-none
