-- How many words a union has: distinct words of it are no more than its list has, and the first words of that list tell why a growth is
-- refused.
use Rattle.std.proofs.Common.{◌≡◌, ℕ, ◌+◌, ◌≤◌, ◌<◌, List, [], ◌∷◌, ◌++◌, length, take, drop, suc, zero, Contains, Result, Ok, Err, IfErr}
use Rattle.std.proofs.Common.{inl, inr, sym, ◌∙◌, ⊎_elim, arith}
use Rattle.std.proofs.lemmas.Bool.{cases_lt}
use Rattle.std.proofs.lemmas.Cmp.{nat_list_eq_equiv}
use Rattle.std.proofs.lemmas.List.{get_or_default}
use Rattle.std.proofs.lemmas.List.Elements.{All-contains, All-from_get_or}
use Rattle.std.proofs.lemmas.Map.Made.{length-le_from_is_member, IsDistinct-from_AllPairs, is_member-Decides}
use Rattle.std.proofs.lemmas.Slice.Eq.{bytes_eq-Decides}
use Rattle.cox_lemmas.proofs.PushedItems.{push-length}
use Rattle.cox_base.specs.declared.limits.TheConstants.{MAX_LETTERS}
use Rattle.cox_base.specs.IntegerMatrix.{IntegerMatrix}
use Rattle.cox_base.specs.Admissible.{IsAdmissible}
use Rattle.cox_base.specs.ShortLex.{normal_form}
use Rattle.cox_base.specs.Reduced.{IsReduced}
use Rattle.cox_base.specs.Bruhat.{IsSubword, left_out, IsBelow}
use Rattle.cox_base.specs.Members.{IsElement}
use Rattle.cox_base.specs.SortedList.{IsListOf, HasMoreThan}
use Rattle.cox_reflect.proofs.Elements.{same-refl}
use Rattle.cox_reflect.proofs.Members.{Each-append, Each-from, In-append_left, In-append_right}
use Rattle.cox_reflect.proofs.Lengths.{word_length-is}
use Rattle.cox_reflect.proofs.Bruhat.{below-length, below-subword, subword-below}
use Rattle.cox_reflect.proofs.NormalElements.{element-length}
use Rattle.cox_reflect.proofs.Listing.{listing, contains-in, in-contains}
use Rattle.cox_context.specs.declared.fault.ContextFault.{ContextFault}
use Rattle.cox_context.specs.declared.fault.ContextFault.TheVariants.{Size, Long, NoMemory}
use Rattle.cox_context.specs.Closed.{IsClosed}
use Rattle.cox_context.specs.FaultMeaning.{IsRefusal, IsOverfull}
use Rattle.cox_context.specs.Numbers.{word_at}
use Rattle.cox_context.specs.Refusal.{IsPrefixOf, IsOver}
use Rattle.cox_context.specs.Spread.{AreAppended}
use Rattle.cox_context.specs.Union.{IsInUnion}
use Rattle.cox_context.proofs.PlacedWords.{contains-at}
use Rattle.cox_context.proofs.ShortLexLists.{HasMoreThan-few}
use Rattle.cox_context.proofs.IntervalLists.{interval-exists}
use Rattle.cox_context.proofs.GroupSizes.{taken, taken-length}
use Rattle.cox_context.proofs.Spreading.{contains_cases, distinct-push}

-- ---- distinct words

-- the words of a list differ
abbrev AreDistinct : List (List ℕ) → Type 0
AreDistinct words = (i j : ℕ) → i < length words → j < length words → word_at words i ≡ word_at words j → i ≡ j

-- they are no more than a list that has them all
distinct-length : (xs ys : List (List ℕ)) → AreDistinct xs → ((word : List ℕ) → Contains xs word → Contains ys word) → length xs ≤ length ys
distinct-length xs ys distinct all =
    length-le_from_is_member nat_list_eq_equiv xs ys
    (IsDistinct-from_AllPairs bytes_eq-Decides xs (λ i j d less within e.
    let same = distinct i j (omega (arith, less, within)) within
    (get_or_default xs i [] d (omega (arith, less, within)) ∙ e ∙ sym (get_or_default xs j [] d within))
    in omega (arith, less, same)))
    (λ q has. (is_member-Decides bytes_eq-Decides ys q).1 (all q ((is_member-Decides bytes_eq-Decides xs q).0 has)))

-- so more of them than the limit are more than the limit in ShortLex order
distinct-more : (P : List ℕ → Type 0) (limit : ℕ) (words : List (List ℕ)) → AreDistinct words
    → ((word : List ℕ) → Contains words word → P word) → limit < length words → HasMoreThan limit P
distinct-more P limit words distinct sound many =
    let sorted = listing (Contains words) words (Each-from words (λ word i. in-contains i)) (λ word c. contains-in words c)
    in let size : length words ≤ length sorted.0 = distinct-length words sorted.0 distinct sorted.1.whole
    in (
      sorted.0,
      sorted.1.rising,
      All-from_get_or P sorted.0 [] (λ i l. sound (word_at sorted.0 i) (sorted.1.sound (word_at sorted.0 i) (contains-at sorted.0 i l))),
      omega (arith, size, many),
    )

HasMoreThan-weaker : (P Q : List ℕ → Type 0) (limit : ℕ) → ((word : List ℕ) → P word → Q word) → HasMoreThan limit P → HasMoreThan limit Q
HasMoreThan-weaker P Q limit to (words, rising, all, many) = (
  words,
  rising,
  All-from_get_or Q words [] (λ i l. to (word_at words i) (All-contains P words (word_at words i) all (contains-at words i l))),
  many,
)

-- the same of a fault
overfull-weaker : {T : Type 0} (P Q : List ℕ → Type 0) (limit : ℕ) (r : Result T ContextFault) → ((word : List ℕ) → P word → Q word)
    → IfErr r (IsOverfull P limit) → IfErr r (IsOverfull Q limit)
overfull-weaker P Q limit (Ok v) to h = h
overfull-weaker P Q limit (Err (Size bound seen)) to (is, one_more, more) = (is, one_more, HasMoreThan-weaker P Q limit to more)
overfull-weaker P Q limit (Err Long) to h = h
overfull-weaker P Q limit (Err NoMemory) to h = h

-- ---- members and a word that is none of them

-- as many members as the limit, and another word
pub full-more : (A : IntegerMatrix) (words : List (List ℕ)) → IsClosed A words → (y : List ℕ) → (Contains words y → ⊥) → (limit : ℕ)
    → limit ≤ length words → HasMoreThan limit (Contains (words ++ y ∷ []))
full-more A words closed y none limit full =
    distinct-more (Contains (words ++ y ∷ [])) limit (words ++ y ∷ []) (distinct-push words y closed.distinct none) (λ word c. c)
    (omega (arith, full, push-length words y))

-- ---- the way of a fault to the union

module _ (A : IntegerMatrix) (g : IsAdmissible A) where
  -- members on the way, and an element below v
  pub overfull-one : {T : Type 0} (v y : List ℕ) (old mid : List (List ℕ)) → IsClosed A mid → AreAppended A v old mid → IsElement A y
      → IsBelow A y v → (limit : ℕ) (r : Result T ContextFault) → IfErr r (IsOverfull (Contains (mid ++ y ∷ [])) limit)
      → IfErr r (IsOverfull (IsInUnion A v old) limit)
  overfull-one v y old mid closed appended element below limit r =
      overfull-weaker (Contains (mid ++ y ∷ [])) (IsInUnion A v old) limit r (λ word c.
      ⊎_elim (λ there. record {
        element = closed.element word there;
        either = ⊎_elim (λ before. inr before) (λ b. inl b) (appended.below word there);
      })
      (λ is. rw (← is) (record { element = element; either = inl below })) (contains_cases mid y word c))

  subword-drop : {v : List ℕ} (k : ℕ) (w : List ℕ) → IsSubword v (drop k w) → IsSubword v w
  subword-drop zero w a = a
  subword-drop (suc k) [] a = a
  subword-drop (suc k) (s ∷ w) a = left_out (subword-drop k w a)

  -- what is below an end of a reduced word is below the whole
  pub below-end : (top : List ℕ) → IsReduced A top → (k : ℕ) (x : List ℕ) → IsBelow A x (drop k top) → IsBelow A x top
  below-end top reduced k x b =
      let u = below-subword A g b (drop k top) (same-refl A g (drop k top))
      in subword-below A g top reduced (same-refl A g top) (record { word = u.word; subword = subword-drop k top u.subword; same = u.same })

  -- members on the way, and those below an element below v
  pub overfull-below : {T : Type 0} (v u : List ℕ) (old mid : List (List ℕ)) → AreAppended A v old mid
      → ((word : List ℕ) → IsBelow A word u → IsBelow A word v) → (limit : ℕ) (r : Result T ContextFault)
      → IfErr r (IsOverfull (IsInUnion A u mid) limit) → IfErr r (IsOverfull (IsInUnion A v old) limit)
  overfull-below v u old mid appended below limit r =
      overfull-weaker (IsInUnion A u mid) (IsInUnion A v old) limit r (λ word p. record {
        element = p.element;
        either = ⊎_elim (λ b. inl (below word b))
            (λ there. ⊎_elim (λ before. inr before) (λ b. inl b) (appended.below word there)) p.either;
      })

  -- from an end of the word to the whole
  pub overfull-end : {T : Type 0} (top : List ℕ) → IsReduced A top → (k m : ℕ) (old mid : List (List ℕ))
      → AreAppended A (drop m top) old mid → (limit : ℕ) (r : Result T ContextFault)
      → IfErr r (IsOverfull (IsInUnion A (drop k top) mid) limit) → IfErr r (IsOverfull (IsInUnion A top old) limit)
  overfull-end top reduced k m old mid appended limit r =
      overfull-weaker (IsInUnion A (drop k top) mid) (IsInUnion A top old) limit r (λ word p. record {
        element = p.element;
        either = ⊎_elim (λ b. inl (below-end top reduced k word b))
            (λ there. ⊎_elim (λ before. inr before) (λ b. inl (below-end top reduced m word b)) (appended.below word there)) p.either;
      })

  -- ---- the list of a union

  module _ (w : List ℕ) (old : List (List ℕ)) (closed : IsClosed A old) where
    union-exists : (words : List (List ℕ)) × IsListOf (IsInUnion A w old) words
    union-exists =
        let interval = interval-exists A g w
        in listing (IsInUnion A w old) (interval.0 ++ old)
        (Each-append
        (Each-from interval.0 (λ word i. let p = interval.1.sound word (in-contains i) in
        record { element = p.element; either = inl p.below }))
        (Each-from old (λ word i. let c = in-contains i in record { element = closed.element word c; either = inr c })))
        (λ word p. ⊎_elim
        (λ (b : IsBelow A word w).
        In-append_left old (contains-in interval.0 (interval.1.whole word (record { element = p.element; below = b }))))
        (λ (c : Contains old word). In-append_right interval.0 (contains-in old c)) p.either)

    union-letters : length (normal_form A w) ≤ MAX_LETTERS → (word : List ℕ) → IsInUnion A w old word → length word ≤ MAX_LETTERS
    union-letters short word p =
        ⊎_elim
        (λ (b : IsBelow A word w). omega (arith, short, word_length-is A w, below-length A g b, element-length A g word p.element))
        (λ (c : Contains old word). closed.short word c) p.either

    union-over : length (normal_form A w) ≤ MAX_LETTERS → (limit : ℕ) → HasMoreThan limit (IsInUnion A w old)
        → IsOver (IsInUnion A w old) limit
    union-over short limit more = record {
      prefix = take (limit + 1) list.0;
      first = first;
      count = taken-length (IsInUnion A w old) list.0 (limit + 1) list.1 enough;
      short = λ word c. union-letters short word (first.sound word c);
    }
      where
        list : (words : List (List ℕ)) × IsListOf (IsInUnion A w old) words
        list = union-exists

        enough : limit + 1 ≤ length list.0
        enough = ⊎_elim (λ (many : limit < length list.0). omega (arith, many))
            (λ (few : length list.0 ≤ limit). absurd (HasMoreThan-few (IsInUnion A w old) limit list.0 list.1 few more))
            (cases_lt limit (length list.0))

        first : IsPrefixOf (IsInUnion A w old) (take (limit + 1) list.0)
        first = taken (IsInUnion A w old) list.0 (limit + 1) list.1 enough

    -- more members than the limit, from the start
    pub union-full : length (normal_form A w) ≤ MAX_LETTERS → (limit : ℕ) → limit < length old → IsOver (IsInUnion A w old) limit
    union-full short limit many =
        union-over short limit (distinct-more (IsInUnion A w old) limit old closed.distinct
        (λ word c. record { element = closed.element word c; either = inr c }) many)

    pub union-refused : length (normal_form A w) ≤ MAX_LETTERS → (limit : ℕ) (fault : ContextFault)
        → IsOverfull (IsInUnion A w old) limit fault → IsRefusal (IsInUnion A w old) limit fault
    union-refused short limit (Size bound seen) (is, one_more, more) = (is, one_more, union-over short limit more)
    union-refused short limit Long h = absurd h
    union-refused short limit NoMemory h = h
