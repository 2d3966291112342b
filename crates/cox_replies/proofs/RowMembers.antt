-- The members below one of them, and the extremal ones among them, as the lists of the elements that they are, in ShortLex order.
use Rattle.std.proofs.Common.{◌≡◌, ◌≢◌, ℕ, zero, suc, ◌+◌, ◌≤◌, ◌<◌, Bool, true, false, List, [], ◌∷◌, length, filter, take, All}
use Rattle.std.proofs.Common.{AllPairs, Contains, IsPermutation, if◌then◌else◌, get_or, refl, ap, sym, ◌∙◌, arith}
use Rattle.std.proofs.lemmas.Bool.{false_from_ne_true}
use Rattle.std.proofs.lemmas.List.{length-map, get_or-map, get_or_default}
use Rattle.std.proofs.lemmas.List.Elements.{filter_passes, All-contains, All-contains_itself, All-filter}
use Rattle.std.proofs.lemmas.List.Kept.{AllPairs-filter}
use Rattle.std.proofs.lemmas.List.Sorted.{Contains-permutation, IsPermutation-map, IsPermutation-sym}
use Rattle.cox_base.specs.IntegerMatrix.{IntegerMatrix}
use Rattle.cox_base.specs.Admissible.{IsAdmissible}
use Rattle.cox_base.specs.Element.{SameElement}
use Rattle.cox_base.specs.ShortLex.{normal_form}
use Rattle.cox_base.specs.Bruhat.{IsBelow}
use Rattle.cox_reflect.proofs.Elements.{same-refl, same-sym, same-cons, same-push}
use Rattle.cox_reflect.proofs.Search.{normal_form-same, word_length-equal}
use Rattle.cox_reflect.proofs.Members.{In, here, there}
use Rattle.cox_reflect.proofs.Listing.{contains-in, in-contains}
use Rattle.cox_reflect.proofs.ShortLexFirst.{IsBefore-irrefl}
use Rattle.cox_reflect.proofs.Bruhat.{below-same}
use Rattle.cox_context.specs.Closed.{IsClosed}
use Rattle.cox_base.specs.Members.{IsInInterval}
use Rattle.cox_base.specs.SortedList.{IsListOf, IsRising}
use Rattle.cox_context.specs.Numbers.{word_at}
use Rattle.cox_context.proofs.PlacedWords.{IsPlaced, contains-placed, placed-contains, contains-at, rising-before}
use Rattle.cox_context.proofs.IntervalLists.{is_below, is_below-tells}
use Rattle.cox_context.proofs.Shifting.{element-at, later-not_below}
use Rattle.cox_row.specs.Extremal.{IsExtremal}
use Rattle.cox_row.specs.ExtremalNumbers.{AreExtremal}
use Rattle.cox_row.specs.Rising.{number_at}
use Rattle.cox_replies.specs.RowReply.{IsExtremalBelow}
use Rattle.cox_replies.specs.Putting.{words_at}
use Rattle.cox_replies.proofs.SumsInAnyOrder.{total, total-same, once-apart}

-- where none passes a test from a place on
filter-first : (test : List ℕ → Bool) (n : ℕ) (members : List (List ℕ))
    → ((k : ℕ) → n ≤ k → k < length members → test (word_at members k) ≡ false) → filter test (take n members) ≡ filter test members
filter-first test zero [] fails = refl
filter-first test (suc n) [] fails = refl
filter-first test zero (x ∷ members) fails =
    let first : test x ≡ false = fails 0 (omega arith) (omega arith) in
    rw first (filter-first test zero members (λ k from within. fails (suc k) (omega arith) (omega (arith, within))))
filter-first test (suc n) (x ∷ members) fails = go (test x)
    (filter-first test n members (λ k from within. fails (suc k) (omega (arith, from)) (omega (arith, within))))
  where
    go : (b : Bool) → filter test (take n members) ≡ filter test members
        → (if b then x ∷ filter test (take n members) else filter test (take n members))
        ≡ (if b then x ∷ filter test members else filter test members)
    go true e = ap (λ rest. x ∷ rest) e
    go false e = e

-- what passes is kept
contains-filter : (test : List ℕ → Bool) (words : List (List ℕ)) (word : List ℕ) → Contains words word → test word ≡ true
    → Contains (filter test words) word
contains-filter test words word c passes = in-contains (go words (contains-in words c))
  where
    go : (words : List (List ℕ)) → In word words → In word (filter test words)
    go words (here {xs = xs}) = rw passes here
    go words (there {y = y} {xs = xs} i) = next (test y) (go xs i)
      where
        next : (b : Bool) → In word (filter test xs) → In word (if b then y ∷ filter test xs else filter test xs)
        next true j = there j
        next false j = j

-- the words with these numbers, in whatever order they stood before
pub list-in_order : (P : List ℕ → Type 0) (members : List (List ℕ)) (old new : List ℕ) → IsPermutation old new
    → IsRising (words_at members new) → ((word : List ℕ) → Contains (words_at members old) word → P word)
    → ((word : List ℕ) → P word → Contains (words_at members old) word) → IsListOf P (words_at members new)
list-in_order P members old new moved rising sound whole = record {
  rising = rising;
  sound = λ word c. sound word (Contains-permutation (words_at members new) (words_at members old) word
      (IsPermutation-sym (words_at members old) (words_at members new) words) c);
  whole = λ word p. Contains-permutation (words_at members old) (words_at members new) word words (whole word p);
}
  where
    words : IsPermutation (words_at members old) (words_at members new)
    words = IsPermutation-map (λ i. word_at members i) old new moved

module _ (A : IntegerMatrix) (g : IsAdmissible A) (members : List (List ℕ)) (closed : IsClosed A members) (i : ℕ)
    (inside : i < length members)
  where
    -- one word has one place
    apart-members : AllPairs (λ v w. v ≢ w) members
    apart-members j k d less l e =
        let m : j < length members = omega (arith, less, l) in
        let same = closed.distinct j k m l (get_or_default members j [] d m ∙ e ∙ get_or_default members k d [] l) in
        omega (arith, less, same)

    -- also among those that pass
    pub apart-kept : AllPairs (λ v w. v ≢ w) (filter (λ x. is_below A x (word_at members i)) members)
    apart-kept = AllPairs-filter (λ v w. v ≢ w) (λ x. is_below A x (word_at members i)) members apart-members

    -- so their numbers are distinct
    pub distinct-kept : (numbers : List ℕ) → words_at members numbers ≡ filter (λ x. is_below A x (word_at members i)) members
        → AllPairs (λ x y. x ≢ y) numbers
    distinct-kept numbers words j k d less l same =
        let apart : AllPairs (λ v w. v ≢ w) (words_at members numbers) = rw words apart-kept in
        apart j k [] less (omega (arith, l, length-map numbers (λ i. word_at members i)))
        (get_or-map (λ k. word_at members k) numbers j d [] (omega (arith, less, l)) ∙ ap (word_at members) same
        ∙ sym (get_or-map (λ k. word_at members k) numbers k d [] l))

    -- no later member is below a member
    pub below-first : filter (λ x. is_below A x (word_at members i)) (take (i + 1) members)
        ≡ filter (λ x. is_below A x (word_at members i)) members
    below-first = filter-first (λ x. is_below A x (word_at members i)) (i + 1) members
        (λ k from within. false_from_ne_true (is_below A (word_at members k) (word_at members i))
        (λ e. later-not_below A g members closed k i within inside (omega (arith, from))
        ((is_below-tells A g (word_at members k) (word_at members i)).0 e)))

    -- those that pass are below it
    pub kept-below : (numbers : List ℕ) → words_at members numbers ≡ filter (λ x. is_below A x (word_at members i)) members
        → All (λ x. IsBelow A (word_at members x) (word_at members i)) numbers
    kept-below numbers words j d l =
        let all : All (λ x. is_below A x (word_at members i) ≡ true) (words_at members numbers)
        = rw words (filter_passes (λ x. is_below A x (word_at members i)) members) in
        let passes = rw (get_or-map (λ k. word_at members k) numbers j d [] l) at
        (all j [] (omega (arith, l, length-map numbers (λ k. word_at members k)))) in
        (is_below-tells A g (word_at members (get_or numbers j d)) (word_at members i)).0 passes

    module _ (w : List ℕ) (is : word_at members i ≡ normal_form A w) where
      pub member-same : SameElement A (word_at members i) w
      member-same = rw is (normal_form-same A g w)

      -- what is below w is a member
      below-member : (word : List ℕ) → IsInInterval A w word → Contains members word
      below-member word q = closed.down word (word_at members i) (contains-at members i inside) q.element
          (below-same A g (same-refl A g word) (same-sym A g member-same) q.below)

      -- the members that pass are those below w
      pub interval-sound : (word : List ℕ) → Contains (filter (λ x. is_below A x (word_at members i)) members) word → IsInInterval A w word
      interval-sound word c =
          let test = λ (x : List ℕ). is_below A x (word_at members i) in
          let member = All-contains (Contains members) (filter test members) word
          (All-filter test (Contains members) members (All-contains_itself members)) c in
          let passes = All-contains (λ x. test x ≡ true) (filter test members) word (filter_passes test members) c in
          record {
            element = closed.element word member;
            below = below-same A g (same-refl A g word) member-same ((is_below-tells A g word (word_at members i)).0 passes);
          }

      pub interval-whole : (word : List ℕ) → IsInInterval A w word → Contains (filter (λ x. is_below A x (word_at members i)) members) word
      interval-whole word q = contains-filter (λ x. is_below A x (word_at members i)) members word (below-member word q)
          ((is_below-tells A g word (word_at members i)).1 (below-same A g (same-refl A g word) (same-sym A g member-same) q.below))

      -- a sum over the first members that are below it is that over the interval
      pub first-same : {M : Type 0} (both : M → M → M) (none : M) → ((a b c : M) → both a (both b c) ≡ both b (both a c))
          → (at : List ℕ → M) (list : List (List ℕ)) → IsListOf (IsInInterval A w) list
          → total both none at (filter (λ x. is_below A x (word_at members i)) (take (i + 1) members)) ≡ total both none at list
      first-same both none trade at list are =
          let kept = filter (λ x. is_below A x (word_at members i)) members in
          rw below-first (total-same both none at trade kept list
          (once-apart kept (λ j k less l. apart-kept j k [] less l))
          (once-apart list (λ j k less l e. IsBefore-irrefl (rw e at (rising-before list j k are.rising less l))))
          (λ x c. contains-in list (are.whole x (interval-sound x (in-contains c))))
          (λ x c. contains-in kept (interval-whole x (are.sound x (in-contains c)))))

      -- they are as many as the interval has elements
      pub interval-size : (list : List (List ℕ)) → IsListOf (IsInInterval A w) list
          → length list ≡ length (filter (λ x. is_below A x (word_at members i)) members)
      interval-size list are =
          let kept = filter (λ x. is_below A x (word_at members i)) members in
          let same = rw below-first at (first-same (λ a b. a + b) 0 (λ a b c. omega arith) (λ x. 1) list are) in
          omega (arith, counted list, counted kept, same)
        where
          counted : (words : List (List ℕ)) → length words ≡ total (λ a b. a + b) 0 (λ x. 1) words
          counted [] = refl
          counted (x ∷ words) = omega (arith, counted words)

      -- whether an element is extremal depends on the element of w alone
      extremal-there : (x : List ℕ) → IsExtremal A (word_at members i) x → IsExtremal A w x
      extremal-there x e = record {
        left = λ s d. e.left s (omega (arith, d, word_length-equal A g member-same, word_length-equal A g (same-cons A g s member-same)));
        right = λ s d. e.right s (omega (arith, d, word_length-equal A g member-same, word_length-equal A g (same-push A g s member-same)));
      }

      extremal-back : (x : List ℕ) → IsExtremal A w x → IsExtremal A (word_at members i) x
      extremal-back x e = record {
        left = λ s d. e.left s (omega (arith, d, word_length-equal A g member-same, word_length-equal A g (same-cons A g s member-same)));
        right = λ s d. e.right s (omega (arith, d, word_length-equal A g member-same, word_length-equal A g (same-push A g s member-same)));
      }

      module _ (numbers : List ℕ) (are : AreExtremal A members (word_at members i) numbers) where
        extremal-word : (k : ℕ) → k < length numbers → word_at (words_at members numbers) k ≡ word_at members (number_at numbers k)
        extremal-word k l = get_or-map (λ j. word_at members j) numbers k 0 [] l

        extremal-sound : (word : List ℕ) → IsPlaced (words_at members numbers) word → IsExtremalBelow A w word
        extremal-sound word p =
            let l : p.i < length numbers = omega (arith, p.within, length-map numbers (λ i. word_at members i)) in
            let e : word_at members (number_at numbers p.i) ≡ word = sym (extremal-word p.i l) ∙ p.is in
            record {
              member = record {
                element = rw e at (element-at A g members closed (number_at numbers p.i) (are.within p.i l));
                below = below-same A g (same-refl A g word) member-same (rw e at (are.below p.i l));
              };
              extremal = extremal-there word (rw e at (are.extremal p.i l));
            }

        extremal-whole : (word : List ℕ) → IsExtremalBelow A w word → IsPlaced members word → Contains (words_at members numbers) word
        extremal-whole word q p =
            let found = are.whole p.i p.within (rw p.is (extremal-back word q.extremal))
            (rw p.is (below-same A g (same-refl A g word) (same-sym A g member-same) q.member.below)) in
            placed-contains (words_at members numbers) word (record {
              i = found.0;
              within = omega (arith, found.1, length-map numbers (λ i. word_at members i));
              is = extremal-word found.0 found.1 ∙ ap (word_at members) found.2 ∙ p.is;
            })

        -- those with the same numbers in ShortLex order
        pub extremal-list : (new : List ℕ) → IsPermutation numbers new → IsRising (words_at members new)
            → IsListOf (IsExtremalBelow A w) (words_at members new)
        extremal-list new moved rising = list-in_order (IsExtremalBelow A w) members numbers new moved rising
            (λ word c. extremal-sound word (contains-placed (words_at members numbers) word c))
            (λ word q. extremal-whole word q (contains-placed members word (below-member word q.member)))
