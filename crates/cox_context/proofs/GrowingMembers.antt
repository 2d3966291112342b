-- A list of members grows in ShortLex order.
use Rattle.std.proofs.Common.{◌≡◌, ℕ, ◌+◌, ◌≤◌, ◌<◌, List, [], ◌∷◌, ◌++◌, length, Contains, ◌⊎◌, inl, inr, Less, refl, ap, sym}
use Rattle.std.proofs.Common.{◌∙◌, ⊎_elim, arith, subst}
use Rattle.std.proofs.lemmas.Bool.{cases_lt, cases_order}
use Rattle.cox_lemmas.proofs.PushedItems.{push-length, push_cases}
use Rattle.cox_base.specs.Matrix.{IsLetter}
use Rattle.cox_base.specs.ShortLex.{shortlex_cmp}
use Rattle.cox_reflect.proofs.ShortLexFirst.{IsBefore, by_length, IsBefore-cons, IsBefore-head, before-shortlex_cmp}
use Rattle.cox_base.specs.SortedList.{IsListOf}
use Rattle.cox_context.specs.Refusal.{IsPrefixOf}
use Rattle.cox_context.specs.Numbers.{word_at}
use Rattle.cox_context.specs.Growth.{IsGrown, IsGrowing, IsChild, IsEarlier}
use Rattle.cox_context.proofs.PlacedWords.{contains-placed, placed-contains, word_at-old, word_at-new}
use Rattle.cox_context.proofs.PlacedWords.{rising-before, rising-push}

-- the empty word has the property, and so has each word without its first letter, which is a letter
pub record IsTailed (rank : ℕ) (P : List ℕ → Type 0) : Type 0 where
  pub least : P []
  pub letter : (s : ℕ) (x : List ℕ) → P (s ∷ x) → IsLetter rank s
  pub tail : (s : ℕ) (x : List ℕ) → P (s ∷ x) → P x

earlier-trans : (t i s j r k : ℕ) → IsEarlier t i s j → IsEarlier s j r k → IsEarlier t i r k
earlier-trans t i s j r k a b =
    ⊎_elim
    (λ (less : t < s). ⊎_elim (λ (more : s < r). inl (omega (arith, less, more))) (λ same. inl (omega (arith, less, same.0))) b)
    (λ e. ⊎_elim (λ (more : s < r). inl (omega (arith, e.0, more))) (λ same. inr (e.0 ∙ same.0, omega (arith, e.1, same.1))) b) a

module _ (rank : ℕ) (P : List ℕ → Type 0) (closed : IsTailed rank P) where
  empty-length : (word : List ℕ) → length word ≤ 0 → [] ≡ word
  empty-length [] l = refl
  empty-length (s ∷ x) l = absurd (omega (arith, l))

  pub grown-start : IsGrown rank P 0 0 ([] ∷ [])
  grown-start = record {
    start = omega arith;
    rising = λ i j l k. absurd (omega (arith, l, k));
    sound = λ i l. let e : i ≡ 0 = omega (arith, l) in rw e closed.least;
    shorter = λ i l. absurd (omega (arith, l));
    level = λ i k l. let e : i ≡ 0 = omega (arith, l) in rw e refl;
    whole = λ word p l. (0, omega arith, empty-length word l);
  }

  module _ (k low high s j : ℕ) (words : List (List ℕ)) (h : IsGrowing rank P k low high s j words) where
    -- children come in the order of their first letters, and then of their parents
    pair-before : (t i t' i' : ℕ) → low ≤ i → i < high → low ≤ i' → i' < high → IsEarlier t i t' i'
        → IsBefore (t ∷ word_at words i) (t' ∷ word_at words i')
    pair-before t i t' i' from to from' to' early =
        ⊎_elim (λ (less : t < t'). IsBefore-head t t' (word_at words i) (word_at words i')
        (omega (arith, h.level i from to, h.level i' from' to')) less)
        (λ same. rw same.0 (IsBefore-cons t' (rising-before words i i' h.rising same.1 (omega (arith, to', h.end))))) early

    -- each word comes before the child that is next
    pub child-after : (i : ℕ) → j < high → i < length words → IsBefore (word_at words i) (s ∷ word_at words j)
    child-after i inside l = ⊎_elim parent child (cases_lt i high)
      where
        size : length (word_at words j) ≡ k
        size = h.level j h.start inside

        parent : i < high → IsBefore (word_at words i) (s ∷ word_at words j)
        parent below = ⊎_elim (λ (less : i < low). by_length (omega (arith, h.shorter i less, size)))
            (λ (more : low ≤ i). by_length (omega (arith, h.level i more below, size))) (cases_lt i low)

        child : high ≤ i → IsBefore (word_at words i) (s ∷ word_at words j)
        child above = of_child (h.made i above l)
          where
            of_child : (c : IsChild words low s j i) × (c.i < high) → IsBefore (word_at words i) (s ∷ word_at words j)
            of_child (c, below) =
                rw c.is (pair-before c.t c.i s j c.from below h.start inside c.earlier)

    -- no word is longer than k + 1
    pub growing-length : (i : ℕ) → i < length words → length (word_at words i) ≤ k + 1
    growing-length i l = ⊎_elim parent child (cases_lt i high)
      where
        parent : i < high → length (word_at words i) ≤ k + 1
        parent below = ⊎_elim (λ (less : i < low). omega (arith, h.shorter i less))
            (λ (more : low ≤ i). omega (arith, h.level i more below)) (cases_lt i low)

        child : high ≤ i → length (word_at words i) ≤ k + 1
        child above = of_child (h.made i above l)
          where
            of_child : (c : IsChild words low s j i) × (c.i < high) → length (word_at words i) ≤ k + 1
            of_child (c, below) = rw c.is (omega (arith, h.level c.i c.from below))

    earlier-next : (t i : ℕ) → IsEarlier t i s (j + 1) → IsEarlier t i s j ⊎ ((t ≡ s) × (i ≡ j))
    earlier-next t i early =
        ⊎_elim (λ less. inl (inl less))
        (λ same. ⊎_elim (λ (below : i < j). inl (inr (same.0, below))) (λ (above : j ≤ i). inr (same.0, omega (arith, same.1, above)))
        (cases_lt i j)) early

    cases_earlier : (t i : ℕ) → IsEarlier t i s (j + 1) ⊎ IsEarlier s j t i
    cases_earlier t i =
        ⊎_elim (λ (e : t ≡ s). ⊎_elim (λ (below : i < j + 1). inl (inr (e, below)))
        (λ (above : j + 1 ≤ i). inr (inr (sym e, omega (arith, above)))) (cases_lt i (j + 1)))
        (λ side. ⊎_elim (λ less. inl (inl less)) (λ more. inr (inl more)) side) (cases_order t s)

    later : (t i : ℕ) → IsEarlier t i s j → IsEarlier t i s (j + 1)
    later t i early = ⊎_elim (λ less. inl less) (λ same. inr (same.0, omega (arith, same.1))) early

    -- the next child is no member
    pub growing-skip : j < high → (P (s ∷ word_at words j) → ⊥) → IsGrowing rank P k low high s (j + 1) words
    growing-skip inside none = record {
      start = omega (arith, h.start);
      stop = omega (arith, inside);
      end = h.end;
      rising = h.rising;
      sound = h.sound;
      shorter = h.shorter;
      level = h.level;
      whole = h.whole;
      made = λ m from to. let c = h.made m from to in
          (record { t = c.0.t; i = c.0.i; from = c.0.from; earlier = later c.0.t c.0.i c.0.earlier; is = c.0.is }, c.1);
      found = λ t i l from to early p.
          ⊎_elim (λ old. h.found t i l from to old p) (λ here. absurd (none (rw (here.0, here.1) at p))) (earlier-next t i early);
    }

    -- it is one, and is appended
    pub growing-push : j < high → P (s ∷ word_at words j) → IsGrowing rank P k low high s (j + 1) (words ++ (s ∷ word_at words j) ∷ [])
    growing-push inside member = record {
      start = omega (arith, h.start);
      stop = omega (arith, inside);
      end = omega (arith, h.end, more);
      rising = rising-push words y h.rising (λ i l. child-after i inside l);
      sound = λ i l. ⊎_elim (λ below. rw (word_at-old words y i below) (h.sound i below))
          (λ last. rw (word_at-new words y i last) member) (push_cases words y i l);
      shorter = λ i l. rw (old i (omega (arith, l, h.start, inside))) (h.shorter i l);
      level = λ i from to. rw (old i to) (h.level i from to);
      whole = λ word p l. let w = h.whole word p l in (w.0, w.1, rw (old w.0 w.1) w.2);
      made = λ m from to. ⊎_elim (λ below. made_earlier m (h.made m from below) below) (λ last. made_last m last) (push_cases words y m to);
      found = λ t i l from to early p.
          let q : P (t ∷ word_at words i) = rw (old i to) at p
          in ⊎_elim (λ before. found_before t i (h.found t i l from to before q) to) (λ here. found_here t i here) (earlier-next t i early);
    }
      where
        y : List ℕ
        y = s ∷ word_at words j

        more : length (words ++ y ∷ []) ≡ length words + 1
        more = push-length words y

        old : (i : ℕ) → i < high → word_at (words ++ y ∷ []) i ≡ word_at words i
        old i l = word_at-old words y i (omega (arith, l, h.end))

        made_earlier : (m : ℕ) → (c : IsChild words low s j m) × (c.i < high) → m < length words
            → (c : IsChild (words ++ y ∷ []) low s (j + 1) m) × (c.i < high)
        made_earlier m (c, below) l = (
          record {
            t = c.t;
            i = c.i;
            from = c.from;
            earlier = later c.t c.i c.earlier;
            is = word_at-old words y m l ∙ c.is ∙ ap (λ (x : List ℕ). c.t ∷ x) (sym (old c.i below));
          },
          below,
        )

        made_last : (m : ℕ) → m ≡ length words → (c : IsChild (words ++ y ∷ []) low s (j + 1) m) × (c.i < high)
        made_last m last = (
          record {
            t = s;
            i = j;
            from = h.start;
            earlier = inr (refl, omega arith);
            is = word_at-new words y m last ∙ ap (λ (x : List ℕ). s ∷ x) (sym (old j inside));
          },
          inside,
        )

        found_before : (t i : ℕ) → (m : ℕ) × (m < length words) × (word_at words m ≡ t ∷ word_at words i) → i < high
            → (m : ℕ) × (m < length (words ++ y ∷ [])) × (word_at (words ++ y ∷ []) m ≡ t ∷ word_at (words ++ y ∷ []) i)
        found_before t i (m, l, e) to =
            (m, omega (arith, l, more), word_at-old words y m l ∙ e ∙ ap (λ (x : List ℕ). t ∷ x) (sym (old i to)))

        found_here : (t i : ℕ) → (t ≡ s) × (i ≡ j) → (m : ℕ) × (m < length (words ++ y ∷ [])) ×
            (word_at (words ++ y ∷ []) m ≡ t ∷ word_at (words ++ y ∷ []) i)
        found_here t i (e, f) = (length words, omega (arith, more), word_at-new words y (length words) refl ∙ rw (e, f, old j inside) refl)

    pub growing-push_length : j < high → (i : ℕ) → i < length words + 1 → length (word_at (words ++ (s ∷ word_at words j) ∷ []) i) ≤ k + 1
    growing-push_length inside i l =
        ⊎_elim (λ below. rw (word_at-old words (s ∷ word_at words j) i below) (growing-length i below))
        (λ last. rw (word_at-new words (s ∷ word_at words j) i last) (omega (arith, h.level j h.start inside)))
        (push_cases words (s ∷ word_at words j) i (omega (arith, l, push-length words (s ∷ word_at words j))))

    -- .. and then the list is a prefix of the members
    pub growing-prefix : j < high → P (s ∷ word_at words j) → IsPrefixOf P (words ++ (s ∷ word_at words j) ∷ [])
    growing-prefix inside member = record {
      rising = next.rising;
      sound = λ word c. let p = contains-placed all word c in subst P p.is (next.sound p.i p.within);
      first = λ word p. first_of word p;
    }
      where
        all : List (List ℕ)
        all = words ++ (s ∷ word_at words j) ∷ []

        next : IsGrowing rank P k low high s (j + 1) all
        next = growing-push inside member

        size : length (word_at words j) ≡ k
        size = h.level j h.start inside

        old : (i : ℕ) → i < high → word_at all i ≡ word_at words i
        old i l = word_at-old words (s ∷ word_at words j) i (omega (arith, l, h.end))

        -- a word that is longer than all
        beyond : (word : List ℕ) → ((i : ℕ) → i < length all → IsBefore (word_at all i) word) → (other : List ℕ) → Contains all other
            → shortlex_cmp other word ≡ Less
        beyond word after other c = let p = contains-placed all other c in rw (← p.is) (before-shortlex_cmp (after p.i p.within))

        length_next : (i : ℕ) → i < length all → length (word_at all i) ≤ k + 1
        length_next i m = growing-push_length inside i (omega (arith, m, push-length words (s ∷ word_at words j)))

        -- a word t x of k + 1 letters, with x the word i
        of_parent : (t i : ℕ) → low ≤ i → i < high → P (t ∷ word_at words i)
            → Contains all (t ∷ word_at words i) ⊎
            ((other : List ℕ) → Contains all other → shortlex_cmp other (t ∷ word_at words i) ≡ Less)
        of_parent t i from to p = go (cases_earlier t i)
          where
            q : P (t ∷ word_at all i)
            q = rw (old i to) p

            there : (m : ℕ) × (m < length all) × (word_at all m ≡ t ∷ word_at all i) → Contains all (t ∷ word_at words i)
            there (m, l, e) =
                placed-contains all (t ∷ word_at words i) (record { i = m; within = l; is = e ∙ ap (λ (x : List ℕ). t ∷ x) (old i to) })

            go : IsEarlier t i s (j + 1) ⊎ IsEarlier s j t i
                → Contains all (t ∷ word_at words i) ⊎
                ((other : List ℕ) → Contains all other → shortlex_cmp other (t ∷ word_at words i) ≡ Less)
            go (inl early) = inl (there (next.found t i (closed.letter t (word_at words i) p) from to early q))
            go (inr late) = inr (beyond (t ∷ word_at words i) (λ m l. before_late m l))
              where
                last : IsBefore (s ∷ word_at words j) (t ∷ word_at words i)
                last = pair-before s j t i h.start inside from to late

                of_child : (m : ℕ) → (c : IsChild words low s j m) × (c.i < high) → IsBefore (word_at words m) (t ∷ word_at words i)
                of_child m (c, below) =
                    rw c.is (pair-before c.t c.i t i c.from below from to (earlier-trans c.t c.i s j t i c.earlier late))

                parent : (m : ℕ) → m < high → IsBefore (word_at words m) (t ∷ word_at words i)
                parent m below =
                    ⊎_elim (λ (less : m < low). by_length (omega (arith, h.shorter m less, h.level i from to)))
                    (λ (more : low ≤ m). by_length (omega (arith, h.level m more below, h.level i from to))) (cases_lt m low)

                before_late : (m : ℕ) → m < length all → IsBefore (word_at all m) (t ∷ word_at words i)
                before_late m l =
                    ⊎_elim
                    (λ below. rw (word_at-old words (s ∷ word_at words j) m below)
                    (⊎_elim (λ (less : m < high). parent m less) (λ (more : high ≤ m). of_child m (h.made m more below))
                    (cases_lt m high)))
                    (λ here. rw (word_at-new words (s ∷ word_at words j) m here) last) (push_cases words (s ∷ word_at words j) m l)

        as_long : (word : List ℕ) → P word → length word ≡ k + 1
            → Contains all word ⊎ ((other : List ℕ) → Contains all other → shortlex_cmp other word ≡ Less)
        as_long [] p l = absurd (omega (arith, l))
        as_long (t ∷ x) p l = of_place (h.whole x (closed.tail t x p) (omega (arith, l)))
          where
            of_place : (i : ℕ) × (i < high) × (word_at words i ≡ x)
                → Contains all (t ∷ x) ⊎ ((other : List ℕ) → Contains all other → shortlex_cmp other (t ∷ x) ≡ Less)
            of_place (i, to, e) =
                let from : low ≤ i = ⊎_elim (λ (less : i < low). absurd (omega (arith, h.shorter i less, ap length e, l)))
                (λ (more : low ≤ i). more) (cases_lt i low)
                in rw (← e) (of_parent t i from to (rw e p))

        first_of : (word : List ℕ) → P word → Contains all word ⊎ ((other : List ℕ) → Contains all other → shortlex_cmp other word ≡ Less)
        first_of word p = ⊎_elim short
            (λ l. ⊎_elim (λ same. as_long word p (omega (arith, l, same))) long (cases_lt (length word) (k + 2)))
            (cases_lt (length word) (k + 1))
          where
            short : length word < k + 1 → Contains all word ⊎ ((other : List ℕ) → Contains all other → shortlex_cmp other word ≡ Less)
            short l = let w = next.whole word p (omega (arith, l)) in inl
                (placed-contains all word (record { i = w.0; within = omega (arith, w.1, next.end); is = w.2 }))

            long : k + 2 ≤ length word → Contains all word ⊎ ((other : List ℕ) → Contains all other → shortlex_cmp other word ≡ Less)
            long l = inr (beyond word (λ i m. by_length (omega (arith, length_next i m, l))))

  -- behind the last parent comes the next letter
  pub growing-letter : (k low high s : ℕ) (words : List (List ℕ)) → low ≤ high → IsGrowing rank P k low high s high words
      → IsGrowing rank P k low high (s + 1) low words
  growing-letter k low high s words o h = record {
    start = omega arith;
    stop = o;
    end = h.end;
    rising = h.rising;
    sound = h.sound;
    shorter = h.shorter;
    level = h.level;
    whole = h.whole;
    made = λ m from to. let c = h.made m from to in (
      record {
        t = c.0.t;
        i = c.0.i;
        from = c.0.from;
        earlier = ⊎_elim (λ less. inl (omega (arith, less)))
            (λ same. inl (omega (arith, same.0))) c.0.earlier;
        is = c.0.is;
      },
      c.1,
    );
    found = λ t i l from to early p. h.found t i l from to
        (⊎_elim (λ less. next t i to less) (λ same. absurd (omega (arith, same.1, from))) early) p;
  }
    where
      next : (t i : ℕ) → i < high → t < s + 1 → IsEarlier t i s high
      next t i to less = ⊎_elim (λ (e : t ≡ s). inr (e, to))
          (λ side. ⊎_elim (λ below. inl below) (λ above. absurd (omega (arith, less, above))) side) (cases_order t s)

  -- behind the last letter the members of k + 1 letters are found
  pub grown-end : (k low high s : ℕ) (words : List (List ℕ)) → s ≡ rank + 1 → IsGrowing rank P k low high s low words
      → IsGrown rank P (k + 1) high words
  grown-end k low high s words e h = record {
    start = h.end;
    rising = h.rising;
    sound = h.sound;
    shorter = λ i l. ⊎_elim (λ (less : i < low). omega (arith, h.shorter i less)) (λ (more : low ≤ i). omega (arith, h.level i more l))
        (cases_lt i low);
    level = λ i from to. of_child i (h.made i from to);
    whole = λ word p l. ⊎_elim (λ below. short word p (omega (arith, below))) (λ above. long word p (omega (arith, l, above)))
        (cases_lt (length word) (k + 1));
  }
    where
      of_child : (m : ℕ) → (c : IsChild words low s low m) × (c.i < high) → length (word_at words m) ≡ k + 1
      of_child m (c, below) = rw c.is (omega (arith, h.level c.i c.from below))

      short : (word : List ℕ) → P word → length word ≤ k → (i : ℕ) × (i < length words) × (word_at words i ≡ word)
      short word p l = let w = h.whole word p l in (w.0, omega (arith, w.1, h.end), w.2)

      long : (word : List ℕ) → P word → length word ≡ k + 1 → (i : ℕ) × (i < length words) × (word_at words i ≡ word)
      long [] p l = absurd (omega (arith, l))
      long (t ∷ x) p l = of_place (h.whole x (closed.tail t x p) (omega (arith, l)))
        where
          of_place : (i : ℕ) × (i < high) × (word_at words i ≡ x) → (m : ℕ) × (m < length words) × (word_at words m ≡ t ∷ x)
          of_place (i, to, q) =
              let from : low ≤ i = ⊎_elim (λ (less : i < low). absurd (omega (arith, h.shorter i less, ap length q, l)))
              (λ (more : low ≤ i). more) (cases_lt i low)
              in let letter = closed.letter t x p
              in rw (← q) (h.found t i letter from to (inl (omega (arith, letter.to_rank, e))) (rw q p))

  -- where no member is longer, the list is that of the members
  pub grown-list : (k low : ℕ) (words : List (List ℕ)) → IsGrown rank P k low words → ((word : List ℕ) → P word → length word ≤ k)
      → IsListOf P words
  grown-list k low words h none = record {
    rising = h.rising;
    sound = λ word c. let p = contains-placed words word c in subst P p.is (h.sound p.i p.within);
    whole = λ word p. let w = h.whole word p (none word p) in placed-contains words word (record { i = w.0; within = w.1; is = w.2 });
  }

  pub grown-length : (k low : ℕ) (words : List (List ℕ)) → IsGrown rank P k low words → (i : ℕ) → i < length words
      → length (word_at words i) ≤ k
  grown-length k low words h i l =
      ⊎_elim (λ (less : i < low). omega (arith, h.shorter i less)) (λ (more : low ≤ i). omega (arith, h.level i more l)) (cases_lt i low)
