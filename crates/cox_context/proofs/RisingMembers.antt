-- Members in ShortLex order, as far as they go: one more of them, the first of them, and whether all are.
use Rattle.std.proofs.Common.{◌≡◌, ◌≢◌, ℕ, ◌+◌, ◌-◌, ◌≤◌, ◌<◌, List, [], ◌∷◌, ◌++◌, length, take, min, ◌↔◌, Less, sym}
use Rattle.std.proofs.Common.{⊎_elim, arith}
use Rattle.std.specs.Cmp.{IsTotalOrder}
use Rattle.std.proofs.lemmas.Bool.{cases_lt, cases_order}
use Rattle.std.proofs.lemmas.Cmp.{on_total, then_total, nat_cmp_total, nat_list_cmp_total}
use Rattle.std.proofs.lemmas.List.{get_or-take, length-take-le}
use Rattle.cox_base.specs.ShortLex.{shortlex_cmp}
use Rattle.cox_base.specs.SortedList.{IsRising}
use Rattle.cox_reflect.proofs.ShortLexFirst.{by_length, IsBefore-asym, IsBefore-irrefl, IsBefore-cons, IsBefore-head, length-before}
use Rattle.cox_reflect.proofs.ShortLexFirst.{before-shortlex_cmp, shortlex_cmp-before}
use Rattle.cox_lemmas.proofs.PushedItems.{push-length, push_cases}
use Rattle.cox_context.specs.Numbers.{word_at}
use Rattle.cox_context.specs.Links.{AreRising}
use Rattle.cox_context.proofs.PlacedWords.{word_at-old, word_at-new, rising-before}

pub shortlex_total : IsTotalOrder shortlex_cmp
shortlex_total = then_total (on_total length nat_cmp_total) nat_list_cmp_total

-- ---- two words by their lengths, their first letters, and what follows

pub before_by_length : (v w : List ℕ) → length v ≢ length w → (length v < length w) ↔ (shortlex_cmp v w ≡ Less)
before_by_length v w differ = (
  λ l. before-shortlex_cmp (by_length l),
  λ e. let l = length-before (shortlex_cmp-before v w e) in omega (arith, l, differ),
)

pub before_by_first : (s t : ℕ) (v w : List ℕ) → length v ≡ length w → s ≢ t → (s < t) ↔ (shortlex_cmp (s ∷ v) (t ∷ w) ≡ Less)
before_by_first s t v w size differ = (
  λ l. before-shortlex_cmp (IsBefore-head s t v w size l),
  λ e. ⊎_elim (λ same. absurd (differ same)) (λ side. ⊎_elim (λ l. l)
      (λ l. absurd (IsBefore-asym (shortlex_cmp-before (s ∷ v) (t ∷ w) e) (IsBefore-head t s w v (sym size) l))) side)
      (cases_order s t),
)

-- where words are in order, their numbers tell it
pub before_by_rest : (words : List (List ℕ)) → IsRising words → (s i j : ℕ) → i < length words → j < length words
    → (i < j) ↔ (shortlex_cmp (s ∷ word_at words i) (s ∷ word_at words j) ≡ Less)
before_by_rest words rising s i j inside within = (
  λ l. before-shortlex_cmp (IsBefore-cons s (rising-before words i j rising l within)),
  λ e. ⊎_elim (λ same. absurd (IsBefore-irrefl (shortlex_cmp-before (s ∷ word_at words j) (s ∷ word_at words j) (rw same at e))))
      (λ side. ⊎_elim (λ l. l)
      (λ l. absurd (IsBefore-asym (shortlex_cmp-before (s ∷ word_at words i) (s ∷ word_at words j) e)
      (IsBefore-cons s (rising-before words j i rising l inside)))) side)
      (cases_order i j),
)

-- ---- the first words that are in order

pub rising-start : AreRising ([] ∷ []) 1
rising-start = record {
  some = omega arith;
  within = omega arith;
  rising = λ i j l k. absurd (omega (arith, l, k));
  stop = λ l e. omega (arith, l);
}

module _ (words : List (List ℕ)) (count : ℕ) (h : AreRising words count) where
  pub rising-whole : (count ≡ length words) ↔ IsRising words
  rising-whole = (
    λ e i j l k. h.rising i j l (omega (arith, e, k)),
    λ all. ⊎_elim (λ (less : count < length words). absurd (h.stop less (all (count - 1) count (omega (arith, h.some)) less)))
        (λ (more : length words ≤ count). omega (arith, more, h.within)) (cases_lt count (length words)),
  )

  pub rising-take : (n m : ℕ) → 1 ≤ n → n ≤ length words → m ≡ min count n → AreRising (take n words) m
  rising-take n m some within least = record {
    some = omega (arith, h.some, some, least);
    within = omega (arith, least, size);
    rising = λ i j l k. rw (old i (omega (arith, l, k, least)), old j (omega (arith, k, least)))
        (h.rising i j l (omega (arith, k, least)));
    stop = λ l e.
        let less : m < n = omega (arith, l, size)
        in let all : m ≡ count = omega (arith, less, least)
        in let before : m - 1 < n = omega (arith, less)
        in h.stop (omega (arith, less, all, within)) (rw (old (m - 1) before, old m less, all) at e);
  }
    where
      size : length (take n words) ≡ n
      size = length-take-le n words within

      old : (i : ℕ) → i < n → word_at (take n words) i ≡ word_at words i
      old i l = get_or-take n words i [] l

  module _ (y : List ℕ) where
    old : (i : ℕ) → i < length words → word_at (words ++ y ∷ []) i ≡ word_at words i
    old i l = word_at-old words y i l

    new : (i : ℕ) → i ≡ length words → word_at (words ++ y ∷ []) i ≡ y
    new i e = word_at-new words y i e

    -- one word more, behind the last one of a list in order
    pub rising-more : count ≡ length words → shortlex_cmp (word_at words (length words - 1)) y ≡ Less
        → AreRising (words ++ y ∷ []) (count + 1)
    rising-more all less = record {
      some = omega arith;
      within = omega (arith, push-length words y, all);
      rising = λ i j l k. ⊎_elim (λ (inside : j < length words). rw (old i (omega (arith, l, inside)), old j inside)
          (h.rising i j l (omega (arith, inside, all))))
          (λ (last : j ≡ length words). rw (old i (omega (arith, l, last)), new j last) (before i (omega (arith, l, last))))
          (push_cases words y j (omega (arith, k, all, push-length words y)));
      stop = λ l e. omega (arith, l, all, push-length words y);
    }
      where
        before : (i : ℕ) → i < length words → shortlex_cmp (word_at words i) y ≡ Less
        before i inside = ⊎_elim
            (λ (below : i < length words - 1). shortlex_total.trans (word_at words i) (word_at words (length words - 1)) y
            (h.rising i (length words - 1) below (omega (arith, inside, all))) less)
            (λ (last : length words - 1 ≤ i). let e : i ≡ length words - 1 = omega (arith, last, inside) in rw e less)
            (cases_lt i (length words - 1))

    -- one word more, which does not go on so
    pub rising-same : (count ≡ length words → shortlex_cmp (word_at words (length words - 1)) y ≡ Less → ⊥)
        → AreRising (words ++ y ∷ []) count
    rising-same none = record {
      some = h.some;
      within = omega (arith, push-length words y, h.within);
      rising = λ i j l k. rw (old i (omega (arith, l, k, h.within)), old j (omega (arith, k, h.within))) (h.rising i j l k);
      stop = λ l e. ⊎_elim
          (λ (inside : count < length words). h.stop inside (rw (old (count - 1) (omega (arith, inside)), old count inside) at e))
          (λ (last : count ≡ length words). none last (rw (
            old (count - 1) (omega (arith, last, h.some)),
            new count last,
            last,
          ) at e))
          (push_cases words y count l);
    }
