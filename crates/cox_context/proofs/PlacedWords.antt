-- Places and members of lists of words, and the order of their words.
use Rattle.std.proofs.Common.{◌≡◌, ℕ, ◌≤◌, ◌<◌, List, [], ◌∷◌, ◌++◌, length, Contains, Less, refl, ◌∙◌}
use Rattle.std.proofs.Common.{⊎_elim, arith}
use Rattle.std.proofs.lemmas.Bool.{cases_order}
use Rattle.std.proofs.lemmas.List.{get_or_default}
use Rattle.cox_lemmas.proofs.PushedItems.{push-old, push-new, push_cases}
use Rattle.cox_base.specs.ShortLex.{shortlex_cmp}
use Rattle.cox_reflect.proofs.ShortLexFirst.{IsBefore, IsBefore-irrefl, length-before, before-shortlex_cmp, shortlex_cmp-before}
use Rattle.cox_base.specs.SortedList.{IsRising}
use Rattle.cox_context.specs.Numbers.{word_at}

-- a word of the list has a place
pub record IsPlaced (words : List (List ℕ)) (word : List ℕ) : Type 0 where
  pub i : ℕ
  pub within : i < length words
  pub is : word_at words i ≡ word

pub contains-placed : (words : List (List ℕ)) (word : List ℕ) → Contains words word → IsPlaced words word
contains-placed words word c = record { i = c.0; within = c.1; is = get_or_default words c.0 [] word c.1 ∙ c.2 }

pub placed-contains : (words : List (List ℕ)) (word : List ℕ) → IsPlaced words word → Contains words word
placed-contains words word p = (p.i, p.within, get_or_default words p.i word [] p.within ∙ p.is)

pub contains-at : (words : List (List ℕ)) (i : ℕ) → i < length words → Contains words (word_at words i)
contains-at words i l = placed-contains words (word_at words i) (record { i = i; within = l; is = refl })

-- ---- a list with one more word

pub word_at-old : (words : List (List ℕ)) (y : List ℕ) (i : ℕ) → i < length words → word_at (words ++ y ∷ []) i ≡ word_at words i
word_at-old words y i l = push-old words y [] i l

pub word_at-new : (words : List (List ℕ)) (y : List ℕ) (i : ℕ) → i ≡ length words → word_at (words ++ y ∷ []) i ≡ y
word_at-new words y i e = push-new words y [] i e

-- ---- rising lists

pub rising-before : (words : List (List ℕ)) (i j : ℕ) → IsRising words → i < j → j < length words
    → IsBefore (word_at words i) (word_at words j)
rising-before words i j r l k = shortlex_cmp-before (word_at words i) (word_at words j) (r i j l k)

pub rising-length : (words : List (List ℕ)) (i j : ℕ) → IsRising words → i ≤ j → j < length words
    → length (word_at words i) ≤ length (word_at words j)
rising-length words i j r l k =
    ⊎_elim (λ (e : i ≡ j). rw e (omega arith))
    (λ side. ⊎_elim (λ (less : i < j). length-before (rising-before words i j r less k))
    (λ (more : j < i). absurd (omega (arith, l, more))) side) (cases_order i j)

-- one word has one place
pub rising-place : (words : List (List ℕ)) (i j : ℕ) → IsRising words → i < length words → j < length words
    → word_at words i ≡ word_at words j → i ≡ j
rising-place words i j r l k e =
    ⊎_elim (λ (q : i ≡ j). q)
    (λ side. ⊎_elim (λ (less : i < j). absurd (IsBefore-irrefl (rw e at (rising-before words i j r less k))))
    (λ (more : j < i). absurd (IsBefore-irrefl (rw e at (rising-before words j i r more l)))) side)
    (cases_order i j)

pub rising-push : (words : List (List ℕ)) (y : List ℕ) → IsRising words → ((i : ℕ) → i < length words → IsBefore (word_at words i) y)
    → IsRising (words ++ y ∷ [])
rising-push words y r last i j l k = ⊎_elim old new (push_cases words y j k)
  where
    old : j < length words → shortlex_cmp (word_at (words ++ y ∷ []) i) (word_at (words ++ y ∷ []) j) ≡ Less
    old below = rw (word_at-old words y i (omega (arith, l, below)), word_at-old words y j below) (r i j l below)

    new : j ≡ length words → shortlex_cmp (word_at (words ++ y ∷ []) i) (word_at (words ++ y ∷ []) j) ≡ Less
    new e =
        let below : i < length words = omega (arith, l, e)
        in rw (word_at-old words y i below, word_at-new words y j e) (before-shortlex_cmp (last i below))
