-- Bits of words: what they say of members, and the numbers that are listed by them.
use Rattle.std.proofs.Common.{◌≡◌, ℕ, ◌+◌, ◌*◌, ◌/◌, ◌%◌, ◌^◌, ◌-◌, ◌<◌, ◌≤◌, List, [], ◌∷◌, ◌++◌, length, ◌↔◌}
use Rattle.std.proofs.Common.{Option, None, Some, refl, sym, ap, ◌∙◌, ⊎_elim, arith, bit_and, min, w64}
use Rattle.std.specs.Prelude.{slice_get, slice_index_or, IfSome, IsBitSet}
use Rattle.std.specs.Int.{bit_at, bit_not, trailing_zeros}
use Rattle.std.specs.Global.{Vec}
use Rattle.std.proofs.lemmas.Bool.{cases_lt, cases_eq}
use Rattle.std.proofs.lemmas.Nat.Bits.{bit_at_and, bit_at-lt, bit_at-zero, bit_at-trailing_zeros, bit_at_clear_same, bit_at_clear_other}
use Rattle.std.proofs.lemmas.Option.{slice_get-get_or, slice_get_past}
use Rattle.std.proofs.lemmas.List.{get_or-set_same, get_or-set_other, length-set}
use Rattle.std.proofs.Math.ListN.{set as put}
use Rattle.cox_base.specs.declared.side.Side.{Side}
use Rattle.cox_base.specs.IntegerMatrix.{integer_matrix}
use Rattle.cox_base.specs.SideDescents.{IsDescent}
use Rattle.cox_context.specs.Closed.{Elements}
use Rattle.cox_context.specs.Numbers.{word_at}
use Rattle.cox_context.specs.Spread.{AreKept}
use Rattle.cox_row.specs.Rising.{number_at}
use Rattle.cox_row.proofs.RisingNumbers.{each-push, rising-push, within-push, found-push}
use Rattle.cox_klstep.specs.DescentBits.{HasBit, AreBits, AreLetterBits, HasLetters, AreNumbersOf}

-- ---- numbers by their bits

pub numbers-none : (words : List ℕ) → AreNumbersOf words 0 []
numbers-none words = record {
  rising = λ j k less l. absurd (omega (arith, l));
  before = λ k l. absurd (omega (arith, l));
  each = λ k l. absurd (omega (arith, l));
  whole = λ y l. absurd (omega (arith, l));
}

module _ (words : List ℕ) (from : ℕ) (numbers : List ℕ) (h : AreNumbersOf words from numbers) where
  -- up to a number before which no bit is set
  pub numbers-skip : (end : ℕ) → from ≤ end → ((y : ℕ) → from ≤ y → y < end → HasBit words y → ⊥) → AreNumbersOf words end numbers
  numbers-skip end ahead none = record {
    rising = h.rising;
    before = λ k l. omega (arith, h.before k l, ahead);
    each = h.each;
    whole = λ y l has. ⊎_elim (λ (less : y < from). h.whole y less has) (λ (more : from ≤ y). absurd (none y more l has))
        (cases_lt y from);
  }

  pub numbers-push : HasBit words from → AreNumbersOf words (from + 1) (numbers ++ from ∷ [])
  numbers-push has = record {
    rising = rising-push numbers from h.rising h.before;
    before = within-push numbers from h.before;
    each = each-push (λ y. HasBit words y) numbers from h.each has;
    whole = λ y l d. found-push numbers from y (λ (less : y < from). h.whole y less d) l;
  }

-- the bit of a number in the word where it has its bit
pub bit-in-word : (words : List ℕ) (place y : ℕ) → place * 64 ≤ y → y < place * 64 + 64
    → bit_at (number_at words (y / 64)) (y % 64) ≡ bit_at (number_at words place) (y - place * 64)
bit-in-word words place y from l =
    let at : y / 64 ≡ place = omega (arith, from, l)
    in let bit : y % 64 ≡ y - place * 64 = omega (arith, from, l)
    in rw (at, bit) refl

-- The members up to a bit of the word at a place are listed; the rest has the bits of the word from there on.
module _ (words : List ℕ) (place last from rest : ℕ) (numbers : List ℕ) (listed : AreNumbersOf words (place * 64 + from) numbers)
    (bound : from ≤ 64) (before : place * 64 + from ≤ last + 1)
    (low : (j : ℕ) → j < from → bit_at rest j ≡ 0)
    (high : (j : ℕ) → from ≤ j → j < 64 → bit_at rest j ≡ bit_at (number_at words place) j) where
  -- no bit is set up to one before which the rest has none
  none-before : (end : ℕ) → end ≤ 64 → ((j : ℕ) → j < end → bit_at rest j ≡ 0) → (y : ℕ) → place * 64 + from ≤ y → y < place * 64 + end
      → HasBit words y → ⊥
  none-before end few zero y l m has =
      let in_word = bit-in-word words place y (omega (arith, l)) (omega (arith, m, few))
      in let none = zero (y - place * 64) (omega (arith, l, m))
      in let same = high (y - place * 64) (omega (arith, l)) (omega (arith, m, few))
      in omega (arith, has, in_word, none, same)

  -- nothing is left
  pub listed-end : rest ≡ 0 → AreNumbersOf words (min (place * 64 + 64) (last + 1)) numbers
  listed-end none = numbers-skip words (place * 64 + from) numbers listed (min (place * 64 + 64) (last + 1)) (omega (arith, bound, before))
      (λ y l m. none-before 64 (omega arith) (λ j k. rw none (bit_at-zero j)) y l (omega (arith, m)))

  module _ (some : 0 < rest) (fits : rest < 2 ^ 64) where
    abbrev lowest : ℕ
    lowest = trailing_zeros w64 rest

    place-lowest : (lowest < 64) × (bit_at rest lowest ≡ 1) × ((j : ℕ) → j < lowest → bit_at rest j ≡ 0)
    place-lowest = bit_at-trailing_zeros w64 rest some fits

    pub lowest-within : lowest < 64
    lowest-within = place-lowest.0

    pub lowest-ahead : from ≤ lowest
    lowest-ahead = ⊎_elim (λ (less : lowest < from). absurd (omega (arith, low lowest less, place-lowest.1)))
        (λ (more : from ≤ lowest). more)
        (cases_lt lowest from)

    -- the lowest bit of the rest is that of a member past the last one
    pub listed-past : last < place * 64 + lowest → AreNumbersOf words (min (place * 64 + 64) (last + 1)) numbers
    listed-past past = numbers-skip words (place * 64 + from) numbers listed (min (place * 64 + 64) (last + 1))
        (omega (arith, bound, before))
        (λ y l m. none-before lowest (omega (arith, lowest-within)) place-lowest.2 y l (omega (arith, m, past)))

    pub listed-next : AreNumbersOf words (place * 64 + (lowest + 1)) (numbers ++ (place * 64 + lowest) ∷ [])
    listed-next =
        let skipped = numbers-skip words (place * 64 + from) numbers listed (place * 64 + lowest) (omega (arith, lowest-ahead))
        (none-before lowest (omega (arith, lowest-within)) place-lowest.2)
        in let in_word = bit-in-word words place (place * 64 + lowest) (omega arith) (omega (arith, lowest-within))
        in let same : place * 64 + lowest - place * 64 ≡ lowest = omega arith
        in let bit = high lowest lowest-ahead lowest-within
        in let next : place * 64 + lowest + 1 ≡ place * 64 + (lowest + 1) = omega arith
        in rw (← next) (numbers-push words (place * 64 + lowest) numbers skipped
        (in_word ∙ rw same (sym bit ∙ place-lowest.1)))

    abbrev cleared : ℕ
    cleared = bit_and rest (bit_not w64 (1 * 2 ^ lowest % 2 ^ 64))

    pub cleared-low : (j : ℕ) → j < lowest + 1 → bit_at cleared j ≡ 0
    cleared-low j l = ⊎_elim
        (λ (same : j ≡ lowest). rw same (bit_at_clear_same w64 rest lowest lowest-within))
        (λ (other : j ≡ lowest → ⊥). bit_at_clear_other w64 rest lowest lowest-within j (omega (arith, l, lowest-within)) other
        ∙ place-lowest.2 j (omega (arith, l, other)))
        (cases_eq j lowest)

    pub cleared-high : (j : ℕ) → lowest + 1 ≤ j → j < 64 → bit_at cleared j ≡ bit_at (number_at words place) j
    cleared-high j l m = bit_at_clear_other w64 rest lowest lowest-within j m (λ e. omega (arith, e, l))
        ∙ high j (omega (arith, l, lowest-ahead)) m

-- ---- words with common bits

both-one : (a b : ℕ) → a < 2 → b < 2 → min a b ≡ 1 → (a ≡ 1) × (b ≡ 1)
both-one a b l m e = (omega arith, omega arith)

module _ (letters : List (Vec ℕ)) (set k y : ℕ) (initial words : List ℕ)
    (was : HasBit words y ↔ (HasBit initial y × HasLetters letters set k y)) where
  -- the letter at hand is in the set
  pub letter-kept : (others : Vec ℕ) (new : List ℕ) → slice_get letters k ≡ Some others
      → number_at new (y / 64) ≡ bit_and (number_at words (y / 64)) (number_at others.items (y / 64)) → IsBitSet set k
      → HasBit new y ↔ (HasBit initial y × HasLetters letters set (k + 1) y)
  letter-kept others new at is present = (
    λ has.
        let both = both-one _ _ (bit_at-lt (number_at words (y / 64)) (y % 64)) (bit_at-lt (number_at others.items (y / 64)) (y % 64))
        (sym common ∙ has)
        in let old = was.0 both.0
        in (
          old.0,
          λ j l among. ⊎_elim (λ (same : j ≡ k). rw (same, at) both.1)
              (λ (other : j ≡ k → ⊥). old.1 j (omega (arith, l, other)) among) (cases_eq j k),
        ),
    λ h.
        let first = was.1 (h.0, λ j l among. h.1 j (omega (arith, l)) among)
        in let second : HasBit others.items y = rw at at (h.1 k (omega arith) present)
        in common ∙ omega (arith, first, second),
  )
    where
      common : bit_at (number_at new (y / 64)) (y % 64)
          ≡ min (bit_at (number_at words (y / 64)) (y % 64)) (bit_at (number_at others.items (y / 64)) (y % 64))
      common = ap (λ n. bit_at n (y % 64)) is ∙ bit_at_and (number_at words (y / 64)) (number_at others.items (y / 64)) (y % 64)

  -- it is not
  pub letter-passed : (IsBitSet set k → ⊥) → HasBit words y ↔ (HasBit initial y × HasLetters letters set (k + 1) y)
  letter-passed absent = (
    λ has.
        let old = was.0 has
        in (
          old.0,
          λ j l among. ⊎_elim (λ (same : j ≡ k). absurd (absent (rw same at among)))
              (λ (other : j ≡ k → ⊥). old.1 j (omega (arith, l, other)) among) (cases_eq j k),
        ),
    λ h. was.1 (h.0, λ j l among. h.1 j (omega (arith, l)) among),
  )

-- ---- bits of one letter

module _ (e : Elements) (side : Side) (s : ℕ) where
  pub bits-fewer : (from end : ℕ) (words : List ℕ) → from ≤ end → AreBits e side s end words → AreBits e side s from words
  bits-fewer from end words l h = record {
    room = omega (arith, l, h.room);
    each = λ y m. h.each y (omega (arith, m, l));
  }

  -- of words that begin in the same way
  pub bits-same : (from : ℕ) (words more : List ℕ) → AreBits e side s from words → length words ≤ length more
      → ((k : ℕ) → k < length words → number_at more k ≡ number_at words k) → AreBits e side s from more
  bits-same from words more h longer same = record {
    room = omega (arith, h.room, longer);
    each = λ y l. rw (same (y / 64) (omega (arith, l, h.room))) (h.each y l);
  }

  -- a word with more members
  pub bits-put : (from end place word : ℕ) (words : List ℕ) → AreBits e side s from words → place ≡ from / 64 → place < length words
      → end ≤ from + 64 - from % 64 → ((j : ℕ) → j < from % 64 → bit_at word j ≡ bit_at (number_at words place) j)
      → ((y : ℕ) → from ≤ y → y < end → (bit_at word (y % 64) ≡ 1) ↔ IsDescent side (integer_matrix e.matrix) (word_at e.members y) s)
      → AreBits e side s end (put words place word)
  bits-put from end place word words h is there same before members = record {
    room = omega (arith, same, is, there, length-set words place word);
    each = λ y l. ⊎_elim
        (λ (at : y / 64 ≡ place). ⊎_elim
        (λ (old : y < from). rw (at, get_or-set_same words place word 0 there, before (y % 64) (omega (arith, at, is, old)), ← at)
        (h.each y old))
        (λ (new : from ≤ y). rw (at, get_or-set_same words place word 0 there) (members y new l))
        (cases_lt y from))
        (λ (apart : y / 64 ≡ place → ⊥). rw (get_or-set_other words place (y / 64) word 0 apart)
        (h.each y (below y l apart)))
        (cases_eq (y / 64) place);
  }
    where
      below : (y : ℕ) → y < end → (y / 64 ≡ place → ⊥) → y < from
      below y l apart = ⊎_elim (λ (less : y < from). less)
          (λ (more : from ≤ y). absurd (apart (omega (arith, more, l, same, is)))) (cases_lt y from)

-- those of an earlier context
pub bits-kept : (old new : Elements) → new.matrix ≡ old.matrix → AreKept old.members new.members → (side : Side) (s end : ℕ)
    (words : List ℕ) → end ≤ length old.members → AreBits old side s end words → AreBits new side s end words
bits-kept old new same kept side s end words few h = record {
  room = h.room;
  each = λ y l. rw (same, kept.word y (omega (arith, l, few))) (h.each y l);
}

-- ---- bits of all letters

pub letters-kept : (old new : Elements) → new.matrix ≡ old.matrix → AreKept old.members new.members → (side : Side) (end : ℕ)
    (letters : List (Vec ℕ)) → end ≤ length old.members → AreLetterBits old side end letters → AreLetterBits new side end letters
letters-kept old new same kept side end letters few are = record {
  size = rw same are.size;
  each = λ k. moved k (slice_get letters k) (are.each k);
}
  where
    moved : (k : ℕ) (found : Option (Vec ℕ)) → IfSome found (λ words. AreBits old side (k + 1) end words.items)
        → IfSome found (λ words. AreBits new side (k + 1) end words.items)
    moved k None is = tt
    moved k (Some words) is = bits-kept old new same kept side (k + 1) end words.items few is

-- ---- one letter after another

-- the letters before k have the members up to end, and the others those before from
pub record AreAddedTo (e : Elements) (side : Side) (from end k : ℕ) (letters : List (Vec ℕ)) : Type 0 where
  pub size : length letters ≡ e.matrix.rank
  pub done : (j : ℕ) → j < k → IfSome (slice_get letters j) (λ words. AreBits e side (j + 1) end words.items)
  pub left : (j : ℕ) → k ≤ j → IfSome (slice_get letters j) (λ words. AreBits e side (j + 1) from words.items)

module _ (letters : List (Vec ℕ)) (k : ℕ) (words : Vec ℕ) where
  pub at-same : k < length letters → slice_get (put letters k words) k ≡ Some words
  at-same there =
      slice_get-get_or (put letters k words) k words (omega (arith, there, length-set letters k words))
      ∙ ap (λ (l : Vec ℕ). Some l) (get_or-set_same letters k words words there)

  pub at-other : (j : ℕ) → (j ≡ k → ⊥) → slice_get (put letters k words) j ≡ slice_get letters j
  at-other j apart = ⊎_elim
      (λ (l : j < length letters).
      slice_get-get_or (put letters k words) j words (omega (arith, l, length-set letters k words))
      ∙ ap (λ (v : Vec ℕ). Some v) (get_or-set_other letters k j words words apart)
      ∙ sym (slice_get-get_or letters j words l))
      (λ (past : length letters ≤ j).
      slice_get_past (put letters k words) j (omega (arith, past, length-set letters k words))
      ∙ sym (slice_get_past letters j past))
      (cases_lt j (length letters))

module _ (e : Elements) (side : Side) (from end : ℕ) (ahead : from ≤ end) where
  pub added-start : (letters : List (Vec ℕ)) → AreLetterBits e side from letters → AreAddedTo e side from end 0 letters
  added-start letters are = record { size = are.size; done = λ j l. absurd (omega (arith, l)); left = λ j l. are.each j }

  fewer : (j : ℕ) (found : Option (Vec ℕ)) → IfSome found (λ words. AreBits e side (j + 1) end words.items)
      → IfSome found (λ words. AreBits e side (j + 1) from words.items)
  fewer j None is = tt
  fewer j (Some words) is = bits-fewer e side (j + 1) from end words.items ahead is

  module _ (k : ℕ) (letters : List (Vec ℕ)) (are : AreAddedTo e side from end k letters) where
    -- all have the members before from
    pub added-kept : AreLetterBits e side from letters
    added-kept = record {
      size = are.size;
      each = λ j. ⊎_elim (λ (l : j < k). fewer j (slice_get letters j) (are.done j l)) (λ (m : k ≤ j). are.left j m) (cases_lt j k);
    }

    pub added-end : length letters ≤ k → AreLetterBits e side end letters
    added-end all = record {
      size = are.size;
      each = λ j. ⊎_elim (λ (l : j < k). are.done j l)
          (λ (past : k ≤ j). rw (slice_get_past letters j (omega (arith, past, all))) tt) (cases_lt j k);
    }

    module _ (words : Vec ℕ) (there : k < length letters) where
      pub added-next : AreBits e side (k + 1) end words.items → AreAddedTo e side from end (k + 1) (put letters k words)
      added-next made = record {
        size = length-set letters k words ∙ are.size;
        done = λ j l. ⊎_elim (λ (same : j ≡ k). rw (same, at-same letters k words there) made)
            (λ (other : j ≡ k → ⊥). rw (at-other letters k words j other) (are.done j (omega (arith, l, other)))) (cases_eq j k);
        left = λ j l. rw (at-other letters k words j (λ is. omega (arith, l, is))) (are.left j (omega (arith, l)));
      }

      pub added-failed : AreBits e side (k + 1) from words.items → AreLetterBits e side from (put letters k words)
      added-failed left = record {
        size = length-set letters k words ∙ are.size;
        each = λ j. ⊎_elim (λ (same : j ≡ k). rw (same, at-same letters k words there) left)
            (λ (other : j ≡ k → ⊥). rw (at-other letters k words j other) (added-kept.each j)) (cases_eq j k);
      }

-- the words of a letter, where they are read
pub letter-at : (e : Elements) (side : Side) (end k : ℕ) (letters : List (Vec ℕ)) (words : Vec ℕ) → AreLetterBits e side end letters
    → k < length letters → words ≡ slice_index_or letters k words → AreBits e side (k + 1) end words.items
letter-at e side end k letters words are there is = rw (← is) at (rw (slice_get-get_or letters k words there) at (are.each k))
