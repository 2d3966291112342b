-- Which members letters shorten, as bits of words.
use Rattle.std.specs.Prelude.{◌≡◌, ℕ, ◌+◌, ◌*◌, ◌/◌, ◌%◌, ◌<◌, ◌≤◌, ◌↔◌, List, [], length, slice_get, IfSome, IsBitSet}
use Rattle.std.specs.Int.{bit_at}
use Rattle.std.specs.Global.{Vec}
use Rattle.cox_base.specs.declared.side.Side.{Side}
use Rattle.cox_base.specs.declared.side.Side.TheVariants.{Left, Right}
use Rattle.cox_base.specs.IntegerMatrix.{integer_matrix}
use Rattle.cox_base.specs.SideDescents.{IsDescent}
use Rattle.cox_context.specs.Closed.{Elements}
use Rattle.cox_context.specs.Numbers.{word_at}
use Rattle.cox_row.specs.Rising.{number_at, AreRising, AreWithin}
use Rattle.cox_klstep.specs.declared.descent_bits.DescentBits.{DescentBits}

-- the bit of the member y is set: bit y % 64 of the word y / 64
abbrev pub HasBit : List ℕ → ℕ → Type 0
HasBit words y = bit_at (number_at words (y / 64)) (y % 64) ≡ 1

-- the bits of the members before end say which of them the letter s shortens from a side
pub record AreBits (e : Elements) (side : Side) (s end : ℕ) (words : List ℕ) : Type 0 where
  pub room : end ≤ 64 * length words
  pub each : (y : ℕ) → y < end → HasBit words y ↔ IsDescent side (integer_matrix e.matrix) (word_at e.members y) s

-- the same for all letters, of which the letter k + 1 stands at the place k
pub record AreLetterBits (e : Elements) (side : Side) (end : ℕ) (letters : List (Vec ℕ)) : Type 0 where
  pub size : length letters ≡ e.matrix.rank
  pub each : (k : ℕ) → IfSome (slice_get letters k) (λ words. AreBits e side (k + 1) end words.items)

-- and for both sides
pub record AreDescentBits (e : Elements) (bits : DescentBits) : Type 0 where
  pub done : bits.done ≤ length e.members
  pub left : AreLetterBits e Left bits.done bits.left.items
  pub right : AreLetterBits e Right bits.done bits.right.items

-- so many empty lists
pub record AreEmpty (count : ℕ) (lists : List (Vec ℕ)) : Type 0 where
  pub size : length lists ≡ count
  pub each : (k : ℕ) → IfSome (slice_get lists k) (λ list. list.items ≡ [])

-- the bit of y is set for each letter of a set, of the first letters, so many
abbrev pub HasLetters : List (Vec ℕ) → ℕ → ℕ → ℕ → Type 0
HasLetters letters set count y = (k : ℕ) → k < count → IsBitSet set k → IfSome (slice_get letters k) (λ words. HasBit words.items y)

-- the numbers before end whose bits are set, rising
pub record AreNumbersOf (words : List ℕ) (end : ℕ) (numbers : List ℕ) : Type 0 where
  pub rising : AreRising numbers
  pub before : AreWithin end numbers
  pub each : (k : ℕ) → k < length numbers → HasBit words (number_at numbers k)
  pub whole : (y : ℕ) → y < end → HasBit words y → (k : ℕ) × (k < length numbers) × (number_at numbers k ≡ y)
