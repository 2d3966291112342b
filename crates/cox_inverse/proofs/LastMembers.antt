-- The members of an interval behind one of them, as the recursion asks for them.
use Rattle.std.proofs.Common.{◌≡◌, ℕ, zero, suc, ◌+◌, ◌-◌, ◌<◌, ◌≤◌, List, [], ◌∷◌, length, get_or, refl, ap, sym, ◌∙◌, ⊎_elim, arith}
use Rattle.std.proofs.lemmas.Bool.{cases_lt, cases_order}
use Rattle.cox_base.specs.IntegerMatrix.{IntegerMatrix, integer_matrix}
use Rattle.cox_base.specs.Admissible.{IsAdmissible}
use Rattle.cox_base.specs.Element.{SameElement}
use Rattle.cox_base.specs.ShortLex.{normal_form}
use Rattle.cox_base.specs.Bruhat.{IsBelow}
use Rattle.cox_reflect.proofs.Elements.{same-refl, same-sym, same-trans}
use Rattle.cox_reflect.proofs.Search.{normal_form-same, normal_form-equal}
use Rattle.cox_reflect.proofs.Bruhat.{below-same, below-refl, below-trans}
use Rattle.cox_hecke.specs.ListedElements.{occurrences, LiesBetween}
use Rattle.cox_hecke.proofs.ListSums.{occurrences-at}
use Rattle.cox_context.specs.Closed.{Elements, IsClosed}
use Rattle.cox_context.specs.Numbers.{word_at}
use Rattle.cox_context.proofs.PlacedWords.{contains-placed}
use Rattle.cox_context.proofs.Shifting.{element-at, member-below, later-not_below}
use Rattle.cox_row.specs.Rising.{number_at, AreRising}
use Rattle.cox_inverse.specs.NumberedInverses.{number_before, AreBetween}

-- the words of the last n numbers
abbrev pub last_words : List (List ℕ) → List ℕ → ℕ → List (List ℕ)
last_words members numbers zero = []
last_words members numbers (suc n) = word_at members (number_before numbers n) ∷ last_words members numbers n

last_words-length : (members : List (List ℕ)) (numbers : List ℕ) (n : ℕ) → length (last_words members numbers n) ≡ n
last_words-length members numbers zero = refl
last_words-length members numbers (suc n) = ap suc (last_words-length members numbers n)

last_words-at : (members : List (List ℕ)) (numbers : List ℕ) (n i j : ℕ) → i + suc j ≡ n
    → get_or (last_words members numbers n) i [] ≡ word_at members (number_before numbers j)
last_words-at members numbers zero i j e = absurd (omega (arith, e))
last_words-at members numbers (suc n) zero j e = let same : n ≡ j = omega (arith, e) in rw same refl
last_words-at members numbers (suc n) (suc i) j e = last_words-at members numbers n i j (omega (arith, e))

-- numbers that rise differ
pub rising-injective : (numbers : List ℕ) → AreRising numbers → (i j : ℕ) → i < length numbers → j < length numbers
    → number_at numbers i ≡ number_at numbers j → i ≡ j
rising-injective numbers rising i j l m e =
    ⊎_elim (λ (same : i ≡ j). same)
    (λ side. ⊎_elim (λ (less : i < j). let h = rising i j less m in absurd (omega (arith, h, e)))
    (λ (more : j < i). let h = rising j i more l in absurd (omega (arith, h, e))) side)
    (cases_order i j)

-- members of one element have one number
pub number-same : (A : IntegerMatrix) (g : IsAdmissible A) (members : List (List ℕ)) → IsClosed A members → (i j : ℕ)
    → i < length members → j < length members → SameElement A (word_at members i) (word_at members j) → i ≡ j
number-same A g members closed i j l m same =
    closed.distinct i j l m
    (sym (element-at A g members closed i l).normal ∙ normal_form-equal A g same ∙ (element-at A g members closed j m).normal)

-- a member for each element below one
pub record HasMember (A : IntegerMatrix) (members : List (List ℕ)) (z : List ℕ) : Type 0 where
  pub i : ℕ
  pub within : i < length members
  pub same : SameElement A z (word_at members i)

pub below-member : (A : IntegerMatrix) (g : IsAdmissible A) (members : List (List ℕ)) → IsClosed A members → (z : List ℕ) (w : ℕ)
    → w < length members → IsBelow A z (word_at members w) → HasMember A members z
below-member A g members closed z w l b =
    let place = contains-placed members (normal_form A z) (member-below A g members closed z w l b)
    in record { i = place.i; within = place.within; same = rw place.is (same-sym A g (normal_form-same A g z)) }

module _ (e : Elements) (g : IsAdmissible (integer_matrix e.matrix)) (closed : IsClosed (integer_matrix e.matrix) e.members)
    (y w : ℕ) (inside : w < length e.members) (numbers : List ℕ) (are : AreBetween e y w numbers) where
  abbrev A : IntegerMatrix
  A = integer_matrix e.matrix

  pub before-member : (n : ℕ) → n < length numbers → number_before numbers n < length e.members
  before-member n l = are.within (length numbers - suc n) (omega (arith, l))

  pub before-rises : (i j : ℕ) → j < i → i < length numbers → number_before numbers i < number_before numbers j
  before-rises i j less l = are.rising (length numbers - suc i) (length numbers - suc j) (omega (arith, l, less)) (omega (arith, l, less))

  pub before-above : (n : ℕ) → n < length numbers → IsBelow A (word_at e.members y) (word_at e.members (number_before numbers n))
  before-above n l = are.above (length numbers - suc n) (omega (arith, l))

  pub before-below : (n : ℕ) → n < length numbers → IsBelow A (word_at e.members (number_before numbers n)) (word_at e.members w)
  before-below n l = are.below (length numbers - suc n) (omega (arith, l))

  -- a member of the interval that is not before x is one of the last
  behind : (n z : ℕ) → n < length numbers → z < length e.members
      → IsBelow A (word_at e.members (number_before numbers n)) (word_at e.members z)
      → IsBelow A (word_at e.members z) (word_at e.members w) → (j : ℕ) × (j ≤ n) × (number_before numbers j ≡ z)
  behind n z l m above below =
      let k = are.whole z m (below-trans A g (before-above n l) above) below
      in let place : length numbers - suc (length numbers - suc k.0) ≡ k.0 = omega (arith, k.1)
      in (
        length numbers - suc k.0,
        ⊎_elim (λ (less : k.0 < length numbers - suc n).
            let h = are.rising k.0 (length numbers - suc n) less (omega (arith, l))
            in absurd (later-not_below A g e.members closed (number_before numbers n) z (before-member n l) m (omega
            (arith, h, k.2)) above))
            (λ (more : length numbers - suc n ≤ k.0). omega (arith, more, k.1, l))
            (cases_lt k.0 (length numbers - suc n)),
        rw place k.2,
      )

  -- the top is the last of the numbers
  pub last-top : IsBelow A (word_at e.members y) (word_at e.members w) → (0 < length numbers) × (number_before numbers 0 ≡ w)
  last-top b =
      let k = are.whole w inside b (below-refl A g (same-refl A g (word_at e.members w)))
      in let some : 0 < length numbers = omega (arith, k.1)
      in let place : length numbers - suc (length numbers - suc k.0) ≡ k.0 = omega (arith, k.1)
      in (
        some,
        ⊎_elim (λ (less : number_before numbers 0 < w). ⊎_elim
            (λ (before : k.0 < length numbers - suc 0).
            let h = are.rising k.0 (length numbers - suc 0) before (omega (arith, some)) in absurd (omega (arith, h, k.2, less)))
            (λ (last : length numbers - suc 0 ≤ k.0).
            let same : k.0 ≡ length numbers - suc 0 = omega (arith, last, k.1) in ap (number_at numbers) (sym same) ∙ k.2)
            (cases_lt k.0 (length numbers - suc 0)))
            (λ (more : w ≤ number_before numbers 0). ⊎_elim
            (λ (after : w < number_before numbers 0).
            absurd (later-not_below A g e.members closed (number_before numbers 0) w (before-member 0 some) inside after
            (before-below 0 some)))
            (λ (least : number_before numbers 0 ≤ w). omega (arith, more, least))
            (cases_lt w (number_before numbers 0)))
            (cases_lt (number_before numbers 0) w),
      )

  -- the members from x on name each element between x and w once
  pub named-once : (n : ℕ) → n < length numbers → (z : List ℕ)
      → LiesBetween A (word_at e.members (number_before numbers n)) (word_at e.members w) z
      → occurrences A z (last_words e.members numbers (suc n)) ≡ 1
  named-once n l z b =
      let member = below-member A g e.members closed z w inside b.below
      in let found = behind n member.i l member.within (below-same A g (same-refl A g (word_at e.members
      (number_before numbers n))) member.same b.above)
      (below-same A g member.same (same-refl A g (word_at e.members w)) b.below)
      in once member.i member.within member.same found.0 found.1 found.2
    where
      once : (m : ℕ) → m < length e.members → SameElement A z (word_at e.members m) → (j : ℕ) → j ≤ n → number_before numbers j ≡ m
          → occurrences A z (last_words e.members numbers (suc n)) ≡ 1
      once m within same j least is =
          occurrences-at A g (last_words e.members numbers (suc n)) z (n - j)
          (omega (arith, last_words-length e.members numbers (suc n)))
          (rw (last_words-at e.members numbers (suc n) (n - j) j (omega (arith, least)), is) same)
          (λ i less other.
          let few : i < suc n = omega (arith, less, last_words-length e.members numbers (suc n))
          in let at : SameElement A z (word_at e.members (number_before numbers (n - i)))
          = rw (last_words-at e.members numbers (suc n) i (n - i) (omega (arith, few))) at other
          in let number : number_before numbers (n - i) ≡ m
          = number-same A g e.members closed (number_before numbers (n - i)) m (before-member (n - i) (omega (arith, l))) within
          (same-trans A g (same-sym A g at) same)
          in let place = rising-injective numbers are.rising (length numbers - suc (n - i)) (length numbers - suc j) (omega (arith, l))
          (omega (arith, l, least)) (number ∙ sym is)
          in omega (arith, place, few, least, l))
