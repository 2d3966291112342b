-- Bruhat order and descents of members, by their left shifts.
use Rattle.std.proofs.Common.{◌≡◌, ℕ, ◌≤◌, ◌<◌, Bool, true, min, List, [], ◌∷◌, ◌++◌, length, ◌*◌, Option, None, Some, ◌↔◌}
use Rattle.std.proofs.Common.{IsTrue, Contains, ◌+◌, ◌-◌, IsBitSet, filter, refl, sym, ◌∙◌, ⊎_elim, arith, ltb-true, lt-ltb, get_or}
use Rattle.std.proofs.lemmas.Bool.{cases_lt}
use Rattle.cox_base.specs.declared.side.Side.{Side}
use Rattle.cox_base.specs.Matrix.{IsLetter}
use Rattle.cox_base.specs.IntegerMatrix.{IntegerMatrix}
use Rattle.cox_base.specs.Admissible.{IsAdmissible}
use Rattle.cox_base.specs.Element.{SameElement}
use Rattle.cox_base.specs.ShortLex.{normal_form}
use Rattle.cox_base.specs.SideDescents.{IsDescent, descent_set}
use Rattle.cox_base.specs.Descents.{IsLeftDescent, IsRightDescent}
use Rattle.cox_base.specs.Reduced.{IsReduced}
use Rattle.cox_base.specs.Bruhat.{IsBelow}
use Rattle.cox_reflect.proofs.Elements.{same-refl, same-sym}
use Rattle.cox_reflect.proofs.Search.{normal_form-same, word_length-length}
use Rattle.cox_reflect.proofs.Bruhat.{below-same, below-refl, below-length, lift_down, lift_up}
use Rattle.cox_reflect.proofs.OrderByLifting.{first-descent, below-drop}
use Rattle.cox_reflect.proofs.DescentLists.{descent_set-by}
use Rattle.cox_context.specs.Closed.{IsClosed}
use Rattle.cox_context.specs.Numbers.{word_at}
use Rattle.cox_context.specs.Numbering.{IsNumberOf}
use Rattle.cox_context.specs.Shifts.{entry, AreLeftShifts, AreRightShifts, AreSets}
use Rattle.cox_context.specs.Sets.{IsLoweringSet, is_lower, has_letter, AreLoweringSets}
use Rattle.cox_context.proofs.LetterSets.{has_letter-bit}
use Rattle.cox_reflect.proofs.Roots.{left_descent-letter, descent-letter}
use Rattle.cox_base.specs.ShortLex.{letters}
use Rattle.cox_context.proofs.ShiftPlaces.{place-within}
use Rattle.cox_context.proofs.RightShifts.{first-letter}
use Rattle.cox_context.proofs.Shifting.{length-at, first-member, shift-less, right_shift-less, descent-member, right_descent-member}

-- x ≤ w is settled by the member i and what is left of the word of w
pub record IsSettled (A : IntegerMatrix) (words : List (List ℕ)) (x w rest : List ℕ) (i : ℕ) : Type 0 where
  pub within : i < length words
  pub settles : IsBelow A x w ↔ IsBelow A (word_at words i) rest

-- where the next member is: the lesser of the two, if there is a shift
abbrev pub lesser : ℕ → Option ℕ → ℕ
lesser i None = i
lesser i (Some k) = min i k

module _ (A : IntegerMatrix) (g : IsAdmissible A) (words : List (List ℕ)) (closed : IsClosed A words) where
  settled-down : (x w rest v : List ℕ) (t i k : ℕ) → IsSettled A words x w rest i → rest ≡ t ∷ v → IsReduced A rest
      → IsLeftDescent A (word_at words i) t → k < length words
      → word_at words k ≡ normal_form A (t ∷ word_at words i) → IsSettled A words x w v k
  settled-down x w rest v t i k c e r d within shift =
      let before : IsBelow A x w ↔ IsBelow A (word_at words i) (t ∷ v) = rw e at c.settles
      in let step = lift_down A g (word_at words i) (t ∷ v) t (first-descent A g t v (rw e at r)) d
      in let same : SameElement A (word_at words k) (t ∷ word_at words i) = rw shift (normal_form-same A g (t ∷ word_at words i))
      in record {
        within = within;
        settles = (
          λ b. below-same A g (same-sym A g same) (same-refl A g v) ((below-drop A g t (t ∷ word_at words i) v).0 (step.0 (before.0 b))),
          λ b. before.1 (step.1 ((below-drop A g t (t ∷ word_at words i) v).1 (below-same A g same (same-refl A g v) b))),
        );
      }

  settled-up : (x w rest v : List ℕ) (t i : ℕ) → IsSettled A words x w rest i → rest ≡ t ∷ v → IsReduced A rest
      → (IsLeftDescent A (word_at words i) t → ⊥) → IsSettled A words x w v i
  settled-up x w rest v t i c e r none =
      let before : IsBelow A x w ↔ IsBelow A (word_at words i) (t ∷ v) = rw e at c.settles
      in let step = lift_up A g (word_at words i) (t ∷ v) t (first-descent A g t v (rw e at r)) none
      in record {
        within = c.within;
        settles = (
          λ b. (below-drop A g t (word_at words i) v).0 (step.0 (before.0 b)),
          λ b. before.1
              (step.1 ((below-drop A g t (word_at words i) v).1 b)),
        );
      }

  -- a letter of the word, and the left shift by it
  settled-next : (x w rest v : List ℕ) (t i : ℕ) (found : Option ℕ) → IsLetter A.rank t → IsSettled A words x w rest i → rest ≡ t ∷ v
      → IsReduced A rest
      → IsNumberOf words (normal_form A (t ∷ word_at words i)) found → IsSettled A words x w v (lesser i found)
  settled-next x w rest v t i None l c e r none =
      settled-up x w rest v t i c e r (λ d. none (descent-member A g words closed t i c.within d))
  settled-next x w rest v t i (Some k) l c e r (within, shift) =
      ⊎_elim
      (λ (less : k < i).
      let q : min i k ≡ k = omega (arith, less)
      in rw q (settled-down x w rest v t i k c e r ((shift-less A g words closed t i k l c.within within shift).0 less) within shift))
      (λ (more : i ≤ k).
      let q : min i k ≡ i = omega (arith, more)
      in rw q (settled-up x w rest v t i c e r (λ d. omega (arith, more, (shift-less A g words closed t i k l c.within within shift).1 d))))
      (cases_lt k i)

  -- the same for a member with a number, by its first letter and the number of the rest of its word
  pub settled-step : (x w : List ℕ) (upper below t i : ℕ) (found : Option ℕ) → upper < length words
      → word_at words upper ≡ t ∷ word_at words below → IsSettled A words x w (word_at words upper) i
      → IsNumberOf words (normal_form A (t ∷ word_at words i)) found → IsSettled A words x w (word_at words below) (lesser i found)
  settled-step x w upper below t i found l e c number =
      settled-next x w (word_at words upper) (word_at words below) t i found
      (first-letter A g words closed t (word_at words below) upper l e) c e (length-at A g words closed upper l) number

  pub settled-start : (i j : ℕ) → i < length words → IsSettled A words (word_at words i) (word_at words j) (word_at words j) i
  settled-start i j l = record { within = l; settles = (λ b. b, λ b. b) }

  -- at the end the identity alone is below
  pub settled-end : (x w rest : List ℕ) (i : ℕ) (answer : Bool) → rest ≡ [] → IsSettled A words x w rest i → (answer ≡ true) ↔ (i ≡ 0)
      → IsTrue answer ↔ IsBelow A x w
  settled-end x w rest i answer e c k = (
    λ yes. let q : i ≡ 0 = k.0 yes in c.settles.1 (rw (e, q, first-member A g words closed) (below-refl A g (same-refl A g []))),
    λ b. k.1 (only (rw e at (c.settles.0 b))),
  )
    where
      only : IsBelow A (word_at words i) [] → i ≡ 0
      only b =
          closed.distinct i 0 c.within (omega (arith, closed.some))
          (empty (word_at words i) (omega (arith, below-length A g b, length-at A g words closed i c.within, word_length-length A g []))
          ∙ sym (first-member A g words closed))
        where
          empty : (n : List ℕ) → length n ≤ 0 → n ≡ []
          empty [] l = refl
          empty (s ∷ x) l = absurd (omega (arith, l))

  -- whether a letter shortens a member, by the number that is found for the shift
  lower-tells : (P : Type 0) (u : List ℕ) (i : ℕ) (found : Option ℕ) → (P → Contains words (normal_form A u))
      → ((k : ℕ) → k < length words → word_at words k ≡ normal_form A u → (k < i) ↔ P) → IsNumberOf words (normal_form A u) found
      → (is_lower i found ≡ true) ↔ P
  lower-tells P u i None member less none = (λ f. absurd (cc), λ p. absurd (none (member p)))
  lower-tells P u i (Some k) member less (within, shift) =
      let by = less k within shift in (λ f. by.0 (ltb-true k i f), λ p. lt-ltb k i (by.1 p))

  pub lower-descent : (s i : ℕ) (found : Option ℕ) → IsLetter A.rank s → i < length words
      → IsNumberOf words (normal_form A (s ∷ word_at words i)) found
      → (is_lower i found ≡ true) ↔ IsLeftDescent A (word_at words i) s
  lower-descent s i found l m h = lower-tells (IsLeftDescent A (word_at words i) s) (s ∷ word_at words i) i found
      (descent-member A g words closed s i m) (λ k within shift. shift-less A g words closed s i k l m within shift) h

  pub lower-right_descent : (s i : ℕ) (found : Option ℕ) → IsLetter A.rank s → i < length words
      → IsNumberOf words (normal_form A (word_at words i ++ s ∷ [])) found
      → (is_lower i found ≡ true) ↔ IsRightDescent A (word_at words i) s
  lower-right_descent s i found l m h = lower-tells (IsRightDescent A (word_at words i) s) (word_at words i ++ s ∷ []) i found
      (right_descent-member A g words closed s i m) (λ k within shift. right_shift-less A g words closed s i k l m within shift) h

  -- the descents of a member, read off its shifts
  set-of : (P : List ℕ → ℕ → Type 0) (table : List ℕ) (i set : ℕ) → IsLoweringSet A.rank table i (A.rank + 1) set
      → ((s : ℕ) → P (word_at words i) s → IsLetter A.rank s)
      → ((s : ℕ) → IsLetter A.rank s → (is_lower i (entry A.rank table s i) ≡ true) ↔ P (word_at words i) s)
      → (k : ℕ) → IsBitSet set k ↔ P (word_at words i) (k + 1)
  set-of P table i set h is_letter tells k = (
    λ one. let p = (h.bit k).0 one in (tells (k + 1) (letter (omega (arith, p.0)))).0 p.1,
    λ d. let m = is_letter (k + 1) d in (h.bit k).1 (omega (arith, m.to_rank), (tells (k + 1) m).1 d),
  )
    where
      letter : k + 1 ≤ A.rank → IsLetter A.rank (k + 1)
      letter m = record { from_one = omega arith; to_rank = m }

  pub left-set : (table : List ℕ) (i set : ℕ) → i < length words → AreLeftShifts A words table
      → IsLoweringSet A.rank table i (A.rank + 1) set
      → (k : ℕ) → IsBitSet set k ↔ IsLeftDescent A (word_at words i) (k + 1)
  left-set table i set l h one = set-of (IsLeftDescent A) table i set one (λ s. left_descent-letter A g (word_at words i) s)
      (λ s m. lower-descent s i (entry A.rank table s i) m l (h.shift s i m l))

  pub right-set : (table : List ℕ) (i set : ℕ) → i < length words → length table ≡ length words * A.rank → AreRightShifts A words table
      → IsLoweringSet A.rank table i (A.rank + 1) set → (k : ℕ) → IsBitSet set k ↔ IsRightDescent A (word_at words i) (k + 1)
  right-set table i set l size h one = set-of (IsRightDescent A) table i set one (λ s. descent-letter A g (word_at words i) s)
      (λ s m. lower-right_descent s i (entry A.rank table s i) m l
      (h.shift s i m l (rw size (place-within A.rank (length words) i s m l))))

  -- the same for all members
  pub left-sets : (table sets : List ℕ) → AreLeftShifts A words table → AreLoweringSets A.rank table (length words) sets
      → AreSets (IsLeftDescent A) words sets
  left-sets table sets h all = record { size = all.size; bit = λ i k l. left-set table i (get_or sets i 0) l h (all.each i l) k }

  pub right-sets : (table sets : List ℕ) → length table ≡ length words * A.rank → AreRightShifts A words table
      → AreLoweringSets A.rank table (length words) sets → AreSets (IsRightDescent A) words sets
  right-sets table sets size h all = record {
    size = all.size;
    bit = λ i k l. right-set table i (get_or sets i 0) l size h (all.each i l) k;
  }

-- the letters of a set whose bits tell a property of them
letter-tells : {rank : ℕ} (P : ℕ → Type 0) (set s : ℕ) → ((k : ℕ) → IsBitSet set k ↔ P (k + 1)) → IsLetter rank s
    → (has_letter set s ≡ true) ↔ P s
letter-tells P set s h m =
    let e : s - 1 + 1 ≡ s = omega (arith, m.from_one)
    in let b : IsBitSet set (s - 1) ↔ P s = rw e at (h (s - 1))
    in (λ t. b.0 ((has_letter-bit set s).0 t), λ p. (has_letter-bit set s).1 (b.1 p))

-- the letters of a set that has the descents on a side
pub set-letters : (side : Side) (A : IntegerMatrix) (w : List ℕ) (set : ℕ) → ((k : ℕ) → IsBitSet set k ↔ IsDescent side A w (k + 1))
    → filter (has_letter set) (letters A.rank) ≡ descent_set side A w
set-letters side A w set h = sym (descent_set-by A side w (has_letter set) (λ s m. letter-tells (IsDescent side A w) set s h m))
