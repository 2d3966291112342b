-- A new member y = s x behind the others: its first letter and what it leads to, and its row in the table of left shifts.
use Rattle.std.proofs.Common.{◌≡◌, ℕ, ◌+◌, ◌<◌, List, [], ◌∷◌, ◌++◌, length, Option, None, Some, refl, sym}
use Rattle.std.proofs.Common.{◌∙◌, ⊎_elim, arith, ap}
use Rattle.cox_base.specs.Matrix.{CoxeterMatrix, IsLetter}
use Rattle.cox_base.specs.Admissible.{IsAdmissible, IsCoxeterMatrix}
use Rattle.cox_base.specs.IntegerMatrix.{IntegerMatrix, integer_matrix}
use Rattle.cox_base.specs.Element.{SameElement}
use Rattle.cox_base.specs.ShortLex.{normal_form}
use Rattle.cox_base.specs.Descents.{IsLeftDescent}
use Rattle.cox_base.specs.declared.limits.TheConstants.{MAX_LETTERS}
use Rattle.cox_reflect.proofs.Admissible.{IsAdmissible-integer_matrix}
use Rattle.cox_reflect.proofs.Elements.{same-refl, same-sym, same-cons}
use Rattle.cox_reflect.proofs.Search.{normal_form-same, normal_form-equal, word_length-equal}
use Rattle.cox_reflect.proofs.Lengths.{word_length-is}
use Rattle.cox_reflect.proofs.Roots.{left_descent-letter}
use Rattle.cox_reflect.proofs.Bruhat.{below-same}
use Rattle.cox_reflect.proofs.NormalForm.{normal_form-descent}
use Rattle.cox_context.specs.declared.members.TheConstants.{MAX_MEMBERS}
use Rattle.cox_context.specs.Closed.{IsClosed}
use Rattle.cox_context.specs.Numbers.{word_at}
use Rattle.cox_context.specs.Shifts.{entry, AreLeftShifts, IsLower}
use Rattle.cox_context.specs.Rows.{IsRowPushed}
use Rattle.cox_context.specs.Growth.{AreLower, IsOutside}
use Rattle.cox_context.specs.Appending.{IsNextMember}
use Rattle.cox_context.proofs.PlacedWords.{placed-contains, word_at-new}
use Rattle.cox_context.proofs.ShiftRows.{shifts-push}
use Rattle.cox_context.proofs.LowerWalks.{IsAscent, ascent}
use Rattle.cox_lemmas.proofs.PushedItems.{push-length}

module _ (c : CoxeterMatrix) (m : IsCoxeterMatrix c) (words : List (List ℕ)) (closed : IsClosed (integer_matrix c) words) (s j : ℕ)
    (letter : IsLetter c.rank s) (inside : j < length words) (next : IsNextMember c words s j) where
  abbrev pub A : IntegerMatrix
  A = integer_matrix c

  g : IsAdmissible (integer_matrix c)
  g = IsAdmissible-integer_matrix c m

  abbrev pub y : List ℕ
  y = normal_form (integer_matrix c) (s ∷ word_at words j)

  up : IsAscent (integer_matrix c) words s j
  up = ascent c m words closed s j letter inside next.none

  same : SameElement (integer_matrix c) (normal_form (integer_matrix c) (s ∷ word_at words j)) (s ∷ word_at words j)
  same = normal_form-same (integer_matrix c) g (s ∷ word_at words j)

  -- each element below it is a member
  pub outside-none : IsOutside (integer_matrix c) words (s ∷ word_at words j) (length (word_at words j)) → ⊥
  outside-none o =
      ⊎_elim (λ there. o.absent there)
      (λ is. omega (arith, ap length is, o.short, sym (word_length-is (integer_matrix c) (s ∷ word_at words j)), up.reduced))
      (next.below o.word o.element (below-same (integer_matrix c) g (same-refl (integer_matrix c) g o.word)
      (same-sym (integer_matrix c) g same) o.below))

  module _ (lower : List ℕ) (are : AreLower (integer_matrix c) words (s ∷ word_at words j) lower) where
    -- s shortens it
    pub none-missing : ((t : ℕ) → IsLetter c.rank t → entry c.rank lower t 0 ≡ None) → ⊥
    none-missing none =
        let lacks : IsLower (integer_matrix c) words (s ∷ word_at words j) s None = rw (none s letter) at (are.each s letter)
        in lacks up.descent

    module _ (t k : ℕ) (t_letter : IsLetter c.rank t) (found : entry c.rank lower t 0 ≡ Some k)
        (least : (q : ℕ) → IsLetter c.rank q → q < t → entry c.rank lower q 0 ≡ None) where
      there : IsLower (integer_matrix c) words (s ∷ word_at words j) t (Some k)
      there = rw found at (are.each t t_letter)

      -- its word: the least letter that shortens it, and the word of what that leads to
      pub first-word : normal_form (integer_matrix c) (s ∷ word_at words j) ≡ t ∷ word_at words k
      first-word =
          normal_form-descent (integer_matrix c) g (s ∷ word_at words j) t there.0 no_less
          ∙ ap (λ (u : List ℕ). t ∷ u) (sym there.2)
        where
          no_less : (q : ℕ) → q < t → IsLeftDescent (integer_matrix c) (s ∷ word_at words j) q → ⊥
          no_less q less d =
              let l : IsLetter c.rank q = left_descent-letter (integer_matrix c) g (s ∷ word_at words j) q d
              in let lacks : IsLower (integer_matrix c) words (s ∷ word_at words j) q None = rw (least q l less) at (are.each q l)
              in lacks d

      pub rest-short : length words < MAX_MEMBERS → length (word_at words k) < MAX_LETTERS
      rest-short few =
          let all = next.closed few
          in let short = all.short y (placed-contains (words ++ y ∷ []) y (record {
            i = length words;
            within = omega (arith, push-length words y);
            is = word_at-new words y (length words) refl;
          }))
          in omega (arith, short, ap length first-word)

    -- the same shorter elements for the normal form
    normal-lower : (t : ℕ) (x : Option ℕ) → IsLower (integer_matrix c) words (s ∷ word_at words j) t x
        → IsLower (integer_matrix c) words y t x
    normal-lower t None none = λ d. none (omega (
      arith,
      d,
      word_length-equal (integer_matrix c) g same,
      word_length-equal (integer_matrix c) g (same-cons (integer_matrix c) g t same),
    ))
    normal-lower t (Some k) (d, l, is) = (
      omega (
        arith,
        d,
        word_length-equal (integer_matrix c) g same,
        word_length-equal (integer_matrix c) g (same-cons (integer_matrix c) g t same),
      ),
      l,
      is ∙ normal_form-equal (integer_matrix c) g (same-cons (integer_matrix c) g t (same-sym (integer_matrix c) g same)),
    )

    normal-lowers : AreLower (integer_matrix c) words (normal_form (integer_matrix c) (s ∷ word_at words j)) lower
    normal-lowers = record { size = are.size; each = λ t l. normal-lower t (entry c.rank lower t 0) (are.each t l) }

    pub shifts-next : (old new : List ℕ) → length words < MAX_MEMBERS → AreLeftShifts (integer_matrix c) words old
        → IsRowPushed c.rank (length words) lower (c.rank + 1) old new
        → AreLeftShifts (integer_matrix c) (words ++ normal_form (integer_matrix c) (s ∷ word_at words j) ∷ []) new
    shifts-next old new few h pushed =
        shifts-push (integer_matrix c) g words (normal_form (integer_matrix c) (s ∷ word_at words j)) (next.closed few) lower old new h
        normal-lowers pushed
