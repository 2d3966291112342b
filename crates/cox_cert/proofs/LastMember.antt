-- The last of the elements below w is w.
use Rattle.std.proofs.Common.{◌≡◌, ℕ, ◌-◌, ◌<◌, ◌≤◌, ⊎_elim, List, length, sym, ap, ◌∙◌, arith}
use Rattle.std.proofs.lemmas.Bool.{cases_lt}
use Rattle.std.specs.declared.cmp.Ordering.TheVariants.{Less}
use Rattle.cox_base.specs.IntegerMatrix.{IntegerMatrix}
use Rattle.cox_base.specs.Admissible.{IsAdmissible}
use Rattle.cox_base.specs.ShortLex.{normal_form, shortlex_cmp}
use Rattle.cox_base.specs.Length.{word_length}
use Rattle.cox_base.specs.Members.{IsInInterval}
use Rattle.cox_base.specs.SortedList.{IsListOf}
use Rattle.cox_reflect.proofs.Elements.{same-refl}
use Rattle.cox_reflect.proofs.NormalElements.{element-length, element-unique}
use Rattle.cox_reflect.proofs.ShortLexFirst.{length-before, shortlex_cmp-before}
use Rattle.cox_reflect.proofs.Bruhat.{below-refl, below-length, below-equal_length}
use Rattle.cox_context.specs.Numbers.{word_at}
use Rattle.cox_context.proofs.PlacedWords.{IsPlaced, contains-at, contains-placed}

-- a word that comes before another is no longer
not-longer : (v w : List ℕ) → shortlex_cmp v w ≡ Less → length v ≤ length w
not-longer v w e = length-before (shortlex_cmp-before v w e)

module _ (A : IntegerMatrix) (g : IsAdmissible A) (w : List ℕ) (words : List (List ℕ)) (normal : normal_form A w ≡ w)
    (list : IsListOf (IsInInterval A w) words) where
  -- where w stands
  place : IsPlaced words w
  place = contains-placed words w (list.whole w (record { element = record { normal = normal }; below = below-refl A g (same-refl A g w) }))

  -- there are some
  pub some-words : 0 < length words
  some-words = omega (arith, place.within)

  pub last-word : word_at words (length words - 1) ≡ w
  last-word =
      let last : ℕ = length words - 1 in
      let inside : last < length words = omega (arith, some-words) in
      let member : IsInInterval A w (word_at words last) = list.sound (word_at words last) (contains-at words last inside) in
      let own : word_length A w ≡ length w = element-length A g w (record { normal = normal }) in
      let letters : word_length A (word_at words last) ≡ length (word_at words last) =
      element-length A g (word_at words last) member.element in
      ⊎_elim
      (λ (earlier : place.i < last).
      let longer : length (word_at words place.i) ≤ length (word_at words last) =
      not-longer (word_at words place.i) (word_at words last) (list.rising place.i last earlier inside) in
      let at : length (word_at words place.i) ≡ length w = ap length place.is in
      let same : word_length A (word_at words last) ≡ word_length A w =
      omega (arith, below-length A g member.below, own, letters, longer, at) in
      element-unique A g (word_at words last) w member.element (record { normal = normal })
      (below-equal_length A g member.below same))
      (λ (here : last ≤ place.i).
      let at : place.i ≡ last = omega (arith, place.within, here) in
      ap (word_at words) (sym at) ∙ place.is)
      (cases_lt place.i last)
