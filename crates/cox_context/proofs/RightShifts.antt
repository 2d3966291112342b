-- Right shifts, from those of the members without their first letters.
use Rattle.std.proofs.Common.{◌≡◌, ℕ, ◌+◌, ◌-◌, ◌*◌, ◌≤◌, ◌<◌, List, [], ◌∷◌, ◌++◌, length, Contains, Option, None, Some, ◌⊎◌}
use Rattle.std.proofs.Common.{inl, inr, ⊎_elim, ap, sym, ◌∙◌, arith, subst, unwrap_or}
use Rattle.std.proofs.lemmas.List.{length-append}
use Rattle.std.proofs.lemmas.Bool.{cases_lt}
use Rattle.std.proofs.lemmas.List.Elements.{All-head}
use Rattle.cox_base.specs.Matrix.{IsLetter}
use Rattle.cox_base.specs.IntegerMatrix.{IntegerMatrix}
use Rattle.cox_base.specs.Admissible.{IsAdmissible}
use Rattle.cox_base.specs.ShortLex.{normal_form}
use Rattle.cox_reflect.proofs.Elements.{same-trans, same-equal, same-cons, same-square}
use Rattle.cox_reflect.proofs.Search.{normal_form-same, normal_form-equal, word_length-length}
use Rattle.cox_reflect.proofs.Lengths.{word_length-is}
use Rattle.cox_lemmas.proofs.PushedItems.{push-length}
use Rattle.cox_context.proofs.PlacedWords.{word_at-old, word_at-new}
use Rattle.cox_context.proofs.Spreading.{contains_cases}
use Rattle.cox_reflect.proofs.NormalElements.{element-word}
use Rattle.cox_context.specs.declared.shifts.TheConstants.{NO_MEMBER}
use Rattle.cox_base.specs.Members.{IsElement}
use Rattle.cox_context.specs.Closed.{IsClosed}
use Rattle.cox_context.specs.Numbers.{word_at}
use Rattle.cox_context.specs.Numbering.{IsNumberOf}
use Rattle.cox_context.specs.Shifts.{entry, entry_number, AreRightShifts, AreOfOthers}
use Rattle.cox_context.proofs.Ideals.{element-tail}
use Rattle.cox_context.proofs.ShiftPlaces.{place-one, place-within, entry-old, entry-new, entry_number-some}
use Rattle.cox_context.proofs.Shifting.{element-at, right-parent}

module _ (A : IntegerMatrix) (g : IsAdmissible A) (words : List (List ℕ)) (closed : IsClosed A words) where
  pub first-letter : (t : ℕ) (x : List ℕ) (i : ℕ) → i < length words → word_at words i ≡ t ∷ x → IsLetter A.rank t
  first-letter t x i l e =
      let elem : IsElement A (t ∷ x) = rw e at (element-at A g words closed i l) in All-head (IsLetter A.rank) t x
      (element-word A g (t ∷ x) elem)

  -- the first letter of a member takes it to the word without that letter
  pub first-off : (t : ℕ) (x : List ℕ) (i : ℕ) → i < length words → word_at words i ≡ t ∷ x → normal_form A (t ∷ word_at words i) ≡ x
  first-off t x i l e =
      let elem : IsElement A (t ∷ x) = rw e at (element-at A g words closed i l)
      in rw e (normal_form-equal A g (same-square A g t x) ∙ (element-tail A g t x elem).normal)

  pub right-none : (t s : ℕ) (x : List ℕ) (i p : ℕ) → IsLetter A.rank s → i < length words → word_at words i ≡ t ∷ x → word_at words p ≡ x
      → (Contains words (normal_form A (word_at words p ++ s ∷ [])) → ⊥) → Contains words (normal_form A (word_at words i ++ s ∷ [])) → ⊥
  right-none t s x i p letter l e f none c = none (rw f (right-parent A g words closed t s x i letter l e (rw e at c)))

  pub right-some : (t s : ℕ) (x : List ℕ) (i p q : ℕ) (found : Option ℕ) → word_at words i ≡ t ∷ x → word_at words p ≡ x
      → word_at words q ≡ normal_form A (word_at words p ++ s ∷ []) → IsNumberOf words (normal_form A (t ∷ word_at words q)) found
      → IsNumberOf words (normal_form A (word_at words i ++ s ∷ [])) found
  right-some t s x i p q found e f h n = subst (λ (v : List ℕ). IsNumberOf words v found) same n
    where
      same : normal_form A (t ∷ word_at words q) ≡ normal_form A (word_at words i ++ s ∷ [])
      same = rw e (normal_form-equal A g (same-cons A g t (same-trans A g (same-equal A g h) (rw f (normal_form-same A g (x ++ s ∷ []))))))

  -- one more entry
  pub right-push : (table : List ℕ) (s i : ℕ) (x : ℕ) → AreRightShifts A words table → IsLetter A.rank s
      → length table ≡ i * A.rank + (s - 1)
      → IsNumberOf words (normal_form A (word_at words i ++ s ∷ [])) (entry_number x) → AreRightShifts A words (table ++ x ∷ [])
  right-push table s i x h letter size n = record { shift = λ t j l m k. go t j l m k (cases_lt (j * A.rank + (t - 1)) (length table)) }
    where
      go : (t j : ℕ) → IsLetter A.rank t → j < length words → j * A.rank + (t - 1) < length (table ++ x ∷ [])
          → (j * A.rank + (t - 1) < length table) ⊎ (length table ≤ j * A.rank + (t - 1))
          → IsNumberOf words (normal_form A (word_at words j ++ t ∷ [])) (entry A.rank (table ++ x ∷ []) t j)
      go t j l m k (inl below) = rw (entry-old A.rank table t j x below) (h.shift t j l m below)
      go t j l m k (inr above) =
          let place : j * A.rank + (t - 1) ≡ length table = omega (arith, above, k, length-append table (x ∷ []))
          in let one = place-one A.rank i j s t letter l (sym size ∙ sym place)
          in rw (entry-new A.rank table t j x place, ← one.0, ← one.1) n

  -- what is found is written as its number, or as none
  pub right-found : (table : List ℕ) (s i : ℕ) (x : Option ℕ) → AreRightShifts A words table → IsLetter A.rank s
      → length table ≡ i * A.rank + (s - 1) → IsNumberOf words (normal_form A (word_at words i ++ s ∷ [])) x
      → AreRightShifts A words (table ++ unwrap_or x NO_MEMBER ∷ [])
  right-found table s i None h letter size n = right-push table s i NO_MEMBER h letter size n
  right-found table s i (Some k) h letter size n =
      right-push table s i k h letter size (rw (entry_number-some k (omega (arith, n.0, closed.few))) n)

-- a number in a list that has one word more, at its end
pub number-more : (words : List (List ℕ)) (y w : List ℕ) (x : Option ℕ) → (y ≡ w → ⊥) → IsNumberOf words w x
    → IsNumberOf (words ++ y ∷ []) w x
number-more words y w None ne none = λ c. ⊎_elim none ne (contains_cases words y w c)
number-more words y w (Some k) ne (inside, is) = (omega (arith, inside, push-length words y), word_at-old words y k inside ∙ is)

-- the shift of the rest of the last member's rest is the same with the last member
pub others-known : (A : IntegerMatrix) → IsAdmissible A → (words : List (List ℕ)) (right : List ℕ) → AreOfOthers A words right
    → (i p q s t : ℕ) → i + 1 ≡ length words → word_at words i ≡ q ∷ word_at words p → p < i → IsLetter A.rank s
    → (r : ℕ) → r < p → word_at words p ≡ t ∷ word_at words r
    → IsNumberOf words (normal_form A (word_at words r ++ s ∷ [])) (entry A.rank right s r)
others-known A g words right h i p q s t last word inward letter r before rest =
    rw h.is (rw (word_at-old h.others h.last r inside) (number-more h.others h.last (normal_form A (word_at h.others r ++ s ∷ []))
    (entry A.rank right s r) other
    (h.shifts.shift s r letter inside (omega (arith, h.size, place-within A.rank (length h.others) r s letter inside)))))
  where
    count : length words ≡ length h.others + 1
    count = ap (λ (l : List (List ℕ)). length l) h.is ∙ push-length h.others h.last

    inside : r < length h.others
    inside = omega (arith, before, inward, last, count)

    here : i ≡ length h.others
    here = omega (arith, last, count)

    is_last : word_at words i ≡ h.last
    is_last = ap (λ (l : List (List ℕ)). word_at l i) h.is ∙ word_at-new h.others h.last i here

    is_r : word_at words r ≡ word_at h.others r
    is_r = ap (λ (l : List (List ℕ)). word_at l r) h.is ∙ word_at-old h.others h.last r inside

    long : length h.last ≡ length (word_at h.others r) + 2
    long = ap length (sym is_last ∙ word ∙ ap (λ (u : List ℕ). q ∷ u) (rest ∙ ap (λ (u : List ℕ). t ∷ u) is_r)) ∙ omega arith

    other : h.last ≡ normal_form A (word_at h.others r ++ s ∷ []) → ⊥
    other e = omega (
      arith,
      long,
      ap length e,
      word_length-is A (word_at h.others r ++ s ∷ []),
      word_length-length A g (word_at h.others r ++ s ∷ []),
      length-append (word_at h.others r) (s ∷ []),
    )
