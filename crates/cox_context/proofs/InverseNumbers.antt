-- The inverses of members, by those of the rests of their words; and their table, as it is filled and as a member is added.
use Rattle.std.proofs.Common.{◌≡◌, ℕ, ◌+◌, ◌<◌, List, [], ◌∷◌, ◌++◌, length, reverse, Contains, Option, None, Some, ⊎_elim, ap}
use Rattle.std.proofs.Common.{refl, sym, ◌∙◌, arith, subst, unwrap_or}
use Rattle.std.proofs.lemmas.List.{length-reverse, reverse-reverse}
use mathlib.Core.List.{reverse-cons}
use Rattle.cox_lemmas.proofs.PushedItems.{push-length, push_cases}
use Rattle.cox_base.specs.Matrix.{IsLetter}
use Rattle.cox_base.specs.IntegerMatrix.{IntegerMatrix}
use Rattle.cox_base.specs.Admissible.{IsAdmissible}
use Rattle.cox_base.specs.Element.{SameElement}
use Rattle.cox_base.specs.ShortLex.{normal_form}
use Rattle.cox_base.specs.Bruhat.{IsBelow}
use Rattle.cox_base.specs.Members.{IsElement}
use Rattle.cox_reflect.proofs.Elements.{same-refl, same-sym, same-trans, same-equal, same-push, same-reverse}
use Rattle.cox_reflect.proofs.Search.{normal_form-same, normal_form-equal, word_length-length}
use Rattle.cox_reflect.proofs.Lengths.{word_length-is}
use Rattle.cox_reflect.proofs.Bruhat.{below-same, below_reverse}
use Rattle.cox_context.specs.declared.shifts.TheConstants.{NO_MEMBER}
use Rattle.cox_context.specs.Closed.{IsClosed}
use Rattle.cox_context.specs.Inverses.{AreInverses, AreKeptInverses, AreInversesOfOthers}
use Rattle.cox_context.specs.Numbers.{word_at}
use Rattle.cox_context.specs.Numbering.{IsNumberOf}
use Rattle.cox_context.specs.Rows.{IsRowPushed}
use Rattle.cox_context.specs.Shifts.{entry, entry_number}
use Rattle.cox_context.proofs.Ideals.{element-nil, below-tail}
use Rattle.cox_context.proofs.PlacedWords.{contains-placed, word_at-old, word_at-new}
use Rattle.cox_context.proofs.PushedRows.{pushed-shift}
use Rattle.cox_context.proofs.RightShifts.{number-more}
use Rattle.cox_context.proofs.ShiftPlaces.{entry-old, entry-new, entry_number-none, entry_number-some}
use Rattle.cox_context.proofs.ShiftRows.{row-entry}
use Rattle.cox_context.proofs.Shifting.{element-at, first-member, member-below}

-- the only letter of a table of inverses
pub one-letter : IsLetter 1 1
one-letter = record { from_one = omega arith; to_rank = omega arith }

module _ (A : IntegerMatrix) (g : IsAdmissible A) where
  -- the inverse of the inverse
  inverse-back : (x : List ℕ) → IsElement A x → normal_form A (reverse (normal_form A (reverse x))) ≡ x
  inverse-back x e =
      let same : SameElement A (reverse (normal_form A (reverse x))) x
      = rw (reverse-reverse x) at (same-reverse A g (normal_form-same A g (reverse x)))
      in normal_form-equal A g same ∙ e.normal

  module _ (words : List (List ℕ)) (closed : IsClosed A words) where
    -- the identity is its own inverse
    pub inverse-first : IsNumberOf words (normal_form A (reverse (word_at words 0))) (Some 0)
    inverse-first = (closed.some, rw (first-member A g words closed) (sym (element-nil A g).normal))

    -- where v has no inverse among the members, s v has none
    pub inverse-none : (t : ℕ) (x : List ℕ) (i p : ℕ) → i < length words → word_at words i ≡ t ∷ x → word_at words p ≡ x
        → (Contains words (normal_form A (reverse (word_at words p))) → ⊥) → Contains words (normal_form A (reverse (word_at words i))) → ⊥
    inverse-none t x i p l e f none c =
        let q = contains-placed words (normal_form A (reverse (t ∷ x))) (rw e at c)
        in let elem : IsElement A (t ∷ x) = rw e at (element-at A g words closed i l)
        in let there : SameElement A (word_at words q.i) (reverse (t ∷ x)) = rw q.is (normal_form-same A g (reverse (t ∷ x)))
        in let under : IsBelow A (reverse x) (word_at words q.i)
        = below-same A g (same-refl A g (reverse x)) (same-sym A g there) ((below_reverse A g x (t ∷ x)).0 (below-tail A g t x elem))
        in none (rw f (member-below A g words closed (reverse x) q.i q.within under))

    -- the inverse of s v is that of v with s behind it
    pub inverse-some : (t : ℕ) (x : List ℕ) (i p q : ℕ) (found : Option ℕ) → word_at words i ≡ t ∷ x → word_at words p ≡ x
        → word_at words q ≡ normal_form A (reverse (word_at words p)) → IsNumberOf words (normal_form A (word_at words q ++ t ∷ [])) found
        → IsNumberOf words (normal_form A (reverse (word_at words i))) found
    inverse-some t x i p q found e f h n = subst (λ (v : List ℕ). IsNumberOf words v found) same n
      where
        same : normal_form A (word_at words q ++ t ∷ []) ≡ normal_form A (reverse (word_at words i))
        same = rw (e, reverse-cons t x)
            (normal_form-equal A g (same-push A g t (same-trans A g (same-equal A g h) (rw f (normal_form-same A g (reverse x))))))

    -- what is found is written as its number, or as none
    entry-found : (word : List ℕ) (found : Option ℕ) → IsNumberOf words word found → entry_number (unwrap_or found NO_MEMBER) ≡ found
    entry-found word None n = entry_number-none NO_MEMBER refl
    entry-found word (Some k) n = entry_number-some k (omega (arith, n.0, closed.few))

    row-found : (word : List ℕ) (found : Option ℕ) → IsNumberOf words word found → (t : ℕ) → IsLetter 1 t
        → entry 1 (unwrap_or found NO_MEMBER ∷ []) t 0 ≡ found
    row-found word found n t l =
        let e : t ≡ 1 = omega (arith, l.from_one, l.to_rank)
        in rw e (sym (row-entry 1 (unwrap_or found NO_MEMBER ∷ []) 1) ∙ entry-found word found n)

    pub row-within : (word : List ℕ) (found : Option ℕ) → IsNumberOf words word found → (t k : ℕ) → IsLetter 1 t
        → entry 1 (unwrap_or found NO_MEMBER ∷ []) t 0 ≡ Some k → k < length words
    row-within word None n t k l f = let none : None ≡ Some k = sym (row-found word None n t l) ∙ f in absurd (cc)
    row-within word (Some j) n t k l f =
        let same : Some j ≡ Some k = sym (row-found word (Some j) n t l) ∙ f
        in let e : k ≡ j = cc
        in rw e n.0

    -- one entry more
    pub inverses-push : (table : List ℕ) (i : ℕ) (found : Option ℕ) → AreInverses A words table → length table ≡ i
        → IsNumberOf words (normal_form A (reverse (word_at words i))) found → AreInverses A words (table ++ unwrap_or found NO_MEMBER ∷ [])
    inverses-push table i found h size n = record { inverse = inverse }
      where
        x : ℕ
        x = unwrap_or found NO_MEMBER

        inverse : (j : ℕ) → j < length words → j < length (table ++ x ∷ [])
            → IsNumberOf words (normal_form A (reverse (word_at words j))) (entry 1 (table ++ x ∷ []) 1 j)
        inverse j l m = ⊎_elim
            (λ (old : j < length table). rw (entry-old 1 table 1 j x (omega (arith, old))) (h.inverse j l old))
            (λ (last : j ≡ length table).
            let here : j ≡ i = last ∙ size
            in rw (entry-new 1 table 1 j x (omega (arith, last)), entry-found (normal_form A (reverse (word_at words i))) found n, here) n)
            (push_cases table x j m)

    -- the table of all members
    pub inverses-all : (table : List ℕ) → AreInverses A words table → length table ≡ length words → AreKeptInverses A words table
    inverses-all table h size = record { size = λ some. size; inverses = h }

    -- where the others have their entries, those are the inverses among all words for what the last word begins behind its first letter
    pub rest-known : (table : List ℕ) → AreInversesOfOthers A words table → 0 < length table → (i : ℕ) → i + 1 ≡ length words
        → (t r : ℕ) → r < i → word_at words i ≡ t ∷ word_at words r
        → IsNumberOf words (normal_form A (reverse (word_at words r))) (entry 1 table 1 r)
    rest-known table h some i last t r before rest =
        rw h.is (rw (word_at-old h.others h.last r inside) (number-more h.others h.last (normal_form A (reverse (word_at h.others r)))
        (entry 1 table 1 r) other (h.kept.inverses.inverse r inside (omega (arith, inside, h.kept.size some)))))
      where
        count : length words ≡ length h.others + 1
        count = ap (λ (l : List (List ℕ)). length l) h.is ∙ push-length h.others h.last

        inside : r < length h.others
        inside = omega (arith, before, last, count)

        is_last : word_at words i ≡ h.last
        is_last = ap (λ (l : List (List ℕ)). word_at l i) h.is ∙ word_at-new h.others h.last i (omega (arith, last, count))

        is_r : word_at words r ≡ word_at h.others r
        is_r = ap (λ (l : List (List ℕ)). word_at l r) h.is ∙ word_at-old h.others h.last r inside

        long : length h.last ≡ length (word_at h.others r) + 1
        long = ap length (sym is_last ∙ rest ∙ ap (λ (u : List ℕ). t ∷ u) is_r) ∙ omega arith

        other : h.last ≡ normal_form A (reverse (word_at h.others r)) → ⊥
        other e = omega (
          arith,
          long,
          ap length e,
          word_length-is A (reverse (word_at h.others r)),
          word_length-length A g (reverse (word_at h.others r)),
          length-reverse (word_at h.others r),
        )

    -- the last member's inverse is noted at both
    pub inverses-last : (table new : List ℕ) (found : Option ℕ) (i : ℕ) → AreInversesOfOthers A words table → 0 < length table
        → i + 1 ≡ length words → IsNumberOf words (normal_form A (reverse (word_at words i))) found
        → IsRowPushed 1 i (unwrap_or found NO_MEMBER ∷ []) 2 table new → AreKeptInverses A words new
    inverses-last table new found i h some last n pushed = rw h.is (record {
      size = λ there. omega (arith, row.size, push-length h.others h.last);
      inverses = record {
        inverse = λ j l m. pushed-shift A g h.others h.last (rw h.is at closed) 1 (λ t x. normal_form A (reverse x))
            (λ t x l e. inverse-back x e) (unwrap_or found NO_MEMBER ∷ []) table new of_last row before 1 j one-letter l;
      };
    })
      where
        count : length words ≡ length h.others + 1
        count = ap (λ (l : List (List ℕ)). length l) h.is ∙ push-length h.others h.last

        place : i ≡ length h.others
        place = omega (arith, last, count)

        row : IsRowPushed 1 (length h.others) (unwrap_or found NO_MEMBER ∷ []) 2 table new
        row = rw place at pushed

        is_last : word_at words i ≡ h.last
        is_last = ap (λ (l : List (List ℕ)). word_at l i) h.is ∙ word_at-new h.others h.last i place

        of_last : (t : ℕ) → IsLetter 1 t
            → IsNumberOf (h.others ++ h.last ∷ []) (normal_form A (reverse h.last)) (entry 1 (unwrap_or found NO_MEMBER ∷ []) t 0)
        of_last t l =
            let found_at = row-found (normal_form A (reverse (word_at words i))) found n t l
            in rw found_at (rw h.is at (rw is_last at n))

        before : (t j : ℕ) → IsLetter 1 t → j < length h.others
            → IsNumberOf h.others (normal_form A (reverse (word_at h.others j))) (entry 1 table t j)
        before t j l m =
            let e : t ≡ 1 = omega (arith, l.from_one, l.to_rank)
            in rw e (h.kept.inverses.inverse j m (omega (arith, m, h.kept.size some)))

-- the others are all but one
pub others-count : (A : IntegerMatrix) (words : List (List ℕ)) (table : List ℕ) → AreInversesOfOthers A words table → 0 < length table
    → (n : ℕ) → n + 1 ≡ length words → length table ≡ n
others-count A words table h some n last =
    omega (arith, h.kept.size some, last, ap (λ (l : List (List ℕ)). length l) h.is, push-length h.others h.last)
