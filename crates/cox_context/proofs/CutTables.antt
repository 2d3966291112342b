-- Tables of members that are cut back to the first of them.
use Rattle.std.proofs.Common.{◌≡◌, ℕ, ◌+◌, ◌-◌, ◌*◌, ◌≤◌, ◌<◌, List, [], ◌∷◌, ◌++◌, length, take, reverse, Contains, Option, None}
use Rattle.std.proofs.Common.{Some, sym}
use Rattle.std.proofs.Common.{◌∙◌, ⊎_elim, arith, lt-ltb, ap}
use Rattle.std.proofs.lemmas.Bool.{cases_lt, cases_eq, le-ltb}
use Rattle.std.proofs.lemmas.List.{get_or-take, length-take-le, take_all}
use Rattle.cox_base.specs.Matrix.{IsLetter}
use Rattle.cox_base.specs.IntegerMatrix.{IntegerMatrix}
use Rattle.cox_base.specs.ShortLex.{normal_form}
use Rattle.cox_base.specs.Descents.{IsLeftDescent, IsRightDescent}
use Rattle.cox_context.specs.Closed.{IsClosed, Elements}
use Rattle.cox_context.specs.Numbers.{word_at}
use Rattle.cox_context.specs.Numbering.{IsNumberOf}
use Rattle.cox_context.specs.Contexts.{IsContext}
use Rattle.cox_context.specs.Inverses.{AreKeptInverses}
use Rattle.cox_context.specs.Shifts.{entry, AreLeftShifts, AreRightShifts, AreSets}
use Rattle.cox_context.specs.Rows.{number_below, IsCutBack}
use Rattle.cox_context.proofs.PlacedWords.{contains-placed, placed-contains}
use Rattle.cox_context.proofs.ShiftPlaces.{place-within, entry-is}

-- all members are the first ones, as many as there are
pub elements-whole : (e : Elements) (n : ℕ) → n ≡ length e.members → e ≡ record { matrix = e.matrix; members = take n e.members }
elements-whole e n count =
    rw count (ap (λ (words : List (List ℕ)). record { matrix = e.matrix; members = words })
    (sym (take_all (length e.members) e.members (omega arith))))

module _ (A : IntegerMatrix) (words : List (List ℕ)) (closed : IsClosed A words) (n : ℕ) (within : n ≤ length words) where
  first-word : (i : ℕ) → i < n → word_at (take n words) i ≡ word_at words i
  first-word i l = get_or-take n words i [] l

  count : length (take n words) ≡ n
  count = length-take-le n words within

  first-there : (w : List ℕ) → Contains (take n words) w → (i : ℕ) × (i < n) × (word_at words i ≡ w)
  first-there w c =
      let p = contains-placed (take n words) w c
      in let l : p.i < n = omega (arith, p.within, count)
      in (p.i, l, sym (first-word p.i l) ∙ p.is)

  number-cut : (w : List ℕ) (x : Option ℕ) → IsNumberOf words w x → IsNumberOf (take n words) w (number_below n x)
  number-cut w None none = λ c. let p = first-there w c in none (placed-contains words w (record {
    i = p.0;
    within = omega (arith, p.1, within);
    is = p.2;
  }))
  number-cut w (Some k) (inside, is) = ⊎_elim
      (λ (less : k < n). rw (lt-ltb k n less) (omega (arith, less, count), first-word k less ∙ is))
      (λ (more : n ≤ k). rw (le-ltb k n more) (λ c. let p = first-there w c in omega (
        arith,
        p.1,
        more,
        closed.distinct p.0 k (omega (arith, p.1, within)) inside (p.2 ∙ sym is),
      )))
      (cases_lt k n)

  module _ (rank : ℕ) (old new : List ℕ) (cut : IsCutBack (n * rank) n old new) where
    entry-cut : (s i : ℕ) → IsLetter rank s → i < n → entry rank new s i ≡ number_below n (entry rank old s i)
    entry-cut s i l m = rw (← entry-is rank new s i, ← entry-is rank old s i) (cut.each (i * rank + (s - 1)) (place-within rank n i s l m))

  module _ (old new : List ℕ) (cut : IsCutBack (n * A.rank) n old new) where
    pub left-cut : AreLeftShifts A words old → AreLeftShifts A (take n words) new
    left-cut h = record {
      size = rw count cut.size;
      shift = λ s i l m. let less : i < n = omega (arith, m, count) in rw (entry-cut A.rank old new cut s i l less, first-word i less)
          (number-cut (normal_form A (s ∷ word_at words i)) (entry A.rank old s i) (h.shift s i l (omega (arith, less, within))));
    }

    pub right-cut : length old ≡ length words * A.rank → AreRightShifts A words old → AreRightShifts A (take n words) new
    right-cut size h = record {
      shift = λ s i l m k. let less : i < n = omega (arith, m, count) in rw (entry-cut A.rank old new cut s i l less, first-word i less)
          (number-cut (normal_form A (word_at words i ++ s ∷ [])) (entry A.rank old s i) (h.shift s i l (omega (arith, less, within))
          (rw size (place-within A.rank (length words) i s l (omega (arith, less, within))))));
    }

  pub sets-cut : (P : List ℕ → ℕ → Type 0) (sets : List ℕ) → AreSets P words sets → AreSets P (take n words) (take n sets)
  sets-cut P sets h = record {
    size = rw count (length-take-le n sets (omega (arith, h.size, within)));
    bit = λ i k l. let less : i < n = omega (arith, l, count) in rw (get_or-take n sets i 0 less, first-word i less)
        (h.bit i k (omega (arith, less, within)));
  }

  module _ (old new : List ℕ) (empty : length old ≡ 0 → length new ≡ 0) (cut : 0 < length old → IsCutBack (n * 1) n old new) where
    kept-before : 0 < length new → 0 < length old
    kept-before some = ⊎_elim (λ (none : length old ≡ 0). absurd (omega (arith, empty none, some)))
        (λ (other : length old ≡ 0 → ⊥). omega (arith, other)) (cases_eq (length old) 0)

    pub inverses-cut : AreKeptInverses A words old → AreKeptInverses A (take n words) new
    inverses-cut h = record {
      size = λ some. omega (arith, (cut (kept-before some)).size, count);
      inverses = record {
        inverse = λ i l m.
            let some = kept-before (omega (arith, m))
            in let less : i < n = omega (arith, l, count)
            in rw (entry-cut 1 old new (cut some) 1 i (record { from_one = omega arith; to_rank = omega arith }) less, first-word i less)
            (number-cut (normal_form A (reverse (word_at words i))) (entry 1 old 1 i)
            (h.inverses.inverse i (omega (arith, less, within)) (omega (arith, less, within, h.size some))));
      };
    }

  pub context-cut : (left right left_sets right_sets narrow_left narrow_right inverses new_left new_right new_inverses : List ℕ)
      → IsContext A words left right left_sets right_sets narrow_left narrow_right inverses → IsClosed A (take n words)
      → IsCutBack (n * A.rank) n left new_left → IsCutBack (n * A.rank) n right new_right
      → (length inverses ≡ 0 → length new_inverses ≡ 0) → (0 < length inverses → IsCutBack (n * 1) n inverses new_inverses)
      → IsContext A (take n words) new_left new_right (take n left_sets) (take n right_sets) [] [] new_inverses
  context-cut left right left_sets right_sets narrow_left narrow_right inverses new_left new_right new_inverses h first left_is right_is
      empty cut = record {
        closed = first;
        left_shifts = left-cut left new_left left_is h.left_shifts;
        tables = record {
          right_size = rw count right_is.size;
          right_shifts = right-cut right new_right right_is h.tables.right_size h.tables.right_shifts;
          left_bits = sets-cut (IsLeftDescent A) left_sets h.tables.left_bits;
          right_bits = sets-cut (IsRightDescent A) right_sets h.tables.right_bits;
          kept_inverses = inverses-cut inverses new_inverses empty cut h.tables.kept_inverses;
        };
        left_narrow = λ k l. absurd (omega (arith, l));
        right_narrow = λ k l. absurd (omega (arith, l));
      }
