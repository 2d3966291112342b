-- The shifts of w that are shorter, and mu at them.
use Rattle.std.proofs.Common.{◌≡◌, ◌≢◌, ◌⊎◌, inl, inr, ℕ, ◌+◌, ◌<◌, ◌≤◌, List, [], ◌∷◌, ◌++◌, length, Option, None, Some, ℤ, pos, refl}
use Rattle.std.proofs.Common.{sym, ◌∙◌}
use Rattle.std.proofs.Common.{⊎_elim, arith}
use Rattle.std.proofs.lemmas.Bool.{cases_lt}
use Rattle.cox_base.specs.Matrix.{IsLetter}
use Rattle.cox_base.specs.IntegerMatrix.{IntegerMatrix, integer_matrix}
use Rattle.cox_base.specs.Admissible.{IsAdmissible}
use Rattle.cox_base.specs.Element.{SameElement}
use Rattle.cox_base.specs.ShortLex.{normal_form}
use Rattle.cox_base.specs.Descents.{IsLeftDescent, IsRightDescent}
use Rattle.cox_base.specs.Bruhat.{IsBelow}
use Rattle.cox_reflect.proofs.Elements.{same-sym, same-trans, same-cons, same-push, same-square, same-push_twice}
use Rattle.cox_reflect.proofs.Search.{normal_form-same, normal_form-equal, word_length-equal}
use Rattle.cox_reflect.proofs.Roots.{left_descent-letter, descent-letter}
use Rattle.cox_hecke.specs.Row.{IsMu}
use Rattle.cox_hecke.proofs.AllRows.{mu-same}
use Rattle.cox_hecke.proofs.Descended.{mu-below, mu-left, mu-right, mu-shift_left, mu-shift_right}
use Rattle.cox_context.specs.Closed.{Elements, IsClosed}
use Rattle.cox_context.specs.Numbers.{word_at}
use Rattle.cox_context.specs.Numbering.{IsNumberOf}
use Rattle.cox_context.proofs.PlacedWords.{contains-at}
use Rattle.cox_context.proofs.Shifting.{element-at, shift-less, right_shift-less}
use Rattle.cox_row.specs.Extremal.{IsExtremal}
use Rattle.cox_row.specs.Raised.{IsRaised, on_left, on_right}
use Rattle.cox_row.proofs.Tops.{extremal_or_raised}
use Rattle.cox_row_builder.specs.Underway.{AreNoted, IsUnderway, AreBare}
use Rattle.cox_row_builder.specs.declared.builder.RowBuilder.{RowBuilder}
use Rattle.cox_row_builder.specs.TargetOf.{IsShift, IsLeastShift, IsLeastOf}

-- u is sw or ws
abbrev pub IsShiftBy : IntegerMatrix → ℕ → List ℕ → List ℕ → Type 0
IsShiftBy A s w u = SameElement A u (s ∷ w) ⊎ SameElement A u (w ++ s ∷ [])

-- the least number from a start on of a shift by a letter before a bound that comes before the member i; i where there is none
pub record IsLeastUpTo (A : IntegerMatrix) (members : List (List ℕ)) (i start bound least : ℕ) : Type 0 where
  pub within : least ≤ i
  pub from : least < i → start ≤ least
  pub shift : least < i → IsShift A (word_at members i) (word_at members least)
  pub none : (s k : ℕ) → IsLetter A.rank s → s < bound → start ≤ k → k < least → IsShiftBy A s (word_at members i) (word_at members k) → ⊥

-- the values of mu are noted up to some member, and the next shift is the least from there on
pub record IsNotedTo (e : Elements) (i end : ℕ) (limit : ℤ) (builder : RowBuilder) (q : ℕ) : Type 0 where
  pub to : q ≤ end
  pub noted : AreNoted (integer_matrix e.matrix) e.members (word_at e.members i) limit q builder.mus.numbers.items builder.mus.values.items
  pub next : IsLeastShift (integer_matrix e.matrix) e.members i q builder.next

abbrev pub IsPassed : Elements → ℕ → ℕ → ℤ → RowBuilder → RowBuilder → Type 0
IsPassed e i end limit old new = IsUnderway e i limit old → AreBare e i old.done end → (q : ℕ) × (old.done ≤ q)
    × IsNotedTo e i end limit new q

module _ (A : IntegerMatrix) (g : IsAdmissible A) (members : List (List ℕ)) (closed : IsClosed A members) (i : ℕ)
    (inside : i < length members)
  where
    -- a shift that comes before w is shorter
    pub shift-sides : (s k : ℕ) → IsLetter A.rank s → k < i → IsShiftBy A s (word_at members i) (word_at members k)
        → (IsLeftDescent A (word_at members i) s × SameElement A (word_at members k) (s ∷ word_at members i))
        ⊎ (IsRightDescent A (word_at members i) s × SameElement A (word_at members k) (word_at members i ++ s ∷ []))
    shift-sides s k letter l h = ⊎_elim
        (λ e. inl ((shift-less A g members closed s i k letter inside m (number e)).0 l, e))
        (λ e. inr ((right_shift-less A g members closed s i k letter inside m (number e)).0 l, e))
        h
      where
        m : k < length members
        m = omega (arith, l, inside)

        number : {y : List ℕ} → SameElement A (word_at members k) y → word_at members k ≡ normal_form A y
        number e = sym (element-at A g members closed k m).normal ∙ normal_form-equal A g e

    pub shift-one : (k : ℕ) → k < i → IsShift A (word_at members i) (word_at members k) → IsMu A (word_at members k) (word_at members i)
        (pos 1)
    shift-one k l h = ⊎_elim
        (λ d. mu-same A g (h.s ∷ word_at members i) (word_at members k) (word_at members i) (pos 1) (same-sym A g d.1)
        (mu-shift_left A g (word_at members i) h.s d.0))
        (λ d. mu-same A g (word_at members i ++ h.s ∷ []) (word_at members k) (word_at members i) (pos 1) (same-sym A g d.1)
        (mu-shift_right A g (word_at members i) h.s d.0))
        (shift-sides h.s k h.letter l h.either)

    -- it is not extremal
    pub shift-not_extremal : (k : ℕ) → k < i → IsShift A (word_at members i) (word_at members k)
        → IsExtremal A (word_at members i) (word_at members k) → ⊥
    shift-not_extremal k l h e = ⊎_elim
        (λ d.
        let back = same-trans A g (same-cons A g h.s d.1) (same-square A g h.s (word_at members i))
        in omega (arith, d.0, e.left h.s d.0, word_length-equal A g back, word_length-equal A g d.1))
        (λ d.
        let back = same-trans A g (same-push A g h.s d.1) (same-push_twice A g (word_at members i) h.s)
        in omega (arith, d.0, e.right h.s d.0, word_length-equal A g back, word_length-equal A g d.1))
        (shift-sides h.s k h.letter l h.either)

    -- where mu is not 0 an element is extremal or a shift
    pub mu-shift : (u : List ℕ) (m : ℤ) → IsMu A u (word_at members i) m → m ≢ pos 0 → (IsExtremal A (word_at members i) u → ⊥)
        → IsShift A (word_at members i) u
    mu-shift u m mu some none = ⊎_elim (λ e. absurd (none e)) (λ r. of_raised r.1) (extremal_or_raised A g (word_at members i) u)
      where
        of_raised : {y : List ℕ} → IsRaised A (word_at members i) u y → IsShift A (word_at members i) u
        of_raised (on_left s d n) = record {
          s = s;
          letter = left_descent-letter A g (word_at members i) s d;
          either = inl (mu-left A g (word_at members i) u s m mu some d n);
        }
        of_raised (on_right s d n) = record {
          s = s;
          letter = descent-letter A g (word_at members i) s d;
          either = inr (mu-right A g (word_at members i) u s m mu some d n);
        }

    -- ---- the least one

    pub least-start : (start : ℕ) → IsLeastUpTo A members i start 1 i
    least-start start = record {
      within = omega arith;
      from = λ l. absurd (omega (arith, l));
      shift = λ l. absurd (omega (arith, l));
      none = λ s k letter l m n h. absurd (omega (arith, letter.from_one, l));
    }

    pub least-end : (start bound least : ℕ) → A.rank < bound → IsLeastUpTo A members i start bound least
        → IsLeastShift A members i start least
    least-end start bound least all h = record {
      bound = h.within;
      from = h.from;
      shift = h.shift;
      none = λ k l m s. h.none s.s k s.letter (omega (arith, s.letter.to_rank, all)) l m s.either;
    }

    -- one letter more, on the left and then on the right
    pub least-next : (s start first second third : ℕ) (left right : Option ℕ) → IsLetter A.rank s
        → IsNumberOf members (normal_form A (s ∷ word_at members i)) left
        → IsNumberOf members (normal_form A (word_at members i ++ s ∷ [])) right
        → IsLeastOf left start first second → IsLeastOf right start second third
        → IsLeastUpTo A members i start s first → IsLeastUpTo A members i start (s + 1) third
    least-next s start first second third left right letter left_is right_is a b h = record {
      within = omega (arith, lower-second, lower-third, h.within);
      from = λ l. third-from l;
      shift = λ l. third-shift l;
      none = λ t k t_letter l m n e. ⊎_elim
          (λ (less : t < s). h.none t k t_letter less m (omega (arith, n, lower-second, lower-third)) e)
          (λ (more : s ≤ t). let is : t ≡ s = omega (arith, l, more) in absurd (none_by_s k m n (rw is at e)))
          (cases_lt t s);
    }
      where
        lower : (shift : Option ℕ) (old new : ℕ) → IsLeastOf shift start old new → new ≤ old
        lower None old new e = omega (arith, e)
        lower (Some k) old new e = ⊎_elim (λ x. omega (arith, x.1, x.2)) (λ x. omega (arith, x.0)) e

        lower-second : second ≤ first
        lower-second = lower left first second a

        lower-third : third ≤ second
        lower-third = lower right second third b

        -- what holds of the lesser one
        which : (P : ℕ → Type 0) (shift : Option ℕ) (old new : ℕ) → IsLeastOf shift start old new → P old
            → ((k : ℕ) → shift ≡ Some k → start ≤ k → P k) → P new
        which P None old new e h j = rw e h
        which P (Some k) old new e h j = ⊎_elim (λ x. rw x.2 (j k refl x.0)) (λ x. rw x.0 h) e

        shifted : (y : List ℕ) (found : Option ℕ) (k : ℕ) → IsNumberOf members (normal_form A y) found → found ≡ Some k
            → SameElement A (word_at members k) y
        shifted y found k n e =
            let m : IsNumberOf members (normal_form A y) (Some k) = rw e at n in rw m.1 (normal_form-same A g y)

        second-from : second < i → start ≤ second
        second-from = which (λ n. n < i → start ≤ n) left first second a h.from (λ k e l _. l)

        third-from : third < i → start ≤ third
        third-from = which (λ n. n < i → start ≤ n) right second third b second-from (λ k e l _. l)

        second-shift : second < i → IsShift A (word_at members i) (word_at members second)
        second-shift = which (λ n. n < i → IsShift A (word_at members i) (word_at members n)) left first second a h.shift
            (λ k e l _. record { s = s; letter = letter; either = inl (shifted (s ∷ word_at members i) left k left_is e) })

        third-shift : third < i → IsShift A (word_at members i) (word_at members third)
        third-shift = which (λ n. n < i → IsShift A (word_at members i) (word_at members n)) right second third b second-shift
            (λ k e l _. record { s = s; letter = letter; either = inr (shifted (word_at members i ++ s ∷ []) right k right_is e) })

        -- a shift by s between the start and the least one
        between : (y : List ℕ) (found : Option ℕ) (old new k : ℕ) → IsNumberOf members (normal_form A y) found → IsLeastOf found start
            old new
            → start ≤ k → k < new → k < length members → SameElement A (word_at members k) y → ⊥
        between y None old new k none e l m within same =
            none (rw (sym (sym (element-at A g members closed k within).normal ∙ normal_form-equal A g same))
            (contains-at members k within))
        between y (Some j) old new k n e l m within same =
            let is : k ≡ j = closed.distinct k j within n.0
            (sym (element-at A g members closed k within).normal ∙ normal_form-equal A g same ∙ sym n.1)
            in ⊎_elim (λ x. omega (arith, x.2, m, is)) (λ x. ⊎_elim (λ d. omega (arith, d, l, is)) (λ d. omega (arith, d, x.0, m, is))
            x.1) e

        none_by_s : (k : ℕ) → start ≤ k → k < third → IsShiftBy A s (word_at members i) (word_at members k) → ⊥
        none_by_s k l m e = ⊎_elim
            (λ x. between (s ∷ word_at members i) left first second k left_is a l (omega (arith, m, lower-third))
            (omega (arith, m, lower-third, lower-second, h.within, inside)) x)
            (λ x. between (word_at members i ++ s ∷ []) right second third k right_is b l m
            (omega (arith, m, lower-third, lower-second, h.within, inside)) x)
            e

    -- ---- the values of mu as they are found

    -- no member from q to p is extremal, and none is a shift
    pub noted-pass : (limit : ℤ) (q p least : ℕ) (numbers : List ℕ) (values : List ℤ) → q ≤ p → p ≤ least → IsLeastShift A members i q least
        → ((x : ℕ) → q ≤ x → x < p → IsExtremal A (word_at members i) (word_at members x)
        → IsBelow A (word_at members x) (word_at members i) → ⊥)
        → AreNoted A members (word_at members i) limit q numbers values → AreNoted A members (word_at members i) limit p numbers values
    noted-pass limit q p least numbers values l m h bare old = record {
      size = old.size;
      rising = old.rising;
      before = λ k n. omega (arith, old.before k n, l);
      value = old.value;
      some = old.some;
      whole = λ u n u_less mu some small. ⊎_elim (λ (less : u < q). old.whole u n less mu some small)
          (λ (more : q ≤ u). absurd (h.none u more (omega (arith, u_less, m))
          (mu-shift (word_at members u) n mu some
          (λ e. bare u more u_less e (mu-below A g (word_at members u) (word_at members i) n mu some)))))
          (cases_lt u q);
    }

    -- an extremal member is no shift
    pub least-after : (start least : ℕ) → IsExtremal A (word_at members i) (word_at members start) → IsLeastShift A members i start least
        → IsLeastShift A members i (start + 1) least
    least-after start least e h = record {
      bound = h.bound;
      from = λ l. ⊎_elim (λ (less : start < least). omega (arith, less))
          (λ (more : least ≤ start).
          let is : least ≡ start = omega (arith, more, h.from l)
          in absurd (shift-not_extremal least l (h.shift l) (rw is e)))
          (cases_lt start least);
      shift = h.shift;
      none = λ k l m s. h.none k (omega (arith, l)) m s;
    }

    -- from a later start, where no shift comes before it
    pub least-later : (start later least : ℕ) → start ≤ later → later ≤ least → IsLeastShift A members i start least
        → IsLeastShift A members i later least
    least-later start later least l m h = record {
      bound = h.bound;
      from = λ _. m;
      shift = h.shift;
      none = λ k n o s. h.none k (omega (arith, n, l)) o s;
    }
