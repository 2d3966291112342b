-- The recursion by numbers: the sums with the corrections taken off are those of P(x,w).
use Rattle.std.proofs.Common.{◌≡◌, ℕ, ◌<◌, ◌≤◌, List, length, pos, ◌↔◌, refl, sym, ◌∙◌, arith}
use Rattle.std.proofs.lemmas.List.{length-map, get_or-map}
use Rattle.cox_base.specs.declared.side.Side.{Side}
use Rattle.cox_base.specs.IntegerMatrix.{IntegerMatrix}
use Rattle.cox_base.specs.Admissible.{IsAdmissible}
use Rattle.cox_base.specs.Element.{SameElement}
use Rattle.cox_base.specs.ShortLex.{normal_form}
use Rattle.cox_base.specs.Bruhat.{IsBelow}
use Rattle.cox_reflect.proofs.Elements.{same-refl, same-sym}
use Rattle.cox_reflect.proofs.Search.{normal_form-same}
use Rattle.cox_reflect.proofs.Bruhat.{below-same, below-trans}
use Rattle.cox_poly.specs.Coefficients.{Coefficients, plus, times_q}
use Rattle.cox_poly.specs.Multiples.{minus}
use Rattle.cox_hecke.specs.Row.{IsKazhdanLusztig}
use Rattle.cox_base.specs.SideDescents.{times_letter, IsDescent}
use Rattle.cox_hecke.specs.StepFamily.{AreCorrections, step, correction_sum}
use Rattle.cox_hecke.proofs.Descents.{nat_lt-yes}
use Rattle.cox_hecke.proofs.AllRows.{row_of, row_of-is, mu-same, kazhdan_lusztig-value}
use Rattle.cox_hecke.proofs.Descended.{mu-below}
use Rattle.cox_hecke.proofs.PolynomialValues.{kazhdan_lusztig-same}
use Rattle.cox_hecke.proofs.StepFamilies.{recursion}
use Rattle.cox_context.specs.Closed.{IsClosed}
use Rattle.cox_context.specs.Numbers.{word_at}
use Rattle.cox_context.proofs.PlacedWords.{contains-placed, contains-at}
use Rattle.cox_context.proofs.Shifting.{member-below, length-at}
use Rattle.cox_row.proofs.RisingNumbers.{few-rising}
use Rattle.cox_klstep.specs.declared.step.Correction.{Correction}
use Rattle.cox_klstep.specs.StepOf.{correction_at, AreNumbered}
use Rattle.cox_klstep.specs.CorrectionSums.{GivesAt, numbered_sum}
use Rattle.cox_row_symmetry.proofs.DescentsOnSides.{lowered-below, descent-same, lifted-down}
use Rattle.cox_klstep.proofs.NumberedLists.{named, named-sum, occurs-once}

module _ (side : Side) (A : IntegerMatrix) (g : IsAdmissible A) (members : List (List ℕ)) (closed : IsClosed A members) (i : ℕ)
    (inside : i < length members)
    (s : ℕ) (descent : IsDescent side A (word_at members i) s) (list : List Correction)
    (numbered : AreNumbered side A members s (word_at members i) list) where
  w : List ℕ
  w = word_at members i

  are-corrections : AreCorrections side A s (times_letter side s (word_at members i)) (named members list)
  are-corrections = record {
    each = λ k d l.
        let size : length (named members list) ≡ length list = length-map list _
        in let m : k < length list = omega (arith, l, size)
        in rw (get_or-map (λ c. record { element = word_at members c.number; mu = c.factor }) list k
        (record { number = 0; factor = pos 0; shift = 0 }) d m)
        (numbered.each k m);
    once = λ u m c.
        let below : IsBelow A u (word_at members i) = below-trans A g (mu-below A g u (times_letter side s (word_at members i)) m
        c.is_mu c.some)
        (lowered-below side A g s (word_at members i) descent)
        in let place = contains-placed members (normal_form A u) (member-below A g members closed u i inside below)
        in let same : SameElement A u (word_at members place.i) = rw place.is (same-sym A g (normal_form-same A g u))
        in let there = numbered.whole place.i m place.within record {
          shortens = descent-same side A g s same c.shortens;
          is_mu = mu-same A g u (word_at members place.i) (times_letter side s (word_at members i)) m same c.is_mu;
          some = c.some;
        }
        in occurs-once A g members closed u place.i place.within same list numbered.within numbered.rising there.0 there.1 there.2;
  }

  -- P(x,w) is P(sx,sw) + q P(x,sw) less the corrections
  pub numbered-recursion : (x : List ℕ) (P : ℕ → Coefficients) (a b h : Coefficients) → IsDescent side A x s → GivesAt A members x P
      → IsKazhdanLusztig A (times_letter side s x) (times_letter side s (word_at members i)) a
      → IsKazhdanLusztig A x (times_letter side s (word_at members i)) b
      → ((k : ℕ) → h k ≡ minus (plus a (times_q b)) (numbered_sum P list) k) → IsKazhdanLusztig A x (word_at members i) h
  numbered-recursion x P a b h d gives is_a is_b is = record {
    row = row_of A g (word_at members i);
    is = row_of-is A g (word_at members i);
    at = λ k. is k ∙ sym (recursion A g side (word_at members i) s descent
        (row_of A g (times_letter side s (word_at members i)))
        (row_of-is A g (times_letter side s (word_at members i))) (named members list) are-corrections (row_of A g)
        (λ j c l. row_of-is A g _) (row_of A g (word_at members i)) (row_of-is A g (word_at members i)) x k ∙ sides k);
  }
    where
      first : step side A s (row_of A g (times_letter side s (word_at members i))) x ≡ plus a (times_q b)
      first = rw (
        nat_lt-yes d,
        ← kazhdan_lusztig-value A g (times_letter side s x) (times_letter side s (word_at members i)) a is_a,
        ← kazhdan_lusztig-value A g x (times_letter side s (word_at members i)) b is_b,
      ) refl

      second : (k : ℕ) → correction_sum A (word_at members i) (row_of A g) (named members list) x k ≡ numbered_sum P list k
      second = named-sum A (word_at members i) x members P (row_of A g) list
          (λ j l. kazhdan_lusztig-value A g x (word_at members (correction_at list j).number) (P (correction_at list j).number)
          (gives (correction_at list j).number (numbered.within j l)))
          (λ j l. omega (arith, numbered.shift j l))

      sides : (k : ℕ) → minus (step side A s (row_of A g (times_letter side s (word_at members i))) x)
          (correction_sum A (word_at members i) (row_of A g) (named members list) x) k ≡ minus (plus a (times_q b)) (numbered_sum P list) k
      sides k = rw (first, second k) refl

  -- the shifts are small, and the corrections are no more than the members
  pub shift-low : (k : ℕ) → k < length list → (correction_at list k).shift ≤ 127
  shift-low k l = omega (
    arith,
    numbered.shift k l,
    length-at A g members closed i inside,
    closed.short (word_at members i) (contains-at members i inside),
  )

  pub corrections-few : length list ≤ length members
  corrections-few = few-rising (λ k. (correction_at list k).number) (length members) (length list) numbered.rising numbered.within

  -- x ≤ w exactly where sx ≤ sw
  module _ (x shorter lower : ℕ) (d : IsDescent side A (word_at members x) s)
      (shorter_is : word_at members shorter ≡ normal_form A (times_letter side s (word_at members x)))
      (lower_is : word_at members lower ≡ normal_form A (times_letter side s (word_at members i))) where
    shorter-same : SameElement A (word_at members shorter) (times_letter side s (word_at members x))
    shorter-same = rw shorter_is (normal_form-same A g (times_letter side s (word_at members x)))

    pub lower-same : SameElement A (word_at members lower) (times_letter side s (word_at members i))
    lower-same = rw lower_is (normal_form-same A g (times_letter side s (word_at members i)))

    pub below-lowered : IsBelow A (word_at members shorter) (word_at members lower) ↔ IsBelow A (word_at members x) (word_at members i)
    below-lowered =
        let lift = lifted-down side A g s (word_at members x) (word_at members i) descent d
        in (
          λ b. lift.1 (below-same A g shorter-same lower-same b),
          λ b. below-same A g (same-sym A g shorter-same) (same-sym A g lower-same) (lift.0 b),
        )

    -- the sums are those of P(x,w)
    pub sums-are : (P : ℕ → Coefficients) (a b h : Coefficients) → GivesAt A members (word_at members x) P
        → IsKazhdanLusztig A (word_at members shorter) (word_at members lower) a
        → IsKazhdanLusztig A (word_at members x) (word_at members lower) b
        → ((k : ℕ) → h k ≡ minus (plus a (times_q b)) (numbered_sum P list) k)
        → IsKazhdanLusztig A (word_at members x) (word_at members i) h
    sums-are P a b h gives is_a is_b is = numbered-recursion (word_at members x) P a b h d gives
        (kazhdan_lusztig-same A g (word_at members shorter) (times_letter side s (word_at members x)) (word_at members lower)
        (times_letter side s (word_at members i)) a
        shorter-same lower-same is_a)
        (kazhdan_lusztig-same A g (word_at members x) (word_at members x) (word_at members lower)
        (times_letter side s (word_at members i)) b
        (same-refl A g (word_at members x)) lower-same is_b)
        is
