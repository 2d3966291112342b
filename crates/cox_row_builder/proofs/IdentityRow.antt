-- The row of the identity: P(e,e) = 1, and mu(e,e) = 0.
use Rattle.std.proofs.Common.{◌≡◌, ℕ, zero, suc, ◌-◌, ◌<◌, List, [], ◌∷◌, length, inr, ℤ, pos, refl, sym, ◌∙◌, arith}
use Rattle.std.specs.Prelude.{◌≤ℤ◌, ◌<ℤ◌}
use Rattle.std.proofs.lemmas.Int.{ints}
use Rattle.cox_base.specs.IntegerMatrix.{IntegerMatrix}
use Rattle.cox_base.specs.Admissible.{IsAdmissible}
use Rattle.cox_base.specs.Bruhat.{IsBelow}
use Rattle.cox_base.specs.Length.{word_length}
use Rattle.cox_reflect.proofs.Elements.{same-refl}
use Rattle.cox_reflect.proofs.Bruhat.{below-refl}
use Rattle.cox_poly.specs.Coefficients.{one_polynomial}
use Rattle.cox_poly.specs.Polynomial.{coefficient}
use Rattle.cox_poly.specs.Limit.{AllWithin}
use Rattle.cox_hecke.specs.Row.{IsKazhdanLusztig, IsMu}
use Rattle.cox_hecke.proofs.AllRows.{row_of, row_of-is, mu-by_polynomial}
use Rattle.cox_context.specs.Closed.{IsClosed}
use Rattle.cox_context.specs.Numbers.{word_at}
use Rattle.cox_row.specs.Extremal.{IsExtremal}
use Rattle.cox_row.specs.ExtremalNumbers.{AreExtremal}
use Rattle.cox_row.specs.Polynomials.{polynomial_at, HavePolynomials}
use Rattle.cox_row.specs.Mus.{AreMus}
use Rattle.cox_row_builder.specs.LargeMembers.{IsWithinLimit}
use Rattle.cox_row_builder.specs.Faults.{IsFirstLarge}
use Rattle.cox_row_builder.specs.Underway.{AreBegun, AreNoted}
use Rattle.cox_row_builder.proofs.NotedMus.{middle-even, noted-skip}
use Rattle.cox_row_builder.proofs.FoundPolynomials.{begun-keep}
use Rattle.cox_row_builder.proofs.LargeCoefficients.{within-none}
use Rattle.cox_row_builder.proofs.Finished.{finished-extremal, finished-mus, none-large}

pub identity-within : (limit : ℤ) → pos 1 ≤ℤ limit → (j : ℕ) → j < length ((pos 1 ∷ []) ∷ [])
    → AllWithin limit (polynomial_at ((pos 1 ∷ []) ∷ []) j)
identity-within limit l zero m zero = l
identity-within limit l zero m (suc k) = omega (arith, ints, l)
identity-within limit l (suc j) m k = absurd (omega (arith, m))

module _ (A : IntegerMatrix) (g : IsAdmissible A) (members : List (List ℕ)) (closed : IsClosed A members) where
  one-at : (k : ℕ) → coefficient (pos 1 ∷ []) k ≡ one_polynomial k
  one-at zero = refl
  one-at (suc k) = refl

  is-one : IsKazhdanLusztig A (word_at members 0) (word_at members 0) (coefficient (pos 1 ∷ []))
  is-one = record {
    row = row_of A g (word_at members 0);
    is = row_of-is A g (word_at members 0);
    at = λ k. one-at k ∙ sym ((row_of-is A g (word_at members 0)).top k);
  }

  is-zero : IsMu A (word_at members 0) (word_at members 0) (pos 0)
  is-zero =
      mu-by_polynomial A g (word_at members 0) (word_at members 0) (pos 0) (coefficient (pos 1 ∷ [])) is-one
      (sym (middle-even (word_length A (word_at members 0) - word_length A (word_at members 0)) (coefficient (pos 1 ∷ []))
      (λ e. omega (arith, e))))

  begun-start : AreBegun A members (word_at members 0) (pos 1) 0 [] [] []
  begun-start = record {
    rising = λ j k l m. absurd (omega (arith, m));
    before = λ k l. absurd (omega (arith, l));
    extremal = λ k l. absurd (omega (arith, l));
    below = λ k l. absurd (omega (arith, l));
    whole = λ x l e b small. absurd (omega (arith, l));
    polynomials = record {
      size = refl;
      placed = λ k l. absurd (omega (arith, l));
      distinct = record {
        trimmed = λ j l. absurd (omega (arith, l));
        once = λ i j l m. absurd (omega (arith, m));
        used = λ j l. absurd (omega (arith, l));
        few = omega arith;
      };
      value = λ k l. absurd (omega (arith, l));
    };
    small = λ j l. absurd (omega (arith, l));
  }

  small : AllWithin (pos 1) (pos 1 ∷ [])
  small zero = omega (arith, ints)
  small (suc k) = omega (arith, ints)

  begun : AreBegun A members (word_at members 0) (pos 1) 1 (0 ∷ []) (0 ∷ []) ((pos 1 ∷ []) ∷ [])
  begun = begun-keep A members (word_at members 0) (pos 1) 0 [] [] [] ((pos 1 ∷ []) ∷ []) 0 (pos 1 ∷ []) record {
    within = omega arith;
    trimmed = λ some e. cc;
    same = λ k. refl;
    small = small;
    kept = λ j l. absurd (omega (arith, l));
    size = inr (refl, refl, λ j l. absurd (omega (arith, l)));
  } begun-start record { left = λ s d. d; right = λ s d. d } (below-refl A g (same-refl A g (word_at members 0))) is-one

  noted : AreNoted A members (word_at members 0) (pos 1) 1 [] []
  noted = noted-skip A g members (word_at members 0) (pos 1) 0 [] [] is-zero record {
    size = refl;
    rising = λ j k l m. absurd (omega (arith, m));
    before = λ k l. absurd (omega (arith, l));
    value = λ k l. absurd (omega (arith, l));
    some = λ k l. absurd (omega (arith, l));
    whole = λ u m l mu some small. absurd (omega (arith, l));
  }

  extremal-within : (x : ℕ) → x < 1 → IsExtremal A (word_at members 0) (word_at members x)
      → IsBelow A (word_at members x) (word_at members 0) → IsWithinLimit A (pos 1) (word_at members x) (word_at members 0)
  extremal-within x l e b =
      let first : x ≡ 0 = omega (arith, l)
      in rw first (within-none A g (pos 1) (word_at members 0) (word_at members 0) (pos 1 ∷ []) is-one small)

  pub identity-extremal : AreExtremal A members (word_at members 0) (0 ∷ [])
  identity-extremal = finished-extremal A g members closed 0 closed.some 1 (omega arith) (omega arith) (pos 1) (0 ∷ []) (0 ∷ [])
      ((pos 1 ∷ []) ∷ []) extremal-within begun

  pub identity-polynomials : HavePolynomials A members (word_at members 0) (0 ∷ []) (0 ∷ []) ((pos 1 ∷ []) ∷ [])
  identity-polynomials = begun.polynomials

  pub identity-mus : AreMus A members (word_at members 0) [] []
  identity-mus = finished-mus A g members closed 0 closed.some 1 (omega arith) (omega arith) (pos 1) [] []
      (none-large A g members closed 0 closed.some (pos 1) (omega (arith, ints)) (0 ∷ []) (0 ∷ []) ((pos 1 ∷ []) ∷ []) identity-extremal
      identity-polynomials (identity-within (pos 1) (omega (arith, ints)))) noted

  -- its one coefficient is above the limit 0
  pub identity-large : (limit : ℤ) → limit <ℤ pos 1 → IsFirstLarge A members (word_at members 0) limit 0 0 (pos 1)
  identity-large limit l = record {
    large = record { polynomial = coefficient (pos 1 ∷ []); is = is-one; value = refl; above = l };
    least = λ k c m. absurd (omega (arith, m));
    before = λ y k c m. absurd (omega (arith, m));
  }
