-- A row within the limits is not beyond them, so no row that is held is.
use Rattle.std.proofs.Common.{◌≡◌, ℕ, ◌<◌, List, length, true, false, Option, None, Some, ℤ, pos, ⊎_elim, arith}
use Rattle.std.specs.Prelude.{slice_index_or, unsigned_abs, ◌<ℤ◌, ◌≤ℤ◌}
use Rattle.std.specs.Arc.{arc_value}
use Rattle.std.proofs.lemmas.Int.{ints}
use Rattle.cox_base.specs.IntegerMatrix.{IntegerMatrix, integer_matrix}
use Rattle.cox_base.specs.Admissible.{IsAdmissible}
use Rattle.cox_base.specs.ShortLex.{normal_form}
use Rattle.cox_reflect.proofs.Elements.{same-refl, same-sym}
use Rattle.cox_reflect.proofs.Search.{normal_form-same}
use Rattle.cox_reflect.proofs.NormalElements.{element-word}
use Rattle.cox_hecke.specs.Row.{IsMu}
use Rattle.cox_hecke.proofs.AllRows.{mu-unique}
use Rattle.cox_hecke.proofs.Descended.{mu-below}
use Rattle.cox_symmetry.specs.Turns.{turn}
use Rattle.cox_context.specs.Closed.{Elements, IsClosed}
use Rattle.cox_context.specs.Numbers.{word_at}
use Rattle.cox_context.proofs.PlacedWords.{contains-placed}
use Rattle.cox_context.proofs.Shifting.{element-at, member-below}
use Rattle.cox_row.specs.declared.row.Row.{Row}
use Rattle.cox_row.specs.declared.row.TheConstants.{MU_LIMIT}
use Rattle.cox_row.specs.Mus.{value_at}
use Rattle.cox_row.specs.declared.row.SharedPolynomials.{SharedPolynomials}
use Rattle.cox_row.specs.Views.{ServesFor}
use Rattle.cox_row.specs.RowOf.{AreValuesOf, IsRowOf, pool_of}
use Rattle.cox_row.specs.Within.{IsRowWithin}
use Rattle.cox_row.proofs.MuOfElements.{mu-words}
use Rattle.cox_row_builder.specs.Limits.{IsLargeCoefficient, IsLargeMu}
use Rattle.cox_row_builder.proofs.Finished.{none-large}
use Rattle.cox_row_builder.proofs.LargeCoefficients.{large-words}
use Rattle.cox_rows.specs.Beyond.{IsBeyond}
use Rattle.cox_rows.proofs.LargeRows.{beyond-cases}
use Rattle.cox_rows.proofs.TurnedRows.{large_coefficient-turned}
use Rattle.cox_rows.specs.Holding.{AreRows, held}
use Rattle.cox_rows.proofs.HeldRows.{held-row}

module _ (A : IntegerMatrix) (g : IsAdmissible A) (members : List (List ℕ)) (closed : IsClosed A members) (i : ℕ)
    (inside : i < length members)
    (limit : ℤ) (least : pos 0 ≤ℤ limit) (row : Row) (is : IsRowOf A members (word_at members i) row) (within : IsRowWithin limit row) where
  kept-coefficient : (j : ℕ) → j < length members → AreValuesOf A members (word_at members j) (arc_value row.values) → (x : List ℕ) (k : ℕ)
      (c : ℤ) → IsLargeCoefficient A limit x (word_at members j) k c → ⊥
  kept-coefficient j l are = none-large A g members closed j l limit least (arc_value row.values).extremal.items
      (arc_value row.values).places (pool_of row) are.extremal are.polynomials within.coefficients

  -- a coefficient of P(x,w) is one of P(g(x),g(w))
  served-coefficient : (view : Option SharedPolynomials) (v : List ℕ) → ServesFor A members (word_at members i) view v
      → AreValuesOf A members v (arc_value row.values) → (x : List ℕ) (k : ℕ) (c : ℤ)
      → IsLargeCoefficient A limit x (word_at members i) k c → ⊥
  served-coefficient None v e are x k c h = kept-coefficient i inside (rw e at are) x k c h
  served-coefficient (Some view) v (served, e) are x k c h =
      let word = element-word A g (word_at members i) (element-at A g members closed i inside) in
      let there = turn served.p served.inverted (normal_form A x)
      in kept-coefficient view.member served.within (rw e at are) there k c
      (large-words A g limit there there (turn served.p served.inverted (word_at members i)) (word_at members view.member)
      (same-refl A g there) (same-sym A g served.element) k c
      (large_coefficient-turned A g served.p served.symmetry served.inverted limit (word_at members i) word x k c h))

  none-coefficient : (x : List ℕ) (k : ℕ) (c : ℤ) → IsLargeCoefficient A limit x (word_at members i) k c → ⊥
  none-coefficient = served-coefficient row.view is.kept is.serves is.values

  not_zero : (m : ℤ) → pos MU_LIMIT <ℤ pos (unsigned_abs m) → m ≡ pos 0 → ⊥
  not_zero m l e = let zero : pos MU_LIMIT <ℤ pos 0 = rw e at l in omega (arith, ints, zero)

  none-mu : (x : List ℕ) (m : ℤ) → IsLargeMu A (pos MU_LIMIT) x (word_at members i) m → ⊥
  none-mu x m h =
      let place = contains-placed members (normal_form A x)
      (member-below A g members closed x i inside (mu-below A g x (word_at members i) m h.is (not_zero m h.above)))
      in let there : IsMu A (word_at members place.i) (word_at members i) m
      = rw place.is (mu-words A g m (same-sym A g (normal_form-same A g x)) (same-refl A g (word_at members i)) h.is)
      in let k = is.mus.whole place.i m place.within there (not_zero m h.above)
      in let value : IsMu A (word_at members place.i) (word_at members i) (value_at row.mu.items k.0) = rw k.2 at (is.mus.value k.0 k.1)
      in let same : m ≡ value_at row.mu.items k.0
      = mu-unique A g (word_at members place.i) (word_at members i) m (value_at row.mu.items k.0) there value
      in let above : pos MU_LIMIT <ℤ pos (unsigned_abs (value_at row.mu.items k.0)) = rw same at h.above
      in let few = within.mu k.0 (omega (arith, k.1, is.mus.size))
      in omega (arith, ints, above, few)

  pub not_beyond : IsBeyond A limit (word_at members i) → ⊥
  not_beyond h = ⊎_elim
      (λ (found : (x : List ℕ) × (k : ℕ) × (c : ℤ) × IsLargeCoefficient A limit x (word_at members i) k c).
      none-coefficient found.0 found.1 found.2 found.3)
      (λ (found : (x : List ℕ) × (m : ℤ) × IsLargeMu A (pos MU_LIMIT) x (word_at members i) m). none-mu found.0 found.1 found.2)
      (beyond-cases A limit (word_at members i) h)

-- what is held is not beyond the limits
pub held-not_beyond : (e : Elements) (limit : ℤ) (rows : List (Option Row)) → IsAdmissible (integer_matrix e.matrix)
    → IsClosed (integer_matrix e.matrix) e.members → AreRows e limit rows → (i : ℕ) → slice_index_or (held rows) i false ≡ true
    → IsBeyond (integer_matrix e.matrix) limit (word_at e.members i) → ⊥
held-not_beyond e limit rows g closed are i some =
    let there = held-row e limit rows are i some
    in not_beyond (integer_matrix e.matrix) g e.members closed i there.1.member limit are.least there.0 there.1.is there.1.within
