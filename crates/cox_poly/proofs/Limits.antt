-- Coefficients beyond a limit: the first one is one alone, so at most one fault names it; and whether there is one can be told.
use Rattle.std.proofs.Common.{◌≡◌, ℕ, zero, suc, ◌<◌, ◌≤◌, List, ℤ, pos, Result, Err, ◌↔◌, refl, sym, ◌∙◌, ap, ◌⊎◌, inl, inr, ⊎_elim, arith}
use Rattle.std.specs.Prelude.{unsigned_abs, ◌<ℤ◌, ◌≤ℤ◌}
use Rattle.std.proofs.lemmas.Bool.{cases_lt}
use Rattle.std.proofs.lemmas.Int.{ints, by_lt_z}
use Rattle.cox_poly.specs.Coefficients.{Coefficients}
use Rattle.cox_poly.specs.declared.poly_fault.PolyFault.{PolyFault}
use Rattle.cox_poly.specs.declared.poly_fault.PolyFault.TheVariants.{TooBig}
use Rattle.cox_poly.specs.Polynomial.{coefficient}
use Rattle.cox_poly.specs.Limit.{IsWithin, AllWithin, IsFirstAbove}

-- a number within the limit is none above it
pub within-not_above : (limit a b : ℤ) → a ≡ b → IsWithin limit a → limit <ℤ pos (unsigned_abs b) → ⊥
within-not_above limit a b e within above =
    let h : limit <ℤ pos (unsigned_abs a) = rw e above in omega (arith, ints, within, h)

-- ---- the first one above it

pub IsFirstAbove-not_within : (limit : ℤ) (p : List ℤ) (d : ℕ) (v : ℤ) → IsFirstAbove limit p d v → IsWithin limit (coefficient p d) → ⊥
IsFirstAbove-not_within limit p d v a within = within-not_above limit (coefficient p d) v (sym a.value) within a.above

no_lower : (limit : ℤ) (p : List ℤ) (d e : ℕ) (v w : ℤ) → IsFirstAbove limit p d v → IsFirstAbove limit p e w → e ≤ d
no_lower limit p d e v w a b = ⊎_elim (λ (l : d < e). absurd (IsFirstAbove-not_within limit p d v a (b.least d l))) (λ (le : e ≤ d). le)
    (cases_lt d e)

same_degree : (limit : ℤ) (p : List ℤ) (d e : ℕ) (v w : ℤ) → IsFirstAbove limit p d v → IsFirstAbove limit p e w → d ≡ e
same_degree limit p d e v w a b = omega (arith, no_lower limit p d e v w a b, no_lower limit p e d w v b a)

-- where the fault names the first coefficient beyond the limit
pub one_fault : {X : Type 0} (limit : ℤ) (p : List ℤ) (d : ℕ) (v : ℤ) → IsFirstAbove limit p d v → (e : ℕ) (w : ℤ)
    → ◌≡◌ {A = Result X PolyFault} (Err (TooBig d v)) (Err (TooBig e w)) ↔ IsFirstAbove limit p e w
one_fault {X} limit p d v a e w = (
  λ q. let x : d ≡ e = cc in let y : v ≡ w = cc in rw (← x, ← y) a,
  λ b.
      let x = same_degree limit p d e v w a b
      in let y : v ≡ w = a.value ∙ ap (coefficient p) x ∙ sym b.value
      in rw (x, y) refl,
)

-- where each coefficient is within it
pub no_fault : {X : Type 0} (limit : ℤ) (p : List ℤ) (r : Result X PolyFault) → AllWithin limit p
    → ((e : ℕ) (w : ℤ) → r ≡ Err (TooBig e w) → ⊥) → (e : ℕ) (w : ℤ)
    → (r ≡ Err (TooBig e w)) ↔ IsFirstAbove limit p e w
no_fault limit p r within none e w = (λ q. absurd (none e w q), λ b. absurd (IsFirstAbove-not_within limit p e w b (within e)))

-- ---- whether there is one

-- of a degree below n
tell-below : (limit : ℤ) (f : Coefficients) (n : ℕ)
    → ((k : ℕ) × (limit <ℤ pos (unsigned_abs (f k)))) ⊎ ((k : ℕ) → k < n → limit <ℤ pos (unsigned_abs (f k)) → ⊥)
tell-below limit f zero = inr (λ k l. absurd (omega (arith, l)))
tell-below limit f (suc n) = ⊎_elim
    (λ (found : (k : ℕ) × (limit <ℤ pos (unsigned_abs (f k)))). inl found)
    (λ (none : (k : ℕ) → k < n → limit <ℤ pos (unsigned_abs (f k)) → ⊥). by_lt_z limit (pos (unsigned_abs (f n)))
    (λ above. inl (n, above))
    (λ small. inr (λ k l above. ⊎_elim (λ (less : k < n). none k less above)
    (λ (more : n ≤ k). let e : n ≡ k = omega (arith, l, more) in within-not_above limit (f n) (f k) (ap f e) small above)
    (cases_lt k n))))
    (tell-below limit f n)

-- of any degree, where the coefficients are 0 from some degree on
pub tell-above : (limit : ℤ) → pos 0 ≤ℤ limit → (f : Coefficients) (n : ℕ) → ((k : ℕ) → n ≤ k → f k ≡ pos 0)
    → ((k : ℕ) × (limit <ℤ pos (unsigned_abs (f k)))) ⊎ ((k : ℕ) → limit <ℤ pos (unsigned_abs (f k)) → ⊥)
tell-above limit least f n high = ⊎_elim
    (λ (found : (k : ℕ) × (limit <ℤ pos (unsigned_abs (f k)))). inl found)
    (λ (none : (k : ℕ) → k < n → limit <ℤ pos (unsigned_abs (f k)) → ⊥). inr (λ k above. ⊎_elim
    (λ (less : k < n). none k less above)
    (λ (more : n ≤ k). within-not_above limit (pos 0) (f k) (sym (high k more)) least above)
    (cases_lt k n)))
    (tell-below limit f n)
