-- Equal polynomials have one fingerprint.
use Rattle.std.proofs.Common.{◌≡◌, ℕ, suc, List, [], ◌∷◌, ℤ, pos, refl, sym}
use Rattle.cox_poly.specs.Polynomial.{coefficient, SameCoefficients}
use Rattle.cox_poly.specs.Fingerprint.{fingerprint}

-- zeros have that of the zero polynomial
fingerprint-zeros : (p : List ℤ) → ((k : ℕ) → coefficient p k ≡ pos 0) → fingerprint p ≡ 0
fingerprint-zeros [] none = refl
fingerprint-zeros (c ∷ p) none =
    let first : c ≡ pos 0 = none 0 in
    let rest : fingerprint p ≡ 0 = fingerprint-zeros p (λ k. none (suc k)) in
    rw (first, rest) refl

pub fingerprint-same : (p r : List ℤ) → SameCoefficients p r → fingerprint p ≡ fingerprint r
fingerprint-same [] r same = sym (fingerprint-zeros r (λ k. sym (same k)))
fingerprint-same (c ∷ p) [] same = fingerprint-zeros (c ∷ p) same
fingerprint-same (c ∷ p) (d ∷ r) same =
    let first : c ≡ d = same 0 in
    let rest : fingerprint p ≡ fingerprint r = fingerprint-same p r (λ k. same (suc k)) in
    rw (first, rest) refl
