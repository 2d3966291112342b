-- mu depends on the elements alone, and is 0 where no other value is possible.
use Rattle.std.proofs.Common.{◌≢◌, ℕ, zero, suc, List, ℤ, pos, negsuc, refl}
use Rattle.cox_base.specs.IntegerMatrix.{IntegerMatrix}
use Rattle.cox_base.specs.Admissible.{IsAdmissible}
use Rattle.cox_base.specs.Element.{SameElement}
use Rattle.cox_reflect.proofs.Search.{word_length-equal}
use Rattle.cox_hecke.specs.Row.{IsMu}
use Rattle.cox_hecke.proofs.AllRows.{mu-by_polynomial, mu-exists}
use Rattle.cox_hecke.proofs.PolynomialValues.{kazhdan_lusztig-same}

module _ (A : IntegerMatrix) (g : IsAdmissible A) where
  pub mu-words : {x y v w : List ℕ} (m : ℤ) → SameElement A x y → SameElement A v w → IsMu A x v m → IsMu A y w m
  mu-words {x} {y} {v} {w} m e d mu =
      mu-by_polynomial A g y w m (mu.row x)
      (kazhdan_lusztig-same A g x y v w (mu.row x) e d (record { row = mu.row; is = mu.is; at = λ k. refl }))
      (rw (word_length-equal A g e, word_length-equal A g d) at mu.value)

  -- mu(x,w) is 0 where it is no other number
  pub mu-zero : (x w : List ℕ) → ((m : ℤ) → IsMu A x w m → m ≢ pos 0 → ⊥) → IsMu A x w (pos 0)
  mu-zero x w none = go (mu-exists A g x w).0 (mu-exists A g x w).1
    where
      go : (m : ℤ) → IsMu A x w m → IsMu A x w (pos 0)
      go (pos zero) mu = mu
      go (pos (suc n)) mu = absurd (none (pos (suc n)) mu (λ e. cc))
      go (negsuc n) mu = absurd (none (negsuc n) mu (λ e. cc))
