-- The relations of the Hecke algebra (Kazhdan and Lusztig 1979, section 1), for operators t(s) on the free module that are given by the
-- images of its basis.
use Rattle.std.specs.Prelude.{◌≡◌, ◌≢◌, ℕ, ◌<◌, List, pos}
use Rattle.cox_base.specs.Matrix.{CoxeterMatrix, IsLetter, label}
use Rattle.cox_poly.specs.Coefficients.{plus, times_q}
use Rattle.cox_poly.specs.Multiples.{minus}
use Rattle.cox_reflect.specs.Relations.{alternating_from}
use Rattle.cox_module.specs.declared.term.Term.{Term}
use Rattle.cox_module.specs.FreeModule.{Vector, apply, apply_word}

-- t(s) h - v^2 h
abbrev pub less_square : (ℕ → ℕ → List Term) → ℕ → ℕ → Vector → Vector
less_square images n s h j = minus (apply (images s) n h j) (times_q (times_q (h j)))

-- With n basis elements: (t(s) + 1)(t(s) - v^2) = 0 for each letter s; and t(s) t(t) t(s) .. = t(t) t(s) t(t) .., with m(s,t) factors
-- each, for letters s and t with a finite m(s,t). The label 0 stands for an infinite one.
pub record MeetRelations (c : CoxeterMatrix) (n : ℕ) (images : ℕ → ℕ → List Term) : Type 0 where
  pub quadratic : (s : ℕ) → IsLetter c.rank s → (h : Vector) (j k : ℕ) → j < n
      → plus (apply (images s) n (less_square images n s h) j) (less_square images n s h j) k ≡ pos 0
  pub braid : (s t : ℕ) → IsLetter c.rank s → IsLetter c.rank t → s ≢ t → label c s t ≢ 0 → (h : Vector) (j k : ℕ) → j < n
      → apply_word images n (alternating_from (label c s t) s t) h j k ≡ apply_word images n (alternating_from (label c s t) t s) h j k
