-- The free module over the polynomials in v = q^(1/2) with integer coefficients, with a basis that is numbered from 0, and operators on
-- it that are given by the images of the basis. A polynomial is given by its coefficients at the powers of v, so `times_q` multiplies by v
-- here.
use Rattle.std.specs.Prelude.{ℕ, zero, suc, ◌==◌, if◌then◌else◌, List, [], ◌∷◌}
use Rattle.cox_poly.specs.Coefficients.{Coefficients, zero_polynomial, plus, times_q}
use Rattle.cox_poly.specs.Multiples.{negated, scaled}
use Rattle.cox_module.specs.declared.term.Entry.{Entry}
use Rattle.cox_module.specs.declared.term.Entry.TheVariants.{Minus, Square, Half}
use Rattle.cox_module.specs.declared.term.Term.{Term}

-- an entry times a polynomial in v: -f, v^2 f, m v f
abbrev pub times_entry : Entry → Coefficients → Coefficients
times_entry Minus f = negated f
times_entry Square f = times_q (times_q f)
times_entry (Half m) f = scaled m (times_q f)

-- an element of the free module: its coefficient at each basis element
abbrev pub Vector : Type 0
Vector = ℕ → Coefficients

-- an image is a sum of multiples of basis elements, which are given by their places. This is the coefficient at j of f times an image.
abbrev pub image_times : List Term → Coefficients → Vector
image_times [] f j = zero_polynomial
image_times (term ∷ image) f j =
    if term.place == j then plus (times_entry term.entry f) (image_times image f j) else image_times image f j

-- the linear operator that takes each basis element k before n to images(k): at h it is the sum of the h(k) images(k)
abbrev pub apply : (ℕ → List Term) → ℕ → Vector → Vector
apply images zero h j = zero_polynomial
apply images (suc n) h j = plus (apply images n h j) (image_times (images n) (h n) j)

-- t(s1) t(s2) .. t(sk) h, where t(s) takes k to images(s, k)
abbrev pub apply_word : (ℕ → ℕ → List Term) → ℕ → List ℕ → Vector → Vector
apply_word images n [] h = h
apply_word images n (s ∷ u) h = apply (images s) n (apply_word images n u h)
