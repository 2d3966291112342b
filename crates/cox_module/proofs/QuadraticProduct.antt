-- The operators are linear, so that (t(s) + 1)(t(s) - v^2) = 0 is what is proved.
use Rattle.std.proofs.Common.{◌≡◌, ℕ, zero, suc, Bool, true, false, if◌then◌else◌, List, [], ◌∷◌, ℤ, pos, ◌+ℤ◌, ◌-ℤ◌, ◌*ℤ◌, neg_ℤ, refl}
use Rattle.std.proofs.Common.{ap, ◌∙◌, arith}
use Rattle.std.specs.Prelude.{◌==◌}
use Rattle.std.proofs.lemmas.Int.{ints}
use Rattle.cox_lemmas.proofs.Ring.{mul_add, mul_neg}
use Rattle.cox_poly.specs.Coefficients.{Coefficients, plus, times_q}
use Rattle.cox_poly.specs.Multiples.{minus}
use Rattle.cox_module.specs.declared.term.Term.{Term}
use Rattle.cox_module.specs.declared.term.Entry.{Entry}
use Rattle.cox_module.specs.declared.term.Entry.TheVariants.{Minus, Square, Half}
use Rattle.cox_module.specs.FreeModule.{Vector, times_entry, image_times, apply}

minus_none : (m a : ℤ) → m *ℤ (a -ℤ pos 0) ≡ m *ℤ a
minus_none m a = ap (λ (z : ℤ). m *ℤ z) (let e : a -ℤ pos 0 ≡ a = omega (arith, ints) in e)

times_difference : (m a b : ℤ) → m *ℤ (a -ℤ b) ≡ m *ℤ a -ℤ m *ℤ b
times_difference m a b =
    ap (λ (z : ℤ). m *ℤ z) (let e : a -ℤ b ≡ a +ℤ neg_ℤ b = omega (arith, ints) in e)
    ∙ mul_add m a (neg_ℤ b) ∙ omega (arith, ints, mul_neg m b)

entry-difference : (e : Entry) (f h : Coefficients) (k : ℕ) → times_entry e (minus f (times_q (times_q h))) k
    ≡ times_entry e f k -ℤ times_q (times_q (times_entry e h)) k
entry-difference Minus f h zero = omega (arith, ints)
entry-difference Minus f h (suc zero) = omega (arith, ints)
entry-difference Minus f h (suc (suc k)) = omega (arith, ints)
entry-difference Square f h zero = refl
entry-difference Square f h (suc zero) = refl
entry-difference Square f h (suc (suc k)) = refl
entry-difference (Half m) f h zero = omega (arith, ints)
entry-difference (Half m) f h (suc zero) = omega (arith, ints, minus_none m (f 0))
entry-difference (Half m) f h (suc (suc zero)) = omega (arith, ints, minus_none m (f 1))
entry-difference (Half m) f h (suc (suc (suc k))) = times_difference m (f (suc (suc k))) (h k)

image-difference : (image : List Term) (f h : Coefficients) (j k : ℕ)
    → image_times image (minus f (times_q (times_q h))) j k ≡ image_times image f j k -ℤ times_q (times_q (image_times image h j)) k
image-difference [] f h j zero = refl
image-difference [] f h j (suc zero) = refl
image-difference [] f h j (suc (suc k)) = refl
image-difference (term ∷ image) f h j k = go (term.place == j) k (image-difference image f h j)
  where
    go : (b : Bool) (k : ℕ)
        → ((i : ℕ) → image_times image (minus f (times_q (times_q h))) j i
        ≡ image_times image f j i -ℤ times_q (times_q (image_times image h j)) i)
        → (if b then plus (times_entry term.entry (minus f (times_q (times_q h)))) (image_times image (minus f (times_q (times_q h))) j)
        else image_times image (minus f (times_q (times_q h))) j) k
        ≡ (if b then plus (times_entry term.entry f) (image_times image f j) else image_times image f j) k
        -ℤ times_q (times_q (if b then plus (times_entry term.entry h) (image_times image h j) else image_times image h j)) k
    go true zero rest = omega (arith, ints, entry-difference term.entry f h zero, rest zero)
    go true (suc zero) rest = omega (arith, ints, entry-difference term.entry f h 1, rest 1)
    go true (suc (suc k)) rest = omega (arith, ints, entry-difference term.entry f h (suc (suc k)), rest (suc (suc k)))
    go false k rest = rest k

pub apply-difference : (images : ℕ → List Term) (n : ℕ) (f h : Vector) (j k : ℕ)
    → apply images n (λ i. minus (f i) (times_q (times_q (h i)))) j k
    ≡ apply images n f j k -ℤ times_q (times_q (apply images n h j)) k
apply-difference images zero f h j zero = refl
apply-difference images zero f h j (suc zero) = refl
apply-difference images zero f h j (suc (suc k)) = refl
apply-difference images (suc n) f h j zero =
    omega (arith, ints, apply-difference images n f h j zero, image-difference (images n) (f n) (h n) j zero)
apply-difference images (suc n) f h j (suc zero) =
    omega (arith, ints, apply-difference images n f h j 1, image-difference (images n) (f n) (h n) j 1)
apply-difference images (suc n) f h j (suc (suc k)) =
    omega (arith, ints, apply-difference images n f h j (suc (suc k)), image-difference (images n) (f n) (h n) j (suc (suc k)))

-- the relation as it is written
pub as_product : (images : ℕ → List Term) (n : ℕ) (h : Vector) (j k : ℕ)
    → ((i : ℕ) → plus (apply images n (apply images n h) j) (apply images n h j) i ≡ times_q (times_q (plus (apply images n h j) (h j))) i)
    → apply images n (λ i. minus (apply images n h i) (times_q (times_q (h i)))) j k
    +ℤ minus (apply images n h j) (times_q (times_q (h j))) k
    ≡ pos 0
as_product images n h j zero e = omega (arith, ints, e zero, apply-difference images n (apply images n h) h j zero)
as_product images n h j (suc zero) e = omega (arith, ints, e 1, apply-difference images n (apply images n h) h j 1)
as_product images n h j (suc (suc k)) e =
    omega (arith, ints, e (suc (suc k)), apply-difference images n (apply images n h) h j (suc (suc k)))
