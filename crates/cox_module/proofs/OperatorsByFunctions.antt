-- Operators on the free module against linear functions: f(t h) is (f t)(h).
use Rattle.std.proofs.Common.{◌≡◌, ℕ, zero, suc, ◌≤◌, ◌<◌, Bool, true, false, if◌then◌else◌, List, [], ◌∷◌, ℤ, pos, ◌+ℤ◌, refl, ap, ap₂}
use Rattle.std.proofs.Common.{sym, ◌∙◌, arith}
use Rattle.std.specs.Prelude.{◌==◌, All}
use Rattle.std.proofs.lemmas.Int.{ints}
use Rattle.std.proofs.lemmas.Bool.Decides.{nat_tests}
use Rattle.std.proofs.lemmas.List.Elements.{All-nil, All-cons, All-head, All-tail}
use Rattle.cox_base.specs.Matrix.{IsLetter, IsWord}
use Rattle.cox_poly.specs.Coefficients.{Coefficients, zero_polynomial, one_polynomial, plus, times_q}
use Rattle.cox_poly.specs.Products.{product}
use Rattle.cox_poly.specs.Multiples.{scaled}
use Rattle.cox_poly.proofs.Products.{product-plus, plus-product, negated-product, scaled-product, times_q-product, zero-product}
use Rattle.cox_poly.proofs.Products.{product-one, product-zero}
use Rattle.cox_module.specs.declared.term.Term.{Term}
use Rattle.cox_module.specs.declared.term.Entry.{Entry}
use Rattle.cox_module.specs.declared.term.Entry.TheVariants.{Minus, Square, Half}
use Rattle.cox_module.specs.FreeModule.{Vector, times_entry, image_times, apply, apply_word}
use Rattle.cox_module.proofs.LinearFunctions.{value_at, value_word, pair, coordinate}
use Rattle.cox_module.proofs.LinearOperators.{IsLinear, product-linear, times_q-linear, joined-linear}

-- an entry passes a product
entry-product : (e : Entry) (c f : Coefficients) → product (times_entry e c) f ≡ product c (times_entry e f)
entry-product Minus c f = (λ i k. negated-product c f k i) ∙ sym ((product-linear c).of_negated f)
entry-product Square c f =
    (λ i k. times_q-product (times_q c) f k i) ∙ ap times_q (λ i k. times_q-product c f k i)
    ∙ sym ((product-linear c).of_times_q (times_q f) ∙ ap times_q ((product-linear c).of_times_q f))
entry-product (Half m) c f =
    (λ i k. scaled-product m (times_q c) f k i) ∙ ap (scaled m) (λ i k. times_q-product c f k i)
    ∙ sym ((product-linear c).of_scaled m (times_q f) ∙ ap (scaled m) ((product-linear c).of_times_q f))

-- sums of pairs
pair-plus : (n : ℕ) (h j f : Vector) (k : ℕ) → pair n (λ i. plus (h i) (j i)) f k ≡ pair n h f k +ℤ pair n j f k
pair-plus zero h j f k = refl
pair-plus (suc n) h j f k = omega (arith, ints, pair-plus n h j f k, plus-product (h n) (j n) (f n) k)

pair-none : (n : ℕ) (h f : Vector) (k : ℕ) → ((i : ℕ) → i < n → product (h i) (f i) k ≡ pos 0) → pair n h f k ≡ pos 0
pair-none zero h f k none = refl
pair-none (suc n) h f k none = omega (arith, ints, pair-none n h f k (λ i l. none i (omega (arith, l))), none n (omega arith))

pub pair-equal : (n : ℕ) (h f j : Vector) → ((i : ℕ) → i < n → f i ≡ j i) → pair n h f ≡ pair n h j
pair-equal zero h f j e = refl
pair-equal (suc n) h f j e =
    ap₂ (λ (a b : Coefficients). plus a b) (pair-equal n h f j (λ i l. e i (omega (arith, l)))) (ap (product (h n)) (e n (omega arith)))

pub pair-linear : {T : Coefficients → Coefficients} → IsLinear T → ((c f : Coefficients) → product c (T f) ≡ T (product c f))
    → (n : ℕ) (h f : Vector) → pair n h (λ k. T (f k)) ≡ T (pair n h f)
pair-linear t passes zero h f = sym t.of_none
pair-linear {T} t passes (suc n) h f =
    ap₂ (λ (a b : Coefficients). plus a b) (pair-linear t passes n h f) (passes (h n) (f n))
    ∙ sym (t.of_plus (pair n h f) (product (h n) (f n)))

-- one element alone
alone : ℕ → Coefficients → Vector
alone j c i = if j == i then c else zero_polynomial

pair-alone : (n j : ℕ) (c : Coefficients) (f : Vector) (k : ℕ) → j < n → pair n (alone j c) f k ≡ product c (f j) k
unfolding alone
pair-alone zero j c f k l = absurd (omega (arith, l))
pair-alone (suc n) j c f k l = go (j == n) refl (λ m. pair-alone n j c f k m)
  where
    before : (j == n) ≡ true → pair n (alone j c) f k ≡ pos 0
    before e = pair-none n (alone j c) f k (λ i m.
        let same : j ≡ n = grind (arith, nat_tests)
        in let other : (j == i) ≡ false = grind (arith, nat_tests)
        in rw other (zero-product (f i) k))

    go : (b : Bool) → (j == n) ≡ b → (j < n → pair n (alone j c) f k ≡ product c (f j) k)
        → pair n (alone j c) f k +ℤ product (if j == n then c else zero_polynomial) (f n) k ≡ product c (f j) k
    go true e rest =
        let same : j ≡ n = grind (arith, nat_tests)
        in let last : product c (f n) k ≡ product c (f j) k = ap (λ (i : ℕ). product c (f i) k) (sym same)
        in rw e (omega (arith, ints, before e, last))
    go false e rest =
        let less : j < n = grind (arith, nat_tests) in rw e (omega (arith, ints, rest less, zero-product (f n) k))

one_term : (term : Term) (image : List Term) (c : Coefficients)
    → image_times (term ∷ image) c ≡ (λ j. plus (alone term.place (times_entry term.entry c) j) (image_times image c j))
unfolding alone
one_term term image c = λ i j. at j (term.place == j) i
  where
    none : (f : Coefficients) → f ≡ plus zero_polynomial f
    none f = λ i k. zero_plus (f k) i
      where
        zero_plus : (a : ℤ) → a ≡ pos 0 +ℤ a
        zero_plus a = omega (arith, ints)

    at : (j : ℕ) (b : Bool) → (if b then plus (times_entry term.entry c) (image_times image c j) else image_times image c j)
        ≡ plus (if b then times_entry term.entry c else zero_polynomial) (image_times image c j)
    at j true = refl
    at j false = none (image_times image c j)

-- f times an image
pair-image : (n : ℕ) (image : List Term) (c : Coefficients) (f : Vector) (k : ℕ) → All (λ (t : Term). t.place < n) image
    → pair n (image_times image c) f k ≡ product c (value_at f image) k
pair-image n [] c f k within = pair-none n (image_times [] c) f k (λ i l. zero-product (f i) k) ∙ sym (product-zero c k)
pair-image n (term ∷ image) c f k within =
    ap (λ (h : Vector). pair n h f k) (one_term term image c)
    ∙ pair-plus n (alone term.place (times_entry term.entry c)) (image_times image c) f k
    ∙ ap₂ (λ (a b : ℤ). a +ℤ b)
    (pair-alone n term.place (times_entry term.entry c) f k (All-head (λ (t : Term). t.place < n) term image within)
    ∙ ap (λ (p : Coefficients). p k) (entry-product term.entry c (f term.place)))
    (pair-image n image c f k (All-tail (λ (t : Term). t.place < n) term image within))
    ∙ sym (product-plus c (times_entry term.entry (f term.place)) (value_at f image) k)

-- an operator
pair-apply : (n m : ℕ) (images : ℕ → List Term) (h f : Vector) (k : ℕ)
    → ((i : ℕ) → i < m → All (λ (t : Term). t.place < n) (images i))
    → pair n (apply images m h) f k ≡ pair m h (λ i. value_at f (images i)) k
pair-apply n zero images h f k within = pair-none n (apply images 0 h) f k (λ i l. zero-product (f i) k)
pair-apply n (suc m) images h f k within =
    pair-plus n (apply images m h) (image_times (images m) (h m)) f k
    ∙ ap₂ (λ (a b : ℤ). a +ℤ b) (pair-apply n m images h f k (λ i l. within i (omega (arith, l))))
    (pair-image n (images m) (h m) f k (within m (omega arith)))

module _ (images : ℕ → ℕ → List Term) (n rank : ℕ)
    (within : (s i : ℕ) → IsLetter rank s → i < n → All (λ (t : Term). t.place < n) (images s i)) where
  pair-word : (u : List ℕ) → IsWord rank u → (h f : Vector) → pair n (apply_word images n u h) f ≡ pair n h (value_word images u f)
  pair-word [] w h f = refl
  pair-word (s ∷ u) w h f =
      (λ i k. pair-apply n n (images s) (apply_word images n u h) f k (λ j l. within s j (All-head (IsLetter rank) s u w) l) i)
      ∙ pair-word u (All-tail (IsLetter rank) s u w) h (λ k. value_at f (images s k))

  pair-coordinate : (h : Vector) (j : ℕ) → j < n → pair n h (coordinate j) ≡ h j
  pair-coordinate h j l = λ i k. at n l k i
    where
      none : (m : ℕ) (k : ℕ) → m ≤ j → pair m h (coordinate j) k ≡ pos 0
      none zero k l = refl
      none (suc m) k l = let other : (m == j) ≡ false = grind (arith, nat_tests)
          in rw other (omega (arith, ints, none m k (omega (arith, l)), product-zero (h m) k))

      at : (m : ℕ) → j < m → (k : ℕ) → pair m h (coordinate j) k ≡ h j k
      at zero l k = absurd (omega (arith, l))
      at (suc m) l k = go (m == j) refl (λ less. at m less k)
        where
          go : (b : Bool) → (m == j) ≡ b → (j < m → pair m h (coordinate j) k ≡ h j k)
              → pair m h (coordinate j) k +ℤ product (h m) (if m == j then one_polynomial else zero_polynomial) k ≡ h j k
          go true e rest =
              let same : m ≡ j = grind (arith, nat_tests)
              in let last : h m k ≡ h j k = ap (λ (i : ℕ). h i k) same
              in rw e (omega (arith, ints, none m k (omega (arith, same)), product-one (h m) k, last))
          go false e rest =
              let less : j < m = grind (arith, nat_tests) in rw e (omega (arith, ints, rest less, product-zero (h m) k))

  -- two words that are equal for all linear functions are equal as operators
  pub equal-operators : (u v : List ℕ) → IsWord rank u → IsWord rank v
      → ((f : Vector) (i : ℕ) → i < n → value_word images u f i ≡ value_word images v f i)
      → (h : Vector) (j : ℕ) → j < n → apply_word images n u h j ≡ apply_word images n v h j
  equal-operators u v wu wv same h j l =
      sym (pair-coordinate (apply_word images n u h) j l)
      ∙ pair-word u wu h (coordinate j)
      ∙ pair-equal n h (value_word images u (coordinate j)) (value_word images v (coordinate j)) (λ i m. same (coordinate j) i m)
      ∙ sym (pair-word v wv h (coordinate j))
      ∙ pair-coordinate (apply_word images n v h) j l

  -- (t(s) + 1)(t(s) - v^2) = 0, likewise
  pub quadratic-operators : (s : ℕ) → IsLetter rank s
      → ((f : Vector) (i : ℕ) → i < n
      → plus (value_word images (s ∷ s ∷ []) f i) (value_word images (s ∷ []) f i)
      ≡ times_q (times_q (plus (value_word images (s ∷ []) f i) (f i))))
      → (h : Vector) (j : ℕ) → j < n
      → plus (apply_word images n (s ∷ s ∷ []) h j) (apply_word images n (s ∷ []) h j)
      ≡ times_q (times_q (plus (apply_word images n (s ∷ []) h j) (h j)))
  quadratic-operators s letter same h j l =
      ap₂ (λ (a b : Coefficients). plus a b) (back (s ∷ s ∷ []) two) (back (s ∷ []) one)
      ∙ sums (value_word images (s ∷ s ∷ []) (coordinate j)) (value_word images (s ∷ []) (coordinate j))
      ∙ pair-equal n h (λ i. plus (value_word images (s ∷ s ∷ []) (coordinate j) i) (value_word images (s ∷ []) (coordinate j) i))
      (λ i. times_q (times_q (plus (value_word images (s ∷ []) (coordinate j) i) (coordinate j i))))
      (λ i m. same (coordinate j) i m)
      ∙ pair-linear squared (λ c f. (product-linear c).of_times_q (times_q f) ∙ ap times_q ((product-linear c).of_times_q f)) n h
      (λ i. plus (value_word images (s ∷ []) (coordinate j) i) (coordinate j i))
      ∙ ap (λ (c : Coefficients). times_q (times_q c))
      (sym (sums (value_word images (s ∷ []) (coordinate j)) (coordinate j))
      ∙ ap₂ (λ (a b : Coefficients). plus a b) (sym (back (s ∷ []) one)) (pair-coordinate h j l))
    where
      squared : IsLinear (λ c. times_q (times_q c))
      squared = joined-linear {T = times_q} {U = times_q} times_q-linear times_q-linear

      one : IsWord rank (s ∷ [])
      one = All-cons (IsLetter rank) s [] letter (All-nil (IsLetter rank))

      two : IsWord rank (s ∷ s ∷ [])
      two = All-cons (IsLetter rank) s (s ∷ []) letter one

      back : (u : List ℕ) → IsWord rank u → apply_word images n u h j ≡ pair n h (value_word images u (coordinate j))
      back u w = sym (pair-coordinate (apply_word images n u h) j l) ∙ pair-word u w h (coordinate j)

      sums : (f f' : Vector) → plus (pair n h f) (pair n h f') ≡ pair n h (λ i. plus (f i) (f' i))
      sums f f' = λ i k. go n k i
        where
          go : (m k : ℕ) → pair m h f k +ℤ pair m h f' k ≡ pair m h (λ i. plus (f i) (f' i)) k
          go zero k = refl
          go (suc m) k = omega (arith, ints, go m k, product-plus (h m) (f m) (f' m) k)
