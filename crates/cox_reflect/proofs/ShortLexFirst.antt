-- The ShortLex order: the list that is searched is sorted, so the normal form is the first word of its element, and the only such word.
use Rattle.std.proofs.Common.{◌≡◌, ℕ, zero, suc, ◌+◌, ◌≤◌, ◌<◌, Bool, true, false, List, [], ◌∷◌, ◌++◌, map, length, ◌⊎◌, inl}
use Rattle.std.proofs.Common.{inr, refl, ap, sym, ◌∙◌, ⊎_elim, arith, subst, Some, find, Less, Equal, Greater, nat_cmp, lt-ltb}
use Rattle.std.proofs.Common.{le-ltb, eq-eqb, ne_eqb}
use Rattle.std.proofs.lemmas.Bool.{cases_lt, cases_order}
use Rattle.std.specs.Cmp.Lexicographic.{slice_cmp}
use Rattle.std.specs.List.{range_with_len, flat_map}
use Rattle.cox_base.specs.Matrix.{IsWord}
use Rattle.cox_base.specs.IntegerMatrix.{IntegerMatrix}
use Rattle.cox_base.specs.Admissible.{IsAdmissible}
use Rattle.cox_base.specs.Element.{SameElement}
use Rattle.cox_base.specs.ShortLex.{letters, words_of_length, words_up_to, normal_form, shortlex_cmp}
use Rattle.cox_reflect.proofs.Lengths.{word_length-is}
use Rattle.cox_reflect.proofs.Positivity.{IsWord-reduced}
use Rattle.cox_reflect.proofs.Search.{word_length-equal, word_length-length, Each-words_of_length, Each-words_up_to}
use Rattle.cox_reflect.proofs.Search.{In-words_up_to, test_of, same-passes, found, normal_form-first, normal_form-same}
use Rattle.cox_reflect.proofs.Search.{length-normal_form}
use Rattle.cox_reflect.proofs.Members.{In, here, there, Each, none, more, Each-append, Each-from, Each-flat_map, Each-map}
use Rattle.cox_reflect.proofs.Members.{Each-weaker, Each-range, Each-in}

-- ---- the order

-- v comes before w: it is shorter, or it is as long and comes before it letter by letter
pub data IsBefore (v w : List ℕ) : Type 0 where
  by_length : length v < length w → IsBefore v w
  by_letters : length v ≡ length w → slice_cmp nat_cmp v w ≡ Less → IsBefore v w

nat_cmp-less : (s t : ℕ) → s < t → nat_cmp s t ≡ Less
nat_cmp-less s t l = rw (lt-ltb s t l)

nat_cmp-self : (s : ℕ) → nat_cmp s s ≡ Equal
nat_cmp-self s = rw (le-ltb s s (omega arith), eq-eqb s s refl)

nat_cmp-greater : (s t : ℕ) → t < s → nat_cmp s t ≡ Greater
nat_cmp-greater s t l = rw (le-ltb s t (omega arith), ne_eqb s t (λ e. omega arith))

slice_cmp-head : (s t : ℕ) (v w : List ℕ) → s < t → slice_cmp nat_cmp (s ∷ v) (t ∷ w) ≡ Less
slice_cmp-head s t v w l = rw (nat_cmp-less s t l)

slice_cmp-greater : (s t : ℕ) (v w : List ℕ) → t < s → slice_cmp nat_cmp (s ∷ v) (t ∷ w) ≡ Greater
slice_cmp-greater s t v w l = rw (nat_cmp-greater s t l)

clash : (s t : ℕ) (v w : List ℕ) → slice_cmp nat_cmp (t ∷ w) (s ∷ v) ≡ Less → s < t → ⊥
clash s t v w f l = let greater = slice_cmp-greater t s w v l in cc

slice_cmp-tail : (s : ℕ) (v w : List ℕ) → slice_cmp nat_cmp (s ∷ v) (s ∷ w) ≡ slice_cmp nat_cmp v w
slice_cmp-tail s v w = rw (nat_cmp-self s)

-- two words are equal, or one comes before the other
letters_cases : (v w : List ℕ) → (v ≡ w) ⊎ ((slice_cmp nat_cmp v w ≡ Less) ⊎ (slice_cmp nat_cmp w v ≡ Less))
letters_cases [] [] = inl refl
letters_cases [] (t ∷ w) = inr (inl refl)
letters_cases (s ∷ v) [] = inr (inr refl)
letters_cases (s ∷ v) (t ∷ w) = ⊎_elim (same (letters_cases v w)) apart (cases_order s t)
  where
    same : (v ≡ w) ⊎ ((slice_cmp nat_cmp v w ≡ Less) ⊎ (slice_cmp nat_cmp w v ≡ Less)) → s ≡ t
        → (s ∷ v ≡ t ∷ w) ⊎ ((slice_cmp nat_cmp (s ∷ v) (t ∷ w) ≡ Less) ⊎ (slice_cmp nat_cmp (t ∷ w) (s ∷ v) ≡ Less))
    same rest e =
        rw (e, slice_cmp-tail t v w, slice_cmp-tail t w v) (⊎_elim (λ f. inl (ap (λ (x : List ℕ). t ∷ x) f)) (λ f. inr f) rest)

    apart : (s < t) ⊎ (t < s)
        → (s ∷ v ≡ t ∷ w) ⊎ ((slice_cmp nat_cmp (s ∷ v) (t ∷ w) ≡ Less) ⊎ (slice_cmp nat_cmp (t ∷ w) (s ∷ v) ≡ Less))
    apart side = ⊎_elim (λ l. inr (inl (slice_cmp-head s t v w l))) (λ l. inr (inr (slice_cmp-head t s w v l))) side

-- the order has no circles
letters-asym : (v w : List ℕ) → slice_cmp nat_cmp v w ≡ Less → slice_cmp nat_cmp w v ≡ Less → ⊥
letters-asym [] [] e f = cc
letters-asym [] (t ∷ w) e f = cc
letters-asym (s ∷ v) [] e f = cc
letters-asym (s ∷ v) (t ∷ w) e f =
    ⊎_elim (same (letters-asym v w)) (⊎_elim (clash s t v w f) (clash t s w v e)) (cases_order s t)
  where
    same : (slice_cmp nat_cmp v w ≡ Less → slice_cmp nat_cmp w v ≡ Less → ⊥) → s ≡ t → ⊥
    same rest q = rest (sym (slice_cmp-tail t v w) ∙ (rw q at e)) (sym (slice_cmp-tail t w v) ∙ (rw q at f))

pub before_cases : (v w : List ℕ) → (v ≡ w) ⊎ (IsBefore v w ⊎ IsBefore w v)
before_cases v w =
    ⊎_elim (λ l. inr (inl (by_length l)))
    (λ k. ⊎_elim (λ l. inr (inr (by_length l))) (λ l. as_long (omega arith)) (cases_lt (length w) (length v)))
    (cases_lt (length v) (length w))
  where
    as_long : length v ≡ length w → (v ≡ w) ⊎ (IsBefore v w ⊎ IsBefore w v)
    as_long e =
        ⊎_elim (λ q. inl q) (λ side. inr (⊎_elim (λ l. inl (by_letters e l)) (λ l. inr (by_letters (sym e) l)) side)) (letters_cases v w)

pub IsBefore-asym : {v w : List ℕ} → IsBefore v w → IsBefore w v → ⊥
IsBefore-asym (by_length l) (by_length k) = omega arith
IsBefore-asym (by_length l) (by_letters k e) = omega arith
IsBefore-asym (by_letters l e) (by_length k) = omega arith
IsBefore-asym {v} {w} (by_letters l e) (by_letters k f) = letters-asym v w e f

pub IsBefore-irrefl : {v : List ℕ} → IsBefore v v → ⊥
IsBefore-irrefl b = IsBefore-asym b b

pub IsBefore-cons : (s : ℕ) {v w : List ℕ} → IsBefore v w → IsBefore (s ∷ v) (s ∷ w)
IsBefore-cons s (by_length l) = by_length (omega arith)
IsBefore-cons s {v} {w} (by_letters l e) = by_letters (ap suc l) (slice_cmp-tail s v w ∙ e)

pub IsBefore-head : (s t : ℕ) (v w : List ℕ) → length v ≡ length w → s < t → IsBefore (s ∷ v) (t ∷ w)
IsBefore-head s t v w e l = by_letters (ap suc e) (slice_cmp-head s t v w l)

pub length-before : {v w : List ℕ} → IsBefore v w → length v ≤ length w
length-before (by_length l) = omega arith
length-before (by_letters l e) = omega arith

-- that is what the comparison says
pub before-shortlex_cmp : {v w : List ℕ} → IsBefore v w → shortlex_cmp v w ≡ Less
before-shortlex_cmp {v} {w} (by_length l) = rw (nat_cmp-less (length v) (length w) l)
before-shortlex_cmp {v} {w} (by_letters l e) = rw (l, nat_cmp-self (length w)) e

pub shortlex_cmp-before : (v w : List ℕ) → shortlex_cmp v w ≡ Less → IsBefore v w
shortlex_cmp-before v w e = ⊎_elim equal (⊎_elim by_length greater) (cases_order (length v) (length w))
  where
    equal : length v ≡ length w → IsBefore v w
    equal l = by_letters l (rw (l, nat_cmp-self (length w)) at e)

    greater : length w < length v → IsBefore v w
    greater l = let f = rw (nat_cmp-greater (length v) (length w) l) at e in absurd (cc)

-- ---- the list that is searched is sorted

-- each element comes before those that follow it
data Sorted {X : Type 0} (R : X → X → Type 0) : List X → Type 0 where
  sorted_none : Sorted R []
  sorted_more : {x : X} {xs : List X} → Each (R x) xs → Sorted R xs → Sorted R (x ∷ xs)

Sorted-append : {X : Type 0} {R : X → X → Type 0} {xs ys : List X} → Sorted R xs → Sorted R ys
    → Each (λ x. Each (R x) ys) xs → Sorted R (xs ++ ys)
Sorted-append sorted_none b across = b
Sorted-append (sorted_more h a) b (more k across) = sorted_more (Each-append h k) (Sorted-append a b across)

Sorted-map : {X Y : Type 0} (R : Y → Y → Type 0) (f : X → Y) {xs : List X} → Sorted (λ x y. R (f x) (f y)) xs
    → Sorted R (map f xs)
Sorted-map R f sorted_none = sorted_none
Sorted-map R f (sorted_more {x = x} h a) = sorted_more (Each-map (R (f x)) f h) (Sorted-map R f a)

Sorted-weaker : {X : Type 0} {R S : X → X → Type 0} {xs : List X} → ((x y : X) → R x y → S x y) → Sorted R xs
    → Sorted S xs
Sorted-weaker h sorted_none = sorted_none
Sorted-weaker h (sorted_more {x = x} k a) = sorted_more (Each-weaker (λ y. h x y) k) (Sorted-weaker h a)

-- the pieces are sorted, and each comes before those that follow it
Sorted-flat_map : {X Y : Type 0} (R : Y → Y → Type 0) (f : X → List Y) {xs : List X} → Each (λ x. Sorted R (f x)) xs
    → Sorted (λ x y. Each (λ p. Each (R p) (f y)) (f x)) xs
    → Sorted R (flat_map f xs)
Sorted-flat_map R f none sorted_none = sorted_none
Sorted-flat_map R f (more {x = x} {xs = xs} h a) (sorted_more k b) =
    Sorted-append h (Sorted-flat_map R f a b)
    (Each-from (f x) (λ p i. Each-flat_map (R p) f (Each-from xs (λ y j. Each-in (Each-in k j) i))))

Sorted-range : (a n : ℕ) → Sorted (λ s t. s < t) (range_with_len a n)
Sorted-range a zero = sorted_none
Sorted-range a (suc n) =
    sorted_more (Each-weaker (λ s h. omega (arith, h)) (Each-range (a + 1) n)) (Sorted-range (a + 1) n)

Sorted-words_of_length : (n k : ℕ) → Sorted IsBefore (words_of_length n k)
unfolding words_of_length letters
Sorted-words_of_length n zero = sorted_more none sorted_none
Sorted-words_of_length n (suc k) =
    Sorted-flat_map IsBefore (λ s. map (λ w. s ∷ w) (words_of_length n k))
    (Each-from (letters n) (λ s i. Sorted-map IsBefore (λ w. s ∷ w)
    (Sorted-weaker (λ v w b. IsBefore-cons s b) (Sorted-words_of_length n k))))
    (Sorted-weaker
    (λ s t l. Each-map (λ p. Each (IsBefore p) (map (λ w. t ∷ w) (words_of_length n k))) (λ w. s ∷ w)
    (Each-weaker (λ v e. Each-map (IsBefore (s ∷ v)) (λ w. t ∷ w)
    (Each-weaker (λ w f. IsBefore-head s t v w (e.0 ∙ sym f.0) l) (Each-words_of_length n k)))
    (Each-words_of_length n k)))
    (Sorted-range 1 n))

Sorted-words_up_to : (n k : ℕ) → Sorted IsBefore (words_up_to n k)
unfolding words_up_to
Sorted-words_up_to n zero = Sorted-words_of_length n zero
Sorted-words_up_to n (suc k) =
    Sorted-append (Sorted-words_up_to n k) (Sorted-words_of_length n (suc k))
    (Each-weaker (λ v h. Each-weaker (λ w e. by_length (omega (arith, h.size, e.0))) (Each-words_of_length n (suc k)))
    (Each-words_up_to n k))

-- what is found is the first that passes
find-first : {X : Type 0} (R : X → X → Type 0) (p : X → Bool) {w : X} {xs : List X} (x : X) → Sorted R xs → In w xs
    → p w ≡ true → find p xs ≡ Some x → (x ≡ w) ⊎ R x w
find-first R p x sorted_none i t e = elim i [ ]
find-first R p {w} x (sorted_more h a) here t e = let f = rw t at e in inl (cc)
find-first R p {w} x (sorted_more {x = y} {xs = xs} h a) (there j) t e = go (p y) refl (find-first R p x a j t)
  where
    go : (b : Bool) → p y ≡ b → (find p xs ≡ Some x → (x ≡ w) ⊎ R x w) → (x ≡ w) ⊎ R x w
    go true q rest = let f = rw q at e in let same : y ≡ x = cc in inr (subst (λ z. R z w) same (Each-in h j))
    go false q rest = rest (rw q at e)

module _ (A : IntegerMatrix) (g : IsAdmissible A) where
  -- a word that is as short as the normal form is reduced, so it is over the letters of the rank
  short-word : {w u : List ℕ} → SameElement A w u → length w ≤ length (normal_form A u) → IsWord A.rank w
  short-word {w} {u} e l =
      IsWord-reduced A g w (omega (arith, l, word_length-is A u, word_length-equal A g e, word_length-length A g w))

  -- the normal form is the first word of its element
  pub normal_form-comes_first : {w u : List ℕ} → SameElement A w u
      → (normal_form A u ≡ w) ⊎ IsBefore (normal_form A u) w
  unfolding test_of
  normal_form-comes_first {w} {u} e =
      ⊎_elim (λ l. inr (by_length l)) short (cases_lt (length (normal_form A u)) (length w))
    where
      short : length w ≤ length (normal_form A u) → (normal_form A u ≡ w) ⊎ IsBefore (normal_form A u) w
      short l =
          let f = found A g u
          in rw (normal_form-first A g u f)
          (find-first IsBefore (test_of A u) f.first (Sorted-words_up_to A.rank (length u))
          (In-words_up_to A.rank (length u) w (short-word e l) (omega (arith, l, length-normal_form A g u))) (same-passes A w u e) f.is)

  pub none-before_normal_form : {w u : List ℕ} → SameElement A w u → IsBefore w (normal_form A u) → ⊥
  none-before_normal_form {w} {u} e b =
      ⊎_elim (λ (q : normal_form A u ≡ w). IsBefore-irrefl (rw q at b)) (λ c. IsBefore-asym b c) (normal_form-comes_first e)

  -- no other word has that property
  pub normal_form-unique : {w u : List ℕ} → SameElement A w u → ((v : List ℕ) → SameElement A v u → IsBefore v w → ⊥)
      → w ≡ normal_form A u
  normal_form-unique {w} {u} e first =
      ⊎_elim (λ q. sym q) (λ b. absurd (first (normal_form A u) (normal_form-same A g u) b)) (normal_form-comes_first e)

  -- ---- by the comparison

  pub none-less : (u v : List ℕ) → SameElement A v u → shortlex_cmp v (normal_form A u) ≡ Less → ⊥
  none-less u v e c = none-before_normal_form e (shortlex_cmp-before v (normal_form A u) c)

  pub only-least : (u w : List ℕ) → SameElement A w u → ((v : List ℕ) → SameElement A v u → shortlex_cmp v w ≡ Less → ⊥)
      → w ≡ normal_form A u
  only-least u w e first = normal_form-unique e (λ v f b. first v f (before-shortlex_cmp b))
