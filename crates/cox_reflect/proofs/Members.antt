-- What is in a list, what holds of each of its elements, and what `find` finds.
use Rattle.std.proofs.Common.{◌≡◌, ℕ, zero, suc, ◌+◌, ◌≤◌, ◌<◌, Bool, true, false, List, [], ◌∷◌, ◌++◌, map, refl, ⊎_elim, arith}
use Rattle.std.proofs.Common.{subst, Some, find}
use Rattle.std.proofs.lemmas.Bool.{cases_eq}
use Rattle.std.proofs.lemmas.List.Folds.{find-append}
use Rattle.std.specs.List.{range_with_len, flat_map}

-- x is one of the elements
pub data In {X : Type 0} (x : X) : List X → Type 0 where
  here : {xs : List X} → In x (x ∷ xs)
  there : {y : X} {xs : List X} → In x xs → In x (y ∷ xs)

-- P holds of each element
pub data Each {X : Type 0} (P : X → Type 0) : List X → Type 0 where
  none : Each P []
  more : {x : X} {xs : List X} → P x → Each P xs → Each P (x ∷ xs)

pub In-append_left : {X : Type 0} {x : X} {xs : List X} (ys : List X) → In x xs → In x (xs ++ ys)
In-append_left ys here = here
In-append_left ys (there i) = there (In-append_left ys i)

pub In-append_right : {X : Type 0} {x : X} (xs : List X) {ys : List X} → In x ys → In x (xs ++ ys)
In-append_right [] i = i
In-append_right (y ∷ xs) i = there (In-append_right xs i)

pub In-map : {X Y : Type 0} (f : X → Y) {x : X} {xs : List X} → In x xs → In (f x) (map f xs)
In-map f here = here
In-map f (there i) = there (In-map f i)

pub In-flat_map : {X Y : Type 0} (f : X → List Y) {x : X} {y : Y} {xs : List X} → In x xs → In y (f x)
    → In y (flat_map f xs)
In-flat_map f (here {xs = xs}) j = In-append_left (flat_map f xs) j
In-flat_map f (there {y = z} i) j = In-append_right (f z) (In-flat_map f i j)

pub In-range : (a n s : ℕ) → a ≤ s → s < a + n → In s (range_with_len a n)
In-range a zero s l h = absurd (omega arith)
In-range a (suc n) s l h = ⊎_elim first (later (In-range (a + 1) n s)) (cases_eq s a)
  where
    first : s ≡ a → In s (a ∷ range_with_len (a + 1) n)
    first e = subst (λ (x : ℕ). In s (x ∷ range_with_len (a + 1) n)) e here

    later : (a + 1 ≤ s → s < a + 1 + n → In s (range_with_len (a + 1) n)) → (s ≡ a → ⊥)
        → In s (a ∷ range_with_len (a + 1) n)
    later rest ne = there (rest (omega arith) (omega arith))

pub Each-append : {X : Type 0} {P : X → Type 0} {xs ys : List X} → Each P xs → Each P ys → Each P (xs ++ ys)
Each-append none b = b
Each-append (more p a) b = more p (Each-append a b)

pub Each-map : {X Y : Type 0} (P : Y → Type 0) (f : X → Y) {xs : List X} → Each (λ x. P (f x)) xs → Each P (map f xs)
Each-map P f none = none
Each-map P f (more p a) = more p (Each-map P f a)

pub Each-flat_map : {X Y : Type 0} (P : Y → Type 0) (f : X → List Y) {xs : List X} → Each (λ x. Each P (f x)) xs
    → Each P (flat_map f xs)
Each-flat_map P f none = none
Each-flat_map P f (more p a) = Each-append p (Each-flat_map P f a)

pub Each-weaker : {X : Type 0} {P Q : X → Type 0} {xs : List X} → ((x : X) → P x → Q x) → Each P xs → Each Q xs
Each-weaker h none = none
Each-weaker h (more {x = x} p a) = more (h x p) (Each-weaker h a)

pub Each-range : (a n : ℕ) → Each (λ s. (a ≤ s) × (s < a + n)) (range_with_len a n)
Each-range a zero = none
Each-range a (suc n) =
    more (omega arith, omega arith) (Each-weaker (λ s h. (omega (arith, h), omega (arith, h))) (Each-range (a + 1) n))

pub Each-in : {X : Type 0} {P : X → Type 0} {x : X} {xs : List X} → Each P xs → In x xs → P x
Each-in none i = elim i [ ]
Each-in (more p a) here = p
Each-in (more p a) (there i) = Each-in a i

pub Each-from : {X : Type 0} {P : X → Type 0} (xs : List X) → ((x : X) → In x xs → P x) → Each P xs
Each-from [] h = none
Each-from (x ∷ xs) h = more (h x here) (Each-from xs (λ y i. h y (there i)))

-- ---- find

pub find-in : {X : Type 0} (p : X → Bool) {x : X} {xs : List X} → In x xs → p x ≡ true → (y : X) × (find p xs ≡ Some y)
find-in p {x} (here {xs = xs}) t = (x, rw t)
find-in {X = X} p (there {y = y} {xs = xs} i) t = go (p y) refl (find-in p i t)
  where
    go : (b : Bool) → p y ≡ b → (z : X) × (find p xs ≡ Some z) → (z : X) × (find p (y ∷ xs) ≡ Some z)
    go true q rest = (y, rw q)
    go false q rest = (rest.0, rw q rest.1)

pub Each-find : {X : Type 0} {P : X → Type 0} (p : X → Bool) {xs : List X} (x : X) → Each P xs → find p xs ≡ Some x
    → P x
Each-find p x none e = absurd (cc)
Each-find {P = P} p x (more {x = y} {xs = xs} h a) e = go (p y) refl (Each-find p x a)
  where
    go : (b : Bool) → p y ≡ b → (find p xs ≡ Some x → P x) → P x
    go true q rest = let f = rw q at e in let same : y ≡ x = cc in subst P same h
    go false q rest = rest (rw q at e)

-- what is found in a prefix is found in the whole
pub find-prefix : {X : Type 0} (p : X → Bool) (xs ys : List X) (x : X) → find p xs ≡ Some x → find p (xs ++ ys) ≡ Some x
find-prefix p xs ys x e = rw (find-append p xs ys, e)
