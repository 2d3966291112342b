-- Words over the letters of the rank, and subwords.
use Rattle.std.proofs.Common.{◌≡◌, ℕ, List, [], ◌∷◌, ◌++◌, reverse}
use Rattle.std.proofs.lemmas.List.{append-nil, reverse-append}
use mathlib.Core.List.{reverse-cons}
use Rattle.std.proofs.lemmas.List.Elements.{All-nil, All-cons, All-head, All-tail, All-append}
use Rattle.cox_base.specs.Matrix.{IsLetter, IsWord}
use Rattle.cox_base.specs.Bruhat.{IsSubword, none, kept, left_out}
use Rattle.cox_reflect.specs.DerivedWords.{IsWithoutOne, this_one, later_one}

pub IsWord-single : {n s : ℕ} → IsLetter n s → IsWord n (s ∷ [])
IsWord-single {n} {s} l = All-cons (IsLetter n) s [] l (All-nil (IsLetter n))

pub IsWord-append : {n : ℕ} (u v : List ℕ) → IsWord n u → IsWord n v → IsWord n (u ++ v)
IsWord-append {n} u v h k = All-append (IsLetter n) u v h k

pub IsWord-prefix : {n : ℕ} (u v : List ℕ) → IsWord n (u ++ v) → IsWord n u
IsWord-prefix {n} [] v h = All-nil (IsLetter n)
IsWord-prefix {n} (s ∷ u) v h =
    All-cons (IsLetter n) s u (All-head (IsLetter n) s (u ++ v) h) (IsWord-prefix u v (All-tail (IsLetter n) s (u ++ v) h))

pub IsWord-back : {n : ℕ} (u v : List ℕ) → IsWord n (u ++ v) → IsWord n v
IsWord-back [] v h = h
IsWord-back {n} (s ∷ u) v h = IsWord-back u v (All-tail (IsLetter n) s (u ++ v) h)

pub IsWord-reverse : {n : ℕ} (u : List ℕ) → IsWord n u → IsWord n (reverse u)
IsWord-reverse [] h = h
IsWord-reverse {n} (s ∷ u) h =
    rw (reverse-cons s u) (IsWord-append (reverse u) (s ∷ []) (IsWord-reverse u (All-tail (IsLetter n) s u h))
    (IsWord-single (All-head (IsLetter n) s u h)))

-- the reversed word of a word with a letter behind it
pub reverse-push : (u : List ℕ) (s : ℕ) → reverse (u ++ s ∷ []) ≡ s ∷ reverse u
reverse-push u s = reverse-append u (s ∷ [])

-- ---- subwords

pub IsSubword-refl : (w : List ℕ) → IsSubword w w
IsSubword-refl [] = none
IsSubword-refl (s ∷ w) = kept (IsSubword-refl w)

pub IsSubword-nil : (w : List ℕ) → IsSubword [] w
IsSubword-nil [] = none
IsSubword-nil (s ∷ w) = left_out (IsSubword-nil w)

pub IsSubword-trans : {u v w : List ℕ} → IsSubword u v → IsSubword v w → IsSubword u w
IsSubword-trans a none = a
IsSubword-trans (kept a) (kept b) = kept (IsSubword-trans a b)
IsSubword-trans (left_out a) (kept b) = left_out (IsSubword-trans a b)
IsSubword-trans a (left_out b) = left_out (IsSubword-trans a b)

pub IsSubword-without_one : {v u : List ℕ} → IsWithoutOne v u → IsSubword v u
IsSubword-without_one (this_one {u = u}) = left_out (IsSubword-refl u)
IsSubword-without_one (later_one w) = kept (IsSubword-without_one w)

pub IsSubword-append : {u v x y : List ℕ} → IsSubword u v → IsSubword x y → IsSubword (u ++ x) (v ++ y)
IsSubword-append none b = b
IsSubword-append (kept a) b = kept (IsSubword-append a b)
IsSubword-append (left_out a) b = left_out (IsSubword-append a b)

pub IsSubword-reverse : {v w : List ℕ} → IsSubword v w → IsSubword (reverse v) (reverse w)
IsSubword-reverse none = none
IsSubword-reverse (kept {s = s} {v = v} {w = w} a) =
    rw (reverse-cons s v, reverse-cons s w) (IsSubword-append (IsSubword-reverse a) (kept none))
IsSubword-reverse (left_out {s = s} {v = v} {w = w} a) =
    rw (reverse-cons s w) (rw (append-nil (reverse v)) at (IsSubword-append (IsSubword-reverse a) (left_out {s = s} none)))

pub IsWord-subword : {n : ℕ} {v w : List ℕ} → IsSubword v w → IsWord n w → IsWord n v
IsWord-subword none h = h
IsWord-subword {n} (kept {s = s} {v = v} {w = w} a) h =
    All-cons (IsLetter n) s v (All-head (IsLetter n) s w h) (IsWord-subword a (All-tail (IsLetter n) s w h))
IsWord-subword {n} (left_out {s = s} {v = v} {w = w} a) h = IsWord-subword a (All-tail (IsLetter n) s w h)
