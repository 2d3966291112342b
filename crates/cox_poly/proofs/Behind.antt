-- One text behind another.
use Rattle.std.proofs.Common.{◌≡◌, ◌<◌, ◌≤◌, ◌+◌, ℕ, List, ◌++◌, ◌∷◌, [], take, drop, length, get_or, Result, Ok, Err, IsErr, OnErr}
use Rattle.std.proofs.Common.{append_assoc, add-one, ap}
use Rattle.std.proofs.Common.{sym, ◌∙◌}
use Rattle.std.specs.List.{flat_map}
use Rattle.std.proofs.Math.Seq.{take-suc, drop-cons}
use Rattle.std.proofs.lemmas.List.{take-append-drop, take_all, flat_map_more}
use Rattle.std.proofs.lemmas.Grind.{flat_map-append}
use Rattle.std.specs.declared.alloc.AllocError.{AllocError}
use Rattle.cox_poly.specs.Puts.{PutsPrefix, Puts}

-- what holds anyway holds where memory ran out
pub on_err : {X E : Type 0} {P : Type 0} (r : Result X E) → P → OnErr r P
on_err (Ok x) p = tt
on_err (Err e) p = p

-- a prefix of the first text is one of both
pub PutsPrefix-first : (a b old new : List ℕ) → PutsPrefix a old new → PutsPrefix (a ++ b) old new
PutsPrefix-first a b old new put = record {
  prefix = put.prefix;
  rest = put.rest ++ b;
  parts = rw (put.parts, append_assoc);
  behind = put.behind;
}

-- the first text, and then the second
pub append-second : (a b old mid new : List ℕ) → mid ≡ old ++ a → new ≡ mid ++ b → new ≡ old ++ (a ++ b)
append-second a b old mid new first second = rw (second, first, append_assoc)

-- the first text, and then a prefix of the second
pub PutsPrefix-second : (a b old mid new : List ℕ) → mid ≡ old ++ a → PutsPrefix b mid new → PutsPrefix (a ++ b) old new
PutsPrefix-second a b old mid new first put = record {
  prefix = a ++ put.prefix;
  rest = put.rest;
  parts = rw (put.parts, append_assoc);
  behind = append-second a put.prefix old mid new first put.behind;
}

-- the answer where memory ran out
pub Puts-failed : (result : Result Unit AllocError) (text old new : List ℕ) → IsErr result → PutsPrefix text old new
    → Puts result text old new
Puts-failed (Ok done) text old new failed put = absurd (cc failed)
Puts-failed (Err fault) text old new failed put = put

-- out of memory at the first text
pub Puts-first : (result : Result Unit AllocError) (a b old new : List ℕ) → IsErr result → PutsPrefix a old new
    → Puts result (a ++ b) old new
Puts-first result a b old new failed put = Puts-failed result (a ++ b) old new failed (PutsPrefix-first a b old new put)

-- the last text, behind the others
pub Puts-second : (result : Result Unit AllocError) (a b old mid new : List ℕ) → mid ≡ old ++ a → Puts result b mid new
    → Puts result (a ++ b) old new
Puts-second (Ok done) a b old mid new first put = append-second a b old mid new first put
Puts-second (Err fault) a b old mid new first put = PutsPrefix-second a b old mid new first put

-- the texts of the first items, and then the next one's
pub append-next : {X : Type 0} (f : X → List ℕ) (xs : List X) (i : ℕ) (x d : X) (old mid new : List ℕ) → i < length xs → x ≡ get_or xs i d
    → mid ≡ old ++ flat_map f (take i xs) → new ≡ mid ++ f x → new ≡ old ++ flat_map f (take (i + 1) xs)
append-next f xs i x d old mid new below at first next =
    let more : take (i + 1) xs ≡ take i xs ++ x ∷ [] = rw (add-one, at) (take-suc xs i d below) in
    next ∙ ap (λ ys. ys ++ f x) first ∙ flat_map_more f old (take i xs) x ∙ ap (λ ys. old ++ flat_map f ys) (sym more)

-- the texts of all items, at the end
pub append-all : {X : Type 0} (f : X → List ℕ) (xs : List X) (i : ℕ) (old new : List ℕ) → length xs ≤ i
    → new ≡ old ++ flat_map f (take i xs) → new ≡ old ++ flat_map f xs
append-all f xs i old new past put = put ∙ ap (λ ys. old ++ flat_map f ys) (take_all i xs past)

-- the texts of the first items, and then a prefix of the next one's
pub PutsPrefix-next : {X : Type 0} (f : X → List ℕ) (xs : List X) (i : ℕ) (x d : X) (old mid new : List ℕ) → i < length xs → x
    ≡ get_or xs i d
    → mid ≡ old ++ flat_map f (take i xs) → PutsPrefix (f x) mid new → PutsPrefix (flat_map f xs) old new
PutsPrefix-next f xs i x d old mid new below at first put = record {
  prefix = flat_map f (take i xs) ++ put.prefix;
  rest = put.rest ++ flat_map f (drop (i + 1) xs);
  parts =
      let next : x ∷ drop (i + 1) xs ≡ drop i xs = rw (add-one, at) (sym (drop-cons xs i d below)) in
      let whole : take i xs ++ x ∷ drop (i + 1) xs ≡ xs = ap (λ ys. take i xs ++ ys) next ∙ take-append-drop i xs in
      ap (flat_map f) (sym whole) ∙ flat_map-append f (take i xs) (x ∷ drop (i + 1) xs) ∙ rw put.parts (simp append_assoc);
  behind = append-second (flat_map f (take i xs)) put.prefix old mid new first put.behind;
}
