-- A text in two parts: before the first byte of a kind, and from it on.
use Rattle.std.proofs.Common.{◌≡◌, ℕ, suc, true, false, Bool, List, [], ◌∷◌, ◌++◌, take, drop, refl, ⊎_elim, arith}
use Rattle.std.specs.List.{list_all, position_or_len}
use Rattle.std.proofs.lemmas.Bool.{cases_Bool, and_parts, both_ways}

-- no byte is of the kind; and the first byte is, if there is one
abbrev pub AreNot : (ℕ → Bool) → List ℕ → Type 0
AreNot f [] = Unit {0}
AreNot f (x ∷ xs) = (f x ≡ false) × AreNot f xs

abbrev pub Begins : (ℕ → Bool) → List ℕ → Type 0
Begins f [] = Unit {0}
Begins f (x ∷ xs) = f x ≡ true

-- two parts of one text are equal
pub record AreSame (us vs bs ds : List ℕ) : Type 0 where
  pub front : us ≡ vs
  pub back : bs ≡ ds

pub split-one : (f : ℕ → Bool) (us vs bs ds : List ℕ) → AreNot f us → AreNot f vs → Begins f bs → Begins f ds → us ++ bs ≡ vs ++ ds
    → AreSame us vs bs ds
split-one f [] [] bs ds us_not vs_not bs_begin ds_begin same = record { front = refl; back = same }
split-one f [] (v ∷ vs) [] ds us_not vs_not bs_begin ds_begin same = absurd (cc)
split-one f [] (v ∷ vs) (b ∷ bs) ds us_not vs_not bs_begin ds_begin same =
    let e : b ≡ v = cc in absurd (both_ways (f v) vs_not.0 (rw e at bs_begin))
split-one f (u ∷ us) [] bs [] us_not vs_not bs_begin ds_begin same = absurd (cc)
split-one f (u ∷ us) [] bs (d ∷ ds) us_not vs_not bs_begin ds_begin same =
    let e : d ≡ u = cc in absurd (both_ways (f u) us_not.0 (rw e at ds_begin))
split-one f (u ∷ us) (v ∷ vs) bs ds us_not vs_not bs_begin ds_begin same =
    let first : u ≡ v = cc in
    let rest : us ++ bs ≡ vs ++ ds = cc in
    let parts = split-one f us vs bs ds us_not.1 vs_not.1 bs_begin ds_begin rest in
    let front = parts.front in
    record { front = cc; back = parts.back }

-- the part before the first byte of a kind, and what stands from there on
pub before-not : (f : ℕ → Bool) (xs : List ℕ) → AreNot f (take (position_or_len f xs) xs)
before-not f [] = tt
before-not f (x ∷ xs) =
    ⊎_elim
    (λ (here : f x ≡ true). rw here tt)
    (λ (other : f x ≡ false).
    let count : position_or_len f (x ∷ xs) ≡ suc (position_or_len f xs) = rw other (omega arith) in
    rw count (other, before-not f xs))
    (cases_Bool (f x))

pub behind-begins : (f : ℕ → Bool) (xs : List ℕ) → Begins f (drop (position_or_len f xs) xs)
behind-begins f [] = tt
behind-begins f (x ∷ xs) =
    ⊎_elim
    (λ (here : f x ≡ true). rw here here)
    (λ (other : f x ≡ false).
    let count : position_or_len f (x ∷ xs) ≡ suc (position_or_len f xs) = rw other (omega arith) in
    rw count (behind-begins f xs))
    (cases_Bool (f x))

-- of two texts one behind the other
pub AreNot-append : (f : ℕ → Bool) (xs ys : List ℕ) → AreNot f xs → AreNot f ys → AreNot f (xs ++ ys)
AreNot-append f [] ys x_not y_not = y_not
AreNot-append f (x ∷ xs) ys x_not y_not = (x_not.0, AreNot-append f xs ys x_not.1 y_not)

-- of bytes of which none of the kind is one
pub AreNot-all : (f g : ℕ → Bool) → ((x : ℕ) → g x ≡ true → f x ≡ false) → (xs : List ℕ) → list_all g xs ≡ true → AreNot f xs
AreNot-all f g apart [] all = tt
AreNot-all f g apart (x ∷ xs) all = let parts = and_parts _ _ all in (apart x parts.0, AreNot-all f g apart xs parts.1)
