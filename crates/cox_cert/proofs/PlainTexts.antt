-- Texts that are short, and of which each byte may stand in a line.
use Rattle.std.proofs.Common.{◌≡◌, ℕ, zero, suc, ◌+◌, ◌*◌, ◌%◌, ◌^◌, ◌<◌, ◌≤◌, Bool, true, false, cond, List, [], ◌∷◌, ◌++◌, length}
use Rattle.std.proofs.Common.{decimal, get_or, arith, length-append}
use Rattle.std.specs.List.{flat_map, All}
use Rattle.std.proofs.lemmas.Bool.Decides.{nat_tests}
use Rattle.std.proofs.lemmas.Fmt.{decimal_by_steps, length-decimal-le}
use Rattle.std.proofs.lemmas.List.Elements.{All-head, All-tail}
use Rattle.cox_tokens.specs.Line.{is_foreign}
use Rattle.cox_polyread.proofs.Splits.{AreNot, AreNot-append}

-- a numeral is made of digits
pub decimal-bytes : (f : ℕ → Bool) (n : ℕ) → n < 2 ^ 64 → ((d : ℕ) → d < 10 → f (48 + d) ≡ false) → AreNot f (decimal n)
decimal-bytes f n small digits = decimal_by_steps (λ m ds. AreNot f ds) one more n small
  where
    one : (n : ℕ) → n < 10 → AreNot f ((48 + n) ∷ [])
    one n low = (digits n low, tt)

    more : (n : ℕ) (ds : List ℕ) → 10 ≤ n → AreNot f ds → AreNot f (ds ++ (48 + n % 10) ∷ [])
    more n ds high before = AreNot-append f ds ((48 + n % 10) ∷ []) before (digits (n % 10) (omega arith), tt)

-- what holds of no byte, by its place, and of a part
pub AreNot-at : (f : ℕ → Bool) (xs : List ℕ) (k : ℕ) → AreNot f xs → k < length xs → f (get_or xs k 0) ≡ false
AreNot-at f [] k none within = absurd (omega arith)
AreNot-at f (x ∷ xs) zero none within = none.0
AreNot-at f (x ∷ xs) (suc k) none within = AreNot-at f xs k none.1 (omega arith)

pub AreNot-behind : (f : ℕ → Bool) (xs ys : List ℕ) → AreNot f (xs ++ ys) → AreNot f ys
AreNot-behind f [] ys none = none
AreNot-behind f (x ∷ xs) ys none = AreNot-behind f xs ys none.1

-- at most so many bytes, each from 0x20 to 0x7E
pub record IsPlainText (most : ℕ) (text : List ℕ) : Type 0 where
  pub size : length text ≤ most
  pub plain : AreNot is_foreign text

pub plain-append : (m n : ℕ) (xs ys : List ℕ) → IsPlainText m xs → IsPlainText n ys → IsPlainText (m + n) (xs ++ ys)
plain-append m n xs ys front back = record {
  size = omega (arith, front.size, back.size, length-append xs ys);
  plain = AreNot-append is_foreign xs ys front.plain back.plain;
}

pub plain-more : (m n : ℕ) (text : List ℕ) → m ≤ n → IsPlainText m text → IsPlainText n text
plain-more m n text more is = record { size = omega (arith, is.size); plain = is.plain }

pub plain-cond : (most : ℕ) (b : Bool) (xs ys : List ℕ) → IsPlainText most xs → IsPlainText most ys → IsPlainText most (cond b xs ys)
plain-cond most true xs ys first second = first
plain-cond most false xs ys first second = second

-- texts one behind the other
pub plain-flat_map : {X : Type 0} (f : X → List ℕ) (most : ℕ) (xs : List X) → All (λ x. IsPlainText most (f x)) xs
    → IsPlainText (most * length xs) (flat_map f xs)
plain-flat_map f most [] all = record { size = omega arith; plain = tt }
plain-flat_map f most (x ∷ xs) all =
    let rest = plain-flat_map f most xs (All-tail (λ y. IsPlainText most (f y)) x xs all) in
    plain-more (most + most * length xs) (most * suc (length xs)) (f x ++ flat_map f xs) (omega arith)
    (plain-append most (most * length xs) (f x) (flat_map f xs) (All-head (λ y. IsPlainText most (f y)) x xs all) rest)

-- a numeral
digit-plain : (d : ℕ) → d < 10 → is_foreign (48 + d) ≡ false
digit-plain d low = grind (arith, nat_tests)

pub decimal-plain : (k n : ℕ) → 0 < k → n < 10 ^ k → n < 2 ^ 64 → IsPlainText k (decimal n)
decimal-plain k n some fits small = record {
  size = length-decimal-le k n some fits small;
  plain = decimal-bytes is_foreign n small digit-plain;
}
