-- Whole numbers in decimal, as they are read: what is written of a number names it, and digits without leading zeros are what is written
-- of it.
use Rattle.std.proofs.Common.{◌≡◌, ℕ, zero, suc, ◌+◌, ◌-◌, ◌*◌, ◌/◌, ◌%◌, ◌<◌, ◌≤◌, ◌==◌, true, not, List, [], ◌∷◌, ◌++◌}
use Rattle.std.proofs.Common.{length, take, get_or, refl, sym, ap, ◌∙◌, inl, inr, append_assoc, append-nil, arith}
use Rattle.std.specs.Prelude.{nat_lt}
use Rattle.std.specs.List.{list_all}
use Rattle.std.specs.Char.{is_ascii_digit}
use Rattle.std.proofs.lemmas.Bool.{cases_lt, lt-ltb, le-ltb, ne_eqb, and_parts, and_from, false≢true}
use Rattle.std.proofs.lemmas.Bool.Decides.{nat_tests}
use Rattle.std.proofs.lemmas.List.Sums.{fold_push}
use Rattle.std.proofs.lemmas.List.Folds.{list_all-append}
use Rattle.cox_poly.specs.Numerals.{digits_below, number_text}
use Rattle.cox_polyread.specs.ReadNumerals.{value_behind, value_of, is_numeral, is_short_numeral}

-- more places change nothing
digits_below-enough : (m k n : ℕ) → n < m → n < k → digits_below m n ≡ digits_below k n
digits_below-enough zero k n h i = absurd (omega arith)
digits_below-enough (suc m) zero n h i = absurd (omega arith)
digits_below-enough (suc m) (suc k) n h i = elim (cases_lt n 10) [
  | inl low ↦ rw (lt-ltb n 10 low) refl
  | inr high ↦ rw (le-ltb n 10 high) (ap (λ ds. ds ++ (48 + n % 10) ∷ []) (digits_below-enough m k (n / 10) (omega arith) (omega arith)))
]

-- a number of one digit, and one with a digit more
pub number_text-digit : (n : ℕ) → n < 10 → number_text n ≡ (48 + n) ∷ []
unfolding number_text
number_text-digit n low = rw (lt-ltb n 10 low) refl

pub number_text-more : (v d : ℕ) → 0 < v → d < 10 → number_text (10 * v + d) ≡ number_text v ++ (48 + d) ∷ []
unfolding number_text
number_text-more v d some low =
    let front : (10 * v + d) / 10 ≡ v = omega arith in
    let last : (10 * v + d) % 10 ≡ d = omega arith in
    rw (le-ltb (10 * v + d) 10 (omega arith), front, last)
    (ap (λ ds. ds ++ (48 + d) ∷ []) (digits_below-enough (10 * v + d) (suc v) v (omega arith) (omega arith)))

-- a digit is from 48 to 57
pub digit-low : (d : ℕ) → is_ascii_digit d ≡ true → 48 ≤ d
digit-low d h = grind (arith, nat_tests)

pub digit-high : (d : ℕ) → is_ascii_digit d ≡ true → d ≤ 57
digit-high d h = grind (arith, nat_tests)

pub is_digit : (d : ℕ) → d < 10 → is_ascii_digit (48 + d) ≡ true
is_digit d h = grind (arith, nat_tests)

-- a numeral is made of digits, and the first is not `0`
pub is_numeral-digits : (ds : List ℕ) → is_numeral ds ≡ true → list_all is_ascii_digit ds ≡ true
is_numeral-digits [] h = absurd (false≢true h)
is_numeral-digits (d ∷ ds) h = (and_parts _ _ h).1

first-not_zero : (d : ℕ) → not (d == 48) ≡ true → is_ascii_digit d ≡ true → 49 ≤ d
first-not_zero d h i = grind (arith, nat_tests, digit-low d i)

pub is_numeral-first : (d : ℕ) (ds : List ℕ) → is_numeral (d ∷ ds) ≡ true → 49 ≤ d
is_numeral-first d ds h = let parts = and_parts _ _ h in first-not_zero d parts.0 (and_parts _ _ parts.1).0

-- digits behind a number
number_text-value_behind : (ds : List ℕ) (v : ℕ) → 0 < v → list_all is_ascii_digit ds ≡ true
    → number_text (value_behind v ds) ≡ number_text v ++ ds
number_text-value_behind [] v some digits = sym (append-nil (number_text v))
number_text-value_behind (d ∷ ds) v some digits =
    let parts = and_parts _ _ digits in
    let low = digit-low d parts.0 in
    let high = digit-high d parts.0 in
    let whole : 48 + (d - 48) ≡ d = omega arith in
    number_text-value_behind ds (10 * v + (d - 48)) (omega arith) parts.1
    ∙ ap (λ text. text ++ ds) (number_text-more v (d - 48) some (omega arith) ∙ ap (λ e. number_text v ++ e ∷ []) whole)
    ∙ append_assoc (number_text v) (d ∷ []) ds

-- a numeral is the text of its value, which is not 0
pub number_text-value_of : (ds : List ℕ) → is_numeral ds ≡ true → number_text (value_of ds) ≡ ds
number_text-value_of [] h = absurd (false≢true h)
number_text-value_of (d ∷ ds) h =
    let parts = and_parts _ _ (is_numeral-digits (d ∷ ds) h) in
    let low = is_numeral-first d ds h in
    let high = digit-high d parts.0 in
    let here : 10 * 0 + (d - 48) ≡ d - 48 = omega arith in
    let whole : 48 + (d - 48) ≡ d = omega arith in
    ap (λ v. number_text (value_behind v ds)) here ∙ number_text-value_behind ds (d - 48) (omega arith) parts.1
    ∙ ap (λ text. text ++ ds) (number_text-digit (d - 48) (omega arith) ∙ ap (λ e. e ∷ []) whole)

-- digits behind others make the number no smaller, and keep the order where there are as many
value_behind-less : (ds es : List ℕ) (v w : ℕ) → v < w → list_all is_ascii_digit ds ≡ true → length ds ≤ length es
    → value_behind v ds < value_behind w es
value_behind-less [] [] v w h digits le = h
value_behind-less [] (e ∷ es) v w h digits le = value_behind-less [] es v (10 * w + (e - 48)) (omega arith) refl (omega arith)
value_behind-less (d ∷ ds) [] v w h digits le = absurd (omega arith)
value_behind-less (d ∷ ds) (e ∷ es) v w h digits le =
    let parts = and_parts _ _ digits in
    let high = digit-high d parts.0 in
    value_behind-less ds es (10 * v + (d - 48)) (10 * w + (e - 48)) (omega arith) parts.1 (omega arith)

pub value_of-above : (ds : List ℕ) → is_numeral ds ≡ true → 0 < value_of ds
value_of-above [] h = absurd (false≢true h)
value_of-above (d ∷ ds) h =
    let low = is_numeral-first d ds h in value_behind-less [] ds 0 (10 * 0 + (d - 48)) (omega arith) refl (omega arith)

-- the digits of a number
record Names (n : ℕ) (ds : List ℕ) : Type 0 where
  value : value_of ds ≡ n
  numeral : is_numeral ds ≡ true

is_numeral-push : (ds : List ℕ) (d : ℕ) → is_numeral ds ≡ true → is_ascii_digit d ≡ true → is_numeral (ds ++ d ∷ []) ≡ true
is_numeral-push [] d h digit = absurd (false≢true h)
is_numeral-push (x ∷ xs) d h digit =
    let parts = and_parts _ _ h in
    let last : list_all is_ascii_digit (d ∷ []) ≡ true = and_from _ _ digit refl in
    and_from _ _ parts.0 (list_all-append is_ascii_digit (x ∷ xs) (d ∷ []) ∙ and_from _ _ parts.1 last)

Names-push : (q r n : ℕ) (ds : List ℕ) → Names q ds → r < 10 → n ≡ 10 * q + r → Names n (ds ++ (48 + r) ∷ [])
Names-push q r n ds names low whole = record {
  value = fold_push (λ value digit. 10 * value + (digit - 48)) 0 ds (48 + r) ∙ omega (arith, names.value);
  numeral = is_numeral-push ds (48 + r) names.numeral (is_digit r low);
}

digits_below-names : (bound n : ℕ) → 0 < n → n < bound → Names n (digits_below bound n)
digits_below-names zero n some h = absurd (omega arith)
digits_below-names (suc bound) n some h = elim (cases_lt n 10) [
  | inl low ↦ rw (lt-ltb n 10 low) (one n some low)
  | inr high ↦ rw (le-ltb n 10 high)
      (Names-push (n / 10) (n % 10) n (digits_below bound (n / 10)) (digits_below-names bound (n / 10) (omega arith) (omega arith))
      (omega arith) (omega arith))
]
  where
    one : (n : ℕ) → 0 < n → n < 10 → Names n ((48 + n) ∷ [])
    one n some low = record {
      value = omega arith;
      numeral = grind (arith, nat_tests);
    }

number_text-names : (n : ℕ) → 0 < n → Names n (number_text n)
unfolding number_text
number_text-names n some = digits_below-names (suc n) n some (omega arith)

-- what is written of a number above 0 names it, and is a numeral
pub value_of-number_text : (n : ℕ) → 0 < n → value_of (number_text n) ≡ n
value_of-number_text n some = (number_text-names n some).value

pub is_numeral-number_text : (n : ℕ) → 0 < n → is_numeral (number_text n) ≡ true
is_numeral-number_text n some = (number_text-names n some).numeral

-- of two numerals the longer one is greater
pub value_of-longer : (ds es : List ℕ) → is_short_numeral ds ≡ true → is_short_numeral es ≡ true → length ds < length es
    → value_of ds < value_of es
value_of-longer ds [] d_short e_short longer = absurd (omega arith)
value_of-longer [] (e ∷ es) d_short e_short longer = value_of-above (e ∷ es) e_short
value_of-longer (d ∷ ds) (e ∷ es) d_short e_short longer =
    let low = is_numeral-first e es e_short in
    value_behind-less (d ∷ ds) es 0 (10 * 0 + (e - 48)) (omega arith) (is_numeral-digits (d ∷ ds) d_short) (omega arith)

-- of two that are as long the first different digit decides
value_behind-digit : (ds es : List ℕ) (v i : ℕ) → list_all is_ascii_digit ds ≡ true → length ds ≡ length es → i < length ds
    → take i ds ≡ take i es → 48 ≤ get_or ds i 0 → get_or ds i 0 < get_or es i 0 → value_behind v ds < value_behind v es
value_behind-digit [] es v i digits same within front digit less = absurd (omega arith)
value_behind-digit (d ∷ ds) [] v i digits same within front digit less = absurd (omega arith)
value_behind-digit (d ∷ ds) (e ∷ es) v zero digits same within front digit less =
    value_behind-less ds es (10 * v + (d - 48)) (10 * v + (e - 48)) (omega arith) (and_parts _ _ digits).1 (omega arith)
value_behind-digit (d ∷ ds) (e ∷ es) v (suc i) digits same within front digit less =
    let first : d ≡ e = cc in
    let rest : take i ds ≡ take i es = cc in
    rw first (value_behind-digit ds es (10 * v + (e - 48)) i (and_parts _ _ digits).1 (omega arith) (omega arith) rest digit less)

pub value_of-digit : (ds es : List ℕ) (i : ℕ) → is_short_numeral ds ≡ true → length ds ≡ length es → i < length ds
    → take i ds ≡ take i es → get_or ds i 0 < get_or es i 0 → value_of ds < value_of es
value_of-digit [] es i d_short same within front less = absurd (omega arith)
value_of-digit (d ∷ ds) es i d_short same within front less =
    let digits = is_numeral-digits (d ∷ ds) d_short in
    value_behind-digit (d ∷ ds) es 0 i digits same within front (digit_at (d ∷ ds) i digits within) less
  where
    digit_at : (ds : List ℕ) (i : ℕ) → list_all is_ascii_digit ds ≡ true → i < length ds → 48 ≤ get_or ds i 0
    digit_at [] i digits within = absurd (omega arith)
    digit_at (d ∷ ds) zero digits within = digit-low d (and_parts _ _ digits).0
    digit_at (d ∷ ds) (suc i) digits within = digit_at ds i (and_parts _ _ digits).1 (omega arith)

-- for code: tests of digits
pub is_numeral-all : (ds : List ℕ) → 0 < length ds → (get_or ds 0 0 ≡ 48 → ⊥) → list_all is_ascii_digit ds ≡ true → is_numeral ds ≡ true
is_numeral-all [] some first all = absurd (omega arith)
is_numeral-all (d ∷ ds) some first all = and_from (not (d == 48)) (list_all is_ascii_digit (d ∷ ds)) (rw (ne_eqb d 48 first) refl) all

pub is_short_numeral-from : (ds : List ℕ) → is_numeral ds ≡ true → is_short_numeral ds ≡ true
is_short_numeral-from [] h = refl
is_short_numeral-from (d ∷ ds) h = h

-- only `1` are the digits of 1
pub value_of-one : (ds : List ℕ) → is_numeral ds ≡ true → value_of ds ≡ 1 → ds ≡ 49 ∷ []
value_of-one ds h e = sym (number_text-value_of ds h) ∙ ap number_text e ∙ number_text-digit 1 (omega arith)

-- for code: which of two numbers is less
pub less-longer : (ds es : List ℕ) → is_short_numeral ds ≡ true → is_short_numeral es ≡ true → (length ds ≡ length es → ⊥)
    → nat_lt (length ds) (length es) ≡ nat_lt (value_of ds) (value_of es)
less-longer ds es d_short e_short other = elim (cases_lt (length ds) (length es)) [
  | inl below ↦ lt-ltb _ _ below ∙ sym (lt-ltb _ _ (value_of-longer ds es d_short e_short below))
  | inr above ↦
      let longer : length es < length ds = omega (arith, other) in
      let less = value_of-longer es ds e_short d_short longer in
      le-ltb _ _ above ∙ sym (le-ltb (value_of ds) (value_of es) (omega (arith, less)))
]

pub less-digit : (ds es : List ℕ) (i : ℕ) → is_short_numeral ds ≡ true → is_short_numeral es ≡ true → length ds ≡ length es → i < length ds
    → take i ds ≡ take i es → (get_or ds i 0 ≡ get_or es i 0 → ⊥)
    → nat_lt (get_or ds i 0) (get_or es i 0) ≡ nat_lt (value_of ds) (value_of es)
less-digit ds es i d_short e_short same within front other = elim (cases_lt (get_or ds i 0) (get_or es i 0)) [
  | inl below ↦ lt-ltb _ _ below ∙ sym (lt-ltb _ _ (value_of-digit ds es i d_short same within front below))
  | inr above ↦
      let greater : get_or es i 0 < get_or ds i 0 = omega (arith, other) in
      let less = value_of-digit es ds i e_short (sym same) (omega arith) (sym front) greater in
      le-ltb _ _ above ∙ sym (le-ltb (value_of ds) (value_of es) (omega (arith, less)))
]
