-- The group of type A 3: R(e,121), P(2,2132), mu(2,2132) and Q(13,13213), by the lengths and normal forms of short words.
use Rattle.std.proofs.Common.{◌≡◌, ℕ, zero, suc, List, [], ◌∷◌, ℤ, pos, negsuc, refl, arith}
use Rattle.std.proofs.lemmas.Int.{ints}
use Rattle.cox_base.specs.NamedType.{type_matrix}
use Rattle.cox_base.specs.Element.{matrix}
use Rattle.cox_base.specs.ShortLex.{normal_form}
use Rattle.cox_base.specs.Length.{word_length}
use Rattle.cox_base.specs.Admissible.{IsAdmissible}
use Rattle.cox_base.proofs.AdmissibleMatrices.{IsAdmissible-integer_matrix}
use Rattle.cox_base.proofs.LabelRows.{type_matrix-IsCoxeterMatrix}
use Rattle.cox_rpoly.proofs.PolynomialsOfElements.{r_polynomial-degree}
use Rattle.cox_poly.specs.Polynomial.{coefficient}
use Rattle.cox_rpoly.specs.RPolynomial.{r_polynomial}
use Rattle.std.proofs.Common.{◌<◌, ◌≤◌, ◌-◌, ◌≢◌, ◌++◌, length, ap, sym, ◌∙◌, ⊎_elim}
use Rattle.std.proofs.lemmas.Bool.{cases_lt}
use Rattle.cox_base.specs.declared.side.Side.TheVariants.{Left}
use Rattle.cox_base.specs.Matrix.{IsLetter, IsWord}
use Rattle.cox_base.specs.Element.{SameElement}
use Rattle.cox_base.specs.Descents.{IsLeftDescent, IsRightDescent}
use Rattle.cox_base.specs.SideDescents.{IsDescent}
use Rattle.cox_reflect.proofs.Elements.{same-refl, same-sym, same-trans, same-append, same-cons, same-square, same-push_twice}
use Rattle.cox_reflect.proofs.Search.{normal_form-same, IsWord-normal_form, word_length-equal}
use Rattle.cox_reflect.proofs.Lengths.{word_length-is}
use Rattle.cox_reflect.proofs.NormalForm.{normal_form-descent}
use Rattle.cox_reflect.proofs.Roots.{left_descent-letter}
use Rattle.cox_reflect.proofs.RootSigns.{descent_by_coordinate}
use Rattle.cox_inverse.specs.Longest.{IsLongest}
use Rattle.cox_inverse.specs.InverseRow.{IsInverse}
use Rattle.cox_inverse.proofs.LongestWord.{longest-twice}
use Rattle.cox_inverse.proofs.InversionByLongest.{inversion-longest}
use Rattle.cox_poly.specs.Coefficients.{Coefficients, zero_polynomial, one_polynomial}
use Rattle.cox_poly.specs.Multiples.{minus}
use Rattle.cox_rpoly.proofs.AlongWords.{shortens}
use Rattle.cox_hecke.specs.Row.{IsKazhdanLusztig, IsMu}
use Rattle.cox_hecke.specs.StepFamily.{step, AreCorrections}
use Rattle.cox_hecke.proofs.OneRow.{row-same}
use Rattle.cox_hecke.proofs.AllRows.{mu-by_polynomial}
use Rattle.cox_hecke.proofs.Descended.{mu-left}
use Rattle.cox_hecke.proofs.StepFamilies.{recursion}
use Rattle.cox_hecke.proofs.PolynomialValues.{kl_polynomial, kl_polynomial-is_row, kl_polynomial-same, kl_polynomial-left}
use Rattle.cox_hecke.proofs.PolynomialValues.{kl_polynomial-right, kl_polynomial-by, kazhdan_lusztig-same}
use Rattle.cox_laws.specs.Examples.{a3}
use Rattle.cox_laws.proofs.WordsOnLiterals.{words_on_literals}

form-121 : normal_form a3 (1 ∷ 2 ∷ 1 ∷ []) ≡ 1 ∷ 2 ∷ 1 ∷ []
unfolding words_on_literals
form-121 = refl

length-e : word_length a3 [] ≡ 0
unfolding words_on_literals
length-e = refl

length-1 : word_length a3 (1 ∷ []) ≡ 1
unfolding words_on_literals
length-1 = refl

length-2 : word_length a3 (2 ∷ []) ≡ 1
unfolding words_on_literals
length-2 = refl

length-11 : word_length a3 (1 ∷ 1 ∷ []) ≡ 0
unfolding words_on_literals
length-11 = refl

length-12 : word_length a3 (1 ∷ 2 ∷ []) ≡ 2
unfolding words_on_literals
length-12 = refl

length-21 : word_length a3 (2 ∷ 1 ∷ []) ≡ 2
unfolding words_on_literals
length-21 = refl

length-121 : word_length a3 (1 ∷ 2 ∷ 1 ∷ []) ≡ 3
unfolding word_length
length-121 = rw form-121 refl

-- R(e,121) at each power of q up to q^3
r_e_121-low : (r_polynomial a3 [] (1 ∷ 2 ∷ 1 ∷ []) 0 ≡ negsuc 0) × (r_polynomial a3 [] (1 ∷ 2 ∷ 1 ∷ []) 1 ≡ pos 2)
    × (r_polynomial a3 [] (1 ∷ 2 ∷ 1 ∷ []) 2 ≡ negsuc 1) × (r_polynomial a3 [] (1 ∷ 2 ∷ 1 ∷ []) 3 ≡ pos 1)
unfolding r_polynomial
r_e_121-low = rw (form-121, length-e, length-1, length-2, length-11, length-12, length-21, length-121) (refl, refl, refl, refl)

admissible : IsAdmissible a3
admissible = IsAdmissible-integer_matrix (type_matrix 65 3) (type_matrix-IsCoxeterMatrix 65 3 refl)

pub r_e_121 : (k : ℕ) → r_polynomial a3 [] (1 ∷ 2 ∷ 1 ∷ []) k ≡ coefficient (negsuc 0 ∷ pos 2 ∷ negsuc 1 ∷ pos 1 ∷ []) k
r_e_121 zero = r_e_121-low.0
r_e_121 (suc zero) = r_e_121-low.1
r_e_121 (suc (suc zero)) = r_e_121-low.2
r_e_121 (suc (suc (suc zero))) = r_e_121-low.3
r_e_121 (suc (suc (suc (suc k)))) =
    r_polynomial-degree a3 admissible [] (1 ∷ 2 ∷ 1 ∷ []) 3 (omega (arith, length-121, length-e)) (suc (suc (suc (suc k)))) (omega arith)

-- ---- P(2,2132)

form-312 : normal_form a3 (3 ∷ 1 ∷ 2 ∷ []) ≡ 1 ∷ 3 ∷ 2 ∷ []
unfolding words_on_literals
form-312 = refl

length-13 : word_length a3 (1 ∷ 3 ∷ []) ≡ 2
unfolding words_on_literals
length-13 = refl

length-22 : word_length a3 (2 ∷ 2 ∷ []) ≡ 0
unfolding words_on_literals
length-22 = refl

length-32 : word_length a3 (3 ∷ 2 ∷ []) ≡ 2
unfolding words_on_literals
length-32 = refl

length-132 : word_length a3 (1 ∷ 3 ∷ 2 ∷ []) ≡ 3
unfolding words_on_literals
length-132 = refl

length-213 : word_length a3 (2 ∷ 1 ∷ 3 ∷ []) ≡ 3
unfolding words_on_literals
length-213 = refl

length-212 : word_length a3 (2 ∷ 1 ∷ 2 ∷ []) ≡ 3
unfolding words_on_literals
length-212 = refl

length-232 : word_length a3 (2 ∷ 3 ∷ 2 ∷ []) ≡ 3
unfolding words_on_literals
length-232 = refl

length-2132 : word_length a3 (2 ∷ 1 ∷ 3 ∷ 2 ∷ []) ≡ 4
unfolding words_on_literals
length-2132 = refl

-- an element with the left descents 1 and 2 has at least three letters
abbrev w132 : List ℕ
w132 = 1 ∷ 3 ∷ 2 ∷ []

same_cons : (s : ℕ) {u v : List ℕ} → SameElement a3 u v → SameElement a3 (s ∷ u) (s ∷ v)
same_cons = same-cons a3 admissible

length_same : {u v : List ℕ} → SameElement a3 u v → word_length a3 u ≡ word_length a3 v
length_same = word_length-equal a3 admissible

-- the element 1x has no left descent 2, where x has one letter at most
not_both : (x : List ℕ) → length x ≤ 1 → IsWord 3 x → word_length a3 (1 ∷ x) ≡ suc (length x)
    → word_length a3 (2 ∷ 1 ∷ x) < word_length a3 (1 ∷ x) → ⊥
not_both [] few letters reduced down = omega (arith, length-1, length-21, down)
not_both (zero ∷ []) few letters reduced down = let one = letters 0 0 (omega arith) in omega (arith, one.from_one)
not_both (suc zero ∷ []) few letters reduced down = omega (arith, length-11, reduced)
not_both (suc (suc zero) ∷ []) few letters reduced down = omega (arith, length-12, length-212, down)
not_both (suc (suc (suc zero)) ∷ []) few letters reduced down = omega (arith, length-13, length-213, down)
not_both (suc (suc (suc (suc k))) ∷ []) few letters reduced down = let one = letters 0 0 (omega arith) in omega (arith, one.to_rank)
not_both (s ∷ t ∷ x) few letters reduced down = absurd (omega (arith, few))

two_descents : (u : List ℕ) → IsLeftDescent a3 u 1 → IsLeftDescent a3 u 2 → 3 ≤ word_length a3 u
unfolding type_matrix
two_descents u first second = ⊎_elim few (λ (many : 3 ≤ word_length a3 u). many) (cases_lt (word_length a3 u) 3)
  where
    x : List ℕ
    x = normal_form a3 (1 ∷ u)

    begins : normal_form a3 u ≡ 1 ∷ x
    begins = normal_form-descent a3 admissible u 1 first
        (λ t less down. let letter = left_descent-letter a3 admissible u t down in omega (arith, less, letter.from_one))

    same : SameElement a3 (1 ∷ x) u
    same = rw begins at (normal_form-same a3 admissible u)

    few : word_length a3 u < 3 → 3 ≤ word_length a3 u
    few less = absurd (not_both x (omega (arith, less, first, word_length-is a3 (1 ∷ u))) (IsWord-normal_form a3 admissible (1 ∷ u))
        (length_same same ∙ word_length-is a3 u ∙ ap length begins)
        (rw (length_same same, length_same (same_cons 2 same)) second))

-- ---- 132: its left descents are 1 and 3, and its right descent is 2

shorter_1 : IsLeftDescent a3 w132 1
shorter_1 = omega (arith, length_same (same-square a3 admissible 1 (3 ∷ 2 ∷ [])), length-32, length-132)

turned-132 : SameElement a3 w132 (3 ∷ 1 ∷ 2 ∷ [])
turned-132 = rw form-312 at (normal_form-same a3 admissible (3 ∷ 1 ∷ 2 ∷ []))

shorter_3 : IsLeftDescent a3 w132 3
shorter_3 =
    let square = length_same (same-square a3 admissible 3 (1 ∷ 2 ∷ [])) in
    omega (arith, length_same (same_cons 3 turned-132), square, length-12, length-132)

shorter_2 : IsRightDescent a3 w132 2
shorter_2 = omega (arith, length_same (same-push_twice a3 admissible (1 ∷ 3 ∷ []) 2), length-13, length-132)

-- P(2,132) and P(e,132) are 1
at_2 : (k : ℕ) → kl_polynomial a3 admissible (2 ∷ []) w132 k ≡ one_polynomial k
at_2 k =
    ap (λ (f : Coefficients). f k) (sym (kl_polynomial-left a3 admissible (2 ∷ []) w132 3 shorter_3)
    ∙ sym (kl_polynomial-left a3 admissible (3 ∷ 2 ∷ []) w132 1 shorter_1))
    ∙ (kl_polynomial-is_row a3 admissible w132).top k

at_e : (k : ℕ) → kl_polynomial a3 admissible [] w132 k ≡ one_polynomial k
at_e k = ap (λ (f : Coefficients). f k) (sym (kl_polynomial-right a3 admissible [] w132 2 shorter_2)) ∙ at_2 k

-- ---- nothing corrects the step from 132 by 2

mu_moved : (v w u : List ℕ) (m : ℤ) → SameElement a3 v w → IsMu a3 u v m → IsMu a3 u w m
mu_moved v w u m same is = record {
  row = is.row;
  is = row-same a3 admissible v w is.row same is.is;
  value = rw (length_same same) at is.value;
}

no_mu : (u : List ℕ) (m : ℤ) → IsMu a3 u w132 m → 3 ≤ word_length a3 u → m ≡ pos 0
no_mu u m is long = let none : word_length a3 w132 - word_length a3 u ≡ 0 = omega (arith, long, length-132) in rw none at is.value

not_corrected : (u : List ℕ) (m : ℤ) → IsMu a3 u w132 m → m ≢ pos 0 → IsLeftDescent a3 u 2 → ⊥
not_corrected u m is some second = ⊎_elim
    (λ (first : IsLeftDescent a3 u 1). some (no_mu u m is (two_descents u first second)))
    (λ (other : IsLeftDescent a3 u 1 → ⊥).
    let same : SameElement a3 u (3 ∷ 2 ∷ []) = same-trans a3 admissible (mu-left a3 admissible w132 u 1 m is some shorter_1 other)
    (same-square a3 admissible 1 (3 ∷ 2 ∷ [])) in
    omega (arith, length_same same, length_same (same_cons 2 same), length-32, length-232, second))
    (shortens a3 u 1)

-- ---- the step

lower : SameElement a3 (2 ∷ 2 ∷ w132) w132
lower = same-square a3 admissible 2 w132

shorter : IsDescent Left a3 (2 ∷ w132) 2
shorter = omega (arith, length_same lower, length-132, length-2132)

none : AreCorrections Left a3 2 (2 ∷ 2 ∷ w132) []
none = record {
  each = λ i d l. absurd (omega (arith, l));
  once = λ u m c. absurd (not_corrected u m (mu_moved (2 ∷ 2 ∷ w132) w132 u m lower c.is_mu) c.some c.shortens);
}

lower_at : (x y : List ℕ) → SameElement a3 x y → (k : ℕ)
    → kl_polynomial a3 admissible x (2 ∷ 2 ∷ w132) k ≡ kl_polynomial a3 admissible y w132 k
lower_at x y same k = ap (λ (f : Coefficients). f k) (kl_polynomial-same a3 admissible same lower)

stepped : (k : ℕ) → kl_polynomial a3 admissible (2 ∷ []) (2 ∷ w132) k
    ≡ minus (step Left a3 2 (λ x. kl_polynomial a3 admissible x (2 ∷ 2 ∷ w132)) (2 ∷ [])) zero_polynomial k
stepped k = recursion a3 admissible Left (2 ∷ w132) 2 shorter (λ x. kl_polynomial a3 admissible x (2 ∷ 2 ∷ w132))
    (kl_polynomial-is_row a3 admissible (2 ∷ 2 ∷ w132)) [] none (λ w x. kl_polynomial a3 admissible x w)
    (λ i d l. absurd (omega (arith, l))) (λ x. kl_polynomial a3 admissible x (2 ∷ w132)) (kl_polynomial-is_row a3 admissible (2 ∷ w132))
    (2 ∷ []) k

summed : (k : ℕ) → kl_polynomial a3 admissible (2 ∷ []) (2 ∷ w132) k ≡ coefficient (pos 1 ∷ pos 1 ∷ []) k
summed zero = stepped zero ∙ rw (length-22, length-2, lower_at (2 ∷ 2 ∷ []) [] (same-square a3 admissible 2 []) zero, at_e zero) refl
summed (suc zero) = stepped (suc zero)
    ∙ rw (
      length-22,
      length-2,
      lower_at (2 ∷ 2 ∷ []) [] (same-square a3 admissible 2 []) (suc zero),
      at_e (suc zero),
      lower_at (2 ∷ []) (2 ∷ []) (same-refl a3 admissible (2 ∷ [])) zero,
      at_2 zero,
    ) refl
summed (suc (suc k)) = stepped (suc (suc k))
    ∙ rw (
      length-22,
      length-2,
      lower_at (2 ∷ 2 ∷ []) [] (same-square a3 admissible 2 []) (suc (suc k)),
      at_e (suc (suc k)),
      lower_at (2 ∷ []) (2 ∷ []) (same-refl a3 admissible (2 ∷ [])) (suc k),
      at_2 (suc k),
    ) refl

pub p_2_2132 : IsKazhdanLusztig a3 (2 ∷ []) (2 ∷ 1 ∷ 3 ∷ 2 ∷ []) (coefficient (pos 1 ∷ pos 1 ∷ []))
p_2_2132 = kl_polynomial-by a3 admissible (2 ∷ []) (2 ∷ w132) (coefficient (pos 1 ∷ pos 1 ∷ [])) (λ k. sym (summed k))

-- ---- mu(2,2132), the coefficient of q

pub mu_2_2132 : IsMu a3 (2 ∷ []) (2 ∷ 1 ∷ 3 ∷ 2 ∷ []) (pos 1)
mu_2_2132 =
    mu-by_polynomial a3 admissible (2 ∷ []) (2 ∷ w132) (pos 1) (coefficient (pos 1 ∷ pos 1 ∷ [])) p_2_2132 (rw (length-2132, length-2) refl)

-- ---- Q(13,13213), by the longest element

abbrev w0 : List ℕ
w0 = 1 ∷ 3 ∷ 2 ∷ 1 ∷ 3 ∷ 2 ∷ []

turned_1 : matrix a3 w0 3 1 ≡ negsuc 0
unfolding words_on_literals
turned_1 = refl

turned_2 : matrix a3 w0 2 2 ≡ negsuc 0
unfolding words_on_literals
turned_2 = refl

turned_3 : matrix a3 w0 1 3 ≡ negsuc 0
unfolding words_on_literals
turned_3 = refl

is_longest : IsLongest a3 w0
unfolding type_matrix
is_longest = record { letters = letters; descents = descents }
  where
    letter : (s : ℕ) → 1 ≤ s → s ≤ 3 → IsLetter 3 s
    letter s low high = record { from_one = low; to_rank = high }

    letters : IsWord 3 w0
    letters zero d l = letter 1 (omega arith) (omega arith)
    letters (suc zero) d l = letter 3 (omega arith) (omega arith)
    letters (suc (suc zero)) d l = letter 2 (omega arith) (omega arith)
    letters (suc (suc (suc zero))) d l = letter 1 (omega arith) (omega arith)
    letters (suc (suc (suc (suc zero)))) d l = letter 3 (omega arith) (omega arith)
    letters (suc (suc (suc (suc (suc zero))))) d l = letter 2 (omega arith) (omega arith)
    letters (suc (suc (suc (suc (suc (suc i)))))) d l = absurd (omega (arith, l))

    descents : (s : ℕ) → IsLetter 3 s → IsRightDescent a3 w0 s
    descents zero l = absurd (omega (arith, l.from_one))
    descents (suc zero) l =
        (descent_by_coordinate a3 admissible w0 1 l).1 (3, letter 3 (omega arith) (omega arith), rw turned_1 (omega (arith, ints)))
    descents (suc (suc zero)) l =
        (descent_by_coordinate a3 admissible w0 2 l).1 (2, letter 2 (omega arith) (omega arith), rw turned_2 (omega (arith, ints)))
    descents (suc (suc (suc zero))) l =
        (descent_by_coordinate a3 admissible w0 3 l).1 (1, letter 1 (omega arith) (omega arith), rw turned_3 (omega (arith, ints)))
    descents (suc (suc (suc (suc s)))) l = absurd (omega (arith, l.to_rank))

-- w0 13 is 2132
form-1313 : normal_form a3 (1 ∷ 3 ∷ 1 ∷ 3 ∷ []) ≡ []
unfolding words_on_literals
form-1313 = refl

same_in : (u v : List ℕ) {x y : List ℕ} → SameElement a3 x y → SameElement a3 (u ++ (x ++ v)) (u ++ (y ++ v))
same_in u v same = same-append a3 admissible (same-refl a3 admissible u) (same-append a3 admissible same (same-refl a3 admissible v))

turned_back : SameElement a3 (w0 ++ 2 ∷ w132) (1 ∷ 3 ∷ [])
turned_back =
    same-trans a3 admissible (same_in (1 ∷ 3 ∷ 2 ∷ 1 ∷ 3 ∷ []) w132 (same-square a3 admissible 2 []))
    (same-trans a3 admissible
    (same_in (1 ∷ 3 ∷ 2 ∷ []) (2 ∷ []) (same-sym a3 admissible (rw form-1313 at (normal_form-same a3 admissible (1 ∷ 3 ∷ 1 ∷ 3 ∷ [])))))
    (same_in (1 ∷ 3 ∷ []) [] (same-square a3 admissible 2 [])))

twice : SameElement a3 (w0 ++ w0) []
twice = longest-twice a3 admissible w0 is_longest

turned_13 : SameElement a3 (w0 ++ 1 ∷ 3 ∷ []) (2 ∷ w132)
turned_13 =
    same-trans a3 admissible (same-append a3 admissible (same-refl a3 admissible w0) (same-sym a3 admissible turned_back))
    (same-append a3 admissible twice (same-refl a3 admissible (2 ∷ w132)))

-- and w0 13213 is 2
turned_13213 : SameElement a3 (w0 ++ 1 ∷ 3 ∷ 2 ∷ 1 ∷ 3 ∷ []) (2 ∷ [])
turned_13213 =
    same-trans a3 admissible
    (same-append a3 admissible (same-refl a3 admissible w0)
    (same-sym a3 admissible (same-push_twice a3 admissible (1 ∷ 3 ∷ 2 ∷ 1 ∷ 3 ∷ []) 2)))
    (same-append a3 admissible twice (same-refl a3 admissible (2 ∷ [])))

pub q_13_13213 : IsInverse a3 (1 ∷ 3 ∷ []) (1 ∷ 3 ∷ 2 ∷ 1 ∷ 3 ∷ []) (coefficient (pos 1 ∷ pos 1 ∷ []))
q_13_13213 = inversion-longest a3 admissible w0 is_longest (1 ∷ 3 ∷ []) (1 ∷ 3 ∷ 2 ∷ 1 ∷ 3 ∷ []) (coefficient (pos 1 ∷ pos 1 ∷ []))
    (kazhdan_lusztig-same a3 admissible (2 ∷ []) (w0 ++ 1 ∷ 3 ∷ 2 ∷ 1 ∷ 3 ∷ []) (2 ∷ w132) (w0 ++ 1 ∷ 3 ∷ [])
    (coefficient (pos 1 ∷ pos 1 ∷ [])) (same-sym a3 admissible turned_13213) (same-sym a3 admissible turned_13) p_2_2132)
