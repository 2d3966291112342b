-- The elements of A 2: their normal forms, and the lengths of short words.
use Rattle.std.proofs.Common.{◌≡◌, ℕ, zero, suc, ◌≤◌, List, [], ◌∷◌, length, negsuc, refl, arith}
use Rattle.std.proofs.lemmas.Int.{ints}
use Rattle.cox_base.specs.Matrix.{IsLetter, IsWord}
use Rattle.cox_base.specs.Admissible.{IsAdmissible}
use Rattle.cox_base.proofs.AdmissibleMatrices.{IsAdmissible-integer_matrix}
use Rattle.cox_base.proofs.LabelRows.{type_matrix-IsCoxeterMatrix}
use Rattle.cox_base.specs.NamedType.{type_matrix}
use Rattle.cox_base.specs.Element.{matrix}
use Rattle.cox_base.specs.ShortLex.{normal_form, words_up_to}
use Rattle.cox_base.specs.Length.{word_length}
use Rattle.cox_base.specs.Members.{IsElement}
use Rattle.cox_base.specs.Descents.{IsRightDescent}
use Rattle.cox_reflect.proofs.Members.{Each, none, more, Each-in}
use Rattle.cox_reflect.proofs.RootSigns.{descent_by_coordinate}
use Rattle.cox_reflect.proofs.Search.{IsWord-normal_form, In-words_up_to}
use Rattle.cox_reflect.proofs.Lengths.{word_length-is}
use Rattle.cox_inverse.specs.Longest.{IsLongest}
use Rattle.cox_inverse.proofs.LongestWord.{longest-most}
use Rattle.cox_laws.specs.Examples.{a2}
use Rattle.cox_laws.proofs.WordsOnLiterals.{words_on_literals}

pub admissible : IsAdmissible a2
admissible = IsAdmissible-integer_matrix (type_matrix 65 2) (type_matrix-IsCoxeterMatrix 65 2 refl)

pub length-e : word_length a2 [] ≡ 0
unfolding words_on_literals
length-e = refl

pub length-1 : word_length a2 (1 ∷ []) ≡ 1
unfolding words_on_literals
length-1 = refl

pub length-2 : word_length a2 (2 ∷ []) ≡ 1
unfolding words_on_literals
length-2 = refl

pub length-11 : word_length a2 (1 ∷ 1 ∷ []) ≡ 0
unfolding words_on_literals
length-11 = refl

pub length-22 : word_length a2 (2 ∷ 2 ∷ []) ≡ 0
unfolding words_on_literals
length-22 = refl

pub length-12 : word_length a2 (1 ∷ 2 ∷ []) ≡ 2
unfolding words_on_literals
length-12 = refl

pub length-21 : word_length a2 (2 ∷ 1 ∷ []) ≡ 2
unfolding words_on_literals
length-21 = refl

pub length-121 : word_length a2 (1 ∷ 2 ∷ 1 ∷ []) ≡ 3
unfolding words_on_literals
length-121 = refl

pub length-212 : word_length a2 (2 ∷ 1 ∷ 2 ∷ []) ≡ 3
unfolding words_on_literals
length-212 = refl

pub length-122 : word_length a2 (1 ∷ 2 ∷ 2 ∷ []) ≡ 1
unfolding words_on_literals
length-122 = refl

pub length-211 : word_length a2 (2 ∷ 1 ∷ 1 ∷ []) ≡ 1
unfolding words_on_literals
length-211 = refl

pub length-221 : word_length a2 (2 ∷ 2 ∷ 1 ∷ []) ≡ 1
unfolding words_on_literals
length-221 = refl

pub length-112 : word_length a2 (1 ∷ 1 ∷ 2 ∷ []) ≡ 1
unfolding words_on_literals
length-112 = refl

pub length-1211 : word_length a2 (1 ∷ 2 ∷ 1 ∷ 1 ∷ []) ≡ 2
unfolding words_on_literals
length-1211 = refl

pub length-1212 : word_length a2 (1 ∷ 2 ∷ 1 ∷ 2 ∷ []) ≡ 2
unfolding words_on_literals
length-1212 = refl

pub length-2121 : word_length a2 (2 ∷ 1 ∷ 2 ∷ 1 ∷ []) ≡ 2
unfolding words_on_literals
length-2121 = refl

turned_1 : matrix a2 (1 ∷ 2 ∷ 1 ∷ []) 2 1 ≡ negsuc 0
unfolding words_on_literals
turned_1 = refl

turned_2 : matrix a2 (1 ∷ 2 ∷ 1 ∷ []) 1 2 ≡ negsuc 0
unfolding words_on_literals
turned_2 = refl

is_longest : IsLongest a2 (1 ∷ 2 ∷ 1 ∷ [])
unfolding type_matrix
is_longest = record { letters = letters; descents = descents }
  where
    letter : (s : ℕ) → 1 ≤ s → s ≤ 2 → IsLetter 2 s
    letter s low high = record { from_one = low; to_rank = high }

    letters : IsWord 2 (1 ∷ 2 ∷ 1 ∷ [])
    letters zero d l = letter 1 (omega arith) (omega arith)
    letters (suc zero) d l = letter 2 (omega arith) (omega arith)
    letters (suc (suc zero)) d l = letter 1 (omega arith) (omega arith)
    letters (suc (suc (suc i))) d l = absurd (omega (arith, l))

    descents : (s : ℕ) → IsLetter 2 s → IsRightDescent a2 (1 ∷ 2 ∷ 1 ∷ []) s
    descents zero l = absurd (omega (arith, l.from_one))
    descents (suc zero) l =
        (descent_by_coordinate a2 admissible (1 ∷ 2 ∷ 1 ∷ []) 1 l).1
        (2, letter 2 (omega arith) (omega arith), rw turned_1 (omega (arith, ints)))
    descents (suc (suc zero)) l =
        (descent_by_coordinate a2 admissible (1 ∷ 2 ∷ 1 ∷ []) 2 l).1
        (1, letter 1 (omega arith) (omega arith), rw turned_2 (omega (arith, ints)))
    descents (suc (suc (suc s))) l = absurd (omega (arith, l.to_rank))

-- the six elements
pub data IsOne : List ℕ → Type 0 where
  is_e : IsOne []
  is_1 : IsOne (1 ∷ [])
  is_2 : IsOne (2 ∷ [])
  is_12 : IsOne (1 ∷ 2 ∷ [])
  is_21 : IsOne (2 ∷ 1 ∷ [])
  is_121 : IsOne (1 ∷ 2 ∷ 1 ∷ [])

-- of the words of at most three letters those that are normal forms are these
each_is : Each (λ x. normal_form a2 x ≡ x → IsOne x) (words_up_to 2 3)
unfolding words_on_literals
each_is =
    more (λ q. is_e) (more (λ q. is_1) (more (λ q. is_2) (more (λ q. let other : [] ≡ (1 ∷ 1 ∷ []) = q in absurd (cc other))
    (more (λ q. is_12) (more (λ q. is_21) (more (λ q. let other : [] ≡ (2 ∷ 2 ∷ []) = q in absurd (cc other))
    (more (λ q. let other : (1 ∷ []) ≡ (1 ∷ 1 ∷ 1 ∷ []) = q in absurd (cc other))
    (more (λ q. let other : (2 ∷ []) ≡ (1 ∷ 1 ∷ 2 ∷ []) = q in absurd (cc other)) (more (λ q. is_121)
    (more (λ q. let other : (1 ∷ []) ≡ (1 ∷ 2 ∷ 2 ∷ []) = q in absurd (cc other))
    (more (λ q. let other : (2 ∷ []) ≡ (2 ∷ 1 ∷ 1 ∷ []) = q in absurd (cc other))
    (more (λ q. let other : (1 ∷ 2 ∷ 1 ∷ []) ≡ (2 ∷ 1 ∷ 2 ∷ []) = q in absurd (cc other))
    (more (λ q. let other : (1 ∷ []) ≡ (2 ∷ 2 ∷ 1 ∷ []) = q in absurd (cc other))
    (more (λ q. let other : (2 ∷ []) ≡ (2 ∷ 2 ∷ 2 ∷ []) = q in absurd (cc other)) none))))))))))))))

pub element-one : (x : List ℕ) → IsElement a2 x → IsOne x
unfolding type_matrix
element-one x is =
    let most = longest-most a2 admissible (1 ∷ 2 ∷ 1 ∷ []) is_longest x in
    let short : length x ≤ 3 = omega (arith, most, length-121, word_length-is a2 x, long) in
    Each-in each_is (In-words_up_to 2 3 x (rw is.normal at (IsWord-normal_form a2 admissible x)) short) is.normal
  where
    long : length (normal_form a2 x) ≡ length x
    long = rw is.normal refl

pub element-e : IsElement a2 []
unfolding words_on_literals
element-e = record { normal = refl }

pub element-1 : IsElement a2 (1 ∷ [])
unfolding words_on_literals
element-1 = record { normal = refl }

pub element-2 : IsElement a2 (2 ∷ [])
unfolding words_on_literals
element-2 = record { normal = refl }

pub element-12 : IsElement a2 (1 ∷ 2 ∷ [])
unfolding words_on_literals
element-12 = record { normal = refl }

pub element-21 : IsElement a2 (2 ∷ 1 ∷ [])
unfolding words_on_literals
element-21 = record { normal = refl }

pub element-121 : IsElement a2 (1 ∷ 2 ∷ 1 ∷ [])
unfolding words_on_literals
element-121 = record { normal = refl }
