-- The ShortLex order of words, and the normal form of an element: the ShortLex-first word that names it.
use Rattle.std.specs.Prelude.{ℕ, zero, suc, Bool, List, [], ◌∷◌, ◌++◌, map, length, find, unwrap_or}
use Rattle.std.specs.List.{range_with_len, flat_map, list_all}
use Rattle.std.specs.Ordering.{int_eq, nat_cmp, ordering_then}
use Rattle.std.specs.Cmp.Lexicographic.{slice_cmp}
use Rattle.std.specs.declared.cmp.Ordering.{Ordering}
use Rattle.cox_base.specs.IntegerMatrix.{IntegerMatrix}
use Rattle.cox_base.specs.Element.{Matrix, matrix}

-- the letters 1 to n, rising
unfoldable pub letters : ℕ → List ℕ
letters n = range_with_len 1 n

-- the words of k letters, by their first letter, then by the second, and so on
unfoldable pub words_of_length : ℕ → ℕ → List (List ℕ)
words_of_length n zero = [] ∷ []
words_of_length n (suc k) = flat_map (λ s. map (λ w. s ∷ w) (words_of_length n k)) (letters n)

-- the words of at most k letters in ShortLex order: shorter ones first, then by letters
unfoldable pub words_up_to : ℕ → ℕ → List (List ℕ)
words_up_to n zero = words_of_length n zero
words_up_to n (suc k) = words_up_to n k ++ words_of_length n (suc k)

-- whether two matrices of rank n are equal, row by row and column by column
unfoldable pub same_matrix : ℕ → Matrix → Matrix → Bool
same_matrix n M N = list_all (λ i. list_all (λ t. int_eq (M i t) (N i t)) (letters n)) (letters n)

-- The normal form of the element that u names: of the words of at most |u| letters, in ShortLex order, the first with the matrix M(u).
unfoldable pub normal_form : IntegerMatrix → List ℕ → List ℕ
normal_form A u = unwrap_or (find (λ w. same_matrix A.rank (matrix A w) (matrix A u)) (words_up_to A.rank (length u))) u

-- the ShortLex order of two words: by their lengths, then by the first letter that differs
abbrev pub shortlex_cmp : List ℕ → List ℕ → Ordering
shortlex_cmp v w = ordering_then (nat_cmp (length v) (length w)) (slice_cmp nat_cmp v w)
