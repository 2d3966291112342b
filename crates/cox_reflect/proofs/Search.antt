-- The normal form, found by search: it names the element, no word of the element is shorter, and it depends on the element alone.
use Rattle.std.proofs.Common.{◌↔◌, ◌≡◌, ℕ, zero, suc, ◌+◌, ◌≤◌, ◌<◌, Bool, true, List, [], ◌∷◌, ◌++◌, map, length, refl, ap, sym}
use Rattle.std.proofs.Common.{◌∙◌, ⊎_elim, arith, subst, Some, find}
use Rattle.std.proofs.Math.Path.{fun_ext}
use Rattle.std.proofs.lemmas.Bool.{cases_eq, cases_lt, and_parts, and_from}
use Rattle.std.proofs.lemmas.Bool.Decides.{Decides-int_eq}
use Rattle.std.specs.Ordering.{int_eq}
use Rattle.std.specs.List.{list_all}
use Rattle.cox_base.specs.Matrix.{IsLetter, IsWord}
use Rattle.cox_base.specs.IntegerMatrix.{IntegerMatrix}
use Rattle.cox_base.specs.Admissible.{IsAdmissible}
use Rattle.cox_base.specs.Element.{matrix, SameElement}
use Rattle.cox_base.specs.ShortLex.{letters, words_of_length, words_up_to, same_matrix, normal_form}
use Rattle.std.proofs.lemmas.List.{append-nil, append_assoc}
use Rattle.std.proofs.lemmas.List.Elements.{All-nil, All-cons, All-head, All-tail}
use Rattle.cox_reflect.proofs.Sums.{letter_cases}
use Rattle.cox_base.specs.Length.{word_length}
use Rattle.cox_base.proofs.Positions.{find-passes}
use Rattle.std.specs.Bool.{one_answer}
use Rattle.cox_reflect.proofs.Elements.{same-refl, same-equal, same-sym, same-trans, same-cons, same-outside}
use Rattle.cox_reflect.proofs.Members.{In, here, there, Each, none, more, In-append_left, In-append_right, In-map, In-flat_map, In-range}
use Rattle.cox_reflect.proofs.Members.{Each-append, Each-map, Each-flat_map, Each-weaker, Each-range, Each-find}
use Rattle.cox_reflect.proofs.Members.{find-in, find-prefix}

-- a test that holds of each of a list
test-out : (test : ℕ → Bool) (ts : List ℕ) → list_all test ts ≡ true → (t : ℕ) → In t ts → test t ≡ true
test-out test [] e t i = elim i [ ]
test-out test (x ∷ ts) e t here = (and_parts (test x) (list_all test ts) e).0
test-out test (x ∷ ts) e t (there i) = test-out test ts (and_parts (test x) (list_all test ts) e).1 t i

test-in : (test : ℕ → Bool) (P : ℕ → Type 0) (ts : List ℕ) → Each P ts → ((t : ℕ) → P t → test t ≡ true) → list_all test ts ≡ true
test-in test P [] none h = refl
test-in test P (t ∷ ts) (more p each) h = and_from (test t) (list_all test ts) (h t p) (test-in test P ts each h)

-- .. and of each letter
letters-out : (n : ℕ) (test : ℕ → Bool) → list_all test (letters n) ≡ true → (t : ℕ) → IsLetter n t → test t ≡ true
unfolding letters
letters-out n test e t l = test-out test (letters n) e t (In-range 1 n t l.from_one (omega (arith, l.to_rank)))

letters-in : (n : ℕ) (test : ℕ → Bool) → ((t : ℕ) → IsLetter n t → test t ≡ true) → list_all test (letters n) ≡ true
unfolding letters
letters-in n test h = test-in test (λ s. (1 ≤ s) × (s < 1 + n)) (letters n) (Each-range 1 n)
    (λ t p. h t (record { from_one = p.0; to_rank = omega (arith, p.1) }))

-- the test of the search passes exactly the words of the element
passes-same : (A : IntegerMatrix) (w u : List ℕ) → same_matrix A.rank (matrix A w) (matrix A u) ≡ true
    → SameElement A w u
unfolding same_matrix
passes-same A w u e = record {
  equal = λ i t k l. (Decides-int_eq (matrix A w i t) (matrix A u i t)).0
      (letters-out A.rank (λ t. int_eq (matrix A w i t) (matrix A u i t))
      (letters-out A.rank (λ i. list_all (λ t. int_eq (matrix A w i t) (matrix A u i t)) (letters A.rank)) e i k) t l);
}

pub same-passes : (A : IntegerMatrix) (w u : List ℕ) → SameElement A w u
    → same_matrix A.rank (matrix A w) (matrix A u) ≡ true
unfolding same_matrix
same-passes A w u e =
    letters-in A.rank (λ i. list_all (λ t. int_eq (matrix A w i t) (matrix A u i t)) (letters A.rank))
    (λ i k. letters-in A.rank (λ t. int_eq (matrix A w i t) (matrix A u i t))
    (λ t l. (Decides-int_eq (matrix A w i t) (matrix A u i t)).1 (e.equal i t k l)))

-- ---- the list that is searched

pub record IsWordWithin (n k : ℕ) (w : List ℕ) : Type 0 where
  pub word : IsWord n w
  pub size : length w ≤ k

pub Each-words_of_length : (n k : ℕ) → Each (λ w. (length w ≡ k) × IsWord n w) (words_of_length n k)
unfolding words_of_length letters
Each-words_of_length n zero = more (refl, All-nil (IsLetter n)) none
Each-words_of_length n (suc k) =
    Each-flat_map (λ w. (length w ≡ suc k) × IsWord n w) (λ s. map (λ w. s ∷ w) (words_of_length n k))
    (Each-weaker
    (λ s h. Each-map (λ w. (length w ≡ suc k) × IsWord n w) (λ w. s ∷ w)
    (Each-weaker (λ w e. (ap suc e.0, All-cons (IsLetter n) s w (record { from_one = h.0; to_rank = omega (arith, h) }) e.1))
    (Each-words_of_length n k)))
    (Each-range 1 n))

pub Each-words_up_to : (n k : ℕ) → Each (IsWordWithin n k) (words_up_to n k)
unfolding words_up_to
Each-words_up_to n zero =
    Each-weaker (λ w e. record { word = e.1; size = omega (arith, e.0) }) (Each-words_of_length n zero)
Each-words_up_to n (suc k) =
    Each-append (Each-weaker (λ w h. record { word = h.word; size = omega (arith, h.size) }) (Each-words_up_to n k))
    (Each-weaker (λ w e. record { word = e.1; size = omega (arith, e.0) }) (Each-words_of_length n (suc k)))

In-words_of_length : (n : ℕ) (w : List ℕ) → IsWord n w → In w (words_of_length n (length w))
unfolding words_of_length letters
In-words_of_length n [] h = here
In-words_of_length n (s ∷ w) h =
    let l : IsLetter n s = All-head (IsLetter n) s w h
    in In-flat_map (λ s. map (λ w. s ∷ w) (words_of_length n (length w))) (In-range 1 n s l.from_one (omega (arith, l.to_rank)))
    (In-map (λ w. s ∷ w) (In-words_of_length n w (All-tail (IsLetter n) s w h)))

-- the shorter list is a prefix of the longer
words_up_to-prefix : (n j k : ℕ) → j ≤ k → (rest : List (List ℕ)) × (words_up_to n k ≡ words_up_to n j ++ rest)
unfolding words_up_to
words_up_to-prefix n j zero l = ([], let e : j ≡ 0 = omega arith in rw e (sym (append-nil (words_up_to n 0))))
words_up_to-prefix n j (suc k) l = ⊎_elim last (before (words_up_to-prefix n j k)) (cases_eq j (suc k))
  where
    last : j ≡ suc k → (rest : List (List ℕ)) × (words_up_to n (suc k) ≡ words_up_to n j ++ rest)
    last e = ([], rw e (sym (append-nil (words_up_to n (suc k)))))

    before : (j ≤ k → (rest : List (List ℕ)) × (words_up_to n k ≡ words_up_to n j ++ rest)) → (j ≡ suc k → ⊥)
        → (rest : List (List ℕ)) × (words_up_to n (suc k) ≡ words_up_to n j ++ rest)
    before prefix ne =
        let f = prefix (omega arith) in (
          f.0 ++ words_of_length n (suc k),
          rw f.1 (append_assoc (words_up_to n j) f.0 (words_of_length n (suc k))),
        )

In-words_up_to_its_length : (n : ℕ) (w : List ℕ) → IsWord n w → In w (words_up_to n (length w))
unfolding words_up_to
In-words_up_to_its_length n [] h = In-words_of_length n [] h
In-words_up_to_its_length n (s ∷ w) h = In-append_right (words_up_to n (length w)) (In-words_of_length n (s ∷ w) h)

pub In-words_up_to : (n k : ℕ) (w : List ℕ) → IsWord n w → length w ≤ k → In w (words_up_to n k)
In-words_up_to n k w h l =
    let f = words_up_to-prefix n (length w) k l
    in subst (In w) (sym f.1) (In-append_left f.0 (In-words_up_to_its_length n w h))

-- ---- a word without its letters outside the rank

record Lettered (A : IntegerMatrix) (u : List ℕ) : Type 0 where
  letters_of : List ℕ
  word : IsWord A.rank letters_of
  size : length letters_of ≤ length u
  same : SameElement A letters_of u

unfoldable pub test_of : IntegerMatrix → List ℕ → List ℕ → Bool
test_of A u w = same_matrix A.rank (matrix A w) (matrix A u)

-- what the search for u finds
pub record Found (A : IntegerMatrix) (u : List ℕ) : Type 0 where
  pub first : List ℕ
  pub is : find (test_of A u) (words_up_to A.rank (length u)) ≡ Some first

module _ (A : IntegerMatrix) (g : IsAdmissible A) where
  lettered : (u : List ℕ) → Lettered A u
  lettered [] =
      record { letters_of = []; word = All-nil (IsLetter A.rank); size = omega arith; same = same-refl A g [] }
  lettered (s ∷ u) = ⊎_elim (kept (lettered u)) (dropped (lettered u)) (letter_cases A.rank s)
    where
      kept : Lettered A u → IsLetter A.rank s → Lettered A (s ∷ u)
      kept r l = record {
        letters_of = s ∷ r.letters_of;
        word = All-cons (IsLetter A.rank) s r.letters_of l r.word;
        size = omega (arith, r.size);
        same = same-cons A g s r.same;
      }

      dropped : Lettered A u → (IsLetter A.rank s → ⊥) → Lettered A (s ∷ u)
      dropped r foreign = record {
        letters_of = r.letters_of;
        word = r.word;
        size = omega (arith, r.size);
        same = same-trans A g r.same (same-sym A g (same-outside A g s u foreign));
      }

  pub found : (u : List ℕ) → Found A u
  unfolding test_of
  found u =
      let r = lettered u
      in let f = find-in (test_of A u) (In-words_up_to A.rank (length u) r.letters_of r.word r.size) (same-passes A r.letters_of u r.same)
      in record { first = f.0; is = f.1 }

  pub normal_form-first : (u : List ℕ) (f : Found A u) → normal_form A u ≡ f.first
  unfolding normal_form test_of
  normal_form-first u f = rw f.is

  -- the normal form names the element ..
  pub normal_form-same : (u : List ℕ) → SameElement A (normal_form A u) u
  unfolding test_of
  normal_form-same u =
      let f = found u
      in rw (normal_form-first u f) (passes-same A f.first u (find-passes (test_of A u) (words_up_to A.rank (length u)) f.first f.is))

  -- .. is a word over the letters of the rank ..
  pub IsWord-normal_form : (u : List ℕ) → IsWord A.rank (normal_form A u)
  IsWord-normal_form u =
      let f = found u
      in rw (normal_form-first u f) (Each-find {P = IsWordWithin A.rank (length u)} (test_of A u) f.first
      (Each-words_up_to A.rank (length u)) f.is).word

  pub length-normal_form : (u : List ℕ) → length (normal_form A u) ≤ length u
  length-normal_form u =
      let f = found u
      in rw (normal_form-first u f) (Each-find {P = IsWordWithin A.rank (length u)} (test_of A u) f.first
      (Each-words_up_to A.rank (length u)) f.is).size

  -- a shorter list finds the same word
  find-shorter : (u : List ℕ) (j : ℕ) (y : List ℕ) → j ≤ length u → find (test_of A u) (words_up_to A.rank j) ≡ Some y
      → normal_form A u ≡ y
  find-shorter u j y l e =
      let prefix = words_up_to-prefix A.rank j (length u) l
      in let whole : find (test_of A u) (words_up_to A.rank (length u)) ≡ Some y = rw prefix.1
      (find-prefix (test_of A u) (words_up_to A.rank j) prefix.0 y e)
      in normal_form-first u (record { first = y; is = whole })

  -- .. no word of the element is shorter ..
  pub normal_form-least : (w u : List ℕ) → SameElement A w u → length (normal_form A u) ≤ length w
  unfolding test_of
  normal_form-least w u e = ⊎_elim long short (cases_lt (length u) (length r.letters_of))
    where
      r : Lettered A w
      r = lettered w

      long : length u < length r.letters_of → length (normal_form A u) ≤ length w
      long l = omega (arith, l, r.size, length-normal_form u)

      short : length r.letters_of ≤ length u → length (normal_form A u) ≤ length w
      short l =
          let f = find-in (test_of A u) (In-words_up_to_its_length A.rank r.letters_of r.word)
          (same-passes A r.letters_of u (same-trans A g r.same e))
          in let small : length f.0 ≤ length r.letters_of
          = (Each-find {P = IsWordWithin A.rank (length r.letters_of)} (test_of A u) f.0
          (Each-words_up_to A.rank (length r.letters_of)) f.1).size
          in let is : normal_form A u ≡ f.0 = find-shorter u (length r.letters_of) f.0 l f.1
          in rw is (omega (arith, small, r.size))

  test-equal : (u v : List ℕ) → SameElement A u v → test_of A u ≡ test_of A v
  unfolding test_of
  test-equal u v e = fun_ext (λ w. one_answer (test_of A u w) (test_of A v w)
      (passes-same A w u, same-passes A w u)
      (λ t. same-trans A g (passes-same A w v t) (same-sym A g e), λ h. same-passes A w v (same-trans A g h e)))

  normal_form-shorter : (u v : List ℕ) → SameElement A u v → length u ≤ length v → normal_form A u ≡ normal_form A v
  normal_form-shorter u v e l =
      let f = found u
      in let there : find (test_of A v) (words_up_to A.rank (length u)) ≡ Some f.first = rw (← (test-equal u v e)) f.is
      in normal_form-first u f ∙ sym (find-shorter v (length u) f.first l there)

  -- .. and it depends on the element alone
  pub normal_form-equal : {u v : List ℕ} → SameElement A u v → normal_form A u ≡ normal_form A v
  normal_form-equal {u} {v} e =
      ⊎_elim (λ (l : length u < length v). normal_form-shorter u v e (omega arith))
      (λ (l : length v ≤ length u). sym (normal_form-shorter v u (same-sym A g e) l))
      (cases_lt (length u) (length v))

  pub word_length-least : {w u : List ℕ} → SameElement A w u → word_length A u ≤ length w
  unfolding word_length
  word_length-least {w} {u} e = normal_form-least w u e

  pub word_length-equal : {u v : List ℕ} → SameElement A u v → word_length A u ≡ word_length A v
  unfolding word_length
  word_length-equal e = ap length (normal_form-equal e)

  pub word_length-length : (u : List ℕ) → word_length A u ≤ length u
  unfolding word_length
  word_length-length u = length-normal_form u

  pub normal_form-tells : (u v : List ℕ) → SameElement A u v ↔ (normal_form A u ≡ normal_form A v)
  normal_form-tells u v = (
    λ e. normal_form-equal e,
    λ q. same-trans A g (same-sym A g (normal_form-same u)) (same-trans A g (same-equal A g q) (normal_form-same v)),
  )
