-- The column of the identity, that of a member which a letter leads to, and the way to any member along its word.
use Rattle.std.proofs.Common.{◌≡◌, ℕ, zero, suc, ◌+◌, ◌<◌, ◌≤◌, List, [], ◌∷◌, ◌++◌, length, take, slice_index_or, Contains}
use Rattle.std.proofs.Common.{ℤ, refl, ap, sym, ◌∙◌, arith, ⊎_elim}
use Rattle.std.proofs.lemmas.Bool.{cases_lt}
use Rattle.std.proofs.lemmas.List.{append-nil, get_or_past, take_more, take-append-drop, length-take-le, get_or_append_left}
use Rattle.std.proofs.lemmas.List.{length_push}
use Rattle.std.proofs.Math.Seq.{get_or-append_seam}
use Rattle.std.specs.Prelude.{drop}
use Rattle.std.proofs.lemmas.List.Elements.{All-get_or}
use Rattle.cox_base.specs.Matrix.{IsLetter}
use Rattle.cox_base.specs.IntegerMatrix.{IntegerMatrix}
use Rattle.cox_base.specs.Admissible.{IsAdmissible}
use Rattle.cox_base.specs.Element.{SameElement}
use Rattle.cox_base.specs.ShortLex.{normal_form}
use Rattle.cox_base.specs.Length.{word_length}
use Rattle.cox_base.specs.Descents.{IsRightDescent}
use Rattle.cox_base.specs.Bruhat.{IsSubword}
use Rattle.cox_reflect.proofs.WordsAndSubwords.{IsSubword-refl, IsSubword-nil, IsSubword-append}
use Rattle.cox_reflect.proofs.Elements.{same-refl, same-sym, same-push}
use Rattle.cox_reflect.proofs.Search.{normal_form-same, normal_form-equal, word_length-equal}
use Rattle.cox_reflect.proofs.Lengths.{IsReduced-nil, IsReduced-prefix}
use Rattle.cox_reflect.proofs.NormalElements.{element-word, element-length}
use Rattle.cox_poly.specs.Coefficients.{Coefficients, one_polynomial}
use Rattle.cox_poly.specs.Polynomial.{coefficient}
use Rattle.cox_rpoly.specs.RPolynomial.{r_polynomial}
use Rattle.cox_rpoly.specs.Terms.{numbered}
use Rattle.cox_rpoly.proofs.PolynomialsOfElements.{r_polynomial-same, r_polynomial-not_below}
use Rattle.cox_rpoly.specs.InverseOperators.{unit}
use Rattle.cox_rpoly.proofs.Expansion.{unit-one, unit-other}
use Rattle.cox_hecke.proofs.RPolynomials.{r-word}
use Rattle.cox_context.specs.Closed.{IsClosed}
use Rattle.cox_context.specs.Numbers.{word_at}
use Rattle.cox_context.proofs.PlacedWords.{contains-placed}
use Rattle.cox_context.proofs.Shifting.{first-member, length-at, member-below, later-not_below}
use Rattle.cox_rowcheck.specs.Columns.{IsColumn}
use Rattle.cox_rowcheck.specs.EntryLists.{HasOneMore}

-- the entries of the first i members are theirs in the column of v
pub record AreEntries (A : IntegerMatrix) (members : List (List ℕ)) (v : List ℕ) (i : ℕ) (list : List (List ℤ)) : Type 0 where
  pub size : length list ≡ i
  pub each : (j k : ℕ) → j < i → coefficient (numbered list j) k ≡ r_polynomial A (word_at members j) v k

pub entries-none : (A : IntegerMatrix) (members : List (List ℕ)) (v : List ℕ) → AreEntries A members v 0 []
entries-none A members v = record { size = refl; each = λ j k l. absurd (omega (arith, l)) }

-- one more
pub entries-more : (A : IntegerMatrix) (members : List (List ℕ)) (v : List ℕ) (i : ℕ) (old new : List (List ℤ))
    → AreEntries A members v i old → HasOneMore old new (r_polynomial A (word_at members i) v) → AreEntries A members v (i + 1) new
entries-more A members v i old new are more = rw more.list record {
  size = omega (arith, length_push old more.entry, are.size);
  each = λ j k l. ⊎_elim
      (λ (before : j < i). rw (get_or_append_left old (more.entry ∷ []) [] j (omega (arith, before, are.size))) (are.each j k before))
      (λ (behind : i ≤ j). last j k (omega (arith, behind, l)))
      (cases_lt j i);
}
  where
    last : (j k : ℕ) → j ≡ i → coefficient (numbered (old ++ more.entry ∷ []) j) k ≡ r_polynomial A (word_at members j) v k
    last j k e =
        let here : numbered (old ++ more.entry ∷ []) i ≡ more.entry
        = ap (λ (m : ℕ). numbered (old ++ more.entry ∷ []) m) (sym are.size) ∙ get_or-append_seam old more.entry [] []
        in rw (e, here) (more.value k)

-- the member `at` is the first i letters of the word, and the next letter leads on from it
pub record LeadsOn (A : IntegerMatrix) (members : List (List ℕ)) (word : List ℕ) (i at : ℕ) : Type 0 where
  pub letter : IsLetter A.rank (slice_index_or word i 0)
  pub ascent : IsRightDescent A (word_at members at) (slice_index_or word i 0) → ⊥
  pub short : length (word_at members at) ≡ i
  pub there : Contains members (normal_form A (word_at members at ++ slice_index_or word i 0 ∷ []))

module _ (A : IntegerMatrix) (g : IsAdmissible A) (members : List (List ℕ)) (closed : IsClosed A members) where
  -- R(x,e) is 1 for the identity, which is the first member, and else 0
  pub column-first : (one : List ℤ) → ((k : ℕ) → coefficient one k ≡ one_polynomial k) → IsColumn A members (word_at members 0) (one ∷ [])
  column-first one is = record {
    size = omega (arith, closed.some);
    value = λ i k l. rw (first-member A g members closed)
        (value i k l ∙ sym (ap (λ (f : Coefficients). f k) (r-word A g (word_at members i) [] [] (IsReduced-nil A g) (same-refl A g []))));
  }
    where
      empty : (n : List ℕ) → length n ≡ 0 → n ≡ []
      empty [] z = refl
      empty (s ∷ x) z = absurd (omega (arith, z))

      value : (i k : ℕ) → i < length members → coefficient (numbered (one ∷ []) i) k ≡ unit A (word_at members i) k
      value zero k l =
          is k ∙ sym (ap (λ (f : Coefficients). f k) (unit-one A (word_at members 0) (length-at A g members closed 0 l
          ∙ ap length (first-member A g members closed))))
      value (suc i) k l = sym (ap (λ (f : Coefficients). f k) (unit-other A (word_at members (suc i))
          (λ z. let first : suc i ≡ 0 = closed.distinct (suc i) 0 l (omega (arith, closed.some))
          (empty (word_at members (suc i)) (sym (length-at A g members closed (suc i) l) ∙ z) ∙ sym (first-member A g members closed))
          in omega (arith, first))))

  -- the entries up to v t, which is a member, are its column
  pub column-next : (at t next : ℕ) → next < length members → word_at members next ≡ normal_form A (word_at members at ++ t ∷ [])
      → (column : List (List ℤ)) → length column ≡ next + 1
      → ((j k : ℕ) → j < next + 1 → coefficient (numbered column j) k ≡ r_polynomial A (word_at members j) (word_at members at ++ t ∷ []) k)
      → IsColumn A members (word_at members next) column
  column-next at t next n_in e column size each = record {
    size = omega (arith, size, n_in);
    value = λ i k l. ⊎_elim
        (λ (up_to : i < next + 1). each i k up_to
        ∙ ap (λ (f : Coefficients). f k) (r_polynomial-same A g (same-refl A g (word_at members i))
        (rw e (same-sym A g (normal_form-same A g (word_at members at ++ t ∷ []))))))
        (λ (later : next + 1 ≤ i). ap (λ (p : List ℤ). coefficient p k) (get_or_past column i [] (omega (arith, size, later)))
        ∙ sym (r_polynomial-not_below A g (word_at members i) (word_at members next)
        (later-not_below A g members closed i next l n_in (omega (arith, later))) k))
        (cases_lt i (next + 1));
  }

  -- ---- along the word of a member: the member `at` is its first i letters

  module _ (word : List ℕ) (member : Contains members word) (i : ℕ) (i_in : i < length word) (at : ℕ)
      (is : word_at members at ≡ normal_form A (take i word)) where
    abbrev letter : ℕ
    letter = slice_index_or word i 0

    more : take (i + 1) word ≡ take i word ++ letter ∷ []
    more = take_more word i 0 i_in

    length_at : (n : ℕ) → n ≤ length word → word_length A (take n word) ≡ n
    length_at n l =
        IsReduced-prefix A g (take n word) (drop n word)
        (rw (take-append-drop n word) (element-length A g word (closed.element word member)))
        ∙ length-take-le n word l

    same : SameElement A (word_at members at) (take i word)
    same = rw is (normal_form-same A g (take i word))

    -- the next letter is one
    way-letter : IsLetter A.rank (slice_index_or word i 0)
    way-letter = All-get_or (IsLetter A.rank) word i 0 i_in (element-word A g word (closed.element word member))

    -- it makes the member longer
    way-ascent : IsRightDescent A (word_at members at) (slice_index_or word i 0) → ⊥
    way-ascent d =
        omega (
          arith,
          d,
          word_length-equal A g same,
          word_length-equal A g (same-push A g letter same),
          ap (word_length A) more,
          length_at i (omega (arith, i_in)),
          length_at (i + 1) (omega (arith, i_in)),
        )

    -- so far it has i letters
    way-short : at < length members → length (word_at members at) ≡ i
    way-short l = sym (length-at A g members closed at l) ∙ word_length-equal A g same ∙ length_at i (omega (arith, i_in))

    -- what the next letter leads to is a member
    way-there : Contains members (normal_form A (word_at members at ++ slice_index_or word i 0 ∷ []))
    way-there =
        let next : SameElement A (take (i + 1) word) (word_at members at ++ letter ∷ [])
        = rw more (same-push A g letter (same-sym A g same))
        in let front : IsSubword (take (i + 1) word) word
        = rw (append-nil (take (i + 1) word), take-append-drop (i + 1) word)
        at (IsSubword-append (IsSubword-refl (take (i + 1) word)) (IsSubword-nil (drop (i + 1) word)))
        in let place = contains-placed members word member
        in rw (← normal_form-equal A g next) (member-below A g members closed (take (i + 1) word) place.i place.within (record {
          word = take (i + 1) word;
          subword = rw (place.is, (closed.element word member).normal) front;
          same = same-refl A g (take (i + 1) word);
        }))

    pub leads-on : at < length members → LeadsOn A members word i at
    leads-on l = record { letter = way-letter; ascent = way-ascent; short = way-short l; there = way-there }
