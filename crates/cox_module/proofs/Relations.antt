-- The module of a left cell of a finite group meets the relations of the Hecke algebra.
use Rattle.std.proofs.Common.{◌≡◌, ◌≢◌, ℕ, zero, suc, ◌+◌, ◌≤◌, ◌<◌, true, false, List, [], ◌∷◌, length}
use Rattle.std.proofs.Common.{pos, refl, ap, ap₂, sym, ◌∙◌, arith}
use Rattle.std.specs.Prelude.{All}
use Rattle.std.proofs.lemmas.Bool.{false≢true}
use Rattle.std.proofs.lemmas.List.Elements.{All-nil, All-cons}
use Rattle.cox_base.specs.Matrix.{CoxeterMatrix, IsLetter, IsWord, label}
use Rattle.cox_base.specs.IntegerMatrix.{IntegerMatrix, integer_matrix}
use Rattle.cox_base.specs.Admissible.{IsAdmissible, IsCoxeterMatrix, HasOrder}
use Rattle.cox_base.specs.Element.{SameElement}
use Rattle.cox_base.specs.ShortLex.{normal_form}
use Rattle.cox_base.specs.Length.{word_length}
use Rattle.cox_base.specs.Bruhat.{IsBelow}
use Rattle.cox_base.specs.Reduced.{IsReduced}
use Rattle.cox_reflect.specs.Relations.{alternating_from}
use Rattle.cox_base.proofs.AdmissibleMatrices.{IsAdmissible-integer_matrix}
use Rattle.cox_reflect.proofs.Admissible.{order_label}
use Rattle.cox_reflect.proofs.RankTwo.{HasOrder-swap}
use Rattle.cox_reflect.proofs.Elements.{same-refl, same-sym, same-trans}
use Rattle.cox_reflect.proofs.Search.{normal_form-same, normal_form-equal, word_length-equal}
use Rattle.cox_reflect.proofs.Bruhat.{below-length, below-equal_length}
use Rattle.cox_poly.specs.Coefficients.{Coefficients, plus, times_q}
use Rattle.cox_rpoly.specs.InverseOperators.{shortens_left}
use Rattle.cox_hecke.specs.Family.{Family, RespectsElements}
use Rattle.cox_hecke.specs.ListedElements.{occurrences}
use Rattle.cox_hecke.proofs.ListSums.{occurrences-at}
use Rattle.cox_hecke.proofs.Descents.{shortens_left-same, nat_lt-yes, yes-nat_lt, no-nat_lt}
use Rattle.cox_base.specs.Members.{IsElement}
use Rattle.cox_base.specs.SortedList.{IsListOf}
use Rattle.cox_context.specs.Numbers.{word_at}
use Rattle.cox_context.proofs.PlacedWords.{IsPlaced, contains-at, contains-placed, rising-place, rising-length}
use Rattle.cox_reflect.proofs.NormalElements.{element-normal_form, element-length}
use Rattle.cox_wgraph.proofs.EdgeValues.{edge-symmetric, edge-words}
use Rattle.cox_cells.specs.declared.kind.CellKind.TheVariants.{Left}
use Rattle.cox_cells.specs.Cells.{IsStep, Precedes, IsInCell, first_of, IsCell}
use Rattle.cox_cells.proofs.StepChains.{precedes-trans, chain-step}
use Rattle.cox_module.specs.declared.term.Term.{Term}
use Rattle.cox_module.specs.FreeModule.{Vector, apply_word}
use Rattle.cox_module.proofs.LinearFunctions.{value_word}
use Rattle.cox_module.specs.Images.{AreImages}
use Rattle.cox_module.specs.Relations.{MeetRelations}
use Rattle.cox_module.proofs.ActionOnFunctions.{through_word}
use Rattle.cox_module.proofs.LinearOperators.{along-linear, along-plus, quadratic}
use Rattle.cox_module.proofs.AlternatingWords.{reduced-alternating_from, same-alternating_from}
use Rattle.cox_module.proofs.EdgeWeights.{weight, weight-none, weight-joined}
use Rattle.cox_module.proofs.AlongWords.{raised_at, along-same}
use Rattle.cox_module.proofs.Spanning.{IsOperator, value, span}
use Rattle.cox_module.proofs.CutToCell.{is_in, is_in-yes, is_in-no, cut-words}
use Rattle.cox_module.proofs.Occurrences.{StandsIn, named-standing}
use Rattle.cox_module.proofs.PlaceFunctions.{as_family, as_family-respects, as_family-at}
use Rattle.cox_module.proofs.ImageValues.{word-value}
use Rattle.cox_module.proofs.QuadraticProduct.{as_product}
use Rattle.cox_module.proofs.OperatorsByFunctions.{equal-operators, quadratic-operators}

IsWord-alternating : (rank k s t : ℕ) → IsLetter rank s → IsLetter rank t → IsWord rank (alternating_from k s t)
unfolding alternating_from
IsWord-alternating rank zero s t ls lt = All-nil (IsLetter rank)
IsWord-alternating rank (suc k) s t ls lt =
    All-cons (IsLetter rank) s (alternating_from k t s) ls (IsWord-alternating rank k t s lt ls)

module _ (A : IntegerMatrix) (g : IsAdmissible A) where
  -- ---- all elements of a finite group

  module _ (members : List (List ℕ)) (all : IsListOf (IsElement A) members) where
    -- a bound of all lengths
    total : List (List ℕ) → ℕ
    total [] = 0
    total (w ∷ words) = word_length A w + total words

    total-at : (words : List (List ℕ)) (i : ℕ) → i < length words → word_length A (word_at words i) ≤ total words
    unfolding total
    total-at [] i l = absurd (omega (arith, l))
    total-at (w ∷ words) zero l = omega arith
    total-at (w ∷ words) (suc i) l = let r = total-at words i (omega (arith, l)) in omega (arith, r)

    place : (y : List ℕ) → IsPlaced members (normal_form A y)
    place y = contains-placed members (normal_form A y) (all.whole (normal_form A y) (element-normal_form A g y))

    element : (i : ℕ) → i < length members → IsElement A (word_at members i)
    element i l = all.sound (word_at members i) (contains-at members i l)

    bound : (y : List ℕ) → word_length A y ≤ total members
    bound y =
        let p = place y in let r = total-at members p.i p.within
        in omega (arith, r, ap (word_length A) p.is, word_length-equal A g (normal_form-same A g y))

    one_place : (i j : ℕ) → i < length members → j < length members → SameElement A (word_at members i) (word_at members j) → i ≡ j
    one_place i j l m e =
        rising-place members i j all.rising l m (sym (element i l).normal ∙ normal_form-equal A g e ∙ (element j m).normal)

    complete : (y : List ℕ) → occurrences A y members ≡ 1
    complete y =
        let p = place y
        in let same : SameElement A y (word_at members p.i) = rw p.is (same-sym A g (normal_form-same A g y))
        in occurrences-at A g members y p.i p.within same
        (λ j l e. one_place j p.i l p.within (same-trans A g (same-sym A g e) same))

    ordered : (i j : ℕ) → i < j → j < length members → IsBelow A (word_at members j) (word_at members i) → ⊥
    ordered i j l m b =
        let n : i < length members = omega (arith, l, m)
        in let size = rising-length members i j all.rising (omega (arith, l)) m
        in let same = below-equal_length A g b (omega (
          arith,
          size,
          below-length A g b,
          element-length A g (word_at members i) (element i n),
          element-length A g (word_at members j) (element j m),
        ))
        in let e = one_place j i m n same in omega (arith, e, l)

    along-operator : (u : List ℕ) → IsOperator (through_word A (weight A g) members u)
    along-operator u = record {
      linear = λ t f. along-linear A (weight A g) members t u f;
      sums = along-plus A (weight A g) members u;
    }

    -- words of one element act alike
    pub all-same : (u v : List ℕ) → IsWord A.rank u → IsWord A.rank v → IsReduced A u → IsReduced A v → SameElement A u v
        → (h : Family) → RespectsElements A h → through_word A (weight A g) members u h ≡ through_word A (weight A g) members v h
    unfolding value raised_at
    all-same u v wu wv ru rv e h r =
        span A g members (total members) complete ordered (through_word A (weight A g) members u) (through_word A (weight A g) members v)
        (along-operator u) (along-operator v) (λ z. along-same A g members (total members) complete bound u v wu wv ru rv e z) h r

    -- ---- a left cell

    module _ (cell : List (List ℕ)) (is : IsCell Left A cell) where
      first : List ℕ
      first = first_of cell

      in_cell : (i : ℕ) → i < length cell → IsInCell Left A (first_of cell) (word_at cell i)
      in_cell i l = is.all.sound (word_at cell i) (contains-at cell i l)

      pub distinct : (i j : ℕ) → i < length cell → j < length cell → SameElement A (word_at cell i) (word_at cell j) → i ≡ j
      distinct i j l m e = rising-place cell i j is.all.rising l m
          (sym (in_cell i l).element.normal ∙ normal_form-equal A g e ∙ (in_cell j m).element.normal)

      counted : (y : List ℕ) (i : ℕ) → i < length cell → SameElement A y (word_at cell i) → occurrences A y cell ≡ 1
      counted y i l e = occurrences-at A g cell y i l e (λ j m e'. distinct j i m l (same-trans A g (same-sym A g e') e))

      standing : (y : List ℕ) → is_in A g members cell y ≡ true → StandsIn A cell y
      standing y e = named-standing A g cell y (λ none. false≢true (sym (is_in-no A g members cell y none) ∙ e))

      once : (y : List ℕ) → is_in A g members cell y ≡ true → occurrences A y cell ≡ 1
      once y e = let p = standing y e in counted y p.place p.within p.same

      Below : List ℕ → Type 0
      Below x = Precedes Left A (normal_form A x) (first_of cell)

      step : (s : ℕ) (x y : List ℕ) → shortens_left A s x ≡ false → weight A g s x y ≢ pos 0
          → IsStep Left A (normal_form A y) (normal_form A x)
      step s x y e some =
          let joined = weight-joined A g s x y some
          in record {
            neighbour = record {
              element = element-normal_form A g x;
              joined = (
                joined.1.0,
                record {
                  value = edge-words A g y x (normal_form A y) (normal_form A x) joined.1.0 (same-sym A g (normal_form-same A g y))
                      (same-sym A g (normal_form-same A g x)) (edge-symmetric A g x y joined.1.0 joined.1.1.value);
                  some = joined.1.1.some;
                },
              );
            };
            own = record {
              letter = s;
              descent = yes-nat_lt (word_length A (s ∷ normal_form A y)) (word_length A (normal_form A y))
                  (shortens_left-same A g s (normal_form-same A g y) ∙ nat_lt-yes joined.0);
              none = no-nat_lt (word_length A (s ∷ normal_form A x)) (word_length A (normal_form A x))
                  (shortens_left-same A g s (normal_form-same A g x) ∙ e);
            };
          }

      down : (s : ℕ) (x y : List ℕ) → Below x → shortens_left A s x ≡ false → weight A g s x y ≢ pos 0 → Below y
      unfolding Below
      down s x y b e some = Precedes.onward (normal_form A y) (normal_form A x) (first_of cell) (step s x y e some) b

      convex : (s : ℕ) (x y : List ℕ) → Below x → shortens_left A s x ≡ false → weight A g s x y ≢ pos 0
          → is_in A g members cell y ≡ true → is_in A g members cell x ≡ true
      unfolding Below
      convex s x y b e some inner =
          let p = standing y inner
          in let form : word_at cell p.place ≡ normal_form A y
          = sym (in_cell p.place p.within).element.normal ∙ sym (normal_form-equal A g p.same)
          in let forth : Precedes Left A (first_of cell) (normal_form A y) = rw (← form) (in_cell p.place p.within).forth
          in let there : IsInCell Left A (first_of cell) (normal_form A x) = record {
            element = element-normal_form A g x;
            forth = precedes-trans Left A forth (chain-step Left A (normal_form A y) (normal_form A x) (step s x y e some));
            back = b;
          }
          in let q = contains-placed cell (normal_form A x) (is.all.whole (normal_form A x) there)
          in is_in-yes A g members cell x (counted x q.i q.within (rw q.is (same-sym A g (normal_form-same A g x))))

      below-in : (i : ℕ) → i < length cell → Below (word_at cell i)
      unfolding Below
      below-in i l = rw (in_cell i l).element.normal (in_cell i l).back

      module _ (images : ℕ → ℕ → List Term) (are : AreImages A cell images) where
        -- words of one element act alike on the cell
        cell-same : (u v : List ℕ) → IsWord A.rank u → IsWord A.rank v → IsReduced A u → IsReduced A v → SameElement A u v
            → (f : Vector) (i : ℕ) → i < length cell → value_word images u f i ≡ value_word images v f i
        cell-same u v wu wv ru rv e f i l =
            word-value A g cell distinct images are u wu f i l
            ∙ cut-words A g members cell Below complete once down convex u v (all-same u v wu wv ru rv e)
            (as_family A g cell f) (as_family-respects A g cell f) (word_at cell i) (below-in i l)
            (is_in-yes A g members cell (word_at cell i) (counted (word_at cell i) i l (same-refl A g (word_at cell i))))
            ∙ sym (word-value A g cell distinct images are v wv f i l)

        within : (s i : ℕ) → IsLetter A.rank s → i < length cell → All (λ (t : Term). t.place < length cell) (images s i)
        within s i letter l = (are s i letter l).before

        pub braid-words : (u v : List ℕ) → IsWord A.rank u → IsWord A.rank v → IsReduced A u → IsReduced A v → SameElement A u v
            → (h : Vector) (j : ℕ) → j < length cell → apply_word images (length cell) u h j ≡ apply_word images (length cell) v h j
        braid-words u v wu wv ru rv e =
            equal-operators images (length cell) A.rank within u v wu wv (cell-same u v wu wv ru rv e)

        pub quadratic-word : (s : ℕ) → IsLetter A.rank s → (h : Vector) (j : ℕ) → j < length cell
            → plus (apply_word images (length cell) (s ∷ s ∷ []) h j) (apply_word images (length cell) (s ∷ []) h j)
            ≡ times_q (times_q (plus (apply_word images (length cell) (s ∷ []) h j) (h j)))
        quadratic-word s ls = quadratic-operators images (length cell) A.rank within s ls at
          where
            one : IsWord A.rank (s ∷ [])
            one = All-cons (IsLetter A.rank) s [] ls (All-nil (IsLetter A.rank))

            two : IsWord A.rank (s ∷ s ∷ [])
            two = All-cons (IsLetter A.rank) s (s ∷ []) ls one

            at : (f : Vector) (i : ℕ) → i < length cell
                → plus (value_word images (s ∷ s ∷ []) f i) (value_word images (s ∷ []) f i)
                ≡ times_q (times_q (plus (value_word images (s ∷ []) f i) (f i)))
            at f i l =
                ap₂ (λ (a b : Coefficients). plus a b) (word-value A g cell distinct images are (s ∷ s ∷ []) two f i l)
                (word-value A g cell distinct images are (s ∷ []) one f i l)
                ∙ (λ j k. quadratic A (weight A g) cell s (as_family A g cell f) (λ x y e. weight-none A g s x y e)
                (word_at cell i) k j)
                ∙ ap₂ (λ (a b : Coefficients). times_q (times_q (plus a b)))
                (sym (word-value A g cell distinct images are (s ∷ []) one f i l)) (as_family-at A g cell distinct f i l)

-- the theorem
pub relations : (c : CoxeterMatrix) → IsCoxeterMatrix c → (members : List (List ℕ)) → IsListOf (IsElement (integer_matrix c)) members
    → (cell : List (List ℕ)) → IsCell Left (integer_matrix c) cell → (images : ℕ → ℕ → List Term)
    → AreImages (integer_matrix c) cell images → MeetRelations c (length cell) images
relations c m members all cell is images are = record {
  quadratic = λ s ls h j k l. as_product (images s) (length cell) h j k
      (λ i. ap (λ (f : Coefficients). f i)
      (quadratic-word (integer_matrix c) (IsAdmissible-integer_matrix c m) members all cell is images are s ls h j l));
  braid = λ s t ls lt ne finite h j k l.
      let order : HasOrder ((integer_matrix c).entry s t) ((integer_matrix c).entry t s) (label c s t)
      = (order_label c m s t (label c s t) ls lt ne).1 (refl, finite)
      in let order' : HasOrder ((integer_matrix c).entry t s) ((integer_matrix c).entry s t) (label c s t) = HasOrder-swap order
      in let g = IsAdmissible-integer_matrix c m
      in ap (λ (f : Coefficients). f k)
      (braid-words (integer_matrix c) g members all cell is images are
      (alternating_from (label c s t) s t) (alternating_from (label c s t) t s)
      (IsWord-alternating c.rank (label c s t) s t ls lt) (IsWord-alternating c.rank (label c s t) t s lt ls)
      (reduced-alternating_from (integer_matrix c) g (label c s t) s t ls lt ne order)
      (reduced-alternating_from (integer_matrix c) g (label c s t) t s lt ls (λ e. ne (sym e)) order')
      (same-alternating_from (integer_matrix c) g (label c s t) s t ls lt order) h j l);
}
