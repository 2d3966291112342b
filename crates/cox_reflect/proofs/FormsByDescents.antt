-- Reading an element off by descents: its normal form by the least ones.
use Rattle.std.proofs.Common.{◌≡◌, ℕ, ◌+◌, ◌<◌, Bool, List, [], ◌∷◌, ◌++◌, length, reverse, filter, ℤ, refl, ap, sym, ◌∙◌, arith}
use Rattle.std.proofs.Math.Path.{fun_ext}
use Rattle.std.proofs.lemmas.List.{append-nil, append_assoc, length-append, reverse-reverse}
use Rattle.cox_base.specs.declared.side.Side.{Side}
use Rattle.cox_base.specs.declared.side.Side.TheVariants.{Left, Right}
use Rattle.cox_base.specs.Matrix.{CoxeterMatrix}
use Rattle.cox_base.specs.Admissible.{IsCoxeterMatrix, IsAdmissible}
use Rattle.cox_base.specs.IntegerMatrix.{IntegerMatrix, integer_matrix}
use Rattle.cox_base.specs.ShortLex.{letters, normal_form}
use Rattle.cox_base.specs.Length.{word_length}
use Rattle.cox_base.specs.Descents.{IsLeftDescent, left_descents, right_descents}
use Rattle.cox_reflect.specs.Height.{AreHeights, AreOfShortElement, AreShortWith}
use Rattle.cox_reflect.specs.LeastDescent.{IsLeastLeftDescent}
use Rattle.cox_base.specs.SideDescents.{descent_set}
use Rattle.cox_reflect.specs.Side.{word_on_side}
use Rattle.cox_reflect.proofs.Admissible.{IsAdmissible-integer_matrix}
use Rattle.cox_reflect.proofs.Lengths.{word_length-is, word_length-cons_reverse, word_length-reverse}
use Rattle.cox_reflect.proofs.NormalForm.{normal_form-descent, normal_form-no_descent}
use Rattle.cox_reflect.proofs.HeightsUnderLetters.{AreShortWith-descent}

-- ---- descents on either side

module _ (A : IntegerMatrix) (g : IsAdmissible A) where
  left_descents-reverse : (u : List ℕ) → left_descents A (reverse u) ≡ right_descents A u
  unfolding descent_set
  left_descents-reverse u =
      ap (λ (p : ℕ → Bool). filter p (letters A.rank))
      (fun_ext (λ s. rw (word_length-cons_reverse A g s (reverse u), reverse-reverse u, word_length-reverse A g u) refl))

  pub left_descents-word_on_side : (side : Side) (u : List ℕ) → left_descents A (word_on_side side u) ≡ descent_set side A u
  left_descents-word_on_side Left u = refl
  left_descents-word_on_side Right u = left_descents-reverse u

-- ---- reading

-- the normal form of w begins with the form and goes on with that of the rest, whose heights they are
pub record IsBegun (A : IntegerMatrix) (w : List ℕ) (heights : List ℤ) (form : List ℕ) : Type 0 where
  pub rest : List ℕ
  pub heights_of : AreHeights A rest heights
  pub whole : normal_form A w ≡ form ++ normal_form A rest

pub IsBegun-start : (A : IntegerMatrix) (w : List ℕ) (heights : List ℤ) → AreHeights A w heights → IsBegun A w heights []
IsBegun-start A w heights a = record { rest = w; heights_of = a; whole = refl }

-- what the code knows where it finds a least descent, and where it finds none
abbrev pub TellsLeast : ℕ → List ℤ → ℕ → Type 0
TellsLeast rank heights s =
    (A : IntegerMatrix) → (u : List ℕ) → IsAdmissible A → A.rank ≡ rank → AreHeights A u heights → IsLeastLeftDescent A u s

abbrev pub TellsNone : ℕ → List ℤ → Type 0
TellsNone rank heights =
    (A : IntegerMatrix) → (u : List ℕ) → IsAdmissible A → A.rank ≡ rank → AreHeights A u heights → (t : ℕ) → IsLeftDescent A u t → ⊥

-- what it knows of the heights after it took the letter away
abbrev pub Prepends : IntegerMatrix → ℕ → List ℤ → List ℤ → Type 0
Prepends A s heights next = (u : List ℕ) → AreHeights A u heights → AreHeights A (s ∷ u) next

-- it does so for each word that has the first heights
abbrev pub AreBegun : IntegerMatrix → List ℤ → List ℤ → List ℕ → Type 0
AreBegun A first heights form = (w : List ℕ) → AreHeights A w first → IsBegun A w heights form

module _ (x : CoxeterMatrix) (matrix : IsCoxeterMatrix x) (rank : ℕ) (e : rank ≡ x.rank) (first heights : List ℤ) (form : List ℕ)
    (c : AreBegun (integer_matrix x) first heights form) where
  g : IsAdmissible (integer_matrix x)
  g = IsAdmissible-integer_matrix x matrix

  IsBegun-length : (w : List ℕ) (b : IsBegun (integer_matrix x) w heights form)
      → length form + word_length (integer_matrix x) b.rest ≡ word_length (integer_matrix x) w
  IsBegun-length w b =
      omega (
        arith,
        word_length-is (integer_matrix x) w,
        word_length-is (integer_matrix x) b.rest,
        ap length b.whole,
        length-append form (normal_form (integer_matrix x) b.rest),
      )

  -- there is room for the letter that is found, in the heights and in the form
  pub AreBegun-room : (n s : ℕ) → AreOfShortElement (integer_matrix x) n first → TellsLeast rank heights s
      → AreShortWith (integer_matrix x) n s heights × (length form < n)
  AreBegun-room n s short tells =
      let b = c short.word short.heights_of
      in let least = tells (integer_matrix x) b.rest g (sym e) b.heights_of
      in let all = IsBegun-length short.word b
      in (
        AreShortWith-descent (integer_matrix x) g n b.rest s heights least.descent (omega (arith, all, short.short)) b.heights_of,
        omega (arith, least.descent, all, short.short),
      )

  pub AreBegun-next : (s : ℕ) → TellsLeast rank heights s → (next : List ℤ) → Prepends (integer_matrix x) s heights next
      → AreBegun (integer_matrix x) first next (form ++ s ∷ [])
  AreBegun-next s tells next moves w a =
      let b = c w a
      in let least = tells (integer_matrix x) b.rest g (sym e) b.heights_of
      in let step =
      normal_form-descent (integer_matrix x) g b.rest s least.descent (λ t l d. let k = least.least t d in omega (arith, k, l))
      in record {
        rest = s ∷ b.rest;
        heights_of = moves b.rest b.heights_of;
        whole = b.whole ∙ ap (λ (v : List ℕ). form ++ v) step
            ∙ sym (append_assoc form (s ∷ []) (normal_form (integer_matrix x) (s ∷ b.rest)));
      }

  pub AreBegun-end : TellsNone rank heights → (w : List ℕ) → AreHeights (integer_matrix x) w first → form ≡ normal_form (integer_matrix x) w
  AreBegun-end none w a =
      let b = c w a
      in let empty = normal_form-no_descent (integer_matrix x) g b.rest (none (integer_matrix x) b.rest g (sym e) b.heights_of)
      in sym (b.whole ∙ ap (λ (v : List ℕ). form ++ v) empty ∙ append-nil form)
