-- The text of the module of a left cell depends on its images alone.
use Rattle.std.proofs.Common.{◌≡◌, ℕ, zero, suc, ◌+◌, ◌≤◌, ◌<◌, List, [], ◌∷◌, ◌++◌, length, get_or, All, codes, decimal, refl, ap, ap₂}
use Rattle.std.proofs.Common.{arith}
use Rattle.std.specs.List.{flat_map, range_with_len}
use Rattle.std.proofs.lemmas.List.FromFn.{length-range_with_len, get_or-range_with_len}
use Rattle.std.proofs.lemmas.List.Elements.{All-nil, All-cons, All-head, All-tail}
use Rattle.cox_base.specs.Matrix.{IsLetter}
use Rattle.cox_base.specs.IntegerMatrix.{IntegerMatrix}
use Rattle.cox_base.specs.Admissible.{IsAdmissible}
use Rattle.cox_base.specs.ShortLex.{letters}
use Rattle.cox_base.specs.SortedList.{IsRising}
use Rattle.cox_context.specs.Numbers.{word_at}
use Rattle.cox_print.specs.AnswerText.{element_text, members_text}
use Rattle.cox_module.specs.declared.term.Term.{Term}
use Rattle.cox_module.specs.Images.{AreImages}
use Rattle.cox_module.proofs.OneImage.{image-once}
use Rattle.cox_replies.specs.ModuleReply.{image_text, operator_text, module_text}
use Rattle.cox_replies.proofs.GroupTexts.{all-letters}

-- texts that agree at the items of a list
flat_map-same : {X : Type 0} (P : X → Type 0) (f g : X → List ℕ) (xs : List X) → All P xs → ((x : X) → P x → f x ≡ g x)
    → flat_map f xs ≡ flat_map g xs
flat_map-same P f g [] all same = refl
flat_map-same P f g (x ∷ xs) all same =
    ap₂ (λ (a b : List ℕ). a ++ b) (same x (All-head P x xs all)) (flat_map-same P f g xs (All-tail P x xs all) same)

all-below : (n a m : ℕ) → a + m ≤ n → All (λ k. k < n) (range_with_len a m)
all-below n a zero most = All-nil (λ k. k < n)
all-below n a (suc m) most =
    All-cons (λ k. k < n) a (range_with_len (a + 1) m) (omega (arith, most)) (all-below n (a + 1) m (omega (arith, most)))

-- what stands before the coefficient of an element
abbrev pub term_head : ℕ → List ℕ → List ℕ
term_head rank y = codes " " ++ element_text rank y ++ codes "="

pub head-same : (r rank : ℕ) (x y : List ℕ) → r ≡ rank → x ≡ y → term_head r x ≡ term_head rank y
head-same r rank x y ranks words = λ i. term_head (ranks i) (words i)

-- the image of the k-th element, behind the end of the line before
abbrev pub image_line : ℕ → List (List ℕ) → (ℕ → ℕ → List Term) → ℕ → ℕ → List ℕ
image_line rank cell images s k = 10 ∷ image_text rank cell s (word_at cell k) (images s k)

pub place-at : (n k : ℕ) → k < n → k ≡ get_or (range_with_len 0 n) k 0
place-at n k l = let e = get_or-range_with_len 0 n k 0 l in omega (arith, e)

pub letter-at : (rank r : ℕ) → r < rank → r + 1 ≡ get_or (letters rank) r 0
unfolding letters
letter-at rank r l = let e = get_or-range_with_len 1 rank r 0 l in omega (arith, e)

pub letters-size : (rank : ℕ) → length (letters rank) ≡ rank
unfolding letters
letters-size rank = length-range_with_len 1 rank

module _ (A : IntegerMatrix) (g : IsAdmissible A) (rank : ℕ) (cell : List (List ℕ)) (rising : IsRising cell)
    (images others : ℕ → ℕ → List Term)
    (are : AreImages A cell images) (are' : AreImages A cell others) where
  operator-same : (s : ℕ) → IsLetter A.rank s → operator_text rank cell images s ≡ operator_text rank cell others s
  operator-same s letter = flat_map-same (λ k. k < length cell) (image_line rank cell images s)
      (image_line rank cell others s) (range_with_len 0 (length cell))
      (all-below (length cell) 0 (length cell) (omega arith))
      (λ k l. ap (λ (image : List Term). 10 ∷ image_text rank cell s (word_at cell k) image)
      (image-once A g cell rising s k (images s k) (others s k) (are s k letter l) (are' s k letter l)))

  pub module-same : module_text rank cell images (letters A.rank) ≡ module_text rank cell others (letters A.rank)
  unfolding letters
  module-same = ap (λ (text : List ℕ). decimal (length cell) ++ 10 ∷ members_text rank cell ++ text)
      (flat_map-same (IsLetter A.rank) (operator_text rank cell images) (operator_text rank cell others) (letters A.rank)
      (all-letters A.rank 1 A.rank (omega arith) (omega arith)) operator-same)
