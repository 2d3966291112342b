-- Products of reduced words by letters.
use Rattle.std.proofs.Common.{◌≡◌, ℕ, suc, ◌+◌, ◌≤◌, ◌<◌, List, [], ◌∷◌, ◌++◌, length, take, drop, get_or, ap, sym, arith, drop-cons}
use Rattle.std.specs.List.{remove}
use Rattle.std.proofs.lemmas.List.{length-append, take-append-drop}
use Rattle.std.proofs.lemmas.List.Elements.{All-nil}
use Rattle.cox_base.specs.Matrix.{IsLetter, IsWord}
use Rattle.cox_base.specs.IntegerMatrix.{IntegerMatrix}
use Rattle.cox_base.specs.Admissible.{IsAdmissible}
use Rattle.cox_base.specs.Element.{SameElement}
use Rattle.cox_base.specs.Reduced.{IsReduced}
use Rattle.cox_reflect.proofs.Elements.{same-refl, same-trans, same-push}
use Rattle.cox_reflect.proofs.Search.{word_length-equal, word_length-length}
use Rattle.cox_reflect.proofs.Lengths.{push-word_length, IsReduced-nil}
use Rattle.cox_reflect.proofs.WordsAndSubwords.{IsWord-append, IsWord-prefix, IsWord-back}

-- v is a reduced word of the element of the letters
pub record IsMultiplied (A : IntegerMatrix) (letters v : List ℕ) : Type 0 where
  pub same : SameElement A v letters
  pub reduced : IsReduced A v
  pub word : IsWord A.rank v
  pub no_longer : length v ≤ length letters

-- what is left and right of a place
place-split : (w : List ℕ) (place : ℕ) → place < length w → w ≡ take place w ++ get_or w place 0 ∷ drop (suc place) w
place-split w place l = rw (← (drop-cons w place 0 l)) (sym (take-append-drop place w))

pub length-remove : (w : List ℕ) (place : ℕ) → place < length w → length (remove w place) + 1 ≡ length w
length-remove w place l =
    omega (
      arith,
      ap length (place-split w place l),
      length-append (take place w) (get_or w place 0 ∷ drop (suc place) w),
      length-append (take place w) (drop (suc place) w),
    )

pub word-remove : {n : ℕ} (w : List ℕ) (place : ℕ) → place < length w → IsWord n w → IsWord n (remove w place)
word-remove {n} w place l h =
    let whole : IsWord n (take place w ++ get_or w place 0 ∷ drop (suc place) w) = rw (← (place-split w place l)) h
    in let rest : IsWord n (get_or w place 0 ∷ drop (suc place) w)
    = IsWord-back (take place w) (get_or w place 0 ∷ drop (suc place) w) whole
    in IsWord-append (take place w) (drop (suc place) w) (IsWord-prefix (take place w) (get_or w place 0 ∷ drop (suc place) w) whole)
    (IsWord-back (get_or w place 0 ∷ []) (drop (suc place) w) rest)

module _ (A : IntegerMatrix) (g : IsAdmissible A) where
  -- a reduced word without a letter, if that is the word and a letter
  pub reduced-remove : (w : List ℕ) (s place : ℕ) → IsReduced A w → place < length w → SameElement A (w ++ s ∷ []) (remove w place)
      → IsReduced A (remove w place)
  reduced-remove w s place h l e =
      omega (
        arith,
        h,
        length-remove w place l,
        word_length-equal A g e,
        push-word_length A g w s,
        word_length-length A g (remove w place),
      )

  pub multiplied-start : IsMultiplied A [] []
  multiplied-start =
      record { same = same-refl A g []; reduced = IsReduced-nil A g; word = All-nil (IsLetter A.rank); no_longer = omega arith }

  pub multiplied-next : (letters v : List ℕ) (s : ℕ) (new : List ℕ) → IsMultiplied A letters v
      → SameElement A new (v ++ s ∷ []) → IsReduced A new → IsWord A.rank new → length new ≤ length v + 1
      → IsMultiplied A (letters ++ s ∷ []) new
  multiplied-next letters v s new h e r k l = record {
    same = same-trans A g e (same-push A g s h.same);
    reduced = r;
    word = k;
    no_longer = omega (arith, l, h.no_longer, length-append letters (s ∷ []));
  }
