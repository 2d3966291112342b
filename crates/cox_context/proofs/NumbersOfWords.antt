-- The number of a normal form, by left shifts from its last letter to its first, and of any word, by right shifts.
use Rattle.std.proofs.Common.{◌≡◌, ℕ, zero, suc, ◌+◌, ◌-◌, ◌≤◌, ◌<◌, List, [], ◌∷◌, ◌++◌, length, take, drop, get_or, drop-cons, Contains}
use Rattle.std.proofs.Common.{ap, sym, ◌∙◌}
use Rattle.std.proofs.Common.{⊎_elim, arith}
use Rattle.std.proofs.lemmas.Bool.{cases_lt}
use Rattle.std.proofs.lemmas.List.{take_more}
use Rattle.std.proofs.lemmas.List.Elements.{All-head}
use Rattle.cox_base.specs.Matrix.{IsLetter}
use Rattle.cox_base.specs.IntegerMatrix.{IntegerMatrix}
use Rattle.cox_base.specs.Admissible.{IsAdmissible}
use Rattle.cox_base.specs.ShortLex.{normal_form}
use Rattle.cox_base.specs.Bruhat.{IsBelow}
use Rattle.cox_reflect.proofs.Elements.{same-trans, same-equal, same-push}
use Rattle.cox_reflect.proofs.Search.{normal_form-same, normal_form-equal}
use Rattle.cox_reflect.proofs.NormalElements.{element-word}
use Rattle.cox_context.specs.Closed.{IsClosed}
use Rattle.cox_context.specs.Numbers.{word_at}
use Rattle.cox_context.proofs.Ideals.{element-tail, below-tail}
use Rattle.cox_context.proofs.Shifting.{shift-back}
use Rattle.cox_context.proofs.RightShifts.{first-off}

module _ (A : IntegerMatrix) (g : IsAdmissible A) (words : List (List ℕ)) (closed : IsClosed A words) where
  -- the end of a member is a member
  pub contains-drop : (k : ℕ) (word : List ℕ) → Contains words word → Contains words (drop k word)
  contains-drop zero word c = c
  contains-drop (suc k) [] c = c
  contains-drop (suc k) (s ∷ x) c =
      let e = closed.element (s ∷ x) c
      in contains-drop k x (closed.down x (s ∷ x) c (element-tail A g s x e) (below-tail A g s x e))

  pub contained-letter : (s : ℕ) (x : List ℕ) → Contains words (s ∷ x) → IsLetter A.rank s
  contained-letter s x c = All-head (IsLetter A.rank) s x (element-word A g (s ∷ x) (closed.element (s ∷ x) c))

  contained-normal : (s : ℕ) (x : List ℕ) → Contains words (s ∷ x) → normal_form A (s ∷ x) ≡ s ∷ x
  contained-normal s x c = (closed.element (s ∷ x) c).normal

  -- where s x is a member with that word, the shift of x by s leads to it
  pub shift-contained : (s : ℕ) (x : List ℕ) → Contains words (s ∷ x) → (Contains words (normal_form A (s ∷ x)) → ⊥) → ⊥
  shift-contained s x c none = none (rw (contained-normal s x c) c)

  pub shift-word : (s at k : ℕ) → Contains words (s ∷ word_at words at) → word_at words k ≡ normal_form A (s ∷ word_at words at)
      → word_at words k ≡ s ∷ word_at words at
  shift-word s at k c e = e ∙ contained-normal s (word_at words at) c

  pub shift-later : (s at k : ℕ) → Contains words (s ∷ word_at words at) → at < length words → k < length words
      → word_at words k ≡ normal_form A (s ∷ word_at words at) → at < k
  shift-later s at k c l inside e =
      ⊎_elim (λ (less : at < k). less)
      (λ (more : k ≤ at).
      let up : IsBelow A (word_at words at) (word_at words k)
      = rw (shift-word s at k c e) (below-tail A g s (word_at words at) (closed.element (s ∷ word_at words at) c))
      in let same : at ≡ k = omega (arith, more, closed.upward at k l inside up)
      in absurd (omega (arith, ap (λ (j : ℕ). length (word_at words j)) same, ap length (shift-word s at k c e))))
      (cases_lt at k)

  -- a shift to a member that begins with s is that member without s
  pub shift-is : (s at k rest : ℕ) → at < length words → k < length words → word_at words k ≡ normal_form A (s ∷ word_at words at)
      → word_at words k ≡ s ∷ word_at words rest → word_at words k ≡ s ∷ word_at words at
  shift-is s at k rest l m e f =
      let back : word_at words at ≡ word_at words rest = shift-back A g words closed s at k l e ∙ first-off A g words closed s
      (word_at words rest) k m f
      in f ∙ ap (λ (x : List ℕ). s ∷ x) (sym back)

  -- the next letter of a member's word, from behind, with the rest
  next-drop : (letters : List ℕ) (done : ℕ) → done < length letters
      → drop (length letters - (done + 1)) letters ≡ get_or letters (length letters - 1 - done) 0 ∷ drop (length letters - done) letters
  next-drop letters done l =
      let e : length letters - (done + 1) ≡ length letters - 1 - done = omega arith
      in let f : suc (length letters - 1 - done) ≡ length letters - done = omega (arith, l)
      in rw (e, ← f) (drop-cons letters (length letters - 1 - done) 0 (omega (arith, l)))

  pub next-contained : (letters word : List ℕ) (done at : ℕ) → done < length letters → letters ≡ word
      → word_at words at ≡ drop (length letters - done) letters
      → Contains words word → Contains words (get_or letters (length letters - 1 - done) 0 ∷ word_at words at)
  next-contained letters word done at l q e c =
      rw (e, ← next-drop letters done l) (contains-drop (length letters - (done + 1)) letters (rw q c))

  pub next-word : (letters : List ℕ) (done at k : ℕ) → done < length letters → word_at words at ≡ drop (length letters - done) letters
      → word_at words k ≡ get_or letters (length letters - 1 - done) 0 ∷ word_at words at
      → word_at words k ≡ drop (length letters - (done + 1)) letters
  next-word letters done at k l e f =
      f ∙ ap (λ (x : List ℕ). get_or letters (length letters - 1 - done) 0 ∷ x) e ∙ sym (next-drop letters done l)

  -- one more letter, by a right shift
  pub word-longer : (letters : List ℕ) (i at k : ℕ) → i < length letters → word_at words at ≡ normal_form A (take i letters)
      → word_at words k ≡ normal_form A (word_at words at ++ get_or letters i 0 ∷ []) → word_at words k
      ≡ normal_form A (take (i + 1) letters)
  word-longer letters i at k l e f =
      rw (take_more letters i 0 l)
      (f ∙ normal_form-equal A g (same-push A g (get_or letters i 0)
      (same-trans A g (same-equal A g e) (normal_form-same A g (take i letters)))))
