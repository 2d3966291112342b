-- The words and views of a table as functions of numbers: a change or an addition in the list is one in the function.
use Rattle.std.proofs.Common.{◌≡◌, ℕ, zero, suc, ◌<◌, ⊎_elim, List, [], ◌∷◌, ◌++◌, length, get_or, set, refl, sym, ap, ◌∙◌, arith}
use Rattle.std.proofs.lemmas.Bool.{cases_eq}
use Rattle.std.proofs.lemmas.Bool.Decides.{nat_tests}
use Rattle.std.proofs.lemmas.List.{get_or-set_same, get_or-set_other}
use mathlib.Core.Option.{some}
use lib.ListN.{get_elem?}
use Rattle.cox_fill_core.specs.Fill.{put}
use Rattle.cox_fill_core.proofs.Points.{put_here, put_else}
use Rattle.cox_claims.specs.declared.view.View.{View}
use Rattle.cox_claims.specs.Knowledge.{nothing}
use Rattle.cox_claims.specs.Rule.{state_of, state_at, view_at}
use Rattle.cox_claims.proofs.Keeps.{at_put}

pub state_set : (words : List ℕ) (i n : ℕ) → i < length words → state_at (set words i n) ≡ put (state_at words) i (state_of n)
state_set words i n lt = λ k j. at j k
  where
    at : (j : ℕ) → state_at (set words i n) j ≡ put (state_at words) i (state_of n) j
    at j = ⊎_elim
        (λ e. ap (state_at (set words i n)) e ∙ ap state_of (get_or-set_same words i n 0 lt) ∙ sym
        (ap (put (state_at words) i (state_of n)) e ∙ put_here (state_at words) i (state_of n)))
        (λ ne. ap state_of (get_or-set_other words i j n 0 ne) ∙ sym (put_else (state_at words) i (state_of n) j ne))
        (cases_eq j i)

pub view_set : (views : List View) (a : ℕ) (w : View) → a < length views → view_at (set views a w) ≡ put (view_at views) a w
view_set views a w lt = λ k b. at b k
  where
    at : (b : ℕ) → view_at (set views a w) b ≡ put (view_at views) a w b
    at b = ⊎_elim
        (λ e. ap (view_at (set views a w)) e ∙ get_or-set_same views a w nothing lt ∙ sym
        (ap (put (view_at views) a w) e ∙ put_here (view_at views) a w))
        (λ ne. get_or-set_other views a b w nothing ne ∙ sym (put_else (view_at views) a w b ne))
        (cases_eq b a)

at_snoc : (views : List View) (w : View) (b : ℕ) → view_at (views ++ w ∷ []) b ≡ put (view_at views) (length views) w b
at_snoc [] w zero = refl
at_snoc [] w (suc b) = sym (put_else (view_at []) zero w (suc b) (λ e. omega arith))
at_snoc (v ∷ views) w zero = sym (put_else (view_at (v ∷ views)) (suc (length views)) w zero (λ e. omega arith))
at_snoc (v ∷ views) w (suc b) = at_snoc views w b ∙ shift
  where
    shift : put (view_at views) (length views) w b ≡ put (view_at (v ∷ views)) (suc (length views)) w (suc b)
    shift = grind (arith, nat_tests)

pub view_snoc : (views : List View) (w : View) → view_at (views ++ w ∷ []) ≡ put (view_at views) (length views) w
view_snoc views w = λ k b. at_snoc views w b k

-- an element that is there, and its place
pub at_here : {X : Type 0} (xs : List X) (k : ℕ) (x d : X) → get_elem? xs k ≡ some x → get_or xs k d ≡ x
at_here [] k x d h = cc
at_here (y ∷ xs) zero x d h = cc
at_here (y ∷ xs) (suc k) x d h = at_here xs k x d h

pub at_within : {X : Type 0} (xs : List X) (k : ℕ) (x : X) → get_elem? xs k ≡ some x → k < length xs
at_within [] k x h = cc
at_within (y ∷ xs) zero x h = omega arith
at_within (y ∷ xs) (suc k) x h = let l = at_within xs k x h in omega arith

pub view_here : (views : List View) (a : ℕ) (v : View) → get_elem? views a ≡ some v → view_at views a ≡ v
view_here views a v h = at_here views a v nothing h

pub put_same : {X : Type 0} (f : ℕ → X) (i : ℕ) → put f i (f i) ≡ f
put_same f i = λ k j. at j k
  where
    at : (j : ℕ) → put f i (f i) j ≡ f j
    at j = at_put (λ x. x ≡ f j) f i (f i) j (λ e. ap f (sym e)) (λ _. refl)
