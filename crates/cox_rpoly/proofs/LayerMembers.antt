-- Layers: one element more, and what is a member of the next.
use Rattle.std.proofs.Common.{◌≡◌, ℕ, ◌+◌, ◌<◌, ◌≤◌, Some, None, List, [], ◌∷◌, ◌++◌, length, take, get_or, inl, inr, ap, sym, ◌∙◌, ⊎_elim}
use Rattle.std.proofs.Common.{arith}
use Rattle.std.specs.Prelude.{All, Contains, Result, Ok, Err, IfErr, IsErrAnd}
use Rattle.std.proofs.lemmas.Bool.{cases_lt}
use Rattle.std.proofs.lemmas.List.{length-append, get_or_append_left, get_or_default, take_more}
use Rattle.std.proofs.lemmas.List.Elements.{All-append, All-cons, All-nil, Contains-append_left}
use Rattle.std.proofs.Math.Seq.{get_or-append_seam}
use Rattle.cox_base.specs.IntegerMatrix.{IntegerMatrix}
use Rattle.cox_base.specs.Admissible.{IsAdmissible}
use Rattle.cox_base.specs.Reduced.{IsReduced}
use Rattle.cox_base.specs.Descents.{IsLeftDescent}
use Rattle.cox_base.specs.Bruhat.{IsBelow}
use Rattle.cox_reflect.proofs.Bruhat.{below-same, below-length, lift_down, lift_up}
use Rattle.cox_reflect.proofs.Elements.{same-refl, same-square}
use Rattle.cox_reflect.proofs.Lengths.{word_length-cons, cons-word_length}
use Rattle.cox_reflect.proofs.Search.{word_length-equal, word_length-length}
use Rattle.cox_rpoly.specs.declared.terms.Link.{Link}
use Rattle.cox_rpoly.specs.declared.terms.Link.TheVariants.{Shorter, Longer}
use Rattle.cox_rpoly.specs.ElementValues.{Naming, IsShortElement}
use Rattle.cox_rpoly.specs.Layer.{IsInLayer, IsLackedBy, HasGained, Extends, IsTimesAt, IsLongerLink, IsLink, AreLinks}

-- what holds of each fault
pub if_err : {T E : Type 0} {P : E → Type 0} (r : Result T E) → ((e : E) → P e) → IfErr r P
if_err (Ok x) p = tt
if_err (Err e) p = p e

-- what holds of the fault that it is
pub if_that_err : {T E : Type 0} (P : E → Type 0) (r : Result T E) (e : E) → IsErrAnd r (λ f. f ≡ e) → P e → IfErr r P
if_that_err P (Ok x) e is p = tt
if_that_err P (Err f) e is p = rw is p

module _ {X : Type 0} where
  -- ---- one element more

  pub HasGained-All : (P : X → Type 0) (old new : List X) (x : X) → HasGained old x new → All P old → P x → All P new
  HasGained-All P old new x (inl e) all here = rw e all
  HasGained-All P old new x (inr e) all here = rw e (All-append P old (x ∷ []) all (All-cons P x [] here (All-nil P)))

  pub HasGained-Extends : (old new : List X) (x : X) → HasGained old x new → Extends old new
  HasGained-Extends old new x (inl e) = record { kept = λ i y a. rw e a }
  HasGained-Extends old new x (inr e) = record {
    kept = λ i y a.
        rw e (record {
          within = omega (arith, a.within, length-append old (x ∷ []));
          is = λ d. get_or_append_left old (x ∷ []) d i a.within ∙ a.is d;
        });
  }

  -- what is not there now was not there
  pub HasGained-lacks : (old new : List X) (x y : X) → HasGained old x new → (Contains new y → ⊥) → Contains old y → ⊥
  HasGained-lacks old new x y (inl e) none has = none (rw e has)
  HasGained-lacks old new x y (inr e) none has = none (rw e (Contains-append_left old (x ∷ []) y has))

  pub Extends-trans : (a b c : List X) → Extends a b → Extends b c → Extends a c
  Extends-trans a b c e f = record { kept = λ i x h. f.kept i x (e.kept i x h) }

  Extends-contains : (old new : List X) (x : X) → Extends old new → Contains old x → Contains new x
  Extends-contains old new x e (k, within, is) =
      let at = e.kept k x (record { within = within; is = λ d. get_or_default old k d x within ∙ is })
      in (k, at.within, at.is x)

  -- what is lacked in the end was lacked before
  pub IsLackedBy-before : (of : Naming X) (A : IntegerMatrix) (v : List ℕ) (old new : List X) → Extends old new
      → IsLackedBy of A v new → IsLackedBy of A v old
  IsLackedBy-before of A v old new e l = record {
    element = l.element;
    member = l.member;
    lacks = λ has. l.lacks (Extends-contains old new l.element e has);
  }

module _ {X : Type 0} (of : Naming X) where
  -- a link holds on
  IsTimesAt-extends : (A : IntegerMatrix) (s : ℕ) (x : X) (old new : List X) (i : ℕ) → Extends old new → IsTimesAt of A s x old i
      → IsTimesAt of A s x new i
  IsTimesAt-extends A s x old new i e t = record { moved = t.moved; moves = t.moves; at = e.kept i t.moved t.at }

  IsLongerLink-extends : (A : IntegerMatrix) (s : ℕ) (x : X) (old new : List X) (i : ℕ) → Extends old new
      → IsLongerLink of A s x old i
      → IsLongerLink of A s x new i
  IsLongerLink-extends A s x old new i e l = record { ascent = l.ascent; at = e.kept i x l.at }

  pub IsLink-extends : (A : IntegerMatrix) (s : ℕ) (v : List ℕ) (x : X) (old new : List X) (l : Link) → Extends old new
      → IsLink of A s v x old l
      → IsLink of A s v x new l
  IsLink-extends A s v x old new (Shorter i) e l = record { descent = l.descent; times = IsTimesAt-extends A s x old new i e l.times }
  IsLink-extends A s v x old new (Longer i None) e l = (IsLongerLink-extends A s x old new i e l.0, l.1)
  IsLink-extends A s v x old new (Longer i (Some j)) e l =
      (IsLongerLink-extends A s x old new i e l.0, IsTimesAt-extends A s x old new j e l.1)

  module _ (A : IntegerMatrix) (g : IsAdmissible A) where
    -- ---- members, one letter less

    first-descent : (s : ℕ) (v : List ℕ) → IsReduced A (s ∷ v) → IsLeftDescent A (s ∷ v) s
    first-descent s v r = omega (arith, r, word_length-equal A g (same-square A g s v), word_length-length A g v)

    down : (s : ℕ) (x v : List ℕ) → IsBelow A x (s ∷ s ∷ v) → IsBelow A x v
    down s x v b = below-same A g (same-refl A g x) (same-square A g s v) b

    pub IsInLayer-shorter : (s : ℕ) (v : List ℕ) (x moved : X) → IsReduced A (s ∷ v) → IsInLayer of A (s ∷ v) x
        → ((u : List ℕ) → of A u x → IsLeftDescent A u s) → ((u : List ℕ) → of A u x → of A (s ∷ u) moved)
        → IsInLayer of A v moved
    IsInLayer-shorter s v x moved r m descent moves = record {
      word = s ∷ m.word;
      of_word = moves m.word m.of_word;
      below = down s (s ∷ m.word) v ((lift_down A g m.word (s ∷ v) s (first-descent s v r) (descent m.word m.of_word)).0 m.below);
      near = omega (arith, m.near, cons-word_length A g s m.word);
    }

    pub IsInLayer-still : (s : ℕ) (v : List ℕ) (x : X) → IsReduced A (s ∷ v) → IsInLayer of A (s ∷ v) x
        → ((u : List ℕ) → of A u x → IsLeftDescent A u s → ⊥) → IsInLayer of A v x
    IsInLayer-still s v x r m ascent = record {
      word = m.word;
      of_word = m.of_word;
      below = down s m.word v ((lift_up A g m.word (s ∷ v) s (first-descent s v r) (ascent m.word m.of_word)).0 m.below);
      near = omega (arith, m.near);
    }

    pub IsInLayer-times : (s : ℕ) (v : List ℕ) (x moved : X) → IsInLayer of A (s ∷ v) x
        → ((u : List ℕ) → of A u x → IsLeftDescent A u s → ⊥) → ((u : List ℕ) → of A u x → of A (s ∷ u) moved)
        → ((u : List ℕ) → of A u moved → IsBelow A u v) → IsInLayer of A v moved
    IsInLayer-times s v x moved m ascent moves below = record {
      word = s ∷ m.word;
      of_word = moves m.word m.of_word;
      below = below (s ∷ m.word) (moves m.word m.of_word);
      near = omega (arith, m.near, cons-word_length A g s m.word, word_length-cons A g s m.word);
    }

    -- x is short, and so is s x where s does not shorten x
    pub IsShortElement-member : (s : ℕ) (v : List ℕ) (x : X) (limit : ℕ) → IsReduced A (s ∷ v) → length v + 1 ≤ limit
        → IsInLayer of A (s ∷ v) x
        → IsShortElement of A limit x
    IsShortElement-member s v x limit r short m = record {
      word = m.word;
      of_word = m.of_word;
      short = omega (arith, below-length A g m.below, r, short);
    }

    pub IsShortElement-times : (s : ℕ) (v : List ℕ) (x moved : X) (limit : ℕ) → IsReduced A (s ∷ v) → length v + 1 ≤ limit
        → IsInLayer of A (s ∷ v) x
        → ((u : List ℕ) → of A u x → IsLeftDescent A u s → ⊥) → ((u : List ℕ) → of A u x → of A (s ∷ u) moved)
        → IsShortElement of A limit moved
    IsShortElement-times s v x moved limit r short m ascent moves =
        let still = IsInLayer-still s v x r m ascent
        in record {
          word = s ∷ still.word;
          of_word = moves still.word still.of_word;
          short = omega (arith, below-length A g still.below, word_length-length A g v, word_length-cons A g s still.word, short);
        }

  -- ---- links, one element more

  AreLinks-push : (A : IntegerMatrix) (s : ℕ) (v : List ℕ) (layer old new : List X) (links : List Link) (x : X) (l : Link)
      → AreLinks of A s v layer old links
      → Extends old new → IsLink of A s v x new l → AreLinks of A s v (layer ++ x ∷ []) new (links ++ l ∷ [])
  AreLinks-push A s v layer old new links x l are e here = record {
    count = omega (arith, are.count, length-append layer (x ∷ []), length-append links (l ∷ []));
    each = λ i y m below. ⊎_elim (before i y m)
        (λ (le : length layer ≤ i). last i y m (omega (arith, le, below, length-append layer (x ∷ [])))) (cases_lt i (length layer));
  }
    where
      before : (i : ℕ) (y : X) (m : Link) → i < length layer
          → IsLink of A s v (get_or (layer ++ x ∷ []) i y) new (get_or (links ++ l ∷ []) i m)
      before i y m less =
          let inside : i < length links = omega (arith, less, are.count)
          in rw (get_or_append_left layer (x ∷ []) y i less, get_or_append_left links (l ∷ []) m i inside)
          (IsLink-extends A s v (get_or layer i y) old new (get_or links i m) e (are.each i y m less))

      last : (i : ℕ) (y : X) (m : Link) → i ≡ length layer
          → IsLink of A s v (get_or (layer ++ x ∷ []) i y) new (get_or (links ++ l ∷ []) i m)
      last i y m is =
          let also : i ≡ length links = is ∙ sym are.count
          in let first = ap (λ (k : ℕ). get_or (layer ++ x ∷ []) k y) is ∙ get_or-append_seam layer x [] y
          in let second = ap (λ (k : ℕ). get_or (links ++ l ∷ []) k m) also ∙ get_or-append_seam links l [] m
          in rw (first, second) here

  -- a turn of the loop over a layer
  pub AreLinks-more : (A : IntegerMatrix) (s : ℕ) (v : List ℕ) (layer old new : List X) (links : List Link) (k : ℕ) (x : X)
      (l : Link) → k < length layer
      → x ≡ get_or layer k x → AreLinks of A s v (take k layer) old links → Extends old new → IsLink of A s v x new l
      → AreLinks of A s v (take (k + 1) layer) new (links ++ l ∷ [])
  AreLinks-more A s v layer old new links k x l inside is are e here =
      rw (take_more layer k x inside, ← is) (AreLinks-push A s v (take k layer) old new links x l are e here)
