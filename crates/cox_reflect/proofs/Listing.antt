-- Words in any order can be listed in ShortLex order; and the subwords of a word.
use Rattle.std.proofs.Common.{◌≡◌, ℕ, zero, suc, ◌<◌, List, [], ◌∷◌, ◌++◌, map, length, get_or, Contains, ◌⊎◌, inl, inr}
use Rattle.std.proofs.Common.{refl, ⊎_elim, arith, subst}
use Rattle.std.proofs.lemmas.Cmp.{nat_cmp_total, nat_list_cmp_total, on_total, then_total}
use Rattle.cox_base.specs.Bruhat.{IsSubword, none, kept, left_out}
use Rattle.cox_reflect.proofs.Members.{In, here, there, Each, more, none as nothing, Each-append, Each-from, Each-in, Each-map}
use Rattle.cox_reflect.proofs.Members.{Each-weaker, In-append_left, In-append_right, In-map}
use Rattle.cox_reflect.proofs.ShortLexFirst.{IsBefore, before_cases, before-shortlex_cmp, shortlex_cmp-before}
use Rattle.cox_base.specs.SortedList.{IsRising, IsListOf}

-- ---- what a list contains, by its places and by its words

pub contains-in : {word : List ℕ} (words : List (List ℕ)) → Contains words word → In word words
contains-in {word} words (i, l, e) = subst (λ (x : List ℕ). In x words) e (read words i l)
  where
    read : (words : List (List ℕ)) (i : ℕ) → i < length words → In (get_or words i word) words
    read [] i l = absurd (omega (arith, l))
    read (x ∷ words) zero l = here
    read (x ∷ words) (suc i) l = there (read words i (omega (arith, l)))

pub in-contains : {word : List ℕ} {words : List (List ℕ)} → In word words → Contains words word
in-contains here = (0, omega arith, refl)
in-contains (there i) = let c = in-contains i in (suc c.0, omega (arith, c.1), c.2)

-- ---- listing words

before-trans : {u v w : List ℕ} → IsBefore u v → IsBefore v w → IsBefore u w
before-trans {u} {v} {w} a b =
    shortlex_cmp-before u w ((then_total (on_total length nat_cmp_total) nat_list_cmp_total).trans u v w (before-shortlex_cmp a)
    (before-shortlex_cmp b))

-- each word comes before those behind it
pub data Rises : List (List ℕ) → Type 0 where
  rises_none : Rises []
  rises_more : {x : List ℕ} {xs : List (List ℕ)} → Each (IsBefore x) xs → Rises xs → Rises (x ∷ xs)

in-at : (words : List (List ℕ)) (i : ℕ) → i < length words → In (get_or words i []) words
in-at [] i l = absurd (omega (arith, l))
in-at (x ∷ words) zero l = here
in-at (x ∷ words) (suc i) l = there (in-at words i (omega (arith, l)))

pub rises-rising : {words : List (List ℕ)} → Rises words → IsRising words
rises-rising rises_none i j l k = absurd (omega (arith, k))
rises-rising (rises_more h r) i zero l k = absurd (omega (arith, l))
rises-rising (rises_more {xs = words} h r) zero (suc j) l k = before-shortlex_cmp (Each-in h (in-at words j (omega (arith, k))))
rises-rising (rises_more h r) (suc i) (suc j) l k = rises-rising r i j (omega (arith, l)) (omega (arith, k))

in_cases : {word x : List ℕ} {words : List (List ℕ)} → In word (x ∷ words) → (word ≡ x) ⊎ In word words
in_cases here = inl refl
in_cases (there i) = inr i

-- a list with the words of another, and x
record IsWith (x : List ℕ) (words : List (List ℕ)) : Type 0 where
  list : List (List ℕ)
  rises : Rises list
  new : In x list
  old : (word : List ℕ) → In word words → In word list
  only : (word : List ℕ) → In word list → (word ≡ x) ⊎ In word words

with-word : (x : List ℕ) {words : List (List ℕ)} → Rises words → IsWith x words
with-word x rises_none = record {
  list = x ∷ [];
  rises = rises_more nothing rises_none;
  new = here;
  old = λ word i. elim i [ ];
  only = λ word i. in_cases i;
}
with-word x (rises_more {x = y} {xs = words} h r) = go (before_cases x y) (with-word x r)
  where
    prefix : (word : List ℕ) (c : IsWith x words) → In word (y ∷ c.list) → (word ≡ x) ⊎ In word (y ∷ words)
    prefix word c i = ⊎_elim (λ e. inr (rw e here)) (λ j. ⊎_elim (λ e. inl e) (λ k. inr (there k)) (c.only word j)) (in_cases i)

    go : (x ≡ y) ⊎ (IsBefore x y ⊎ IsBefore y x) → IsWith x words → IsWith x (y ∷ words)
    go (inl e) c = record { list = y ∷ words; rises = rises_more h r; new = rw e here; old = λ word i. i; only = λ word i. inr i }
    go (inr (inl b)) c = record {
      list = x ∷ y ∷ words;
      rises = rises_more (more b (Each-weaker (λ w d. before-trans b d) h)) (rises_more h r);
      new = here;
      old = λ word i. there i;
      only = λ word i. in_cases i;
    }
    go (inr (inr b)) c = record {
      list = y ∷ c.list;
      rises = rises_more (Each-from c.list (λ w i. ⊎_elim (λ e. rw e b) (λ j. Each-in h j) (c.only w i))) c.rises;
      new = there c.new;
      old = λ word i. ⊎_elim (λ e. rw e here) (λ j. there (c.old word j)) (in_cases i);
      only = λ word i. prefix word c i;
    }

-- in any order
record IsSortedOf (words : List (List ℕ)) : Type 0 where
  list : List (List ℕ)
  rises : Rises list
  all : (word : List ℕ) → In word words → In word list
  only : (word : List ℕ) → In word list → In word words

sorted-of : (words : List (List ℕ)) → IsSortedOf words
sorted-of [] = record { list = []; rises = rises_none; all = λ word i. i; only = λ word i. i }
sorted-of (x ∷ words) =
    let c = sorted-of words
    in let d = with-word x c.rises
    in record {
      list = d.list;
      rises = d.rises;
      all = λ word i. ⊎_elim (λ e. rw e d.new) (λ j. d.old word (c.all word j)) (in_cases i);
      only = λ word i. ⊎_elim (λ e. rw e here) (λ j. there (c.only word j)) (d.only word i);
    }

pub listing : (P : List ℕ → Type 0) (words : List (List ℕ)) → Each P words → ((word : List ℕ) → P word → In word words)
    → (list : List (List ℕ)) × IsListOf P list
listing P words are whole =
    let c = sorted-of words
    in (
      c.list,
      record {
        rising = rises-rising c.rises;
        sound = λ word i. Each-in are (c.only word (contains-in c.list i));
        whole = λ word p. in-contains (c.all word (whole word p));
      },
    )

-- ---- subwords

pub subwords : List ℕ → List (List ℕ)
subwords [] = [] ∷ []
subwords (s ∷ w) = map (λ v. s ∷ v) (subwords w) ++ subwords w

pub Each-subwords : (w : List ℕ) → Each (λ v. IsSubword v w) (subwords w)
unfolding subwords
Each-subwords [] = more none nothing
Each-subwords (s ∷ w) =
    Each-append (Each-map (λ v. IsSubword v (s ∷ w)) (λ v. s ∷ v) (Each-weaker (λ v a. kept a) (Each-subwords w)))
    (Each-weaker (λ v a. left_out a) (Each-subwords w))

pub In-subwords : {v w : List ℕ} → IsSubword v w → In v (subwords w)
unfolding subwords
In-subwords none = here
In-subwords (kept {s = s} {w = w} a) = In-append_left (subwords w) (In-map (λ v. s ∷ v) (In-subwords a))
In-subwords (left_out {s = s} {w = w} a) = In-append_right (map (λ v. s ∷ v) (subwords w)) (In-subwords a)
