-- The elements below v in a list, each behind all others that are below it, and the way from them to those below s v: for each of them, in
-- order, s x is put behind the others, where it is not there. And a new member behind the others, which stay closed downwards.
use Rattle.std.proofs.Common.{◌≡◌, ℕ, ◌+◌, ◌≤◌, ◌<◌, List, [], ◌∷◌, ◌++◌, length, Contains, ◌⊎◌, inl, inr, refl, sym}
use Rattle.std.proofs.Common.{◌∙◌, ⊎_elim, arith}
use Rattle.std.proofs.lemmas.Bool.{cases_lt}
use Rattle.cox_lemmas.proofs.PushedItems.{push-length, push_cases}
use Rattle.cox_base.specs.Matrix.{IsLetter}
use Rattle.cox_base.specs.IntegerMatrix.{IntegerMatrix}
use Rattle.cox_base.specs.Admissible.{IsAdmissible}
use Rattle.cox_base.specs.Element.{SameElement}
use Rattle.cox_base.specs.ShortLex.{normal_form}
use Rattle.cox_base.specs.Length.{word_length}
use Rattle.cox_base.specs.Descents.{IsLeftDescent}
use Rattle.cox_base.specs.Bruhat.{IsBelow}
use Rattle.cox_base.specs.Members.{IsElement}
use Rattle.cox_base.specs.declared.limits.TheConstants.{MAX_LETTERS}
use Rattle.cox_reflect.proofs.Elements.{same-refl, same-sym, same-trans, same-cons, same-square}
use Rattle.cox_reflect.proofs.Search.{normal_form-same, normal_form-equal, word_length-equal, word_length-length}
use Rattle.cox_reflect.proofs.Deletion.{left_length}
use Rattle.cox_reflect.proofs.Bruhat.{below-same, below-refl, below-trans, below-descent, below-cons, below-length}
use Rattle.cox_reflect.proofs.Bruhat.{lift_down, lift_up}
use Rattle.cox_reflect.proofs.NormalElements.{element-normal_form, element-length}
use Rattle.cox_context.specs.declared.members.TheConstants.{MAX_MEMBERS}
use Rattle.cox_context.specs.Closed.{IsClosed}
use Rattle.cox_context.specs.Numbers.{word_at}
use Rattle.cox_context.specs.Spread.{AreFound, IsAmong, IsShifted, IsSpreading}
use Rattle.cox_context.proofs.PlacedWords.{contains-placed, placed-contains, contains-at, word_at-old, word_at-new}
use Rattle.cox_context.proofs.Ideals.{element-nil}

-- a word of a list with one more word
pub contains-push : (words : List (List ℕ)) (y word : List ℕ) → Contains words word → Contains (words ++ y ∷ []) word
contains-push words y word c =
    let p = contains-placed words word c
    in placed-contains (words ++ y ∷ []) word (record {
      i = p.i;
      within = omega (arith, p.within, push-length words y);
      is = word_at-old words y p.i p.within ∙ p.is;
    })

pub contains-last : (words : List (List ℕ)) (y word : List ℕ) → y ≡ word → Contains (words ++ y ∷ []) word
contains-last words y word e = placed-contains (words ++ y ∷ []) word (record {
  i = length words;
  within = omega (arith, push-length words y);
  is = word_at-new words y (length words) refl ∙ e;
})

pub contains_cases : (words : List (List ℕ)) (y word : List ℕ) → Contains (words ++ y ∷ []) word → Contains words word ⊎ (y ≡ word)
contains_cases words y word c =
    let p = contains-placed (words ++ y ∷ []) word c
    in ⊎_elim
    (λ below. inl (placed-contains words word (record { i = p.i; within = below; is = sym (word_at-old words y p.i below) ∙ p.is })))
    (λ last. inr (sym (word_at-new words y p.i last) ∙ p.is)) (push_cases words y p.i p.within)

-- distinct words, and one that is none of them
pub distinct-push : (words : List (List ℕ)) (y : List ℕ)
    → ((i j : ℕ) → i < length words → j < length words → word_at words i ≡ word_at words j → i ≡ j)
    → (Contains words y → ⊥) → (i j : ℕ) → i < length (words ++ y ∷ []) → j < length (words ++ y ∷ [])
    → word_at (words ++ y ∷ []) i ≡ word_at (words ++ y ∷ []) j → i ≡ j
distinct-push words y distinct none i j l m e =
    ⊎_elim
    (λ (a : i < length words). ⊎_elim (λ (b : j < length words). distinct i j a b (sym (old i a) ∙ e ∙ old j b))
    (λ (b : j ≡ length words). absurd (none (placed-contains words y (record {
      i = i;
      within = a;
      is = sym (old i a) ∙ e ∙ last_word j b;
    }))))
    (push_cases words y j m))
    (λ (a : i ≡ length words). ⊎_elim
    (λ (b : j < length words). absurd (none (placed-contains words y (record {
      i = j;
      within = b;
      is = sym (old j b) ∙ sym e ∙ last_word i a;
    }))))
    (λ (b : j ≡ length words). omega (arith, a, b)) (push_cases words y j m))
    (push_cases words y i l)
  where
    old : (k : ℕ) → k < length words → word_at (words ++ y ∷ []) k ≡ word_at words k
    old k l = word_at-old words y k l

    last_word : (k : ℕ) → k ≡ length words → word_at (words ++ y ∷ []) k ≡ y
    last_word k e = word_at-new words y k e

module _ (A : IntegerMatrix) (g : IsAdmissible A) (words : List (List ℕ)) (closed : IsClosed A words) where
  -- ---- an element that has all below it among the members, and is none, may be the next member
  module _ (y : List ℕ) (element : IsElement A y) (none : Contains words y → ⊥)
      (below : (z : List ℕ) → IsElement A z → IsBelow A z y → Contains words z ⊎ (y ≡ z)) where
    old : (i : ℕ) → i < length words → word_at (words ++ y ∷ []) i ≡ word_at words i
    old i l = word_at-old words y i l

    last_word : (i : ℕ) → i ≡ length words → word_at (words ++ y ∷ []) i ≡ y
    last_word i e = word_at-new words y i e

    pushed-upward : (i j : ℕ) → i < length (words ++ y ∷ []) → j < length (words ++ y ∷ [])
        → IsBelow A (word_at (words ++ y ∷ []) i) (word_at (words ++ y ∷ []) j) → i ≤ j
    pushed-upward i j l m b =
        ⊎_elim
        (λ (a : j < length words). ⊎_elim (λ (d : i < length words). closed.upward i j d a (rw (old i d, old j a) at b))
        (λ (d : i ≡ length words). absurd (none (closed.down y (word_at words j) (contains-at words j a) element
        (rw (last_word i d, old j a) at b)))) (push_cases words y i l))
        (λ (a : j ≡ length words). omega (arith, a, l, push-length words y)) (push_cases words y j m)

    pub closed-push : length y ≤ MAX_LETTERS → length words < MAX_MEMBERS → IsClosed A (words ++ y ∷ [])
    closed-push short few = record {
      distinct = distinct-push words y closed.distinct none;
      upward = pushed-upward;
      element = λ word c. ⊎_elim (λ there. closed.element word there) (λ e. rw (← e) element) (contains_cases words y word c);
      down = λ z w c e b. ⊎_elim (λ there. contains-push words y z (closed.down z w there e b))
          (λ q. ⊎_elim (λ there. contains-push words y z there) (λ is. contains-last words y z is) (below z e (rw (← q) at b)))
          (contains_cases words y w c);
      short = λ word c. ⊎_elim (λ there. closed.short word there) (λ e. rw (← e) short) (contains_cases words y word c);
      some = omega (arith, push-length words y, closed.some);
      few = omega (arith, push-length words y, few);
    }

-- ---- the step from v to s v

module _ (A : IntegerMatrix) (g : IsAdmissible A) (s : ℕ) (v : List ℕ) (letter : IsLetter A.rank s) (d : IsLeftDescent A (s ∷ v) s) where
  -- what is below v is below s v
  pub below-longer : (x : List ℕ) → IsBelow A x v → IsBelow A x (s ∷ v)
  below-longer x b =
      below-trans A g b (below-same A g (same-square A g s v) (same-refl A g (s ∷ v)) (below-descent A g (s ∷ v) s d))

  -- and so is s x
  pub shift-below : (x : List ℕ) → IsBelow A x v → IsBelow A (normal_form A (s ∷ x)) (s ∷ v)
  shift-below x b =
      below-same A g (same-sym A g (normal_form-same A g (s ∷ x))) (same-refl A g (s ∷ v))
      (below-cons A g x (s ∷ v) s d (below-longer x b))

  pub spread-start : (found : List (List ℕ)) → AreFound A v found → IsSpreading A s v (length found) 0 found
  spread-start found h = record {
    many = omega arith;
    element = h.element;
    upward = h.upward;
    first = h.sound;
    whole = λ word e b. let p = contains-placed found word (h.whole word e b) in record { p = p.i; before = p.within; is = p.is };
    later = λ p from l. absurd (omega (arith, from, l));
    done = λ p less. absurd (omega (arith, less));
  }

  -- where x is below v, and s x is not, s lengthens x
  module _ (x : List ℕ) (b : IsBelow A x v) (above : IsBelow A (normal_form A (s ∷ x)) v → ⊥) where
    ascends : IsLeftDescent A x s → ⊥
    ascends down =
        above (below-trans A g (below-same A g (same-sym A g (normal_form-same A g (s ∷ x))) (same-refl A g x)
        (below-descent A g x s down)) b)

    longer : word_length A (s ∷ x) ≡ word_length A x + 1
    longer = ⊎_elim (λ up. up) (λ down. absurd (ascends (omega (arith, down)))) (left_length A g s x letter)

    descends : IsLeftDescent A (s ∷ x) s
    descends = omega (arith, longer, word_length-equal A g (same-square A g s x))

  module _ (size j : ℕ) (found : List (List ℕ)) (h : IsSpreading A s v size j found) where
    -- s x was found before
    pub spread-known : Contains found (normal_form A (s ∷ word_at found j)) → IsSpreading A s v size (j + 1) found
    spread-known there = record {
      many = h.many;
      element = h.element;
      upward = h.upward;
      first = h.first;
      whole = h.whole;
      later = λ p from l. let k = h.later p from l in record { above = k.above; i = k.i; before = omega (arith, k.before); is = k.is };
      done = λ p less. ⊎_elim (λ (before : p < j). h.done p before)
          (λ (more : j ≤ p). let e : p ≡ j = omega (arith, less, more) in rw e there) (cases_lt p j);
    }

    module _ (inside : j < size) (none : Contains found (normal_form A (s ∷ word_at found j)) → ⊥) where
      abbrev x : List ℕ
      x = word_at found j

      abbrev y : List ℕ
      y = normal_form A (s ∷ word_at found j)

      among : (word : List ℕ) → IsAmong found size word → Contains found word
      among word p = placed-contains found word (record { i = p.p; within = omega (arith, p.before, h.many); is = p.is })

      x_below : IsBelow A x v
      x_below = h.first j inside

      y_element : IsElement A y
      y_element = element-normal_form A g (s ∷ x)

      y_above : IsBelow A y v → ⊥
      y_above b = none (among y (h.whole y y_element b))

      up : IsLeftDescent A (s ∷ x) s
      up = descends x x_below y_above

      back : SameElement A (s ∷ s ∷ x) x
      back = same-square A g s x

      -- each element below it was found
      pub next-below : (z : List ℕ) → IsElement A z → IsBelow A z (normal_form A (s ∷ word_at found j))
          → Contains found z ⊎ (normal_form A (s ∷ word_at found j) ≡ z)
      next-below z e b = ⊎_elim above below (left_length A g s z letter)
        where
          under : IsBelow A z (s ∷ x)
          under = below-same A g (same-refl A g z) (normal_form-same A g (s ∷ x)) b

          above : word_length A (s ∷ z) ≡ word_length A z + 1 → Contains found z ⊎ (y ≡ z)
          above q =
              let n : IsLeftDescent A z s → ⊥ = λ f. omega (arith, f, q)
              in let c = below-same A g (same-refl A g z) back ((lift_up A g z (s ∷ x) s up n).0 under)
              in inl (among z (h.whole z e (below-trans A g c x_below)))

          below : word_length A z ≡ word_length A (s ∷ z) + 1 → Contains found z ⊎ (y ≡ z)
          below q =
              go (h.whole (normal_form A (s ∷ z)) (element-normal_form A g (s ∷ z))
              (below-same A g (same-sym A g (normal_form-same A g (s ∷ z))) (same-refl A g v) (below-trans A g c x_below)))
            where
              f : IsLeftDescent A z s
              f = omega (arith, q)

              c : IsBelow A (s ∷ z) x
              c = below-same A g (same-refl A g (s ∷ z)) back ((lift_down A g z (s ∷ x) s up f).0 under)

              go : IsAmong found size (normal_form A (s ∷ z)) → Contains found z ⊎ (y ≡ z)
              go p = ⊎_elim (λ (less : p.p < j). inl (rw again at (h.done p.p less))) (λ (more : j ≤ p.p). inr (here more)) (cases_lt p.p j)
                where
                  same : SameElement A (word_at found p.p) (s ∷ z)
                  same = rw p.is (normal_form-same A g (s ∷ z))

                  again : normal_form A (s ∷ word_at found p.p) ≡ z
                  again = normal_form-equal A g (same-trans A g (same-cons A g s same) (same-square A g s z)) ∙ e.normal

                  there : IsBelow A (word_at found p.p) x
                  there = below-same A g (same-sym A g same) (same-refl A g x) c

                  here : j ≤ p.p → y ≡ z
                  here more =
                      let is : p.p ≡ j = omega
                      (arith, more, h.upward p.p j (omega (arith, p.before, h.many)) (omega (arith, inside, h.many)) there)
                      in rw is at again

      -- and it is below none of those
      below-none : (q : ℕ) → q < length found → IsBelow A y (word_at found q) → ⊥
      below-none q l b = ⊎_elim
          (λ (less : q < size). y_above (below-trans A g b (h.first q less)))
          (λ (more : size ≤ q). go (h.later q more l)) (cases_lt q size)
        where
          go : IsShifted A s v j found (word_at found q) → ⊥
          go k = absurd (omega (
            arith,
            k.before,
            h.upward j k.i (omega (arith, inside, h.many)) (omega (arith, k.before, inside, h.many)) lower,
          ))
            where
              u : List ℕ
              u = word_at found k.i

              u_up : IsLeftDescent A (s ∷ u) s
              u_up = descends u (h.first k.i (omega (arith, k.before, inside))) (λ c. k.above (rw k.is c))

              shifts : IsBelow A (s ∷ x) (s ∷ u)
              shifts = below-same A g (normal_form-same A g (s ∷ x)) (normal_form-same A g (s ∷ u)) (rw k.is at b)

              lower : IsBelow A x u
              lower = below-same A g back (same-square A g s u) ((lift_down A g (s ∷ x) (s ∷ u) s u_up up).0 shifts)

      kept_word : (p : ℕ) → p < length found → word_at (found ++ y ∷ []) p ≡ word_at found p
      kept_word p l = word_at-old found y p l

      front : (p : ℕ) → p < size → word_at (found ++ y ∷ []) p ≡ word_at found p
      front p l = word_at-old found y p (omega (arith, l, h.many))

      last : (p : ℕ) → p ≡ length found → word_at (found ++ y ∷ []) p ≡ y
      last p e = word_at-new found y p e

      shifted : (word : List ℕ) → IsShifted A s v j found word → IsShifted A s v (j + 1) (found ++ y ∷ []) word
      shifted word k = record {
        above = k.above;
        i = k.i;
        before = omega (arith, k.before);
        is = rw (front k.i (omega (arith, k.before, inside))) k.is;
      }

      pub spread-push : IsSpreading A s v size (j + 1) (found ++ normal_form A (s ∷ word_at found j) ∷ [])
      spread-push = record {
        many = omega (arith, h.many, push-length found y);
        element = λ p l. ⊎_elim (λ less. rw (kept_word p less) (h.element p less)) (λ e. rw (last p e) y_element) (push_cases found y p l);
        upward = λ p q l m b. ⊎_elim
            (λ (less : q < length found). ⊎_elim
            (λ (less2 : p < length found). h.upward p q less2 less (rw (kept_word p less2, kept_word q less) at b))
            (λ (e : p ≡ length found). absurd (below-none q less (rw (last p e, kept_word q less) at b))) (push_cases found y p l))
            (λ (e : q ≡ length found). omega (arith, e, l, push-length found y)) (push_cases found y q m);
        first = λ p l. rw (front p l) (h.first p l);
        whole = λ word e b. let k = h.whole word e b in record { p = k.p; before = k.before; is = front k.p k.before ∙ k.is };
        later = λ p from l. ⊎_elim (λ less. rw (kept_word p less) (shifted (word_at found p) (h.later p from less)))
            (λ e. rw (last p e) (record { above = y_above; i = j; before = omega arith; is = rw (front j inside) refl }))
            (push_cases found y p l);
        done = λ p less. ⊎_elim (λ (before : p < j). rw (front p (omega (arith, before, inside)))
            (contains-push found y (normal_form A (s ∷ word_at found p)) (h.done p before)))
            (λ (more : j ≤ p). let e : p ≡ j = omega (arith, less, more)
            in rw (e, front j inside) (contains-last found y y refl)) (cases_lt p j);
      }

  -- all that were below v are done: those below s v were found
  pub spread-end : (size : ℕ) (found : List (List ℕ)) → IsSpreading A s v size size found → AreFound A (s ∷ v) found
  spread-end size found h = record {
    element = h.element;
    upward = h.upward;
    sound = λ p l. ⊎_elim (λ (less : p < size). below-longer (word_at found p) (h.first p less))
        (λ (more : size ≤ p). let k = h.later p more l in rw k.is (shift-below (word_at found k.i) (h.first k.i k.before)))
        (cases_lt p size);
    whole = λ word e b. ⊎_elim (λ q. above word e b q) (λ q. below word e b q) (left_length A g s word letter);
  }
    where
      among : (word : List ℕ) → IsAmong found size word → Contains found word
      among word p = placed-contains found word (record { i = p.p; within = omega (arith, p.before, h.many); is = p.is })

      above : (word : List ℕ) → IsElement A word → IsBelow A word (s ∷ v) → word_length A (s ∷ word) ≡ word_length A word + 1
          → Contains found word
      above word e b q =
          let n : IsLeftDescent A word s → ⊥ = λ f. omega (arith, f, q)
          in among word (h.whole word e (below-same A g (same-refl A g word) (same-square A g s v)
          ((lift_up A g word (s ∷ v) s d n).0 b)))

      below : (word : List ℕ) → IsElement A word → IsBelow A word (s ∷ v) → word_length A word ≡ word_length A (s ∷ word) + 1
          → Contains found word
      below word e b q =
          let f : IsLeftDescent A word s = omega (arith, q)
          in let same : SameElement A (normal_form A (s ∷ word)) (s ∷ word) = normal_form-same A g (s ∷ word)
          in let c : IsBelow A (normal_form A (s ∷ word)) v = below-same A g (same-sym A g same) (same-square A g s v)
          ((lift_down A g word (s ∷ v) s d f).0 b)
          in let k = h.whole (normal_form A (s ∷ word)) (element-normal_form A g (s ∷ word)) c
          in let is : normal_form A (s ∷ word_at found k.p) ≡ word
          = rw k.is (normal_form-equal A g (same-trans A g (same-cons A g s same) (same-square A g s word)) ∙ e.normal)
          in rw is at (h.done k.p k.before)

-- the identity alone is below the empty word
pub found-identity : (A : IntegerMatrix) → IsAdmissible A → AreFound A [] ([] ∷ [])
found-identity A g = record {
  element = λ p l. let e : p ≡ 0 = omega (arith, l) in rw e (element-nil A g);
  upward = λ p q l m b. omega (arith, l);
  sound = λ p l. let e : p ≡ 0 = omega (arith, l) in rw e (below-refl A g (same-refl A g []));
  whole = λ word e b. placed-contains ([] ∷ []) word (record {
    i = 0;
    within = omega arith;
    is = sym (empty word (omega (arith, below-length A g b, element-length A g word e, word_length-length A g [])));
  });
}
  where
    empty : (n : List ℕ) → length n ≤ 0 → n ≡ []
    empty [] l = refl
    empty (s ∷ x) l = absurd (omega (arith, l))
