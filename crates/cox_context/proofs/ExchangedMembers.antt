-- The members on the way along a reduced word, letter by letter, and s x for a member x, where it is no member.
use Rattle.std.proofs.Common.{◌≡◌, ℕ, suc, ◌+◌, ◌≤◌, ◌<◌, List, [], ◌∷◌, length, drop, Contains, drop-cons, refl, sym}
use Rattle.std.proofs.Common.{◌∙◌, arith, ap, slice_index, inl, inr, ◌⊎◌, ⊎_elim, ◌↔◌, take, Some}
use Rattle.std.proofs.lemmas.List.{length-drop}
use Rattle.cox_base.specs.Matrix.{CoxeterMatrix, IsLetter}
use Rattle.cox_base.specs.Admissible.{IsAdmissible}
use Rattle.cox_base.specs.IntegerMatrix.{IntegerMatrix, integer_matrix}
use Rattle.cox_base.specs.Element.{SameElement}
use Rattle.cox_base.specs.ShortLex.{normal_form}
use Rattle.cox_base.specs.Length.{word_length}
use Rattle.cox_base.specs.Bruhat.{IsBelow}
use Rattle.cox_base.specs.Members.{IsElement}
use Rattle.cox_base.specs.Descents.{IsLeftDescent}
use Rattle.cox_base.specs.declared.limits.TheConstants.{MAX_LETTERS}
use Rattle.cox_reflect.proofs.Elements.{same-refl, same-sym, same-trans, same-cons, same-square}
use Rattle.cox_reflect.proofs.Search.{normal_form-same, normal_form-equal, word_length-equal, word_length-length, length-normal_form}
use Rattle.cox_reflect.proofs.Lengths.{word_length-is, word_length-cons}
use Rattle.cox_reflect.proofs.Deletion.{left_length}
use Rattle.cox_reflect.proofs.Chains.{lift_chain}
use Rattle.cox_reflect.proofs.Bruhat.{below-same, below-trans, below-length, below-descent, below-chain, chain-below}
use Rattle.cox_reflect.proofs.Bruhat.{lift_down, lift_up}
use Rattle.cox_reflect.proofs.NormalElements.{element-normal_form, element-length}
use Rattle.cox_lemmas.proofs.PushedItems.{push-length}
use Rattle.cox_context.specs.Closed.{IsClosed, Elements}
use Rattle.cox_context.specs.Numbers.{word_at}
use Rattle.cox_context.specs.Numbering.{IsNumberOf}
use Rattle.cox_context.specs.Union.{IsInUnion}
use Rattle.cox_context.specs.Spread.{AreKept, IsGrownBy, no_more, one_more, AreAppended}
use Rattle.cox_context.specs.Appending.{IsNextMember, without_letter}
use Rattle.cox_context.proofs.PlacedWords.{contains-placed, placed-contains, word_at-old}
use Rattle.cox_context.proofs.Ideals.{element-nil}
use Rattle.cox_context.proofs.Shifting.{first-member}
use Rattle.cox_context.proofs.Spreading.{contains_cases, closed-push, shift-below}
use Rattle.cox_context.proofs.ShorterWords.{without-length, without-below, below_without}

-- ---- s x for a member x, where it is no member

module _ (c : CoxeterMatrix) (g : IsAdmissible (integer_matrix c)) (words : List (List ℕ)) (closed : IsClosed (integer_matrix c) words)
    (s : ℕ) (x : List ℕ) (letter : IsLetter c.rank s) (there : Contains words x)
    (none : Contains words (normal_form (integer_matrix c) (s ∷ x)) → ⊥) where
  abbrev A : IntegerMatrix
  A = integer_matrix c

  abbrev y : List ℕ
  y = normal_form (integer_matrix c) (s ∷ x)

  x-element : IsElement A x
  x-element = closed.element x there

  x-length : word_length A x ≡ length x
  x-length = element-length A g x x-element

  same : SameElement A y (s ∷ x)
  same = normal_form-same A g (s ∷ x)

  ascends : IsLeftDescent A x s → ⊥
  ascends down =
      none (closed.down y x there (element-normal_form A g (s ∷ x))
      (below-same A g (same-sym A g same) (same-refl A g x) (below-descent A g x s down)))

  longer : word_length A (s ∷ x) ≡ word_length A x + 1
  longer = ⊎_elim (λ up. up) (λ down. absurd (ascends (omega (arith, down)))) (left_length A g s x letter)

  descends : IsLeftDescent A (s ∷ x) s
  descends = omega (arith, longer, word_length-equal A g (same-square A g s x))

  -- a word z of a letter less
  module _ (k : ℕ) (l : k < length x) where
    abbrev z : List ℕ
    z = without_letter k x

    -- what is below s z is below s x
    pub shorter-below : (word : List ℕ) → IsBelow (integer_matrix c) word (s ∷ normal_form (integer_matrix c) (without_letter k x))
        → IsBelow (integer_matrix c) word (s ∷ x)
    shorter-below word b =
        below-trans A g b (below-same A g
        (same-trans A g (normal_form-same A g (s ∷ z)) (same-cons A g s (same-sym A g (normal_form-same A g z))))
        (same-refl A g (s ∷ x)) (shift-below A g s x letter descends z (without-below A g x x-element k l)))

    -- and s x is not below s z
    shorter-none : IsBelow A y (s ∷ normal_form A z) → ⊥
    shorter-none b = omega (
      arith,
      below-length A g b,
      word_length-equal A g same,
      longer,
      x-length,
      word_length-cons A g s (normal_form A z),
      word_length-equal A g (normal_form-same A g z),
      word_length-length A g z,
      without-length k x l,
    )

    pub shorter-short : length x < MAX_LETTERS → length (normal_form (integer_matrix c) (without_letter k x)) < MAX_LETTERS
    shorter-short short = omega (arith, length-normal_form A g z, without-length k x l, short)

    -- so s x is no member, where those below s z were appended, and s z is one
    module _ (new : List (List ℕ))
        (more : AreAppended (integer_matrix c) (s ∷ normal_form (integer_matrix c) (without_letter k x)) words new)
      where
        pub shorter-absent : Contains new (normal_form (integer_matrix c) (s ∷ x)) → ⊥
        shorter-absent again = ⊎_elim (λ before. none before) (λ b. shorter-none b) (more.below y again)

        pub shorter-done : (at : ℕ)
            → IsNumberOf new (normal_form (integer_matrix c) (s ∷ normal_form (integer_matrix c) (without_letter k x))) (Some at)
            → Contains new (normal_form (integer_matrix c) (s ∷ without_letter k x))
        shorter-done at number = placed-contains new (normal_form A (s ∷ z)) (record {
          i = at;
          within = number.0;
          is = number.1 ∙ normal_form-equal A g (same-cons A g s (normal_form-same A g z));
        })

  module _ (short : length x < MAX_LETTERS)
      (done : (k : ℕ) → k < length x → Contains words (normal_form (integer_matrix c) (s ∷ without_letter k x))) where
    -- an element z with s z below x
    shifted : (z : List ℕ) → IsElement A z → IsBelow A (s ∷ z) x → Contains words z ⊎ (y ≡ z)
    shifted z e b = ⊎_elim (λ is. inr (top is)) (λ r. inl (rest r.0 r.1 r.2)) (below_without A g x (s ∷ z) b)
      where
        top : SameElement A (s ∷ z) x → y ≡ z
        top is =
            normal_form-equal A g (same-trans A g (same-cons A g s (same-sym A g is)) (same-square A g s z)) ∙ e.normal

        rest : (k : ℕ) → k < length x → IsBelow A (s ∷ z) (without_letter k x) → Contains words z
        rest k l under = ⊎_elim
            (λ a. closed.down z x there e (below-trans A g (back (chain-below A g a)) (without-below A g x x-element k l)))
            (λ a. closed.down z (normal_form A (s ∷ v)) (done k l) e
            (below-same A g (same-refl A g z) (same-sym A g (normal_form-same A g (s ∷ v))) (back (chain-below A g a))))
            (lift_chain A g s (below-chain A g under))
          where
            v : List ℕ
            v = without_letter k x

            back : {w : List ℕ} → IsBelow A (s ∷ s ∷ z) w → IsBelow A z w
            back {w} h = below-same A g (same-square A g s z) (same-refl A g w) h

    below : (z : List ℕ) → IsElement A z → IsBelow A z y → Contains words z ⊎ (y ≡ z)
    below z e b = ⊎_elim above under (left_length A g s z letter)
      where
        beneath : IsBelow A z (s ∷ x)
        beneath = below-same A g (same-refl A g z) same b

        above : word_length A (s ∷ z) ≡ word_length A z + 1 → Contains words z ⊎ (y ≡ z)
        above q =
            let n : IsLeftDescent A z s → ⊥ = λ f. omega (arith, f, q)
            in inl (closed.down z x there e
            (below-same A g (same-refl A g z) (same-square A g s x) ((lift_up A g z (s ∷ x) s descends n).0 beneath)))

        under : word_length A z ≡ word_length A (s ∷ z) + 1 → Contains words z ⊎ (y ≡ z)
        under q =
            let f : IsLeftDescent A z s = omega (arith, q)
            in shifted z e (below-same A g (same-refl A g (s ∷ z)) (same-square A g s x) ((lift_down A g z (s ∷ x) s descends f).0 beneath))

    -- where each s z is a member, s x may be the next one
    pub next-member : (i : ℕ) → word_at words i ≡ x → IsNextMember c words s i
    next-member i is = record {
      none = rw is none;
      below = rw is below;
      closed = rw is (λ few. closed-push A g words closed y (element-normal_form A g (s ∷ x)) none below
          (omega (arith, longer, x-length, word_length-is A (s ∷ x), short)) few);
    }

-- a word that was there is there
pub kept-contains : (old new : List (List ℕ)) → AreKept old new → (word : List ℕ) → Contains old word → Contains new word
kept-contains old new kept word c =
    let q = contains-placed old word c
    in placed-contains new word (record {
      i = q.i;
      within = omega (arith, q.within, kept.size);
      is = kept.word q.i q.within ∙ q.is;
    })

-- ---- the way along a reduced word

-- nothing of it is taken at the identity
pub exchange-start : (A : IntegerMatrix) (g : IsAdmissible A) (words : List (List ℕ)) → IsClosed A words → (w : List ℕ) → w ≡ []
    → IsNumberOf words (normal_form A w) (Some 0)
exchange-start A g words closed w e =
    (omega (arith, closed.some), first-member A g words closed ∙ sym (ap (normal_form A) e ∙ (element-nil A g).normal))

module _ (A : IntegerMatrix) (g : IsAdmissible A) (top : List ℕ) (at : ℕ) (l : at < length top) where
  pub letter-cons : drop at top ≡ slice_index top at ∷ drop (at + 1) top
  letter-cons = let e : suc at ≡ at + 1 = omega arith in rw (← e) (drop-cons top at 0 l)

  -- s x is the element of the longer end, for the element x of the shorter one
  module _ (x : List ℕ) (is : x ≡ normal_form A (drop (at + 1) top)) where
    pub letter-same : SameElement A (slice_index top at ∷ x) (drop at top)
    letter-same = rw (letter-cons, is) (same-cons A g (slice_index top at) (normal_form-same A g (drop (at + 1) top)))

    pub letter-form : normal_form A (slice_index top at ∷ x) ≡ normal_form A (drop at top)
    letter-form = normal_form-equal A g letter-same

    pub letter-short : length top ≤ MAX_LETTERS → length x < MAX_LETTERS
    letter-short short = omega (arith, ap length is, length-normal_form A g (drop (at + 1) top), length-drop (at + 1) top, l, short)

    pub letter-below : (word : List ℕ) → IsBelow A word (slice_index top at ∷ x) → IsBelow A word (drop at top)
    letter-below word b = below-same A g (same-refl A g word) letter-same b

-- ---- the members at the end

module _ (A : IntegerMatrix) (g : IsAdmissible A) (old new : List (List ℕ)) (to : IsClosed A new) (top : List ℕ)
    (appended : AreAppended A top old new) (k : ℕ) (number : IsNumberOf new (normal_form A top) (Some k)) where
  pub exchanged-union : (word : List ℕ) → Contains new word ↔ IsInUnion A top old word
  exchanged-union word = (
    λ c. record {
      element = to.element word c;
      either = ⊎_elim (λ there. inr there) (λ b. inl b) (appended.below word c);
    },
    λ p. ⊎_elim
        (λ b. to.down word (normal_form A top)
        (placed-contains new (normal_form A top) (record { i = k; within = number.0; is = number.1 })) p.element
        (below-same A g (same-refl A g word) (same-sym A g (normal_form-same A g top)) b))
        (λ c. kept-contains old new appended.kept word c) p.either,
  )
