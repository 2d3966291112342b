-- The end of a reduced word from a letter on, the next member on the way to it, and the members that are appended.
use Rattle.std.proofs.Common.{◌≡◌, ℕ, suc, ◌+◌, ◌≤◌, ◌<◌, Bool, List, [], ◌∷◌, length, drop, Contains, drop-cons, refl}
use Rattle.std.proofs.Common.{◌∙◌, arith, ap, slice_index, inl, inr, ◌⊎◌, ⊎_elim, ◌↔◌, take}
use Rattle.std.proofs.lemmas.List.{length-drop}
use Rattle.cox_base.specs.Matrix.{CoxeterMatrix, IsLetter}
use Rattle.cox_base.specs.Admissible.{IsAdmissible}
use Rattle.cox_base.specs.IntegerMatrix.{IntegerMatrix, integer_matrix}
use Rattle.cox_base.specs.ShortLex.{normal_form}
use Rattle.cox_base.specs.Length.{word_length}
use Rattle.cox_base.specs.Bruhat.{IsBelow}
use Rattle.cox_base.specs.Members.{IsElement}
use Rattle.cox_base.specs.Reduced.{IsReduced}
use Rattle.cox_base.specs.Descents.{IsLeftDescent}
use Rattle.cox_base.specs.declared.limits.TheConstants.{MAX_LETTERS}
use Rattle.cox_reflect.proofs.OrderByLifting.{first-descent, IsReduced-drop}
use Rattle.cox_reflect.proofs.Bruhat.{below-length}
use Rattle.cox_reflect.proofs.NormalElements.{element-normal_form, element-length}
use Rattle.cox_lemmas.proofs.PushedItems.{push-length}
use Rattle.cox_context.specs.Closed.{IsClosed, Elements}
use Rattle.cox_context.specs.Numbers.{word_at}
use Rattle.cox_context.specs.Union.{IsInUnion}
use Rattle.cox_context.specs.Spread.{listed_words, AreKept, AreMarked, AreFound, IsSpreading, IsFound, was_there, was_added, IsGrownBy}
use Rattle.cox_context.specs.Spread.{no_more, one_more, AreAppended}
use Rattle.cox_context.specs.Appending.{IsTopWord, IsNextMember}
use Rattle.cox_context.proofs.PlacedWords.{contains-placed, placed-contains, word_at-old}
use Rattle.cox_context.proofs.Spreading.{contains_cases, closed-push, below-longer, shift-below, spread-start, spread-known, next-below}
use Rattle.cox_context.proofs.Spreading.{spread-push, spread-end}
use Rattle.cox_context.proofs.ListedMembers.{listed-at, listed-member}

module _ (c : CoxeterMatrix) (g : IsAdmissible (integer_matrix c)) (top : List ℕ) (is : IsTopWord c top) (at : ℕ)
    (l : at < length top) where
  pub end-cons : drop at top ≡ slice_index top at ∷ drop (at + 1) top
  end-cons = let e : suc at ≡ at + 1 = omega arith in rw (← e) (drop-cons top at 0 l)

  end-reduced : IsReduced (integer_matrix c) (slice_index top at ∷ drop (at + 1) top)
  end-reduced = rw end-cons at (IsReduced-drop (integer_matrix c) g at top is.reduced)

  pub end-letter : IsLetter c.rank (slice_index top at)
  end-letter = is.word at 0 l

  pub end-descent : IsLeftDescent (integer_matrix c) (slice_index top at ∷ drop (at + 1) top) (slice_index top at)
  end-descent = first-descent (integer_matrix c) g (slice_index top at) (drop (at + 1) top) end-reduced

  pub end-short : word_length (integer_matrix c) (slice_index top at ∷ drop (at + 1) top) ≤ MAX_LETTERS
  end-short = omega (arith, end-reduced, ap length end-cons, length-drop at top, is.short)

  -- from the elements below the end behind this letter to those below the end from this letter on
  pub end-start : (found : List (List ℕ)) → AreFound (integer_matrix c) (drop (at + 1) top) found
      → IsSpreading (integer_matrix c) (slice_index top at) (drop (at + 1) top) (length found) 0 found
  end-start found h = spread-start (integer_matrix c) g (slice_index top at) (drop (at + 1) top) end-letter end-descent found h

  pub end-found : (size : ℕ) (found : List (List ℕ))
      → IsSpreading (integer_matrix c) (slice_index top at) (drop (at + 1) top) size size found
      → AreFound (integer_matrix c) (drop at top) found
  end-found size found h =
      rw end-cons (spread-end (integer_matrix c) g (slice_index top at) (drop (at + 1) top) end-letter end-descent size found h)

  -- one word more is done
  pub end-next : (size j : ℕ) (old new : List (List ℕ)) → j < size
      → IsSpreading (integer_matrix c) (slice_index top at) (drop (at + 1) top) size j old
      → IsFound (normal_form (integer_matrix c) (slice_index top at ∷ word_at old j)) old new
      → IsSpreading (integer_matrix c) (slice_index top at) (drop (at + 1) top) size (j + 1) new
  end-next size j old new inside h (was_there t e) =
      rw e (spread-known (integer_matrix c) g (slice_index top at) (drop (at + 1) top) end-letter end-descent size j old h t)
  end-next size j old new inside h (was_added none e) =
      rw e (spread-push (integer_matrix c) g (slice_index top at) (drop (at + 1) top) end-letter end-descent size j old h inside none)

  -- what is found then is below the longer end
  pub end-below : (size j : ℕ) (found : List (List ℕ)) → j < size
      → IsSpreading (integer_matrix c) (slice_index top at) (drop (at + 1) top) size j found
      → IsBelow (integer_matrix c) (normal_form (integer_matrix c) (slice_index top at ∷ word_at found j)) (drop at top)
  end-below size j found inside h =
      rw end-cons (shift-below (integer_matrix c) g (slice_index top at) (drop (at + 1) top) end-letter end-descent (word_at found j)
      (h.first j inside))

  -- what is below the shorter end is below the longer one
  pub end-longer : (x : List ℕ) → IsBelow (integer_matrix c) x (drop (at + 1) top) → IsBelow (integer_matrix c) x (drop at top)
  end-longer x b = rw end-cons (below-longer (integer_matrix c) g (slice_index top at) (drop (at + 1) top) end-letter end-descent x b)

  -- where s x is no member it may be the next one
  module _ (words : List (List ℕ)) (closed : IsClosed (integer_matrix c) words) (marks : List Bool) (numbers : List ℕ)
      (marked : AreMarked words marks numbers) (size j : ℕ) (inside : j < size) (within : j < length numbers)
      (h : IsSpreading (integer_matrix c) (slice_index top at) (drop (at + 1) top) size j (listed_words words numbers)) where
    abbrev k : ℕ
    k = slice_index numbers j

    pub end-member : (Contains words (normal_form (integer_matrix c) (slice_index top at ∷ word_at words (slice_index numbers j))) → ⊥)
        → IsNextMember c words (slice_index top at) (slice_index numbers j)
    end-member none = record {
      none = none;
      below = below;
      closed = λ few. closed-push (integer_matrix c) g words closed y
          (element-normal_form (integer_matrix c) g (slice_index top at ∷ x)) none
          below short few;
    }
      where
        x : List ℕ
        x = word_at words k

        y : List ℕ
        y = normal_form (integer_matrix c) (slice_index top at ∷ x)

        read : word_at (listed_words words numbers) j ≡ x
        read = listed-at words numbers j within

        absent : Contains (listed_words words numbers) (normal_form (integer_matrix c) (slice_index top at
            ∷ word_at (listed_words words numbers) j)) → ⊥
        absent there = none (rw read at (listed-member words marks numbers marked _ there))

        below : (z : List ℕ) → IsElement (integer_matrix c) z → IsBelow (integer_matrix c) z y → Contains words z ⊎ (y ≡ z)
        below z e b =
            ⊎_elim (λ there. inl (listed-member words marks numbers marked z there)) (λ is. inr (rw read at is))
            (next-below (integer_matrix c) g (slice_index top at) (drop (at + 1) top) end-letter end-descent size j
            (listed_words words numbers) h
            inside absent z e (rw read b))

        short : length y ≤ MAX_LETTERS
        short =
            let b : IsBelow (integer_matrix c) y (slice_index top at ∷ drop (at + 1) top)
            = rw (end-cons, read) at (end-below size j (listed_words words numbers) inside h)
            in omega (
              arith,
              end-short,
              below-length (integer_matrix c) g b,
              element-length (integer_matrix c) g y (element-normal_form (integer_matrix c) g (slice_index top at ∷ x)),
            )

-- ---- members that are appended

module _ (A : IntegerMatrix) (v : List ℕ) where
  pub appended-none : (words : List (List ℕ)) → AreAppended A v words words
  appended-none words = record {
    kept = record { size = omega arith; word = λ i l. refl };
    below = λ word c. inl c;
  }

  pub appended-trans : (a b c : List (List ℕ)) → AreAppended A v a b → AreAppended A v b c → AreAppended A v a c
  appended-trans a b c f h = record {
    kept = record {
      size = omega (arith, f.kept.size, h.kept.size);
      word = λ i l. h.kept.word i (omega (arith, l, f.kept.size)) ∙ f.kept.word i l;
    };
    below = λ word there. ⊎_elim (λ old. f.below word old) (λ b. inr b) (h.below word there);
  }

  pub appended-more : (w : List ℕ) (a b : List (List ℕ)) → ((x : List ℕ) → IsBelow A x v → IsBelow A x w) → AreAppended A v a b
      → AreAppended A w a b
  appended-more w a b longer h = record {
    kept = h.kept;
    below = λ word there. ⊎_elim (λ old. inl old) (λ c. inr (longer word c)) (h.below word there);
  }

  pub appended-one : (y : List ℕ) (old new : List (List ℕ)) → IsBelow A y v → IsGrownBy y old new → AreAppended A v old new
  appended-one y old new b (no_more e) = rw e (appended-none old)
  appended-one y old new b (one_more e) = rw e (record {
    kept = record { size = omega (arith, push-length old y); word = λ i l. word_at-old old y i l };
    below = λ word c. ⊎_elim (λ there. inl there) (λ is. inr (rw is at b)) (contains_cases old y word c);
  })

-- ---- the members at the end

module _ (A : IntegerMatrix) (g : IsAdmissible A) (old new : List (List ℕ)) (to : IsClosed A new) (top : List ℕ)
    (appended : AreAppended A top old new) (marks : List Bool) (numbers : List ℕ) (marked : AreMarked new marks numbers)
    (h : AreFound A top (listed_words new numbers)) where
  pub appended-union : (word : List ℕ) → Contains new word ↔ IsInUnion A top old word
  appended-union word = (
    λ c. record {
      element = to.element word c;
      either = ⊎_elim (λ there. inr there) (λ b. inl b) (appended.below word c);
    },
    λ p. ⊎_elim (λ b. listed-member new marks numbers marked word (h.whole word p.element b)) (λ c. kept c) p.either,
  )
    where
      kept : Contains old word → Contains new word
      kept c =
          let q = contains-placed old word c
          in placed-contains new word (record {
            i = q.i;
            within = omega (arith, q.within, appended.kept.size);
            is = appended.kept.word q.i q.within ∙ q.is;
          })

-- ---- what an end of the appending tells

-- the first of the new words are the old ones
pub kept-take : (old new : List (List ℕ)) → AreKept old new → take (length old) new ≡ old
kept-take [] new h = refl
kept-take (x ∷ old) [] h = absurd (omega (arith, h.size))
kept-take (x ∷ old) (y ∷ new) h =
    let first : y ≡ x = h.word 0 (omega arith)
    in let rest = kept-take old new (record { size = omega (arith, h.size); word = λ i l. h.word (suc i) (omega (arith, l)) })
    in ap (λ (u : List ℕ). u ∷ take (length old) new) first ∙ ap (λ (r : List (List ℕ)). x ∷ r) rest

-- a context with the members that there were
pub elements-back : (now new seen : Elements) → new.matrix ≡ now.matrix → AreKept now.members new.members
    → seen ≡ record { matrix = new.matrix; members = take (length now.members) new.members } → seen ≡ now
elements-back now new seen matrix kept e =
    e ∙ ap (λ (c : CoxeterMatrix). record { matrix = c; members = take (length now.members) new.members }) matrix
    ∙ ap (λ (words : List (List ℕ)). record { matrix = now.matrix; members = words }) (kept-take now.members new.members kept)
