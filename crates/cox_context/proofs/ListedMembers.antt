-- Members that are listed by their numbers, and marked.
use Rattle.std.proofs.Common.{◌≡◌, ℕ, suc, ◌<◌, Bool, true, false, List, [], ◌∷◌, ◌++◌, length, map, set, Contains, refl, sym}
use Rattle.std.proofs.Common.{◌∙◌, ⊎_elim, arith, ap, slice_index}
use Rattle.std.proofs.lemmas.Bool.{cases_eq, false≢true}
use Rattle.std.proofs.lemmas.List.{length-map, length-set, length-replicate, get_or-replicate, get_or-map, get_or-set_same}
use Rattle.std.proofs.lemmas.List.{get_or-set_other}
use Rattle.std.proofs.Math.ListN.{replicate}
use Rattle.cox_lemmas.proofs.PushedItems.{push-length, push_cases, push-old, push-new}
use Rattle.cox_base.specs.IntegerMatrix.{IntegerMatrix}
use Rattle.cox_base.specs.Admissible.{IsAdmissible}
use Rattle.cox_context.specs.Closed.{IsClosed}
use Rattle.cox_context.proofs.Shifting.{first-member}
use Rattle.cox_context.specs.Numbers.{word_at}
use Rattle.cox_context.specs.Spread.{mark_at, listed_words, AreMarked}
use Rattle.cox_context.proofs.PlacedWords.{contains-placed, placed-contains, contains-at, word_at-old, word_at-new}
use Rattle.cox_context.proofs.Spreading.{contains-push, contains-last, contains_cases}

pub listed-length : (words : List (List ℕ)) (numbers : List ℕ) → length (listed_words words numbers) ≡ length numbers
unfolding listed_words
listed-length words numbers = length-map numbers (λ i. word_at words i)

pub listed-at : (words : List (List ℕ)) (numbers : List ℕ) (p : ℕ) → p < length numbers
    → word_at (listed_words words numbers) p ≡ word_at words (slice_index numbers p)
unfolding listed_words
listed-at words numbers p l = get_or-map (λ i. word_at words i) numbers p 0 [] l

-- one number more
pub listed-push : (words : List (List ℕ)) (numbers : List ℕ) (k : ℕ)
    → listed_words words (numbers ++ k ∷ []) ≡ listed_words words numbers ++ word_at words k ∷ []
unfolding listed_words
listed-push words [] k = refl
listed-push words (n ∷ numbers) k = ap (λ (rest : List (List ℕ)). word_at words n ∷ rest) (listed-push words numbers k)

-- one word more, whose number is not in the list
pub listed-old : (words : List (List ℕ)) (y : List ℕ) (numbers : List ℕ)
    → ((p : ℕ) → p < length numbers → slice_index numbers p < length words)
    → listed_words (words ++ y ∷ []) numbers ≡ listed_words words numbers
unfolding listed_words
listed-old words y [] within = refl
listed-old words y (n ∷ numbers) within =
    let first : word_at (words ++ y ∷ []) n ≡ word_at words n = word_at-old words y n (within 0 (omega arith))
    in let rest = listed-old words y numbers (λ p l. within (suc p) (omega (arith, l)))
    in ap (λ (word : List ℕ). word ∷ map (λ i. word_at (words ++ y ∷ []) i) numbers) first
    ∙ ap (λ (r : List (List ℕ)). word_at words n ∷ r) rest

-- the identity alone
pub listed-identity : (A : IntegerMatrix) → IsAdmissible A → (words : List (List ℕ)) → IsClosed A words
    → listed_words words (0 ∷ []) ≡ [] ∷ []
unfolding listed_words
listed-identity A g words closed = ap (λ (w : List ℕ). w ∷ []) (first-member A g words closed)

pub marked-identity : (A : IntegerMatrix) → IsAdmissible A → (words : List (List ℕ)) → IsClosed A words
    → AreMarked words (set (replicate (length words) false) 0 true) (0 ∷ [])
marked-identity A g words closed = record {
  size = omega (arith, length-set (replicate (length words) false) 0 true, length-replicate {A = Bool} (length words) false);
  within = λ p l. let e : p ≡ 0 = omega (arith, l) in rw e (omega (arith, closed.some));
  mark = λ i l. rw (listed-identity A g words closed) (
    λ t. ⊎_elim
        (λ (e : i ≡ 0). contains-last [] [] (word_at words i) (sym (ap (λ (k : ℕ). word_at words k) e ∙ first-member A g words closed)))
        (λ (ne : i ≡ 0 → ⊥). absurd (false≢true (sym (none i ne l) ∙ t))) (cases_eq i 0),
    λ c. let p = contains-placed ([] ∷ []) (word_at words i) c
        in let first : p.i ≡ 0 = omega (arith, p.within)
        in let e : i ≡ 0 = closed.distinct i 0 l (omega (arith, closed.some)) (sym (rw first at p.is) ∙ sym (first-member A g words closed))
        in rw e (get_or-set_same (replicate (length words) false) 0 true false (omega (
          arith,
          closed.some,
          length-replicate {A = Bool} (length words) false,
        ))),
  );
}
  where
    none : (i : ℕ) → (i ≡ 0 → ⊥) → i < length words → mark_at (set (replicate (length words) false) 0 true) i ≡ false
    none i ne l = get_or-set_other (replicate (length words) false) 0 i true false ne ∙ get_or-replicate (length words) i false false l

module _ (words : List (List ℕ)) (marks : List Bool) (numbers : List ℕ) (h : AreMarked words marks numbers) where
  -- a word of the list is a member
  pub listed-member : (word : List ℕ) → Contains (listed_words words numbers) word → Contains words word
  listed-member word c =
      let p = contains-placed (listed_words words numbers) word c
      in let l : p.i < length numbers = omega (arith, p.within, listed-length words numbers)
      in placed-contains words word (record {
        i = slice_index numbers p.i;
        within = h.within p.i l;
        is = sym (listed-at words numbers p.i l) ∙ p.is;
      })

  -- a member that is marked now
  pub marked-set : (k : ℕ) → k < length words → ((i : ℕ) → i < length words → word_at words i ≡ word_at words k → i ≡ k)
      → AreMarked words (set marks k true) (numbers ++ k ∷ [])
  marked-set k inside distinct = record {
    size = omega (arith, h.size, length-set marks k true);
    within = λ p l. ⊎_elim (λ less. rw (push-old numbers k 0 p less) (h.within p less)) (λ e. rw (push-new numbers k 0 p e) inside)
        (push_cases numbers k p l);
    mark = λ i l. rw (listed-push words numbers k) (⊎_elim (λ (e : i ≡ k). (
      λ t. contains-last (listed_words words numbers) (word_at words k)
          (word_at words i) (ap (λ (q : ℕ). word_at words q) (sym e)),
      λ c. own i e,
    ))
        (λ (ne : i ≡ k → ⊥). (
          λ t. contains-push (listed_words words numbers) (word_at words k) (word_at words i) ((h.mark i l).0 (sym (other i ne) ∙ t)),
          λ c. ⊎_elim (λ there. other i ne ∙ (h.mark i l).1 there) (λ is. absurd (ne (distinct i l (sym is))))
              (contains_cases (listed_words words numbers) (word_at words k) (word_at words i) c),
        )) (cases_eq i k));
  }
    where
      own : (i : ℕ) → i ≡ k → mark_at (set marks k true) i ≡ true
      own i e = rw e (get_or-set_same marks k true false (omega (arith, inside, h.size)))

      other : (i : ℕ) → (i ≡ k → ⊥) → mark_at (set marks k true) i ≡ mark_at marks i
      other i ne = get_or-set_other marks k i true false ne

  -- a new member
  pub listed-next : (y : List ℕ) → listed_words (words ++ y ∷ []) (numbers ++ length words ∷ []) ≡ listed_words words numbers ++ y ∷ []
  listed-next y =
      listed-push (words ++ y ∷ []) numbers (length words)
      ∙ ap (λ (l : List (List ℕ)). l ++ word_at (words ++ y ∷ []) (length words) ∷ []) (listed-old words y numbers h.within)
      ∙ ap (λ (w : List ℕ). listed_words words numbers ++ w ∷ []) (word_at-new words y (length words) refl)

  -- which is marked
  pub marked-push : (y : List ℕ) → (Contains words y → ⊥)
      → AreMarked (words ++ y ∷ []) (marks ++ true ∷ []) (numbers ++ length words ∷ [])
  marked-push y none = record {
    size = omega (arith, h.size, push-length marks true, push-length words y);
    within = λ p l. ⊎_elim
        (λ less. rw (push-old numbers (length words) 0 p less) (omega (arith, h.within p less, push-length words y)))
        (λ e. rw (push-new numbers (length words) 0 p e) (omega (arith, push-length words y)))
        (push_cases numbers (length words) p l);
    mark = λ i l. rw (listed-next y) (⊎_elim (λ (less : i < length words). rw (word_at-old words y i less, old i less) (
      λ t. contains-push (listed_words words numbers) y (word_at words i) ((h.mark i less).0 t),
      λ c. ⊎_elim (λ there. (h.mark i less).1 there) (λ is. absurd (none (rw is (contains-at words i less))))
          (contains_cases (listed_words words numbers) y (word_at words i) c),
    ))
        (λ (e : i ≡ length words). rw (word_at-new words y i e) (
          λ t. contains-last (listed_words words numbers) y y refl,
          λ c. push-new marks true false i (omega (arith, e, h.size)),
        )) (push_cases words y i l));
  }
    where
      old : (i : ℕ) → i < length words → mark_at (marks ++ true ∷ []) i ≡ mark_at marks i
      old i l = push-old marks true false i (omega (arith, l, h.size))
