-- One vertex more is put into the list of its class.
use Rattle.std.proofs.Common.{◌≡◌, ◌≢◌, ℕ, suc, ◌≤◌, ◌<◌, ◌⊎◌, inl, inr, List, [], ◌∷◌, ◌++◌, length, slice_set, slice_index, refl}
use Rattle.std.proofs.Common.{sym, ap, ◌∙◌, ⊎_elim, arith, length-append}
use Rattle.std.proofs.lemmas.Bool.{cases_lt, cases_eq}
use Rattle.std.proofs.lemmas.List.{get_or-set_same, get_or-set_other, length-set, get_or_append_left}
use Rattle.std.proofs.Math.Seq.{get_or-append_seam}
use Rattle.cox_lemmas.proofs.PushedItems.{push-length, push_cases}
use Rattle.cox_context.proofs.PlacedWords.{word_at-old, word_at-new}
use Rattle.cox_row.specs.Rising.{number_at}
use Rattle.cox_row.proofs.RisingNumbers.{few-rising}
use Rattle.cox_scc.specs.Reach.{IsLeastOfClass}
use Rattle.cox_cells.specs.NumberedCells.{list_at, least_at, IsListed, IsClassList, AreGathered}

-- ---- one list

number-old : (list : List ℕ) (n m : ℕ) → m < length list → number_at (list ++ n ∷ []) m ≡ number_at list m
number-old list n m l = get_or_append_left list (n ∷ []) 0 m l

number-new : (list : List ℕ) (n m : ℕ) → m ≡ length list → number_at (list ++ n ∷ []) m ≡ n
number-new list n m e = rw e (get_or-append_seam list n [] 0)

length-more : (list : List ℕ) (n : ℕ) → length (list ++ n ∷ []) ≡ suc (length list)
length-more list n = omega (arith, length-append list (n ∷ []))

number_cases : (list : List ℕ) (n m : ℕ) → m < length (list ++ n ∷ []) → (m < length list) ⊎ (m ≡ length list)
number_cases list n m l = ⊎_elim (λ (below : m < length list). inl below) (λ above. inr (omega (arith, length-more list n, l, above)))
    (cases_lt m (length list))

module _ (classes : List ℕ) (n : ℕ) where
  list-more : (list : List ℕ) → IsClassList classes n list → IsClassList classes (suc n) list
  list-more list h = record { some = h.some; rising = h.rising; before = λ m l. omega (arith, h.before m l); class = h.class }

  list-one : slice_index classes n ≡ n → IsClassList classes (suc n) (n ∷ [])
  list-one own = record {
    some = omega arith;
    rising = λ j k less l. absurd (omega (arith, less, l));
    before = λ m l. let z : m ≡ 0 = omega (arith, l) in rw z (omega arith);
    class = λ m l. let z : m ≡ 0 = omega (arith, l) in rw z own;
  }

  list-extend : (list : List ℕ) → IsClassList classes n list → slice_index classes n ≡ number_at list 0
      → IsClassList classes (suc n) (list ++ n ∷ [])
  list-extend list h own = record {
    some = omega (arith, length-more list n);
    rising = λ j k less l. ⊎_elim
        (λ (old : k < length list). rw (number-old list n j (omega (arith, less, old)), number-old list n k old) (h.rising j k less old))
        (λ (new : k ≡ length list). rw (number-old list n j (omega (arith, less, new)), number-new list n k new)
        (h.before j (omega (arith, less, new))))
        (number_cases list n k l);
    before = λ m l. ⊎_elim
        (λ (old : m < length list). omega (arith, number-old list n m old, h.before m old))
        (λ (new : m ≡ length list). omega (arith, number-new list n m new)) (number_cases list n m l);
    class = λ m l. ⊎_elim
        (λ (old : m < length list). rw (number-old list n m old, number-old list n 0 h.some) (h.class m old))
        (λ (new : m ≡ length list). rw (number-new list n m new, number-old list n 0 h.some) own) (number_cases list n m l);
  }

-- ---- all lists

module _ (size : ℕ) (classes : List ℕ) (least : (i : ℕ) → i < size → IsLeastOfClass size classes i) (n : ℕ) (inside : n < size)
    (places : List ℕ) (lists : List (List ℕ)) (h : AreGathered classes n places lists) where
  class-most : (i : ℕ) → i < size → slice_index classes i ≤ i
  class-most i l = (least i l).least i l refl

  -- the lists are not more than the vertices
  pub lists-few : length lists ≤ n
  lists-few = few-rising (least_at lists) n (length lists) h.in_order (λ k l. (h.each k l).before 0 (h.each k l).some)

  pub gathered-begin : slice_index classes n ≡ n → n < length places
      → AreGathered classes (suc n) (slice_set places n (length lists)) (lists ++ (n ∷ []) ∷ [])
  gathered-begin own room = record {
    each = λ k l. ⊎_elim
        (λ (old : k < length lists). rw (word_at-old lists (n ∷ []) k old) (list-more classes n (list_at lists k) (h.each k old)))
        (λ (new : k ≡ length lists). rw (word_at-new lists (n ∷ []) k new) (list-one classes n own)) (push_cases lists (n ∷ []) k l);
    in_order = λ j k less l. ⊎_elim
        (λ (old : k < length lists). rw (word_at-old lists (n ∷ []) j (omega (arith, less, old)), word_at-old lists (n ∷ []) k old)
        (h.in_order j k less old))
        (λ (new : k ≡ length lists). let lj : j < length lists = omega (arith, less, new)
        in rw (word_at-old lists (n ∷ []) j lj, word_at-new lists (n ∷ []) k new) ((h.each j lj).before 0 (h.each j lj).some))
        (push_cases lists (n ∷ []) k l);
    whole = λ i l. ⊎_elim
        (λ (old : i < n). rw (get_or-set_other places n (slice_index classes i) (length lists) 0
        (λ e. let c = class-most i (omega (arith, old, inside)) in omega (arith, c, e, old)))
        (still i (number_at places (slice_index classes i)) (h.whole i old)))
        (λ (new : n ≤ i). let e : i ≡ n = omega (arith, new, l) in rw (e, own, get_or-set_same places n (length lists) 0 room) last)
        (cases_lt i n);
  }
    where
      still : (i k : ℕ) → IsListed lists i k → IsListed (lists ++ (n ∷ []) ∷ []) i k
      still i k p = record {
        within = omega (arith, p.within, push-length lists (n ∷ []));
        place = p.place;
        inside = rw (word_at-old lists (n ∷ []) k p.within) p.inside;
        is = rw (word_at-old lists (n ∷ []) k p.within) p.is;
      }

      last : IsListed (lists ++ (n ∷ []) ∷ []) n (length lists)
      last = record {
        within = omega (arith, push-length lists (n ∷ []));
        place = 0;
        inside = rw (word_at-new lists (n ∷ []) (length lists) refl) (let one : 0 < length (n ∷ []) = omega arith in one);
        is = rw (word_at-new lists (n ∷ []) (length lists) refl) refl;
      }

  -- the list of the class of n, where n is not the first of it
  class-listed : slice_index classes n ≢ n → IsListed lists (slice_index classes n) (number_at places (slice_index classes n))
  class-listed other =
      let c = least n inside in let less : slice_index classes n < n = omega (arith, class-most n inside, other)
      in rw c.member at (h.whole (slice_index classes n) less)

  pub place-within : slice_index classes n ≢ n → number_at places (slice_index classes n) < length lists
  place-within other = (class-listed other).within

  class-is : (other : slice_index classes n ≢ n) → slice_index classes n ≡ least_at lists (number_at places (slice_index classes n))
  class-is other =
      let p = class-listed other in let c = least n inside
      in sym c.member ∙ ap (slice_index classes) (sym p.is) ∙ (h.each (number_at places (slice_index classes n)) p.within).class p.place
      p.inside

  pub gathered-extend : slice_index classes n ≢ n → AreGathered classes (suc n) places
      (slice_set lists (number_at places (slice_index classes n)) (list_at lists (number_at places (slice_index classes n)) ++ n ∷ []))
  gathered-extend other = go (number_at places (slice_index classes n)) refl (place-within other) (class-is other)
    where
      go : (p : ℕ) → number_at places (slice_index classes n) ≡ p → p < length lists → slice_index classes n ≡ least_at lists p
          → AreGathered classes (suc n) places (slice_set lists p (list_at lists p ++ n ∷ []))
      go p p_is l own = record {
        each = λ k m. ⊎_elim
            (λ (e : k ≡ p). rw (e, at_p) (list-extend classes n (list_at lists p) (h.each p l) own))
            (λ (ne : k ≢ p). rw (at_other k ne) (list-more classes n (list_at lists k) (h.each k (within k m)))) (cases_eq k p);
        in_order = λ j k less m. rw (least-same j (within j (omega (arith, less, m))), least-same k (within k m))
            (h.in_order j k less (within k m));
        whole = λ i m. ⊎_elim
            (λ (old : i < n). still i (number_at places (slice_index classes i)) (h.whole i old))
            (λ (new : n ≤ i). let e : i ≡ n = omega (arith, new, m) in rw (e, p_is) last) (cases_lt i n);
      }
        where
          at_p : list_at (slice_set lists p (list_at lists p ++ n ∷ [])) p ≡ list_at lists p ++ n ∷ []
          at_p = get_or-set_same lists p (list_at lists p ++ n ∷ []) [] l

          at_other : (k : ℕ) → k ≢ p → list_at (slice_set lists p (list_at lists p ++ n ∷ [])) k ≡ list_at lists k
          at_other k ne = get_or-set_other lists p k (list_at lists p ++ n ∷ []) [] ne

          within : (k : ℕ) → k < length (slice_set lists p (list_at lists p ++ n ∷ [])) → k < length lists
          within k m = omega (arith, m, length-set lists p (list_at lists p ++ n ∷ []))

          least-same : (k : ℕ) → k < length lists → least_at (slice_set lists p (list_at lists p ++ n ∷ [])) k ≡ least_at lists k
          least-same k m = ⊎_elim
              (λ (e : k ≡ p). rw (e, at_p) (number-old (list_at lists p) n 0 (h.each p l).some))
              (λ (ne : k ≢ p). rw (at_other k ne) refl) (cases_eq k p)

          still : (i k : ℕ) → IsListed lists i k → IsListed (slice_set lists p (list_at lists p ++ n ∷ [])) i k
          still i k q = record {
            within = omega (arith, q.within, length-set lists p (list_at lists p ++ n ∷ []));
            place = q.place;
            inside = ⊎_elim
                (λ (e : k ≡ p). rw (e, at_p) (let old : q.place < length (list_at lists p) = rw e at q.inside
                in let longer : q.place < length (list_at lists p ++ n ∷ []) = omega (arith, old, length-more (list_at lists p) n) in
                longer))
                (λ (ne : k ≢ p). rw (at_other k ne) q.inside) (cases_eq k p);
            is = ⊎_elim
                (λ (e : k ≡ p). let old : q.place < length (list_at lists p) = rw e at q.inside
                in let value : number_at (list_at lists p) q.place ≡ i = rw e at q.is
                in rw (e, at_p) (number-old (list_at lists p) n q.place old ∙ value))
                (λ (ne : k ≢ p). rw (at_other k ne) q.is) (cases_eq k p);
          }

          last : IsListed (slice_set lists p (list_at lists p ++ n ∷ [])) n p
          last = record {
            within = omega (arith, l, length-set lists p (list_at lists p ++ n ∷ []));
            place = length (list_at lists p);
            inside = rw at_p (let longer : length (list_at lists p) < length (list_at lists p ++ n ∷ []) = omega
                (arith, length-more (list_at lists p) n) in longer);
            is = rw at_p (number-new (list_at lists p) n (length (list_at lists p)) refl);
          }
