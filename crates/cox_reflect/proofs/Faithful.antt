-- The matrices are faithful (Humphreys 5.4): two words name one element exactly where the Coxeter relations lead from one to the other.
use Rattle.std.proofs.Common.{◌≡◌, ℕ, zero, suc, ◌+◌, ◌<◌, Bool, true, false, not, cond, List, [], ◌∷◌, ◌++◌, length, ◌↔◌, refl}
use Rattle.std.proofs.Common.{ap, sym, ◌∙◌, ⊎_elim, arith}
use Rattle.std.proofs.lemmas.Bool.{cases_eq}
use Rattle.std.proofs.lemmas.List.{length-append, append_assoc}
use Rattle.std.proofs.lemmas.List.Elements.{All-head, All-tail, All-contains, Contains-push}
use Rattle.cox_base.specs.Matrix.{IsLetter, IsWord}
use Rattle.cox_base.specs.IntegerMatrix.{IntegerMatrix}
use Rattle.cox_base.specs.Admissible.{IsAdmissible, HasOrder}
use Rattle.cox_base.specs.Element.{SameElement}
use Rattle.cox_base.specs.ShortLex.{normal_form}
use Rattle.cox_base.specs.Length.{word_length}
use Rattle.cox_base.specs.Reduced.{IsReduced}
use Rattle.cox_base.specs.Descents.{IsRightDescent}
use Rattle.cox_reflect.specs.Relations.{alternating_from, AreRelated, itself, turned, chained, joined, square, braided}
use Rattle.cox_reflect.proofs.Elements.{same-refl, same-sym, same-trans, same-cons, same-push, same-append, same-equal}
use Rattle.cox_reflect.proofs.Elements.{same-square, same-push_twice, same-drop_back}
use Rattle.cox_reflect.proofs.Search.{normal_form-same, word_length-equal, word_length-length}
use Rattle.cox_reflect.proofs.Lengths.{word_length-is, IsReduced-prefix, IsReduced-same, IsReduced-normal_form, IsReduced-nil}
use Rattle.cox_reflect.proofs.RankTwo.{is_even, alternating, alternating-last, length-alternating, TwoLetters, spread, braids}
use Rattle.cox_reflect.proofs.RankTwo.{two_letters, pair_of, same-braid}
use Rattle.cox_reflect.proofs.Positivity.{LastLetter, no_letter, last_letter, last_letter_of, Split, split, braid_end}
use Rattle.cox_reflect.proofs.Positivity.{spread_nonnegative, positive, IsWord-reduced}
use Rattle.cox_reflect.proofs.Roots.{no_descent}
use Rattle.cox_reflect.proofs.Deletion.{left_length}

alternating-step : (even : Bool) (s t : ℕ) (w p q : List ℕ) → w ≡ cond even p q
    → cond even t s ∷ w ≡ cond (not even) (s ∷ q) (t ∷ p)
alternating-step true s t w p q e = ap (λ (x : List ℕ). t ∷ x) e
alternating-step false s t w p q e = ap (λ (x : List ℕ). s ∷ x) e

-- an alternating word by its first letter
pub alternating-by_parity : (k s t : ℕ) → alternating k s t ≡ cond (is_even k) (alternating_from k s t) (alternating_from k t s)
unfolding alternating alternating_from
alternating-by_parity zero s t = refl
alternating-by_parity (suc k) s t =
    alternating-step (is_even k) s t (alternating k s t) (alternating_from k s t) (alternating_from k t s) (alternating-by_parity k s t)

either_way : (R : List ℕ → List ℕ → Type 0) → ((u v : List ℕ) → R u v → R v u) → (even : Bool) (p q : List ℕ) → R p q
    → R (cond even p q) (cond even q p)
either_way R back true p q r = r
either_way R back false p q r = back p q r

either_way_back : (R : List ℕ → List ℕ → Type 0) → ((u v : List ℕ) → R u v → R v u) → (even : Bool) (p q : List ℕ)
    → R (cond even p q) (cond even q p) → R p q
either_way_back R back true p q r = r
either_way_back R back false p q r = back q p r

-- a reduced word that is related to u
pub record Reduction (A : IntegerMatrix) (u : List ℕ) : Type 0 where
  pub word : List ℕ
  pub reduced : IsReduced A word
  pub related : AreRelated A u word

module _ (A : IntegerMatrix) (g : IsAdmissible A) where
  -- the braid relation of words that end with t and with s
  related-braid : {m : ℕ} (s t : ℕ) → IsLetter A.rank s → IsLetter A.rank t → HasOrder (A.entry s t) (A.entry t s) m
      → AreRelated A (alternating m s t) (alternating m t s)
  related-braid {m} s t ls lt h =
      rw (alternating-by_parity m s t, alternating-by_parity m t s)
      (either_way (AreRelated A) (λ u v r. turned r) (is_even m) (alternating_from m s t) (alternating_from m t s) (braided ls lt h))

  same-braid_from : {m : ℕ} (s t : ℕ) → IsLetter A.rank s → IsLetter A.rank t → HasOrder (A.entry s t) (A.entry t s) m
      → SameElement A (alternating_from m s t) (alternating_from m t s)
  same-braid_from {m} s t ls lt h =
      either_way_back (SameElement A) (λ u v e. same-sym A g e) (is_even m) (alternating_from m s t) (alternating_from m t s)
      (rw (alternating-by_parity m s t, alternating-by_parity m t s) at (same-braid A g s t ls lt h))

  -- related words name one element
  pub related-same : {u v : List ℕ} → AreRelated A u v → SameElement A u v
  related-same (itself u) = same-refl A g u
  related-same (turned r) = same-sym A g (related-same r)
  related-same (chained r q) = same-trans A g (related-same r) (related-same q)
  related-same (joined r q) = same-append A g (related-same r) (related-same q)
  related-same (square {s = s} l) = same-square A g s []
  related-same (braided {s = s} {t = t} l k h) = same-braid_from s t l k h

  -- ---- two reduced words of one element are related

  -- for words of less than n letters
  unfoldable pub Known : ℕ → Type 0
  Known n = (u v : List ℕ) → length u < n → IsReduced A u → IsReduced A v → SameElement A u v → AreRelated A u v

  -- a word that ends with s, where its element has a reduced word with the relation of s and t at its end
  braid_side : (x : List ℕ) (s t j : ℕ) (p : List ℕ) → Known (length (x ++ s ∷ [])) → IsReduced A (x ++ s ∷ [])
      → SameElement A (p ++ alternating (suc j) t s) (x ++ s ∷ [])
      → length p + suc j ≡ length (x ++ s ∷ []) → AreRelated A (x ++ s ∷ []) (p ++ alternating (suc j) t s)
  unfolding Known
  braid_side x s t j p known hu e size =
      let word : p ++ alternating (suc j) t s ≡ (p ++ alternating j s t) ++ s ∷ []
      = ap (λ (w : List ℕ). p ++ w) (alternating-last j t s) ∙ sym (append_assoc p (alternating j s t) (s ∷ []))
      in let long : length (x ++ s ∷ []) ≡ length x + 1 = length-append x (s ∷ [])
      in let same : SameElement A x (p ++ alternating j s t) = same-drop_back A g (s ∷ [])
      (same-trans A g (same-sym A g e) (same-equal A g word))
      in let prefix : IsReduced A x = IsReduced-prefix A g x (s ∷ []) hu
      in let other : IsReduced A (p ++ alternating j s t)
      = IsReduced-same A g (same-sym A g same) prefix
      (omega (arith, size, long, length-append p (alternating j s t), length-alternating j s t))
      in rw word (joined (known x (p ++ alternating j s t) (omega (arith, long)) prefix other same) (itself (s ∷ [])))

  related_step : (x y : List ℕ) (s t : ℕ) → Known (length (x ++ s ∷ [])) → IsReduced A (x ++ s ∷ [])
      → IsReduced A (y ++ t ∷ []) → SameElement A (x ++ s ∷ []) (y ++ t ∷ [])
      → AreRelated A (x ++ s ∷ []) (y ++ t ∷ [])
  unfolding Known
  related_step x y s t known hu hv e = ⊎_elim equal apart (cases_eq s t)
    where
      long : length (x ++ s ∷ []) ≡ length (y ++ t ∷ [])
      long = omega (arith, hu, hv, word_length-equal A g e)

      ls : IsLetter A.rank s
      ls = All-contains (IsLetter A.rank) (x ++ s ∷ []) s (IsWord-reduced A g (x ++ s ∷ []) hu) (Contains-push x s)

      lt : IsLetter A.rank t
      lt = All-contains (IsLetter A.rank) (y ++ t ∷ []) t (IsWord-reduced A g (y ++ t ∷ []) hv) (Contains-push y t)

      equal : s ≡ t → AreRelated A (x ++ s ∷ []) (y ++ t ∷ [])
      equal q =
          let same : SameElement A x y = same-drop_back A g (s ∷ []) (rw (← q) at e)
          in rw (← q) (joined (known x y (omega (arith, length-append x (s ∷ []))) (IsReduced-prefix A g x (s ∷ []) hu)
          (IsReduced-prefix A g y (t ∷ []) hv) same) (itself (s ∷ [])))

      descent : IsRightDescent A (x ++ s ∷ []) t
      descent =
          omega (
            arith,
            hu,
            hv,
            long,
            word_length-equal A g (same-push A g t e),
            word_length-equal A g (same-push_twice A g y t),
            word_length-length A g y,
            length-append y (t ∷ []),
          )

      go : (r : Split A (x ++ s ∷ []) t s) → TwoLetters r.count (A.entry t s) (A.entry s t)
          → AreRelated A (x ++ s ∷ []) (y ++ t ∷ [])
      go r (spread hx hy) =
          absurd (no_descent A g (x ++ s ∷ []) t lt
          (spread_nonnegative A g (x ++ s ∷ []) t s r lt ls hx hy (positive A g r.prefix t lt r.not_s)
          (positive A g r.prefix s ls r.not_t)) descent)
      go r (braids zero pos le order) = absurd (omega (arith, pos))
      go r (braids (suc j) pos le order) =
          let b = braid_end A g (x ++ s ∷ []) t s (suc j) r le lt ls order
          in chained (braid_side x s t j b.prefix known hu b.ends_t b.size)
          (chained (joined (itself b.prefix) (related-braid t s lt ls order))
          (turned (braid_side y t s j b.prefix (λ a c l. known a c (omega (arith, l, long))) hv (same-trans A g b.ends_s e)
          (b.size ∙ long))))

      apart : (s ≡ t → ⊥) → AreRelated A (x ++ s ∷ []) (y ++ t ∷ [])
      apart ne = let r = split A g x t s hu in go r (two_letters (pair_of A g t s lt ls (λ q. ne (sym q))) r.count)

  related_of : {u v : List ℕ} → LastLetter u → LastLetter v → Known (length u) → IsReduced A u → IsReduced A v
      → SameElement A u v → AreRelated A u v
  related_of no_letter no_letter known hu hv e = itself []
  related_of no_letter (last_letter y t) known hu hv e =
      absurd (omega (arith, hu, hv, word_length-equal A g e, length-append y (t ∷ [])))
  related_of (last_letter x s) no_letter known hu hv e =
      absurd (omega (arith, hu, hv, word_length-equal A g e, length-append x (s ∷ [])))
  related_of (last_letter x s) (last_letter y t) known hu hv e = related_step x y s t known hu hv e

  pub reduced-related : (n : ℕ) → Known n
  unfolding Known
  reduced-related zero u v l hu hv e = absurd (omega arith)
  reduced-related (suc n) u v l hu hv e =
      related_of (last_letter_of u) (last_letter_of v) (λ x y k hx hy f. reduced-related n x y (omega arith) hx hy f) hu hv e

  -- ---- every word is related to a reduced one

  pub reduced_words-related : {u v : List ℕ} → IsReduced A u → IsReduced A v → SameElement A u v → AreRelated A u v
  unfolding Known
  reduced_words-related {u} {v} hu hv e = reduced-related (suc (length u)) u v (omega arith) hu hv e

  reduction_step : (s : ℕ) (r : List ℕ) → IsLetter A.rank s → IsReduced A r → Reduction A (s ∷ r)
  reduction_step s r l h = ⊎_elim up down (left_length A g s r l)
    where
      up : word_length A (s ∷ r) ≡ word_length A r + 1 → Reduction A (s ∷ r)
      up e = record { word = s ∷ r; reduced = omega (arith, e, h); related = itself (s ∷ r) }

      down : word_length A r ≡ word_length A (s ∷ r) + 1 → Reduction A (s ∷ r)
      down e =
          let n : List ℕ = normal_form A (s ∷ r)
          in let same : SameElement A r (s ∷ n) = same-trans A g (same-sym A g (same-square A g s r))
          (same-cons A g s (same-sym A g (normal_form-same A g (s ∷ r))))
          in let other : IsReduced A (s ∷ n) = IsReduced-same A g (same-sym A g same) h (omega (arith, e, h, word_length-is A (s ∷ r)))
          in let shorter : AreRelated A r (s ∷ n) = reduced_words-related h other same
          in record {
            word = n;
            reduced = IsReduced-normal_form A g (s ∷ r);
            related = chained (joined (itself (s ∷ [])) shorter) (joined (square l) (itself n));
          }

  pub reduction : (u : List ℕ) → IsWord A.rank u → Reduction A u
  reduction [] h = record { word = []; reduced = IsReduced-nil A g; related = itself [] }
  reduction (s ∷ u) h =
      let r = reduction u (All-tail (IsLetter A.rank) s u h)
      in let q = reduction_step s r.word (All-head (IsLetter A.rank) s u h) r.reduced
      in record { word = q.word; reduced = q.reduced; related = chained (joined (itself (s ∷ [])) r.related) q.related }

  -- words of one element over the letters of the rank are related
  pub same-related : {u v : List ℕ} → IsWord A.rank u → IsWord A.rank v → SameElement A u v → AreRelated A u v
  same-related {u} {v} hu hv e =
      let p = reduction u hu
      in let q = reduction v hv
      in let same : SameElement A p.word q.word = same-trans A g (same-sym A g (related-same p.related))
      (same-trans A g e (related-same q.related))
      in chained p.related (chained (reduced_words-related p.reduced q.reduced same) (turned q.related))

  pub same_as_related : (u v : List ℕ) → IsWord A.rank u → IsWord A.rank v → SameElement A u v ↔ AreRelated A u v
  same_as_related u v hu hv = (same-related hu hv, related-same)
