-- Alternating words of two letters, no longer than the order of the two, are reduced.
use Rattle.std.proofs.Common.{◌≡◌, ℕ, zero, suc, ◌+◌, ◌≤◌, Bool, true, false, cond, List, [], ◌∷◌, ◌++◌, ℤ, refl, sym}
use Rattle.std.proofs.Common.{⊎_elim, arith}
use Rattle.std.proofs.lemmas.List.{length-append}
use Rattle.cox_base.specs.Matrix.{IsLetter}
use Rattle.cox_base.specs.IntegerMatrix.{IntegerMatrix}
use Rattle.cox_base.specs.Admissible.{IsAdmissible, HasOrder, order_two, order_three, order_four, order_back_four, order_six}
use Rattle.cox_base.specs.Admissible.{order_back_six}
use Rattle.cox_base.specs.Element.{SameElement}
use Rattle.cox_base.specs.Length.{word_length}
use Rattle.cox_base.specs.Reduced.{IsReduced}
use Rattle.cox_reflect.specs.Relations.{alternating_from, braided}
use Rattle.cox_reflect.specs.Action.{simple_root}
use Rattle.cox_reflect.specs.WordAction.{act, IsNonnegative}
use Rattle.cox_reflect.proofs.Elements.{same-refl}
use Rattle.cox_reflect.proofs.Lengths.{IsReduced-nil}
use Rattle.cox_reflect.proofs.RankTwo.{is_even, alternating, alternating-last, alternating-zero, length-alternating, TwoLetters, spread}
use Rattle.cox_reflect.proofs.RankTwo.{braids}
use Rattle.cox_reflect.proofs.RankTwo.{two_letters, pair_of, HasOrder-swap}
use Rattle.cox_reflect.proofs.Positivity.{Split, spread_nonnegative, positive}
use Rattle.cox_reflect.proofs.Faithful.{alternating-by_parity, related-same}
use Rattle.cox_reflect.proofs.Roots.{no_descent}
use Rattle.cox_reflect.proofs.Deletion.{right_length}

-- there is one order only
HasOrder-once : {a b : ℤ} {m n : ℕ} → HasOrder a b m → HasOrder a b n → m ≡ n
HasOrder-once order_two order_two = refl
HasOrder-once order_three order_three = refl
HasOrder-once order_four order_four = refl
HasOrder-once order_back_four order_back_four = refl
HasOrder-once order_six order_six = refl
HasOrder-once order_back_six order_back_six = refl

module _ (A : IntegerMatrix) (g : IsAdmissible A) where
  simple : (s : ℕ) → IsLetter A.rank s → IsNonnegative (act A [] (simple_root s))
  simple s l = positive A g [] s l (let z : word_length A [] ≡ 0 = IsReduced-nil A g in omega (arith, z))

  one_more : (m s t : ℕ) → IsLetter A.rank s → IsLetter A.rank t → (s ≡ t → ⊥) → HasOrder (A.entry s t) (A.entry t s) m
      → (k : ℕ) → suc k ≤ m → IsReduced A (alternating k t s) → IsReduced A (alternating (suc k) s t)
  one_more m s t ls lt ne order k l before =
      rw (alternating-last k s t) (⊎_elim
      (λ (e : word_length A (alternating k t s ++ t ∷ []) ≡ word_length A (alternating k t s) + 1).
      omega (arith, e, before, length-append (alternating k t s) (t ∷ [])))
      (λ (e : word_length A (alternating k t s) ≡ word_length A (alternating k t s ++ t ∷ []) + 1).
      absurd (no_descent A g (alternating k t s) t lt (nonnegative k refl) (omega (arith, e))))
      (right_length A g (alternating k t s) t lt))
    where
      nonnegative : (j : ℕ) → j ≡ k → IsNonnegative (act A (alternating k t s) (simple_root t))
      nonnegative zero e = rw (sym e, alternating-zero t s) (simple t lt)
      nonnegative (suc j) e = go (two_letters (pair_of A g t s lt ls (λ q. ne (sym q))) k)
        where
          r : Split A (alternating k t s) t s
          r = record {
            prefix = [];
            count = k;
            some = omega (arith, e);
            same = same-refl A g (alternating k t s);
            size = omega (arith, length-alternating k t s);
            not_s = let z : word_length A [] ≡ 0 = IsReduced-nil A g in omega (arith, z);
            not_t = let z : word_length A [] ≡ 0 = IsReduced-nil A g in omega (arith, z);
          }

          go : TwoLetters k (A.entry t s) (A.entry s t) → IsNonnegative (act A (alternating k t s) (simple_root t))
          go (spread hx hy) = spread_nonnegative A g (alternating k t s) t s r lt ls hx hy (simple t lt) (simple s ls)
          go (braids n some less other) =
              let same : n ≡ m = HasOrder-once other (HasOrder-swap order) in absurd (omega (arith, l, less, same))

  reduced-alternating : (m s t : ℕ) → IsLetter A.rank s → IsLetter A.rank t → (s ≡ t → ⊥) → HasOrder (A.entry s t) (A.entry t s) m
      → (k : ℕ) → k ≤ m → IsReduced A (alternating k s t)
  reduced-alternating m s t ls lt ne order zero l = rw (alternating-zero s t) (IsReduced-nil A g)
  reduced-alternating m s t ls lt ne order (suc k) l =
      one_more m s t ls lt ne order k l (reduced-alternating m t s lt ls (λ e. ne (sym e)) (HasOrder-swap order) k (omega (arith, l)))

  alternating_words : (m s t : ℕ) → (R : List ℕ → Type 0) → R (alternating m s t) → R (alternating m t s) → R (alternating_from m s t)
  alternating_words m s t R a b = go (is_even m) (alternating-by_parity m s t) (alternating-by_parity m t s)
    where
      go : (p : Bool) → alternating m s t ≡ cond p (alternating_from m s t) (alternating_from m t s)
          → alternating m t s ≡ cond p (alternating_from m t s) (alternating_from m s t) → R (alternating_from m s t)
      go true e f = rw (← e) a
      go false e f = rw (← f) b

  -- s t s .. of m letters is reduced, and names what t s t .. names
  pub reduced-alternating_from : (m s t : ℕ) → IsLetter A.rank s → IsLetter A.rank t → (s ≡ t → ⊥)
      → HasOrder (A.entry s t) (A.entry t s) m → IsReduced A (alternating_from m s t)
  reduced-alternating_from m s t ls lt ne order =
      alternating_words m s t (IsReduced A) (reduced-alternating m s t ls lt ne order m (omega arith))
      (reduced-alternating m t s lt ls (λ e. ne (sym e)) (HasOrder-swap order) m (omega arith))

  pub same-alternating_from : (m s t : ℕ) → IsLetter A.rank s → IsLetter A.rank t → HasOrder (A.entry s t) (A.entry t s) m
      → SameElement A (alternating_from m s t) (alternating_from m t s)
  same-alternating_from m s t ls lt order = related-same A g (braided ls lt order)
