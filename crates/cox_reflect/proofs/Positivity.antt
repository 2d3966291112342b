-- Positivity (Humphreys 5.4): u e(s) is nonnegative where l(us) >= l(u). A rank-two end is split off u, and what is left is shorter.
use Rattle.std.proofs.Common.{◌≡◌, ℕ, zero, suc, ◌+◌, ◌≤◌, ◌<◌, Bool, true, false, not, cond, List, [], ◌∷◌, ◌++◌, length, ℤ, pos}
use Rattle.std.proofs.Common.{◌-ℤ◌, ◌*ℤ◌, neg_ℤ, ◌≤ℤ◌, ap, sym, ◌∙◌, ⊎_elim, arith}
use Rattle.std.proofs.lemmas.Bool.{cases_eq, cases_lt}
use lib.Signed.{le_z_yes}
use Rattle.std.proofs.lemmas.List.{length-append, append_assoc}
use Rattle.std.proofs.lemmas.List.Elements.{All-nil, All-cons, All-contains, Contains-push}
use Rattle.cox_base.specs.Matrix.{IsLetter, IsWord}
use Rattle.cox_base.specs.IntegerMatrix.{IntegerMatrix}
use Rattle.cox_base.specs.Admissible.{IsAdmissible, HasOrder}
use Rattle.cox_base.specs.Element.{SameElement}
use Rattle.cox_base.specs.ShortLex.{normal_form}
use Rattle.cox_base.specs.Length.{word_length}
use Rattle.cox_base.specs.Reduced.{IsReduced}
use Rattle.cox_reflect.specs.Action.{Vector, simple_root, minus_multiple}
use Rattle.cox_reflect.specs.WordAction.{act, IsNonnegative}
use Rattle.cox_lemmas.proofs.Ring.{linears, multiply_out, neg_mul, product_nonnegative}
use Rattle.cox_reflect.proofs.Sums.{letter_cases, simple_root-self, simple_root-other}
use Rattle.cox_reflect.proofs.Action.{act-nil, act-append, act-minus_multiple}
use Rattle.cox_reflect.proofs.Elements.{same-act, same-refl, same-sym, same-trans, same-equal, same-append, same-push}
use Rattle.cox_reflect.proofs.Elements.{same-push_twice, same-square, same-outside}
use Rattle.cox_reflect.proofs.Search.{normal_form-same, length-normal_form, word_length-least, word_length-equal, word_length-length}
use Rattle.cox_reflect.proofs.Lengths.{word_length-is, IsReduced-prefix, IsReduced-same, IsReduced-tail, IsReduced-normal_form}
use Rattle.cox_reflect.proofs.RankTwo.{is_even, alternating, alternating-suc, alternating-zero, alternating-last}
use Rattle.cox_reflect.proofs.RankTwo.{alternating-ends, length-alternating, moved, shift, TwoLetters, spread, braids}
use Rattle.cox_reflect.proofs.RankTwo.{two_letters, HasOrder-swap, pair_of, same-braid, act-alternating_root}

-- a word is empty, or has a last letter
pub data LastLetter : List ℕ → Type 0 where
  no_letter : LastLetter []
  last_letter : (x : List ℕ) (t : ℕ) → LastLetter (x ++ t ∷ [])

pub last_letter_of : (u : List ℕ) → LastLetter u
last_letter_of [] = no_letter
last_letter_of (s ∷ u) = go s u (last_letter_of u)
  where
    go : (s : ℕ) (u : List ℕ) → LastLetter u → LastLetter (s ∷ u)
    go s [] no_letter = last_letter [] s
    go s w (last_letter x t) = last_letter (s ∷ x) t

-- u with its end in s and t split off: the alternating word of `count` letters that ends with t. Neither s nor t shortens what is left.
pub record Split (A : IntegerMatrix) (u : List ℕ) (s t : ℕ) : Type 0 where
  pub prefix : List ℕ
  pub count : ℕ
  pub some : 1 ≤ count
  pub same : SameElement A (prefix ++ alternating count s t) u
  pub size : length prefix + count ≡ length u
  pub not_s : word_length A prefix ≤ word_length A (prefix ++ s ∷ [])
  pub not_t : word_length A prefix ≤ word_length A (prefix ++ t ∷ [])

-- u ends in an alternating word of m letters, as many as the relation of s and t has: so it has a word that ends with s and one
-- that ends with t
pub record BraidEnd (A : IntegerMatrix) (u : List ℕ) (s t m : ℕ) : Type 0 where
  pub prefix : List ℕ
  pub ends_t : SameElement A (prefix ++ alternating m s t) u
  pub ends_s : SameElement A (prefix ++ alternating m t s) u
  pub size : length prefix + m ≡ length u

combination_nonnegative : (x y a b : ℤ) → x ≤ℤ pos 1 → y ≤ℤ pos 0 → pos 0 ≤ℤ a → pos 0 ≤ℤ b
    → pos 0 ≤ℤ ((a -ℤ (x *ℤ a)) -ℤ (y *ℤ b))
combination_nonnegative x y a b hx hy ha hb =
    let m : pos 0 ≤ℤ ((pos 1 -ℤ x) *ℤ a) = product_nonnegative (pos 1 -ℤ x) a (omega (arith, linears)) ha
    in let n : pos 0 ≤ℤ (neg_ℤ y *ℤ b) = product_nonnegative (neg_ℤ y) b (omega (arith, linears)) hb
    in let e : (pos 1 -ℤ x) *ℤ a ≡ a -ℤ (x *ℤ a) = simp multiply_out (omega (arith, linears))
    in omega (arith, linears, m, n, e, neg_mul y b)

pub simple_root-nonnegative : (s : ℕ) → IsNonnegative (simple_root s)
simple_root-nonnegative s i =
    ⊎_elim (λ (e : i ≡ s). rw (e, simple_root-self s) (le_z_yes tt)) (λ ne. rw (simple_root-other s i ne) (le_z_yes tt)) (cases_eq i s)

both_letters : (P : ℕ → Type 0) (even : Bool) (s t : ℕ) → P (cond even t s) → P (cond (not even) t s) → P s × P t
both_letters P true s t p q = (q, p)
both_letters P false s t p q = (p, q)

module _ (A : IntegerMatrix) (g : IsAdmissible A) where
  -- a reduced word has letters of the rank alone
  pub IsWord-reduced : (u : List ℕ) → IsReduced A u → IsWord A.rank u
  IsWord-reduced [] h = All-nil (IsLetter A.rank)
  IsWord-reduced (s ∷ u) h =
      ⊎_elim (λ l. All-cons (IsLetter A.rank) s u l (IsWord-reduced u (IsReduced-tail A g s u h)))
      (λ foreign. absurd (shorter foreign)) (letter_cases A.rank s)
    where
      shorter : (IsLetter A.rank s → ⊥) → ⊥
      shorter foreign = omega (arith, h, word_length-least A g (same-sym A g (same-outside A g s u foreign)))

  -- the letter at which the split off end begins does not shorten what is left
  not_first : (u v : List ℕ) (j : ℕ) (s t : ℕ) → IsReduced A u → SameElement A (v ++ alternating (suc j) s t) u
      → length v + suc j ≡ length u
      → word_length A v ≤ word_length A (v ++ cond (is_even j) t s ∷ [])
  not_first u v j s t h e size =
      let r : ℕ = cond (is_even j) t s
      in let word : (v ++ r ∷ []) ++ alternating j s t ≡ v ++ alternating (suc j) s t
      = append_assoc v (r ∷ []) (alternating j s t) ∙ ap (λ (w : List ℕ). v ++ w) (sym (alternating-suc j s t))
      in let long : length (v ++ alternating (suc j) s t) ≡ length v + suc j
      = length-append v (alternating (suc j) s t) ∙ ap (λ (n : ℕ). length v + n) (length-alternating (suc j) s t)
      in let reduced : IsReduced A (v ++ alternating (suc j) s t) = IsReduced-same A g e h (omega arith)
      in let prefix : IsReduced A (v ++ r ∷ []) = IsReduced-prefix A g (v ++ r ∷ []) (alternating j s t) (rw word reduced)
      in omega (arith, prefix, word_length-length A g v, length-append v (r ∷ []))

  -- one letter more is split off ..
  split_off : (v : List ℕ) (j : ℕ) (s t : ℕ)
      → SameElement A (normal_form A (v ++ cond (is_even j) t s ∷ []) ++ alternating (suc j) s t) (v ++ alternating j s t)
  split_off v j s t =
      let r : ℕ = cond (is_even j) t s
      in rw (alternating-suc j s t)
      (same-trans A g (same-append A g (normal_form-same A g (v ++ r ∷ [])) (same-refl A g (r ∷ alternating j s t)))
      (rw (append_assoc v (r ∷ []) (r ∷ alternating j s t)) (same-append A g (same-refl A g v) (same-square A g r (alternating j s t)))))

  split_stop : (u v : List ℕ) (j : ℕ) (s t : ℕ) → IsReduced A u → SameElement A (v ++ alternating (suc j) s t) u
      → length v + suc j ≡ length u
      → word_length A v ≤ word_length A (v ++ cond (is_even (suc j)) t s ∷ []) → Split A u s t
  split_stop u v j s t h e size k =
      let neither = both_letters (λ r. word_length A v ≤ word_length A (v ++ r ∷ [])) (is_even j) s t (not_first u v j s t h e size) k
      in record { prefix = v; count = suc j; some = omega arith; same = e; size = size; not_s = neither.0; not_t = neither.1 }

  -- what is left is shorter by one letter
  split_size : (u v : List ℕ) (j : ℕ) (s t : ℕ) → IsReduced A u → SameElement A (v ++ alternating (suc j) s t) u
      → length v + suc j ≡ length u
      → word_length A (v ++ cond (is_even (suc j)) t s ∷ []) < word_length A v
      → length (normal_form A (v ++ cond (is_even (suc j)) t s ∷ [])) + suc (suc j) ≡ length u
  split_size u v j s t h e size k =
      let v' : List ℕ = normal_form A (v ++ cond (is_even (suc j)) t s ∷ [])
      in let least : word_length A u ≤ length (v' ++ alternating (suc (suc j)) s t) = word_length-least A g
      (same-trans A g (split_off v (suc j) s t) e)
      in omega (
        arith,
        least,
        h,
        k,
        size,
        word_length-length A g v,
        word_length-is A (v ++ cond (is_even (suc j)) t s ∷ []),
        length-append v' (alternating (suc (suc j)) s t),
        length-alternating (suc (suc j)) s t,
      )

  -- .. for as long as the next letter shortens what is left
  split_from : (bound : ℕ) (u v : List ℕ) (j : ℕ) (s t : ℕ) → length v ≤ bound → IsReduced A u
      → SameElement A (v ++ alternating (suc j) s t) u → length v + suc j ≡ length u
      → Split A u s t
  split_from zero u v j s t l h e size =
      ⊎_elim (λ k. absurd (omega (arith, k, l, word_length-length A g v))) (split_stop u v j s t h e size)
      (cases_lt (word_length A (v ++ cond (is_even (suc j)) t s ∷ [])) (word_length A v))
  split_from (suc bound) u v j s t l h e size =
      ⊎_elim
      (λ (k : word_length A (v ++ cond (is_even (suc j)) t s ∷ []) < word_length A v).
      let smaller = split_size u v j s t h e size k
      in split_from bound u (normal_form A (v ++ cond (is_even (suc j)) t s ∷ [])) (suc j) s t (omega (arith, smaller, size, l)) h
      (same-trans A g (split_off v (suc j) s t) e) smaller)
      (split_stop u v j s t h e size)
      (cases_lt (word_length A (v ++ cond (is_even (suc j)) t s ∷ [])) (word_length A v))

  pub split : (x : List ℕ) (s t : ℕ) → IsReduced A (x ++ t ∷ []) → Split A (x ++ t ∷ []) s t
  split x s t h =
      split_from (length x) (x ++ t ∷ []) x 0 s t (omega arith) h
      (rw (alternating-last 0 s t, alternating-zero t s) (same-refl A g (x ++ t ∷ []))) (omega (arith, length-append x (t ∷ [])))

  -- ---- the theorem

  -- it holds for words of less than n letters
  Shorter : ℕ → Type 0
  Shorter n =
      (v : List ℕ) (s : ℕ) → length v < n → IsLetter A.rank s → word_length A v ≤ word_length A (v ++ s ∷ []) → IsNonnegative
      (act A v (simple_root s))

  pub braid_end : (u : List ℕ) (s t m : ℕ) (r : Split A u s t) → m ≤ r.count → IsLetter A.rank s → IsLetter A.rank t
      → HasOrder (A.entry s t) (A.entry t s) m
      → BraidEnd A u s t m
  braid_end u s t m r l ls lt h =
      let a = alternating-ends r.count m s t l
      in let whole : SameElement A ((r.prefix ++ a.0) ++ alternating m s t) u = rw
      (append_assoc r.prefix a.0 (alternating m s t), ← a.1) r.same
      in record {
        prefix = r.prefix ++ a.0;
        ends_t = whole;
        ends_s =
            same-trans A g (same-append A g (same-refl A g (r.prefix ++ a.0)) (same-braid A g t s lt ls (HasOrder-swap h))) whole;
        size = omega (
          arith,
          r.size,
          length-append r.prefix a.0,
          length-alternating r.count s t,
          length-alternating m s t,
          ap length a.1,
          length-append a.0 (alternating m s t),
        );
      }

  -- where there is one, s shortens u
  braid_shortens : (u : List ℕ) (s t m : ℕ) → 0 < m → BraidEnd A u s t m → word_length A (u ++ s ∷ []) < length u
  braid_shortens u s t zero l r = absurd (omega arith)
  braid_shortens u s t (suc j) l r =
      let word : (r.prefix ++ alternating (suc j) t s) ++ s ∷ [] ≡ ((r.prefix ++ alternating j s t) ++ s ∷ []) ++ s ∷ []
      = ap (λ (w : List ℕ). w ++ s ∷ []) (ap (λ (w : List ℕ). r.prefix ++ w) (alternating-last j t s)
      ∙ sym (append_assoc r.prefix (alternating j s t) (s ∷ [])))
      in let e : SameElement A (r.prefix ++ alternating j s t) (u ++ s ∷ [])
      = same-trans A g (same-sym A g (same-push_twice A g (r.prefix ++ alternating j s t) s))
      (same-trans A g (same-equal A g (sym word)) (same-push A g s r.ends_s))
      in omega (arith, r.size, word_length-least A g e, length-append r.prefix (alternating j s t), length-alternating j s t)

  pub spread_nonnegative : (u : List ℕ) (s t : ℕ) (r : Split A u s t) → IsLetter A.rank s → IsLetter A.rank t
      → (shift r.count (pos 2) (A.entry t s) (A.entry s t) (A.entry t s)).0 ≤ℤ pos 1
      → (shift r.count (pos 2) (A.entry t s) (A.entry s t) (A.entry t s)).1 ≤ℤ pos 0
      → IsNonnegative (act A r.prefix (simple_root s)) → IsNonnegative (act A r.prefix (simple_root t))
      → IsNonnegative (act A u (simple_root s))
  unfolding moved minus_multiple
  spread_nonnegative u s t r ls lt hx hy ps pt =
      let x : ℤ = (shift r.count (pos 2) (A.entry t s) (A.entry s t) (A.entry t s)).0
      in let y : ℤ = (shift r.count (pos 2) (A.entry t s) (A.entry s t) (A.entry t s)).1
      in let e : act A u (simple_root s)
      ≡ minus_multiple (minus_multiple (act A r.prefix (simple_root s)) x (act A r.prefix (simple_root s))) y
      (act A r.prefix (simple_root t))
      = sym (same-act A g r.same (simple_root s)) ∙ act-append A r.prefix (alternating r.count s t) (simple_root s)
      ∙ ap (act A r.prefix) (act-alternating_root A g r.count s t ls lt)
      ∙ act-minus_multiple A r.prefix (minus_multiple (simple_root s) x (simple_root s)) y (simple_root t)
      ∙ ap (λ (v : Vector). minus_multiple v y (act A r.prefix (simple_root t)))
      (act-minus_multiple A r.prefix (simple_root s) x (simple_root s))
      in λ i. rw e (combination_nonnegative x y (act A r.prefix (simple_root s) i) (act A r.prefix (simple_root t) i) hx hy (ps i) (pt i))

  positive_step : (x : List ℕ) (t s : ℕ) → Shorter (length (x ++ t ∷ [])) → IsReduced A (x ++ t ∷ [])
      → IsLetter A.rank s
      → word_length A (x ++ t ∷ []) ≤ word_length A ((x ++ t ∷ []) ++ s ∷ [])
      → IsNonnegative (act A (x ++ t ∷ []) (simple_root s))
  unfolding Shorter
  positive_step x t s shorter h ls longer = go (two_letters (pair_of A g s t ls lt apart) r.count)
    where
      r : Split A (x ++ t ∷ []) s t
      r = split x s t h

      lt : IsLetter A.rank t
      lt = All-contains (IsLetter A.rank) (x ++ t ∷ []) t (IsWord-reduced (x ++ t ∷ []) h) (Contains-push x t)

      apart : s ≡ t → ⊥
      apart e =
          let longer_t : word_length A (x ++ t ∷ []) ≤ word_length A ((x ++ t ∷ []) ++ t ∷ []) = rw e at longer
          in omega (arith, longer_t, h, word_length-equal A g (same-push_twice A g x t), word_length-length A g x, length-append x (t ∷ []))

      go : TwoLetters r.count (A.entry s t) (A.entry t s) → IsNonnegative (act A (x ++ t ∷ []) (simple_root s))
      go (spread hx hy) =
          spread_nonnegative (x ++ t ∷ []) s t r ls lt hx hy (shorter r.prefix s (omega (arith, r.size, r.some)) ls r.not_s)
          (shorter r.prefix t (omega (arith, r.size, r.some)) lt r.not_t)
      go (braids m l k order) =
          absurd (omega (arith, longer, h, braid_shortens (x ++ t ∷ []) s t m l (braid_end (x ++ t ∷ []) s t m r k ls lt order)))

  positive_reduced : (u : List ℕ) (s : ℕ) → Shorter (length u) → IsReduced A u → IsLetter A.rank s
      → word_length A u ≤ word_length A (u ++ s ∷ []) → IsNonnegative (act A u (simple_root s))
  positive_reduced u s shorter h ls longer = go (last_letter_of u) shorter h longer
    where
      go : {u : List ℕ} → LastLetter u → Shorter (length u) → IsReduced A u
          → word_length A u ≤ word_length A (u ++ s ∷ []) → IsNonnegative (act A u (simple_root s))
      go no_letter shorter h longer = rw (act-nil A (simple_root s)) (simple_root-nonnegative s)
      go (last_letter x t) shorter h longer = positive_step x t s shorter h ls longer

  positive_by : (n : ℕ) → Shorter n
  unfolding Shorter
  positive_by zero v s l ls longer = absurd (omega arith)
  positive_by (suc n) v s l ls longer =
      let same : SameElement A (normal_form A v) v = normal_form-same A g v
      in let small : length (normal_form A v) ≤ length v = length-normal_form A g v
      in let longer_there : word_length A (normal_form A v) ≤ word_length A (normal_form A v ++ s ∷ [])
      = omega (arith, longer, word_length-equal A g same, word_length-equal A g (same-push A g s same))
      in let there : IsNonnegative (act A (normal_form A v) (simple_root s))
      = positive_reduced (normal_form A v) s (λ x t k lt h. positive_by n x t (omega (arith, k, l, small)) lt h)
      (IsReduced-normal_form A g v) ls longer_there
      in λ i. rw (same-act A g same (simple_root s)) at (there i)

  -- u e(s) is nonnegative where s does not shorten u
  pub positive : (u : List ℕ) (s : ℕ) → IsLetter A.rank s → word_length A u ≤ word_length A (u ++ s ∷ [])
      → IsNonnegative (act A u (simple_root s))
  unfolding Shorter
  positive u s ls longer = positive_by (suc (length u)) u s (omega arith) ls longer
