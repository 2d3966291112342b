-- The small roots are the elementary ones: the positive roots that dominate no other positive root. So a small root stays small under a
-- letter with a positive pairing.
use Rattle.std.proofs.Common.{◌≡◌, ℕ, zero, suc, ◌+◌, ◌<◌, List, [], ◌∷◌, ◌++◌, length, ◌⊎◌, ◌↔◌, ℤ, pos, ◌+ℤ◌, ◌-ℤ◌, ◌*ℤ◌, neg_ℤ, ◌≤ℤ◌}
use Rattle.std.proofs.Common.{◌<ℤ◌, refl, ap, sym, ◌∙◌, inl, inr, ⊎_elim, arith, subst}
use Rattle.std.proofs.lemmas.Int.{by_lt_z}
use Rattle.std.proofs.lemmas.List.{length-append}
use Rattle.cox_base.specs.Matrix.{IsLetter}
use Rattle.cox_base.specs.IntegerMatrix.{IntegerMatrix}
use Rattle.cox_base.specs.Admissible.{IsAdmissible}
use Rattle.cox_reflect.specs.Action.{Vector, simple_root, pairing, minus_multiple, reflect}
use Rattle.cox_reflect.specs.WordAction.{act, IsNonnegative, IsNonpositive}
use Rattle.cox_reflect.specs.Transpose.{transposed}
use Rattle.cox_lemmas.proofs.Ring.{linears, multiply_out, product_nonnegative}
use Rattle.cox_reflect.proofs.Action.{act-nil, act-push, act-single, act-minus_multiple, pairing-reflect, reflect-fixed, reflect-reflect}
use Rattle.cox_reflect.proofs.Action.{reflect-simple_root}
use Rattle.cox_reflect.proofs.Positivity.{LastLetter, no_letter, last_letter, last_letter_of, simple_root-nonnegative}
use Rattle.cox_reflect.proofs.Transposed.{IsAdmissible-transposed}
use Rattle.cox_small.specs.SmallRoots.{IsShortStep, IsSmall, simple, step, IsSmallRoot}
use Rattle.cox_small.specs.Elementary.{IsRoot, Dominates, IsElementary}
use Rattle.cox_small.proofs.RootPairs.{IsRootPair, root-has_sign, root-one_sign, root-act, root-reflect, root-simple, root-sign_changes}
use Rattle.cox_small.proofs.RootPairs.{simple_or_stays, pair-root, pair-reflect, pair-simple, pair-equal}
use Rattle.cox_small.proofs.SentRoots.{sending, shorter-sends}
use Rattle.cox_small.proofs.Signs.{pairing-letter, negative-stays, positive-agrees}
use Rattle.cox_small.proofs.Domination.{out-dominates}
use Rattle.cox_small.proofs.Clearing.{short-not_dominates}

product-positive : (p r : ℤ) → pos 0 <ℤ p → pos 0 <ℤ r → pos 1 ≤ℤ (p *ℤ r)
product-positive p r hp hr =
    let m : pos 0 ≤ℤ ((p -ℤ pos 1) *ℤ (r -ℤ pos 1))
    = product_nonnegative (p -ℤ pos 1) (r -ℤ pos 1) (omega (arith, linears, hp)) (omega (arith, linears, hr))
    in let e : (p -ℤ pos 1) *ℤ (r -ℤ pos 1) ≡ ((p *ℤ r) -ℤ (p +ℤ r)) +ℤ pos 1 = simp multiply_out (omega (arith, linears))
    in omega (arith, linears, m, e, hp, hr)

module _ (A : IntegerMatrix) (g : IsAdmissible A) where
  pub small-pair : {b c : Vector} → IsSmall A b c → IsRootPair A b c
  small-pair (simple {s = s} l) = pair-simple A g s l
  small-pair (step {s = s} q h) = pair-reflect A g s (small-pair h)

  pub small-positive : {b c : Vector} → IsSmall A b c → IsNonnegative b
  small-positive (simple {s = s} l) = simple_root-nonnegative s
  small-positive (step {s = s} q h) = negative-stays A g s (pair-root A g (small-pair h)) (small-positive h) q.negative

  -- equal small roots have equal coroots
  pub small-coroot : {b c d : Vector} → IsSmall A b c → IsSmall A b d → c ≡ d
  small-coroot h k = pair-equal A g (small-pair h) (small-pair k)

  -- ---- elementary roots

  pub simple-elementary : (s : ℕ) → IsLetter A.rank s → IsElementary A (simple_root s)
  simple-elementary s l =
      record {
        root = root-simple A g s l;
        positive = simple_root-nonnegative s;
        alone =
            λ d r p h. sym (root-sign_changes A g s r p (below d h));
      }
    where
      below : (d : Vector) → Dominates A (simple_root s) d → IsNonpositive (reflect A s d)
      below d h i =
          rw (act-single A s d) at (h.follows (s ∷ []) (λ j. rw (act-single A s (simple_root s), reflect-simple_root A g s l)
          (omega (arith, linears, simple_root-nonnegative s j))) i)

  -- where s b dominates d, b dominates s d
  dominates-reflect : (s : ℕ) (b d : Vector) → Dominates A (reflect A s b) d → Dominates A b (reflect A s d)
  dominates-reflect s b d h = record {
    follows = λ w n i. rw (act-push A w s d) at
        (h.follows (w ++ s ∷ []) (λ j. rw (act-push A w s (reflect A s b), reflect-reflect A g s b) (n j)) i);
  }

  -- s b is elementary with b, if it is positive and does not dominate e(s)
  reflect-elementary : (s : ℕ) {b : Vector} → IsElementary A b → IsNonnegative (reflect A s b)
      → (Dominates A (reflect A s b) (simple_root s) → ⊥) → IsElementary A (reflect A s b)
  reflect-elementary s {b} h up never = record { root = root-reflect A g s h.root; positive = up; alone = alone_there }
    where
      alone_there : (d : Vector) → IsRoot A d → IsNonnegative d → Dominates A (reflect A s b) d → reflect A s b ≡ d
      alone_there d r p k = ⊎_elim own other (simple_or_stays A g s r p)
        where
          own : d ≡ simple_root s → reflect A s b ≡ d
          own e = absurd (never (subst (Dominates A (reflect A s b)) e k))

          other : IsNonnegative (reflect A s d) → reflect A s b ≡ d
          other q =
              ap (reflect A s) (h.alone (reflect A s d) (root-reflect A g s r) q (dominates-reflect s b d k)) ∙ reflect-reflect A g s d

  -- where p is positive and s b dominates e(s), so does b
  dominates-simple : (s : ℕ) (b : Vector) → IsLetter A.rank s → pos 0 <ℤ pairing A s b → Dominates A (reflect A s b) (simple_root s)
      → Dominates A b (simple_root s)
  unfolding reflect minus_multiple
  dominates-simple s b l up h = record {
    follows = λ w n. ⊎_elim (λ q. h.follows w (λ i. rw (act-minus_multiple A w b (pairing A s b) (simple_root s))
        (omega (arith, linears, n i, product_nonnegative (pairing A s b) (act A w (simple_root s) i) (omega (arith, linears, up)) (q i)))))
        (λ q. q) (root-has_sign A g (root-act A g w (root-simple A g s l)));
  }

  positive-letter : (s : ℕ) (b : Vector) → pos 0 <ℤ pairing A s b → IsLetter A.rank s
  positive-letter s b up = pairing-letter A g s b (λ z. omega (arith, linears, z, up))

  -- a letter with a positive pairing keeps a root elementary
  pub lower-elementary : (s : ℕ) {b : Vector} → IsElementary A b → (b ≡ simple_root s → ⊥) → pos 0 <ℤ pairing A s b
      → IsElementary A (reflect A s b)
  lower-elementary s {b} h other up =
      reflect-elementary s h (⊎_elim (λ e. absurd (other e)) (λ q. q) (simple_or_stays A g s h.root h.positive))
      (λ d. other (h.alone (simple_root s) (root-simple A g s l) (simple_root-nonnegative s) (dominates-simple s b l up d)))
    where
      l : IsLetter A.rank s
      l = positive-letter s b up

  -- small roots are elementary
  pub small-elementary : {b c : Vector} → IsSmall A b c → IsElementary A b
  small-elementary (simple {s = s} l) = simple-elementary s l
  small-elementary (step {s = s} q h) =
      reflect-elementary s (small-elementary h) (negative-stays A g s (pair-root A g (small-pair h)) (small-positive h) q.negative)
      (short-not_dominates A g s (small-pair h) (small-positive h) q)

  -- ---- and elementary roots are small

  -- a positive root that w makes negative is simple, or some letter with a positive pairing leads to a positive root that a
  -- shorter word makes negative
  record IsLowered (w : List ℕ) (b : Vector) : Type 0 where
    letter : ℕ
    positive : pos 0 <ℤ pairing A letter b
    stays : IsNonnegative (reflect A letter b)
    word : List ℕ
    shorter : length word < length w
    sent : IsNonpositive (act A word (reflect A letter b))

  record IsSimple (b : Vector) : Type 0 where
    letter : ℕ
    inside : IsLetter A.rank letter
    is : b ≡ simple_root letter

  longer_word : {z w : List ℕ} {b : Vector} → length z < length w → IsSimple b ⊎ IsLowered z b → IsSimple b ⊎ IsLowered w b
  longer_word l (inl e) = inl e
  longer_word l (inr d) =
      inr (record {
        letter = d.letter;
        positive = d.positive;
        stays = d.stays;
        word = d.word;
        shorter = omega (arith, l, d.shorter);
        sent =
            d.sent;
      })

  lowering : (n : ℕ) (w : List ℕ) (b : Vector) → length w < n → IsRoot A b → IsNonnegative b → IsNonpositive (act A w b)
      → IsSimple b ⊎ IsLowered w b
  lowering zero w b l r p sent = absurd (omega arith)
  lowering (suc n) w b l r p sent = go (last_letter_of w) l sent (λ z k q. lowering n z b k r p q)
    where
      go : {w : List ℕ} → LastLetter w → length w < suc n → IsNonpositive (act A w b)
          → ((z : List ℕ) → length z < n → IsNonpositive (act A z b) → IsSimple b ⊎ IsLowered z b) → IsSimple b ⊎ IsLowered w b
      go no_letter l sent again = absurd (root-one_sign A g r p (λ i. rw (act-nil A b) at (sent i)))
      go (last_letter u s) l sent again =
          by_lt_z (pos 0) (pairing A s b) above
          (λ k. by_lt_z (pairing A s b) (pos 0) below (λ m. equal (omega (arith, linears, k, m))))
        where
          size : length (u ++ s ∷ []) ≡ length u + 1
          size = length-append u (s ∷ [])

          before : IsNonpositive (act A u (reflect A s b))
          before i = rw (act-push A u s b) at (sent i)

          above : pos 0 <ℤ pairing A s b → IsSimple b ⊎ IsLowered (u ++ s ∷ []) b
          above up =
              ⊎_elim (λ e. inl (record { letter = s; inside = positive-letter s b up; is = e }))
              (λ q. inr (record { letter = s; positive = up; stays = q; word = u; shorter = omega (arith, size); sent = before }))
              (simple_or_stays A g s r p)

          equal : pairing A s b ≡ pos 0 → IsSimple b ⊎ IsLowered (u ++ s ∷ []) b
          equal e =
              longer_word {z = u} {w = u ++ s ∷ []} (omega (arith, size))
              (again u (omega (arith, size, l)) (λ i. rw (reflect-fixed A s b e) at (before i)))

          below : pairing A s b <ℤ pos 0 → IsSimple b ⊎ IsLowered (u ++ s ∷ []) b
          below m =
              let turned : pos 0 <ℤ pairing A s (reflect A s b) = rw (pairing-reflect A g s b) (omega (arith, linears, m))
              in let z = shorter-sends A g s (root-reflect A g s r) (negative-stays A g s r p m) turned u before
              in longer_word {z = z.0} {w = u ++ s ∷ []} (omega (arith, size, z.1))
              (again z.0 (omega (arith, size, l, z.1)) (λ i. rw (reflect-reflect A g s b) at (z.2 i)))

  -- s e(s) is negative
  simple_turns : (s : ℕ) {b : Vector} → IsLetter A.rank s → IsNonnegative (reflect A s b) → b ≡ simple_root s → ⊥
  simple_turns s {b} l q e =
      root-one_sign A g (root-reflect A g s (root-simple A g s l)) (λ i. rw e at (q i))
      (λ i. rw (reflect-simple_root A g s l) (omega (arith, linears, simple_root-nonnegative s i)))

  -- back from s b to b is a short step, if b is elementary
  short_back : (s : ℕ) {b c : Vector} → IsRootPair A b c → IsElementary A b → pos 0 <ℤ pairing A s b → IsNonnegative (reflect A s b)
      → IsShortStep A s (reflect A s b) (reflect (transposed A) s c)
  short_back s {b} {c} h k up q =
      record {
        letter = l;
        negative = down;
        at_least_one = rw product (product-positive (pairing A s b) (pairing (transposed A) s c) up r_up);
        at_most_three = by_lt_z (pos 3) (pairing A s (reflect A s b) *ℤ pairing (transposed A) s (reflect (transposed A) s c))
            (λ m. absurd (never (omega (arith, linears, m)))) (λ m. m);
      }
    where
      l : IsLetter A.rank s
      l = positive-letter s b up

      p_there : pairing A s (reflect A s b) ≡ neg_ℤ (pairing A s b)
      p_there = pairing-reflect A g s b

      r_there : pairing (transposed A) s (reflect (transposed A) s c) ≡ neg_ℤ (pairing (transposed A) s c)
      r_there = pairing-reflect (transposed A) (IsAdmissible-transposed A g) s c

      product : pairing A s (reflect A s b) *ℤ pairing (transposed A) s (reflect (transposed A) s c)
          ≡ pairing A s b *ℤ pairing (transposed A) s c
      product = rw (p_there, r_there) (simp multiply_out (omega (arith, linears)))

      r_up : pos 0 <ℤ pairing (transposed A) s c
      r_up = positive-agrees A g s h k.positive up

      down : pairing A s (reflect A s b) <ℤ pos 0
      down = rw p_there (omega (arith, linears, up))

      -- else b would dominate e(s)
      never : pos 4 ≤ℤ (pairing A s (reflect A s b) *ℤ pairing (transposed A) s (reflect (transposed A) s c)) → ⊥
      never far =
          let d : Dominates A b (simple_root s) = rw (reflect-reflect A g s b) at (out-dominates A g s (pair-reflect A g s h) q down far)
          in simple_turns s l q (k.alone (simple_root s) (root-simple A g s l) (simple_root-nonnegative s) d)

  small_by : (n : ℕ) (w : List ℕ) {b c : Vector} → length w < n → IsRootPair A b c → IsElementary A b → IsNonpositive (act A w b)
      → IsSmall A b c
  small_by zero w l h k sent = absurd (omega arith)
  small_by (suc n) w {b} {c} l h k sent =
      go (lowering (suc n) w b l k.root k.positive sent) (λ z x y m r f q. small_by n z {b = x} {c = y} m r f q)
    where
      go : IsSimple b ⊎ IsLowered w b
          → ((z : List ℕ) (x y : Vector) → length z < n → IsRootPair A x y → IsElementary A x → IsNonpositive (act A z x) → IsSmall A x y)
          → IsSmall A b c
      go (inl e) again =
          let same : c ≡ simple_root e.letter = pair-equal A g (rw e.is at h) (pair-simple A g e.letter e.inside)
          in rw (e.is, same) (simple e.inside)
      go (inr d) again =
          let other : b ≡ simple_root d.letter → ⊥ = simple_turns d.letter (positive-letter d.letter b d.positive) d.stays
          in let lower : IsSmall A (reflect A d.letter b) (reflect (transposed A) d.letter c)
          = again d.word (reflect A d.letter b) (reflect (transposed A) d.letter c) (omega (arith, l, d.shorter))
          (pair-reflect A g d.letter h)
          (lower-elementary d.letter k other d.positive) d.sent
          in rw (reflect-reflect A g d.letter b, reflect-reflect (transposed A) (IsAdmissible-transposed A g) d.letter c) at
          (step (short_back d.letter h k d.positive d.stays) lower)

  pub elementary-small : {b c : Vector} → IsRootPair A b c → IsElementary A b → IsSmall A b c
  elementary-small h k = let w = sending A g k.root in small_by (suc (length w.0)) w.0 (omega arith) h k w.1

  -- ---- so small roots are closed under letters with a positive pairing

  pub small-closed : (s : ℕ) {b c : Vector} → IsSmall A b c → (b ≡ simple_root s → ⊥) → pos 0 <ℤ pairing A s b
      → IsSmall A (reflect A s b) (reflect (transposed A) s c)
  small-closed s h other up =
      elementary-small (pair-reflect A g s (small-pair h)) (lower-elementary s (small-elementary h) other up)

  pub small_as_elementary : (b : Vector) → IsSmallRoot A b ↔ IsElementary A b
  small_as_elementary b =
      (λ h. small-elementary h.small, λ k. record { coroot = coroot_of k.root; small = elementary-small (pair_of k.root) k })
    where
      coroot_of : IsRoot A b → Vector
      coroot_of r = act (transposed A) r.word (simple_root r.letter)

      pair_of : (r : IsRoot A b) → IsRootPair A b (coroot_of r)
      pair_of r = record { word = r.word; letter = r.letter; inside = r.inside; image = r.image; coimage = refl }
