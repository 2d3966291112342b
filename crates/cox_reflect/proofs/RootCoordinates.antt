-- Coordinates of roots as the code computes them: how a list of numbers changes under a letter, and that 128 bits are enough.
use Rattle.std.proofs.Common.{◌≡◌, ℕ, zero, suc, ◌+◌, ◌-◌, ◌*◌, ◌^◌, ◌≤◌, ◌<◌, List, [], ◌∷◌, ◌++◌, length, reverse, map, set, ℤ}
use Rattle.std.proofs.Common.{pos, ◌+ℤ◌, ◌-ℤ◌, ◌*ℤ◌, nat_abs, replicate, slice_index_or, get_or-set_other, refl, sym, ◌∙◌, ⊎_elim}
use Rattle.std.proofs.Common.{arith, lit<, get_or}
use Rattle.std.proofs.Math.Nat.{mul-le-mul_right, pow-le-pow_right}
use Rattle.std.proofs.lemmas.Bool.{cases_eq, cases_lt}
use Rattle.std.proofs.lemmas.List.{length-set, length-replicate, get_or-replicate, get_or_past}
use Rattle.std.proofs.lemmas.Int.{ints, fits_signed_from_abs, unsigned_abs-mul}
use mir.Syntax.{w128}
use mir.Val.{SFits}
use Rattle.cox_base.specs.declared.limits.TheConstants.{MAX_RANK}
use Rattle.cox_base.specs.Matrix.{CoxeterMatrix, IsLetter, IsWord}
use Rattle.cox_base.specs.Admissible.{IsCoxeterMatrix, IsAdmissible}
use Rattle.cox_base.specs.IntegerMatrix.{IntegerMatrix, integer_matrix, entry_of}
use Rattle.cox_base.specs.Element.{sum_to, matrix}
use Rattle.cox_reflect.specs.Action.{Vector, simple_root, pairing, minus_multiple, reflect}
use Rattle.cox_reflect.specs.WordAction.{act, size}
use Rattle.cox_reflect.specs.RootHeight.{at_letter}
use Rattle.cox_reflect.proofs.Sums.{sum_to-same, simple_root-self, simple_root-other}
use Rattle.cox_reflect.proofs.BackwardTurns.{reverse-map_push, turn-letter, turn-length}
use Rattle.cox_reflect.proofs.Admissible.{IsAdmissible-integer_matrix}
use Rattle.cox_reflect.specs.declared.wide_heights.TheConstants.{LETTERS_OF_128_BITS}
use Rattle.cox_reflect.proofs.LetterLists.{at_letter-set_same, at_letter-set_other}
use Rattle.cox_reflect.proofs.Action.{act-cons}
use Rattle.cox_reflect.proofs.Elements.{matrix-column}
use Rattle.cox_reflect.proofs.Sizes.{coordinate-size, size-prefix, entry-small, sum_to-small, size-act}

fits-bound : (z : ℤ) (n : ℕ) → nat_abs z ≤ 4 * n → n ≤ 4 ^ (LETTERS_OF_128_BITS - 1) → SFits w128 z
fits-bound z n small bound =
    let top : 4 * 4 ^ (LETTERS_OF_128_BITS - 1) < 2 ^ 127 = lit< tt in fits_signed_from_abs w128 z (omega (arith, small, bound, top))

pub part-none : (f : ℕ → ℤ) → sum_to 0 f ≡ pos 0
unfolding sum_to
part-none f = refl

sum_to-next : (t : ℕ) (f : ℕ → ℤ) → 1 ≤ t → sum_to (t - 1) f +ℤ f t ≡ sum_to t f
unfolding sum_to
sum_to-next zero f l = absurd (omega arith)
sum_to-next (suc k) f l = let e : suc k - 1 ≡ k = omega arith in rw e refl

module _ (A : IntegerMatrix) (g : IsAdmissible A) where
  -- each product, and each part of the sum, fits
  pub term-fits : (s t : ℕ) (v : Vector) → IsLetter A.rank t → size A.rank v ≤ 4 ^ (LETTERS_OF_128_BITS - 1)
      → SFits w128 (A.entry s t *ℤ v t)
  term-fits s t v l bound =
      let product : nat_abs (A.entry s t *ℤ v t) ≡ nat_abs (A.entry s t) * nat_abs (v t) = unsigned_abs-mul (A.entry s t) (v t)
      in let small : nat_abs (A.entry s t) * nat_abs (v t) ≤ 3 * nat_abs (v t) = mul-le-mul_right (nat_abs (v t)) (entry-small A g s t)
      in fits-bound (A.entry s t *ℤ v t) (size A.rank v) (omega (arith, product, small, coordinate-size A.rank t v l)) bound

  pub part-fits : (s t : ℕ) (v : Vector) → IsLetter A.rank t → size A.rank v ≤ 4 ^ (LETTERS_OF_128_BITS - 1)
      → SFits w128 (sum_to (t - 1) (λ k. A.entry s k *ℤ v k) +ℤ (A.entry s t *ℤ v t))
  part-fits s t v l bound =
      rw (sum_to-next t (λ k. A.entry s k *ℤ v k) l.from_one)
      (fits-bound (sum_to t (λ k. A.entry s k *ℤ v k)) (size A.rank v)
      (omega (arith, sum_to-small A g s t v, size-prefix t A.rank v l.to_rank)) bound)

pub part-next : (A : IntegerMatrix) (s t : ℕ) (v : Vector) → 1 ≤ t
    → sum_to (t - 1) (λ k. A.entry s k *ℤ v k) +ℤ (A.entry s t *ℤ v t) ≡ sum_to t (λ k. A.entry s k *ℤ v k)
part-next A s t v l = sum_to-next t (λ k. A.entry s k *ℤ v k) l

-- ---- a letter's reflection

-- the numbers for the letters are the coordinates of a vector
pub record AreCoordinates (A : IntegerMatrix) (list : List ℤ) (v : Vector) : Type 0 where
  pub count : length list ≡ MAX_RANK
  pub each : (i : ℕ) → IsLetter A.rank i → at_letter list i ≡ v i
  pub past : (k : ℕ) → A.rank ≤ k → slice_index_or list k (pos 0) ≡ pos 0

module _ (A : IntegerMatrix) (list : List ℤ) (v : Vector) (is : AreCoordinates A list v) where
  size-at_letter : (n : ℕ) → n ≤ A.rank → size n (at_letter list) ≡ size n v
  unfolding size
  size-at_letter zero l = refl
  size-at_letter (suc n) l = rw (size-at_letter n (omega arith), is.each (suc n) (record { from_one = omega arith; to_rank = l })) refl

  -- the pairing read off the list
  pairing-at_letter : (s : ℕ) → sum_to A.rank (λ t. A.entry s t *ℤ at_letter list t) ≡ pairing A s v
  unfolding pairing
  pairing-at_letter s = sum_to-same A.rank (λ t. A.entry s t *ℤ at_letter list t) (λ t. A.entry s t *ℤ v t) (λ t l. rw (is.each t l))

  AreCoordinates-reflect : (s : ℕ) (p x : ℤ) → IsLetter A.rank s → A.rank ≤ MAX_RANK → p ≡ pairing A s v → x ≡ at_letter list s -ℤ p
      → AreCoordinates A (set list (s - 1) x) (reflect A s v)
  unfolding reflect minus_multiple
  AreCoordinates-reflect s p x l limit p_is x_is = record {
    count = length-set list (s - 1) x ∙ is.count;
    each = λ i k. ⊎_elim (own i) (other i k) (cases_eq i s);
    past = λ k above. get_or-set_other list (s - 1) k x (pos 0) (λ e. omega (arith, e, l.from_one, l.to_rank)) ∙ is.past k above;
  }
    where
      at_s : at_letter (set list (s - 1) x) s ≡ v s -ℤ (pairing A s v *ℤ simple_root s s)
      at_s =
          at_letter-set_same list s x l.from_one (omega (arith, is.count, l.to_rank, limit)) ∙ x_is
          ∙ rw (is.each s l, p_is, simple_root-self s) (omega (arith, ints))

      own : (i : ℕ) → i ≡ s → at_letter (set list (s - 1) x) i ≡ v i -ℤ (pairing A s v *ℤ simple_root s i)
      own i e = rw e at_s

      other : (i : ℕ) → IsLetter A.rank i → (i ≡ s → ⊥) → at_letter (set list (s - 1) x) i ≡ v i -ℤ (pairing A s v *ℤ simple_root s i)
      other i k ne =
          at_letter-set_other list s i x l.from_one k.from_one ne ∙ is.each i k ∙ rw (simple_root-other s i ne) (omega (arith, ints))

size-word : (A : IntegerMatrix) (g : IsAdmissible A) (list : List ℤ) (v : Vector) → AreCoordinates A list v → (w : List ℕ) (s : ℕ)
    → v ≡ act A w (simple_root s) → length w < LETTERS_OF_128_BITS
    → size A.rank (at_letter list) ≤ 4 ^ (LETTERS_OF_128_BITS - 1)
size-word A g list v is w s e short =
    let few : length w ≤ LETTERS_OF_128_BITS - 1 = omega (arith, short)
    in let power : 4 ^ length w ≤ 4 ^ (LETTERS_OF_128_BITS - 1) = pow-le-pow_right (lit< tt) few
    in let bound : size A.rank v ≤ 4 ^ length w = rw e (size-act A g w s)
    in omega (arith, size-at_letter A list v is A.rank (omega arith), bound, power)

-- the code's difference fits
reflected-fits : (A : IntegerMatrix) (list : List ℤ) (s : ℕ) (p : ℤ) → IsLetter A.rank s → nat_abs p ≤ 3 * size A.rank (at_letter list)
    → size A.rank (at_letter list) ≤ 4 ^ (LETTERS_OF_128_BITS - 1)
    → SFits w128 (at_letter list s -ℤ p)
reflected-fits A list s p l small bound =
    let difference : nat_abs (at_letter list s -ℤ p) ≤ nat_abs (at_letter list s) + nat_abs p = omega (arith, ints)
    in fits-bound (at_letter list s -ℤ p) (size A.rank (at_letter list))
    (omega (arith, difference, small, coordinate-size A.rank s (at_letter list) l)) bound

-- the code's list for a simple root
pub AreCoordinates-simple_root : (A : IntegerMatrix) (s : ℕ) (list : List ℤ) → IsLetter A.rank s → A.rank ≤ MAX_RANK
    → list ≡ set (replicate MAX_RANK (pos 0)) (s - 1) (pos 1)
    → AreCoordinates A list (simple_root s)
AreCoordinates-simple_root A s list l limit e = record {
  count = rw e (length-set (replicate MAX_RANK (pos 0)) (s - 1) (pos 1) ∙ length-replicate MAX_RANK (pos 0));
  each = λ i k. ⊎_elim (λ (f : i ≡ s). rw (e, f)
      (at_letter-set_same (replicate MAX_RANK (pos 0)) s (pos 1) l.from_one
      (omega (arith, length-replicate MAX_RANK (pos 0), l.to_rank, limit))
      ∙ sym (simple_root-self s)))
      (λ ne. rw e (at_letter-set_other (replicate MAX_RANK (pos 0)) s i (pos 1) l.from_one k.from_one ne ∙ zeros (i - 1)
      ∙ sym (simple_root-other s i ne))) (cases_eq i s);
  past = λ k above. rw e (get_or-set_other (replicate MAX_RANK (pos 0)) (s - 1) k (pos 1) (pos 0)
      (λ f. omega (arith, f, l.from_one, l.to_rank, above)) ∙ zeros k);
}
  where
    zeros : (k : ℕ) → slice_index_or (replicate MAX_RANK (pos 0)) k (pos 0) ≡ pos 0
    zeros k =
        ⊎_elim (λ (low : k < MAX_RANK). get_or-replicate MAX_RANK k (pos 0) (pos 0) low)
        (λ (high : MAX_RANK ≤ k). get_or_past (replicate MAX_RANK (pos 0)) k (pos 0)
        (omega (arith, high, length-replicate MAX_RANK (pos 0)))) (cases_lt k MAX_RANK)

pub AreCoordinates-column : (A : IntegerMatrix) (w : List ℕ) (s : ℕ) (list : List ℤ) → AreCoordinates A list (act A w (simple_root s))
    → (i : ℕ) → IsLetter A.rank i
    → at_letter list i ≡ matrix A w i s
AreCoordinates-column A w s list is i l = is.each i l ∙ sym (matrix-column A w i s l)

AreCoordinates-next : {X : Type 0} (A : IntegerMatrix) (f : X → ℕ) (xs : List X) (x : X) (s : ℕ) (list : List ℤ)
    → AreCoordinates A list (reflect A (f x) (act A (reverse (map f xs)) (simple_root s)))
    → AreCoordinates A list (act A (reverse (map f (xs ++ x ∷ []))) (simple_root s))
AreCoordinates-next A f xs x s list is = rw (reverse-map_push f xs x, act-cons A (f x) (reverse (map f xs)) (simple_root s)) is

-- ---- a turn of the loop over the letters of w, the last one first: xs are the items so far, item is the next, f gives their letters

module _ (x : CoxeterMatrix) (matrix : IsCoxeterMatrix x) (w : List ℕ) (word : IsWord x.rank w) (short : length w ≤ LETTERS_OF_128_BITS)
    (s : ℕ)
    {X : Type 0} (f : X → ℕ)
    (xs : List X) (item : X) (turn : (length xs < length (reverse w)) × (f item ≡ get_or (reverse w) (length xs) (f item)))
    (list : List ℤ) (are : AreCoordinates (integer_matrix x) list (act (integer_matrix x) (reverse (map f xs)) (simple_root s))) where
  g : IsAdmissible (integer_matrix x)
  g = IsAdmissible-integer_matrix x matrix

  pub image-letter : IsLetter x.rank (f item)
  image-letter = turn-letter x.rank (length xs) (f item) w word turn

  pub image-room : size x.rank (at_letter list) ≤ 4 ^ (LETTERS_OF_128_BITS - 1)
  image-room = size-word (integer_matrix x) g list _ are (reverse (map f xs)) s refl (omega (arith, short, turn-length f xs w turn.0))

  pub image-fits : (p : ℤ) → nat_abs p ≤ 3 * size x.rank (at_letter list) → SFits w128 (at_letter list (f item) -ℤ p)
  image-fits p small = reflected-fits (integer_matrix x) list (f item) p image-letter small image-room

  pub image-next : (p v : ℤ) → x.rank ≤ MAX_RANK → p ≡ sum_to x.rank (λ t. entry_of x (f item) t *ℤ at_letter list t)
      → v ≡ at_letter list (f item) -ℤ p
      → AreCoordinates (integer_matrix x) (set list (f item - 1) v)
      (act (integer_matrix x) (reverse (map f (xs ++ item ∷ []))) (simple_root s))
  image-next p v limit p_is v_is =
      AreCoordinates-next (integer_matrix x) f xs item s (set list (f item - 1) v)
      (AreCoordinates-reflect (integer_matrix x) list _ are (f item) p v image-letter limit
      (p_is ∙ pairing-at_letter (integer_matrix x) list _ are (f item)) v_is)
