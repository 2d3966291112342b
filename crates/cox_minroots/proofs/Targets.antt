-- The image of a small root under a letter, where the product of the pairings is at most 3 and the root is not that of the letter: it is
-- small,
-- so a list of all small roots has it.
use Rattle.std.proofs.Common.{◌≡◌, ℕ, ◌+◌, ◌-◌, ◌*◌, ◌/◌, ◌%◌, ◌≤◌, ◌<◌, List, [], ◌∷◌, ◌++◌, length, get_or, set, Contains, pos, ◌-ℤ◌}
use Rattle.std.proofs.Common.{◌*ℤ◌, ◌<ℤ◌, ap, sym, ◌∙◌, ⊎_elim, arith}
use Rattle.std.proofs.lemmas.Bool.{cases_lt, cases_order}
use Rattle.std.proofs.lemmas.Int.{ints, by_lt_z}
use Rattle.std.proofs.Math.Nat.{mul-le-mul_left}
use Rattle.std.proofs.Math.Seq.{get_or-append_seam}
use Rattle.std.proofs.lemmas.List.{ext_get_or, get_or_append_left, get_or_default, length-append, length-set}
use Rattle.cox_base.specs.declared.limits.TheConstants.{MAX_RANK}
use Rattle.cox_minroots.specs.declared.closure.TheConstants.{MAX_SMALL_ROOTS}
use Rattle.cox_base.specs.Matrix.{CoxeterMatrix, IsLetter}
use Rattle.cox_base.specs.Admissible.{IsCoxeterMatrix, IsAdmissible}
use Rattle.cox_base.specs.IntegerMatrix.{IntegerMatrix, integer_matrix}
use Rattle.cox_reflect.specs.Action.{Vector, simple_root, pairing, minus_multiple, reflect}
use Rattle.cox_reflect.specs.Transpose.{transposed}
use Rattle.cox_lemmas.proofs.Ring.{linears, times_one}
use Rattle.cox_reflect.proofs.Sums.{simple_root-self}
use Rattle.cox_reflect.proofs.Action.{reflect-fixed}
use Rattle.cox_reflect.proofs.Admissible.{IsAdmissible-integer_matrix}
use Rattle.cox_reflect.proofs.Transposed.{IsAdmissible-transposed}
use Rattle.cox_small.specs.SmallRoots.{IsSmall, step}
use Rattle.cox_small.proofs.Signs.{zero-agrees, negative-agrees}
use Rattle.cox_small.proofs.ElementaryRoots.{small-pair, small-positive, small-coroot, small-closed}
use Rattle.cox_minroots.specs.declared.root.Root.{Root}
use Rattle.cox_minroots.specs.Coordinates.{vector_of, weight, rise, CanTurn}
use Rattle.cox_minroots.specs.RootLists.{no_root, root_at, root_of, coroot_of}
use Rattle.cox_minroots.specs.Closure.{AreCoordinatesUpTo, AreAllSmall}
use Rattle.cox_minroots.specs.declared.moves.TheConstants.{NEGATIVE, OUT}
use Rattle.cox_minroots.specs.Moves.{IsMove}
use Rattle.cox_minroots.proofs.CoordinateLists.{vector_of-letter, vector_of-at, pairing-weight}
use Rattle.cox_minroots.proofs.SmallRootLists.{closed-has, negative-product, rise-negative, rise-positive, factors, short, root-equal}
use Rattle.cox_minroots.proofs.SmallRootLists.{turned-root, turned-coroot}

-- where the image has coordinates of a row, the code can compute it
can_turn_to : (A : IntegerMatrix) → IsAdmissible A → (s m : ℕ) (xs ys : List ℕ) → IsLetter A.rank s → AreCoordinatesUpTo m ys → m < 65536
    → vector_of ys ≡ reflect A s (vector_of xs) → CanTurn A s xs
unfolding reflect minus_multiple
can_turn_to A g s m xs ys ls row small e = go at_s
  where
    at_s : pos (get_or ys (s - 1) 0) ≡ pos (get_or xs (s - 1) 0) -ℤ ((pos (4 * get_or xs (s - 1) 0) -ℤ pos (weight A s xs)) *ℤ pos 1)
    at_s = rw (vector_of-letter ys s ls.from_one, vector_of-letter xs s ls.from_one, pairing-weight A g s xs ls, simple_root-self s) at
        (ap (λ (v : Vector). v s) e)

    go : pos (get_or ys (s - 1) 0) ≡ pos (get_or xs (s - 1) 0) -ℤ ((pos (4 * get_or xs (s - 1) 0) -ℤ pos (weight A s xs)) *ℤ pos 1)
        → CanTurn A s xs
    go f =
        let linear : pos (get_or ys (s - 1) 0) ≡ pos (get_or xs (s - 1) 0) -ℤ (pos (4 * get_or xs (s - 1) 0) -ℤ pos (weight A s xs))
        = rw (times_one (pos (4 * get_or xs (s - 1) 0) -ℤ pos (weight A s xs))) at f
        in record { positive = omega (arith, ints, linear); room = omega (arith, ints, linear, row.small (s - 1), small) }

-- a root of the list with this root and this coroot
record IsTarget (A : IntegerMatrix) (roots : List Root) (i s : ℕ) : Type 0 where
  number : ℕ
  within : number < length roots
  root : root_of roots number ≡ reflect A s (root_of roots i)
  coroot : coroot_of roots number ≡ reflect (transposed A) s (coroot_of roots i)

module _ (A : IntegerMatrix) (g : IsAdmissible A) (fits : A.rank ≤ MAX_RANK) (roots : List Root) (h : AreAllSmall A roots) (i : ℕ)
    (l : i < length roots) (s : ℕ) (ls : IsLetter A.rank s) where
  gt : IsAdmissible (transposed A)
  gt = IsAdmissible-transposed A g

  abbrev product : ℕ
  product = rise A s (root_at roots i).root * rise (transposed A) s (root_at roots i).coroot

  -- the simple roots have their own numbers
  not_simple : (i ≡ s - 1 → ⊥) → root_of roots i ≡ simple_root s → ⊥
  not_simple ne e =
      ⊎_elim (λ f. ne f)
      (⊎_elim (λ k. h.small.different i (s - 1) k within (e ∙ sym (h.simple.is s ls)))
      (λ k. h.small.different (s - 1) i k l (h.simple.is s ls ∙ sym e)))
      (cases_order i (s - 1))
    where
      within : s - 1 < length roots
      within = omega (arith, ls.from_one, ls.to_rank, h.simple.within)

  -- a small image is in the list
  target_of : IsSmall A (reflect A s (root_of roots i)) (reflect (transposed A) s (coroot_of roots i)) → IsTarget A roots i s
  target_of small =
      let j = closed-has A g roots h small
      in let other : IsSmall A (reflect A s (root_of roots i)) (coroot_of roots j.0) = rw j.2 at (h.small.small j.0 j.1)
      in record { number = j.0; within = j.1; root = j.2; coroot = small-coroot A g other small }

  small_image : (i ≡ s - 1 → ⊥) → product ≤ 3 → IsSmall A (reflect A s (root_of roots i)) (reflect (transposed A) s (coroot_of roots i))
  small_image ne few =
      by_lt_z (pos 0) (pairing A s (root_of roots i)) (λ up. small-closed A g s small (not_simple ne) up)
      (λ k. by_lt_z (pairing A s (root_of roots i)) (pos 0) below (λ m. equal (omega (arith, linears, k, m))))
    where
      small : IsSmall A (root_of roots i) (coroot_of roots i)
      small = h.small.small i l

      equal : pairing A s (root_of roots i) ≡ pos 0
          → IsSmall A (reflect A s (root_of roots i)) (reflect (transposed A) s (coroot_of roots i))
      equal e =
          rw (
            reflect-fixed A s (root_of roots i) e,
            reflect-fixed (transposed A) s (coroot_of roots i) (zero-agrees A g s (small-pair A g small) (small-positive A g small) e),
          )
          small

      below : pairing A s (root_of roots i) <ℤ pos 0
          → IsSmall A (reflect A s (root_of roots i)) (reflect (transposed A) s (coroot_of roots i))
      below n = step (short A g fits roots h.small i l s ls some few) small
        where
          r : pairing (transposed A) s (coroot_of roots i) <ℤ pos 0
          r = negative-agrees A g s (small-pair A g small) (small-positive A g small) n

          x : 1 ≤ rise A s (root_at roots i).root
          x = omega (arith, ints, rise-negative A g s (root_at roots i).root ls n, n)

          y : 1 ≤ rise (transposed A) s (root_at roots i).coroot
          y = omega (arith, ints, rise-negative (transposed A) gt s (root_at roots i).coroot ls r, r)

          some : 1 ≤ rise A s (root_at roots i).root * rise (transposed A) s (root_at roots i).coroot
          some = omega (arith, mul-le-mul_left (rise A s (root_at roots i).root) y, x)

  -- so the code can compute it
  pub target-turns : (i ≡ s - 1 → ⊥) → product ≤ 3 → length roots ≤ MAX_SMALL_ROOTS
      → CanTurn A s (root_at roots i).root × CanTurn (transposed A) s (root_at roots i).coroot
  target-turns ne few short_list =
      let t = target_of (small_image ne few)
      in (
        can_turn_to A g s (1 + 3 * t.number) (root_at roots i).root (root_at roots t.number).root ls (h.small.row t.number t.within)
            (omega (arith, t.within, short_list)) t.root,
        can_turn_to (transposed A) gt s (1 + 3 * t.number) (root_at roots i).coroot (root_at roots t.number).coroot ls
            (h.small.corow t.number t.within) (omega (arith, t.within, short_list)) t.coroot,
      )

  module _ (r : Root)
      (er : r.root ≡ set (root_at roots i).root (s - 1) (weight A s (root_at roots i).root - 3 * get_or (root_at roots i).root (s - 1) 0))
      (ec : r.coroot ≡ set (root_at roots i).coroot (s - 1)
      (weight (transposed A) s (root_at roots i).coroot - 3 * get_or (root_at roots i).coroot (s - 1) 0)) where
    -- and finds it in the list
    pub target-there : (i ≡ s - 1 → ⊥) → product ≤ 3 → length roots ≤ MAX_SMALL_ROOTS → Contains roots r
    target-there ne few short_list =
        (t.number, t.within, get_or_default roots t.number r no_root t.within ∙ root-equal (root_at roots t.number) r root coroot)
      where
        t : IsTarget A roots i s
        t = target_of (small_image ne few)

        turns : CanTurn A s (root_at roots i).root × CanTurn (transposed A) s (root_at roots i).coroot
        turns = target-turns ne few short_list

        full : length r.root ≡ length (root_at roots i).root
        full = rw er (length-set (root_at roots i).root (s - 1)
            (weight A s (root_at roots i).root - 3 * get_or (root_at roots i).root (s - 1) 0))

        cofull : length r.coroot ≡ length (root_at roots i).coroot
        cofull =
            rw ec (length-set (root_at roots i).coroot (s - 1)
            (weight (transposed A) s (root_at roots i).coroot - 3 * get_or (root_at roots i).coroot (s - 1) 0))

        root : (root_at roots t.number).root ≡ r.root
        root =
            ext_get_or 0 (root_at roots t.number).root r.root
            ((h.small.row t.number t.within).full ∙ sym (h.small.row i l).full ∙ sym full)
            (λ k m. vector_of-at (root_at roots t.number).root r.root
            (t.root ∙ sym (turned-root A g fits roots h.small i l s ls r er ec turns.0)) k)

        coroot : (root_at roots t.number).coroot ≡ r.coroot
        coroot =
            ext_get_or 0 (root_at roots t.number).coroot r.coroot
            ((h.small.corow t.number t.within).full ∙ sym (h.small.corow i l).full ∙ sym cofull)
            (λ k m. vector_of-at (root_at roots t.number).coroot r.coroot
            (t.coroot ∙ sym (turned-coroot A g fits roots h.small i l s ls r er ec turns.1)) k)

    pub move-found : (i ≡ s - 1 → ⊥) → product ≤ 3 → length roots ≤ MAX_SMALL_ROOTS → (number : ℕ) → (number < length roots)
        × (root_at roots number ≡ r)
        → IsMove A (length roots) (root_of roots) (coroot_of roots) i s number
    move-found ne few short_list number found = record {
      negative = λ e. absurd (omega (arith, e, found.0, short_list));
      out = λ e. absurd (omega (arith, e, found.0, short_list));
      goes = λ m. (
        found.0,
        ap (λ (x : Root). vector_of x.root) found.1
            ∙ turned-root A g fits roots h.small i l s ls r er ec (target-turns ne few short_list).0,
      );
    }

  pub move-negative : i ≡ s - 1 → IsMove A (length roots) (root_of roots) (coroot_of roots) i s NEGATIVE
  move-negative e = record {
    negative = λ _. rw e (h.simple.is s ls);
    out = λ e. absurd (omega (arith, e));
    goes = λ m. absurd (omega (arith, m));
  }

  pub move-out : 3 < product → IsMove A (length roots) (root_of roots) (coroot_of roots) i s OUT
  move-out many = record {
    negative = λ e. absurd (omega (arith, e));
    out = λ _. (negative_there, omega (arith, ints, negative-product A g fits roots h.small i l s ls negative_there, many));
    goes = λ m. absurd (omega (arith, m));
  }
    where
      f : (1 ≤ rise A s (root_at roots i).root) × (1 ≤ rise (transposed A) s (root_at roots i).coroot)
      f = factors (rise A s (root_at roots i).root) (rise (transposed A) s (root_at roots i).coroot) (omega (arith, many))

      negative_there : pairing A s (root_of roots i) <ℤ pos 0
      negative_there = omega (arith, ints, rise-positive A g s (root_at roots i).root ls f.0, f.0)

-- ---- the same of what the code reads: the root itself, and the product

module _ (x : CoxeterMatrix) (matrix : IsCoxeterMatrix x) (fits : x.rank ≤ MAX_RANK) (roots : List Root)
    (h : AreAllSmall (integer_matrix x) roots)
    (few : length roots ≤ MAX_SMALL_ROOTS) (i : ℕ) (l : i < length roots) (s : ℕ) (ls : IsLetter x.rank s) (root : Root)
    (at : root ≡ root_at roots i)
    (product : ℕ) (is : product ≡ rise (integer_matrix x) s root.root * rise (transposed (integer_matrix x)) s root.coroot) where
  g : IsAdmissible (integer_matrix x)
  g = IsAdmissible-integer_matrix x matrix

  pub read-out : 3 < product → IsMove (integer_matrix x) (length roots) (root_of roots) (coroot_of roots) i s OUT
  read-out many = move-out (integer_matrix x) g fits roots h i l s ls (rw (is, at) at many)

  pub read-turns : (i ≡ s - 1 → ⊥) → product ≤ 3 → CanTurn (integer_matrix x) s root.root
      × CanTurn (transposed (integer_matrix x)) s root.coroot
  read-turns ne small = rw at (target-turns (integer_matrix x) g fits roots h i l s ls ne (rw (is, at) at small) few)

  module _ (r : Root) (er : r.root ≡ set root.root (s - 1) (weight (integer_matrix x) s root.root - 3 * get_or root.root (s - 1) 0))
      (ec : r.coroot ≡ set root.coroot (s - 1) (weight (transposed (integer_matrix x)) s root.coroot - 3 * get_or root.coroot (s - 1) 0))
    where
      pub read-there : (i ≡ s - 1 → ⊥) → product ≤ 3 → Contains roots r
      read-there ne small =
          target-there (integer_matrix x) g fits roots h i l s ls r (rw at at er) (rw at at ec) ne (rw (is, at) at small) few

      pub read-found : (i ≡ s - 1 → ⊥) → product ≤ 3 → (number : ℕ) → (number < length roots) × (root_at roots number ≡ r)
          → IsMove (integer_matrix x) (length roots) (root_of roots) (coroot_of roots) i s number
      read-found ne small number found =
          move-found (integer_matrix x) g fits roots h i l s ls r (rw at at er) (rw at at ec) ne (rw (is, at) at small) few number found

-- ---- the moves of a list, one after the other

-- the moves before this place are there
pub record IsFilling (A : IntegerMatrix) (roots : List Root) (moves : List ℕ) (place : ℕ) : Type 0 where
  pub size : length moves ≡ place
  pub move : (i s : ℕ) → MAX_RANK * i + (s - 1) < place → IsLetter A.rank s
      → IsMove A (length roots) (root_of roots) (coroot_of roots) i s (get_or moves (MAX_RANK * i + (s - 1)) 0)

pub filling-start : (A : IntegerMatrix) (roots : List Root) (moves : List ℕ) → moves ≡ [] → IsFilling A roots moves 0
filling-start A roots moves e = record { size = ap length e; move = λ i s l. absurd (omega (arith, l)) }

pub filling-next : (A : IntegerMatrix) (roots : List Root) (moves : List ℕ) (place move : ℕ) (new : List ℕ) → A.rank ≤ MAX_RANK
    → IsFilling A roots moves place → new ≡ moves ++ move ∷ []
    → (place % MAX_RANK + 1 ≤ A.rank
    → IsMove A (length roots) (root_of roots) (coroot_of roots) (place / MAX_RANK) (place % MAX_RANK + 1) move)
    → IsFilling A roots new (place + 1)
filling-next A roots moves place move new fits h e is = record {
  size = ap length e ∙ length-append moves (move ∷ []) ∙ ap (λ (n : ℕ). n + 1) h.size;
  move = λ i s l ls. ⊎_elim (λ (k : MAX_RANK * i + (s - 1) < place). before i s k ls) (λ k. here i s (omega (arith, l, k)) ls)
      (cases_lt (MAX_RANK * i + (s - 1)) place);
}
  where
    before : (i s : ℕ) → MAX_RANK * i + (s - 1) < place → IsLetter A.rank s
        → IsMove A (length roots) (root_of roots) (coroot_of roots) i s (get_or new (MAX_RANK * i + (s - 1)) 0)
    before i s k ls =
        rw (e, get_or_append_left moves (move ∷ []) 0 (MAX_RANK * i + (s - 1)) (omega (arith, k, h.size))) (h.move i s k ls)

    here : (i s : ℕ) → MAX_RANK * i + (s - 1) ≡ place → IsLetter A.rank s
        → IsMove A (length roots) (root_of roots) (coroot_of roots) i s (get_or new (MAX_RANK * i + (s - 1)) 0)
    here i s k ls =
        let row : place / MAX_RANK ≡ i = omega (arith, k, ls.from_one, ls.to_rank, fits)
        in let letter : place % MAX_RANK + 1 ≡ s = omega (arith, k, ls.from_one, ls.to_rank, fits)
        in let at_end : get_or (moves ++ move ∷ []) (length moves) 0 ≡ move = get_or-append_seam moves move [] 0
        in let place_there : MAX_RANK * i + (s - 1) ≡ length moves = k ∙ sym h.size
        in rw (e, place_there, at_end) (rw (row, letter) at (is (omega (arith, letter, ls.to_rank))))
