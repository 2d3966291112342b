-- Lists of small roots: one more root, a short step by its product, and when the list has all of them.
use Rattle.std.proofs.Common.{◌≡◌, ℕ, zero, suc, ◌+◌, ◌-◌, ◌*◌, ◌≤◌, ◌<◌, List, [], ◌∷◌, ◌++◌, length, get_or, set, Contains, ℤ, pos}
use Rattle.std.proofs.Common.{◌-ℤ◌, ◌*ℤ◌, neg_ℤ, ◌<ℤ◌, refl, ap, ap₂, sym, ◌∙◌, ⊎_elim, arith, get_or-set_same, get_or-set_other}
use Rattle.std.proofs.Math.Seq.{get_or-append_seam}
use Rattle.std.proofs.Math.Nat.{mul-le-mul_left, mul-le-mul_right}
use Rattle.std.proofs.lemmas.List.{ext_get_or, get_or_append_left, get_or_default, length-append, length-set}
use Rattle.std.proofs.lemmas.Bool.{cases_eq, cases_lt}
use Rattle.std.proofs.lemmas.Int.{ints}
use Rattle.cox_base.specs.declared.limits.TheConstants.{MAX_RANK}
use Rattle.cox_base.specs.Matrix.{IsLetter}
use Rattle.cox_base.specs.IntegerMatrix.{IntegerMatrix}
use Rattle.cox_base.specs.Admissible.{IsAdmissible}
use Rattle.cox_reflect.specs.Action.{Vector, pairing, reflect}
use Rattle.cox_reflect.specs.Transpose.{transposed}
use Rattle.cox_lemmas.proofs.Ring.{neg_mul, mul_neg}
use Rattle.cox_reflect.proofs.Transposed.{IsAdmissible-transposed}
use Rattle.cox_small.specs.SmallRoots.{IsShortStep, IsSmall, simple, step, HasMoreSmallRoots}
use Rattle.cox_small.specs.RootCounts.{HasFewSmallRoots}
use Rattle.cox_small.proofs.ElementaryRoots.{small-pair, small-positive, small-coroot}
use Rattle.cox_small.proofs.Signs.{negative-agrees}
use Rattle.cox_minroots.specs.declared.root.Root.{Root}
use Rattle.cox_minroots.specs.Coordinates.{vector_of, weight, rise, CanTurn}
use Rattle.cox_minroots.specs.RootLists.{no_root, root_at, root_of, coroot_of, IsInserted, there, last}
use Rattle.cox_minroots.specs.Closure.{AreCoordinatesUpTo, AreSmall, HasSimple, HasStep, IsLonger, AreAllSmall}
use Rattle.cox_minroots.proofs.CoordinateLists.{vector_of-at, pairing-weight, turned-coordinates}

-- ---- lists

pub rows-equal : {m n : ℕ} (xs ys : List ℕ) → AreCoordinatesUpTo m xs → AreCoordinatesUpTo n ys → vector_of xs ≡ vector_of ys → xs ≡ ys
rows-equal xs ys h k e = ext_get_or 0 xs ys (h.full ∙ sym k.full) (λ i l. vector_of-at xs ys e i)

-- a root of small lists is told by its vector
pub root-equal : (r q : Root) → r.root ≡ q.root → r.coroot ≡ q.coroot → r ≡ q
root-equal r q a b = λ i. record { root = a i; coroot = b i }

pub longer-refl : (roots : List Root) → IsLonger roots roots
longer-refl roots = record { longer = omega arith; same = λ i l. refl }

pub longer-trans : {a b c : List Root} → IsLonger a b → IsLonger b c → IsLonger a c
longer-trans h k = record {
  longer = omega (arith, h.longer, k.longer);
  same = λ i l. k.same i (omega (arith, l, h.longer)) ∙ h.same i l;
}

at_old : (old : List Root) (r : Root) (i : ℕ) → i < length old → root_at (old ++ r ∷ []) i ≡ root_at old i
at_old old r i l = get_or_append_left old (r ∷ []) no_root i l

pub at_last : (old : List Root) (r : Root) → root_at (old ++ r ∷ []) (length old) ≡ r
at_last old r = get_or-append_seam old r [] no_root

pub length-last : (old : List Root) (r : Root) → length (old ++ r ∷ []) ≡ length old + 1
length-last old r = length-append old (r ∷ [])

pub longer-inserted : {old : List Root} {r : Root} {new : List Root} → IsInserted old r new → IsLonger old new
longer-inserted {old} (there c) = longer-refl old
longer-inserted {old} {r} (last c) = record { longer = omega (arith, length-last old r); same = at_old old r }

pub inserted-length : {old : List Root} {r : Root} {new : List Root} → IsInserted old r new → length new ≤ length old + 1
inserted-length (there c) = omega arith
inserted-length {old} {r} (last c) = omega (arith, length-last old r)

-- the inserted root is in the list
pub inserted-at : {old : List Root} {r : Root} {new : List Root} → IsInserted old r new → (j : ℕ) × (j < length new) × (root_at new j ≡ r)
inserted-at {old} {r} (there c) = (c.0, c.1, get_or_default old c.0 no_root r c.1 ∙ c.2)
inserted-at {old} {r} (last c) = (length old, omega (arith, length-last old r), at_last old r)

-- ---- one more small root

pub row-within : {m n : ℕ} (xs : List ℕ) → m ≤ n → AreCoordinatesUpTo m xs → AreCoordinatesUpTo n xs
row-within xs l h = record { full = h.full; small = λ k. omega (arith, l, h.small k) }

module _ (A : IntegerMatrix) (g : IsAdmissible A) where
  -- a list with a root of this vector has this very root
  same_pair : (roots : List Root) (r : Root) (m i : ℕ) → AreSmall A roots → IsSmall A (vector_of r.root) (vector_of r.coroot)
      → AreCoordinatesUpTo m r.root
      → AreCoordinatesUpTo m r.coroot → i < length roots → root_of roots i ≡ vector_of r.root → root_at roots i ≡ r
  same_pair roots r m i h small row corow l e =
      let other : IsSmall A (vector_of r.root) (coroot_of roots i) = rw e at (h.small i l)
      in root-equal (root_at roots i) r (rows-equal (root_at roots i).root r.root (h.row i l) row e)
      (rows-equal (root_at roots i).coroot r.coroot (h.corow i l) corow (small-coroot A g other small))

  contains-at : (roots : List Root) (r : Root) (i : ℕ) → i < length roots → root_at roots i ≡ r → Contains roots r
  contains-at roots r i l e = (i, l, get_or_default roots i r no_root l ∙ e)

  pub small-inserted : {old new : List Root} {r : Root} → AreSmall A old → IsSmall A (vector_of r.root) (vector_of r.coroot)
      → AreCoordinatesUpTo (1 + 3 * length old) r.root → AreCoordinatesUpTo (1 + 3 * length old) r.coroot → IsInserted old r new
      → AreSmall A new
  small-inserted h small row corow (there c) = h
  small-inserted {old} {new} {r} h small row corow (last absent) =
      record { small = smalls; different = differs; row = rows; corow = corows }
    where
      -- a place of the longer list
      at : (P : ℕ → Root → Type 0) → ((i : ℕ) → i < length old → P i (root_at old i)) → P (length old) r
          → (i : ℕ) → i < length (old ++ r ∷ []) → P i (root_at (old ++ r ∷ []) i)
      at P before new_one i l =
          ⊎_elim (λ (k : i < length old). rw (at_old old r i k) (before i k))
          (λ (k : length old ≤ i). let e : i ≡ length old = omega (arith, l, k, length-last old r) in rw (e, at_last old r) new_one)
          (cases_lt i (length old))

      smalls : (i : ℕ) → i < length (old ++ r ∷ []) → IsSmall A (root_of (old ++ r ∷ []) i) (coroot_of (old ++ r ∷ []) i)
      smalls = at (λ i q. IsSmall A (vector_of q.root) (vector_of q.coroot)) h.small small

      rows : (i : ℕ) → i < length (old ++ r ∷ []) → AreCoordinatesUpTo (1 + 3 * i) (root_at (old ++ r ∷ []) i).root
      rows = at (λ i q. AreCoordinatesUpTo (1 + 3 * i) q.root) h.row row

      corows : (i : ℕ) → i < length (old ++ r ∷ []) → AreCoordinatesUpTo (1 + 3 * i) (root_at (old ++ r ∷ []) i).coroot
      corows = at (λ i q. AreCoordinatesUpTo (1 + 3 * i) q.coroot) h.corow corow

      new_one : (i : ℕ) → i < length old → root_of old i ≡ vector_of r.root → ⊥
      new_one i l e = absent (contains-at old r i l (same_pair old r (1 + 3 * length old) i h small row corow l e))

      differs : (i j : ℕ) → i < j → j < length (old ++ r ∷ []) → root_of (old ++ r ∷ []) i ≡ root_of (old ++ r ∷ []) j → ⊥
      differs i j l m e =
          ⊎_elim (λ (k : j < length old). h.different i j l k (rw (at_old old r i (omega (arith, l, k)), at_old old r j k) at e))
          (λ (k : length old ≤ j).
          let f : j ≡ length old = omega (arith, m, k, length-last old r)
          in let before : i < length old = omega (arith, l, f)
          in new_one i before (rw (f, at_old old r i before, at_last old r) at e)) (cases_lt j (length old))

  -- ---- steps by the product

  -- where the pairing is negative the rise is -p, and the other way round
  pub rise-negative : (s : ℕ) (xs : List ℕ) → IsLetter A.rank s → pairing A s (vector_of xs) <ℤ pos 0
      → pairing A s (vector_of xs) ≡ neg_ℤ (pos (rise A s xs))
  rise-negative s xs l n =
      let m : (pos (4 * get_or xs (s - 1) 0) -ℤ pos (weight A s xs)) <ℤ pos 0 = rw (pairing-weight A g s xs l) at n
      in rw (pairing-weight A g s xs l) (omega (arith, ints, m))

  pub rise-positive : (s : ℕ) (xs : List ℕ) → IsLetter A.rank s → 1 ≤ rise A s xs
      → pairing A s (vector_of xs) ≡ neg_ℤ (pos (rise A s xs))
  rise-positive s xs l n = rw (pairing-weight A g s xs l) (omega (arith, ints, n))

  -- the coordinates of the image under a step with a small rise
  pub turns-by_rise : (s m : ℕ) (xs : List ℕ) → 1 ≤ rise A s xs → rise A s xs ≤ 3 → AreCoordinatesUpTo m xs → m + 3 < 65536 → CanTurn A s xs
  turns-by_rise s m xs l h row few = record { positive = omega (arith, l); room = omega (arith, l, h, row.small (s - 1), few) }

  -- a row after its coordinate at s has risen
  pub risen-row : (s m : ℕ) (xs : List ℕ) → s - 1 < MAX_RANK → 1 ≤ rise A s xs → rise A s xs ≤ 3 → AreCoordinatesUpTo m xs
      → AreCoordinatesUpTo (m + 3) (set xs (s - 1) (weight A s xs - 3 * get_or xs (s - 1) 0))
  risen-row s m xs within l h row =
      record { full = length-set xs (s - 1) (weight A s xs - 3 * get_or xs (s - 1) 0) ∙ row.full; small = below }
    where
      v : ℕ
      v = weight A s xs - 3 * get_or xs (s - 1) 0

      below : (k : ℕ) → get_or (set xs (s - 1) v) k 0 ≤ m + 3
      below k = ⊎_elim same other (cases_eq k (s - 1))
        where
          same : k ≡ s - 1 → get_or (set xs (s - 1) v) k 0 ≤ m + 3
          same e =
              let inside : s - 1 < length xs = omega (arith, within, row.full)
              in rw (e, get_or-set_same) (omega (arith, l, h, row.small (s - 1)))

          other : (k ≡ s - 1 → ⊥) → get_or (set xs (s - 1) v) k 0 ≤ m + 3
          other ne = rw get_or-set_other (omega (arith, row.small k))

-- the product of the pairings, by the product of the rises
product_is : (x y : ℕ) → neg_ℤ (pos x) *ℤ neg_ℤ (pos y) ≡ pos (x * y)
product_is x y = let e : pos x *ℤ pos y ≡ pos (x * y) = omega (arith, ints) in rw (neg_mul, mul_neg, e) (omega (arith, ints))

pub factors : (x y : ℕ) → 1 ≤ x * y → (1 ≤ x) × (1 ≤ y)
factors zero y l = absurd (omega (arith, l))
factors (suc x) zero l = absurd (omega (arith, l))
factors (suc x) (suc y) l = (omega arith, omega arith)

small_factors : (x y : ℕ) → 1 ≤ x * y → x * y ≤ 3 → (x ≤ 3) × (y ≤ 3)
small_factors x y l h =
    let f = factors x y l
    in (omega (arith, mul-le-mul_left x f.1, h), omega (arith, mul-le-mul_right y f.0, h))

pub HasStep-longer : (A : IntegerMatrix) (old new : List Root) (i s : ℕ) → IsLonger old new → i < length old → HasStep A old i s
    → HasStep A new i s
HasStep-longer A old new i s k l h = record {
  image = λ q. let j = h.image (rw (k.same i l) at q) in (j.0, omega (arith, j.1, k.longer), rw (k.same i l, k.same j.0 j.1) j.2);
}

pub HasSimple-longer : (old new : List Root) (n : ℕ) → IsLonger old new → HasSimple old n → HasSimple new n
HasSimple-longer old new n k h = record {
  within = omega (arith, h.within, k.longer);
  is = λ s l. rw (k.same (s - 1) (omega (arith, l.from_one, l.to_rank, h.within))) (h.is s l);
}

-- ---- the root i of a list of small roots, and a letter s

module _ (A : IntegerMatrix) (g : IsAdmissible A) (fits : A.rank ≤ MAX_RANK) (roots : List Root) (h : AreSmall A roots) (i : ℕ)
    (l : i < length roots)
    (s : ℕ) (ls : IsLetter A.rank s) where
  gt : IsAdmissible (transposed A)
  gt = IsAdmissible-transposed A g

  -- the rises of the root and of its coroot
  abbrev X : ℕ
  X = rise A s (root_at roots i).root

  abbrev Y : ℕ
  Y = rise (transposed A) s (root_at roots i).coroot

  pub short : 1 ≤ X * Y → X * Y ≤ 3 → IsShortStep A s (root_of roots i) (coroot_of roots i)
  short m n =
      let f = factors X Y m
      in let p = rise-positive A g s (root_at roots i).root ls f.0
      in let r = rise-positive (transposed A) gt s (root_at roots i).coroot ls f.1
      in let product : pairing A s (root_of roots i) *ℤ pairing (transposed A) s (coroot_of roots i) ≡ pos (X * Y)
      = ap₂ (λ (a b : ℤ). a *ℤ b) p r ∙ product_is X Y
      in record {
        letter = ls;
        negative = rw p (omega (arith, ints, f.0));
        at_least_one = rw product (omega (arith, ints, m));
        at_most_three = rw product (omega (arith, ints, n));
      }

  -- where both pairings are negative, their product is that of the rises
  pub negative-product : pairing A s (root_of roots i) <ℤ pos 0
      → pairing A s (root_of roots i) *ℤ pairing (transposed A) s (coroot_of roots i) ≡ pos (X * Y)
  negative-product n =
      let small = h.small i l
      in let m = negative-agrees A g s (small-pair A g small) (small-positive A g small) n
      in ap₂ (λ (a b : ℤ). a *ℤ b) (rise-negative A g s (root_at roots i).root ls n)
      (rise-negative (transposed A) gt s (root_at roots i).coroot ls m)
      ∙ product_is X Y

  pub short-product : IsShortStep A s (root_of roots i) (coroot_of roots i) → (1 ≤ X * Y) × (X * Y ≤ 3)
  short-product q =
      let e = negative-product q.negative
      in (omega (arith, ints, e, q.at_least_one), omega (arith, ints, e, q.at_most_three))

  pub passed : (1 ≤ X * Y → X * Y ≤ 3 → ⊥) → HasStep A roots i s
  passed never = record { image = λ q. let f = short-product q in absurd (never f.0 f.1) }

  place : s - 1 < MAX_RANK
  place = omega (arith, ls.from_one, ls.to_rank, fits)

  row : AreCoordinatesUpTo (1 + 3 * i) (root_at roots i).root
  row = h.row i l

  corow : AreCoordinatesUpTo (1 + 3 * i) (root_at roots i).coroot
  corow = h.corow i l

  pub can_turn : 1 ≤ X * Y → X * Y ≤ 3 → length roots < 20000
      → CanTurn A s (root_at roots i).root × CanTurn (transposed A) s (root_at roots i).coroot
  can_turn m n few =
      let f = factors X Y m
      in let u = small_factors X Y m n
      in (
        turns-by_rise A g s (1 + 3 * i) (root_at roots i).root f.0 u.0 row (omega (arith, l, few)),
        turns-by_rise (transposed A) gt s (1 + 3 * i) (root_at roots i).coroot f.1 u.1 corow (omega (arith, l, few)),
      )

  module _ (r : Root)
      (er : r.root ≡ set (root_at roots i).root (s - 1) (weight A s (root_at roots i).root - 3 * get_or (root_at roots i).root (s - 1) 0))
      (ec : r.coroot ≡ set (root_at roots i).coroot (s - 1)
      (weight (transposed A) s (root_at roots i).coroot - 3 * get_or (root_at roots i).coroot (s - 1) 0)) where
    pub turned-root : CanTurn A s (root_at roots i).root → vector_of r.root ≡ reflect A s (root_of roots i)
    turned-root c = rw er (turned-coordinates A g s (root_at roots i).root ls (omega (arith, row.full, fits)) c)

    pub turned-coroot : CanTurn (transposed A) s (root_at roots i).coroot
        → vector_of r.coroot ≡ reflect (transposed A) s (coroot_of roots i)
    turned-coroot c = rw ec (turned-coordinates (transposed A) gt s (root_at roots i).coroot ls (omega (arith, corow.full, fits)) c)

    -- the list with the image
    pub added : {new : List Root} → 1 ≤ X * Y → X * Y ≤ 3 → length roots < 20000 → IsInserted roots r new
        → AreSmall A new × HasStep A new i s
    added {new} m n few put = (small-inserted A g h small row_there corow_there put, has)
      where
        f : (1 ≤ X) × (1 ≤ Y)
        f = factors X Y m

        u : (X ≤ 3) × (Y ≤ 3)
        u = small_factors X Y m n

        image : vector_of r.root ≡ reflect A s (root_of roots i)
        image = turned-root (can_turn m n few).0

        coimage : vector_of r.coroot ≡ reflect (transposed A) s (coroot_of roots i)
        coimage = turned-coroot (can_turn m n few).1

        small : IsSmall A (vector_of r.root) (vector_of r.coroot)
        small = rw (image, coimage) (step (short m n) (h.small i l))

        row_there : AreCoordinatesUpTo (1 + 3 * length roots) r.root
        row_there = rw er (row-within _ (omega (arith, l)) (risen-row A g s (1 + 3 * i) (root_at roots i).root place f.0 u.0 row))

        corow_there : AreCoordinatesUpTo (1 + 3 * length roots) r.coroot
        corow_there =
            rw ec (row-within _ (omega (arith, l)) (risen-row (transposed A) gt s (1 + 3 * i) (root_at roots i).coroot place f.1 u.1 corow))

        longer : IsLonger roots new
        longer = longer-inserted put

        has : HasStep A new i s
        has =
            let j = inserted-at put
            in record {
              image = λ q. (
                j.0,
                j.1,
                ap (λ (x : Root). vector_of x.root) j.2 ∙ image
                    ∙ ap (λ (x : Root). reflect A s (vector_of x.root)) (sym (longer.same i l)),
              );
            }

-- ---- the count

-- a list with more than max small roots
pub more-than : (A : IntegerMatrix) (max : ℕ) (roots : List Root) → AreSmall A roots → max < length roots → HasMoreSmallRoots A max
more-than A max roots h l = record {
  root = root_of roots;
  small = λ i k. record { coroot = coroot_of roots i; small = h.small i (omega (arith, l, k)) };
  different = λ i j k m e. h.different i j k (omega (arith, l, m)) e;
}

module _ (A : IntegerMatrix) (g : IsAdmissible A) (roots : List Root) (h : AreAllSmall A roots) where
  pub closed-has : {b c : Vector} → IsSmall A b c → (i : ℕ) × (i < length roots) × (root_of roots i ≡ b)
  closed-has (simple {s = s} l) = (s - 1, omega (arith, l.from_one, l.to_rank, h.simple.within), h.simple.is s l)
  closed-has (step {s = s} {b = b} {c = c} q k) = go (closed-has k)
    where
      go : (i : ℕ) × (i < length roots) × (root_of roots i ≡ b) → (j : ℕ) × (j < length roots) × (root_of roots j ≡ reflect A s b)
      go i =
          let other : IsSmall A b (coroot_of roots i.0) = rw i.2 at (h.small.small i.0 i.1)
          in let same : coroot_of roots i.0 ≡ c = small-coroot A g other k
          in let j = (h.steps i.0 s i.1 q.letter).image (rw (i.2, same) q)
          in (j.0, j.1, j.2 ∙ ap (reflect A s) i.2)

  pub at-most : (max : ℕ) → length roots ≤ max → HasFewSmallRoots A max
  at-most max l = record {
    root = root_of roots;
    all = λ {b} k. let i = closed-has k.small in (i.0, omega (arith, i.1, l), i.2);
  }
