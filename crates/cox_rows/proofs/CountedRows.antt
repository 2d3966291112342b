-- The polynomials that are added up at least: for no row, for one row, and for rows that are made one after another.
use Rattle.std.proofs.Common.{◌≡◌, ◌≢◌, ◌⊎◌, inl, inr, ⊎_elim, ℕ, zero, suc, ◌+◌, ◌<◌, ◌≤◌, Bool, true, false, cond, slice_index_or}
use Rattle.std.proofs.Common.{refl, ap, arith}
use Rattle.std.proofs.lemmas.Bool.{both_ways, cases_eq}
use Rattle.cox_context.specs.Closed.{Elements}
use Rattle.cox_row_builder.specs.Counted.{counted}
use Rattle.cox_klstep.specs.CountedSteps.{IsCounted}
use Rattle.cox_row_symmetry.specs.ImagesAtHand.{IsImageAtHand, IsMadeByStep}
use Rattle.cox_rows.specs.Holding.{Holding, HasRow}
use Rattle.cox_rows.specs.CountedRows.{IsNewByStep, IsShare, total, AreRowsCounted}

-- ---- sums of shares

total_none : (share : ℕ → ℕ) (n : ℕ) → ((i : ℕ) → i < n → share i ≡ 0) → total share n ≡ 0
total_none share zero none = refl
total_none share (suc n) none =
    let rest = total_none share n (λ i l. none i (omega (arith, l))) in let last = none n (omega arith) in omega (arith, rest, last)

total_one : (share : ℕ → ℕ) (i n : ℕ) → ((j : ℕ) → j ≢ i → share j ≡ 0) → total share n ≤ share i
total_one share i zero others = omega arith
total_one share i (suc n) others = ⊎_elim
    (λ (here : n ≡ i).
    let rest = total_none share n (λ j l. others j (λ same. absurd (omega (arith, same, here, l)))) in let last = ap share here
    in omega (arith, rest, last))
    (λ (apart : n ≢ i). let rest = total_one share i n others in let last = others n apart in omega (arith, rest, last))
    (cases_eq n i)

total_both : (first second share : ℕ → ℕ) → ((i : ℕ) → first i + second i ≡ share i) → (n : ℕ)
    → total first n + total second n ≡ total share n
total_both first second share both zero = refl
total_both first second share both (suc n) =
    let rest = total_both first second share both n in let last = both n in omega (arith, rest, last)

cond-both : (t : Bool) (s : ℕ) → cond t s 0 + cond t 0 s ≡ s
cond-both true s = omega arith
cond-both false s = omega arith

-- ---- rows

image-at_hand : (e : Elements) (P Q : ℕ → Type 0) (i j : ℕ) → (P j → Q j) → IsImageAtHand e P i j → IsImageAtHand e Q i j
image-at_hand e P Q i j f h =
    record { p = h.p; inverted = h.inverted; symmetry = h.symmetry; other = h.other; number = h.number; there = f h.there }

by_step-fewer : (e : Elements) (P Q : ℕ → Type 0) (i : ℕ) → ((j : ℕ) → P j → Q j) → IsMadeByStep e Q i → IsMadeByStep e P i
by_step-fewer e P Q i f h = record { some = h.some; alone = λ j image. h.alone j (image-at_hand e P Q i j (f j) image) }

-- no row is new
pub counted-none : (a : Holding) → AreRowsCounted a a
counted-none a share are n =
    let none : total share n ≡ 0 = total_none share n (λ i l. ⊎_elim (λ (zero_here : share i ≡ 0). zero_here)
    (λ (x : IsShare a a i (share i)). absurd (x.row.before x.row.there)) (are i))
    in omega (arith, none)

-- one may be new
pub counted-one : (a b : Holding) (i : ℕ) → ((j : ℕ) → j ≢ i → HasRow b j → HasRow a j) → ((j : ℕ) → HasRow a j → HasRow b j)
    → counted a.steps 0 ≤ b.steps
    → (HasRow b i → (HasRow a i → ⊥) → IsMadeByStep a.elements (HasRow a) i → IsCounted a.elements i a.steps b.steps)
    → AreRowsCounted a b
counted-one a b i others kept rises made share are n =
    let most : total share n ≤ share i = total_one share i n (λ j apart. ⊎_elim (λ (none : share j ≡ 0). none)
    (λ (x : IsShare a b j (share j)). absurd (x.row.before (others j apart x.row.there))) (are j))
    in ⊎_elim (λ (none : share i ≡ 0). omega (arith, most, none, rises))
    (λ (x : IsShare a b i (share i)).
    let some = made x.row.there x.row.before (by_step-fewer a.elements (HasRow a) (HasRow b) i kept x.row.by_step) x.extremal x.are
    in omega (arith, most, some, x.few))
    (are i)

-- some from a to b, and some from b to c
module _ (a b c : Holding) (elements : b.elements ≡ a.elements) (later : (j : ℕ) → HasRow b j → HasRow c j) where
  new-first : (i : ℕ) → HasRow b i → IsNewByStep a c i → IsNewByStep a b i
  new-first i there n = record {
    before = n.before;
    there = there;
    by_step = by_step-fewer a.elements (HasRow b) (HasRow c) i later n.by_step;
  }

  new-second : (i : ℕ) → (HasRow b i → ⊥) → IsNewByStep a c i → IsNewByStep b c i
  new-second i before n = record { before = before; there = n.there; by_step = rw elements n.by_step }

  share-first : (i s : ℕ) (t : Bool) → slice_index_or b.holds i false ≡ t → (s ≡ 0) ⊎ IsShare a c i s
      → (cond t s 0 ≡ 0) ⊎ IsShare a b i (cond t s 0)
  share-first i s false is h = inl refl
  share-first i s true is h = ⊎_elim (λ (none : s ≡ 0). inl none)
      (λ (x : IsShare a c i s). inr (record { row = new-first i is x.row; extremal = x.extremal; are = x.are; few = x.few })) h

  share-second : (i s : ℕ) (t : Bool) → slice_index_or b.holds i false ≡ t → (s ≡ 0) ⊎ IsShare a c i s
      → (cond t 0 s ≡ 0) ⊎ IsShare b c i (cond t 0 s)
  share-second i s true is h = inl refl
  share-second i s false is h = ⊎_elim (λ (none : s ≡ 0). inl none)
      (λ (x : IsShare a c i s). inr (record {
        row = new-second i (both_ways (slice_index_or b.holds i false) is) x.row;
        extremal = x.extremal;
        are = rw elements x.are;
        few = x.few;
      }))
      h

  pub counted-trans : AreRowsCounted a b → AreRowsCounted b c → AreRowsCounted a c
  counted-trans f h share are n =
      let one = f (λ i. cond (slice_index_or b.holds i false) (share i) 0)
      (λ i. share-first i (share i) (slice_index_or b.holds i false) refl (are i)) n
      in let two = h (λ i. cond (slice_index_or b.holds i false) 0 (share i))
      (λ i. share-second i (share i) (slice_index_or b.holds i false) refl (are i)) n
      in let both = total_both (λ i. cond (slice_index_or b.holds i false) (share i) 0)
      (λ i. cond (slice_index_or b.holds i false) 0 (share i)) share
      (λ i. cond-both (slice_index_or b.holds i false) (share i)) n
      in omega (arith, one, two, both)
