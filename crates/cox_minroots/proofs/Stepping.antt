-- The steps of one root, letter by letter.
use Rattle.std.proofs.Common.{◌≡◌, ℕ, ◌+◌, ◌-◌, ◌*◌, ◌≤◌, ◌<◌, List, [], ◌∷◌, ◌++◌, length, get_or, set, Contains, ⊎_elim, arith}
use Rattle.std.specs.Prelude.{Result, Ok, Err, OnErr}
use Rattle.std.proofs.lemmas.List.{length-append}
use Rattle.std.proofs.lemmas.Bool.{cases_lt}
use Rattle.cox_base.specs.declared.limits.TheConstants.{MAX_RANK}
use Rattle.cox_minroots.specs.declared.closure.TheConstants.{MAX_SMALL_ROOTS}
use Rattle.cox_base.specs.Matrix.{CoxeterMatrix, IsLetter}
use Rattle.cox_base.specs.Admissible.{IsCoxeterMatrix, IsAdmissible}
use Rattle.cox_base.specs.IntegerMatrix.{IntegerMatrix, integer_matrix}
use Rattle.cox_reflect.specs.Transpose.{transposed}
use Rattle.cox_reflect.proofs.Admissible.{IsAdmissible-integer_matrix}
use Rattle.cox_minroots.specs.declared.root.Root.{Root}
use Rattle.cox_minroots.specs.Coordinates.{weight, rise, CanTurn}
use Rattle.cox_small.specs.SmallRoots.{HasMoreSmallRoots}
use Rattle.cox_minroots.specs.RootLists.{root_at, IsInserted, last}
use Rattle.cox_minroots.specs.Closure.{AreSmall, HasStep, IsLonger}
use Rattle.cox_minroots.proofs.SmallRootLists.{longer-refl, longer-trans, longer-inserted, inserted-length, HasStep-longer, passed}
use Rattle.cox_minroots.proofs.SmallRootLists.{can_turn, added, more-than}

-- what holds where the next root has no room
pub on_err : {X E P : Type 0} (r : Result X E) → P → OnErr r P
on_err (Ok x) p = tt
on_err (Err e) p = p

-- the letters below s are done
pub record IsStepping (A : IntegerMatrix) (old new : List Root) (i s : ℕ) : Type 0 where
  pub small : AreSmall A new
  pub longer : IsLonger old new
  pub within : i < length new
  pub few : length new + 1 ≤ length old + s
  pub done : (q : ℕ) → IsLetter A.rank q → q < s → HasStep A new i q

pub stepping-start : (A : IntegerMatrix) (old : List Root) (i : ℕ) → AreSmall A old → i < length old → IsStepping A old old i 1
stepping-start A old i h l = record {
  small = h;
  longer = longer-refl old;
  within = l;
  few = omega arith;
  done = λ q k m. absurd (omega (arith, k.from_one, m));
}

module _ (x : CoxeterMatrix) (matrix : IsCoxeterMatrix x) (fits : x.rank ≤ MAX_RANK) (old new : List Root) (i s : ℕ)
    (h : IsStepping (integer_matrix x) old new i s) (ls : IsLetter x.rank s) (root : Root) (at : root ≡ root_at new i) where
  abbrev A : IntegerMatrix
  A = integer_matrix x

  g : IsAdmissible (integer_matrix x)
  g = IsAdmissible-integer_matrix x matrix

  -- the next letter, if s is done too
  next : (more : List Root) → IsLonger new more → length more ≤ length new + 1 → AreSmall A more → HasStep A more i s
      → IsStepping A old more i (s + 1)
  next more k size small has = record {
    small = small;
    longer = longer-trans h.longer k;
    within = omega (arith, h.within, k.longer);
    few = omega (arith, h.few, size);
    done = λ q lq l. ⊎_elim (λ before. HasStep-longer A new more i q k h.within (h.done q lq before))
        (λ (after : s ≤ q). let e : q ≡ s = omega (arith, after, l) in rw e has) (cases_lt q s);
  }

  module _ (product : ℕ) (is : product ≡ rise (integer_matrix x) s root.root * rise (transposed (integer_matrix x)) s root.coroot)
      (few : length old ≤ MAX_SMALL_ROOTS) where
    room : length new < 20000
    room = omega (arith, h.few, few, ls.to_rank, fits)

    pub stepping-turns : 1 ≤ product → product ≤ 3 → CanTurn (integer_matrix x) s root.root
        × CanTurn (transposed (integer_matrix x)) s root.coroot
    stepping-turns m n =
        rw at (can_turn A g fits new h.small i h.within s ls (rw (is, at) at m) (rw (is, at) at n) room)

    pub stepping-passed : (1 ≤ product → product ≤ 3 → ⊥) → IsStepping (integer_matrix x) old new i (s + 1)
    stepping-passed never =
        next new (longer-refl new) (omega arith) h.small
        (passed A g fits new h.small i h.within s ls (λ m n. never (rw (is, at) m) (rw (is, at) n)))

    pub stepping-added : (r : Root)
        → r.root ≡ set root.root (s - 1) (weight (integer_matrix x) s root.root - 3 * get_or root.root (s - 1) 0)
        → r.coroot ≡ set root.coroot (s - 1) (weight (transposed (integer_matrix x)) s root.coroot - 3 * get_or root.coroot (s - 1) 0)
        → (more : List Root) → 1 ≤ product → product ≤ 3 → IsInserted new r more → IsStepping (integer_matrix x) old more i (s + 1)
    stepping-added r er ec more m n put =
        let both = added A g fits new h.small i h.within s ls r (rw at at er) (rw at at ec) (rw (is, at) at m) (rw (is, at) at n) room put
        in next more (longer-inserted put) (inserted-length put) both.0 both.1

    -- an image that is not there is one small root more
    pub stepping-lacks : (r : Root)
        → r.root ≡ set root.root (s - 1) (weight (integer_matrix x) s root.root - 3 * get_or root.root (s - 1) 0)
        → r.coroot ≡ set root.coroot (s - 1) (weight (transposed (integer_matrix x)) s root.coroot - 3 * get_or root.coroot (s - 1) 0)
        → 1 ≤ product → product ≤ 3 → (Contains new r → ⊥) → HasMoreSmallRoots (integer_matrix x) (length old)
    stepping-lacks r er ec m n lacks =
        let all = stepping-added r er ec (new ++ r ∷ []) m n (last lacks)
        in more-than A (length old) (new ++ r ∷ []) all.small (omega (arith, h.longer.longer, length-append new (r ∷ [])))
