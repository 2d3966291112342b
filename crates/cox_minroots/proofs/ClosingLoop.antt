-- The steps of all roots, one root after the other.
use Rattle.std.proofs.Common.{ℕ, ◌+◌, ◌≤◌, ◌<◌, ◌≡◌, List, length, ⊎_elim, arith}
use Rattle.std.proofs.lemmas.Bool.{cases_lt}
use Rattle.cox_base.specs.Matrix.{IsLetter}
use Rattle.cox_base.specs.IntegerMatrix.{IntegerMatrix}
use Rattle.cox_minroots.specs.declared.root.Root.{Root}
use Rattle.cox_minroots.specs.Closure.{AreSmall, HasSimple, HasStep, IsLonger}
use Rattle.cox_minroots.proofs.SmallRootLists.{HasStep-longer, HasSimple-longer}

-- the steps of the first i roots are done
pub record IsClosing (A : IntegerMatrix) (max : ℕ) (roots : List Root) (i : ℕ) : Type 0 where
  pub small : AreSmall A roots
  pub simple : HasSimple roots A.rank
  pub within : i ≤ length roots
  pub few : i ≤ max
  pub done : (k s : ℕ) → k < i → IsLetter A.rank s → HasStep A roots k s

pub closing-next : (A : IntegerMatrix) (max : ℕ) (old new : List Root) (i : ℕ) → IsClosing A max old i → i < length old → length old ≤ max
    → AreSmall A new → IsLonger old new → ((s : ℕ) → IsLetter A.rank s → HasStep A new i s) → IsClosing A max new (i + 1)
closing-next A max old new i h l few small longer steps = record {
  small = small;
  simple = HasSimple-longer old new A.rank longer h.simple;
  within = omega (arith, l, longer.longer);
  few = omega (arith, l, few);
  done = λ k s m ls. ⊎_elim (λ (before : k < i). HasStep-longer A old new k s longer (omega (arith, before, l)) (h.done k s before ls))
      (λ (after : i ≤ k). let e : k ≡ i = omega (arith, after, m) in rw e (steps s ls)) (cases_lt k i);
}
