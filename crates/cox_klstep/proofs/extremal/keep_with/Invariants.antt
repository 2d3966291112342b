-- The letters before the one at hand are done.
use Rattle.std.proofs.Common.{◌≡◌, ℕ, ◌*◌, ◌<◌, ◌↔◌, length}
use Rattle.cox_klstep.specs.DescentBits.{HasBit, HasLetters}
use Rattle.cox_klstep.proofs.extremal.keep_with.Given as goal

abbrev pub invariant-loop-k : goal.invariant-loop-k
invariant-loop-k l = record {
  size : length l.words ≡ length l.initial.words;
  kept : (y : ℕ) → y < 64 * length l.initial.words
      → HasBit l.words y ↔ (HasBit l.initial.words y × HasLetters l.letters l.set l.k y);
}
