-- A letter more.
use Rattle.std.proofs.Common.{◌/◌, length, refl, ◌∙◌, arith}
use Rattle.std.proofs.lemmas.Nat.{bit_set_by_shift}
use Rattle.std.proofs.lemmas.Option.{slice_get_read}
use Rattle.cox_klstep.proofs.WordBits.{letter-kept, letter-passed}
use Rattle.cox_klstep.proofs.extremal.keep_with.Goals as goal
use Rattle.cox_klstep.proofs.extremal.keep_with.Goals.{then-set-k-eq1, else-set-k-eq1}

pub loop-k-preserved : goal.loop-k-preserved
loop-k-preserved c =
    let letters = c.args.letters.now
    in let was = c.loop-k.invariant
    in elim c.if-set-k-eq1.branch [
      | then-set-k-eq1 w ↦ rw w.words-is record {
        size = w.keep_common.ensures.size ∙ was.size;
        kept = λ y l. letter-kept letters c.args.set c.loop-k.k y c.args.words.now c.loop-k.words (was.kept y l)
            w.index-letters-k.result w.keep_common.new.words
            (slice_get_read letters (length letters) c.loop-k.k w.index-letters-k.result refl c.loop-k-test.true w.index-letters-k.is)
            (rw w.deref.ensures.value at (w.keep_common.ensures.each (y / 64) (omega (arith, l, was.size))))
            ((bit_set_by_shift c.args.set c.loop-k.k).0 w.if-set-k-eq1.true);
      }
      | else-set-k-eq1 w ↦ rw w.words-is record {
        size = was.size;
        kept = λ y l. letter-passed letters c.args.set c.loop-k.k y c.args.words.now c.loop-k.words (was.kept y l)
            (λ set. w.if-set-k-eq1.false ((bit_set_by_shift c.args.set c.loop-k.k).1 set));
      }
    ]
