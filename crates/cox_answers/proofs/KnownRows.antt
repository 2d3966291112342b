-- What is known of all rows that are kept stays known where rows are added: they were all there.
use Rattle.std.proofs.Common.{◌≡◌, ℕ, List, Option, None, Some, ◌∙◌}
use Rattle.cox_rows.specs.Ensured.{IsEnsured}
use Rattle.cox_rows.specs.Holding.{Holding}
use Rattle.cox_inverse.specs.declared.finite.LongestElement.{LongestElement}
use Rattle.cox_answers.specs.Kept.{IsMore, AreMore}
use Rattle.cox_answers.specs.KeptBetween.{HasAllRows, IsReadOff, AreReadOff}
use Rattle.cox_answers.specs.declared.kept_rows.WholeGroup.{WholeGroup}
use Rattle.cox_answers.specs.declared.kept_rows.WholeGroup.TheVariants.{NotLookedFor, LookedFor}

-- the rows of the same members, and maybe more
module _ (old new : Holding) (more : IsMore old new) where
  still-all : HasAllRows old → HasAllRows new
  still-all all = record {
    there = λ i within. more.there i (all.there i (rw more.same.elements at within));
    small = rw (more.same.elements, more.same.limit) all.small;
  }

  still-read_off : (w0 : LongestElement) → IsReadOff old w0 → IsReadOff new w0
  still-read_off w0 read = record {
    readable = record {
      longest = rw more.same.elements read.readable.longest;
      there = λ i within. more.there i (read.readable.there i (rw more.same.elements at within));
      small = rw (more.same.elements, more.same.limit) read.readable.small;
    };
    small = rw (more.same.elements, more.same.limit) read.small;
  }

  pub still-known : (whole : WholeGroup) → AreReadOff (Some old) whole → AreReadOff (Some new) whole
  still-known NotLookedFor known = tt
  still-known (LookedFor None) known = (still-all known.0, tt)
  still-known (LookedFor (Some w0)) known = (still-all known.0, still-read_off w0 known.1)

-- what was taken out is known of the same
pub known-taken : (kept : Option Holding) (rows : Holding) (whole : WholeGroup) → kept ≡ Some rows → AreReadOff kept whole
    → AreReadOff (Some rows) whole
known-taken kept rows whole is known = rw is at known

pub more-trans : (old mid new : Holding) → IsMore old mid → IsMore mid new → IsMore old new
more-trans old mid new first second = record {
  same = record {
    elements = second.same.elements ∙ first.same.elements;
    limit = second.same.limit ∙ first.same.limit;
  };
  there = λ i held. second.there i (first.there i held);
}

-- the rows that one needs were made
pub more-ensured : (old mid new : Holding) (w : List ℕ) → IsMore old mid → IsEnsured w mid new → IsMore old new
more-ensured old mid new w first ensured = more-trans old mid new first
    (record { same = record { elements = ensured.elements; limit = ensured.limit }; there = ensured.kept })

-- so what was kept is kept
pub are-more : (kept : Option Holding) (old new : Holding) → kept ≡ Some old → IsMore old new → AreMore kept (Some new)
are-more kept old new is more = rw is more
