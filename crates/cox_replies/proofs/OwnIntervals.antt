-- Each element is in the interval from the identity to it.
use Rattle.std.proofs.Common.{List, ℕ, Contains}
use Rattle.cox_base.specs.IntegerMatrix.{IntegerMatrix}
use Rattle.cox_base.specs.Admissible.{IsAdmissible}
use Rattle.cox_base.specs.ShortLex.{normal_form}
use Rattle.cox_base.specs.Members.{IsInInterval}
use Rattle.cox_base.specs.SortedList.{IsListOf}
use Rattle.cox_reflect.proofs.Search.{normal_form-same}
use Rattle.cox_reflect.proofs.Bruhat.{below-refl}
use Rattle.cox_reflect.proofs.NormalElements.{element-normal_form}

module _ (A : IntegerMatrix) (g : IsAdmissible A) (w : List ℕ) where
  in_interval : IsInInterval A w (normal_form A w)
  in_interval = record { element = element-normal_form A g w; below = below-refl A g (normal_form-same A g w) }

  -- so it is one of the list of that interval
  pub interval-member : (members : List (List ℕ)) → IsListOf (IsInInterval A w) members → Contains members (normal_form A w)
  interval-member members are = are.whole (normal_form A w) in_interval
