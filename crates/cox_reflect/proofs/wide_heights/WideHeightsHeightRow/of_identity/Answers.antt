-- Each simple root has the height 1.
use Rattle.std.proofs.Common.{◌-◌, pos, sym, ◌∙◌, arith}
use Rattle.std.proofs.lemmas.List.{get_or-replicate}
use Rattle.cox_base.specs.declared.limits.TheConstants.{MAX_RANK}
use Rattle.cox_reflect.proofs.HeightsUnderLetters.{height-nil}
use Rattle.cox_reflect.proofs.wide_heights.WideHeightsHeightRow.of_identity.Goals as goal

pub returns : goal.returns
returns c = λ A limit. record {
  each = λ t l. get_or-replicate MAX_RANK (t - 1) (pos 1) (pos 0) (omega (arith, limit, l.from_one, l.to_rank))
      ∙ sym (height-nil A t l);
}
