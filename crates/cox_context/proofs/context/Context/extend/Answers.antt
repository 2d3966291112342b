-- The union with the interval up to w, by the normal form of w.
use Rattle.std.proofs.Common.{refl, arith, rules, IfErr}
use Rattle.cox_base.specs.IntegerMatrix.{integer_matrix}
use Rattle.cox_reflect.proofs.NormalElements.{element-normal_form}
use Rattle.cox_reflect.proofs.Search.{length-normal_form}
use Rattle.cox_context.specs.FaultMeaning.{IsRefusal}
use Rattle.cox_context.specs.Union.{IsInUnion}
use Rattle.cox_context.proofs.UnionForms.{union-form, refusal-form}
use Rattle.cox_context.proofs.UnionSizes.{union-full}
use Rattle.cox_context.proofs.context.Context.extend.Goals as goal

pub extend_to-requires-clause-form : goal.extend_to-requires-clause-form
extend_to-requires-clause-form c = rw (c.normal_form-form.ensures.form, c.requires.matrix)
    (element-normal_form (integer_matrix c.args.self.now.matrix) c.len.ensures.admissible c.args.w.now.items)

pub returns-then-len-limit-clause-refused : goal.returns-then-len-limit-clause-refused
returns-then-len-limit-clause-refused c =
    let A = integer_matrix c.args.self.now.matrix
    in let g = c.len.ensures.admissible
    in let w = c.args.w.now.items
    in (
      refl,
      refl,
      rw c.requires.matrix (union-full A g w c.args.self.now.members c.len.ensures.closed
          (omega (arith, length-normal_form A g w, c.len-letters.ensures.value, c.len-letters.ensures.fits)) c.args.limit
          (omega (arith, c.if-len-limit.true, c.len.ensures.len))),
    )

pub returns-clause-members : goal.returns-clause-members
returns-clause-members c =
    rw c.requires.matrix (union-form (integer_matrix c.args.self.now.matrix) c.len.ensures.admissible c.normal_form-form.result.items
    c.args.w.now.items (rw c.requires.matrix at c.normal_form-form.ensures.form) c.args.self.now.members
    c.extend_to.new.self.members c.in_ok-extend_to.ensures.members)

pub returns-in_err-extend_to-clause-refused : goal.returns-in_err-extend_to-clause-refused
returns-in_err-extend_to-clause-refused c =
    let A = integer_matrix c.args.self.now.matrix
    in let form = c.normal_form-form.result.items
    in let told : IfErr c.from_residual.result (IsRefusal (IsInUnion A form c.args.self.now.members) c.args.limit) = search rules
    in rw c.requires.matrix (refusal-form A c.len.ensures.admissible form c.args.w.now.items
    (rw c.requires.matrix at c.normal_form-form.ensures.form) c.args.self.now.members c.args.limit c.from_residual.result told)
