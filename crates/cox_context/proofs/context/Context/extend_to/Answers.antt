-- What was appended is the union; after a fault it is taken away.
use Rattle.std.proofs.Common.{arith, refl}
use Rattle.cox_base.specs.IntegerMatrix.{integer_matrix}
use Rattle.cox_reflect.proofs.Search.{length-normal_form}
use Rattle.cox_reflect.proofs.NormalElements.{element-word, element-length}
use Rattle.cox_context.proofs.AppendedEnds.{kept-take, elements-back}
use Rattle.cox_context.proofs.UnionForms.{union-top}
use Rattle.cox_context.proofs.UnionSizes.{union-refused}
use Rattle.cox_context.proofs.context.Context.extend_to.Goals as goal

pub append_below-requires-clause-top : goal.append_below-requires-clause-top
append_below-requires-clause-top c =
    let A = integer_matrix c.args.self.now.matrix
    in let form = c.args.form.now.items
    in record {
      word = element-word A c.len-first.ensures.admissible form c.requires.form;
      reduced = element-length A c.len-first.ensures.admissible form c.requires.form;
      short = omega (arith, c.len-letters.ensures.value, c.len-letters.ensures.fits);
    }

pub cut_back-requires-clause-closed : goal.cut_back-requires-clause-closed
cut_back-requires-clause-closed c =
    let first = kept-take c.args.self.now.members c.append_below.new.self.members c.append_below.ensures.kept
    in rw (c.append_below.ensures.matrix, c.len-first.ensures.len, first) c.len-first.ensures.closed

pub returns-in-Err-clause-unchanged : goal.returns-in-Err-clause-unchanged
returns-in-Err-clause-unchanged c =
    elements-back c.args.self.now c.append_below.new.self c.cut_back.new.self c.append_below.ensures.matrix c.append_below.ensures.kept
    (rw c.len-first.ensures.len at c.cut_back.ensures)

pub returns-in-Err-clause-refused : goal.returns-in-Err-clause-refused
returns-in-Err-clause-refused c =
    let A = integer_matrix c.args.self.now.matrix
    in let g = c.len-first.ensures.admissible
    in let form = c.args.form.now.items
    in union-refused A g form c.args.self.now.members c.len-first.ensures.closed
    (omega (arith, length-normal_form A g form, c.len-letters.ensures.value, c.len-letters.ensures.fits)) c.args.limit c.in-Err.fault
    c.in-Err.ensures.refused

pub unreachable-requires : goal.unreachable-requires
unreachable-requires c =
    c.in-None.ensures (union-top (integer_matrix c.args.self.now.matrix) c.len-first.ensures.admissible c.args.form.now.items
    c.requires.form c.args.self.now.members c.append_below.new.self.members (c.in_default.ensures {u = tt}).members)

pub returns-in-Err-clause-kept : goal.returns-in-Err-clause-kept
returns-in-Err-clause-kept c =
    let back = elements-back c.args.self.now c.append_below.new.self c.cut_back.new.self c.append_below.ensures.matrix
    c.append_below.ensures.kept (rw c.len-first.ensures.len at c.cut_back.ensures)
    in rw back (record { size = omega arith; word = λ i l. refl })
