-- A context that has w already is its union with the interval of w; else it grows by the normal form of w.
use Rattle.std.proofs.Common.{◌≡◌, refl, Option, None, Some, IfSome, IfErr, length, arith, rules}
use Rattle.cox_base.specs.IntegerMatrix.{integer_matrix}
use Rattle.cox_base.specs.ShortLex.{normal_form}
use Rattle.cox_reflect.proofs.NormalElements.{element-normal_form}
use Rattle.cox_reflect.proofs.Search.{length-normal_form}
use Rattle.cox_context.specs.Closed.{Elements}
use Rattle.cox_context.specs.FaultMeaning.{IsRefusal}
use Rattle.cox_context.specs.Numbering.{IsNumberOf}
use Rattle.cox_context.specs.Spread.{AreKept}
use Rattle.cox_context.specs.Union.{IsInUnion}
use Rattle.cox_context.proofs.UnionForms.{union-form, refusal-form}
use Rattle.cox_context.proofs.UnionSizes.{union-full}
use Rattle.cox_klstep.specs.TablesOf.{AreTables, AreEarlierTables}
use Rattle.cox_klstep.specs.declared.tables.Tables.{Tables}
use Rattle.cox_rows.proofs.LargerContexts.{union-nothing_new, settled-kept}
use Rattle.cox_rows.proofs.rows.Rows.extend.Goals as goal

pub returns-then-before-limit-clause-refused : goal.returns-then-before-limit-clause-refused
returns-then-before-limit-clause-refused c =
    let A = integer_matrix c.args.self.now.elements.matrix
    in let g = c.context-context.ensures.admissible
    in let w = c.args.w.now.items
    in let len : c.len-before.result ≡ length c.args.self.now.elements.members
    = rw c.context-context.ensures.context at c.len-before.ensures.len
    in (
      refl,
      refl,
      rw c.requires.matrix (union-full A g w c.args.self.now.elements.members c.context-context.ensures.closed
          (omega (arith, length-normal_form A g w, c.len-letters.ensures.value, c.len-letters.ensures.fits)) c.args.limit
          (omega (arith, len, c.if-before-limit.true))),
    )

pub returns-in-Member-clause-members : goal.returns-in-Member-clause-members
returns-in-Member-clause-members c =
    let found : IsNumberOf c.args.self.now.elements.members
    (normal_form (integer_matrix c.args.self.now.elements.matrix) c.args.w.now.items) (Some c.in-Member.i)
    = rw (c.context-context.ensures.context, c.requires.matrix) at (c.in-Member.ensures {u = tt})
    in rw c.requires.matrix (union-nothing_new (integer_matrix c.args.self.now.elements.matrix) c.context-context.ensures.admissible
    c.args.self.now.elements.members c.context-context.ensures.closed c.args.w.now.items c.in-Member.i found)

pub extend-requires-clause-form : goal.extend-requires-clause-form
extend-requires-clause-form c = rw (c.self.view_is, (c.in-Outside.ensures {u = tt}).1, c.requires.matrix)
    (element-normal_form (integer_matrix c.args.self.now.elements.matrix) c.context-context.ensures.admissible c.args.w.now.items)

pub returns-in_err-i-in-Outside-clause-refused : goal.returns-in_err-i-in-Outside-clause-refused
returns-in_err-i-in-Outside-clause-refused c =
    let A = integer_matrix c.args.self.now.elements.matrix
    in let members = c.args.self.now.elements.members
    in let form = c.in-Outside.form.items
    in let told : IfErr c.from_residual.result (IsRefusal (IsInUnion (integer_matrix c.self.inside.held.elements.matrix) form
    c.self.inside.held.elements.members) c.args.limit) = search rules
    in rw c.requires.matrix (refusal-form A c.context-context.ensures.admissible form c.args.w.now.items
    (rw c.requires.matrix at (c.in-Outside.ensures {u = tt}).1) members c.args.limit c.from_residual.result (rw c.self.view_is at told))

-- tables of a context are those of an earlier one, once it has grown
earlier : (old new : Elements) (tables : Option Tables) → new.matrix ≡ old.matrix → AreKept old.members new.members
    → IfSome tables (AreTables old) → IfSome tables (AreEarlierTables new)
earlier old new None same kept none = none
earlier old new (Some tables) same kept are = record { earlier = old; matrix = same; kept = kept; were = are }

pub grown-requires : goal.grown-requires
grown-requires c = rw (c.take.ensures.value, c.context.ensures.context) (earlier c.self.inside.held.elements c.extend.new.self.elements
    c.self.inside.tables c.extend.ensures.matrix c.extend.ensures.kept c.self.invariant.usable)

pub returns-in_ok-i-in-Outside-clause-members : goal.returns-in_ok-i-in-Outside-clause-members
returns-in_ok-i-in-Outside-clause-members c =
    let are = (c.in_ok-i-in-Outside.ensures {u = tt}).members
    in rw c.requires.matrix (union-form (integer_matrix c.args.self.now.elements.matrix) c.context-context.ensures.admissible
    c.in-Outside.form.items c.args.w.now.items (rw c.requires.matrix at (c.in-Outside.ensures {u = tt}).1)
    c.args.self.now.elements.members c.extend.new.self.elements.members (rw c.self.view_is at are))

-- settled members stay settled
pub invariant_of-self-in-Outside : goal.invariant_of-self-in-Outside
invariant_of-self-in-Outside c =
    let same : c.extend.new.self.elements.matrix ≡ c.args.self.now.elements.matrix = rw c.self.view_is at c.extend.ensures.matrix
    in record {
      known = λ i t. settled-kept c.args.self.now c.extend.new.self c.context-context.ensures.admissible c.context-context.ensures.closed
          (rw same at c.context.ensures.closed) same (rw c.self.view_is at c.extend.ensures.limit)
          (rw c.self.view_is at c.extend.ensures.kept) (rw c.self.view_is at c.extend.ensures.holds) i
          (rw c.self.view_is at (c.self.invariant.known i t));
      usable = rw c.context.ensures.context at c.grown.ensures;
    }
