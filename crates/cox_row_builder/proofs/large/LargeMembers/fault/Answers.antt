-- The first member that has the polynomial of a large one.
use Rattle.std.proofs.Common.{◌≡◌, ℕ, Ok, Err, true, ◌<◌, ◌≤◌, ◌==◌, length, ap, ◌∙◌, ⊎_elim, arith}
use Rattle.std.specs.Vec.{vec_len}
use Rattle.std.proofs.lemmas.Bool.{cases_lt}
use Rattle.std.proofs.lemmas.List.{get_or_read}
use Rattle.cox_base.specs.IntegerMatrix.{integer_matrix}
use Rattle.cox_context.specs.Numbers.{word_at}
use Rattle.cox_row.proofs.Raising.{stands-refl}
use Rattle.cox_row.proofs.RisingNumbers.{found-rising}
use Rattle.cox_row_builder.proofs.LargeCoefficients.{outside-none}
use Rattle.cox_row_builder.proofs.LargeFound.{fault-first, fault-none}
use Rattle.cox_row_builder.proofs.large.LargeMembers.fault.Goals as goal
use Rattle.cox_row_builder.proofs.large.LargeMembers.fault.Goals.{in-Some+in_default-binary_search, in_default}

pub returns-in-Ok-clause-some : goal.returns-in-Ok-clause-some
returns-in-Ok-clause-some c = λ limit least are.
    let found = found-rising c.args.self.now.numbers.items c.in-Some.top (Ok c.in-Ok.k) are.rising
    (rw c.deref.ensures.value at c.in-Ok.ensures.position)
    in rw c.fault_at.ensures (fault-first (integer_matrix c.args.ctx.now.matrix) c.len-len.ensures.admissible c.args.ctx.now.members
    c.len-len.ensures.closed c.args.i c.requires.i limit least c.args.self.now.numbers.items c.args.self.now.coefficients.items are
    c.loop-x.x c.in-Ok.k found.0 (rw found.1 c.in-Some.ensures.2) (c.loop-x.invariant limit least are))

pub loop-x-preserved : goal.loop-x-preserved
loop-x-preserved c = λ limit least are z k n l large. ⊎_elim
    (λ (less : z < c.loop-x.x). c.loop-x.invariant limit least are z k n less large)
    (λ (more : c.loop-x.x ≤ z).
    let is : z ≡ c.loop-x.x = omega arith
    in elim c.match-raise_fully.branch [
      | in-Some+in_default-binary_search w ↦
          let none = found-rising c.args.self.now.numbers.items w.in-Some.top (Err w.in_default-binary_search.field-0) are.rising
          (rw w.deref.ensures.value at w.in_default-binary_search.ensures.position)
          in fault-none (integer_matrix c.args.ctx.now.matrix) c.len-len.ensures.admissible c.args.ctx.now.members
          c.len-len.ensures.closed c.args.i c.requires.i limit least c.args.self.now.numbers.items c.args.self.now.coefficients.items are
          c.loop-x.x w.in-Some.top w.in-Some.ensures.0 w.in-Some.ensures.1 w.in-Some.ensures.2 none k n (rw is at large)
      | in_default w ↦ outside-none (integer_matrix c.args.ctx.now.matrix) c.len-len.ensures.admissible limit
          (word_at c.args.ctx.now.members c.loop-x.x) (word_at c.args.ctx.now.members c.args.i) least w.in_default.ensures k n
          (rw is at large)
    ])
    (cases_lt z c.loop-x.x)

pub returns-clause-some : goal.returns-clause-some
returns-clause-some c = λ limit least are.
    let some : 0 < length c.args.self.now.numbers.items = ⊎_elim (λ (l : 0 < length c.args.self.now.numbers.items). l)
    (λ (l : length c.args.self.now.numbers.items ≤ 0).
    let none : vec_len c.args.self.now.numbers ≡ 0 = omega (arith, l, c.args.self.now.numbers.ok)
    in let yes : c.is_empty.result ≡ true = c.is_empty.ensures ∙ ap (λ (n : ℕ). n == 0) none
    in absurd (cc (c.if-is_empty.false)))
    (cases_lt 0 (length c.args.self.now.numbers.items))
    in let first = get_or_read c.args.self.now.numbers.items _ _ some c.index-first.ensures 0
    in rw c.fault_at-2.ensures (fault-first (integer_matrix c.args.ctx.now.matrix) c.len-len.ensures.admissible c.args.ctx.now.members
    c.len-len.ensures.closed c.args.i c.requires.i limit least c.args.self.now.numbers.items c.args.self.now.coefficients.items are
    _ 0 some (rw first (stands-refl (integer_matrix c.args.ctx.now.matrix) c.len-len.ensures.admissible _ _))
    (λ z k n l. c.loop-x.invariant limit least are z k n (omega (arith, l, c.loop-x-test.false))))
