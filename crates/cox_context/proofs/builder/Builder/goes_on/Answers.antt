-- A letter lengthens one of the longest members exactly where its shift is no member.
use Rattle.std.proofs.Common.{◌≡◌, ◌≤◌, ◌<◌, length, arith, sym, ◌∙◌, ⊎_elim}
use Rattle.std.proofs.lemmas.Bool.{cases_lt, false≢true}
use Rattle.cox_base.specs.IntegerMatrix.{integer_matrix}
use Rattle.cox_reflect.proofs.Admissible.{IsAdmissible-integer_matrix}
use Rattle.cox_context.proofs.Shifting.{lacking-ascent, shifted-descent}
use Rattle.cox_context.proofs.BuilderTables.{builder-seen}
use Rattle.cox_context.proofs.builder.Builder.goes_on.Goals as goal

pub returns-then-lacks_shift-clause-yes : goal.returns-then-lacks_shift-clause-yes
returns-then-lacks_shift-clause-yes c =
    let b = builder-seen c.self.view_is c.self.invariant
    in let A = integer_matrix c.args.self.now.search.matrix
    in let g = IsAdmissible-integer_matrix c.args.self.now.search.matrix b.matrix
    in let within : c.loop-i.i < length c.args.self.now.members = omega (arith, c.len-i-end.ensures.len)
    in let found = rw (c.rank-rank.ensures.rank, c.as_slice.ensures.value) at (c.lacks_shift.ensures.yes c.if-lacks_shift.true)
    in λ yes. (
      c.loop-i.i,
      found.0,
      c.loop-i.auto.i,
      within,
      found.1,
      lacking-ascent A g c.args.self.now.members b.closed found.0 c.loop-i.i _ within (b.left.shift found.0 c.loop-i.i found.1 within)
          found.2,
    )

pub loop-i-preserved : goal.loop-i-preserved
loop-i-preserved c =
    let b = builder-seen c.self.view_is c.self.invariant
    in let A = integer_matrix c.args.self.now.search.matrix
    in let g = IsAdmissible-integer_matrix c.args.self.now.search.matrix b.matrix
    in let within : c.loop-i.i < length c.args.self.now.members = omega (arith, c.len-i-end.ensures.len)
    in let all = rw (c.rank-rank.ensures.rank, c.as_slice.ensures.value) at
    (c.lacks_shift.ensures.no (λ yes. absurd (false≢true (sym c.if-lacks_shift.false ∙ yes))))
    in λ i s from to l. ⊎_elim (λ (below : i < c.loop-i.i). c.loop-i.invariant i s from below l)
    (λ (above : c.loop-i.i ≤ i). let e : i ≡ c.loop-i.i = omega (arith, to, above) in rw e (shifted-descent A g c.args.self.now.members
    b.closed s c.loop-i.i _ l within (λ k m. c.requires.longest c.loop-i.i k c.loop-i.auto.i within m)
    (b.left.shift s c.loop-i.i l within) (all s l)))
    (cases_lt i c.loop-i.i)
