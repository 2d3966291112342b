-- The members behind x, one after the other.
use Rattle.std.proofs.Common.{◌≡◌, suc, ◌+◌, ◌-◌, ◌<◌, [], length, ◌∙◌, arith}
use Rattle.std.proofs.lemmas.List.{get_or_read}
use Rattle.cox_base.specs.IntegerMatrix.{integer_matrix}
use Rattle.cox_context.specs.Numbers.{word_at}
use Rattle.cox_row.specs.Polynomials.{polynomial_at}
use Rattle.cox_inverse.specs.NumberedInverses.{number_before}
use Rattle.cox_inverse.proofs.RecursionSums.{inverse-degree_below, off-all}
use Rattle.cox_inverse.proofs.SummedMembers.{read-number, member-short, read-member, read-pair, numbers-few, off-member}
use Rattle.cox_inverse.proofs.sums.sum_up.Goals as goal
use Rattle.cox_inverse.proofs.sums.sum_up.Goals.{After-index-x, After-index-z, After-view}

-- the member x, and a member z behind it
at_x : (g : _) (c : After-index-x g)
    → c.index-x.result.now ≡ number_before c.args.interval.now.members.items (length c.args.polynomials.now)
at_x g c = read-number c.args.interval.now.members.items c.len-last.result (length c.args.polynomials.now) c.index-x.result.now
    (omega (arith, c.len-last.ensures, c.args.interval.now.members.ok)) c.requires.more c.index-x.ensures

x_member : (g : _) (c : After-index-x g) → c.index-x.result.now < length c.args.ctx.now.members
x_member g c = read-member c.args.ctx.now c.len-len.ensures.admissible c.len-len.ensures.closed c.args.interval.now.bottom
    c.args.interval.now.top c.requires.interval.top_member c.args.interval.now.members.items c.requires.interval.between
    (length c.args.polynomials.now) c.index-x.result.now c.requires.more (at_x g c)

z_place : (g : _) (c : After-index-z g) → c.loop-j.j < length c.args.interval.now.members.items
z_place g c = omega (arith, c.loop-j-test.true, c.requires.more)

at_z : (g : _) (c : After-index-z g) → c.index-z.result.now ≡ number_before c.args.interval.now.members.items c.loop-j.j
at_z g c = read-number c.args.interval.now.members.items c.len-last.result c.loop-j.j c.index-z.result.now
    (omega (arith, c.len-last.ensures, c.args.interval.now.members.ok)) (z_place g c) c.index-z.ensures

z_member : (g : _) (c : After-index-z g) → c.index-z.result.now < length c.args.ctx.now.members
z_member g c = read-member c.args.ctx.now c.len-len.ensures.admissible c.len-len.ensures.closed c.args.interval.now.bottom
    c.args.interval.now.top c.requires.interval.top_member c.args.interval.now.members.items c.requires.interval.between c.loop-j.j
    c.index-z.result.now (z_place g c) (at_z g c)

-- the polynomial Q(z,w), as it is read
r_is : (g : _) (c : After-view g) → c.view.result ≡ polynomial_at c.args.polynomials.now c.loop-j.j
r_is g c = c.view.ensures ∙ get_or_read c.args.polynomials.now _ _ c.loop-j-test.true c.index-polynomials-j.is []

pub take_off_member-requires-clause-r_degree : goal.take_off_member-requires-clause-r_degree
take_off_member-requires-clause-r_degree g c =
    rw (r_is g (goal.at.take_off_member-requires-clause-r_degree g c).After-view)
    (inverse-degree_below (integer_matrix c.args.ctx.now.matrix) c.len-len.ensures.admissible (word_at c.args.ctx.now.members
    (number_before c.args.interval.now.members.items c.loop-j.j)) (word_at c.args.ctx.now.members c.args.interval.now.top)
    (polynomial_at c.args.polynomials.now c.loop-j.j)
    (member-short c.args.ctx.now c.len-len.ensures.admissible c.len-len.ensures.closed c.args.interval.now.top
    c.requires.interval.top_member)
    (c.requires.inverses.value c.loop-j.j c.loop-j-test.true))

pub take_off_member-requires-clause-small : goal.take_off_member-requires-clause-small
take_off_member-requires-clause-small g c =
    let at = goal.at.take_off_member-requires-clause-small g c
    in λ b.
    c.requires.small c.index-x.result.now c.index-z.result.now (read-pair c.args.ctx.now c.len-len.ensures.admissible
    c.len-len.ensures.closed c.args.interval.now.bottom c.args.interval.now.top c.requires.interval.top_member
    c.args.interval.now.members.items c.requires.interval.between (length c.args.polynomials.now) c.loop-j.j c.index-x.result.now
    c.index-z.result.now c.requires.more (z_place g at.After-index-z) (at_x g at.After-index-x) (at_z g at.After-index-z) b)

pub take_off_member-requires-clause-r_small : goal.take_off_member-requires-clause-r_small
take_off_member-requires-clause-r_small g c =
    rw (r_is g (goal.at.take_off_member-requires-clause-r_small g c).After-view)
    (c.requires.inverses.within c.loop-j.j c.loop-j-test.true)

pub take_off_member-requires-clause-room : goal.take_off_member-requires-clause-room
take_off_member-requires-clause-room g c = λ k.
    omega (
      arith,
      c.loop-j.invariant.size k,
      c.loop-j-test.true,
      c.requires.more,
      numbers-few c.args.ctx.now c.len-len.ensures.admissible c.len-len.ensures.closed c.args.interval.now.bottom
          c.args.interval.now.top c.requires.interval.top_member c.args.interval.now.members.items c.requires.interval.between,
      c.len-len.ensures.closed.few,
    )

pub loop-j-preserved : goal.loop-j-preserved
loop-j-preserved g c =
    let at = goal.at.loop-j-preserved g c
    in let off = c.take_off_member.ensures.off
    in record {
      off = off-member c.args.ctx.now c.len-len.ensures.admissible c.len-len.ensures.closed c.args.interval.now.bottom
          c.args.interval.now.top c.requires.interval.top_member c.args.interval.now.members.items c.requires.interval.between
          c.index-x.result.now c.index-z.result.now c.loop-j.j (c.loop-j.j + 1) c.view.result
          (polynomial_at c.args.polynomials.now c.loop-j.j) c.loop-j.sums c.take_off_member.new.sums (omega arith)
          (x_member g at.After-index-x) (z_member g at.After-index-z) (at_z g at.After-index-z) (r_is g at.After-view)
          (c.requires.inverses.value c.loop-j.j c.loop-j-test.true) off c.loop-j.invariant.off;
      size = λ k. omega (arith, c.take_off_member.ensures.size k, c.loop-j.invariant.size k);
    }

pub returns : goal.returns
returns g c =
    let all : c.loop-j.j ≡ length c.args.polynomials.now = omega (arith, c.loop-j-test.false, c.loop-j.auto.j-end)
    in off-all c.args.ctx.now c.len-len.ensures.admissible c.len-len.ensures.closed c.args.interval.now.bottom c.args.interval.now.top
    c.requires.interval.top_member c.args.interval.now.members.items c.requires.interval.between (length c.args.polynomials.now)
    c.requires.some c.requires.more c.loop-j.sums
    (rw (all, at_x g (goal.at.returns g c).After-index-x) at c.loop-j.invariant.off)

pub loop-j-init : goal.loop-j-init
loop-j-init g c = record { off = λ _ k. c.clear.ensures k; size = λ k. rw (c.clear.ensures k) (omega arith) }

pub row-requires-clause-member : goal.row-requires-clause-member
row-requires-clause-member g c = rw c.requires.lower (z_member g (goal.at.row-requires-clause-member g c).After-index-z)

pub row-requires-clause-there : goal.row-requires-clause-there
row-requires-clause-there g c =
    let at = (goal.at.row-requires-clause-there g c).After-index-z
    in rw (at_z g at) (c.requires.rows (length c.args.interval.now.members.items - suc c.loop-j.j) (omega (arith, z_place g at)))

pub take_off_member-requires-clause-z : goal.take_off_member-requires-clause-z
take_off_member-requires-clause-z g c = z_member g (goal.at.take_off_member-requires-clause-z g c).After-index-z

pub take_off_member-requires-clause-x : goal.take_off_member-requires-clause-x
take_off_member-requires-clause-x g c = x_member g (goal.at.take_off_member-requires-clause-x g c).After-index-x
