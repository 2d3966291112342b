-- One letter more: the product is a member.
use Rattle.std.proofs.Common.{◌≡◌, take, sym, ◌∙◌}
use Rattle.std.proofs.lemmas.List.{append-nil, take_all}
use Rattle.cox_base.specs.IntegerMatrix.{integer_matrix}
use Rattle.cox_context.specs.Numbers.{word_at}
use Rattle.cox_context.proofs.Shifting.{element-at}
use Rattle.cox_inverse.proofs.TurnedMembers.{member-letter, turned-shift, turned-longer}
use Rattle.cox_inverse.proofs.finite.turned.Goals as goal

pub right-requires-clause-letter : goal.right-requires-clause-letter
right-requires-clause-letter c =
    let same : c.as_slice-s-items.result.now ≡ word_at c.args.ctx.now.members c.args.x = c.as_slice-s-items.ensures.value ∙
    c.word-word.ensures
    in rw same (member-letter c.args.ctx.now c.len-len.ensures.admissible c.len-len.ensures.closed c.args.longest c.requires.longest
    c.args.x
    c.requires.x c.loop-s.s-index (rw same at c.loop-s-test.true))

pub unreachable-requires : goal.unreachable-requires
unreachable-requires c = c.in-None.ensures
    (turned-shift c.args.ctx.now c.len-len.ensures.admissible c.len-len.ensures.closed c.args.longest c.requires.longest c.loop-s.at _
    (take c.loop-s.s-index c.as_slice-s-items.result.now) c.loop-s.invariant.word)

pub loop-s-init : goal.loop-s-init
loop-s-init c = record {
  inside = c.requires.longest.member;
  word = rw append-nil (sym (element-at (integer_matrix c.args.ctx.now.matrix) c.len-len.ensures.admissible c.args.ctx.now.members
      c.len-len.ensures.closed c.args.longest c.requires.longest.member).normal);
}

pub loop-s-preserved : goal.loop-s-preserved
loop-s-preserved c =
    let next = c.in-Some.ensures {u = tt}
    in record {
      inside = next.0;
      word = turned-longer c.args.ctx.now c.len-len.ensures.admissible c.len-len.ensures.closed c.args.longest c.requires.longest
          c.as_slice-s-items.result.now c.loop-s.s-index c.loop-s.at c.in-Some.next c.loop-s-test.true c.loop-s.invariant.word next.1;
    }

pub returns : goal.returns
returns c =
    let all : take c.loop-s.s-index c.as_slice-s-items.result.now ≡ word_at c.args.ctx.now.members c.args.x =
    take_all c.loop-s.s-index c.as_slice-s-items.result.now c.loop-s-test.false ∙ c.as_slice-s-items.ensures.value ∙ c.word-word.ensures
    in (c.loop-s.invariant.inside, rw (← all) c.loop-s.invariant.word)
