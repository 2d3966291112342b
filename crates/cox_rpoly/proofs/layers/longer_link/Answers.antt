-- What the link says is what the calls ensure; each element that is taken up is a member.
use Rattle.cox_base.specs.IntegerMatrix.{IntegerMatrix, integer_matrix}
use Rattle.cox_reflect.proofs.Lengths.{IsReduced-tail}
use Rattle.cox_rpoly.specs.Layer.{IsInLayer}
use Rattle.cox_rpoly.proofs.LayerMembers.{HasGained-All, HasGained-Extends, HasGained-lacks, Extends-trans, IsInLayer-still}
use Rattle.cox_rpoly.proofs.LayerMembers.{IsInLayer-times, IsShortElement-times, if_err}
use Rattle.cox_rpoly.proofs.layers.longer_link.Goals as goal

pub is_below-requires-clause-reduced : goal.is_below-requires-clause-reduced
is_below-requires-clause-reduced g c =
    let A : IntegerMatrix = integer_matrix (g.W.Words.matrix c.args.words.now)
    in IsReduced-tail A c.requires.admissible c.args.s c.args.rest.now c.requires.reduced

pub is_below-requires-clause-short : goal.is_below-requires-clause-short
is_below-requires-clause-short g c =
    let A : IntegerMatrix = integer_matrix (g.W.Words.matrix c.args.words.now)
    in IsShortElement-times g.E.Element.is_of A c.requires.admissible c.args.s c.args.rest.now c.args.x.now c.args.moved
    (g.W.Words.longest c.args.words.now) c.requires.reduced c.requires.short c.requires.member c.requires.ascent c.requires.times

pub returns-in-Some-false-clause-members : goal.returns-in-Some-false-clause-members
returns-in-Some-false-clause-members g c =
    let A : IntegerMatrix = integer_matrix (g.W.Words.matrix c.args.words.now)
    in HasGained-All (IsInLayer g.E.Element.is_of A c.args.rest.now) c.args.next.now.keys c.number.new.layer.keys c.args.x.now
    (rw c.copied.ensures at c.in_ok-still.ensures.grown) c.requires.members
    (IsInLayer-still g.E.Element.is_of A c.requires.admissible c.args.s c.args.rest.now c.args.x.now c.requires.reduced c.requires.member
    c.requires.ascent)

pub returns-in-Some-false-clause-extends : goal.returns-in-Some-false-clause-extends
returns-in-Some-false-clause-extends g c =
    HasGained-Extends c.args.next.now.keys c.number.new.layer.keys c.args.x.now (rw c.copied.ensures at c.in_ok-still.ensures.grown)

pub returns-in_ok-number-in-Some-true-clause-members : goal.returns-in_ok-number-in-Some-true-clause-members
returns-in_ok-number-in-Some-true-clause-members g c =
    let A : IntegerMatrix = integer_matrix (g.W.Words.matrix c.args.words.now)
    in let still = HasGained-All (IsInLayer g.E.Element.is_of A c.args.rest.now) c.args.next.now.keys c.number.new.layer.keys c.args.x.now
    (rw c.copied.ensures at c.in_ok-still.ensures.grown) c.requires.members
    (IsInLayer-still g.E.Element.is_of A c.requires.admissible c.args.s c.args.rest.now c.args.x.now c.requires.reduced c.requires.member
    c.requires.ascent)
    in HasGained-All (IsInLayer g.E.Element.is_of A c.args.rest.now) c.number.new.layer.keys c.number-in-Some-true.new.layer.keys
    c.args.moved
    c.in_ok-number-in-Some-true.ensures.grown still
    (IsInLayer-times g.E.Element.is_of A c.requires.admissible c.args.s c.args.rest.now c.args.x.now c.args.moved c.requires.member
    c.requires.ascent c.requires.times
    (λ u e. (c.in-Some-true.ensures.below u e).0 c.in-Some-true.field-0-test))

pub returns-in_ok-number-in-Some-true-clause-extends : goal.returns-in_ok-number-in-Some-true-clause-extends
returns-in_ok-number-in-Some-true-clause-extends g c =
    Extends-trans c.args.next.now.keys c.number.new.layer.keys c.number-in-Some-true.new.layer.keys
    (HasGained-Extends c.args.next.now.keys c.number.new.layer.keys c.args.x.now (rw c.copied.ensures at c.in_ok-still.ensures.grown))
    (HasGained-Extends c.number.new.layer.keys c.number-in-Some-true.new.layer.keys c.args.moved
    c.in_ok-number-in-Some-true.ensures.grown)

pub returns-in_ok-number-in-Some-true-clause-link : goal.returns-in_ok-number-in-Some-true-clause-link
returns-in_ok-number-in-Some-true-clause-link g c = (
  record {
    ascent = c.requires.ascent;
    at = (HasGained-Extends c.number.new.layer.keys c.number-in-Some-true.new.layer.keys c.args.moved
        c.in_ok-number-in-Some-true.ensures.grown).kept
        c.in_ok-still.still c.args.x.now (rw c.copied.ensures at c.in_ok-still.ensures.at);
  },
  record { moved = c.args.moved; moves = c.requires.times; at = c.in_ok-number-in-Some-true.ensures.at },
)

pub returns-in_err-still-clause-fault : goal.returns-in_err-still-clause-fault
returns-in_err-still-clause-fault g c =
    let A : IntegerMatrix = integer_matrix (g.W.Words.matrix c.args.words.now)
    in if_err c.from_residual.result (λ e _. record {
      element = c.args.x.now;
      member = IsInLayer-still g.E.Element.is_of A c.requires.admissible c.args.s c.args.rest.now c.args.x.now
          c.requires.reduced c.requires.member c.requires.ascent;
      lacks = rw c.copied.ensures at c.in_err-still.ensures.fault;
    })

pub returns-in_err-number-in-Some-true-clause-fault : goal.returns-in_err-number-in-Some-true-clause-fault
returns-in_err-number-in-Some-true-clause-fault g c =
    let A : IntegerMatrix = integer_matrix (g.W.Words.matrix c.args.words.now)
    in if_err c.from_residual-in_err-number-in-Some-true.result (λ e _. record {
      element = c.args.moved;
      member = IsInLayer-times g.E.Element.is_of A c.requires.admissible c.args.s c.args.rest.now c.args.x.now c.args.moved
          c.requires.member c.requires.ascent c.requires.times
          (λ u e. (c.in-Some-true.ensures.below u e).0 c.in-Some-true.field-0-test);
      lacks = HasGained-lacks c.args.next.now.keys c.number.new.layer.keys c.args.x.now c.args.moved
          (rw c.copied.ensures at c.in_ok-still.ensures.grown) c.in_err-number-in-Some-true.ensures.fault;
    })
