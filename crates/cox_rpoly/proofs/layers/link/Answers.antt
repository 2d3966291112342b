-- Where s shortens x, s x is a member of the next layer.
use Rattle.std.proofs.Common.{sym, ◌∙◌}
use Rattle.std.proofs.lemmas.Bool.{false≢true}
use Rattle.cox_base.specs.IntegerMatrix.{IntegerMatrix, integer_matrix}
use Rattle.cox_rpoly.specs.Layer.{IsInLayer}
use Rattle.cox_rpoly.proofs.LayerMembers.{if_err, HasGained-All, HasGained-Extends, IsInLayer-shorter, IsShortElement-member}
use Rattle.cox_rpoly.proofs.layers.link.Goals as goal

pub is_shortened-requires-clause-short : goal.is_shortened-requires-clause-short
is_shortened-requires-clause-short g c =
    let A : IntegerMatrix = integer_matrix (g.W.Words.matrix c.args.words.now)
    in IsShortElement-member g.E.Element.is_of A c.requires.admissible c.args.s c.args.rest.now c.args.x.now
    (g.W.Words.longest c.args.words.now) c.requires.reduced c.requires.short c.requires.member

pub returns-then-is_shortened-clause-members : goal.returns-then-is_shortened-clause-members
returns-then-is_shortened-clause-members g c =
    let A : IntegerMatrix = integer_matrix (g.W.Words.matrix c.args.words.now)
    in HasGained-All (IsInLayer g.E.Element.is_of A c.args.rest.now) c.args.next.now.keys c.number.new.layer.keys c.in-Some.moved
    c.in_ok-number.ensures.grown c.requires.members
    (IsInLayer-shorter g.E.Element.is_of A c.requires.admissible c.args.s c.args.rest.now c.args.x.now c.in-Some.moved
    c.requires.reduced c.requires.member (λ u e. (c.is_shortened.ensures u e).0 c.if-is_shortened.true) c.in-Some.ensures.times)

pub returns-then-is_shortened-clause-extends : goal.returns-then-is_shortened-clause-extends
returns-then-is_shortened-clause-extends g c =
    HasGained-Extends c.args.next.now.keys c.number.new.layer.keys c.in-Some.moved c.in_ok-number.ensures.grown

pub returns-in_err-number-clause-fault : goal.returns-in_err-number-clause-fault
returns-in_err-number-clause-fault g c =
    let A : IntegerMatrix = integer_matrix (g.W.Words.matrix c.args.words.now)
    in if_err c.from_residual.result (λ e _. record {
      element = c.in-Some.moved;
      member = IsInLayer-shorter g.E.Element.is_of A c.requires.admissible c.args.s c.args.rest.now c.args.x.now c.in-Some.moved
          c.requires.reduced c.requires.member (λ u e. (c.is_shortened.ensures u e).0 c.if-is_shortened.true) c.in-Some.ensures.times;
      lacks = c.in_err-number.ensures.fault;
    })

pub longer_link-requires-clause-ascent : goal.longer_link-requires-clause-ascent
longer_link-requires-clause-ascent g c = λ u e d. absurd (false≢true (sym c.if-is_shortened.false ∙ (c.is_shortened.ensures u e).1 d))
