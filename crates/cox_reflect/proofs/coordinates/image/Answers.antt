-- Each turn is a reflection, whose difference fits in 128 bits.
use Rattle.std.proofs.Common.{refl, arith, rules}
use Rattle.std.proofs.lemmas.List.{reverse-reverse}
use Rattle.std.proofs.lemmas.Iterator.Adapters.{YieldsList-from_rev_slice}
use Rattle.std.proofs.lemmas.Iterator.Consumers.{YieldsList-turn, YieldsList-end}
use Rattle.cox_base.specs.IntegerMatrix.{integer_matrix}
use Rattle.cox_reflect.specs.Action.{simple_root}
use Rattle.cox_reflect.specs.RootHeight.{at_letter}
use Rattle.cox_reflect.proofs.Action.{act-nil}
use Rattle.cox_reflect.proofs.Computed.{minus-fits, minus-value}
use Rattle.cox_reflect.proofs.RootCoordinates.{AreCoordinates-simple_root, AreCoordinates-column, image-letter, image-room}
use Rattle.cox_reflect.proofs.RootCoordinates.{image-fits, image-next}
use Rattle.cox_reflect.proofs.coordinates.image.Goals as goal

pub loop-letter-init : goal.loop-letter-init
loop-letter-init c =
    rw (act-nil (integer_matrix c.args.g.now) (simple_root c.args.s))
    (AreCoordinates-simple_root (integer_matrix c.args.g.now) c.args.s _ c.requires.letter
    (omega (arith, c.rank-rank.ensures.rank, c.rank-rank.ensures.limit)) refl)

pub pairing-requires-clause-letter : goal.pairing-requires-clause-letter
pairing-requires-clause-letter c =
    let turn = YieldsList-turn (YieldsList-from_rev_slice c.args.w.now.items cc) c.loop-letter.yielded _
    c.loop-letter.yielded_by _ _ c.in-Some.field-0 c.in-Some.is c.next.ensures.steps
    in image-letter c.args.g.now c.rank-rank.ensures.matrix c.args.w.now.items c.requires.letters c.requires.short c.args.s (λ x. x.now)
    c.loop-letter.yielded c.in-Some.field-0 turn c.loop-letter.root c.loop-letter.invariant

pub pairing-requires-clause-room : goal.pairing-requires-clause-room
pairing-requires-clause-room c =
    let turn = YieldsList-turn (YieldsList-from_rev_slice c.args.w.now.items cc) c.loop-letter.yielded _
    c.loop-letter.yielded_by _ _ c.in-Some.field-0 c.in-Some.is c.next.ensures.steps
    in image-room c.args.g.now c.rank-rank.ensures.matrix c.args.w.now.items c.requires.letters c.requires.short c.args.s (λ x. x.now)
    c.loop-letter.yielded c.in-Some.field-0 turn c.loop-letter.root c.loop-letter.invariant

pub overflow_sub-root-in-loop-letter-2 : goal.overflow_sub-root-in-loop-letter-2
overflow_sub-root-in-loop-letter-2 c =
    let turn = YieldsList-turn (YieldsList-from_rev_slice c.args.w.now.items cc) c.loop-letter.yielded _
    c.loop-letter.yielded_by _ _ c.in-Some.field-0 c.in-Some.is c.next.ensures.steps
    in let fits =
    image-fits c.args.g.now c.rank-rank.ensures.matrix c.args.w.now.items c.requires.letters c.requires.short c.args.s (λ x. x.now)
    c.loop-letter.yielded c.in-Some.field-0 turn c.loop-letter.root c.loop-letter.invariant c.pairing.result c.pairing.ensures.bound
    in minus-fits (at_letter c.loop-letter.root c.in-Some.field-0.now) c.pairing.result (search rules) (search rules) fits

pub loop-letter-preserved : goal.loop-letter-preserved
loop-letter-preserved c =
    let turn = YieldsList-turn (YieldsList-from_rev_slice c.args.w.now.items cc) c.loop-letter.yielded _
    c.loop-letter.yielded_by _ _ c.in-Some.field-0 c.in-Some.is c.next.ensures.steps
    in let fits =
    image-fits c.args.g.now c.rank-rank.ensures.matrix c.args.w.now.items c.requires.letters c.requires.short c.args.s (λ x. x.now)
    c.loop-letter.yielded c.in-Some.field-0 turn c.loop-letter.root c.loop-letter.invariant c.pairing.result c.pairing.ensures.bound
    in image-next c.args.g.now c.rank-rank.ensures.matrix c.args.w.now.items c.requires.letters c.requires.short c.args.s (λ x. x.now)
    c.loop-letter.yielded c.in-Some.field-0 turn c.loop-letter.root c.loop-letter.invariant c.pairing.result _
    (omega (arith, c.rank-rank.ensures.rank, c.rank-rank.ensures.limit)) c.pairing.ensures.value
    (minus-value (at_letter c.loop-letter.root c.in-Some.field-0.now) c.pairing.result (search rules) (search rules) fits)

pub returns-clause-coordinates : goal.returns-clause-coordinates
returns-clause-coordinates c =
    let end = YieldsList-end (YieldsList-from_rev_slice c.args.w.now.items cc) c.loop-letter.yielded _
    c.loop-letter.yielded_by _ _ c.in-None.is c.next.ensures.steps
    in AreCoordinates-column (integer_matrix c.args.g.now) c.args.w.now.items c.args.s c.loop-letter.root
    (rw (end.0, reverse-reverse c.args.w.now.items) at c.loop-letter.invariant)

pub overflow_sub-root-in-loop-letter : goal.overflow_sub-root-in-loop-letter
overflow_sub-root-in-loop-letter c =
    let turn = YieldsList-turn (YieldsList-from_rev_slice c.args.w.now.items cc) c.loop-letter.yielded _
    c.loop-letter.yielded_by _ _ c.in-Some.field-0 c.in-Some.is c.next.ensures.steps
    in let letter = image-letter c.args.g.now c.rank-rank.ensures.matrix c.args.w.now.items c.requires.letters c.requires.short c.args.s
    (λ x. x.now) c.loop-letter.yielded c.in-Some.field-0 turn c.loop-letter.root c.loop-letter.invariant
    in letter.from_one

pub bounds-root-letter : goal.bounds-root-letter
bounds-root-letter c =
    let turn = YieldsList-turn (YieldsList-from_rev_slice c.args.w.now.items cc) c.loop-letter.yielded _
    c.loop-letter.yielded_by _ _ c.in-Some.field-0 c.in-Some.is c.next.ensures.steps
    in let letter = image-letter c.args.g.now c.rank-rank.ensures.matrix c.args.w.now.items c.requires.letters c.requires.short c.args.s
    (λ x. x.now) c.loop-letter.yielded c.in-Some.field-0 turn c.loop-letter.root c.loop-letter.invariant
    in omega (arith, letter.from_one, letter.to_rank, c.rank-rank.ensures.rank, c.rank-rank.ensures.limit)

pub bounds-root-letter-in-loop-letter : goal.bounds-root-letter-in-loop-letter
bounds-root-letter-in-loop-letter c =
    let turn = YieldsList-turn (YieldsList-from_rev_slice c.args.w.now.items cc) c.loop-letter.yielded _
    c.loop-letter.yielded_by _ _ c.in-Some.field-0 c.in-Some.is c.next.ensures.steps
    in let letter = image-letter c.args.g.now c.rank-rank.ensures.matrix c.args.w.now.items c.requires.letters c.requires.short c.args.s
    (λ x. x.now) c.loop-letter.yielded c.in-Some.field-0 turn c.loop-letter.root c.loop-letter.invariant
    in omega (arith, letter.from_one, letter.to_rank, c.rank-rank.ensures.rank, c.rank-rank.ensures.limit)
