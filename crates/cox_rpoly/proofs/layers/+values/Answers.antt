-- At the end of the word the identity alone is left; else the links lead on.
use Rattle.std.proofs.Common.{List, ◌∷◌, ℤ, Vec, Global, arith}
use Rattle.std.proofs.lemmas.List.Elements.{All-head, All-tail}
use Rattle.std.proofs.lemmas.Result.{IfOk-weaker}
use Rattle.cox_base.specs.IntegerMatrix.{IntegerMatrix, integer_matrix}
use Rattle.cox_base.specs.Matrix.{IsLetter}
use Rattle.cox_reflect.proofs.Lengths.{IsReduced-tail}
use Rattle.cox_rpoly.specs.Layer.{AreLayerValues}
use Rattle.cox_rpoly.specs.Terms.{AreOnes, AreLinkedValues}
use Rattle.cox_rpoly.proofs.LayerValues.{AreLinks-within, AreLinks-values, AreLayerValues-end}
use Rattle.cox_rpoly.proofs.layers.+values.Goals as goal

pub returns-in_default-clause-values : goal.returns-in_default-clause-values
returns-in_default-clause-values g t c =
    let A : IntegerMatrix = integer_matrix (g.W.Words.matrix c.args.words.now)
    in IfOk-weaker c.ones.result (λ (values : Vec (List ℤ) Global). AreOnes c.len.result values.items)
    (λ (values : Vec (List ℤ) Global). AreLayerValues g.E.Element.is_of A c.args.form.now c.args.layer.keys values.items)
    (λ values ones. AreLayerValues-end g.E.Element.is_of A c.requires.admissible
    (g.met.E.Element.same_descents A c.requires.admissible) c.args.form.now c.args.layer.keys values.items
    c.in_default.ensures.cases c.requires.members c.len.ensures.len ones)
    c.ones.ensures.ones

pub next_layer-requires-clause-letter : goal.next_layer-requires-clause-letter
next_layer-requires-clause-letter g t c =
    All-head (IsLetter (g.W.Words.matrix c.args.words.now).rank) c.in-Some.field-0-0.now c.in-Some.rest.now
    (rw c.in-Some.ensures.cases.0 at c.requires.letters)

pub next_layer-requires-clause-letters : goal.next_layer-requires-clause-letters
next_layer-requires-clause-letters g t c =
    All-tail (IsLetter (g.W.Words.matrix c.args.words.now).rank) c.in-Some.field-0-0.now c.in-Some.rest.now
    (rw c.in-Some.ensures.cases.0 at c.requires.letters)

pub values-requires : goal.values-requires
values-requires g t c κs within =
    let A : IntegerMatrix = integer_matrix (g.W.Words.matrix c.args.words.now)
    in (
      omega (arith, c.in-Some.ensures.cases.1),
      (
        within.0,
        (
          within.1,
          (
            c.requires.admissible,
            (
              All-tail (IsLetter (g.W.Words.matrix c.args.words.now).rank) c.in-Some.field-0-0.now c.in-Some.rest.now
                  (rw c.in-Some.ensures.cases.0 at c.requires.letters),
              (
                IsReduced-tail A c.requires.admissible c.in-Some.field-0-0.now c.in-Some.rest.now
                    (rw c.in-Some.ensures.cases.0 at c.requires.reduced),
                (omega (arith, c.in-Some.ensures.cases.1, c.requires.short), c.in_ok-next.ensures.members),
              ),
            ),
          ),
        ),
      ),
    )

pub terms_of_links-requires : goal.terms_of_links-requires
terms_of_links-requires g t c =
    let A : IntegerMatrix = integer_matrix (g.W.Words.matrix c.args.words.now)
    in rw (c.as_slice.ensures.value, c.as_slice-2.ensures.value)
    (AreLinks-within g.E.Element.is_of A c.requires.admissible c.in-Some.field-0-0.now c.in-Some.rest.now c.args.layer.keys
    c.in_ok-next.next.keys c.in_ok-next.links.items c.in_ok-values.values.items c.in_ok-next.ensures.links c.in_ok-values.ensures.values
    (rw c.in-Some.ensures.cases.0 at c.requires.members))

pub returns-clause-values : goal.returns-clause-values
returns-clause-values g t c =
    let A : IntegerMatrix = integer_matrix (g.W.Words.matrix c.args.words.now)
    in let reduced = IsReduced-tail A c.requires.admissible c.in-Some.field-0-0.now c.in-Some.rest.now
    (rw c.in-Some.ensures.cases.0 at c.requires.reduced)
    in rw c.in-Some.ensures.cases.0
    (IfOk-weaker c.terms_of_links.result
    (λ (values : Vec (List ℤ) Global). AreLinkedValues c.as_slice.result.now c.as_slice-2.result.now values.items)
    (λ (values : Vec (List ℤ) Global). AreLayerValues g.E.Element.is_of A (c.in-Some.field-0-0.now ∷ c.in-Some.rest.now) c.args.layer.keys
    values.items)
    (λ values linked. AreLinks-values g.E.Element.is_of A c.requires.admissible c.in-Some.field-0-0.now c.in-Some.rest.now c.args.layer.keys
    c.in_ok-next.next.keys c.in_ok-next.links.items c.in_ok-values.values.items c.in_ok-next.ensures.links c.in_ok-values.ensures.values
    values.items reduced (rw (c.as_slice.ensures.value, c.as_slice-2.ensures.value) at linked))
    c.terms_of_links.ensures.values)
