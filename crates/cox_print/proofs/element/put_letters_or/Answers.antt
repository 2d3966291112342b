-- The proof of `put_letters_or`.
use Rattle.std.proofs.Common.{◌≡◌, ◌++◌, ◌∷◌, ◌<◌, ℕ, List, decimal, subst, sym, ap, ◌∙◌, arith}
use Rattle.std.specs.List.{flat_map}
use Rattle.std.proofs.lemmas.List.Elements.{All-weaker, All-rest}
use Rattle.cox_base.specs.Matrix.{IsLetter}
use Rattle.cox_base.specs.WordText.{letters_or, separator}
use Rattle.cox_poly.specs.Puts.{Puts}
use Rattle.cox_poly.proofs.Behind.{Puts-first, Puts-second}
use Rattle.cox_print.proofs.element.put_letters_or.Goals as goal

-- the letters behind the first, each with what separates it from the one before
abbrev others_text : List ℕ → List ℕ → List ℕ
others_text separator letters = flat_map (λ letter. separator ++ decimal letter) letters

-- the text of letters by the first of them
text-parts : (none : List ℕ) (rank : ℕ) (letters others : List ℕ) (first : ℕ) → letters ≡ first ∷ others
    → decimal first ++ others_text (separator rank) others ≡ letters_or none rank letters
text-parts none rank letters others first parts = sym (ap (letters_or none rank) parts)

pub returns-in_err-put_letter : goal.returns-in_err-put_letter
returns-in_err-put_letter c =
    let first = c.in-Some.field-0-0.now in
    let others = c.in-Some.others.now in
    let parts = sym c.as_slice.ensures.value ∙ (c.in-Some.ensures {u = tt}).cases.0 in
    let text = text-parts c.args.none.now c.args.rank c.args.letters.now.items others first parts in
    subst (λ t. Puts c.from_residual.result t c.args.out.now.items c.put_letter.new.out.items) text
    (Puts-first _ (decimal first) (others_text (separator c.args.rank) others) _ _ c.from_residual.ensures.0
    (c.in_err-put_letter.ensures {u = tt}))

pub put_other_letters-requires : goal.put_other_letters-requires
put_other_letters-requires c =
    let parts = sym c.as_slice.ensures.value ∙ (c.in-Some.ensures {u = tt}).cases.0 in
    All-weaker (IsLetter c.args.rank) (λ t. t < 100) (λ t letter. omega (arith, letter.to_rank, c.requires.rank)) c.in-Some.others.now
    (All-rest (IsLetter c.args.rank) _ c.in-Some.others.now c.args.letters.now.items parts c.requires.word)

pub returns : goal.returns
returns c =
    let first = c.in-Some.field-0-0.now in
    let others = c.in-Some.others.now in
    let parts = sym c.as_slice.ensures.value ∙ (c.in-Some.ensures {u = tt}).cases.0 in
    let text = text-parts c.args.none.now c.args.rank c.args.letters.now.items others first parts in
    let spelled = ap (λ between. others_text between others) c.separator.ensures.text in
    let put = subst (λ t. Puts c.put_other_letters.result t c.put_letter.new.out.items c.put_other_letters.new.out.items) spelled
    c.put_other_letters.ensures in
    subst (λ t. Puts c.put_other_letters.result t c.args.out.now.items c.put_other_letters.new.out.items) text
    (Puts-second _ (decimal first) (others_text (separator c.args.rank) others) _ _ _ (c.in_ok-put_letter.ensures {u = tt}) put)
