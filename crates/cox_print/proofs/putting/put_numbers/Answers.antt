-- The proof of `put_numbers`.
use Rattle.std.proofs.Common.{◌≡◌, ◌∷◌, ◌++◌, ◌∙◌, ap, codes, rules, pos, ℕ, ℤ, List, subst, sym, arith}
use Rattle.std.specs.Fmt.{signed_decimal}
use Rattle.std.specs.List.{flat_map}
use Rattle.cox_poly.specs.Puts.{Puts}
use Rattle.cox_print.specs.AnswerText.{numbers_text}
use Rattle.cox_poly.proofs.Behind.{PutsPrefix-next, PutsPrefix-second, Puts-failed, Puts-first, append-all, append-next, append-second}
use Rattle.cox_print.proofs.putting.put_numbers.Goals as goal

abbrev next_text : ℤ → List ℕ
next_text m = codes " " ++ signed_decimal m

-- the text of a list by its first number
text-parts : (list others : List ℤ) (first n : ℤ) → list ≡ first ∷ others → first ≡ n
    → signed_decimal n ++ flat_map next_text others ≡ numbers_text list
text-parts list others first n parts is = sym (ap numbers_text parts ∙ ap (λ m. signed_decimal m ++ flat_map next_text others) is)

pub returns-in_err-put_number : goal.returns-in_err-put_number
returns-in_err-put_number c =
    let rest = flat_map next_text c.in-Some.others.now in
    let text = text-parts _ _ _ c.in-Some.first c.in-Some.ensures.cases.0 c.in-Some.first-is in
    subst (λ t. Puts c.from_residual.result t c.args.out.now.items c.put_number.new.out.items) text
    (Puts-first _ (signed_decimal c.in-Some.first) rest _ _ (search rules) (search rules))

pub returns-in_err-put_next_number : goal.returns-in_err-put_next_number
returns-in_err-put_next_number c =
    let text = text-parts _ _ _ c.in-Some.first c.in-Some.ensures.cases.0 c.in-Some.first-is in
    let start : c.put_number.new.out.items ≡ c.args.out.now.items ++ signed_decimal c.in-Some.first = search rules in
    let prefix = PutsPrefix-next next_text c.in-Some.others.now c.loop-n.n-index _ (pos 0) _ _ _ (omega arith) (search rules)
    c.loop-n.invariant (c.in_err-put_next_number.ensures {u = tt}) in
    subst (λ t. Puts c.from_residual-in_err-put_next_number.result t c.args.out.now.items c.put_next_number.new.out.items) text
    (Puts-failed _ _ _ _ (search rules) (PutsPrefix-second (signed_decimal c.in-Some.first) _ _ _ _ start prefix))

pub loop-n-preserved : goal.loop-n-preserved
loop-n-preserved c =
    append-next next_text c.in-Some.others.now c.loop-n.n-index _ (pos 0) _ _ _ (omega arith) (search rules)
    c.loop-n.invariant (c.in_ok-put_next_number.ensures {u = tt})

pub returns : goal.returns
returns c =
    let text = text-parts _ _ _ c.in-Some.first c.in-Some.ensures.cases.0 c.in-Some.first-is in
    let start : c.put_number.new.out.items ≡ c.args.out.now.items ++ signed_decimal c.in-Some.first = search rules in
    let whole = append-all next_text c.in-Some.others.now c.loop-n.n-index _ _ (omega arith) c.loop-n.invariant in
    append-second (signed_decimal c.in-Some.first) _ _ _ _ start whole ∙ ap (λ t. c.args.out.now.items ++ t) text
