-- The text of a verdict has the number of its cause.
use Rattle.std.proofs.Common.{◌≡◌, ℕ, ◌+◌, ◌<◌, [], ◌∷◌, ◌++◌, codes, decimal, sym, ap, lit<, arith, rules}
use Rattle.std.proofs.lemmas.Fmt.{decimal_digit}
use Rattle.cox_tokens.specs.Line.{line_feed}
use Rattle.cox_cert.proofs.status.Cause.text.Goals as goal

text : (n : ℕ) → n < 10 → 110 ∷ 111 ∷ 32 ∷ (48 + n) ∷ 10 ∷ [] ≡ codes "no " ++ decimal n ++ line_feed ∷ []
text n low = ap (λ t. codes "no " ++ t ++ line_feed ∷ []) (sym (decimal_digit n low))

pub returns-in-Grammar : goal.returns-in-Grammar
returns-in-Grammar c = first_of (search (rules, text 1 (lit< tt)), grind (arith, text 1 (lit< tt)), cc (text 1 (lit< tt)))

pub returns-in-Top : goal.returns-in-Top
returns-in-Top c = first_of (search (rules, text 2 (lit< tt)), grind (arith, text 2 (lit< tt)), cc (text 2 (lit< tt)))

pub returns-in-Interval : goal.returns-in-Interval
returns-in-Interval c = first_of (search (rules, text 3 (lit< tt)), grind (arith, text 3 (lit< tt)), cc (text 3 (lit< tt)))

pub returns-in-Size : goal.returns-in-Size
returns-in-Size c = first_of (search (rules, text 4 (lit< tt)), grind (arith, text 4 (lit< tt)), cc (text 4 (lit< tt)))

pub returns-in-Row : goal.returns-in-Row
returns-in-Row c = first_of (search (rules, text 5 (lit< tt)), grind (arith, text 5 (lit< tt)), cc (text 5 (lit< tt)))
