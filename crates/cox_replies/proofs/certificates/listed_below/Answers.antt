-- The proof of `listed_below`.
use Rattle.std.proofs.Common.{◌≡◌, ◌<◌, ◌≤◌, length, sym, ap, ◌∙◌, arith}
use Rattle.std.proofs.lemmas.List.{length-map}
use Rattle.cox_base.specs.IntegerMatrix.{integer_matrix}
use Rattle.cox_base.specs.Length.{word_length}
use Rattle.cox_reflect.proofs.Lengths.{word_length-is}
use Rattle.cox_context.specs.Numbers.{word_at}
use Rattle.cox_rpoly.specs.declared.TheConstants.{MAX_DIFFERENCE}
use Rattle.cox_certtext.specs.declared.limits.TheConstants.{MAX_LISTED}
use Rattle.cox_replies.specs.Putting.{words_at}
use Rattle.cox_replies.proofs.CertRefusals.{listing-many, listing-long, listing-allowed}
use Rattle.cox_replies.proofs.certificates.listed_below.Goals as goal

pub returns-then-len-gt-MAX_LISTED-clause-list : goal.returns-then-len-gt-MAX_LISTED-clause-list
returns-then-len-gt-MAX_LISTED-clause-list c = λ limits w is few.
    let e = c.args.rows.now.elements in
    let A = integer_matrix e.matrix in
    let numbers = c.in_ok-below.below.items in
    let count = length-map numbers (λ k. word_at e.members k) in
    let over : MAX_LISTED < c.len.result = omega arith in
    let more : MAX_LISTED < length numbers = omega (arith, c.len.ensures, c.in_ok-below.below.ok, over) in
    listing-many limits A w (words_at e.members numbers) ((c.in_ok-below.ensures {u = tt}).interval w is) (omega (arith, more, count))

pub returns-then-length-gt-MAX_DIFFERENCE-clause-list : goal.returns-then-length-gt-MAX_DIFFERENCE-clause-list
returns-then-length-gt-MAX_DIFFERENCE-clause-list c = λ limits w is few.
    let e = c.args.rows.now.elements in
    let A = integer_matrix e.matrix in
    let numbers = c.in_ok-below.below.items in
    let count = length-map numbers (λ k. word_at e.members k) in
    let under : c.len.result ≤ MAX_LISTED = omega arith in
    let fewer : length numbers ≤ MAX_LISTED = omega (arith, c.len.ensures, c.in_ok-below.below.ok, under) in
    let letters : c.length.result ≡ word_length A w
    = (rw c.context.ensures.context at c.length.ensures.length) ∙ ap length is ∙ sym (word_length-is A w) in
    let over : MAX_DIFFERENCE < c.length.result = omega arith in
    listing-long limits A w (words_at e.members numbers) ((c.in_ok-below.ensures {u = tt}).interval w is)
    (omega (arith, fewer, count)) few (rw letters at over)

pub returns-clause-list : goal.returns-clause-list
returns-clause-list c = λ limits w is few.
    let e = c.args.rows.now.elements in
    let A = integer_matrix e.matrix in
    let numbers = c.in_ok-below.below.items in
    let list = (c.in_ok-below.ensures {u = tt}).interval w is in
    let count = length-map numbers (λ k. word_at e.members k) in
    let under : c.len.result ≤ MAX_LISTED = omega arith in
    let fewer : length numbers ≤ MAX_LISTED = omega (arith, c.len.ensures, c.in_ok-below.below.ok, under) in
    let letters : c.length.result ≡ word_length A w
    = (rw c.context.ensures.context at c.length.ensures.length) ∙ ap length is ∙ sym (word_length-is A w) in
    let short : c.length.result ≤ MAX_DIFFERENCE = omega arith in
    (listing-allowed limits A w (words_at e.members numbers) list (omega (arith, fewer, count)) few (rw letters at short), list)
