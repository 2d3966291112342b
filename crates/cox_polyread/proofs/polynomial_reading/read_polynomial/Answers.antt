-- The terms are read one by one; where one is wrong, no polynomial has the text.
use Rattle.std.proofs.Common.{◌≡◌, ◌<◌, Ok, Err, sym, ◌∙◌, false, FitsSigned, w64, arith, rules}
use Rattle.std.proofs.lemmas.Bool.{iff_false, ltb-false, ltb-true, true≢false}
use Rattle.std.proofs.lemmas.Bool.Decides.{nat_tests}
use Rattle.std.proofs.lemmas.Int.{to_z-of_z}
use Rattle.cox_polyread.specs.ReadNumerals.{value_of}
use Rattle.cox_polyread.specs.declared.text_fault.TextFault.TheVariants.{NotAPolynomial, TooLarge}
use Rattle.cox_polyread.proofs.ReadTerms.{IsRead-foreign, IsRead-falling, IsRead-fitting, IsRead-lost, IsRead-large, IsRead-empty}
use Rattle.cox_polyread.proofs.ReadTerms.{IsRead-whole, IsRead-large_whole, IsRead-room, first-piece, none-left, read-again}
use Rattle.cox_polyread.proofs.polynomial_reading.read_polynomial.Goals as goal
use Rattle.cox_polyread.proofs.polynomial_reading.read_polynomial.Goals.{else-not-first-via-then-not-first+else-not-is_below}
use Rattle.cox_polyread.proofs.polynomial_reading.read_polynomial.Goals.{else-not-first-via-else-not-first}
use Rattle.cox_polyread.proofs.polynomial_reading.read_polynomial.Goals.{in-Some-fitting+then-fits+in_ok-push_coefficient-in-Some-fitting}
use Rattle.cox_polyread.proofs.polynomial_reading.read_polynomial.Goals.{in-Some-fitting+else-fits, in-None}

pub returns-in_default-clause-foreign : goal.returns-in_default-clause-foreign
returns-in_default-clause-foreign c _ =
    let r = c.loop-rest.invariant in
    let f = first-piece c.loop-rest.first c.loop-rest.rest.now c.split_at.result.0.now c.split_at.result.1.now c.term_len.result
    (grind (arith, nat_tests)) c.term_len.ensures.count c.split_at.ensures.front c.split_at.ensures.back r.begins in
    IsRead-foreign c.split_at.result.0.now c.split_at.result.1.now r f.split f.piece_is f.begins
    (iff_false c.is_zero.ensures c.if-is_zero.false) c.in_default.ensures

pub returns-then-not-is_below-clause-foreign : goal.returns-then-not-is_below-clause-foreign
returns-then-not-is_below-clause-foreign c _ =
    let r = rw c.if-not-first.true at c.loop-rest.invariant in
    let f = first-piece false c.loop-rest.rest.now c.split_at.result.0.now c.split_at.result.1.now c.term_len.result
    (grind (arith, nat_tests)) c.term_len.ensures.count c.split_at.ensures.front c.split_at.ensures.back r.begins in
    IsRead-falling c.split_at.result.0.now c.split_at.result.1.now c.in-Some.term.negative c.in-Some.term.size.now c.in-Some.term.degree.now
    r f.split f.piece_is f.begins (iff_false c.is_zero.ensures c.if-is_zero.false)
    (rw c.if-not-first.true at c.in-Some.ensures)
    (ltb-false _ _ (sym c.is_below.ensures ∙ c.if-not-is_below.true))

pub loop-rest-preserved : goal.loop-rest-preserved
loop-rest-preserved c =
    let r = c.loop-rest.invariant in
    let f = first-piece c.loop-rest.first c.loop-rest.rest.now c.split_at.result.0.now c.split_at.result.1.now c.term_len.result
    (grind (arith, nat_tests)) c.term_len.ensures.count c.split_at.ensures.front c.split_at.ensures.back r.begins in
    let rising : c.loop-rest.first ≡ false → value_of c.loop-rest.last.now < value_of c.in-Some.term.degree.now =
    λ later. elim c.else-not-first.branch [
      | else-not-first-via-then-not-first+else-not-is_below w ↦ ltb-true _ _ (sym w.is_below.ensures ∙ w.if-not-is_below.false)
      | else-not-first-via-else-not-first w ↦ absurd (true≢false (sym w.if-not-first.false ∙ later))
    ] in
    let room = IsRead-room c.loop-rest.first c.loop-rest.last.now c.in-Some.term.degree.now r rising in
    elim c.match-fitting.branch [
      | in-Some-fitting+then-fits+in_ok-push_coefficient-in-Some-fitting w ↦
          let fits : FitsSigned w64 w.in-Some-fitting.c = search rules in
          let found = w.in-Some-fitting.ensures in
          let pushed = simp to_z-of_z at w.in_ok-push_coefficient-in-Some-fitting.ensures in
          rw (w.fits-is, w.if-fits.true, w.coefficients-is)
          (IsRead-fitting c.split_at.result.0.now c.split_at.result.1.now c.in-Some.term.negative c.in-Some.term.size.now
          c.in-Some.term.degree.now w.in-Some-fitting.degree w.in-Some-fitting.c w.push_coefficient.new.coefficients.items
          r f.split f.begins c.in-Some.ensures room w.if-fits.true found.0 found.1 found.2 fits pushed)
      | in-Some-fitting+else-fits w ↦
          rw (w.fits-is, w.if-fits.false, w.coefficients-is)
          (IsRead-lost c.split_at.result.0.now c.split_at.result.1.now c.in-Some.term.negative c.in-Some.term.size.now
          c.in-Some.term.degree.now r f.split f.begins c.in-Some.ensures room w.if-fits.false)
      | in-None w ↦
          rw (w.fits-is, w.coefficients-is)
          (IsRead-large c.split_at.result.0.now c.split_at.result.1.now c.in-Some.term.negative c.in-Some.term.size.now
          c.in-Some.term.degree.now r f.split f.begins c.in-Some.ensures room w.in-None.ensures)
    ]

pub returns-then-first-clause-foreign : goal.returns-then-first-clause-foreign
returns-then-first-clause-foreign c _ =
    IsRead-empty (rw c.if-first.true at c.loop-rest.invariant)
    (none-left c.loop-rest.rest.now c.is_empty.result c.is_empty.ensures c.loop-rest-test.false)

pub returns-then-fits-2-clause-read : goal.returns-then-fits-2-clause-read
returns-then-fits-2-clause-read c =
    let r = rw c.if-first.false at c.loop-rest.invariant in
    let is = IsRead-whole r (none-left c.loop-rest.rest.now c.is_empty.result c.is_empty.ensures c.loop-rest-test.false) in
    rw (c.from_trimmed-then-fits-2.ensures, r.held c.if-fits-2.true) is

pub returns-else-fits-2-clause-too_large : goal.returns-else-fits-2-clause-too_large
returns-else-fits-2-clause-too_large c _ =
    IsRead-large_whole (rw (c.if-first.false, c.if-fits-2.false) at c.loop-rest.invariant)
    (none-left c.loop-rest.rest.now c.is_empty.result c.is_empty.ensures c.loop-rest-test.false)

-- a polynomial that has the text and fits is the answer
pub returns-then-is_zero-clause-again : goal.returns-then-is_zero-clause-again
returns-then-is_zero-clause-again c =
    read-again c.args.most c.args.text.now (Ok c.from_trimmed.result) (search rules) (λ e. cc e) (λ e. cc e)

pub returns-in_default-clause-again : goal.returns-in_default-clause-again
returns-in_default-clause-again c =
    read-again c.args.most c.args.text.now (Err NotAPolynomial) tt (returns-in_default-clause-foreign c) (λ e. cc e)

pub returns-then-not-is_below-clause-again : goal.returns-then-not-is_below-clause-again
returns-then-not-is_below-clause-again c =
    read-again c.args.most c.args.text.now (Err NotAPolynomial) tt (returns-then-not-is_below-clause-foreign c) (λ e. cc e)

pub returns-then-first-clause-again : goal.returns-then-first-clause-again
returns-then-first-clause-again c =
    read-again c.args.most c.args.text.now (Err NotAPolynomial) tt (returns-then-first-clause-foreign c) (λ e. cc e)

pub returns-then-fits-2-clause-again : goal.returns-then-fits-2-clause-again
returns-then-fits-2-clause-again c =
    read-again c.args.most c.args.text.now (Ok c.from_trimmed-then-fits-2.result) (returns-then-fits-2-clause-read c) (λ e. cc e)
    (λ e. cc e)

pub returns-else-fits-2-clause-again : goal.returns-else-fits-2-clause-again
returns-else-fits-2-clause-again c =
    read-again c.args.most c.args.text.now (Err TooLarge) tt (λ e. cc e) (returns-else-fits-2-clause-too_large c)
