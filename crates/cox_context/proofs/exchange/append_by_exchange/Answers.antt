-- One letter more.
use Rattle.std.proofs.Common.{rules, ◌≡◌, ℕ, ◌<◌, ◌-◌, ◌+◌, ◌∷◌, List, length, drop, slice_index, get_or, arith, refl, ◌∙◌, ap, Some}
use Rattle.std.proofs.lemmas.List.{drop_all}
use Rattle.std.specs.Prelude.{IfErr}
use Rattle.cox_base.specs.IntegerMatrix.{integer_matrix}
use Rattle.cox_base.specs.ShortLex.{normal_form}
use Rattle.cox_base.specs.Bruhat.{IsBelow}
use Rattle.cox_context.specs.FaultMeaning.{IsOverfull}
use Rattle.cox_context.specs.Numbering.{IsNumberOf}
use Rattle.cox_context.specs.Numbers.{word_at}
use Rattle.cox_context.specs.Spread.{AreAppended}
use Rattle.cox_context.specs.Union.{IsInUnion}
use Rattle.cox_context.proofs.AppendedEnds.{appended-none, appended-trans, appended-more}
use Rattle.cox_context.proofs.ExchangedMembers.{exchange-start, letter-form, letter-short, letter-below, exchanged-union}
use Rattle.cox_context.proofs.UnionSizes.{below-end, overfull-below}
use Rattle.cox_context.proofs.exchange.append_by_exchange.Goals as goal

pub loop-done-init : goal.loop-done-init
loop-done-init c =
    let A = integer_matrix c.args.context.now.matrix
    in let top = c.args.top.now.items
    in record {
      matrix = refl;
      appended = appended-none A top c.args.context.now.members;
      few = c.requires.room;
      number = exchange-start A c.len-count.ensures.admissible c.args.context.now.members c.len-count.ensures.closed
          (drop (length top - 0) top) (drop_all (length top - 0) top (omega arith));
    }

pub append_shift-requires-clause-short : goal.append_shift-requires-clause-short
append_shift-requires-clause-short c =
    let A = integer_matrix c.args.context.now.matrix
    in let g = c.len-count.ensures.admissible
    in let top = c.args.top.now.items
    in let old = c.args.context.now.members
    in let mid = c.loop-done.context.members
    in let h = c.loop-done.invariant
    in let k = length top - (c.loop-done.done + 1)
    in let less : k < length top = omega (arith, c.len-letters.ensures.value, c.loop-done-test.true)
    in let next : length top - c.loop-done.done ≡ k + 1 = omega (arith, c.len-letters.ensures.value, c.loop-done-test.true)
    in let number : word_at mid c.loop-done.at ≡ normal_form A (drop (k + 1) top) = rw next at h.number.1
    in letter-short A g top k less (word_at mid c.loop-done.at) number c.requires.top.short

pub returns-in_err-at-clause-refused : goal.returns-in_err-at-clause-refused
returns-in_err-at-clause-refused c =
    let A = integer_matrix c.args.context.now.matrix
    in let g = c.len-count.ensures.admissible
    in let top = c.args.top.now.items
    in let old = c.args.context.now.members
    in let mid = c.loop-done.context.members
    in let h = c.loop-done.invariant
    in let k = length top - (c.loop-done.done + 1)
    in let less : k < length top = omega (arith, c.len-letters.ensures.value, c.loop-done-test.true)
    in let next : length top - c.loop-done.done ≡ k + 1 = omega (arith, c.len-letters.ensures.value, c.loop-done-test.true)
    in let number : word_at mid c.loop-done.at ≡ normal_form A (drop (k + 1) top) = rw next at h.number.1
    in let place : c.len-letters.result - 1 - c.loop-done.done ≡ k = omega (arith, c.len-letters.ensures.value)
    in let letter : get_or c.deref.result.now (c.len-letters.result - 1 - c.loop-done.done) 0 ≡ slice_index top k
    = ap (λ (letters : List ℕ). get_or letters (c.len-letters.result - 1 - c.loop-done.done) 0) c.deref.ensures.0
    ∙ ap (slice_index top) place
    in let shifted = slice_index top k ∷ word_at mid c.loop-done.at
    in let below : (word : List ℕ) → IsBelow A word shifted → IsBelow A word top
    = λ word b. below-end A g top c.requires.top.reduced k word (letter-below A g top k less (word_at mid c.loop-done.at) number word b)
    in let told : IfErr c.from_residual.result (IsOverfull (IsInUnion (integer_matrix c.loop-done.context.matrix)
    (get_or c.deref.result.now (c.len-letters.result - 1 - c.loop-done.done) 0 ∷ word_at mid c.loop-done.at) mid) c.args.limit)
    = search rules
    in overfull-below A g top shifted old mid h.appended below c.args.limit c.from_residual.result (rw (h.matrix, letter) at told)

pub loop-done-preserved : goal.loop-done-preserved
loop-done-preserved c =
    let A = integer_matrix c.args.context.now.matrix
    in let g = c.len-count.ensures.admissible
    in let top = c.args.top.now.items
    in let old = c.args.context.now.members
    in let mid = c.loop-done.context.members
    in let h = c.loop-done.invariant
    in let k = length top - (c.loop-done.done + 1)
    in let less : k < length top = omega (arith, c.len-letters.ensures.value, c.loop-done-test.true)
    in let next : length top - c.loop-done.done ≡ k + 1 = omega (arith, c.len-letters.ensures.value, c.loop-done-test.true)
    in let number : word_at mid c.loop-done.at ≡ normal_form A (drop (k + 1) top) = rw next at h.number.1
    in let place : c.len-letters.result - 1 - c.loop-done.done ≡ k = omega (arith, c.len-letters.ensures.value)
    in let letter : get_or c.deref.result.now (c.len-letters.result - 1 - c.loop-done.done) 0 ≡ slice_index top k
    = ap (λ (letters : List ℕ). get_or letters (c.len-letters.result - 1 - c.loop-done.done) 0) c.deref.ensures.0
    ∙ ap (slice_index top) place
    in let shifted = slice_index top k ∷ word_at mid c.loop-done.at
    in let below : (word : List ℕ) → IsBelow A word shifted → IsBelow A word top
    = λ word b. below-end A g top c.requires.top.reduced k word (letter-below A g top k less (word_at mid c.loop-done.at) number word b)
    in let new = c.append_shift.new.context.members
    in let more : AreAppended A shifted mid new = rw (h.matrix, letter) at c.append_shift.ensures.appended
    in let there : IsNumberOf new (normal_form A shifted) (Some c.in_ok-at.at) = rw (h.matrix, letter) at c.in_ok-at.ensures.number
    in record {
      matrix = c.append_shift.ensures.matrix ∙ h.matrix;
      appended = appended-trans A top old mid new h.appended (appended-more A shifted top mid new below more);
      few = c.append_shift.ensures.few;
      number = rw (letter-form A g top k less (word_at mid c.loop-done.at) number) at there;
    }

pub returns-clause-members : goal.returns-clause-members
returns-clause-members c =
    let A = integer_matrix c.args.context.now.matrix
    in let top = c.args.top.now.items
    in let h = c.loop-done.invariant
    in let mid = c.loop-done.context.members
    in let e : length top - c.loop-done.done ≡ 0 = omega (arith, c.len-letters.ensures.value, c.loop-done-test.false)
    in let number : IsNumberOf mid (normal_form A top) (Some c.loop-done.at) = rw e at h.number
    in exchanged-union A c.len-count.ensures.admissible c.args.context.now.members mid (rw h.matrix at c.len-count-2.ensures.closed) top
    h.appended c.loop-done.at number
