-- Each turn adds the products of one word more, and at the end all members were taken.
use Rattle.std.proofs.Common.{◌≡◌, ◌<◌, ◌≤◌, List, [], ℕ, length, map, take, subst, sym, ap, ◌∙◌, arith}
use Rattle.std.proofs.lemmas.List.{take_all, get_or_default, length-map}
use Rattle.std.proofs.lemmas.List.Elements.{All-get_or}
use Rattle.cox_base.specs.IntegerMatrix.{IntegerMatrix, integer_matrix}
use Rattle.cox_base.specs.ShortLex.{normal_form}
use Rattle.cox_poly.specs.Polynomial.{coefficient}
use Rattle.cox_rpoly.specs.declared.TheConstants.{MAX_DIFFERENCE}
use Rattle.cox_rpoly.specs.Terms.{numbered}
use Rattle.cox_context.specs.Numbers.{word_at}
use Rattle.cox_context.proofs.PlacedWords.{contains-placed}
use Rattle.cox_context.proofs.Shifting.{element-at}
use Rattle.cox_rowcheck.specs.CheckablePolynomials.{IsCheckable}
use Rattle.cox_rowcheck.specs.MemberFamily.{family_of}
use Rattle.cox_rowcheck.specs.Columns.{IsColumn}
use Rattle.cox_rowcheck.specs.Prefixes.{letters_of}
use Rattle.cox_rowcheck.proofs.PlacedPolynomials.{family-at}
use Rattle.cox_rowcheck.proofs.PrefixColumns.{prefix-at, prefixes-none, prefixes-kept}
use Rattle.cox_rowcheck.proofs.ListedMembers.{listed-count, listed-at, listed-member}
use Rattle.cox_rowcheck.proofs.GrowingSums.{sums-none, sums-more, sums-grown, sums-reordered}
use Rattle.cox_rowcheck.proofs.sums.sums_of.Goals as goal

pub loop-word-init : goal.loop-word-init
loop-word-init c = record {
  prefixes = rw (c.new-last.ensures, c.in_ok-push.ensures.items, c.new-stack.ensures.items)
      (prefixes-none (integer_matrix c.args.ctx.now.matrix) c.args.ctx.now.members c.in_ok-first.field-0 c.in_ok-first.ensures);
  sums = sums-none (integer_matrix c.args.ctx.now.matrix) c.args.ctx.now.members c.args.polynomials.now c.in_ok-sums.sums.items
      c.len.result c.len.ensures.len c.in_ok-sums.ensures;
  small = λ i k. rw ((c.in_ok-sums.ensures {u = tt}).zero i k) (omega arith);
}

pub climb-requires-clause-member : goal.climb-requires-clause-member
climb-requires-clause-member c =
    listed-member c.args.ctx.now.members c.as_slice-word-items.result.now c.loop-word.word-index c.word-item.result
    (rw c.as_slice-word-items.ensures.value (c.in_ok-words.ensures {u = tt}).permutation) c.loop-word-test.true c.word-item.is

pub climb-requires-clause-short : goal.climb-requires-clause-short
climb-requires-clause-short c =
    let place = contains-placed c.args.ctx.now.members c.word-item.result.items
    (listed-member c.args.ctx.now.members c.as_slice-word-items.result.now c.loop-word.word-index c.word-item.result
    (rw c.as_slice-word-items.ensures.value (c.in_ok-words.ensures {u = tt}).permutation) c.loop-word-test.true c.word-item.is)
    in subst (λ (word : List ℕ). length word ≤ MAX_DIFFERENCE) place.is (c.requires.short place.i place.within)

pub climb-requires-clause-stack : goal.climb-requires-clause-stack
climb-requires-clause-stack c =
    rw c.truncate.ensures.items (prefixes-kept (integer_matrix c.args.ctx.now.matrix) c.args.ctx.now.members c.loop-word.last.items
    c.word-item.result.items c.loop-word.stack.items c.common.result c.loop-word.invariant.prefixes
    (omega (arith, c.common.ensures.word, ap length c.as_slice-in-loop-word.ensures.value))
    (ap (take c.common.result) (sym c.as_slice.ensures.value) ∙ c.common.ensures.same
    ∙ ap (take c.common.result) c.as_slice-in-loop-word.ensures.value))

pub add_column-requires-clause-small : goal.add_column-requires-clause-small
add_column-requires-clause-small c =
    let here = prefix-at (integer_matrix c.args.ctx.now.matrix) c.args.ctx.now.members c.word-item.result.items c.climb.new.stack.items
    c.len-in-loop-word.result c.index-column.result.now (c.in_ok-climb.ensures {u = tt}).prefixes
    (omega (arith, c.len-in-loop-word.ensures.value, (c.in_ok-climb.ensures {u = tt}).whole)) c.index-column.ensures
    in let inside : c.index-column.result.now.number < length c.args.polynomials.now = omega (arith, c.requires.count, here.inside)
    in subst IsCheckable (sym c.index-polynomials-column.is)
    (All-get_or IsCheckable c.args.polynomials.now c.index-column.result.now.number c.index-polynomials-column.result inside
    c.requires.small)

pub add_column-requires-clause-room : goal.add_column-requires-clause-room
add_column-requires-clause-room c = λ i k.
    let count = listed-count c.args.ctx.now.members c.as_slice-word-items.result.now
    (rw c.as_slice-word-items.ensures.value (c.in_ok-words.ensures {u = tt}).permutation)
    in omega (arith, c.loop-word.invariant.small i k, count, c.loop-word-test.true, c.requires.few)

pub loop-word-preserved : goal.loop-word-preserved
loop-word-preserved c =
    let A : IntegerMatrix = integer_matrix c.args.ctx.now.matrix
    in let g = c.len-len.ensures.admissible
    in let closed = c.len-len.ensures.closed
    in let members = c.args.ctx.now.members
    in let polynomials = c.args.polynomials.now
    in let words = c.as_slice-word-items.result.now
    in let word = c.word-item.result.items
    in let n = c.loop-word.word-index
    in let column = c.index-column.result.now
    in let p = c.index-polynomials-column.result
    in let climbed = c.in_ok-climb.ensures {u = tt}
    in let prefix = prefix-at A members word c.climb.new.stack.items c.len-in-loop-word.result column climbed.prefixes
    (omega (arith, c.len-in-loop-word.ensures.value, climbed.whole)) c.index-column.ensures
    in let member = listed-member members words n c.word-item.result
    (rw c.as_slice-word-items.ensures.value (c.in_ok-words.ensures {u = tt}).permutation) c.loop-word-test.true c.word-item.is
    in let named : word_at members column.number ≡ word_at (map letters_of words) n
    = prefix.named ∙ ap (normal_form A) (take_all c.len-in-loop-word.result word (omega (arith, c.len-in-loop-word.ensures.value)))
    ∙ (closed.element word member).normal ∙ sym (listed-at words n c.word-item.result c.loop-word-test.true c.word-item.is)
    in let inside : column.number < length polynomials = omega (arith, c.requires.count, prefix.inside)
    in let here : numbered polynomials column.number ≡ p
    = get_or_default polynomials column.number [] p inside ∙ sym c.index-polynomials-column.is
    in record {
      prefixes = rw c.copy_word-last.ensures climbed.prefixes;
      sums = sums-more A members polynomials (map letters_of words) n c.loop-word.sums.items c.add_column.new.sums.items
          column.entries p (omega (arith, c.loop-word-test.true, length-map words letters_of)) c.loop-word.invariant.sums
          (ap coefficient (sym here)
          ∙ sym (family-at A members polynomials column.number (λ i j l m e. closed.distinct i j l m e)
          (element-at A g members closed column.number prefix.inside) c.requires.count prefix.inside)
          ∙ ap (family_of A members polynomials) named)
          c.add_column.ensures.size (subst (λ (v : List ℕ). IsColumn A members v column.entries) named prefix.entries)
          c.add_column.ensures.sum;
      small = sums-grown c.loop-word.sums.items c.add_column.new.sums.items column.entries p n c.add_column.ensures.size
          c.loop-word.invariant.small c.add_column.ensures.sum;
    }

pub returns : goal.returns
returns c =
    let words = c.as_slice-word-items.result.now
    in sums-reordered (integer_matrix c.args.ctx.now.matrix) c.args.ctx.now.members c.args.polynomials.now c.args.ctx.now.members
    (map letters_of words) c.loop-word.sums.items
    (rw c.as_slice-word-items.ensures.value (c.in_ok-words.ensures {u = tt}).permutation)
    (rw (take_all c.loop-word.word-index (map letters_of words) (omega (arith, c.loop-word-test.false, length-map words letters_of)))
    at c.loop-word.invariant.sums)
