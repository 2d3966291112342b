-- From none of the words to all that there were.
use Rattle.std.proofs.Common.{rules, ◌≡◌, ℕ, ◌<◌, ◌∷◌, List, length, drop, get_or, slice_index, arith, refl, ◌∙◌, ap, ◌++◌, []}
use Rattle.std.specs.Prelude.{Contains, IfErr}
use Rattle.cox_base.specs.IntegerMatrix.{integer_matrix}
use Rattle.cox_base.specs.ShortLex.{normal_form}
use Rattle.cox_base.specs.Bruhat.{IsBelow}
use Rattle.cox_reflect.proofs.NormalElements.{element-normal_form}
use Rattle.cox_context.specs.FaultMeaning.{IsOverfull}
use Rattle.cox_context.specs.Numbers.{word_at}
use Rattle.cox_context.specs.Spread.{listed_words, AreAppended}
use Rattle.cox_context.proofs.AppendedEnds.{end-start, end-found, end-next, end-below, end-member, appended-none, appended-trans}
use Rattle.cox_context.proofs.AppendedEnds.{appended-one}
use Rattle.cox_context.proofs.ListedMembers.{listed-length, listed-at}
use Rattle.cox_context.proofs.UnionSizes.{overfull-one}
use Rattle.cox_context.proofs.appending.step.Goals as goal

pub loop-place-init : goal.loop-place-init
loop-place-init c = record {
  matrix = refl;
  appended = appended-none (integer_matrix c.args.context.now.matrix) (drop c.args.at c.args.top.now.items) c.args.context.now.members;
  few = c.requires.room;
  marked = c.requires.marked;
  found = rw (listed-length c.args.context.now.members c.args.found.now.numbers.items) at
      (end-start c.args.context.now.matrix c.len-count.ensures.admissible c.args.top.now.items c.requires.top c.args.at c.requires.at
      (listed_words c.args.context.now.members c.args.found.now.numbers.items) c.requires.found);
}

pub find-requires-clause-place : goal.find-requires-clause-place
find-requires-clause-place c =
    let M = c.args.context.now.matrix
    in let A = integer_matrix M
    in let g = c.len-count.ensures.admissible
    in let top = c.args.top.now.items
    in let mid = c.loop-place.context.members
    in let numbers = c.loop-place.found.numbers.items
    in let h = c.loop-place.invariant
    in let s : get_or c.deref.result.now c.args.at 0 ≡ slice_index top c.args.at
    = ap (λ (letters : List ℕ). get_or letters c.args.at 0) c.deref.ensures.0
    in let inside : c.loop-place.place < length c.args.found.now.numbers.items = search rules
    in let within : c.loop-place.place < length numbers = omega (arith, inside, h.found.many, listed-length mid numbers)
    in let read = listed-at mid numbers c.loop-place.place within
    in within

pub find-requires-clause-next : goal.find-requires-clause-next
find-requires-clause-next c =
    let M = c.args.context.now.matrix
    in let A = integer_matrix M
    in let g = c.len-count.ensures.admissible
    in let top = c.args.top.now.items
    in let mid = c.loop-place.context.members
    in let numbers = c.loop-place.found.numbers.items
    in let h = c.loop-place.invariant
    in let s : get_or c.deref.result.now c.args.at 0 ≡ slice_index top c.args.at
    = ap (λ (letters : List ℕ). get_or letters c.args.at 0) c.deref.ensures.0
    in let inside : c.loop-place.place < length c.args.found.now.numbers.items = search rules
    in let within : c.loop-place.place < length numbers = omega (arith, inside, h.found.many, listed-length mid numbers)
    in let read = listed-at mid numbers c.loop-place.place within
    in let closed = rw h.matrix at c.len-count-in-loop-place.ensures.closed
    in rw (h.matrix, s) (λ none. end-member M g top c.requires.top c.args.at c.requires.at mid closed c.loop-place.found.marks.items numbers
    h.marked (length c.args.found.now.numbers.items) c.loop-place.place inside within h.found none)

pub returns-in_err-find-clause-appended : goal.returns-in_err-find-clause-appended
returns-in_err-find-clause-appended c =
    let M = c.args.context.now.matrix
    in let A = integer_matrix M
    in let g = c.len-count.ensures.admissible
    in let top = c.args.top.now.items
    in let mid = c.loop-place.context.members
    in let numbers = c.loop-place.found.numbers.items
    in let h = c.loop-place.invariant
    in let s : get_or c.deref.result.now c.args.at 0 ≡ slice_index top c.args.at
    = ap (λ (letters : List ℕ). get_or letters c.args.at 0) c.deref.ensures.0
    in let inside : c.loop-place.place < length c.args.found.now.numbers.items = search rules
    in let within : c.loop-place.place < length numbers = omega (arith, inside, h.found.many, listed-length mid numbers)
    in let read = listed-at mid numbers c.loop-place.place within
    in let below : IsBelow A (normal_form A (slice_index top c.args.at ∷ word_at mid (slice_index numbers c.loop-place.place)))
    (drop c.args.at top)
    = rw read at (end-below M g top c.requires.top c.args.at c.requires.at (length c.args.found.now.numbers.items) c.loop-place.place
    (listed_words mid numbers) inside h.found)
    in let grown = rw (h.matrix, s) at c.find.ensures.members
    in let appended : AreAppended A (drop c.args.at top) c.args.context.now.members c.find.new.context.members
    = appended-trans A (drop c.args.at top) c.args.context.now.members mid c.find.new.context.members h.appended
    (appended-one A (drop c.args.at top)
    (normal_form A (slice_index top c.args.at ∷ word_at mid (slice_index numbers c.loop-place.place))) mid
    c.find.new.context.members below grown)
    in appended

pub returns-in_err-find-clause-refused : goal.returns-in_err-find-clause-refused
returns-in_err-find-clause-refused c =
    let M = c.args.context.now.matrix
    in let A = integer_matrix M
    in let g = c.len-count.ensures.admissible
    in let top = c.args.top.now.items
    in let mid = c.loop-place.context.members
    in let numbers = c.loop-place.found.numbers.items
    in let h = c.loop-place.invariant
    in let s : get_or c.deref.result.now c.args.at 0 ≡ slice_index top c.args.at
    = ap (λ (letters : List ℕ). get_or letters c.args.at 0) c.deref.ensures.0
    in let inside : c.loop-place.place < length c.args.found.now.numbers.items = search rules
    in let within : c.loop-place.place < length numbers = omega (arith, inside, h.found.many, listed-length mid numbers)
    in let read = listed-at mid numbers c.loop-place.place within
    in let shifted = slice_index top c.args.at ∷ word_at mid (slice_index numbers c.loop-place.place)
    in let below : IsBelow A (normal_form A shifted) (drop c.args.at top)
    = rw read at (end-below M g top c.requires.top c.args.at c.requires.at (length c.args.found.now.numbers.items) c.loop-place.place
    (listed_words mid numbers) inside h.found)
    in let told : IfErr c.from_residual.result (IsOverfull (Contains (mid ++ normal_form (integer_matrix c.loop-place.context.matrix)
    (get_or c.deref.result.now c.args.at 0 ∷ word_at mid (slice_index numbers c.loop-place.place)) ∷ [])) c.args.limit) = search rules
    in overfull-one A g (drop c.args.at top) (normal_form A shifted) c.args.context.now.members mid
    (rw h.matrix at c.len-count-in-loop-place.ensures.closed) h.appended (element-normal_form A g shifted) below c.args.limit
    c.from_residual.result (rw (h.matrix, s) at told)

pub loop-place-preserved : goal.loop-place-preserved
loop-place-preserved c =
    let M = c.args.context.now.matrix
    in let A = integer_matrix M
    in let g = c.len-count.ensures.admissible
    in let top = c.args.top.now.items
    in let mid = c.loop-place.context.members
    in let numbers = c.loop-place.found.numbers.items
    in let h = c.loop-place.invariant
    in let s : get_or c.deref.result.now c.args.at 0 ≡ slice_index top c.args.at
    = ap (λ (letters : List ℕ). get_or letters c.args.at 0) c.deref.ensures.0
    in let inside : c.loop-place.place < length c.args.found.now.numbers.items = search rules
    in let within : c.loop-place.place < length numbers = omega (arith, inside, h.found.many, listed-length mid numbers)
    in let read = listed-at mid numbers c.loop-place.place within
    in let below : IsBelow A (normal_form A (slice_index top c.args.at ∷ word_at mid (slice_index numbers c.loop-place.place)))
    (drop c.args.at top)
    = rw read at (end-below M g top c.requires.top c.args.at c.requires.at (length c.args.found.now.numbers.items) c.loop-place.place
    (listed_words mid numbers) inside h.found)
    in let grown = rw (h.matrix, s) at c.find.ensures.members
    in let appended : AreAppended A (drop c.args.at top) c.args.context.now.members c.find.new.context.members
    = appended-trans A (drop c.args.at top) c.args.context.now.members mid c.find.new.context.members h.appended
    (appended-one A (drop c.args.at top)
    (normal_form A (slice_index top c.args.at ∷ word_at mid (slice_index numbers c.loop-place.place))) mid
    c.find.new.context.members below grown)
    in let next = rw (h.matrix, s, ← read) at c.in_ok-find.ensures.found
    in record {
      matrix = c.find.ensures.matrix ∙ h.matrix;
      appended = appended;
      few = c.find.ensures.few;
      marked = c.in_ok-find.ensures.marked;
      found = end-next M g top c.requires.top c.args.at c.requires.at (length c.args.found.now.numbers.items) c.loop-place.place
          (listed_words mid numbers) (listed_words c.find.new.context.members c.find.new.self.numbers.items) inside h.found next;
    }

pub returns-clause-found : goal.returns-clause-found
returns-clause-found c =
    let all : c.loop-place.place ≡ length c.args.found.now.numbers.items = search rules
    in let done = rw all at c.loop-place.invariant.found
    in end-found c.args.context.now.matrix c.len-count.ensures.admissible c.args.top.now.items c.requires.top c.args.at c.requires.at
    (length c.args.found.now.numbers.items) (listed_words c.loop-place.context.members c.loop-place.found.numbers.items) done
