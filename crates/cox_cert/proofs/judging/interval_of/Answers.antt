-- The proof of `interval_of`.
use Rattle.std.proofs.Common.{◌≡◌, ◌≤◌, ℕ, List, length, sym, ap, ◌∙◌, arith}
use Rattle.std.proofs.lemmas.Bool.{false≢true}
use Rattle.std.proofs.lemmas.List.{length-map}
use Rattle.arrayvec.specs.ArrayVec.{ArrayVec}
use Rattle.cox_base.specs.declared.limits.TheConstants.{MAX_LETTERS}
use Rattle.cox_base.specs.IntegerMatrix.{IntegerMatrix, integer_matrix}
use Rattle.cox_base.specs.Admissible.{IsAdmissible}
use Rattle.cox_reflect.proofs.Admissible.{IsAdmissible-integer_matrix}
use Rattle.cox_reflect.proofs.Search.{word_length-length}
use Rattle.cox_base.specs.Members.{IsInInterval}
use Rattle.cox_base.specs.SortedList.{IsListOf}
use Rattle.cox_context.specs.FaultMeaning.{IsRefusal}
use Rattle.cox_context.specs.declared.fault.ContextFault.{ContextFault}
use Rattle.cox_context.specs.declared.fault.ContextFault.TheVariants.{Size, Long}
use Rattle.cox_context.proofs.ClosedContexts.{interval-length}
use Rattle.cox_context.proofs.ShortLexLists.{IsListOf-unique, HasMoreThan-few}
use Rattle.cox_context.proofs.IntervalLists.{interval-refused}
use Rattle.cox_cert.specs.Drafts.{letters_of}
use Rattle.cox_cert.proofs.Judgings.{draft-letters, draft-few}
use Rattle.cox_cert.proofs.judging.interval_of.Goals as goal

-- an interval that is refused for its size has no list so short
interval-size : (A : IntegerMatrix) → IsAdmissible A → (limit : ℕ) (w : List ℕ) → length w ≤ MAX_LETTERS → (fault : ContextFault)
    → (bound seen : ℕ) → fault ≡ Size bound seen → IsRefusal (IsInInterval A w) limit fault → (words : List (List ℕ))
    → length words ≤ limit → ¬ IsListOf (IsInInterval A w) words
interval-size A g limit w short fault bound seen is refusal words few list =
    HasMoreThan-few (IsInInterval A w) limit words list few
    (interval-refused A g limit w short fault refusal (λ memory. absurd (cc (is, memory))))

-- none is refused for a long member
interval-long : (A : IntegerMatrix) → IsAdmissible A → (limit : ℕ) (w : List ℕ) → length w ≤ MAX_LETTERS → (fault : ContextFault)
    → fault ≡ Long → IsRefusal (IsInInterval A w) limit fault → ⊥
interval-long A g limit w short fault is refusal =
    let long = rw is at refusal in omega (arith, interval-length A g w long.long long.member, long.letters, word_length-length A g w)

pub of_short_interval-requires-clause-letters : goal.of_short_interval-requires-clause-letters
of_short_interval-requires-clause-letters c = draft-letters c.args.draft.now c.requires.certificate

pub returns-then-not-has_members-clause-interval : goal.returns-then-not-has_members-clause-interval
returns-then-not-has_members-clause-interval c = λ list.
    let draft = c.args.draft.now in
    false≢true (c.if-not-has_members.ensures.1 (IsListOf-unique (IsInInterval (integer_matrix draft.group) draft.top.items)
    c.in-Ok.context.members (letters_of draft.words.items) c.in-Ok.ensures.members list
    ∙ ap letters_of (sym c.as_slice.ensures.value)))

pub returns-in-Err-Size-clause-interval : goal.returns-in-Err-Size-clause-interval
returns-in-Err-Size-clause-interval c =
    let draft = c.args.draft.now in
    let few : length (letters_of draft.words.items) ≤ 4096 =
    omega (arith, draft-few draft c.requires.certificate, length-map draft.words.items (λ (w : ArrayVec ℕ). w.items)) in
    interval-size (integer_matrix draft.group) (IsAdmissible-integer_matrix draft.group c.rank-rank.ensures.matrix) _ draft.top.items
    (omega (arith, c.requires.top.short)) _ _ _ c.in-Err-Size.field-0-is
    (rw c.in-Err-Size.is at c.of_short_interval.ensures.refused) (letters_of draft.words.items) few

pub unreachable-requires : goal.unreachable-requires
unreachable-requires c =
    let draft = c.args.draft.now in
    interval-long (integer_matrix draft.group) (IsAdmissible-integer_matrix draft.group c.rank-rank.ensures.matrix) _ draft.top.items
    (omega (arith, c.requires.top.short)) _ c.in-Err-Long.field-0-is (rw c.in-Err-Long.is at c.of_short_interval.ensures.refused)
