-- The elements s z that are no members are appended first, and then s x.
use Rattle.std.proofs.Common.{rules, ◌≡◌, ◌<◌, ◌≤◌, ◌∷◌, ◌++◌, [], Contains, length, ⊎_elim, ◌∙◌, arith, IfErr}
use Rattle.std.proofs.lemmas.Bool.{cases_lt}
use Rattle.cox_base.specs.IntegerMatrix.{integer_matrix}
use Rattle.cox_base.specs.ShortLex.{normal_form}
use Rattle.cox_reflect.proofs.Search.{normal_form-same}
use Rattle.cox_reflect.proofs.Bruhat.{below-refl}
use Rattle.cox_reflect.proofs.NormalElements.{element-normal_form}
use Rattle.cox_context.specs.Appending.{without_letter}
use Rattle.cox_context.specs.Closed.{IsClosed}
use Rattle.cox_context.specs.FaultMeaning.{IsOverfull}
use Rattle.cox_context.specs.Numbers.{word_at}
use Rattle.cox_context.specs.Spread.{AreAppended, IsGrownBy}
use Rattle.cox_context.specs.Union.{IsInUnion}
use Rattle.cox_context.proofs.PlacedWords.{contains-at}
use Rattle.cox_context.proofs.AppendedEnds.{appended-trans, appended-more, appended-one}
use Rattle.cox_context.proofs.ExchangedMembers.{shorter-below, shorter-short, shorter-absent, shorter-done, next-member, kept-contains}
use Rattle.cox_context.proofs.UnionSizes.{overfull-one, overfull-below}
use Rattle.cox_context.proofs.exchange.+append_shift.Goals as goal

pub append_shift-requires : goal.append_shift-requires
append_shift-requires t c =
    let M = c.args.context.now.matrix
    in let A = integer_matrix M
    in let old = c.args.context.now.members
    in let mid = c.loop-at.context.members
    in let h = c.loop-at.invariant
    in let x = word_at old c.args.i
    in let here : word_at mid c.args.i ≡ x = h.appended.kept.word c.args.i c.requires.member
    in let within : c.loop-at.at < length x = omega (arith, c.loop-at-test.true, c.length-at-end.ensures.length)
    in let closed : IsClosed A mid = rw h.matrix at c.len-count-in-loop-at.ensures.closed
    in let number : word_at mid c.without_letter-shorter.result ≡ normal_form A (without_letter c.loop-at.at x)
    = rw (h.matrix, here) at c.without_letter-shorter.ensures.word
    in let there : Contains mid x = kept-contains old mid h.appended.kept x (contains-at old c.args.i c.requires.member)
    in let short = shorter-short M c.len-count.ensures.admissible mid closed c.args.s x c.requires.letter there h.none c.loop-at.at within
    c.requires.short
    in (
      omega (arith, c.without_letter-shorter.ensures.shorter),
      (rw h.matrix c.requires.letter, (c.without_letter-shorter.ensures.member, (rw number short, (c.requires.limit, h.few)))),
    )

pub returns-in_err-append_shift-clause-appended : goal.returns-in_err-append_shift-clause-appended
returns-in_err-append_shift-clause-appended t c =
    let M = c.args.context.now.matrix
    in let A = integer_matrix M
    in let old = c.args.context.now.members
    in let mid = c.loop-at.context.members
    in let new = c.append_shift.new.context.members
    in let h = c.loop-at.invariant
    in let x = word_at old c.args.i
    in let here : word_at mid c.args.i ≡ x = h.appended.kept.word c.args.i c.requires.member
    in let within : c.loop-at.at < length x = omega (arith, c.loop-at-test.true, c.length-at-end.ensures.length)
    in let closed : IsClosed A mid = rw h.matrix at c.len-count-in-loop-at.ensures.closed
    in let number : word_at mid c.without_letter-shorter.result ≡ normal_form A (without_letter c.loop-at.at x)
    = rw (h.matrix, here) at c.without_letter-shorter.ensures.word
    in let there : Contains mid x = kept-contains old mid h.appended.kept x (contains-at old c.args.i c.requires.member)
    in let below = shorter-below M c.len-count.ensures.admissible mid closed c.args.s x c.requires.letter there h.none c.loop-at.at within
    in let more : AreAppended A (c.args.s ∷ normal_form A (without_letter c.loop-at.at x)) mid new
    = rw (h.matrix, number) at c.append_shift.ensures.appended
    in appended-trans A (c.args.s ∷ x) old mid new h.appended
    (appended-more A (c.args.s ∷ normal_form A (without_letter c.loop-at.at x)) (c.args.s ∷ x) mid new below more)

pub returns-in_err-append_shift-clause-refused : goal.returns-in_err-append_shift-clause-refused
returns-in_err-append_shift-clause-refused t c =
    let M = c.args.context.now.matrix
    in let A = integer_matrix M
    in let old = c.args.context.now.members
    in let mid = c.loop-at.context.members
    in let h = c.loop-at.invariant
    in let x = word_at old c.args.i
    in let here : word_at mid c.args.i ≡ x = h.appended.kept.word c.args.i c.requires.member
    in let within : c.loop-at.at < length x = omega (arith, c.loop-at-test.true, c.length-at-end.ensures.length)
    in let closed : IsClosed A mid = rw h.matrix at c.len-count-in-loop-at.ensures.closed
    in let number : word_at mid c.without_letter-shorter.result ≡ normal_form A (without_letter c.loop-at.at x)
    = rw (h.matrix, here) at c.without_letter-shorter.ensures.word
    in let there : Contains mid x = kept-contains old mid h.appended.kept x (contains-at old c.args.i c.requires.member)
    in let below = shorter-below M c.len-count.ensures.admissible mid closed c.args.s x c.requires.letter there h.none c.loop-at.at within
    in let told : IfErr c.from_residual.result (IsOverfull (IsInUnion (integer_matrix c.loop-at.context.matrix)
    (c.args.s ∷ word_at mid c.without_letter-shorter.result) mid) c.args.limit) = search rules
    in overfull-below A c.len-count.ensures.admissible (c.args.s ∷ x) (c.args.s ∷ normal_form A (without_letter c.loop-at.at x)) old mid
    h.appended below c.args.limit c.from_residual.result (rw (h.matrix, number) at told)

pub loop-at-preserved : goal.loop-at-preserved
loop-at-preserved t c =
    let M = c.args.context.now.matrix
    in let A = integer_matrix M
    in let g = c.len-count.ensures.admissible
    in let old = c.args.context.now.members
    in let mid = c.loop-at.context.members
    in let new = c.append_shift.new.context.members
    in let h = c.loop-at.invariant
    in let s = c.args.s
    in let x = word_at old c.args.i
    in let here : word_at mid c.args.i ≡ x = h.appended.kept.word c.args.i c.requires.member
    in let within : c.loop-at.at < length x = omega (arith, c.loop-at-test.true, c.length-at-end.ensures.length)
    in let closed : IsClosed A mid = rw h.matrix at c.len-count-in-loop-at.ensures.closed
    in let number : word_at mid c.without_letter-shorter.result ≡ normal_form A (without_letter c.loop-at.at x)
    = rw (h.matrix, here) at c.without_letter-shorter.ensures.word
    in let there : Contains mid x = kept-contains old mid h.appended.kept x (contains-at old c.args.i c.requires.member)
    in let below = shorter-below M g mid closed s x c.requires.letter there h.none c.loop-at.at within
    in let more : AreAppended A (s ∷ normal_form A (without_letter c.loop-at.at x)) mid new
    = rw (h.matrix, number) at c.append_shift.ensures.appended
    in let this : Contains new (normal_form A (s ∷ without_letter c.loop-at.at x))
    = shorter-done M g mid closed s x c.requires.letter there h.none c.loop-at.at within new more c.in_ok-append_shift.field-0
    (rw (h.matrix, number) at c.in_ok-append_shift.ensures.number)
    in record {
      matrix = c.append_shift.ensures.matrix ∙ h.matrix;
      appended = appended-trans A (s ∷ x) old mid new h.appended
          (appended-more A (s ∷ normal_form A (without_letter c.loop-at.at x)) (s ∷ x) mid new below more);
      few = c.append_shift.ensures.few;
      none = shorter-absent M g mid closed s x c.requires.letter there h.none c.loop-at.at within new more;
      done = λ k l. ⊎_elim
          (λ (before : k < c.loop-at.at). kept-contains mid new more.kept (normal_form A (s ∷ without_letter k x)) (h.done k before))
          (λ (last : c.loop-at.at ≤ k). let e : k ≡ c.loop-at.at = omega (arith, last, l) in rw e this) (cases_lt k c.loop-at.at);
    }

pub append_next-requires-clause-next : goal.append_next-requires-clause-next
append_next-requires-clause-next t c =
    let M = c.args.context.now.matrix
    in let A = integer_matrix M
    in let old = c.args.context.now.members
    in let mid = c.loop-at.context.members
    in let h = c.loop-at.invariant
    in let x = word_at old c.args.i
    in let here : word_at mid c.args.i ≡ x = h.appended.kept.word c.args.i c.requires.member
    in let all : length x ≤ c.loop-at.at = omega (arith, c.loop-at-test.false, c.length-at-end.ensures.length)
    in let closed : IsClosed A mid = rw h.matrix at c.len-count-2.ensures.closed
    in let there : Contains mid x = kept-contains old mid h.appended.kept x (contains-at old c.args.i c.requires.member)
    in rw h.matrix (next-member M c.len-count.ensures.admissible mid closed c.args.s x c.requires.letter there h.none c.requires.short
    (λ k l. h.done k (omega (arith, l, all))) c.args.i here)

pub returns-clause-appended : goal.returns-clause-appended
returns-clause-appended t c =
    let A = integer_matrix c.args.context.now.matrix
    in let old = c.args.context.now.members
    in let mid = c.loop-at.context.members
    in let new = c.append_next.new.context.members
    in let h = c.loop-at.invariant
    in let x = word_at old c.args.i
    in let here : word_at mid c.args.i ≡ x = h.appended.kept.word c.args.i c.requires.member
    in let y = normal_form A (c.args.s ∷ x)
    in let grown : IsGrownBy y mid new = rw (h.matrix, here) at c.append_next.ensures.members
    in appended-trans A (c.args.s ∷ x) old mid new h.appended (appended-one A (c.args.s ∷ x) y mid new
    (below-refl A c.len-count.ensures.admissible (normal_form-same A c.len-count.ensures.admissible (c.args.s ∷ x))) grown)

pub returns-clause-refused : goal.returns-clause-refused
returns-clause-refused t c =
    let A = integer_matrix c.args.context.now.matrix
    in let g = c.len-count.ensures.admissible
    in let old = c.args.context.now.members
    in let mid = c.loop-at.context.members
    in let h = c.loop-at.invariant
    in let x = word_at old c.args.i
    in let here : word_at mid c.args.i ≡ x = h.appended.kept.word c.args.i c.requires.member
    in let y = normal_form A (c.args.s ∷ x)
    in let closed : IsClosed A mid = rw h.matrix at c.len-count-2.ensures.closed
    in let told : IfErr c.append_next.result (IsOverfull (Contains (mid ++ y ∷ [])) c.args.limit)
    = rw (h.matrix, here) at c.append_next.ensures.refused
    in overfull-one A g (c.args.s ∷ x) y old mid closed h.appended (element-normal_form A g (c.args.s ∷ x))
    (below-refl A g (normal_form-same A g (c.args.s ∷ x))) c.args.limit c.append_next.result told
