-- The proof of `members_below_length`.
use Rattle.std.proofs.Common.{◌≡◌, ◌+◌, ℕ, List, Bool, ◌==◌, true, false, length, arith}
use Rattle.std.proofs.lemmas.Grind.{common_steps}
use Rattle.cox_context.specs.Numbers.{word_at}
use Rattle.cox_replies.proofs.MemberLists.{IsKept-more, IsKept-same}
use Rattle.cox_replies.proofs.intervals.members_below_length.Goals as goal
use Rattle.cox_replies.proofs.intervals.members_below_length.Goals.{then-length-letters+in_ok-push, else-length-letters}

pub loop-i-preserved : goal.loop-i-preserved
loop-i-preserved c =
    let members = c.args.context.now.members in
    let i = c.loop-i.i in
    let test : List ℕ → Bool = λ word. length word + 1 == c.args.letters in
    let is : c.length.result ≡ length (word_at members i) = c.length.ensures.length in
    elim c.if-length-letters.branch [
      | then-length-letters+in_ok-push w ↦
          let passes : test (word_at members i) ≡ true = rw (← is) (grind (arith, common_steps, w.if-length-letters.true)) in
          rw w.found-is (IsKept-more test members i c.loop-i.found.items _ c.loop-i.invariant (omega arith) passes
          (w.in_ok-push.ensures {u = tt}).items)
      | else-length-letters w ↦
          let fails : test (word_at members i) ≡ false = rw (← is) (grind (arith, common_steps, w.if-length-letters.false)) in
          rw w.found-is (IsKept-same test members i c.loop-i.found.items c.loop-i.invariant (omega arith) fails)
    ]
