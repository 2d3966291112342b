-- A child is appended exactly where it is the next member.
use Rattle.std.proofs.Common.{rules, ◌≡◌, ◌≤◌, ◌+◌, ◌∷◌, ◌++◌, [], length, arith}
use Rattle.cox_context.specs.declared.members.TheConstants.{MAX_MEMBERS}
use Rattle.cox_context.specs.Numbers.{word_at}
use Rattle.cox_context.specs.Building.{IsWanted}
use Rattle.cox_context.proofs.Ideals.{member-tailed}
use Rattle.cox_context.proofs.GrowingMembers.{growing-letter}
use Rattle.cox_context.proofs.NextChild.{member-closed, growing-no_next, growing-next, prefix-next}
use Rattle.cox_lemmas.proofs.PushedItems.{push-length}
use Rattle.cox_context.proofs.builder.Builder.grow_letter.Goals as goal
use Rattle.cox_context.proofs.builder.Builder.grow_letter.Goals.{in-Some+in_ok-add, in_default}

pub add-requires-clause-prefix : goal.add-requires-clause-prefix
add-requires-clause-prefix c =
    let v = c.loop-parent.self
    in let matrix = rw (← c.loop-parent.invariant.search) at c.rank-rank.ensures.matrix
    in let letter = rw (← c.loop-parent.invariant.search) at c.requires.letter
    in let few : length v.members ≤ MAX_MEMBERS = omega (arith, c.len-len.ensures.len, c.len-len.ensures.few)
    in prefix-next v.search.matrix matrix v.search.top c.args.letters c.args.low c.args.high c.args.s
    c.loop-parent.parent v.members c.loop-parent.invariant.growing c.requires.short few c.in-Some.lower letter c.loop-parent-test.true
    c.in-Some.ensures.next

pub add-requires-clause-closed : goal.add-requires-clause-closed
add-requires-clause-closed c = λ room.
    let v = c.loop-parent.self
    in let matrix = rw (← c.loop-parent.invariant.search) at c.rank-rank.ensures.matrix
    in let letter = rw (← c.loop-parent.invariant.search) at c.requires.letter
    in let few : length v.members ≤ MAX_MEMBERS = omega (arith, room)
    in let growing = growing-next v.search.matrix matrix v.search.top c.args.letters c.args.low c.args.high
    c.args.s c.loop-parent.parent v.members c.loop-parent.invariant.growing c.requires.short few c.in-Some.lower letter
    c.loop-parent-test.true c.in-Some.ensures.next
    in member-closed v.search.matrix matrix v.search.top c.args.letters c.args.low c.args.high c.args.s
    (c.loop-parent.parent + 1) (v.members ++ (c.args.s ∷ word_at v.members c.loop-parent.parent) ∷ []) growing c.requires.short
    (omega (arith, room, push-length v.members (c.args.s ∷ word_at v.members c.loop-parent.parent)))

pub returns-in_err-add-clause-fault : goal.returns-in_err-add-clause-fault
returns-in_err-add-clause-fault c = rw (← c.loop-parent.invariant.search) (search rules)

pub loop-parent-preserved : goal.loop-parent-preserved
loop-parent-preserved c =
    let v = c.loop-parent.self
    in let matrix = rw (← c.loop-parent.invariant.search) at c.rank-rank.ensures.matrix
    in let letter = rw (← c.loop-parent.invariant.search) at c.requires.letter
    in let few : length v.members ≤ MAX_MEMBERS = omega (arith, c.len-len.ensures.len, c.len-len.ensures.few)
    in elim c.match-child.branch [
      | in-Some+in_ok-add w ↦
          rw (w.self-is, w.in_ok-add.ensures.added) (record {
            search = c.loop-parent.invariant.search;
            growing = growing-next v.search.matrix matrix v.search.top c.args.letters c.args.low c.args.high
                c.args.s c.loop-parent.parent v.members c.loop-parent.invariant.growing c.requires.short few w.in-Some.lower letter
                c.loop-parent-test.true w.in-Some.ensures.next;
          })
      | in_default w ↦
          rw w.self-is (record {
            search = c.loop-parent.invariant.search;
            growing = growing-no_next v.search.matrix matrix v.search.top c.args.letters c.args.low c.args.high
                c.args.s c.loop-parent.parent v.members c.loop-parent.invariant.growing c.loop-parent-test.true
                w.in_default.ensures.none;
          })
    ]

pub returns-clause-growing : goal.returns-clause-growing
returns-clause-growing c =
    let v = c.loop-parent.self
    in let matrix = rw (← c.loop-parent.invariant.search) at c.rank-rank.ensures.matrix
    in let last : c.loop-parent.parent ≡ c.args.high = omega (arith, c.requires.growing.stop)
    in growing-letter v.search.matrix.rank (IsWanted v.search)
    (member-tailed v.search.matrix matrix v.search.top) c.args.letters c.args.low c.args.high c.args.s v.members
    c.requires.growing.stop (rw last at c.loop-parent.invariant.growing)
