-- Up to here the words are the members.
use Rattle.std.proofs.Common.{◌≡◌, take}
use Rattle.cox_cert.specs.Drafts.{letters_of}
use Rattle.cox_cert.proofs.judging.has_members.Given as goal

abbrev pub invariant-loop-i : goal.invariant-loop-i
invariant-loop-i l = take l.i l.context.members ≡ take l.i (letters_of l.words)
