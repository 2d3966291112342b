-- The letters of the element are those of the group.
use Rattle.cox_cert.proofs.Judgings.{draft-letters}
use Rattle.cox_cert.proofs.judging.has_top.Goals as goal

pub normal_form-requires-clause-letters : goal.normal_form-requires-clause-letters
normal_form-requires-clause-letters c = draft-letters c.args.draft.now c.requires
