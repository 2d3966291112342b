-- The proof of `put_kept`.
use Rattle.cox_answers.proofs.workspace.Workspace.put_kept.Goals as goal

pub find-requires : goal.find-requires
find-requires c = c.need_of.ensures.letters c.args.self.now.table.rank c.requires.words
