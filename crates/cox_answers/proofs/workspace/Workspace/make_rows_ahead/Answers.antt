-- The letters of the words are those of the group.
use Rattle.cox_answers.proofs.workspace.Workspace.make_rows_ahead.Goals as goal

pub asked_members-requires-clause-words : goal.asked_members-requires-clause-words
asked_members-requires-clause-words g c =
    let words = rw (← c.self.view_is) at c.requires.words in rw c.table.ensures words
