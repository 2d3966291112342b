-- A block of a list is answered in one way.
use Rattle.std.proofs.Common.{◌++◌, ◌∷◌, List, ap, ◌∙◌, subst}
use Rattle.std.proofs.lemmas.Grind.{flat_map-append}
use Rattle.cox_shell.specs.Reply.{Kept}
use Rattle.cox_shell.specs.OpenLists.{kept_lines}
use Rattle.cox_shell.specs.Blocks.{AreBlockLineReplies}
use Rattle.cox_shell.proofs.ListReplies.{AreBlockLineReplies-unique, split_replies}
use Rattle.cox_laws.proofs.laws.blocks_are_alone.Goals as goal

pub returns : goal.returns
returns c = λ state matrix before after block replies alone are by_itself.
    let all = split_replies state (kept_lines before) (kept_lines (block ∷ after)) replies
    (subst (λ l. AreBlockLineReplies state l replies) (flat_map-append (λ (b : List Kept). b) before (block ∷ after)) are) in
    let rest = split_replies state block (kept_lines after) all.1 all.3 in (
      all.0,
      rest.1,
      all.2,
      rest.3,
      all.4 ∙ ap (λ q. all.0 ++ q)
          (rest.4 ∙ ap (λ p. p ++ rest.1) (AreBlockLineReplies-unique state matrix block rest.0 alone rest.2 by_itself)),
    )
