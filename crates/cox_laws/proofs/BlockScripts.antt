-- The lines of a block are answered as a script.
use Rattle.std.proofs.Common.{◌≡◌, ℕ, List, [], ◌∷◌, None, map, sym, suc, arith}
use Rattle.std.specs.Prelude.{All}
use Rattle.cox_tokens.specs.Line.{content_of}
use Rattle.cox_shell.specs.Reply.{State, Reply}
use Rattle.cox_shell.specs.ContentReply.{IsContentReply}
use Rattle.cox_shell.specs.Blocks.{AreBlockLineReplies}
use Rattle.cox_shell.specs.LineReply.{IsReply}
use Rattle.cox_laws.specs.BlockScripts.{CanStand, kept_of}
use Rattle.cox_shell.specs.Answer.{AreReplies}
use Rattle.cox_shell.proofs.BlockLines.{block_reply-state, block_reply-going}
use Rattle.cox_shell.proofs.OpenListReplies.{outside_reply}
use Rattle.cox_shell.proofs.LineReplies.{AreReplies-cons}

pub block-script : (state : State) → state.list ≡ None → (lines : List (List ℕ)) → All CanStand lines → (replies : List Reply)
    → AreBlockLineReplies state (map kept_of lines) replies → AreReplies state lines replies
block-script state none [] can replies are = are
block-script state none (line ∷ lines) can [] are = absurd are
block-script state none (line ∷ lines) can (reply ∷ replies) are =
    let here : CanStand line = can 0 line (omega arith) in
    let content : IsContentReply state (content_of line) reply = rw here.1 at are.0 in
    let is : IsReply state line reply = rw here.0 (outside_reply state (content_of line) reply none content) in
    AreReplies-cons state state line reply lines replies is (block_reply-going state (content_of line) reply here.1 content)
    (sym (block_reply-state state (content_of line) reply here.1 content))
    (block-script state none lines (λ k d within. can (suc k) d (omega (arith, within))) replies are.1)
