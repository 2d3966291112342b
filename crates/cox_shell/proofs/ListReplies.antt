-- The reply to a line is one and exists, whether a list is open or none, and the group stays a Coxeter matrix.
use Rattle.std.proofs.Common.{◌≡◌, ℕ, Bool, true, false, List, [], ◌∷◌, ◌++◌, Option, Some, None, MatchOption, sym, ◌∙◌, ap, refl}
use Rattle.std.specs.Bool.{MatchBool}
use Rattle.std.specs.Option.{option_or}
use Rattle.cox_tokens.specs.Tokens.{tokens_of}
use Rattle.cox_command.specs.declared.blocks.ListWord.{ListWord}
use Rattle.cox_command.specs.declared.blocks.ListWord.TheVariants.{Next, End}
use Rattle.cox_command.specs.declared.refusal.Refusal.{Refusal}
use Rattle.cox_command.specs.declared.refusal.Refusal.TheVariants.{LongList}
use Rattle.cox_command.specs.BlockLines.{block_refusal, list_word_of}
use Rattle.cox_shell.specs.Reply.{Kept, OpenList, State, Reply, closed, refusal, silence}
use Rattle.cox_shell.specs.ContentReply.{IsContentReply}
use Rattle.cox_shell.specs.OpenLists.{kept_lines, is_long, then_block}
use Rattle.cox_shell.specs.Blocks.{IsBlockLineReply, AreBlockLineReplies, IsListReply, list_answered}
use Rattle.cox_shell.specs.ListReply.{IsWordReply, IsReplyInList, IsReplyTo, reply_when_kept, unread_reply}
use Rattle.cox_shell.proofs.KeptLines.{kept_refusal}
use Rattle.cox_shell.proofs.ContentReply.{IsContentReply-unique}
use Rattle.cox_shell.proofs.ContentReplyExists.{IsContentReply-exists}
use Rattle.cox_shell.proofs.KeptGroup.{HasMatrix, IsContentReply-matrix}

-- what is one where there is no refusal is one; and it exists where it does
by_option : (o : Option Refusal) (P : Reply → Type 0) (state : State) → ((x y : Reply) → P x → P y → x ≡ y) → (x y : Reply)
    → MatchOption o (P x) (λ why. x ≡ refusal state why) → MatchOption o (P y) (λ why. y ≡ refusal state why) → x ≡ y
by_option None P state one x y p q = one x y p q
by_option (Some why) P state one x y p q = p ∙ sym q

some_option : (o : Option Refusal) (P : Reply → Type 0) (state : State) → (r : Reply) × P r
    → (r : Reply) × MatchOption o (P r) (λ why. r ≡ refusal state why)
some_option None P state p = p
some_option (Some why) P state p = (refusal state why, refl)

module _ (state : State) (matrix : HasMatrix state) where
  -- a line of a block has one reply
  IsBlockLineReply-unique : (line : Kept) (one other : Reply) → IsBlockLineReply state line one
      → IsBlockLineReply state line other → one ≡ other
  IsBlockLineReply-unique line = by_option (option_or line.refused (block_refusal (tokens_of line.content)))
      (λ r. IsContentReply state line.content r) state (IsContentReply-unique state line.content matrix)

  kept-exists : (line : Kept) → (reply : Reply) × IsBlockLineReply state line reply
  kept-exists line = some_option (option_or line.refused (block_refusal (tokens_of line.content)))
      (λ r. IsContentReply state line.content r) state (IsContentReply-exists state line.content matrix)

  -- kept lines are answered in one way
  pub AreBlockLineReplies-unique : (lines : List Kept) (one other : List Reply) → AreBlockLineReplies state lines one
      → AreBlockLineReplies state lines other → one ≡ other
  AreBlockLineReplies-unique [] one other p q = p ∙ sym q
  AreBlockLineReplies-unique (line ∷ lines) [] other p q = absurd p
  AreBlockLineReplies-unique (line ∷ lines) (reply ∷ one) [] p q = absurd q
  AreBlockLineReplies-unique (line ∷ lines) (reply ∷ one) (also ∷ other) p q =
      ap (λ l. reply ∷ l) (AreBlockLineReplies-unique lines one other p.1 q.1)
      ∙ ap (λ r. r ∷ other) (IsBlockLineReply-unique line reply also p.0 q.0)

  replies-exist : (lines : List Kept) → (replies : List Reply) × AreBlockLineReplies state lines replies
  replies-exist [] = ([], refl)
  replies-exist (line ∷ lines) =
      let one = kept-exists line in let rest = replies-exist lines in (one.0 ∷ rest.0, (one.1, rest.1))

-- a list is answered in one way
pub IsListReply-unique : (state : State) → HasMatrix state → (list : OpenList) (one other : Reply) → IsListReply state list one
    → IsListReply state list other → one ≡ other
IsListReply-unique state matrix list one other p q = by_test (is_long list) p q where
  by_test : (b : Bool) → MatchBool b (one ≡ refusal (closed state) LongList)
      ((replies : List Reply) × AreBlockLineReplies (closed state) (kept_lines list) replies × (one ≡ list_answered (closed state) replies))
      → MatchBool b (other ≡ refusal (closed state) LongList)
      ((replies : List Reply) × AreBlockLineReplies (closed state) (kept_lines list) replies
      × (other ≡ list_answered (closed state) replies))
      → one ≡ other
  by_test true p q = p ∙ sym q
  by_test false p q = p.2
      ∙ ap (list_answered (closed state)) (AreBlockLineReplies-unique (closed state) matrix (kept_lines list) p.0 q.0 p.1 q.1) ∙ sym q.2

pub IsListReply-exists : (state : State) → HasMatrix state → (list : OpenList) → (reply : Reply) × IsListReply state list reply
IsListReply-exists state matrix list = by_test (is_long list) where
  by_test : (b : Bool) → (reply : Reply) × MatchBool b (reply ≡ refusal (closed state) LongList)
      ((replies : List Reply) × AreBlockLineReplies (closed state) (kept_lines list) replies
      × (reply ≡ list_answered (closed state) replies))
  by_test true = (refusal (closed state) LongList, refl)
  by_test false =
      let replies = replies-exist (closed state) matrix (kept_lines list) in
      (list_answered (closed state) replies.0, (replies.0, replies.1, refl))

-- no list is open after it, and it does not end the run
pub IsListReply-closed : (state : State) (list : OpenList) (reply : Reply) → IsListReply state list reply
    → (reply.after ≡ closed state) × (reply.quits ≡ false)
IsListReply-closed state list reply is = by_test (is_long list) is where
  by_test : (b : Bool) → MatchBool b (reply ≡ refusal (closed state) LongList)
      ((replies : List Reply) × AreBlockLineReplies (closed state) (kept_lines list) replies
      × (reply ≡ list_answered (closed state) replies))
      → (reply.after ≡ closed state) × (reply.quits ≡ false)
  by_test true is = (ap (λ (r : Reply). r.after) is, ap (λ (r : Reply). r.quits) is)
  by_test false is = (ap (λ (r : Reply). r.after) is.2, ap (λ (r : Reply). r.quits) is.2)

module _ (state : State) (list : OpenList) (content : List ℕ) where
  in_list-unique : HasMatrix state → (one other : Reply) → IsReplyInList state list content one → IsReplyInList state list content other
      → one ≡ other
  in_list-unique matrix one other p q = by_word (list_word_of (tokens_of content)) p q where
    by_word : (o : Option ListWord)
        → MatchOption o (one ≡ reply_when_kept state list (record { content = content; refused = None }))
        (λ word. IsWordReply word state list one)
        → MatchOption o (other ≡ reply_when_kept state list (record { content = content; refused = None }))
        (λ word. IsWordReply word state list other) → one ≡ other
    by_word None p q = p ∙ sym q
    by_word (Some Next) p q = p ∙ sym q
    by_word (Some End) p q = IsListReply-unique state matrix list one other p q

  in_list-exists : HasMatrix state → (reply : Reply) × IsReplyInList state list content reply
  in_list-exists matrix = by_word (list_word_of (tokens_of content)) where
    by_word : (o : Option ListWord) → (reply : Reply)
        × MatchOption o (reply ≡ reply_when_kept state list (record { content = content; refused = None }))
        (λ word. IsWordReply word state list reply)
    by_word None = (reply_when_kept state list (record { content = content; refused = None }), refl)
    by_word (Some Next) = (silence (record state { list = Some (then_block list) }), refl)
    by_word (Some End) = IsListReply-exists state matrix list

  -- the group stays as it is in a list, and no line there ends the run
  pub in_list-group : (reply : Reply) → IsReplyInList state list content reply → (reply.after.group ≡ state.group) × (reply.quits ≡ false)
  in_list-group reply is = by_word (list_word_of (tokens_of content)) is where
    by_word : (o : Option ListWord)
        → MatchOption o (reply ≡ reply_when_kept state list (record { content = content; refused = None }))
        (λ word. IsWordReply word state list reply) → (reply.after.group ≡ state.group) × (reply.quits ≡ false)
    by_word None is = (ap (λ (r : Reply). r.after.group) is, ap (λ (r : Reply). r.quits) is)
    by_word (Some Next) is = (ap (λ (r : Reply). r.after.group) is, ap (λ (r : Reply). r.quits) is)
    by_word (Some End) is =
        let after = IsListReply-closed state list reply is in (ap (λ (s : State). s.group) after.0, after.1)

-- a content has one reply
pub IsReplyTo-unique : (state : State) (content : List ℕ) → HasMatrix state → (one other : Reply) → IsReplyTo state content one
    → IsReplyTo state content other → one ≡ other
IsReplyTo-unique state content matrix one other p q = by_list state.list p q where
  by_list : (o : Option OpenList) → MatchOption o (IsContentReply state content one) (λ list. IsReplyInList state list content one)
      → MatchOption o (IsContentReply state content other) (λ list. IsReplyInList state list content other) → one ≡ other
  by_list None p q = IsContentReply-unique state content matrix one other p q
  by_list (Some list) p q = in_list-unique state list content matrix one other p q

pub IsReplyTo-exists : (state : State) (content : List ℕ) → HasMatrix state → (reply : Reply) × IsReplyTo state content reply
IsReplyTo-exists state content matrix = by_list state.list where
  by_list : (o : Option OpenList)
      → (reply : Reply) × MatchOption o (IsContentReply state content reply) (λ list. IsReplyInList state list content reply)
  by_list None = IsContentReply-exists state content matrix
  by_list (Some list) = in_list-exists state list content matrix

pub IsReplyTo-matrix : (state : State) (content : List ℕ) (reply : Reply) → HasMatrix state → IsReplyTo state content reply
    → HasMatrix reply.after
IsReplyTo-matrix state content reply matrix is = by_list state.list is where
  by_list : (o : Option OpenList) → MatchOption o (IsContentReply state content reply) (λ list. IsReplyInList state list content reply)
      → HasMatrix reply.after
  by_list None is = IsContentReply-matrix state content reply matrix is
  by_list (Some list) is = rw (in_list-group state list content reply is).0 matrix

-- so does a line that is refused by its bytes
pub unread-matrix : (state : State) (why : Refusal) → HasMatrix state → HasMatrix (unread_reply state why).after
unread-matrix state why matrix = by_list state.list where
  by_list : (o : Option OpenList) → HasMatrix (kept_refusal o state why).after
  by_list None = matrix
  by_list (Some list) = matrix

-- the replies to some lines and then to others are those to the one and to the others
pub split_replies : (state : State) (first rest : List Kept) (all : List Reply) → AreBlockLineReplies state (first ++ rest) all
    → (p : List Reply) × (q : List Reply) × AreBlockLineReplies state first p × AreBlockLineReplies state rest q × (all ≡ p ++ q)
split_replies state [] rest all are = ([], all, refl, are, refl)
split_replies state (line ∷ first) rest [] are = absurd are
split_replies state (line ∷ first) rest (reply ∷ all) are =
    let more = split_replies state first rest all are.1 in
    (reply ∷ more.0, more.1, (are.0, more.2), more.3, ap (λ l. reply ∷ l) more.4)
