-- How far a run has come.
use Rattle.std.proofs.Common.{◌≡◌, ℕ, ◌+◌, Bool, true, false, ◌||◌, None, is_some, List, [], ◌∷◌, ◌++◌, length, refl, sym, ap, ◌∙◌}
use Rattle.std.proofs.Common.{subst}
use Rattle.std.specs.List.{list_any}
use Rattle.std.proofs.lemmas.List.{append-nil, length_push}
use Rattle.std.proofs.lemmas.List.Folds.{list_any-append}
use Rattle.std.proofs.lemmas.Grind.{flat_map-append}
use Rattle.std.proofs.Math.Bool.{or-false, or-true}
use Rattle.cox_outside.specs.Feed.{HasFewPending}
use Rattle.cox_outside.specs.Outlet.{Writes}
use Rattle.cox_outside.specs.Reader.{TakesNext}
use Rattle.cox_outside.proofs.Known.{Writes-none, Writes-append}
use Rattle.cox_shell.specs.Reply.{State, Reply, texts}
use Rattle.cox_shell.specs.Answer.{AreReplies, state_behind, has_refusal, has_quit}
use Rattle.cox_shell.specs.LineReply.{IsReply}
use Rattle.cox_shell.specs.Run.{Stand, IsServed}
use Rattle.cox_shell.proofs.LineReplies.{AreReplies-cons, AreReplies-rejoin}
use Rattle.cox_shell.proofs.TakenLines.{TakenLines, TakenLines-none, TakenLines-one, TakenLines-append}

-- These lines were taken and their replies written; whatever replies the lines that follow have, these are replies to all.
pub record Progress (refused : Bool) (old now : Stand) : Type 0 where
  pub lines : List (List ℕ)
  pub read : TakenLines lines now.stop old.ahead now.ahead
  pub done : List Reply
  pub as_many : length done ≡ length lines
  pub says : (more : List (List ℕ)) (rest : List Reply) → AreReplies (state_behind old.state done) more rest
      → AreReplies old.state (lines ++ more) (done ++ rest)
  pub behind : now.state ≡ state_behind old.state done
  pub writes : Writes (texts done) old.out now.out
  pub refuses : has_refusal done ≡ refused
  pub quits : has_quit done ≡ false

-- what one more reply writes
pub texts-push : (done : List Reply) (reply : Reply) → texts (done ++ reply ∷ []) ≡ texts done ++ reply.text
texts-push done reply = flat_map-append (λ (r : Reply). r.text) done (reply ∷ []) ∙ ap (λ l. texts done ++ l) (append-nil reply.text)

any-push : (p : Reply → Bool) (done : List Reply) (reply : Reply) (before last : Bool) → list_any p done ≡ before → p reply ≡ last
    → list_any p (done ++ reply ∷ []) ≡ (before || last)
any-push p done reply before last old new =
    list_any-append p done (reply ∷ []) ∙ ap (λ b. b || (p reply || false)) old ∙ ap (λ b. before || (b || false)) new
    ∙ ap (λ b. before || b) (or-false last)

-- of one more reply, whether it refuses, and whether it ends the run
pub has_refusal-push : (done : List Reply) (reply : Reply) (before last : Bool) → has_refusal done ≡ before → is_some reply.refused ≡ last
    → has_refusal (done ++ reply ∷ []) ≡ (before || last)
has_refusal-push = any-push (λ reply. is_some reply.refused)

pub has_quit-push : (done : List Reply) (reply : Reply) (before last : Bool) → has_quit done ≡ before → reply.quits ≡ last
    → has_quit (done ++ reply ∷ []) ≡ (before || last)
has_quit-push = any-push (λ reply. reply.quits)

-- the state behind one more reply is the one after it
pub state_behind-push : (state : State) (done : List Reply) (reply : Reply) → state_behind state (done ++ reply ∷ []) ≡ reply.after
state_behind-push state [] reply = refl
state_behind-push state (one ∷ done) reply = state_behind-push one.after done reply

-- as many replies as lines, after one more of each
pub as_many-push : (done : List Reply) (lines : List (List ℕ)) (reply : Reply) (line : List ℕ) → length done ≡ length lines
    → length (done ++ reply ∷ []) ≡ length (lines ++ line ∷ [])
as_many-push done lines reply line same = length_push done reply ∙ ap (λ n. n + 1) same ∙ sym (length_push lines line)

-- nothing was taken yet
pub Progress-start : (here : Stand) → here.stop ≡ None → HasFewPending here.ahead.pending here.ahead.budget → Progress false here here
Progress-start here going few = record {
  lines = [];
  read = subst (λ halt. TakenLines [] halt here.ahead here.ahead) (sym going) (TakenLines-none here.ahead few);
  done = [];
  as_many = refl;
  says = λ more rest h. h;
  behind = refl;
  writes = Writes-none here.out;
  refuses = refl;
  quits = refl;
}

-- the lines that were taken, where the reader goes on
pub going_lines : (refused : Bool) (old now : Stand) → now.stop ≡ None → (p : Progress refused old now)
    → TakenLines p.lines None old.ahead now.ahead
going_lines refused old now going p = subst (λ halt. TakenLines p.lines halt old.ahead now.ahead) going p.read

-- A line was taken and its reply written, which is the reply in this state.
pub record IsServedIn (refused quits : Bool) (state : State) (old new : Stand) : Type 0 where
  pub line : List ℕ
  pub takes : TakesNext new.stop line old.ahead new.ahead
  pub reply : Reply
  pub is_reply : IsReply state line reply
  pub writes : Writes reply.text old.out new.out
  pub state_after : new.state ≡ reply.after
  pub refuses : is_some reply.refused ≡ refused
  pub quitting : reply.quits ≡ quits

pub served-behind : (refused quits : Bool) (state : State) (old new : Stand) → old.state ≡ state → IsServed refused quits old new
    → IsServedIn refused quits state old new
served-behind refused quits state old new same s = record {
  line = s.taken.line;
  takes = s.taken.takes;
  reply = s.reply;
  is_reply = subst (λ (state : State). IsReply state s.taken.line s.reply) same s.taken.is_reply;
  writes = s.writes;
  state_after = s.state_after;
  refuses = s.refuses;
  quitting = s.quitting;
}

-- one more line was served, which does not end the run
Progress-more : (before refused : Bool) (old now next : Stand) → now.stop ≡ None → Progress before old now
    → IsServed refused false now next → Progress (before || refused) old next
Progress-more before refused old now next going p served =
    let s = served-behind refused false (state_behind old.state p.done) now next p.behind served in
    let after = state_behind-push old.state p.done s.reply in
    record {
      lines = p.lines ++ s.line ∷ [];
      read = TakenLines-append p.lines (s.line ∷ []) next.stop old.ahead now.ahead next.ahead (going_lines before old now going p)
          (TakenLines-one next.stop s.line now.ahead next.ahead s.takes);
      done = p.done ++ s.reply ∷ [];
      as_many = as_many-push p.done p.lines s.reply s.line p.as_many;
      says = λ more rest h. AreReplies-rejoin old.state p.lines more p.done rest s.line s.reply
          (p.says (s.line ∷ more) (s.reply ∷ rest)
          (AreReplies-cons (state_behind old.state p.done) (state_behind old.state (p.done ++ s.reply ∷ [])) s.line s.reply more rest
          s.is_reply s.quitting after h));
      behind = s.state_after ∙ sym after;
      writes = subst (λ t. Writes t old.out next.out) (sym (texts-push p.done s.reply))
          (Writes-append (texts p.done) s.reply.text old.out now.out next.out p.writes s.writes);
      refuses = has_refusal-push p.done s.reply before refused p.refuses s.refuses;
      quits = has_quit-push p.done s.reply false false p.quits s.quitting;
    }

-- it was answered
pub Progress-answered : (refused : Bool) (old now next : Stand) → now.stop ≡ None → Progress refused old now
    → IsServed false false now next → Progress refused old next
Progress-answered refused old now next going p s = subst (λ b. Progress b old next) (or-false refused)
    (Progress-more refused false old now next going p s)

-- it was refused
pub Progress-refused : (before : Bool) (old now next : Stand) → now.stop ≡ None → Progress before old now → IsServed true false now next
    → Progress true old next
Progress-refused before old now next going p s = subst (λ b. Progress b old next) (or-true before)
    (Progress-more before true old now next going p s)
