-- How a run over the lines of a script ends, and what was written of the answer by then: at the end of the input, at a line that ends
-- the run, at the limit, at a read that fails, or where a reply is cut off.
use Rattle.std.proofs.Common.{◌≡◌, ◌<◌, ◌≤◌, ◌+◌, ℕ, Bool, true, false, cond, nat_le, inl, inr, Option, Some, None, Err}
use Rattle.std.proofs.Common.{List, [], ◌∷◌, ◌++◌}
use Rattle.std.proofs.Common.{length, take, refl, sym, ap, ◌∙◌, subst, arith, append_assoc, length-append, ◌⊎◌, ⊎_elim}
use Rattle.std.specs.Option.{IsSome, IfSome}
use Rattle.std.specs.Io.KnownBytes.{prepend_known, IsAtEnd}
use Rattle.std.proofs.lemmas.List.{append-nil, take_at}
use Rattle.std.proofs.Math.Bool.{or-false}
use Rattle.std.proofs.lemmas.Bool.Decides.{nat_tests}
use Rattle.std.proofs.lemmas.Option.{IfSome_then}
use Rattle.cox_outside.specs.declared.limits.TheConstants.{CHUNK_SIZE}
use Rattle.cox_outside.specs.declared.line_reader.Stop.{Stop}
use Rattle.cox_outside.specs.declared.line_reader.Stop.TheVariants as stop
use Rattle.cox_tokens.specs.Line.{line_feed, lines_of}
use Rattle.cox_tokens.specs.Unbroken.{IsUnbroken}
use Rattle.cox_outside.specs.Reader.{TakesNext}
use Rattle.cox_outside.specs.Ahead.{Ahead, Takes, lines_ahead, MeetsEnd, MeetsFault, MeetsLimit}
use Rattle.cox_outside.specs.Outlet.{Writes}
use Rattle.cox_outside.proofs.Known.{Writes-append}
use Rattle.cox_outside.proofs.Taking.{Takes-none, Takes-append}
use Rattle.cox_tokens.proofs.Lines.{ended_lines-none}
use Rattle.cox_shell.specs.declared.status.Status.TheVariants.{Done, Refused}
use Rattle.cox_shell.specs.declared.status.Stopped.{Stopped}
use Rattle.cox_shell.specs.declared.status.Stopped.TheVariants as why
use Rattle.cox_shell.specs.Status.{is_read_fault, is_write_fault}
use Rattle.cox_shell.specs.Stopping.{status_of}
use Rattle.cox_shell.specs.Reply.{State, Reply, texts}
use Rattle.cox_shell.specs.Answer.{AreReplies, state_behind, has_quit, bytes_of}
use Rattle.cox_shell.specs.LineReply.{IsReply}
use Rattle.cox_shell.specs.Run.{Stand, IsServed, IsCutOff, Serves, stopped_read_fault, stopped_write_fault}
use Rattle.cox_shell.specs.Outcome.{HasRead, WritesPrefix, WritesAll, StopsThere, IsCutShort, AnswersAll, AnswersEnded}
use Rattle.cox_shell.specs.Outcome.{AnswersToFault, AnswersToLimit, Runs}
use Rattle.cox_shell.proofs.KnownValues.{IfSome-made, IfSome-each}
use Rattle.cox_shell.proofs.LineReplies.{AreReplies-one, AreReplies-quit}
use Rattle.cox_shell.proofs.NoLines.{no_lines-end}
use Rattle.cox_shell.proofs.TakenLines.{TakenLines, TakenLines-one, TakenLines-append, HasRead-taken, HasRead-begun, HasRead-limit}
use Rattle.cox_shell.proofs.Quitting.{quits-closed}
use Rattle.cox_shell.proofs.Progress.{state_behind-push, IsServedIn, served-behind}
use Rattle.cox_shell.proofs.Progress.{Progress, going_lines, texts-push, has_refusal-push, has_quit-push, as_many-push}

-- the replies so far are those to the lines so far
so_far : (refused : Bool) (old now : Stand) (p : Progress refused old now) → AreReplies old.state p.lines p.done
so_far refused old now p =
    subst (λ lines. AreReplies old.state lines p.done) (append-nil p.lines)
    (subst (λ replies. AreReplies old.state (p.lines ++ []) replies) (append-nil p.done) (p.says [] [] refl))

-- where no line is left, the replies so far are those to all
no_more : (refused : Bool) (old now : Stand) (p : Progress refused old now) → IfSome (lines_ahead now.ahead) (λ lines. lines ≡ [])
    → IfSome (lines_ahead old.ahead) (λ lines. AreReplies old.state lines p.done)
no_more refused old now p none =
    IfSome-made (λ more. p.lines ++ more) (λ lines. AreReplies old.state lines p.done) (lines_ahead old.ahead)
    (lines_ahead now.ahead) p.read.cut
    (IfSome_then (lines_ahead now.ahead) none
    (λ more e. subst (λ lines. AreReplies old.state lines p.done) (sym (ap (λ l. p.lines ++ l) e ∙ append-nil p.lines))
    (so_far refused old now p)))

-- the replies so far were written, and nothing since
prefix_so_far : (refused : Bool) (old now next : Stand) (p : Progress refused old now) → HasRead p.lines old.ahead next.ahead → next.out
    ≡ now.out → WritesPrefix old next
prefix_so_far refused old now next p read same = record {
  lines = p.lines;
  has_read = read;
  replies = p.done;
  are_replies = so_far refused old now p;
  prefix = texts p.done;
  is_prefix = ([], sym (append-nil (texts p.done)));
  writes = subst (λ out. Writes (texts p.done) old.out out) (sym same) p.writes;
}

-- all replies were written, and nothing since
all_so_far : (refused : Bool) (old now next : Stand) (p : Progress refused old now) → IfSome (lines_ahead now.ahead) (λ lines. lines ≡ [])
    → next.out ≡ now.out → next.state ≡ now.state → WritesAll old next
all_so_far refused old now next p none same stays = record {
  replies = p.done;
  are_replies = no_more refused old now p none;
  behind = stays ∙ p.behind;
  writes = subst (λ out. Writes (texts p.done) old.out out) (sym same) p.writes;
}

-- what was taken to the end of the input was within the budget
within_budget : (taken : List ℕ) (old new : Ahead) → Takes taken old new → IsAtEnd new.bytes
    → IfSome old.bytes (λ bytes. length bytes ≤ old.budget)
within_budget taken old new t end = rw t.bytes (by_known new.bytes end) where
  by_known : (known : Option (List ℕ)) → IsAtEnd known → IfSome (prepend_known taken known) (λ bytes. length bytes ≤ old.budget)
  by_known None end = tt
  by_known (Some rest) end = omega (arith, t.cost, length-append taken rest, ap length end)

-- the lines so far are all
whole_lines : (refused : Bool) (old now : Stand) (p : Progress refused old now) → (now.stop ≡ None) ⊎ IsSome now.stop
    → lines_of (p.read.taken ++ []) ≡ p.lines
whole_lines refused old now p which = ⊎_elim
    (λ (going : now.stop ≡ None). p.read.all going [] ∙ append-nil p.lines)
    (λ (halted : IsSome now.stop). ap lines_of (append-nil p.read.taken) ∙ p.read.whole halted) which

-- the end was met, and all was read to there
meets_end : (refused : Bool) (old now next : Stand) (p : Progress refused old now) → HasRead p.lines old.ahead next.ahead
    → MeetsEnd now.ahead next.ahead → lines_of (p.read.taken ++ []) ≡ p.lines → next.out ≡ now.out → next.state ≡ now.state
    → AnswersAll refused old next
unfolding all_so_far
meets_end refused old now next p read m whole same stays =
    let taken : Takes (p.read.taken ++ []) old.ahead next.ahead =
    Takes-append p.read.taken [] old.ahead now.ahead next.ahead p.read.takes m.taken in
    let within : length (p.read.taken ++ []) ≤ old.ahead.budget = omega (arith, taken.cost) in
    let test : nat_le (length (p.read.taken ++ [])) old.ahead.budget ≡ true = grind (arith, nat_tests) in record {
      writes_prefix = prefix_so_far refused old now next p read same;
      writes_all = all_so_far refused old now next p (no_lines-end now.ahead next.ahead m) same stays;
      refuses = p.refuses;
      ends = rw p.quits (within_budget (p.read.taken ++ []) old.ahead next.ahead taken m.end, m.end);
      reading = inr (record {
        given = p.read.taken ++ [];
        gave = taken.bytes;
        none_pending = m.none_pending;
        lines = p.lines;
        are_all = inr (m.end, rw test (sym whole));
        replies = p.done;
        are_replies = so_far refused old now p;
        behind = stays ∙ p.behind;
        writes = subst (λ out. Writes (texts p.done) old.out out) (sym same) p.writes;
      });
    }

-- the input has ended
pub ends_at_end : (refused : Bool) (old now next : Stand) → now.stop ≡ None → Progress refused old now → MeetsEnd now.ahead next.ahead
    → next.out ≡ now.out → next.state ≡ now.state → AnswersAll refused old next
ends_at_end refused old now next going p m same stays =
    meets_end refused old now next p
    (HasRead-begun p.lines old.ahead now.ahead next.ahead [] (going_lines refused old now going p) m.taken m.none_pending) m
    (whole_lines refused old now p (inl going)) same stays

-- the reader had stopped at the end of the input
pub ends_stopped : (refused : Bool) (old now : Stand) → Progress refused old now → IsSome now.stop → AnswersAll refused old now
ends_stopped refused old now p halted =
    meets_end refused old now now p (HasRead-taken p.lines now.stop old.ahead now.ahead p.read)
    (record { taken = Takes-none now.ahead; end = p.read.end halted; none_pending = p.read.none_pending halted })
    (whole_lines refused old now p (inr halted)) refl refl

-- after these lines no more was taken
StopsThere-taken : (lines : List (List ℕ)) (replies : List Reply) (halt : Option Stop) (old now : Ahead) → TakenLines lines halt old now
    → length replies ≡ length lines → StopsThere replies old now
StopsThere-taken lines replies halt old now t as_many = record {
  taken = t.taken;
  gave = t.takes.bytes;
  few = few halt t;
  size = IfSome-made (λ more. lines ++ more) (λ all. length t.taken ≤ length (bytes_of (take (length replies) all))) (lines_ahead old)
      (lines_ahead now) t.cut
      (IfSome-each (λ more. length t.taken ≤ length (bytes_of (take (length replies) (lines ++ more)))) (lines_ahead now)
      (λ more. subst (λ first. length t.taken ≤ length (bytes_of first)) (sym (take_at lines more (length replies) (sym as_many))) t.size));
} where
  few : (halt : Option Stop) → TakenLines lines halt old now → length now.pending < CHUNK_SIZE
  few None t = (t.few refl).0
  few (Some halt) t = omega (arith, ap length (t.none_pending refl))

-- a line ended the run
ends_in_state : (refused : Bool) (old now next : Stand) → now.stop ≡ None → (p : Progress refused old now)
    → IsServedIn false true (state_behind old.state p.done) now next → AnswersAll refused old next
ends_in_state refused old now next going p s =
    let lines : List (List ℕ) = p.lines ++ s.line ∷ [] in
    let replies : List Reply = p.done ++ s.reply ∷ [] in
    let read : TakenLines lines next.stop old.ahead next.ahead = TakenLines-append p.lines
    (s.line ∷ []) next.stop old.ahead now.ahead next.ahead (going_lines refused old now going p)
    (TakenLines-one next.stop s.line now.ahead next.ahead s.takes) in
    let written : Writes (texts replies) old.out next.out = subst (λ t. Writes t old.out next.out) (sym (texts-push p.done s.reply))
    (Writes-append (texts p.done) s.reply.text old.out now.out next.out p.writes s.writes) in
    let quits : has_quit replies ≡ true = has_quit-push p.done s.reply false true p.quits s.quitting in
    record {
      writes_prefix = record {
        lines = lines;
        has_read = HasRead-taken lines next.stop old.ahead next.ahead read;
        replies = replies;
        are_replies = p.says (s.line ∷ []) (s.reply ∷ []) (AreReplies-one (state_behind old.state p.done) s.line s.reply s.is_reply);
        prefix = texts replies;
        is_prefix = ([], sym (append-nil (texts replies)));
        writes = written;
      };
      writes_all = record {
        replies = replies;
        are_replies = IfSome-made (λ more. lines ++ more) (λ all. AreReplies old.state all replies) (lines_ahead old.ahead)
            (lines_ahead next.ahead) read.cut
            (IfSome-each (λ more. AreReplies old.state (lines ++ more) replies) (lines_ahead next.ahead) (λ more. all more));
        behind = s.state_after ∙ sym (state_behind-push old.state p.done s.reply);
        writes = written;
      };
      refuses = has_refusal-push p.done s.reply refused false p.refuses s.refuses ∙ or-false refused;
      ends = rw quits (StopsThere-taken lines replies next.stop old.ahead next.ahead read
          (as_many-push p.done p.lines s.reply s.line p.as_many));
      reading = inl (ap (λ (state : State). state.list) s.state_after
          ∙ quits-closed (state_behind old.state p.done) s.line s.reply s.is_reply s.quitting);
    } where
      all : (more : List (List ℕ)) → AreReplies old.state ((p.lines ++ s.line ∷ []) ++ more) (p.done ++ s.reply ∷ [])
      all more = subst (λ lines. AreReplies old.state lines (p.done ++ s.reply ∷ [])) (sym (append_assoc p.lines (s.line ∷ []) more))
          (p.says (s.line ∷ more) (s.reply ∷ [])
          (AreReplies-quit (state_behind old.state p.done) s.line s.reply more s.is_reply s.quitting))

pub ends_at_quit : (refused : Bool) (old now next : Stand) → now.stop ≡ None → Progress refused old now → IsServed false true now next
    → AnswersAll refused old next
ends_at_quit refused old now next going p served = ends_in_state refused old now next going p
    (served-behind false true (state_behind old.state p.done) now next p.behind served)

-- the lines so far are those that end among the bytes so far and the beginning of a line
ended_so_far : (refused : Bool) (old now next : Stand) (p : Progress refused old now) (read : TakenLines p.lines None old.ahead now.ahead)
    → (begun : List ℕ) → IsUnbroken begun → WritesPrefix old next → next.ahead.pending ≡ []
    → length (read.taken ++ begun) ≤ old.ahead.budget → next.out ≡ now.out → next.state ≡ now.state
    → AnswersEnded (read.taken ++ begun) old next
ended_so_far refused old now next p read begun unbroken part none_pending within same stays = record {
  writes_prefix = part;
  within = within;
  none_pending = none_pending;
  replies = p.done;
  are_replies = subst (λ lines. AreReplies old.state lines p.done)
      (sym (read.ended refl begun ∙ ap (λ l. p.lines ++ l) (ended_lines-none begun unbroken) ∙ append-nil p.lines))
      (so_far refused old now p);
  behind = stays ∙ p.behind;
  none_quits = p.quits;
  writes = subst (λ out. Writes (texts p.done) old.out out) (sym same) p.writes;
}

-- the limit was met
pub ends_at_limit : (refused : Bool) (old now next : Stand) → now.stop ≡ None → Progress refused old now → MeetsLimit now.ahead next.ahead
    → next.out ≡ now.out → next.state ≡ now.state → AnswersToLimit old next
ends_at_limit refused old now next going p m same stays =
    let read = going_lines refused old now going p in
    let taken = Takes-append read.taken m.begun old.ahead now.ahead m.spent read.takes m.part.taken in record {
      given = read.taken ++ m.begun;
      byte = m.byte;
      gave = taken.bytes ∙ ap (prepend_known (read.taken ++ m.begun)) m.beyond;
      spent = omega (arith, taken.cost, m.none_left);
      answers = ended_so_far refused old now next p read m.begun m.part.unbroken
          (prefix_so_far refused old now next p (HasRead-limit p.lines old.ahead now.ahead next.ahead read m) same) m.none_pending
          (omega (arith, taken.cost)) same stays;
    }

-- a read failed
pub ends_at_fault : (refused : Bool) (old now next : Stand) → now.stop ≡ None → Progress refused old now → MeetsFault now.ahead next.ahead
    → next.out ≡ now.out → next.state ≡ now.state → AnswersToFault old next
ends_at_fault refused old now next going p m same stays =
    let read = going_lines refused old now going p in
    let taken = Takes-append read.taken m.begun old.ahead now.ahead next.ahead read.takes m.part.taken in (
      read.taken ++ m.begun,
      taken.bytes,
      ended_so_far refused old now next p read m.begun m.part.unbroken
          (prefix_so_far refused old now next p
          (HasRead-begun p.lines old.ahead now.ahead next.ahead m.begun read m.part.taken m.none_pending) same) m.none_pending
          (omega (arith, taken.cost)) same stays,
    )

-- a reply was cut off; where it needed more than there was room for, so did the replies
pub ends_cut_off : (refused : Bool) (old now next : Stand) → now.stop ≡ None → Progress refused old now → (cut : IsCutOff now next)
    → (short : IsCutShort old next)
    × (IfSome now.out.room (λ left. left < length cut.reply.text) → IfSome old.out.room (λ left. left < length (texts short.part.replies)))
ends_cut_off refused old now next going p cut =
    let reply : Reply = cut.reply in
    let is : IsReply (state_behind old.state p.done) cut.taken.line reply =
    subst (λ (state : State). IsReply state cut.taken.line reply) p.behind cut.taken.is_reply in
    let lines : List (List ℕ) = p.lines ++ cut.taken.line ∷ [] in
    let replies : List Reply = p.done ++ reply ∷ [] in
    let joined : texts replies ≡ texts p.done ++ cut.reply.text = texts-push p.done reply in
    let read : TakenLines lines next.stop old.ahead next.ahead =
    TakenLines-append p.lines (cut.taken.line ∷ []) next.stop old.ahead now.ahead next.ahead
    (going_lines refused old now going p) (TakenLines-one next.stop cut.taken.line now.ahead next.ahead cut.taken.takes) in (
      record {
        part = record {
          lines = lines;
          has_read = HasRead-taken lines next.stop old.ahead next.ahead read;
          replies = replies;
          are_replies = p.says (cut.taken.line ∷ []) (reply ∷ [])
              (AreReplies-one (state_behind old.state p.done) cut.taken.line reply is);
          prefix = texts p.done ++ cut.prefix;
          is_prefix = (
            cut.is_prefix.0,
            joined ∙ ap (λ t. texts p.done ++ t) cut.is_prefix.1
                ∙ sym (append_assoc (texts p.done) cut.prefix cut.is_prefix.0),
          );
          writes = Writes-append (texts p.done) cut.prefix old.out now.out next.out p.writes cut.writes;
        };
        few = StopsThere-taken lines replies next.stop old.ahead next.ahead read
            (as_many-push p.done p.lines reply cut.taken.line p.as_many);
      },
      λ small. IfSome-made (λ left. left + length (texts p.done))
          (λ left. left < length (texts replies)) old.out.room now.out.room p.writes.room
          (IfSome_then now.out.room small
          (λ left less. omega (arith, ap length joined, length-append (texts p.done) cut.reply.text))),
    )

-- which status it ends by
pub Runs-whole : (refused : Bool) (old new : Stand) → AnswersAll refused old new → Runs (cond refused Refused Done) old new
Runs-whole true old new h = h
Runs-whole false old new h = h

-- why the run stopped says how it ends
pub ends_stopping : (stopped : Stopped) (refused : Bool) (old now next : Stand) → now.stop ≡ None → Progress refused old now
    → Serves (Err stopped) now next → Runs (status_of stopped refused) old next
ends_stopping why.End refused old now next going p s =
    Runs-whole refused old next (ends_at_end refused old now next going p s.0.0 s.1 s.2)
ends_stopping why.ReadFault refused old now next going p s = ends_at_fault refused old now next going p s.0.0 s.1 s.2
ends_stopping why.WriteFault refused old now next going p s =
    let part = ends_cut_off refused old now next going p s.0 in (part.0, part.1 s.1)
ends_stopping why.NoMemory refused old now next going p s = (ends_cut_off refused old now next going p s).0
ends_stopping why.InputLimit refused old now next going p s = ends_at_limit refused old now next going p s.0.0 s.1 s.2

-- a fault stops the run exactly where the status tells it
pub stopping-read_fault : (stopped : Stopped) (refused : Bool)
    → is_read_fault (status_of stopped refused) ≡ stopped_read_fault (Err stopped)
stopping-read_fault why.End true = refl
stopping-read_fault why.End false = refl
stopping-read_fault why.ReadFault refused = refl
stopping-read_fault why.WriteFault refused = refl
stopping-read_fault why.NoMemory refused = refl
stopping-read_fault why.InputLimit refused = refl

pub stopping-write_fault : (stopped : Stopped) (refused : Bool)
    → is_write_fault (status_of stopped refused) ≡ stopped_write_fault (Err stopped)
stopping-write_fault why.End true = refl
stopping-write_fault why.End false = refl
stopping-write_fault why.ReadFault refused = refl
stopping-write_fault why.WriteFault refused = refl
stopping-write_fault why.NoMemory refused = refl
stopping-write_fault why.InputLimit refused = refl

-- a line costs some of the budget
pub budget-served : (refused quits : Bool) (now next : Stand) → IsServed refused quits now next → next.ahead.budget < now.ahead.budget
budget-served refused quits now next s = by_halt next.stop s.taken.takes where
  by_halt : (halt : Option Stop) → TakesNext halt s.taken.line now.ahead next.ahead → next.ahead.budget < now.ahead.budget
  by_halt None t = omega (arith, t.taken.cost, length-append s.taken.line (line_feed ∷ []))
  by_halt (Some stop.End) t = omega (arith, t.taken.cost, t.some)
  by_halt (Some stop.Failed) t = absurd t
  by_halt (Some stop.Limit) t = absurd t
