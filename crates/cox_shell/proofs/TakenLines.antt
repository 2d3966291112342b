-- Lines that were taken: which bytes they are, and which lines these bytes have.
use Rattle.std.proofs.Common.{◌≡◌, ◌≤◌, ◌+◌, ℕ, true, inl, inr, nat_le, Option, Some, None, List, [], ◌∷◌, ◌++◌, length, take, refl}
use Rattle.std.proofs.Common.{sym, ap, ◌∙◌, arith, append_assoc, length-append}
use Rattle.std.specs.Option.{IsSome, option_map}
use Rattle.std.specs.Io.KnownBytes.{prepend_known, IsAtEnd}
use Rattle.std.proofs.lemmas.List.{append-nil, take_all, take_at}
use Rattle.std.proofs.lemmas.Grind.{flat_map-append}
use Rattle.std.proofs.lemmas.Bool.Decides.{nat_tests}
use Rattle.cox_outside.specs.declared.line_reader.Stop.{Stop}
use Rattle.cox_outside.specs.declared.line_reader.Stop.TheVariants as stop
use Rattle.cox_tokens.specs.Line.{line_feed, ended_lines, lines_of}
use Rattle.cox_outside.specs.Feed.{HasFewPending}
use Rattle.cox_outside.specs.Ahead.{Ahead, Takes, MeetsLimit, lines_ahead}
use Rattle.cox_outside.specs.Reader.{TakesNext}
use Rattle.cox_outside.proofs.Known.{prepend_known-append}
use Rattle.cox_outside.proofs.Taking.{Takes-none, Takes-append, lines_ahead-line}
use Rattle.cox_tokens.proofs.Lines.{ended_lines-line, lines_of-line, lines_of-last}
use Rattle.cox_shell.specs.Answer.{bytes_of}
use Rattle.cox_shell.specs.Outcome.{HasRead}

-- These lines were taken. Where the reader stopped the last of them ended with the input.
pub record TakenLines (lines : List (List ℕ)) (halt : Option Stop) (old now : Ahead) : Type 0 where
  pub taken : List ℕ
  pub takes : Takes taken old now
  pub cut : lines_ahead old ≡ option_map (λ more. lines ++ more) (lines_ahead now)
  pub size : length taken ≤ length (bytes_of lines)
  pub ended : halt ≡ None → (more : List ℕ) → ended_lines (taken ++ more) ≡ lines ++ ended_lines more
  pub all : halt ≡ None → (more : List ℕ) → lines_of (taken ++ more) ≡ lines ++ lines_of more
  pub few : halt ≡ None → HasFewPending now.pending now.budget
  pub whole : IsSome halt → lines_of taken ≡ lines
  pub end : IsSome halt → IsAtEnd now.bytes
  pub none_pending : IsSome halt → now.pending ≡ []

-- no line was taken yet
pub TakenLines-none : (here : Ahead) → HasFewPending here.pending here.budget → TakenLines [] None here here
TakenLines-none here few = record {
  taken = [];
  takes = Takes-none here;
  cut = same (lines_ahead here);
  size = omega arith;
  ended = λ _ more. refl;
  all = λ _ more. refl;
  few = λ _. few;
  whole = λ h. absurd (cc h);
  end = λ h. absurd (cc h);
  none_pending = λ h. absurd (cc h);
} where
  same : (known : Option (List (List ℕ))) → known ≡ option_map (λ more. [] ++ more) known
  same None = refl
  same (Some more) = refl

-- the bytes of one line
bytes_of-one : (line : List ℕ) → length (bytes_of (line ∷ [])) ≡ length line + 1
bytes_of-one line = ap length (append-nil (line ++ line_feed ∷ [])) ∙ length-append line (line_feed ∷ [])

-- one line was taken
pub TakenLines-one : (halt : Option Stop) (line : List ℕ) (old new : Ahead) → TakesNext halt line old new
    → TakenLines (line ∷ []) halt old new
TakenLines-one None line old new t = record {
  taken = line ++ line_feed ∷ [];
  takes = t.taken;
  cut = lines_ahead-line None line old new t;
  size = omega (arith, bytes_of-one line, length-append line (line_feed ∷ []));
  ended = λ _ more. ap ended_lines (append_assoc line (line_feed ∷ []) more) ∙ ended_lines-line line more t.unbroken;
  all = λ _ more. ap lines_of (append_assoc line (line_feed ∷ []) more) ∙ lines_of-line line more t.unbroken;
  few = λ _. t.few_pending;
  whole = λ h. absurd (cc h);
  end = λ h. absurd (cc h);
  none_pending = λ h. absurd (cc h);
}
TakenLines-one (Some stop.End) line old new t = record {
  taken = line;
  takes = t.taken;
  cut = lines_ahead-line (Some stop.End) line old new t;
  size = omega (arith, bytes_of-one line);
  ended = λ h more. absurd (cc h);
  all = λ h more. absurd (cc h);
  few = λ h. absurd (cc h);
  whole = λ _. lines_of-last line t.some t.unbroken;
  end = λ _. t.end;
  none_pending = λ _. t.none_pending;
}
TakenLines-one (Some stop.Failed) line old new t = absurd t
TakenLines-one (Some stop.Limit) line old new t = absurd t

-- lines were cut off, and then more
cut_append : (first next : List (List ℕ)) (old now new : Option (List (List ℕ))) → old ≡ option_map (λ more. first ++ more) now → now
    ≡ option_map (λ more. next ++ more) new
    → old ≡ option_map (λ more. (first ++ next) ++ more) new
cut_append first next old now new p q = p ∙ ap (option_map (λ more. first ++ more)) q ∙ by_known new where
  by_known : (known : Option (List (List ℕ))) → option_map (λ more. first ++ more) (option_map (λ more. next ++ more) known)
      ≡ option_map (λ more. (first ++ next) ++ more) known
  by_known None = refl
  by_known (Some more) = ap Some (sym (append_assoc first next more))

-- lines were taken, and then more
pub TakenLines-append : (first next : List (List ℕ)) (halt : Option Stop) (old now new : Ahead) → TakenLines first None old now
    → TakenLines next halt now new
    → TakenLines (first ++ next) halt old new
TakenLines-append first next halt old now new p q = record {
  taken = p.taken ++ q.taken;
  takes = Takes-append p.taken q.taken old now new p.takes q.takes;
  cut = cut_append first next (lines_ahead old) (lines_ahead now) (lines_ahead new) p.cut q.cut;
  size = omega (
    arith,
    p.size,
    q.size,
    length-append p.taken q.taken,
    length-append (bytes_of first) (bytes_of next),
    ap length (flat_map-append (λ (line : List ℕ). line ++ line_feed ∷ []) first next),
  );
  ended = λ h more. ap ended_lines (append_assoc p.taken q.taken more) ∙ p.ended refl (q.taken ++ more)
      ∙ ap (λ l. first ++ l) (q.ended h more)
      ∙ sym (append_assoc first next (ended_lines more));
  all = λ h more. ap lines_of (append_assoc p.taken q.taken more) ∙ p.all refl (q.taken ++ more) ∙ ap (λ l. first ++ l) (q.all h more)
      ∙ sym (append_assoc first next (lines_of more));
  few = q.few;
  whole = λ h. p.all refl q.taken ∙ ap (λ l. first ++ l) (q.whole h);
  end = q.end;
  none_pending = q.none_pending;
}

-- the lines that were taken are the first of those that were read
pub HasRead-taken : (lines : List (List ℕ)) (halt : Option Stop) (old now : Ahead) → TakenLines lines halt old now → HasRead lines old now
HasRead-taken lines None old now t =
    let few = t.few refl in
    let within : length (t.taken ++ now.pending) ≤ old.budget = omega (arith, t.takes.cost, few.1, length-append t.taken now.pending) in
    record {
      taken = t.taken;
      gave = t.takes.bytes;
      within = omega (arith, within);
      are_read = inl (
        ended_lines now.pending,
        ap ended_lines (take_all old.budget (t.taken ++ now.pending) within)
            ∙ t.ended refl now.pending,
      );
    }
HasRead-taken lines (Some halt) old now t =
    let same : t.taken ++ now.pending ≡ t.taken = ap (λ l. t.taken ++ l) (t.none_pending refl) ∙ append-nil t.taken in
    let within : length (t.taken ++ now.pending) ≤ old.budget = omega (arith, t.takes.cost, ap length same) in
    let test : nat_le (length (t.taken ++ now.pending)) old.budget ≡ true = grind (arith, nat_tests) in record {
      taken = t.taken;
      gave = t.takes.bytes;
      within = omega (arith, within);
      are_read = inr (t.end refl, ([], rw test (ap lines_of same ∙ t.whole refl ∙ sym (append-nil lines))));
    }

-- and so they are where more bytes were taken, and none that was read is left
pub HasRead-begun : (lines : List (List ℕ)) (old now next : Ahead) (begun : List ℕ) → TakenLines lines None old now → Takes begun now next
    → next.pending ≡ [] → HasRead lines old next
HasRead-begun lines old now next begun t q none =
    let all = Takes-append t.taken begun old now next t.takes q in
    let same : (t.taken ++ begun) ++ next.pending ≡ t.taken ++ begun = ap (λ l. (t.taken ++ begun) ++ l) none
    ∙ append-nil (t.taken ++ begun) in
    let within : length ((t.taken ++ begun) ++ next.pending) ≤ old.budget = omega (arith, all.cost, ap length same) in record {
      taken = t.taken ++ begun;
      gave = all.bytes;
      within = omega (arith, within);
      are_read = inl (
        ended_lines begun,
        ap ended_lines (take_all old.budget ((t.taken ++ begun) ++ next.pending) within ∙ same)
            ∙ t.ended refl begun,
      );
    }

-- and where the limit was met
pub HasRead-limit : (lines : List (List ℕ)) (old now next : Ahead) → TakenLines lines None old now → MeetsLimit now next
    → HasRead lines old next
HasRead-limit lines old now next t m =
    let prefix = t.taken ++ m.begun in
    let part = Takes-append t.taken m.begun old now m.spent t.takes m.part.taken in
    let size : old.budget ≡ length prefix = omega (arith, part.cost, m.none_left) in
    let same : (prefix ++ m.byte ∷ []) ++ next.pending ≡ prefix ++ m.byte ∷ [] = ap (λ l. (prefix ++ m.byte ∷ []) ++ l) m.none_pending
    ∙ append-nil (prefix ++ m.byte ∷ []) in record {
      taken = prefix ++ m.byte ∷ [];
      gave = part.bytes ∙ ap (prepend_known prefix) m.beyond ∙ prepend_known-append prefix (m.byte ∷ []) next.bytes;
      within = omega (arith, ap length same, length-append prefix (m.byte ∷ []), size);
      are_read = inl (
        ended_lines m.begun,
        ap ended_lines (ap (take old.budget) same ∙ take_at prefix (m.byte ∷ []) old.budget (sym size))
            ∙ t.ended refl m.begun,
      );
    }
