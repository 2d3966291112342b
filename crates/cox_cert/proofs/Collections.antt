-- What was read of a text, line by line.
use Rattle.std.proofs.Common.{◌≡◌, ℕ, ◌+◌, ◌<◌, ◌≤◌, ⊎_elim, Bool, false, cond, is_some, List, [], ◌∷◌, ◌++◌, length, All}
use Rattle.std.proofs.Common.{Option, Some, None}
use Rattle.std.proofs.Common.{Ok, Err, refl, sym, ap, ◌∙◌, subst, arith, length-append, position}
use Rattle.std.specs.Option.{IfSome, IsSome, option_map}
use Rattle.std.specs.Io.KnownBytes.{prepend_known, IsAtEnd}
use Rattle.std.proofs.lemmas.List.{append-nil}
use Rattle.std.proofs.lemmas.List.Elements.{All-nil, All-push}
use Rattle.std.proofs.lemmas.Option.{IfSome_then}
use Rattle.cox_tokens.specs.declared.limits.TheConstants.{LINE_LIMIT}
use Rattle.cox_outside.specs.declared.limits.TheConstants.{INPUT_LIMIT}
use Rattle.cox_outside.specs.declared.line_reader.Stop.{Stop}
use Rattle.cox_outside.specs.declared.line_reader.Stop.TheVariants as stop
use Rattle.cox_tokens.specs.Line.{content_of, is_foreign}
use Rattle.cox_outside.specs.Ahead.{Ahead, ahead, Takes, MeetsEnd, MeetsLimit}
use Rattle.cox_outside.specs.Reader.{Reader, TakesNext, fresh_reader}
use Rattle.cox_outside.proofs.Known.{prepend_known-append, prepend_known-none}
use Rattle.cox_outside.proofs.Taking.{Takes-append}
use Rattle.cox_cert.specs.declared.status.Cause.TheVariants.{Grammar}
use Rattle.cox_cert.specs.declared.draft.Draft.{Draft}
use Rattle.cox_cert.specs.declared.draft.Form.{Form}
use Rattle.cox_cert.specs.declared.draft.Form.TheVariants as form
use Rattle.cox_cert.specs.declared.collecting.Halt.{Halt}
use Rattle.cox_cert.specs.declared.collecting.Halt.TheVariants as halt
use Rattle.cox_certtext.specs.Certificate.{Certificate, Gives, contents}
use Rattle.cox_cert.specs.Causes.{IsFirstCause}
use Rattle.cox_cert.specs.Checks.{ReadsAll, ReadsWithin}
use Rattle.cox_cert.specs.Drafts.{IsForm, BeginsNone, HasAll}
use Rattle.cox_cert.specs.Collected.{TakesFitting, TakesNone, TakesForeign, TakesOrHalts, Gathers}
use Rattle.cox_cert.proofs.TakenContents.{HasHalted, HasTaken, HasTaken-one, HasTaken-none, HasTaken-end, HasTaken-append, budget-smaller}
use Rattle.cox_cert.proofs.FirstLines.{none-long, none-byte}
use Rattle.cox_cert.proofs.TakenContents.{contents-whole, contents-all, within-budget, IsAtEnd-left}

-- the lines that were taken, and what was read by them
pub record Progress (form : Form) (halt : Option Stop) (old now : Ahead) : Type 0 where
  pub lines : List (List ℕ)
  pub taken : HasTaken lines halt old now
  pub short : All (λ line. length line ≤ LINE_LIMIT) lines
  pub forms : IsForm form lines

-- nothing was taken yet
pub Progress-start : (halt : Option Stop) (here : Ahead) → halt ≡ None → here.pending ≡ [] → Progress form.Start halt here here
Progress-start halt here going none = record {
  lines = [];
  taken = subst (λ h. HasTaken [] h here here) (sym going) (HasTaken-none here none);
  short = All-nil (λ line. length line ≤ LINE_LIMIT);
  forms = refl;
}

-- the input ends behind the lines that were taken
ended : (lines : List (List ℕ)) (before : Option Stop) (old now new : Ahead) → HasTaken lines before old now → MeetsEnd now new
    → HasTaken lines (Some stop.End) old new
ended lines before old now new t m =
    subst (λ l. HasTaken l (Some stop.End) old new) (append-nil lines)
    (HasTaken-append lines [] before (Some stop.End) old now new t (HasTaken-end now new m))

-- one more line was taken, or the input has ended
pub Progress-step : (form next : Form) (before after : Option Stop) (old now new : Ahead) → Progress form before old now
    → TakesOrHalts (Ok next) form after now new → Progress next after old new
Progress-step form next before after old now new p s =
    ⊎_elim
    (λ (t : TakesFitting form next after now new). record {
      lines = p.lines ++ content_of t.line ∷ [];
      taken = HasTaken-append p.lines (content_of t.line ∷ []) before after old now new p.taken
          (HasTaken-one after t.line now new t.takes);
      short = All-push (λ line. length line ≤ LINE_LIMIT) p.lines (content_of t.line) p.short t.short;
      forms = t.fits p.lines p.forms;
    })
    (λ (t : TakesNone form next after now new). record {
      lines = p.lines;
      taken = subst (λ h. HasTaken p.lines h old new) (sym t.halted) (ended p.lines before old now new p.taken t.meets);
      short = p.short;
      forms = subst (λ f. IsForm f p.lines) (sym t.same) p.forms;
    }) s

-- fewer bytes may be handed out, or the reader has stopped
pub step-smaller : (form next : Form) (after : Option Stop) (now new : Ahead) → TakesOrHalts (Ok next) form after now new
    → new.budget + cond (is_some after) 0 1 < now.budget + 1
step-smaller form next after now new s =
    ⊎_elim
    (λ (t : TakesFitting form next after now new). by_halt after (budget-smaller after t.line now new t.takes))
    (λ (t : TakesNone form next after now new). rw t.halted (omega (arith, t.meets.taken.cost))) s
  where
    by_halt : (h : Option Stop) → new.budget < now.budget → new.budget + cond (is_some h) 0 1 < now.budget + 1
    by_halt None less = omega arith
    by_halt (Some h) less = omega arith

-- a reader that has read nothing has the whole text ahead, within the limit
pub begins-fresh : (reader : Reader) (text : Option (List ℕ)) → reader ≡ fresh_reader → (ahead reader.feed text).bytes ≡ text
begins-fresh reader text fresh = ap (λ (r : Reader). prepend_known r.feed.pending text) fresh ∙ prepend_known-none text

pub limit-fresh : (reader : Reader) → reader ≡ fresh_reader → reader.feed.budget ≡ INPUT_LIMIT
limit-fresh reader fresh = ap (λ (r : Reader). r.feed.budget) fresh

-- a reader that has not stopped
pub going : (stops : Option Stop) (stopped : Bool) → stopped ≡ is_some stops → stopped ≡ false → stops ≡ None
going None stopped is false_is = refl
going (Some stop) stopped is false_is = absurd (cc (is, false_is))

-- ---- lines that are no certificate's

-- one that is too long
pub foreign-long : (form : Form) (after : Option Stop) (line : List ℕ) (now new : Ahead) → TakesNext after line now new
    → LINE_LIMIT < length (content_of line) → TakesForeign form after now new
foreign-long form after line now new takes long = record {
  line = line;
  takes = takes;
  foreign = λ lines h. none-long lines (content_of line) long;
}

-- one with a foreign byte
pub foreign-byte : (form : Form) (after : Option Stop) (line : List ℕ) (byte_at : ℕ) (now new : Ahead) → TakesNext after line now new
    → option_map (λ before. before + 1) (position is_foreign (content_of line)) ≡ Some byte_at → TakesForeign form after now new
foreign-byte form after line byte_at now new takes found = record {
  line = line;
  takes = takes;
  foreign = λ lines h.
      let i = found_some (position is_foreign (content_of line)) byte_at found in none-byte lines (content_of line) i.0 i.1;
} where
  found_some : (place : Option ℕ) (told : ℕ) → option_map (λ before. before + 1) place ≡ Some told → (i : ℕ) × (place ≡ Some i)
  found_some None told e = absurd (cc e)
  found_some (Some i) told e = (i, refl)

-- ---- what was read in all

-- a reader that has stopped stands at the end
pub halted-end : (stops : Option Stop) (here : Ahead) → IsSome stops → HasHalted stops here → IsAtEnd here.bytes
halted-end None here some h = absurd (cc some)
halted-end (Some stop.End) here some h = h
halted-end (Some stop.Failed) here some h = absurd h
halted-end (Some stop.Limit) here some h = absurd h

-- two facts of a known value, and what follows from one
IfSome-both : {X : Type 0} (P Q : X → Type 0) (known : Option X) → IfSome known P → IfSome known Q → IfSome known (λ x. P x × Q x)
IfSome-both P Q None p q = tt
IfSome-both P Q (Some x) p q = (p, q)

module _ (text left : Option (List ℕ)) (old new : Ahead) (pending : List ℕ)
    (begins : old.bytes ≡ text) (limit : old.budget ≡ INPUT_LIMIT)
    (behind : new.bytes ≡ prepend_known pending left) (waits : new.pending ≡ pending) where
  -- no more than may be handed out
  pub reads-within : (taken : List ℕ) → Takes taken old new → length new.pending ≤ new.budget → ReadsWithin text left
  reads-within taken t few = (
    taken ++ pending,
    sym begins ∙ t.bytes ∙ ap (prepend_known taken) behind ∙ prepend_known-append taken pending left,
    omega (arith, t.cost, few, limit, length-append taken pending, ap length waits),
  )

  -- or one byte more
  pub reads-limit : (taken : List ℕ) (now : Ahead) → Takes taken old now → (m : MeetsLimit now new) → ReadsWithin text left
  reads-limit taken now t m =
      let part = Takes-append taken m.begun old now m.spent t m.part.taken in
      let none : pending ≡ [] = sym waits ∙ m.none_pending in
      let prefix : List ℕ = taken ++ m.begun in (
        prefix ++ m.byte ∷ [],
        sym begins ∙ part.bytes ∙ ap (prepend_known prefix) m.beyond ∙ prepend_known-append prefix (m.byte ∷ []) new.bytes
            ∙ ap (prepend_known (prefix ++ m.byte ∷ [])) (behind ∙ ap (λ p. prepend_known p left) none ∙ prepend_known-none left),
        omega (arith, part.cost, limit, length-append prefix (m.byte ∷ [])),
      )

  -- the text has more bytes than may be read
  over : (taken : List ℕ) (now : Ahead) → Takes taken old now → (m : MeetsLimit now new) → IfSome text (λ bytes. INPUT_LIMIT < length bytes)
  over taken now t m =
      let part = Takes-append taken m.begun old now m.spent t m.part.taken in
      let prefix : List ℕ = taken ++ m.begun in
      let is : text ≡ prepend_known (prefix ++ m.byte ∷ []) new.bytes =
      sym begins ∙ part.bytes ∙ ap (prepend_known prefix) m.beyond ∙ prepend_known-append prefix (m.byte ∷ []) new.bytes in
      let size : length prefix ≡ INPUT_LIMIT = omega (arith, part.cost, limit, m.none_left) in
      rw is (by_known prefix m.byte size new.bytes)
    where
      by_known : (prefix : List ℕ) (byte : ℕ) → length prefix ≡ INPUT_LIMIT → (known : Option (List ℕ))
          → IfSome (prepend_known (prefix ++ byte ∷ []) known) (λ bytes. INPUT_LIMIT < length bytes)
      by_known prefix byte size None = tt
      by_known prefix byte size (Some rest) =
          omega (arith, size, length-append (prefix ++ byte ∷ []) rest, length-append prefix (byte ∷ []))

  -- no certificate has these lines first
  pub gathers-foreign : (lines : List (List ℕ)) (stops : Option Stop) → HasTaken lines stops old new → BeginsNone lines
      → Gathers (Err halt.Foreign) text left
  gathers-foreign lines stops t none =
      subst (λ known. IfSome known (λ bytes. IsFirstCause Grammar (contents bytes))) begins
      (contents-whole (λ all. (c : Certificate) → ¬ Gives all c) lines stops old new t (λ more c. none more c))

  -- what is known of the whole text at its end
  all-read : (lines : List (List ℕ)) (stops : Option Stop) → HasTaken lines stops old new → IsSome stops
      → ReadsAll (λ all. all ≡ lines) text left
  all-read lines stops t halted =
      let end : IsAtEnd new.bytes = halted-end stops new halted t.halted in (
        subst (λ known. IfSome known (λ bytes. (length bytes ≤ INPUT_LIMIT) × (contents bytes ≡ lines))) begins
            (IfSome-both (λ bytes. length bytes ≤ INPUT_LIMIT) (λ bytes. contents bytes ≡ lines) old.bytes
            (subst (λ (n : ℕ). IfSome old.bytes (λ bytes. length bytes ≤ n)) limit (within-budget t.taken old new t.takes end))
            (contents-all lines stops old new t end)),
        IsAtEnd-left pending left (subst IsAtEnd behind end),
      )

  -- the lines are those of a certificate ..
  pub gathers-all : (draft : Draft) (lines : List (List ℕ)) (stops : Option Stop) → HasTaken lines stops old new → IsSome stops
      → All (λ line. length line ≤ LINE_LIMIT) lines → HasAll draft lines → Gathers (Ok draft) text left
  gathers-all draft lines stops t halted short h = record {
    certificate = h.certificate;
    parts = h.parts;
    lines = lines;
    gives = record { is = h.is; written = h.written; short = short };
    all = all-read lines stops t halted;
  }

  -- .. or of none
  pub gathers-none : (lines : List (List ℕ)) (stops : Option Stop) → HasTaken lines stops old new → IsSome stops
      → ((c : Certificate) → ¬ Gives lines c) → Gathers (Err halt.Foreign) text left
  gathers-none lines stops t halted none =
      subst (λ known. IfSome known (λ bytes. IsFirstCause Grammar (contents bytes))) begins
      (IfSome_then old.bytes (contents-all lines stops old new t (halted-end stops new halted t.halted))
      (λ bytes same c gives. none c (subst (λ l. Gives l c) same gives)))

  -- the reading halted
  pub gathers-halted : (why : Halt) (form : Form) (before after : Option Stop) (now : Ahead) → Progress form before old now
      → TakesOrHalts (Err why) form after now new → Gathers (Err why) text left × ReadsWithin text left
  gathers-halted halt.Foreign form before after now p s =
      let all = HasTaken-append p.lines (content_of s.line ∷ []) before after old now new p.taken
      (HasTaken-one after s.line now new s.takes)
      in
      (gathers-foreign (p.lines ++ content_of s.line ∷ []) after all (s.foreign p.lines p.forms), reads-within all.taken all.takes all.few)
  gathers-halted halt.Failed form before after now p s = (
    tt,
    reads-within (p.taken.taken ++ s.begun) (Takes-append p.taken.taken s.begun old now new p.taken.takes s.part.taken)
        (omega (arith, ap length s.none_pending)),
  )
  gathers-halted halt.Limit form before after now p s =
      (over p.taken.taken now p.taken.takes s, reads-limit p.taken.taken now p.taken.takes s)
  gathers-halted halt.NoMemory form before after now p s =
      let all = HasTaken-append p.lines (content_of s.0 ∷ []) before after old now new p.taken (HasTaken-one after s.0 now new s.1) in
      (tt, reads-within all.taken all.takes all.few)
