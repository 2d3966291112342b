-- The contract of a whole check, from what was read and what was written.
use Rattle.std.proofs.Common.{◌≡◌, ◌≢◌, ◌⊎◌, inl, inr, ℕ, ◌<◌, ◌≤◌, true, false, List, [], ◌∷◌, length, map, drop}
use Rattle.std.proofs.Common.{Option, Some, None}
use Rattle.std.proofs.Common.{refl, sym, subst, arith}
use Rattle.std.specs.Prelude.{IsSomeAnd}
use Rattle.std.specs.Option.{IfSome}
use Rattle.cox_outside.specs.declared.limits.TheConstants.{INPUT_LIMIT}
use Rattle.cox_outside.specs.FaultCount.{count_after}
use Rattle.cox_outside.specs.Supply.{Supply, SourceCause}
use Rattle.cox_outside.specs.Outlet.{Outlet}
use Rattle.cox_outside.proofs.Known.{prepend_known-none}
use Rattle.cox_cert.specs.declared.status.Cause.{Cause}
use Rattle.cox_cert.specs.declared.status.Cause.TheVariants.{Grammar, Top, Interval, Size, Row}
use Rattle.cox_cert.specs.declared.status.CheckStatus.{CheckStatus}
use Rattle.cox_cert.specs.declared.status.CheckStatus.TheVariants.{Yes, No, Usage, ReadFault, WriteFault, NoMemory, InputLimit}
use Rattle.cox_certtext.specs.Certificate.{Certificate, Gives, contents}
use Rattle.cox_cert.specs.Causes.{IsFirstCause, IsProof}
use Rattle.cox_cert.specs.Checks.{ReadsAll, ReadsWithin, IsCheck}
use Rattle.cox_cert.specs.Judgements.{IsJudged}
use Rattle.cox_cert.specs.Unhindered.{Rose, IsUnhindered}
use Rattle.cox_cert.proofs.Verdicts.{no_cause}
use Rattle.cox_cert.specs.Verdicts.{IsVerdict, Tells}

-- ---- the verdict

-- what holds of the lines that were read holds of the text
reads-along : (P : List (List ℕ) → Type 0) (lines : List (List ℕ)) (text left : Option (List ℕ)) → P lines
    → ReadsAll (λ all. all ≡ lines) text left → ReadsAll P text left
reads-along P lines None left h r = r
reads-along P lines (Some bytes) left h r = ((r.0.0, subst P (sym r.0.1) h), r.1)

-- a certificate that was judged so
pub verdict-judged : (status : CheckStatus) (c : Certificate) (lines : List (List ℕ)) (text left : Option (List ℕ)) → IsJudged status c
    → Gives lines c → ReadsAll (λ all. all ≡ lines) text left → IsVerdict status text left
verdict-judged Yes c lines text left (top, interval, small, row) gives r = record {
  says = reads-along IsProof lines text left
      (record { certificate = c; gives = gives; top = top; interval = interval; small = small; row = row }) r;
  no_usage = λ e. cc e;
  told = λ e. cc e;
}
verdict-judged (No Grammar) c lines text left j gives r = absurd j
verdict-judged (No Top) c lines text left j gives r =
    record { says = reads-along (IsFirstCause Top) lines text left (c, gives, j) r; no_usage = λ e. cc e; told = λ e. cc e }
verdict-judged (No Interval) c lines text left j gives r =
    record { says = reads-along (IsFirstCause Interval) lines text left (c, gives, j.0, j.1) r; no_usage = λ e. cc e; told = λ e. cc e }
verdict-judged (No Size) c lines text left j gives r =
    record { says = reads-along (IsFirstCause Size) lines text left (c, gives, j.0, j.1, j.2) r; no_usage = λ e. cc e; told = λ e. cc e }
verdict-judged (No Row) c lines text left j gives r =
    let says = reads-along (IsFirstCause Row) lines text left (c, gives, j.0, j.1, j.2, j.3) r in
    record { says = says; no_usage = λ e. cc e; told = λ e. cc e }
verdict-judged Usage c lines text left j gives r = absurd j
verdict-judged ReadFault c lines text left j gives r = absurd j
verdict-judged WriteFault c lines text left j gives r = absurd j
verdict-judged NoMemory c lines text left j gives r = record { says = tt; no_usage = λ e. cc e; told = λ e. cc e }
verdict-judged InputLimit c lines text left j gives r = absurd j

-- ---- the words behind the name

-- there are words behind the name where there are two arguments
pub behind-none : {X : Type 0} (text : X → List ℕ) (arguments : List X) → length arguments ≤ 1 → drop 1 (map text arguments) ≡ []
behind-none text [] few = refl
behind-none text (name ∷ []) few = refl
behind-none text (name ∷ word ∷ more) few = absurd (omega arith)

pub behind-some : {X : Type 0} (text : X → List ℕ) (arguments : List X) → 1 < length arguments → drop 1 (map text arguments) ≢ []
behind-some text [] many e = omega arith
behind-some text (name ∷ []) many e = omega arith
behind-some text (name ∷ word ∷ more) many e = cc e

-- it matters only whether there are words
pub check-words : (status : CheckStatus) (words others : List (List ℕ)) (source left : Supply) (old new : Outlet)
    → (words ≢ [] → others ≢ []) → (others ≢ [] → words ≢ []) → IsCheck status words source left old new
    → IsCheck status others source left old new
check-words status words others source left old new forth back h = record {
  says = h.says;
  usage = λ e. forth (h.usage e);
  usage_always = λ some. h.usage_always (back some);
  read_fault = h.read_fault;
  write_fault = h.write_fault;
  writes = h.writes;
  cut = λ e. let c = h.cut e in record {
    due = c.due;
    is_due = record {
      says = c.is_due.says;
      usage = λ e. forth (c.is_due.usage e);
      usage_always = λ some. c.is_due.usage_always (back some);
    };
    some = c.some;
    prefix = c.prefix;
    is_prefix = c.is_prefix;
    writes = c.writes;
    room = c.room;
  };
  within = h.within;
}

-- where words follow the name, the usage line is told, or a write failed, and nothing was read
unread : (source : Supply) → SourceCause source source false × ReadsWithin source.left source.left
unread source = (
  record { faults = refl; same_sure = refl; unsure = λ e. cc e },
  ([], sym (prepend_known-none source.left), omega arith),
)

pub check-usage : (status : CheckStatus) (words : List (List ℕ)) (source : Supply) (old new : Outlet) → words ≢ []
    → Tells status Usage old new → IsCheck status words source source old new
check-usage Usage words source old new some t = record {
  says = tt;
  usage = λ e. some;
  usage_always = λ more. inl refl;
  read_fault = (unread source).0;
  write_fault = t.cause;
  writes = t.writes;
  cut = λ e. cc e;
  within = (unread source).1;
}
check-usage WriteFault words source old new some t = record {
  says = tt;
  usage = λ e. cc e;
  usage_always = λ more. inr refl;
  read_fault = (unread source).0;
  write_fault = t.cause;
  writes = λ told. absurd (told refl);
  cut = λ e. let c = t.cut refl in record {
    due = Usage;
    is_due = record { says = tt; usage = λ d. some; usage_always = λ more. refl };
    some = c.some;
    prefix = c.prefix;
    is_prefix = c.is_prefix;
    writes = c.writes;
    room = c.room;
  };
  within = (unread source).1;
}
check-usage Yes words source old new some t = absurd (cc (t.same (λ e. cc e)))
check-usage (No cause) words source old new some t = absurd (cc (t.same (λ e. cc e)))
check-usage ReadFault words source old new some t = absurd (cc (t.same (λ e. cc e)))
check-usage NoMemory words source old new some t = absurd (cc (t.same (λ e. cc e)))
check-usage InputLimit words source old new some t = absurd (cc (t.same (λ e. cc e)))

-- ---- without faults

-- a count after a fault has risen
rose-told : (before now : ℕ) → now ≡ count_after true before → Rose before now
rose-told before now e = omega (arith, e)

-- a text within the limit has not more bytes
not-over : (text : Option (List ℕ)) → IfSome text (λ bytes. INPUT_LIMIT < length bytes)
    → IsSomeAnd text (λ bytes. length bytes ≤ INPUT_LIMIT) → ⊥
not-over None over within = within
not-over (Some bytes) over within = omega arith

pub check-unhindered : (status : CheckStatus) (source left : Supply) (old new : Outlet) → IsCheck status [] source left old new
    → ¬ Rose source.faults left.faults → ¬ Rose old.faults new.faults → IsSomeAnd source.left (λ text. length text ≤ INPUT_LIMIT)
    → IsUnhindered status
check-unhindered Yes source left old new h no_read no_write within = tt
check-unhindered (No cause) source left old new h no_read no_write within = tt
check-unhindered Usage source left old new h no_read no_write within = h.usage refl refl
check-unhindered ReadFault source left old new h no_read no_write within =
    no_read (rose-told source.faults left.faults h.read_fault.faults)
check-unhindered WriteFault source left old new h no_read no_write within = no_write (rose-told old.faults new.faults h.write_fault)
check-unhindered NoMemory source left old new h no_read no_write within = tt
check-unhindered InputLimit source left old new h no_read no_write within = not-over source.left h.says within

-- a proof within the limit is accepted then, or memory runs out
module _ (source left : Supply) (old new : Outlet) (bytes : List ℕ) (text : source.left ≡ Some bytes) (limit : length bytes ≤ INPUT_LIMIT)
    (proof : IsProof (contents bytes)) (no_read : ¬ Rose source.faults left.faults) (no_write : ¬ Rose old.faults new.faults) where
  hindered : (status : CheckStatus) → IsCheck status [] source left old new → IsUnhindered status
  hindered status h = check-unhindered status source left old new h no_read no_write (rw text limit)

  refuted : (cause : Cause) → ReadsAll (IsFirstCause cause) source.left left.left → ⊥
  refuted cause says = no_cause (contents bytes) proof cause (rw text at says.0).1

  pub check-proof : (status : CheckStatus) → IsCheck status [] source left old new → (status ≡ Yes) ⊎ (status ≡ NoMemory)
  check-proof Yes h = inl refl
  check-proof NoMemory h = inr refl
  check-proof (No Grammar) h = absurd (no_cause (contents bytes) proof Grammar (rw text at h.says))
  check-proof (No Top) h = absurd (refuted Top h.says)
  check-proof (No Interval) h = absurd (refuted Interval h.says)
  check-proof (No Size) h = absurd (refuted Size h.says)
  check-proof (No Row) h = absurd (refuted Row h.says)
  check-proof Usage h = absurd (hindered Usage h)
  check-proof ReadFault h = absurd (hindered ReadFault h)
  check-proof WriteFault h = absurd (hindered WriteFault h)
  check-proof InputLimit h = absurd (hindered InputLimit h)
