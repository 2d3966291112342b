-- The lines that were taken from what lies ahead are the first of the text.
use Rattle.std.proofs.Common.{◌≡◌, ℕ, ◌<◌, ◌≤◌, List, [], ◌∷◌, ◌++◌, length, map, Option, Some, None}
use Rattle.std.proofs.Common.{refl, sym, ap, ◌∙◌, subst, arith, append_assoc, length-append}
use Rattle.std.specs.Option.{option_map, IfSome}
use Rattle.std.specs.Io.KnownBytes.{prepend_known, IsAtEnd}
use Rattle.std.proofs.lemmas.List.{append-nil}
use Rattle.cox_outside.specs.declared.line_reader.Stop.{Stop}
use Rattle.cox_outside.specs.declared.line_reader.Stop.TheVariants as stop
use Rattle.cox_tokens.specs.Line.{line_feed, lines_of, content_of}
use Rattle.cox_tokens.specs.Unbroken.{IsUnbroken}
use Rattle.cox_outside.specs.Ahead.{Ahead, Takes, MeetsEnd}
use Rattle.cox_outside.specs.Reader.{TakesNext}
use Rattle.cox_tokens.proofs.Lines.{lines_of-line, lines_of-last}
use Rattle.cox_outside.proofs.Taking.{Takes-none, Takes-append}
use Rattle.cox_certtext.specs.Certificate.{contents}

-- the contents of the lines that lie ahead, where the bytes are told
abbrev pub contents_ahead : Ahead → Option (List (List ℕ))
contents_ahead here = option_map contents here.bytes

-- a reader that has stopped did so at the end of the input
abbrev pub HasHalted : Option Stop → Ahead → Type 0
HasHalted None here = Unit {0}
HasHalted (Some stop.End) here = IsAtEnd here.bytes
HasHalted (Some stop.Failed) here = ⊥
HasHalted (Some stop.Limit) here = ⊥

-- lines with these contents were taken, and no more is read than may be handed out
pub record HasTaken (lines : List (List ℕ)) (halt : Option Stop) (old now : Ahead) : Type 0 where
  pub cut : contents_ahead old ≡ option_map (λ more. lines ++ more) (contents_ahead now)
  pub taken : List ℕ
  pub takes : Takes taken old now
  pub few : length now.pending ≤ now.budget
  pub halted : HasHalted halt now

-- ---- one line

-- a line that ends by LF
contents_by_lf : (line : List ℕ) (known : Option (List ℕ)) → IsUnbroken line
    → option_map contents (prepend_known (line ++ line_feed ∷ []) known)
    ≡ option_map (λ more. (content_of line ∷ []) ++ more) (option_map contents known)
contents_by_lf line None h = refl
contents_by_lf line (Some rest) h =
    ap Some (ap (λ all. map content_of (lines_of all)) (append_assoc line (line_feed ∷ []) rest)
    ∙ ap (map content_of) (lines_of-line line rest h))

-- a last line
contents_by_end : (line : List ℕ) (known : Option (List ℕ)) → 0 < length line → IsUnbroken line → IsAtEnd known
    → option_map contents (prepend_known line known) ≡ option_map (λ more. (content_of line ∷ []) ++ more) (option_map contents known)
contents_by_end line None some h end = refl
contents_by_end line (Some rest) some h end =
    let whole : line ++ rest ≡ line = ap (λ more. line ++ more) end ∙ append-nil line in
    let none : contents rest ≡ [] = ap contents end in
    ap Some (ap contents whole ∙ ap (map content_of) (lines_of-last line some h) ∙ ap (λ more. content_of line ∷ more) (sym none))

pub HasTaken-one : (halt : Option Stop) (line : List ℕ) (old new : Ahead) → TakesNext halt line old new
    → HasTaken (content_of line ∷ []) halt old new
HasTaken-one None line old new t = record {
  cut = ap (option_map contents) t.taken.bytes ∙ contents_by_lf line new.bytes t.unbroken;
  taken = line ++ line_feed ∷ [];
  takes = t.taken;
  few = t.few_pending.1;
  halted = tt;
}
HasTaken-one (Some stop.End) line old new t = record {
  cut = ap (option_map contents) t.taken.bytes ∙ contents_by_end line new.bytes t.some t.unbroken t.end;
  taken = line;
  takes = t.taken;
  few = omega (arith, ap length t.none_pending);
  halted = t.end;
}
HasTaken-one (Some stop.Failed) line old new t = absurd t
HasTaken-one (Some stop.Limit) line old new t = absurd t

-- a line takes a byte at least, or is the last
pub budget-smaller : (halt : Option Stop) (line : List ℕ) (old new : Ahead) → TakesNext halt line old new → new.budget < old.budget
budget-smaller None line old new t = omega (arith, t.taken.cost, length-append line (line_feed ∷ []))
budget-smaller (Some stop.End) line old new t = omega (arith, t.taken.cost, t.some)
budget-smaller (Some stop.Failed) line old new t = absurd t
budget-smaller (Some stop.Limit) line old new t = absurd t

-- ---- some lines

-- no line was taken yet
pub HasTaken-none : (here : Ahead) → here.pending ≡ [] → HasTaken [] None here here
HasTaken-none here none = record {
  cut = same (contents_ahead here);
  taken = [];
  takes = Takes-none here;
  few = omega (arith, ap length none);
  halted = tt;
} where
  same : (known : Option (List (List ℕ))) → known ≡ option_map (λ more. [] ++ more) known
  same None = refl
  same (Some more) = refl

-- nothing was left
pub HasTaken-end : (old new : Ahead) → MeetsEnd old new → HasTaken [] (Some stop.End) old new
HasTaken-end old new m = record {
  cut = ap (option_map contents) m.taken.bytes ∙ same new.bytes;
  taken = [];
  takes = m.taken;
  few = omega (arith, ap length m.none_pending);
  halted = m.end;
} where
  same : (known : Option (List ℕ)) → option_map contents (prepend_known [] known)
      ≡ option_map (λ more. [] ++ more) (option_map contents known)
  same None = refl
  same (Some rest) = refl

-- lines were cut off, and then more
cut-append : (first next : List (List ℕ)) (old now new : Option (List (List ℕ))) → old ≡ option_map (λ more. first ++ more) now
    → now ≡ option_map (λ more. next ++ more) new → old ≡ option_map (λ more. (first ++ next) ++ more) new
cut-append first next old now new p q = p ∙ ap (option_map (λ more. first ++ more)) q ∙ by_known new where
  by_known : (known : Option (List (List ℕ))) → option_map (λ more. first ++ more) (option_map (λ more. next ++ more) known)
      ≡ option_map (λ more. (first ++ next) ++ more) known
  by_known None = refl
  by_known (Some more) = ap Some (sym (append_assoc first next more))

-- lines were taken, and then more
pub HasTaken-append : (first next : List (List ℕ)) (before halt : Option Stop) (old now new : Ahead) → HasTaken first before old now
    → HasTaken next halt now new → HasTaken (first ++ next) halt old new
HasTaken-append first next before halt old now new p q = record {
  cut = cut-append first next (contents_ahead old) (contents_ahead now) (contents_ahead new) p.cut q.cut;
  taken = p.taken ++ q.taken;
  takes = Takes-append p.taken q.taken old now new p.takes q.takes;
  few = q.few;
  halted = q.halted;
}

-- ---- what is known of the whole text

-- a fact of the contents of the text, from one of its first lines
pub contents-whole : (P : List (List ℕ) → Type 0) (lines : List (List ℕ)) (halt : Option Stop) (old now : Ahead)
    → HasTaken lines halt old now → ((more : List (List ℕ)) → P (lines ++ more)) → IfSome old.bytes (λ bytes. P (contents bytes))
contents-whole P lines halt old now t all = by_bytes old.bytes (contents_ahead now) t.cut
  where
    by_bytes : (bytes : Option (List ℕ)) (rest : Option (List (List ℕ)))
        → option_map contents bytes ≡ option_map (λ more. lines ++ more) rest → IfSome bytes (λ b. P (contents b))
    by_bytes None rest e = tt
    by_bytes (Some b) None e = absurd (cc e)
    by_bytes (Some b) (Some more) e = let same : contents b ≡ lines ++ more = cc e in subst P (sym same) (all more)

-- at the end the lines that were taken are all lines
pub contents-all : (lines : List (List ℕ)) (halt : Option Stop) (old now : Ahead) → HasTaken lines halt old now → IsAtEnd now.bytes
    → IfSome old.bytes (λ bytes. contents bytes ≡ lines)
contents-all lines halt old now t end = by_bytes old.bytes now.bytes t.cut end
  where
    by_bytes : (bytes rest : Option (List ℕ)) → option_map contents bytes ≡ option_map (λ more. lines ++ more) (option_map contents rest)
        → IsAtEnd rest → IfSome bytes (λ b. contents b ≡ lines)
    by_bytes None rest e end = tt
    by_bytes (Some b) None e end = absurd (cc e)
    by_bytes (Some b) (Some rest) e end =
        let same : contents b ≡ lines ++ contents rest = cc e in
        same ∙ ap (λ text. lines ++ contents text) end ∙ append-nil lines

-- and the text is within the budget
pub within-budget : (taken : List ℕ) (old now : Ahead) → Takes taken old now → IsAtEnd now.bytes
    → IfSome old.bytes (λ bytes. length bytes ≤ old.budget)
within-budget taken old now t end = rw t.bytes (by_known now.bytes end) where
  by_known : (known : Option (List ℕ)) → IsAtEnd known → IfSome (prepend_known taken known) (λ bytes. length bytes ≤ old.budget)
  by_known None end = tt
  by_known (Some rest) end = omega (arith, t.cost, length-append taken rest, ap length end)

-- where no byte lies ahead, the source has none left
pub IsAtEnd-left : (pending : List ℕ) (left : Option (List ℕ)) → IsAtEnd (prepend_known pending left) → IsAtEnd left
IsAtEnd-left pending None end = tt
IsAtEnd-left [] (Some rest) end = end
IsAtEnd-left (byte ∷ pending) (Some rest) end = absurd (cc end)
