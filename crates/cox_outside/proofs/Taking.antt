-- What is taken of what lies ahead.
use Rattle.std.proofs.Common.{◌≡◌, ◌≢◌, ℕ, ◌+◌, ◌<◌, List, [], ◌∷◌, ◌++◌, length, Option, Some, None, refl, sym, ap, ◌∙◌, subst}
use Rattle.std.proofs.Common.{arith, length-append, append_assoc}
use Rattle.std.specs.Option.{option_map}
use Rattle.std.specs.Io.KnownBytes.{prepend_known, IsAtEnd}
use Rattle.std.proofs.lemmas.List.{append-nil}
use Rattle.std.proofs.lemmas.List.Elements.{All-push}
use Rattle.cox_outside.specs.declared.line_reader.Stop.{Stop}
use Rattle.cox_outside.specs.declared.line_reader.Stop.TheVariants as stop
use Rattle.cox_tokens.specs.Line.{line_feed, lines_within}
use Rattle.cox_tokens.specs.Unbroken.{IsUnbroken}
use Rattle.cox_outside.specs.Ahead.{Ahead, lines_ahead, Takes, TakesPart, MeetsEnd}
use Rattle.cox_outside.specs.Reader.{TakesNext}
use Rattle.cox_outside.proofs.Known.{prepend_known-append, prepend_known-none}
use Rattle.cox_tokens.proofs.Lines.{lines_within-line, lines_within-last, lines_within-none}

-- no bytes were taken
pub Takes-none : (here : Ahead) → Takes [] here here
Takes-none here = record { bytes = sym (prepend_known-none here.bytes); cost = omega arith }

-- bytes were taken, and then more
pub Takes-append : (prefix next : List ℕ) (old mid new : Ahead) → Takes prefix old mid → Takes next mid new → Takes (prefix ++ next) old new
Takes-append prefix next old mid new p q = record {
  bytes = p.bytes ∙ ap (prepend_known prefix) q.bytes ∙ prepend_known-append prefix next new.bytes;
  cost = omega (arith, p.cost, q.cost, length-append prefix next);
}

-- one more byte of the beginning of a line
pub TakesPart-push : (begun : List ℕ) (byte : ℕ) (old mid new : Ahead) → TakesPart begun old mid → byte ≢ line_feed
    → Takes (byte ∷ []) mid new → TakesPart (begun ++ byte ∷ []) old new
TakesPart-push begun byte old mid new p other q = record {
  unbroken = All-push (λ b. b ≢ line_feed) begun byte p.unbroken other;
  taken = Takes-append begun (byte ∷ []) old mid new p.taken q;
}

-- the lines of what is known, at its end
lines_at_end : (limit : ℕ) (known : Option (List ℕ)) → IsAtEnd known → option_map (λ bytes. lines_within limit bytes) known
    ≡ option_map (λ _. []) known
lines_at_end limit None end = refl
lines_at_end limit (Some bytes) end = ap Some (ap (lines_within limit) end ∙ lines_within-none limit)

-- a line that ends by LF, before what is known
lines_by_lf : (limit : ℕ) (line : List ℕ) (known : Option (List ℕ)) → IsUnbroken line
    → option_map (λ bytes. lines_within (limit + length (line ++ line_feed ∷ [])) bytes) (prepend_known (line ++ line_feed ∷ []) known)
    ≡ option_map (λ lines. line ∷ lines) (option_map (λ bytes. lines_within limit bytes) known)
lines_by_lf limit line None h = refl
lines_by_lf limit line (Some rest) h = ap Some
    (ap (lines_within (limit + length (line ++ line_feed ∷ []))) (append_assoc line (line_feed ∷ []) rest)
    ∙ lines_within-line limit line rest h)

-- a last line, before what is known, at its end
lines_by_end : (limit : ℕ) (line : List ℕ) (known : Option (List ℕ)) → 0 < length line → IsUnbroken line → IsAtEnd known
    → option_map (λ bytes. lines_within (limit + length line) bytes) (prepend_known line known)
    ≡ option_map (λ lines. line ∷ lines) (option_map (λ bytes. lines_within limit bytes) known)
lines_by_end limit line None some h end = refl
lines_by_end limit line (Some rest) some h end =
    let whole : line ++ rest ≡ line = ap (λ more. line ++ more) end ∙ append-nil line in
    ap Some (ap (lines_within (limit + length line)) whole ∙ lines_within-last (limit + length line) line some (omega arith) h
    ∙ ap (λ lines. line ∷ lines) (sym (ap (lines_within limit) end ∙ lines_within-none limit)))

-- at the end no line lay ahead
pub lines_ahead-end : (old new : Ahead) → MeetsEnd old new → lines_ahead old ≡ option_map (λ _. []) old.bytes
lines_ahead-end old new meets = lines_at_end old.budget old.bytes
    (subst IsAtEnd (sym (meets.taken.bytes ∙ prepend_known-none new.bytes)) meets.end)

-- the line that was taken was the first
pub lines_ahead-line : (halt : Option Stop) (line : List ℕ) (old new : Ahead) → TakesNext halt line old new → lines_ahead old
    ≡ option_map (λ lines. line ∷ lines) (lines_ahead new)
lines_ahead-line None line old new takes = rw (takes.taken.bytes, takes.taken.cost) (lines_by_lf new.budget line new.bytes takes.unbroken)
lines_ahead-line (Some stop.End) line old new takes = rw (takes.taken.bytes, takes.taken.cost)
    (lines_by_end new.budget line new.bytes takes.some takes.unbroken takes.end)
lines_ahead-line (Some stop.Failed) line old new takes = absurd takes
lines_ahead-line (Some stop.Limit) line old new takes = absurd takes
