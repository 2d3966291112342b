-- Texts that are put unless a command is refused.
use Rattle.std.proofs.Common.{◌≡◌, ℕ, List, [], ◌∷◌, ◌++◌, None, Some, Result, Ok, Err, IsOk, inl, inr, refl, sym, ap, ◌∙◌}
use Rattle.std.proofs.Common.{◌-◌, append_assoc, arith}
use Rattle.std.proofs.lemmas.List.{append-nil}
use Rattle.std.specs.declared.alloc.AllocError.{AllocError}
use Rattle.cox_base.specs.IntegerMatrix.{IntegerMatrix}
use Rattle.cox_base.specs.Length.{word_length}
use Rattle.cox_command.specs.declared.refusal.Refusal.{Refusal}
use Rattle.cox_command.specs.declared.refusal.Refusal.TheVariants.{FarApart}
use Rattle.cox_rpoly.specs.Depth.{IsDeep}
use Rattle.cox_poly.specs.Puts.{PutsPrefix, Puts}
use Rattle.cox_poly.proofs.Behind.{PutsPrefix-first, PutsPrefix-second}
use Rattle.cox_replies.specs.declared.unanswered.Unanswered.{Unanswered}
use Rattle.cox_replies.specs.declared.unanswered.Unanswered.TheVariants.{Refused, NoMemory}
use Rattle.cox_replies.specs.Question.{command_refusals, IsRefused}
use Rattle.cox_replies.specs.InquiryQuestion.{RefusesFar}
use Rattle.cox_replies.specs.Putting.{PutsSome, PutsUnless, IsEnded, unrefused}
use Rattle.cox_replies.proofs.Refusing.{IsFirstRefusal-none}

-- nothing was put of a text
pub PutsPrefix-none : (text before after : List ℕ) → after ≡ before → PutsPrefix text before after
PutsPrefix-none text before after same = record { prefix = []; rest = text; parts = refl; behind = same ∙ sym (append-nil before) }

-- two elements are refused exactly where their R-polynomial is of too high a degree
pub far-refused : (A : IntegerMatrix) (y w : List ℕ) (d : ℕ) → IsDeep A y w d → IsRefused (RefusesFar A y w) (Some FarApart)
far-refused A y w d deep = inr (λ none. none, inr (λ none. none, inl ((deep.below, omega (arith, deep.difference, deep.above)), refl)))

-- the R-polynomial of elements that are far apart is of that degree
pub far-deep : (A : IntegerMatrix) (y w : List ℕ) → RefusesFar A y w FarApart → IsDeep A y w (word_length A w - word_length A y)
far-deep A y w far = record { below = far.0; difference = omega (arith, far.1); above = omega (arith, far.1) }

pub far-allowed : (A : IntegerMatrix) (y w : List ℕ) → ((d : ℕ) → IsDeep A y w d → ⊥) → IsRefused (RefusesFar A y w) None
far-allowed A y w near = inr (
  λ none. none,
  inr (
    λ none. none,
    inr (
      λ far. near (word_length A w - word_length A y) (far-deep A y w far),
      inr (λ none. none, refl),
    ),
  ),
)

-- a text that was put where nothing refuses
pub PutsUnless-put : (put : Result Unit AllocError) (Refuses : Refusal → Type 0) (IsText : List ℕ → Type 0) (before after : List ℕ)
    → IsRefused Refuses None → PutsSome put IsText before after → PutsUnless (unrefused put) Refuses IsText before after
PutsUnless-put (Ok done) Refuses IsText before after free some = (free, some.0, some.1, some.2)
PutsUnless-put (Err error) Refuses IsText before after free some = inr (free, some.0, some.1, some.2)

-- a text of a command that nothing can refuse
pub PutsUnless-free : (put : Result Unit AllocError) (IsText : List ℕ → Type 0) (text before after : List ℕ) → IsText text
    → Puts put text before after → PutsUnless (unrefused put) (λ why. ⊥) IsText before after
PutsUnless-free put IsText text before after is puts =
    PutsUnless-put put (λ why. ⊥) IsText before after (IsFirstRefusal-none (λ why. ⊥) (λ why none. none) command_refusals)
    (text, is, puts)

-- the same text, with the end of its last line
module _ (Refuses : Refusal → Type 0) (IsText : List ℕ → Type 0) (before : List ℕ) where
  -- where the text was not put, neither was the line
  pub PutsUnless-failed : (result : Result Unit Unanswered) (why : Unanswered) (after : List ℕ) → result ≡ Err why
      → PutsUnless result Refuses IsText before after → PutsUnless (Err why) Refuses (IsEnded IsText) before after
  PutsUnless-failed (Ok done) why after is put = absurd (cc is)
  PutsUnless-failed (Err (Refused one)) (Refused other) after is put = let same : one ≡ other = cc is in rw (← same) put
  PutsUnless-failed (Err (Refused one)) NoMemory after is put = absurd (cc is)
  PutsUnless-failed (Err NoMemory) (Refused other) after is put = absurd (cc is)
  PutsUnless-failed (Err NoMemory) NoMemory after is (inl same) = inl same
  PutsUnless-failed (Err NoMemory) NoMemory after is (inr part) =
      inr (part.0, part.1 ++ 10 ∷ [], (part.1, part.2, refl), PutsPrefix-first part.1 (10 ∷ []) before after part.3)

  -- where the text was put, and then a prefix of the end
  pub PutsUnless-broken : (result : Result Unit Unanswered) (mid after : List ℕ) → IsOk result → PutsUnless result Refuses IsText before mid
      → PutsPrefix (10 ∷ []) mid after → PutsUnless (Err NoMemory) Refuses (IsEnded IsText) before after
  PutsUnless-broken (Ok done) mid after fine put prefix =
      inr (put.0, put.1 ++ 10 ∷ [], (put.1, put.2, refl), PutsPrefix-second put.1 (10 ∷ []) before mid after put.3 prefix)
  PutsUnless-broken (Err why) mid after fine put prefix = absurd (cc fine)

  -- where both were put
  pub PutsUnless-ended : (result : Result Unit Unanswered) (mid after : List ℕ) → IsOk result → PutsUnless result Refuses IsText before mid
      → after ≡ mid ++ 10 ∷ [] → PutsUnless (Ok tt) Refuses (IsEnded IsText) before after
  PutsUnless-ended (Ok done) mid after fine put end = (
    put.0,
    put.1 ++ 10 ∷ [],
    (put.1, put.2, refl),
    end ∙ ap (λ t. t ++ 10 ∷ []) put.3 ∙ append_assoc before put.1 (10 ∷ []),
  )
  PutsUnless-ended (Err why) mid after fine put end = absurd (cc fine)
