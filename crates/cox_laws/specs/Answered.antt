-- What the laws on single commands say: the reply to a line with these tokens, where no list is open.
use Rattle.std.specs.Prelude.{◌≡◌, ℕ, List, [], ◌∷◌, ◌++◌, Ok, Some}
use Rattle.cox_base.specs.Matrix.{CoxeterMatrix}
use Rattle.cox_base.specs.IntegerMatrix.{integer_matrix}
use Rattle.cox_base.specs.WordReading.{ReadsWord}
use Rattle.cox_small.specs.SmallRoots.{HasMoreSmallRoots}
use Rattle.cox_tokens.specs.Tokens.{tokens_of}
use Rattle.cox_command.specs.declared.refusal.Refusal.TheVariants.{ManyRoots, LargeInterval, FarApart, LargeRow}
use Rattle.cox_shell.specs.Reply.{State, Reply, refusal, silence}
use Rattle.cox_shell.specs.ContentReply.{IsContentReply}

-- this text reads as this word of the group
abbrev pub ReadsAs : CoxeterMatrix → List ℕ → List ℕ → Type 0
ReadsAs g text w = ReadsWord (Ok (record { items = w })) text g.rank

-- This reply is the refusal 31 where this interval or group is too large; else 34 where elements are too far apart; else 32 where a row is
-- too large; else it writes one of the right texts, and a line feed behind it. By `refusal` and `silence` that tells all of the reply: what
-- it writes, that the state stays, whether the line is refused, and that the run goes on.
pub data AnswersBy (state : State) (large far row : Type 0) (IsText : List ℕ → Type 0) (reply : Reply) : Type 0 where
  error_31 : large → reply ≡ refusal state LargeInterval → AnswersBy state large far row IsText reply
  error_34 : (large → ⊥) → far → reply ≡ refusal state FarApart → AnswersBy state large far row IsText reply
  error_32 : (large → ⊥) → (far → ⊥) → row → reply ≡ refusal state LargeRow → AnswersBy state large far row IsText reply
  answer : (large → ⊥) → (far → ⊥) → (row → ⊥) → (text : List ℕ) → IsText text → reply ≡ record (silence state) { text = text ++ 10 ∷ [] }
      → AnswersBy state large far row IsText reply

-- that is the reply to a line with these tokens
abbrev pub IsAnswered : State → List (List ℕ) → Type 0 → Type 0 → Type 0 → (List ℕ → Type 0) → Type 0
IsAnswered state tokens large far row IsText = (content : List ℕ) (reply : Reply) → tokens_of content ≡ tokens
    → IsContentReply state content reply → AnswersBy state large far row IsText reply

-- This reply is the refusal 21 where the group has more small roots than the limit; else it writes nothing and sets the group.
pub data SetsGroup (state : State) (g : CoxeterMatrix) (reply : Reply) : Type 0 where
  error_21 : HasMoreSmallRoots (integer_matrix g) state.limits.roots → reply ≡ refusal state ManyRoots → SetsGroup state g reply
  sets : (HasMoreSmallRoots (integer_matrix g) state.limits.roots → ⊥) → reply ≡ silence (record state { group = Some g })
      → SetsGroup state g reply

-- that is the reply to a line with these tokens
abbrev pub IsSetBy : State → List (List ℕ) → CoxeterMatrix → Type 0
IsSetBy state tokens g = (content : List ℕ) (reply : Reply) → tokens_of content ≡ tokens → IsContentReply state content reply
    → SetsGroup state g reply

-- the reply to a line with these tokens is this one
abbrev pub IsRepliedBy : State → List (List ℕ) → Reply → Type 0
IsRepliedBy state tokens given = (content : List ℕ) (reply : Reply) → tokens_of content ≡ tokens → IsContentReply state content reply
    → reply ≡ given
