-- What lines are answered that set a group, end the run, open a list, or are refused by their tokens; and the lines of a list.
use Rattle.std.proofs.Common.{◌≡◌, inl, inr, ℕ, ◌+◌, ◌-◌, ◌*◌, ◌/◌, ◌==◌, true, List, [], ◌∷◌, length, map, Option, Some, None, MatchOption}
use Rattle.std.proofs.Common.{refl, arith}
use Rattle.std.proofs.lemmas.Bool.{eq-eqb}
use Rattle.std.specs.List.{list_all}
use Rattle.std.specs.Prelude.{codes}
use Rattle.cox_base.specs.declared.limits.TheConstants.{MAX_RANK}
use Rattle.cox_base.specs.Matrix.{CoxeterMatrix, is_label}
use Rattle.cox_base.specs.NamedType.{is_type, type_matrix}
use Rattle.cox_tokens.specs.Tokens.{tokens_of}
use Rattle.cox_tokens.specs.Number.{is_number, is_number_in, value_of}
use Rattle.cox_command.specs.CommandWord.{command_word_of}
use Rattle.cox_command.specs.LineRefusal.{command_refusal, line_refusal}
use Rattle.cox_command.specs.CommandReading.{command_of}
use Rattle.cox_command.specs.BlockLines.{list_word_of}
use Rattle.cox_command.specs.declared.blocks.ListWord.TheVariants.{Next, End}
use Rattle.cox_command.specs.declared.refusal.Refusal.{Refusal}
use Rattle.cox_command.specs.declared.command.Command.{Command}
use Rattle.cox_command.specs.declared.command.Command.TheVariants as gives
use Rattle.cox_command.specs.declared.command_word.CommandWord.{CommandWord}
use Rattle.cox_command.specs.declared.command_word.CommandWord.TheVariants.{Named, Matrix}
use Rattle.cox_replies.specs.Question.{IsRefused}
use Rattle.cox_shell.specs.Reply.{OpenList, State, Reply, rank_of, refusal, silence}
use Rattle.cox_shell.specs.OpenLists.{then_block}
use Rattle.cox_shell.specs.CommandReply.{RefusesGroup, IsCommandReply}
use Rattle.cox_shell.specs.ContentReply.{IsContentReply}
use Rattle.cox_shell.specs.ListReply.{IsReplyTo, reply_when_kept}
use Rattle.cox_shell.specs.Blocks.{IsListReply}
use Rattle.cox_laws.specs.Answered.{SetsGroup, IsSetBy, IsRepliedBy, error_21, sets}

-- ---- where no list is open

module _ (state : State) (tokens : List (List ℕ)) where
  -- the reply to a line whose tokens give a command is that to the command
  command-replied : (command : Command) → line_refusal tokens (rank_of state) ≡ None → command_of tokens (rank_of state) ≡ Some command
      → (content : List ℕ) (reply : Reply) → tokens_of content ≡ tokens → IsContentReply state content reply
      → IsCommandReply command state reply
  unfolding IsContentReply
  command-replied command accepted given content reply is_line is =
      let free : line_refusal (tokens_of content) (rank_of state) ≡ None = rw is_line accepted in
      let gives : command_of (tokens_of content) (rank_of state) ≡ Some command = rw is_line given in
      rw (free, gives) at is

  pub refused-replied : (why : Refusal) → line_refusal tokens (rank_of state) ≡ Some why → IsRepliedBy state tokens (refusal state why)
  unfolding IsContentReply
  refused-replied why refused content reply is_line is =
      let named : line_refusal (tokens_of content) (rank_of state) ≡ Some why = rw is_line refused in
      rw named at is

  -- a group is set, or has too many small roots
  group-set_by : (g : CoxeterMatrix) → line_refusal tokens (rank_of state) ≡ None
      → command_of tokens (rank_of state) ≡ Some (gives.Group g) → IsSetBy state tokens g
  group-set_by g accepted given content reply is_line is =
      let decided = command-replied (gives.Group g) accepted given content reply is_line is in
      by_found reply decided.0 decided.1 decided.2
    where
      by_found : (reply : Reply) (found : Option Refusal) → IsRefused (RefusesGroup state.limits g) found
          → MatchOption found (reply ≡ silence (record state { group = Some g })) (λ why. reply ≡ refusal state why)
          → SetsGroup state g reply
      by_found reply found (inl many) is = error_21 many.0 (rw many.1 at is)
      by_found reply found (inr (few, inl large)) is = absurd large.0
      by_found reply found (inr (few, inr (small, inl far))) is = absurd far.0
      by_found reply found (inr (few, inr (small, inr (near, inl row)))) is = absurd row.0
      by_found reply found (inr (few, inr (small, inr (near, inr (low, free))))) is = sets few (rw free at is)

pub blank-replied : (state : State) → IsRepliedBy state [] (silence state)
blank-replied state = command-replied state [] gives.Nothing refl refl

pub quit-replied : (state : State) → IsRepliedBy state (codes "quit" ∷ []) (record (silence state) { quits = true })
quit-replied state = command-replied state (codes "quit" ∷ []) gives.Quit refl refl

pub jobs-replied : (state : State) (g : CoxeterMatrix) → state.group ≡ Some g
    → IsRepliedBy state (codes "jobs" ∷ []) (silence (record state { list = Some ([] ∷ []) }))
jobs-replied state g set = command-replied state (codes "jobs" ∷ []) gives.Jobs (rw set refl) refl

pub type-sets : (state : State) (letter : ℕ) (number : List ℕ) → is_number number ≡ true → is_type letter (value_of number) ≡ true
    → IsSetBy state (codes "type" ∷ (letter ∷ []) ∷ number ∷ []) (type_matrix letter (value_of number))
type-sets state letter number numbered typed =
    group-set_by state (codes "type" ∷ (letter ∷ []) ∷ number ∷ []) (type_matrix letter (value_of number))
    (accepted (command_word_of (codes "type")) refl) refl
  where
    accepted : (o : Option CommandWord) → o ≡ Some Named → command_refusal o ((letter ∷ []) ∷ number ∷ []) (rank_of state) ≡ None
    accepted o named = rw (named, numbered, typed) refl

pub matrix-sets : (state : State) (rank : List ℕ) (labels : List (List ℕ)) → is_number_in 1 MAX_RANK rank ≡ true
    → length labels ≡ value_of rank * (value_of rank - 1) / 2 → list_all is_number labels ≡ true
    → list_all (λ label. is_label (value_of label)) labels ≡ true
    → IsSetBy state (codes "matrix" ∷ rank ∷ labels) (record { rank = value_of rank; labels = map value_of labels })
matrix-sets state rank labels ranked count numbers labelled =
    group-set_by state (codes "matrix" ∷ rank ∷ labels) (record { rank = value_of rank; labels = map value_of labels })
    (accepted (command_word_of (codes "matrix")) refl) refl
  where
    counted : (length (rank ∷ labels) == 1 + value_of rank * (value_of rank - 1) / 2) ≡ true
    counted = eq-eqb (length (rank ∷ labels)) (1 + value_of rank * (value_of rank - 1) / 2) (omega (arith, count))

    accepted : (o : Option CommandWord) → o ≡ Some Matrix → command_refusal o (rank ∷ labels) (rank_of state) ≡ None
    accepted o named = rw (named, ranked, counted, numbers, labelled) refl

-- ---- where a list is open

module _ (state : State) (list : OpenList) (content : List ℕ) (reply : Reply) (set : state.list ≡ Some list) where
  pub next-begins : tokens_of content ≡ codes "next" ∷ [] → IsReplyTo state content reply
      → reply ≡ silence (record state { list = Some (then_block list) })
  next-begins is_line is =
      let word : list_word_of (tokens_of content) ≡ Some Next = rw is_line refl in rw (set, word) at is

  pub end-ends : tokens_of content ≡ codes "end" ∷ [] → IsReplyTo state content reply → IsListReply state list reply
  end-ends is_line is =
      let word : list_word_of (tokens_of content) ≡ Some End = rw is_line refl in rw (set, word) at is

  pub other-kept : list_word_of (tokens_of content) ≡ None → IsReplyTo state content reply
      → reply ≡ reply_when_kept state list (record { content = content; refused = None })
  other-kept word is = rw (set, word) at is
