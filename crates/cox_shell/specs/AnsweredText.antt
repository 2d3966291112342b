-- What several lines are answered, with the number of the first refusal among them.
use Rattle.std.specs.Prelude.{◌≡◌, ℕ, List, [], ◌++◌, Option, None, Some, slice_get, Result, Ok, Err}
use Rattle.std.specs.List.{filter_map}
use Rattle.std.specs.Option.{option_map}
use Rattle.std.specs.declared.alloc.AllocError.{AllocError}
use Rattle.cox_command.specs.RefusalNumber.{refusal_number}
use Rattle.cox_shell.specs.declared.session.Said.{Said}
use Rattle.cox_shell.specs.declared.session.Said.TheVariants.{Answered, Refused, Quit}
use Rattle.cox_shell.specs.Reply.{Kept, State, Reply, closed, texts}
use Rattle.cox_shell.specs.OpenLists.{kept_lines}
use Rattle.cox_shell.specs.Blocks.{IsBlockLineReply, AreBlockLineReplies}

-- the texts, and the number
pub record Numbered : Type 0 where
  pub text : List ℕ
  pub refused : Option ℕ

-- what a reply writes, and the number of its refusal
abbrev pub numbered_by : Reply → Numbered
numbered_by reply = record { text = reply.text; refused = option_map refusal_number reply.refused }

-- what replies write, and the number of the first refusal among them
abbrev pub numbered : List Reply → Numbered
numbered replies =
    record { text = texts replies; refused = option_map refusal_number (slice_get (filter_map (λ reply. reply.refused) replies) 0) }

abbrev pub no_text : Numbered
no_text = record { text = []; refused = None }

-- the first of two numbers, if there is one
abbrev pub first_number : Option ℕ → Option ℕ → Option ℕ
first_number None other = other
first_number (Some one) other = Some one

-- one after the other
abbrev pub then_numbered : Numbered → Numbered → Numbered
then_numbered a b = record { text = a.text ++ b.text; refused = first_number a.refused b.refused }

-- the number that is said
abbrev pub number_said : Said → Option ℕ
number_said Answered = None
number_said (Refused number) = Some number
number_said Quit = None

-- what is said to lines of which this is the number
abbrev pub said_by : Option ℕ → Said
said_by None = Answered
said_by (Some number) = Refused number

-- what a line of a block, a block, or several are answered, behind what was answered before
abbrev pub AnswersLine : State → Kept → Numbered → Numbered → Type 0
AnswersLine state line before after =
    (reply : Reply) × IsBlockLineReply state line reply × (after ≡ then_numbered before (numbered_by reply))

abbrev pub AnswersBlock : State → List Kept → Numbered → Numbered → Type 0
AnswersBlock state lines before after =
    (replies : List Reply) × AreBlockLineReplies state lines replies × (after ≡ then_numbered before (numbered replies))

abbrev pub AnswersBlocks : State → List (List Kept) → Numbered → Numbered → Type 0
AnswersBlocks state blocks before after = AnswersBlock state (kept_lines blocks) before after

-- what blocks are answered in this state, if no list is open there
abbrev pub AnswersList : State → List (List Kept) → Numbered → Type 0
AnswersList state blocks answered = AnswersBlocks (closed state) blocks no_text answered

-- the same, unless memory ran out
abbrev pub AnswersListIfOk : Result Numbered AllocError → State → List (List Kept) → Type 0
AnswersListIfOk (Ok answered) state blocks = AnswersList state blocks answered
AnswersListIfOk (Err error) state blocks = Unit {0}
