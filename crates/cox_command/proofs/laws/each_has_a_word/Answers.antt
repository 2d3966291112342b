-- The law `each_has_a_word`. The last case of each table stands for all that it does not name.
use Rattle.std.proofs.Common.{◌≡◌, Some, refl}
use Rattle.cox_command.specs.declared.command_word.CommandWord.{CommandWord}
use Rattle.cox_command.specs.declared.command_word.CommandWord.TheVariants.{Named, One, Two, Plain}
use Rattle.cox_command.specs.declared.inquiry.OneWord.{OneWord}
use Rattle.cox_command.specs.declared.inquiry.OneWord.TheVariants.{Compute, OfRow}
use Rattle.cox_command.specs.declared.inquiry.RowKind.{RowKind}
use Rattle.cox_command.specs.declared.inquiry.RowKind.TheVariants.{Klbasis}
use Rattle.cox_command.specs.declared.inquiry.TwoWord.{TwoWord}
use Rattle.cox_command.specs.declared.inquiry.TwoWord.TheVariants.{Inorder, OfEntry}
use Rattle.cox_command.specs.declared.inquiry.EntryKind.{EntryKind}
use Rattle.cox_command.specs.declared.inquiry.EntryKind.TheVariants.{Pol}
use Rattle.cox_command.specs.declared.inquiry.NoWord.{NoWord}
use Rattle.cox_command.specs.declared.inquiry.NoWord.TheVariants.{Lwgraph}
use Rattle.cox_command.specs.CommandWord.{command_text, command_word_of}
use Rattle.cox_command.proofs.laws.each_has_a_word.Goals as goal

abbrev HasWord : CommandWord → Type 0
HasWord command = command_word_of (command_text command) ≡ Some command

of_row : (kind : RowKind) → HasWord (One (OfRow kind))
of_row Klbasis = refl
of_row _ = refl

one : (kind : OneWord) → HasWord (One kind)
one Compute = refl
one (OfRow kind) = of_row kind
one _ = refl

of_entry : (kind : EntryKind) → HasWord (Two (OfEntry kind))
of_entry Pol = refl
of_entry _ = refl

two : (kind : TwoWord) → HasWord (Two kind)
two Inorder = refl
two (OfEntry kind) = of_entry kind
two _ = refl

plain : (kind : NoWord) → HasWord (Plain kind)
plain Lwgraph = refl
plain _ = refl

each : (command : CommandWord) → HasWord command
each Named = refl
each (One kind) = one kind
each (Two kind) = two kind
each (Plain kind) = plain kind
each _ = refl

pub returns : goal.returns
returns c = each
