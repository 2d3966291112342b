-- Words that are taken give each option a number of its range.
use Rattle.std.proofs.Common.{◌≡◌, Bool, true, false, not, List, []}
use Rattle.std.proofs.Common.{drop, All, get_or, refl}
use Rattle.std.specs.Prelude.{IsSomeAnd}
use Rattle.std.proofs.lemmas.List.Elements.{All-contains_itself, All-nil}
use Rattle.clap.specs.Faults.{settle_fault, walk_fault}
use Rattle.clap.specs.Walk.{Text}
use Rattle.clap.specs.Walk.{nothing_held}
use Rattle.clap.specs.Walk.{settled}
use Rattle.clap.specs.Walk.{walk, walk_from}
use Rattle.clap.proofs.SimpleLemmas.{is_nil}
use Rattle.cox_options.specs.Command.{number_options}
use Rattle.cox_options.specs.OneOption.{IsInRange}
use Rattle.cox_options.specs.Arguments.{IsTaken, given_number}
use Rattle.cox_options.proofs.Table.{IsTable-options}
use Rattle.cox_options.proofs.EndOfWords.{defaults_given, number_given, own_rows}
use Rattle.cox_options.proofs.ParsedRows.{none_of_both, table_command, table_rules}
use Rattle.cox_options.proofs.Walked.{settled_given, walk_given}

not_refused : (b : Bool) → not b ≡ false → b ≡ true
not_refused true e = refl
not_refused false e = cc

pub taken_numbers : (words : List Text) → IsTaken words
    → All (λ option. IsSomeAnd (given_number option.name words) (IsInRange option)) number_options
taken_numbers words taken k d below =
    let start = walk_from nothing_held in
    let end = (walk (table_rules number_options) [] nothing_held (drop 1 words)).held in
    let way = none_of_both (walk_fault (table_command number_options) [] start (drop 1 words)) _ (is_nil _ (not_refused _ taken)) in
    let later = none_of_both _ _ way.1 in
    let last = none_of_both (settle_fault (table_rules number_options) false end) _ later.1 in
    let walked = walk_given number_options start (drop 1 words) (All-nil _) way.0 in
    let rows = (settled (table_rules number_options) end).rows in
    let listed = All-contains_itself number_options in
    number_given number_options IsTable-options (get_or number_options k d) (listed k d below) _
    (defaults_given number_options IsTable-options number_options listed rows (settled_given number_options end walked last.0))
    (own_rows number_options rows k d below)
