-- What the loop of `read_numbers` keeps.
use Rattle.std.proofs.Common.{◌≡◌, ◌+◌, ◌≤◌, ◌++◌, length, map}
use Rattle.std.specs.List.{list_all}
use Rattle.cox_base.specs.declared.limits.TheConstants.{MAX_LABELS}
use Rattle.cox_tokens.specs.Number.{is_number, value_of}
use Rattle.cox_command.proofs.group_arguments.read_numbers.Given as goal

abbrev pub invariant-loop-token : goal.invariant-loop-token
invariant-loop-token l = record {
  read : l.values.items ++ map value_of l.tokens ≡ map value_of l.fn.tokens;
  numbers : list_all is_number l.tokens ≡ list_all is_number l.fn.tokens;
  room : length l.values.items + length l.tokens ≤ MAX_LABELS;
}

abbrev pub decreases-loop-token : goal.decreases-loop-token
decreases-loop-token l = length l.tokens
