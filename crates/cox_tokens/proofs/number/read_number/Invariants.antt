-- What the loop of `read_number` keeps.
use Rattle.std.proofs.Common.{◌≡◌, ◌<◌, ◌^◌, take, true}
use Rattle.std.specs.List.{list_all}
use Rattle.std.specs.Char.{is_ascii_digit}
use Rattle.cox_tokens.specs.Number.{value_of}
use Rattle.cox_tokens.proofs.number.read_number.Given as goal

abbrev pub invariant-loop-byte : goal.invariant-loop-byte
invariant-loop-byte l = record {
  value_is : l.value ≡ value_of (take l.byte-index l.token);
  small : l.value < 10 ^ l.byte-index;
  digits : list_all is_ascii_digit (take l.byte-index l.token) ≡ true;
}
