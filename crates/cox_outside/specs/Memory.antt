-- What contracts see of a source and a sink in memory.
use Rattle.std.specs.Prelude.{ℕ, ◌-◌, min, ◌||◌, ◌==◌, if◌then◌else◌, List, ◌++◌, length, take, drop, Some, None}
use Rattle.cox_outside.specs.declared.source.Got.{Got}
use Rattle.cox_outside.specs.declared.source.Got.TheVariants as got_variants
use Rattle.cox_outside.specs.declared.sink.Took.{Took}
use Rattle.cox_outside.specs.declared.sink.Took.TheVariants as took_variants
use Rattle.cox_outside.specs.Calls.{Calls, none_fails, next_fails, after_call}
use Rattle.cox_outside.specs.Supply.{Supply}
use Rattle.cox_outside.specs.SourceRead.{got_count, got_failed}
use Rattle.cox_outside.specs.Outlet.{Outlet}
use Rattle.cox_outside.specs.SinkWrite.{took_count, took_failed}

-- a source in memory: the bytes left, the most bytes that a read gives, and its calls
pub record MemorySupply : Type 0 where
  pub left : List ℕ
  pub piece : ℕ
  pub calls : Calls

-- what it tells as a source: it is sure where no call has to fail
abbrev pub supply_of : MemorySupply → Supply
supply_of source = record { left = Some source.left; faults = source.calls.failed; sure = none_fails source.calls }

-- what its next read answers: it fails where the call has to, and else gives what the piece, the buffer and the bytes left allow
abbrev pub next_got : MemorySupply → ℕ → Got
next_got source room = if next_fails source.calls then got_variants.Failed
    else (if length source.left == 0 then got_variants.End
    else got_variants.Bytes (min (length source.left) (min source.piece room)))

-- the source after a read that answered so
abbrev pub after_read : Got → MemorySupply → MemorySupply
after_read got source = record {
  left = drop (got_count got) source.left;
  piece = source.piece;
  calls = after_call (got_failed got) source.calls;
}

-- a sink in memory: the bytes written, the most that it takes in all, the most that a write takes, and its calls
pub record MemoryOutlet : Type 0 where
  pub written : List ℕ
  pub room : ℕ
  pub piece : ℕ
  pub calls : Calls

-- the number of bytes that it has room for
abbrev pub room_left : MemoryOutlet → ℕ
room_left sink = sink.room - length sink.written

-- what it tells as a sink: it tells its room where no call has to fail
abbrev pub outlet_of : MemoryOutlet → Outlet
outlet_of sink = record {
  written = Some sink.written;
  room = if none_fails sink.calls then Some (room_left sink) else None;
  faults = sink.calls.failed;
}

-- what its next write answers: it fails where the call has to or no room is left, and else takes what the piece, the bytes given and the
-- room allow
abbrev pub next_took : MemoryOutlet → ℕ → Took
next_took sink given = if next_fails sink.calls || (room_left sink == 0) then took_variants.Failed
    else took_variants.Bytes (min (room_left sink) (min sink.piece given))

-- the sink after a write that answered so
abbrev pub after_write : Took → List ℕ → MemoryOutlet → MemoryOutlet
after_write took bytes sink = record {
  written = sink.written ++ take (took_count took) bytes;
  room = sink.room;
  piece = sink.piece;
  calls = after_call (took_failed took) sink.calls;
}
