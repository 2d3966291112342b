-- What contracts see of a source and a sink over std's streams.
use Rattle.std.specs.Prelude.{ℕ, List, [], take, Option, None, false}
use Rattle.std.specs.Io.KnownBytes.{Keeps, Consumes, Appends, IsAtEnd}
use Rattle.cox_outside.specs.declared.source.Got.{Got}
use Rattle.cox_outside.specs.declared.source.Got.TheVariants as got
use Rattle.cox_outside.specs.declared.sink.Took.{Took}
use Rattle.cox_outside.specs.declared.sink.Took.TheVariants as took
use Rattle.cox_outside.specs.declared.std_source.StdSource.{StdSource}
use Rattle.cox_outside.specs.declared.std_sink.StdSink.{StdSink}
use Rattle.cox_outside.specs.Supply.{Supply}
use Rattle.cox_outside.specs.Outlet.{Outlet}

-- the reader of a source
abbrev pub reader_of : {R : Type 0} → StdSource R → R
reader_of source = source.inner

-- what a source over a reader tells: no bytes, and a count of faults
abbrev pub std_supply : {R : Type 0} → StdSource R → Supply
std_supply source = record { left = None; faults = source.faults; sure = false }

-- a read took from the reader what it gave, where the reader's bytes are known: none only at their end
abbrev pub TakesFrom : Got → List ℕ → Option (List ℕ) → Option (List ℕ) → Type 0
TakesFrom (got.Bytes count) buffer old new = Consumes old new (take count buffer)
TakesFrom got.End buffer old new = Consumes old new [] × IsAtEnd new
TakesFrom got.Failed buffer old new = Keeps old new

-- the writer of a sink
abbrev pub writer_of : {W : Type 0} → StdSink W → W
writer_of sink = sink.inner

-- what a sink over a writer tells: no bytes, no room, and a count of faults
abbrev pub std_outlet : {W : Type 0} → StdSink W → Outlet
std_outlet sink = record { written = None; room = None; faults = sink.faults }

-- a write handed on to the writer what it took, where the writer's bytes are known
abbrev pub HandsOn : Took → List ℕ → Option (List ℕ) → Option (List ℕ) → Type 0
HandsOn (took.Bytes count) bytes old new = Appends old new (take count bytes)
HandsOn took.Failed bytes old new = Appends old new []
