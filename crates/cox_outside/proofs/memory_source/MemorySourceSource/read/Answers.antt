-- The bytes that were copied into the buffer are gone from those left.
use Rattle.std.proofs.Common.{◌-◌, ◌≤◌, Some, ap, arith, length, length-drop}
use Rattle.std.proofs.lemmas.List.{take_rest}
use Rattle.cox_outside.proofs.Memory.{copied_prefix}
use Rattle.cox_outside.proofs.memory_source.MemorySourceSource.read.Goals as goal

pub returns-clause-bytes : goal.returns-clause-bytes
returns-clause-bytes c =
    let at = c.self.inside.at in
    let bytes = c.self.inside.bytes.items in
    let count = rw (take_rest, c.deref.ensures.value) at c.min-count.ensures in
    let within : c.min-count.result ≤ length bytes - at = omega (arith, count, length-drop at bytes) in
    rw (← c.self.view_is, c.copy_prefix.ensures, take_rest, c.deref.ensures.value)
    (ap Some (copied_prefix at c.min-count.result bytes _ within))
