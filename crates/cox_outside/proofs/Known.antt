-- How known bytes, room and writes compose.
use Rattle.std.proofs.Common.{◌≡◌, ℕ, ◌+◌, List, [], ◌++◌, length, take, drop, Option, Some, None}
use Rattle.std.proofs.Common.{refl, sym, ap, ◌∙◌, arith, append_assoc, length-append}
use Rattle.std.specs.Io.KnownBytes.{prepend_known, append_known}
use Rattle.std.proofs.lemmas.List.{append-nil}
use Rattle.std.proofs.Math.Seq.{take-add}
use Rattle.cox_outside.specs.Outlet.{Outlet, Writes, more_room}

-- two takes, one after the other
pub prepend_known-append : (prefix next : List ℕ) (known : Option (List ℕ)) → prepend_known prefix (prepend_known next known)
    ≡ prepend_known (prefix ++ next) known
prepend_known-append prefix next None = refl
prepend_known-append prefix next (Some rest) = ap Some (sym (append_assoc prefix next rest))

-- nothing was taken
pub prepend_known-none : (known : Option (List ℕ)) → prepend_known [] known ≡ known
prepend_known-none None = refl
prepend_known-none (Some rest) = refl

-- two writes, one after the other
pub append_known-append : (known : Option (List ℕ)) (prefix next : List ℕ) → append_known (append_known known prefix) next
    ≡ append_known known (prefix ++ next)
append_known-append None prefix next = refl
append_known-append (Some bytes) prefix next = ap Some (append_assoc bytes prefix next)

-- nothing was written
pub append_known-none : (known : Option (List ℕ)) → append_known known [] ≡ known
append_known-none None = refl
append_known-none (Some bytes) = ap Some (append-nil bytes)

pub more_room-add : (n m : ℕ) (room : Option ℕ) → more_room n (more_room m room) ≡ more_room (n + m) room
more_room-add n m None = refl
more_room-add n m (Some left) = ap Some (omega arith)

pub more_room-zero : (room : Option ℕ) → more_room 0 room ≡ room
more_room-zero None = refl
more_room-zero (Some left) = ap Some (omega arith)

-- no bytes were written
pub Writes-none : (here : Outlet) → Writes [] here here
Writes-none here = record { written = sym (append_known-none here.written); room = sym (more_room-zero here.room) }

-- bytes were written, and then more
pub Writes-append : (prefix next : List ℕ) (old mid new : Outlet) → Writes prefix old mid → Writes next mid new
    → Writes (prefix ++ next) old new
Writes-append prefix next old mid new p q = record {
  written = q.written ∙ ap (λ known. append_known known next) p.written ∙ append_known-append old.written prefix next;
  room = p.room ∙ ap (more_room (length prefix)) q.room ∙ more_room-add (length prefix) (length next) new.room
      ∙ ap (λ n. more_room n new.room) (sym (length-append prefix next));
}

-- a prefix was written, and then more of the same bytes
pub Writes-on : (at count : ℕ) (bytes : List ℕ) (old mid new : Outlet) → Writes (take at bytes) old mid
    → Writes (take count (drop at bytes)) mid new → Writes (take (at + count) bytes) old new
Writes-on at count bytes old mid new p q =
    rw (take-add at count bytes) (Writes-append (take at bytes) (take count (drop at bytes)) old mid new p q)

-- bytes were written, and then none
pub Writes-stay : (bytes : List ℕ) (old mid new : Outlet) → Writes bytes old mid → Writes [] mid new → Writes bytes old new
Writes-stay bytes old mid new p q = rw (← append-nil bytes) (Writes-append bytes [] old mid new p q)
