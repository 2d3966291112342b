-- Places in a table of shifts.
use Rattle.std.proofs.Common.{◌≡◌, ℕ, suc, ◌+◌, ◌-◌, ◌*◌, ◌<◌, List, [], ◌∷◌, ◌++◌, length, get_or, set, None, Some, refl, ap, sym}
use Rattle.std.proofs.Common.{⊎_elim, arith}
use Rattle.std.proofs.Math.Nat.{mul-le-mul_left}
use Rattle.std.proofs.lemmas.Bool.{cases_order, ne_eqb, eq-eqb}
use Rattle.std.proofs.lemmas.List.{get_or_append_left, get_or-set_same, get_or-set_other}
use Rattle.std.proofs.Math.Seq.{get_or-append_seam}
use Rattle.cox_base.specs.Matrix.{IsLetter}
use Rattle.cox_context.specs.declared.shifts.TheConstants.{NO_MEMBER}
use Rattle.cox_context.specs.Shifts.{entry, entry_number}

row_below : (r i j s t : ℕ) → IsLetter r s → IsLetter r t → i < j → i * r + (s - 1) ≡ j * r + (t - 1) → ⊥
row_below r i j s t l k less e =
    omega (arith, mul-le-mul_left {m = suc i} {n = j} r (omega (arith, less)), l.from_one, l.to_rank, k.from_one, e)

-- each place belongs to one member and one letter
pub place-one : (r i j s t : ℕ) → IsLetter r s → IsLetter r t → i * r + (s - 1) ≡ j * r + (t - 1) → (s ≡ t) × (i ≡ j)
place-one r i j s t l k e =
    ⊎_elim (λ (q : i ≡ j). let f : j * r + (s - 1) ≡ j * r + (t - 1) = rw q at e in (omega (arith, f, l.from_one, k.from_one), q))
    (λ side. ⊎_elim (λ less. absurd (row_below r i j s t l k less e)) (λ more. absurd (row_below r j i t s k l more (sym e))) side)
    (cases_order i j)

pub place-within : (r n i s : ℕ) → IsLetter r s → i < n → i * r + (s - 1) < n * r
place-within r n i s l less = omega (arith, mul-le-mul_left {m = suc i} {n = n} r (omega (arith, less)), l.from_one, l.to_rank)

pub entry-is : (r : ℕ) (table : List ℕ) (s i : ℕ) → entry_number (get_or table (i * r + (s - 1)) 0) ≡ entry r table s i
unfolding entry
entry-is r table s i = refl

pub entry_number-none : (n : ℕ) → n ≡ NO_MEMBER → entry_number n ≡ None
entry_number-none n e = rw (eq-eqb n NO_MEMBER e) refl

pub entry_number-other : (n : ℕ) → (n ≡ NO_MEMBER → ⊥) → entry_number n ≡ Some n
entry_number-other n ne = rw (ne_eqb n NO_MEMBER ne) refl

-- an entry tells the number that was written
pub entry_number-some : (n : ℕ) → n < NO_MEMBER → entry_number n ≡ Some n
entry_number-some n l = entry_number-other n (λ e. omega (arith, e, l))

pub entry-set_same : (r : ℕ) (table : List ℕ) (s i x : ℕ) → i * r + (s - 1) < length table
    → entry r (set table (i * r + (s - 1)) x) s i ≡ entry_number x
unfolding entry
entry-set_same r table s i x l = ap entry_number (get_or-set_same table (i * r + (s - 1)) x 0 l)

pub entry-set_other : (r : ℕ) (table : List ℕ) (s i t j x : ℕ) → IsLetter r s → IsLetter r t
    → ((t ≡ s) × (j ≡ i) → ⊥) → entry r (set table (i * r + (s - 1)) x) t j ≡ entry r table t j
unfolding entry
entry-set_other r table s i t j x l k ne =
    ap entry_number (get_or-set_other table (i * r + (s - 1)) (j * r + (t - 1)) x 0 (λ e. ne (place-one r j i t s k l e)))

pub entry-old : (r : ℕ) (table : List ℕ) (s i x : ℕ) → i * r + (s - 1) < length table
    → entry r (table ++ x ∷ []) s i ≡ entry r table s i
unfolding entry
entry-old r table s i x l = ap entry_number (get_or_append_left table (x ∷ []) 0 (i * r + (s - 1)) l)

pub entry-new : (r : ℕ) (table : List ℕ) (s i x : ℕ) → i * r + (s - 1) ≡ length table
    → entry r (table ++ x ∷ []) s i ≡ entry_number x
unfolding entry
entry-new r table s i x e = ap entry_number (rw e (get_or-append_seam table x [] 0))
