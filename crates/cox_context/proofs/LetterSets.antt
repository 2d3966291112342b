-- Sets of letters by bits.
use Rattle.std.proofs.Common.{◌≡◌, ℕ, ◌+◌, ◌-◌, ◌≤◌, ◌<◌, ◌^◌, ◌*◌, ◌%◌, true, false, List, [], ◌∷◌, ◌++◌, length, filter, refl, sym}
use Rattle.std.proofs.Common.{◌∙◌, arith}
use Rattle.std.proofs.Common.{◌↔◌, bit_and, bit_or, IsBitSet, ⊎_elim, ◌/◌}
use Rattle.std.specs.List.{range_with_len}
use Rattle.std.proofs.lemmas.Bool.{cases_lt, cases_eq, eqb-true, eq-eqb, ne_eqb}
use Rattle.std.proofs.lemmas.Nat.{and_or_self, and_or_apart, pow_apart, bit_set_by_shift}
use Rattle.std.proofs.lemmas.Nat.{pow_pos}
use Rattle.std.proofs.Math.Pow.{pow-lt}
use Rattle.cox_lemmas.proofs.RangeFilters.{filter_range-yes, filter_range-no, length-filter_range}
use Rattle.cox_base.specs.ShortLex.{letters}
use Rattle.cox_context.specs.Shifts.{entry}
use Rattle.cox_context.specs.Sets.{is_lower, has_letter, IsLoweringSet}

-- ---- one bit more

bit-empty : (k : ℕ) → IsBitSet 0 k → ⊥
bit-empty k b = b refl

bit-own : (n k : ℕ) → IsBitSet (bit_or n (2 ^ k)) k
bit-own n k e = omega (arith, and_or_self (2 ^ k) n, e, pow_pos k)

bit-other : (n k j : ℕ) → (j ≡ k → ⊥) → IsBitSet (bit_or n (2 ^ k)) j ↔ IsBitSet n j
bit-other n k j ne =
    let e = and_or_apart (2 ^ j) n (2 ^ k) (pow_apart k j (λ q. ne (sym q)))
    in (λ b z. b (e ∙ z), λ b z. b (sym e ∙ z))

-- a bit that is written, as the machine shifts it
pub bit-shifted : (k : ℕ) → k < 16 → (1 * 2 ^ k) % 65536 ≡ 2 ^ k
bit-shifted k l = let less : 2 ^ k < 65536 = pow-lt {i = k} {j = 16} l in omega (arith, less)

pub set-start : (rank : ℕ) (table : List ℕ) (i : ℕ) → IsLoweringSet rank table i 1 0
set-start rank table i = record { bit = λ k. (λ b. absurd (bit-empty k b), λ p. absurd (omega (arith, p.0))) }

pub set-skip : (rank : ℕ) (table : List ℕ) (i s next set : ℕ) → next ≡ s + 1 → IsLoweringSet rank table i s set
    → is_lower i (entry rank table s i) ≡ false → IsLoweringSet rank table i next set
set-skip rank table i s next set q h none = record {
  bit = λ k. (
    λ b. let p = (h.bit k).0 b in (omega (arith, p.0, q), p.1),
    λ p. (h.bit k).1 (
      ⊎_elim (λ (below : k + 1 < s). below) (λ (above : s ≤ k + 1). absurd (here k p.1 (omega (arith, above, p.0, q)))) (cases_lt
          (k + 1) s),
      p.1,
    ),
  );
}
  where
    here : (k : ℕ) → is_lower i (entry rank table (k + 1) i) ≡ true → k + 1 ≡ s → ⊥
    here k p e = let f = sym none ∙ (rw e at p) in absurd (cc)

pub set-add : (rank : ℕ) (table : List ℕ) (i s next set : ℕ) → next ≡ s + 1 → 1 ≤ s → IsLoweringSet rank table i s set
    → is_lower i (entry rank table s i) ≡ true → IsLoweringSet rank table i next (bit_or set (2 ^ (s - 1)))
set-add rank table i s next set q l h lower = record {
  bit = λ k. ⊎_elim
      (λ (same : k ≡ s - 1). own k (omega (arith, same, l)))
      (λ (ne : k ≡ s - 1 → ⊥). (
        λ b. let p = (h.bit k).0 ((bit-other set (s - 1) k ne).0 b) in (omega (arith, p.0, q), p.1),
        λ p. (bit-other set (s - 1) k ne).1 ((h.bit k).1 (omega (arith, p.0, q, ne, l), p.1)),
      ))
      (cases_eq k (s - 1));
}
  where
    own : (k : ℕ) → k + 1 ≡ s
        → IsBitSet (bit_or set (2 ^ (s - 1))) k ↔ ((k + 1 < next) × (is_lower i (entry rank table (k + 1) i) ≡ true))
    own k e =
        let f : s - 1 ≡ k = omega (arith, e)
        in (λ b. (omega (arith, e, q), rw e lower), λ p. rw f (bit-own set k))

-- ---- the letters of a set

-- those up to n
unfoldable pub letters_before : ℕ → ℕ → List ℕ
letters_before set n = filter (has_letter set) (range_with_len 1 n)

pub letters-start : (set : ℕ) → letters_before set 0 ≡ []
unfolding letters_before
letters-start set = refl

pub letters-yes : (set s : ℕ) → 1 ≤ s → has_letter set s ≡ true → letters_before set s ≡ letters_before set (s - 1) ++ s ∷ []
unfolding letters_before
letters-yes set s l e = filter_range-yes (has_letter set) (s - 1) s (omega (arith, l)) e

pub letters-no : (set s : ℕ) → 1 ≤ s → has_letter set s ≡ false → letters_before set s ≡ letters_before set (s - 1)
unfolding letters_before
letters-no set s l e = filter_range-no (has_letter set) (s - 1) s (omega (arith, l)) e

pub letters-length : (set n : ℕ) → length (letters_before set n) ≤ n
unfolding letters_before
letters-length set n = length-filter_range (has_letter set) n

pub letters-all : (set rank : ℕ) → letters_before set rank ≡ filter (has_letter set) (letters rank)
unfolding letters_before letters
letters-all set rank = refl

-- a letter is in a set exactly where its bit is set
pub has_letter-bit : (set s : ℕ) → (has_letter set s ≡ true) ↔ IsBitSet set (s - 1)
unfolding has_letter
has_letter-bit set s =
    let b = bit_set_by_shift set (s - 1) in (λ e. b.0 (eqb-true _ _ e), λ e. eq-eqb _ _ (b.1 e))

pub has_letter-read : (set s : ℕ) → bit_and (set / 2 ^ (s - 1)) 1 ≡ 1 → has_letter set s ≡ true
unfolding has_letter
has_letter-read set s e = eq-eqb _ _ e

pub has_letter-unread : (set s : ℕ) → (bit_and (set / 2 ^ (s - 1)) 1 ≡ 1 → ⊥) → has_letter set s ≡ false
unfolding has_letter
has_letter-unread set s ne = ne_eqb _ _ ne
