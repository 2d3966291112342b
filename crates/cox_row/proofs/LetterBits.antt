-- Sets of letters by bits: the letters of one that another does not have.
use Rattle.std.proofs.Common.{◌≡◌, ◌≢◌, ℕ, ◌+◌, ◌-◌, ◌*◌, ◌^◌, ◌<◌, ◌≤◌, List, min, IsBitSet, bit_and, w16, refl, sym, ap, ◌∙◌, ⊎_elim}
use Rattle.std.proofs.Common.{arith}
use Rattle.std.specs.Int.{bit_at, bit_not, trailing_zeros}
use Rattle.std.proofs.lemmas.Bool.{cases_lt}
use Rattle.std.proofs.lemmas.Nat.{pow_pos}
use Rattle.std.proofs.lemmas.Nat.Bits.{and_pow, bit_at_and, bit_at_not, bit_at-trailing_zeros, bit_at-lt, bit_at-zero, bit_at_above}
use Rattle.cox_base.specs.Matrix.{IsLetter}
use Rattle.cox_base.specs.IntegerMatrix.{IntegerMatrix}
use Rattle.cox_base.specs.Admissible.{IsAdmissible}
use Rattle.cox_reflect.proofs.Roots.{left_descent-letter, descent-letter}
use Rattle.cox_row.specs.Extremal.{IsExtremal}
use Rattle.cox_row.specs.LetterSets.{IsSubset, IsMissing, AreLetters, AreLeftDescents, AreRightDescents}

-- a bit is set where it is 1
one-set : (n k : ℕ) → bit_at n k ≡ 1 → IsBitSet n k
one-set n k e z = go (bit_at n k) (2 ^ k) e (sym (and_pow n k) ∙ z) (pow_pos k)
  where
    go : (b p : ℕ) → b ≡ 1 → b * p ≡ 0 → 0 < p → ⊥
    go b p e z l = omega (arith, rw e at z)

set-one : (n k : ℕ) → IsBitSet n k → bit_at n k ≡ 1
set-one n k set = go (bit_at n k) (bit_at-lt n k) (λ z. set (and_pow n k ∙ times_zero (bit_at n k) (2 ^ k) z))
  where
    times_zero : (b p : ℕ) → b ≡ 0 → b * p ≡ 0
    times_zero b p z = rw z (omega arith)

    go : (b : ℕ) → b < 2 → (b ≡ 0 → ⊥) → b ≡ 1
    go b l some = omega arith

module _ (wanted present rest : ℕ) (small : wanted < 2 ^ 16) (fits : present < 2 ^ 16) (is : rest ≡ bit_and wanted (bit_not w16 present))
  where
    rest-at : (k : ℕ) → k < 16 → bit_at rest k ≡ min (bit_at wanted k) (1 - bit_at present k)
    rest-at k l =
        ap (λ n. bit_at n k) is ∙ bit_at_and wanted (bit_not w16 present) k
        ∙ ap (λ b. min (bit_at wanted k) b) (bit_at_not w16 present k fits l)

    pub zero-subset : rest ≡ 0 → IsSubset wanted present
    zero-subset z k set = one-set present k
        (go (bit_at wanted k) (bit_at present k) (set-one wanted k set) (bit_at-lt present k) (sym (rest-at k inside) ∙ zero))
      where
        inside : k < 16
        inside = ⊎_elim (λ l. l) (λ (h : 16 ≤ k). absurd (omega (arith, set-one wanted k set, bit_at_above wanted 16 k small h)))
            (cases_lt k 16)

        zero : bit_at rest k ≡ 0
        zero = ap (λ n. bit_at n k) z ∙ bit_at-zero k

        go : (a b : ℕ) → a ≡ 1 → b < 2 → min a (1 - b) ≡ 0 → b ≡ 1
        go a b e l h = omega arith

    pub lowest-missing : rest < 2 ^ 16 → rest ≢ 0 → IsMissing wanted present (trailing_zeros w16 rest + 1)
    lowest-missing l some = record {
      bit = trailing_zeros w16 rest;
      letter = refl;
      among = one-set wanted (trailing_zeros w16 rest) (first (bit_at wanted (trailing_zeros w16 rest)) _ (bit_at-lt wanted _) both);
      lacks = λ set. second _ (bit_at present (trailing_zeros w16 rest)) both (set-one present (trailing_zeros w16 rest) set);
    }
      where
        first : (a b : ℕ) → a < 2 → min a (1 - b) ≡ 1 → a ≡ 1
        first a b l e = omega arith

        second : (a b : ℕ) → min a (1 - b) ≡ 1 → b ≡ 1 → ⊥
        second a b e f = omega arith

        both : min (bit_at wanted (trailing_zeros w16 rest)) (1 - bit_at present (trailing_zeros w16 rest)) ≡ 1
        both =
            let t = bit_at-trailing_zeros w16 rest (omega (arith, some)) l
            in sym (rest-at (trailing_zeros w16 rest) t.0) ∙ t.1

pub missing-letter : (rank wanted present s : ℕ) → AreLetters rank wanted → IsMissing wanted present s → IsLetter rank s
missing-letter rank wanted present s letters m = rw m.letter (letters m.bit m.among)

module _ (A : IntegerMatrix) (g : IsAdmissible A) where
  pub left-letters : (u : List ℕ) (set : ℕ) → AreLeftDescents A u set → AreLetters A.rank set
  left-letters u set are k b = left_descent-letter A g u (k + 1) ((are k).0 b)

  pub right-letters : (u : List ℕ) (set : ℕ) → AreRightDescents A u set → AreLetters A.rank set
  right-letters u set are k b = descent-letter A g u (k + 1) ((are k).0 b)

  -- x is extremal for w where no letter is missing
  pub none-extremal : (w x : List ℕ) (left right low high : ℕ) → AreLeftDescents A w left → AreRightDescents A w right
      → AreLeftDescents A x low → AreRightDescents A x high → IsSubset left low → IsSubset right high → IsExtremal A w x
  none-extremal w x left right low high l r m h none_left none_right = record {
    left = λ s d.
        let letter = left_descent-letter A g w s d
        in let e : s - 1 + 1 ≡ s = omega (arith, letter.from_one)
        in rw e at ((m (s - 1)).0 (none_left (s - 1) ((l (s - 1)).1 (rw e d))));
    right = λ s d.
        let letter = descent-letter A g w s d
        in let e : s - 1 + 1 ≡ s = omega (arith, letter.from_one)
        in rw e at ((h (s - 1)).0 (none_right (s - 1) ((r (s - 1)).1 (rw e d))));
  }

-- and no letter is missing where x is extremal
module _ (A : IntegerMatrix) (w x : List ℕ) (wanted present : ℕ) (extremal : IsExtremal A w x) where
  pub extremal-right : AreRightDescents A w wanted → AreRightDescents A x present → IsSubset wanted present
  extremal-right r h k b = (h k).1 (extremal.right (k + 1) ((r k).0 b))

-- the lowest bit of a set that has one
pub lowest-bit : (set : ℕ) → set < 2 ^ 16 → set ≢ 0 → IsBitSet set (trailing_zeros w16 set) × ((k : ℕ) → IsBitSet set k
    → trailing_zeros w16 set ≤ k)
lowest-bit set l some =
    let t = bit_at-trailing_zeros w16 set (omega (arith, some)) l
    in (
      one-set set (trailing_zeros w16 set) t.1,
      λ k b. ⊎_elim (λ (less : k < trailing_zeros w16 set). absurd (omega (arith, t.2 k less, set-one set k b)))
          (λ (h : trailing_zeros w16 set ≤ k). h) (cases_lt k (trailing_zeros w16 set)),
    )
