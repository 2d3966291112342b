-- Lists of rows as tests on rows: with a row more, without one, and one list after another.
use Rattle.std.proofs.Common.{◌≡◌, ◌≢◌, ℕ, true, false, ◌||◌, List, [], ◌∷◌, ◌++◌, ⊎_elim, refl, sym, ap, ◌∙◌, arith}
use Rattle.std.proofs.lemmas.Bool.{ne_eqb, or_cases}
use Rattle.std.proofs.lemmas.Bool.Decides.{nat_tests}
use Rattle.cox_claims.specs.Knowledge.{among, without}

pub among-without_same : (i : ℕ) (xs : List ℕ) → among i (without i xs) ≡ false
among-without_same i [] = refl
among-without_same i (x ∷ xs) = let h = among-without_same i xs in grind (arith, nat_tests, h)

pub among-without_other : (i j : ℕ) (xs : List ℕ) → j ≢ i → among j (without i xs) ≡ among j xs
among-without_other i j [] ne = refl
among-without_other i j (x ∷ xs) ne = let h = among-without_other i j xs ne in grind (arith, nat_tests, h)

pub among-append : (i : ℕ) (xs ys : List ℕ) → among i (xs ++ ys) ≡ (among i xs || among i ys)
among-append i [] ys = refl
among-append i (x ∷ xs) ys = let h = among-append i xs ys in grind (arith, nat_tests, h)

-- a row more does not count for another
pub among_else : (i j : ℕ) (xs : List ℕ) → j ≢ i → among j (i ∷ xs) ≡ among j xs
among_else i j xs ne = ap (λ b. b || among j xs) (ne_eqb i j (λ e. ne (sym e)))

-- what follows from either list follows from both
pub among_either : {P : Type 0} (j : ℕ) (xs ys : List ℕ) → (among j xs ≡ true → P) → (among j ys ≡ true → P)
    → among j (xs ++ ys) ≡ true → P
among_either j xs ys first second h = ⊎_elim first second (or_cases (among j xs) (among j ys) (sym (among-append j xs ys) ∙ h))
