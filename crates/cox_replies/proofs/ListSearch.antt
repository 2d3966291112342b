-- A search for a number in a list.
use Rattle.std.proofs.Common.{◌≡◌, ℕ, zero, suc, Bool, true, false, List, [], ◌∷◌, ◌||◌, Contains, refl, sym, ◌∙◌, arith}
use Rattle.std.specs.Prelude.{nat_eq}
use Rattle.std.specs.List.{list_any}
use Rattle.std.proofs.lemmas.Bool.{false≢true}
use Rattle.std.proofs.lemmas.Bool.Decides.{nat_tests}
use Rattle.std.proofs.lemmas.Map.Views.{Contains-from_any}

pub any-found : (xs : List ℕ) (i : ℕ) → list_any (λ y. nat_eq y i) xs ≡ true → Contains xs i
any-found xs i e = Contains-from_any {eq = λ q y. nat_eq y q} (λ x y same. grind (arith, nat_tests)) i xs e

pub any-none : (xs : List ℕ) (i : ℕ) → list_any (λ y. nat_eq y i) xs ≡ false → Contains xs i → ⊥
any-none [] i e c = omega (arith, c.1)
any-none (x ∷ xs) i e c = go (nat_eq x i) refl e c (any-none xs i)
  where
    go : (b : Bool) → nat_eq x i ≡ b → (b || list_any (λ y. nat_eq y i) xs) ≡ false → Contains (x ∷ xs) i
        → (list_any (λ y. nat_eq y i) xs ≡ false → Contains xs i → ⊥) → ⊥
    go true h e c rest = false≢true (sym e)
    go false h e (zero, l, same) rest = false≢true (sym h ∙ (let yes : nat_eq x i ≡ true = grind (arith, nat_tests) in yes))
    go false h e (suc k, l, same) rest = rest e (k, omega (arith, l), same)
