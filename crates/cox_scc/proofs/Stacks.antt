-- Lists of places that go up: with a last place, and without it.
use Rattle.std.proofs.Common.{◌≡◌, ℕ, ◌+◌, ◌<◌, ◌≤◌, List, [], ◌∷◌, ◌++◌, length, take, get_or, Contains, refl, sym, ap, ◌∙◌, ⊎_elim}
use Rattle.std.proofs.Common.{subst, arith}
use Rattle.std.proofs.lemmas.Bool.{cases_lt}
use Rattle.std.proofs.lemmas.List.{get_or_append_left, get_or_default, get_or_push, get_or_read, length_push, take_all, take_more}
use Rattle.std.proofs.lemmas.List.Elements.{Contains-get_or}
use Rattle.cox_scc.specs.Walk.{IsIncreasing}

-- what comes before the last place is less
pub rising_below : (xs : List ℕ) (x y : ℕ) → IsIncreasing (xs ++ x ∷ []) → Contains xs y → y < x
rising_below xs x y up (k, lt, is) =
    let low : get_or (xs ++ x ∷ []) k 0 ≡ y = get_or_append_left xs (x ∷ []) 0 k lt ∙ get_or_default xs k 0 y lt ∙ is in
    let high : get_or (xs ++ x ∷ []) (length xs) 0 ≡ x = get_or_push xs x 0 (length xs) refl in
    let h : get_or (xs ++ x ∷ []) k 0 < get_or (xs ++ x ∷ []) (length xs) 0 = up k (length xs) lt (omega (arith, length_push xs x)) in
    omega arith

pub rising_rest : (xs : List ℕ) (x : ℕ) → IsIncreasing (xs ++ x ∷ []) → IsIncreasing xs
rising_rest xs x up i j lt within =
    let first : get_or (xs ++ x ∷ []) i 0 ≡ get_or xs i 0 = get_or_append_left xs (x ∷ []) 0 i (omega arith) in
    let second : get_or (xs ++ x ∷ []) j 0 ≡ get_or xs j 0 = get_or_append_left xs (x ∷ []) 0 j within in
    let h : get_or (xs ++ x ∷ []) i 0 < get_or (xs ++ x ∷ []) j 0 = up i j lt (omega (arith, length_push xs x)) in
    omega arith

pub increasing-push : (xs : List ℕ) (x : ℕ) → IsIncreasing xs → ((y : ℕ) → Contains xs y → y < x) → IsIncreasing (xs ++ x ∷ [])
increasing-push xs x up below i j lt within = ⊎_elim
    (λ inside. let second : get_or (xs ++ x ∷ []) j 0 ≡ get_or xs j 0 = get_or_append_left xs (x ∷ []) 0 j inside in
    let h : get_or xs i 0 < get_or xs j 0 = up i j lt inside in omega (arith, first))
    (λ past. let second : get_or (xs ++ x ∷ []) j 0 ≡ x = get_or_push xs x 0 j (omega (arith, length_push xs x)) in
    let h : get_or xs i 0 < x = below (get_or xs i 0) (Contains-get_or xs i 0 first_in) in omega (arith, first))
    (cases_lt j (length xs))
  where
    first_in : i < length xs
    first_in = omega (arith, length_push xs x)

    first : get_or (xs ++ x ∷ []) i 0 ≡ get_or xs i 0
    first = get_or_append_left xs (x ∷ []) 0 i first_in

-- no place is greater than the last one
pub rising_last : (xs : List ℕ) (last y : ℕ) → length xs ≡ last + 1 → IsIncreasing xs → Contains xs y → y ≤ get_or xs last 0
rising_last xs last y count up (k, lt, is) =
    let y_is : get_or xs k 0 ≡ y = get_or_default xs k 0 y lt ∙ is in
    ⊎_elim (λ less. let h : get_or xs k 0 < get_or xs last 0 = up k last less (omega arith) in omega arith)
    (λ ge. let k_is : k ≡ last = omega arith in subst (λ z. y ≤ get_or xs z 0) k_is (omega arith))
    (cases_lt k last)

-- the last place, as the code reads it and cuts it off
pub cut_last : (xs fewer : List ℕ) (last x : ℕ) → length xs ≡ last + 1 → fewer ≡ take last xs → x ≡ get_or xs last x → xs ≡ fewer ++ x ∷ []
cut_last xs fewer last x count cut read =
    let value : x ≡ get_or xs last 0 = get_or_read xs last x (omega arith) read 0 in
    sym (take_all (last + 1) xs (omega arith)) ∙ take_more xs last 0 (omega arith) ∙ ap (λ z. z ++ get_or xs last 0 ∷ []) (sym cut)
    ∙ ap (λ z. fewer ++ z ∷ []) (sym value)
