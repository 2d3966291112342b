-- What a read from bytes in memory leaves.
use Rattle.std.proofs.Common.{◌≡◌, ℕ, ◌+◌, ◌-◌, ◌≤◌, List, ◌++◌, length, take, drop}
use Rattle.std.proofs.Common.{sym, ap, ◌∙◌, arith, length-drop}
use Rattle.std.proofs.lemmas.List.{take_at, length-take-le, take-append-drop, drop-drop}

-- a prefix that was copied into a buffer, and what is left behind it
pub copied_prefix : (at n : ℕ) (xs kept : List ℕ) → n ≤ length xs - at → drop at xs
    ≡ take n (take n (drop at xs) ++ kept) ++ drop (at + n) xs
copied_prefix at n xs kept h =
    let within : n ≤ length (drop at xs) = omega (arith, length-drop at xs) in
    sym (take-append-drop n (drop at xs))
    ∙ ap (λ l. l ++ drop n (drop at xs)) (sym (take_at (take n (drop at xs)) kept n (length-take-le n (drop at xs) within)))
    ∙ ap (λ l. take n (take n (drop at xs) ++ kept) ++ l) (drop-drop n at xs)
