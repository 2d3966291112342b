-- How tokens follow one another in a line.
use Rattle.std.proofs.Common.{◌≡◌, ℕ, not, suc, ◌+◌, ◌<◌, ◌≤◌, true, false, List, [], ◌∷◌, length, get_or, take, drop, refl, sym, ap, ◌∙◌}
use Rattle.std.proofs.Common.{arith, ⊎_elim, ltb, drop-cons}
use Rattle.std.specs.List.{All, prefix_len, position_or_len, filter}
use Rattle.std.proofs.lemmas.Bool.{cases_Bool, cases_lt, lt-ltb}
use Rattle.std.proofs.lemmas.List.{length-drop, get_or-drop, drop_all, length-take-le}
use Rattle.std.proofs.lemmas.List.Sums.{prefix_len_stops, prefix_len-le-length, fails_before_first, passes_at_first}
use Rattle.std.proofs.lemmas.List.Splits.{slice_split_first, slice_split_none}
use Rattle.std.proofs.Math.Seq.{take-length, drop-length}
use Rattle.cox_tokens.specs.Tokens.{is_space, tokens_of}

-- a line that begins with a space
tokens_of-space : (x : ℕ) (xs : List ℕ) → is_space x ≡ true → tokens_of (x ∷ xs) ≡ tokens_of xs
tokens_of-space x xs space = rw space

-- a line that begins with spaces
tokens_of-spaces : (xs : List ℕ) → tokens_of xs ≡ tokens_of (drop (prefix_len is_space xs) xs)
tokens_of-spaces [] = refl
tokens_of-spaces (x ∷ xs) =
    ⊎_elim
    (λ space. let count : prefix_len is_space (x ∷ xs) ≡ suc (prefix_len is_space xs) = rw space (omega arith) in
    tokens_of-space x xs space ∙ tokens_of-spaces xs ∙ ap (λ n. tokens_of (drop n (x ∷ xs))) (sym count))
    (λ other. let count : prefix_len is_space (x ∷ xs) ≡ 0 = rw other in ap (λ n. tokens_of (drop n (x ∷ xs))) (sym count))
    (cases_Bool (is_space x))

-- a token begins at a byte other than space
token-begins : (xs : List ℕ) → 0 < length xs → is_space (get_or xs 0 0) ≡ false → 0 < position_or_len is_space xs
token-begins [] some first = absurd (omega arith)
token-begins (x ∷ xs) some first = rw first (omega arith)

-- the first byte behind the spaces is no space
after_spaces : (xs : List ℕ) → 0 < length (drop (prefix_len is_space xs) xs)
    → is_space (get_or (drop (prefix_len is_space xs) xs) 0 0) ≡ false
after_spaces xs some =
    let n = prefix_len is_space xs in
    let within : n < length xs = omega (arith, length-drop n xs) in
    let there : n + 0 ≡ n = omega arith in
    ap is_space (get_or-drop n xs 0 0 ∙ ap (λ k. get_or xs k 0) there) ∙ prefix_len_stops is_space xs 0 within

-- a token that ends at a space
token-inside : (xs : List ℕ) (n : ℕ) → n ≡ position_or_len is_space xs → 0 < n → n < length xs
    → tokens_of xs ≡ take n xs ∷ tokens_of (drop n xs)
token-inside xs n place some within =
    let there : position_or_len is_space xs < length xs = omega (arith, place) in
    let split = rw (← place) at (slice_split_first is_space xs 0 there) in
    let ends = rw (← place) at (passes_at_first is_space xs 0 there) in
    let next : n + 1 ≡ suc n = omega arith in
    let kept : ltb 0 (length (take n xs)) ≡ true = lt-ltb 0 _ (omega (arith, length-take-le n xs (omega arith))) in
    let rest : tokens_of (drop n xs) ≡ tokens_of (drop (n + 1) xs) =
    ap tokens_of (drop-cons xs n 0 within) ∙ tokens_of-space (get_or xs n 0) (drop (suc n) xs) ends
    ∙ ap (λ k. tokens_of (drop k xs)) (sym next) in
    ap (filter (λ piece. ltb 0 (length piece))) split ∙ rw kept (ap (λ tokens. take n xs ∷ tokens) (sym rest))

-- a token that ends with the line
token-last : (xs : List ℕ) (n : ℕ) → n ≡ position_or_len is_space xs → 0 < n → n ≡ length xs
    → tokens_of xs ≡ take n xs ∷ tokens_of (drop n xs)
token-last xs n place some end =
    let none : All (λ x. is_space x ≡ false) xs = λ k d h. fails_before_first is_space xs k d (omega (arith, place)) in
    let kept : ltb 0 (length xs) ≡ true = lt-ltb 0 _ (omega arith) in
    let whole : take n xs ≡ xs = ap (λ k. take k xs) end ∙ take-length xs in
    let rest : tokens_of (drop n xs) ≡ [] = ap (λ k. tokens_of (drop k xs)) end ∙ ap tokens_of (drop-length xs) in
    ap (filter (λ piece. ltb 0 (length piece))) (slice_split_none is_space xs none) ∙ rw (kept, whole, rest)

-- a line that begins with a token
token-first : (xs : List ℕ) (n : ℕ) → n ≡ position_or_len is_space xs → 0 < n → tokens_of xs ≡ take n xs ∷ tokens_of (drop n xs)
token-first xs n place some =
    ⊎_elim (token-inside xs n place some)
    (λ end. token-last xs n place some (omega (arith, place, prefix_len-le-length (λ x. not (is_space x)) xs)))
    (cases_lt n (length xs))

-- the next token, and the rest of the line
pub tokens_of-next : (xs from : List ℕ) (spaces n : ℕ) (token rest : List ℕ) → spaces ≡ prefix_len is_space xs → from ≡ drop spaces xs
    → 0 < length from → n ≡ position_or_len is_space from → token ≡ take n from → rest ≡ drop n from → tokens_of xs ≡ token ∷ tokens_of rest
tokens_of-next xs from spaces n token rest before behind some place front back =
    let start : from ≡ drop (prefix_len is_space xs) xs = behind ∙ ap (λ k. drop k xs) before in
    let begins = token-begins from some (rw start (after_spaces xs (rw start at some))) in
    tokens_of-spaces xs ∙ ap tokens_of (sym start) ∙ token-first from n place (omega (arith, place, begins)) ∙ rw (front, back)

-- it is not empty
pub token-some : (xs from : List ℕ) (spaces n : ℕ) → spaces ≡ prefix_len is_space xs → from ≡ drop spaces xs → 0 < length from
    → n ≡ position_or_len is_space from → 1 ≤ n
token-some xs from spaces n before behind some place =
    let start : from ≡ drop (prefix_len is_space xs) xs = behind ∙ ap (λ k. drop k xs) before in
    let begins = token-begins from some (rw start (after_spaces xs (rw start at some))) in
    omega (arith, place, begins)

-- there is none
pub tokens_of-none : (xs from : List ℕ) (spaces : ℕ) → spaces ≡ prefix_len is_space xs → from ≡ drop spaces xs → length from ≤ 0
    → tokens_of xs ≡ []
tokens_of-none xs from spaces before behind end =
    tokens_of-spaces xs ∙ ap (λ k. tokens_of (drop k xs)) (sym before) ∙ ap tokens_of (sym behind ∙ drop_all 0 from end)
