-- The lists of a `Core`: the least missing row with one row more, the marks of needed rows, and that lists of nothing are the opening.
use Rattle.std.proofs.Common.{◌≡◌, ℕ, ◌+◌, ◌<◌, min, Bool, true, false, cond, List, [], ◌∷◌, ◌++◌, length, take, get_or}
use Rattle.std.proofs.Common.{replicate, Contains, filter, Option, Some, None, refl, ap, subst, ◌∙◌, ⊎_elim, append-nil, arith}
use Rattle.std.proofs.lemmas.Bool.{cases_lt}
use Rattle.std.proofs.lemmas.List.{take_more, get_or-replicate, get_or_past, get_or_default, length-replicate}
use Rattle.std.proofs.lemmas.List.Elements.{filter-append}
use Rattle.cox_fill_core.specs.declared.event.RowState.{RowState}
use Rattle.cox_fill_core.specs.Fill.{least, least_with, opening_core}
use Rattle.cox_fill_core.specs.Parts.{rows_at, NeedsLower, lesser_of, is_held_by, listed_fill}

with_lesser : (x y : ℕ) (o : Option ℕ) → Some (least_with x (lesser_of o y)) ≡ Some (min (least_with x o) y)
with_lesser x y None = refl
with_lesser x y (Some z) = ap Some (omega arith)

least-push : (xs : List ℕ) (y : ℕ) → least (xs ++ y ∷ []) ≡ lesser_of (least xs) y
least-push [] y = refl
least-push (x ∷ xs) y = ap (λ o. Some (least_with x o)) (least-push xs y) ∙ with_lesser x y (least xs)

filter-push : (p : ℕ → Bool) (xs : List ℕ) (y : ℕ) → least (filter p (xs ++ y ∷ [])) ≡ cond (p y) (lesser_of (least (filter p xs)) y)
    (least (filter p xs))
filter-push p xs y = ap least (filter-append p xs (y ∷ [])) ∙ by_test (p y) (filter p xs)
  where
    by_test : (b : Bool) (ys : List ℕ) → least (ys ++ cond b (y ∷ []) []) ≡ cond b (lesser_of (least ys) y) (least ys)
    by_test true ys = least-push ys y
    by_test false ys = ap least (append-nil ys)

-- the least of the rows that pass, with one row more
pub least-take_more : (p : ℕ → Bool) (xs : List ℕ) (k d : ℕ) → k < length xs
    → least (filter p (take (k + 1) xs)) ≡ cond (p (get_or xs k d)) (lesser_of (least (filter p (take k xs))) (get_or xs k d))
    (least (filter p (take k xs)))
least-take_more p xs k d lt = ap (λ z. least (filter p z)) (take_more xs k d lt) ∙ filter-push p (take k xs) (get_or xs k d)

pub all_replicate : {X : Type 0} (n i : ℕ) (x : X) → get_or (replicate n x) i x ≡ x
all_replicate n i x = ⊎_elim (λ lt. get_or-replicate n i x x lt)
    (λ le. get_or_past (replicate n x) i x (omega (arith, length-replicate n x))) (cases_lt i n)

pub no_marks : (n m i j : ℕ) → get_or (get_or (replicate n (replicate m false)) i []) j false ≡ false
no_marks n m i j = ⊎_elim
    (λ lt. rw (get_or-replicate n i (replicate m false) [] lt) (all_replicate m j false))
    (λ le. rw (get_or_past (replicate n (replicate m false)) i [] (omega (arith, length-replicate n (replicate m false)))) refl)
    (cases_lt i n)

-- a needed row is one of those that an actor has marks for
pub needed_marked : (needs : List (List ℕ)) (i : ℕ) (rows : List ℕ) (marks : List Bool)
    → i < length needs → rows ≡ get_or needs i rows → NeedsLower (rows_at needs) → length marks ≡ length needs
    → (j : ℕ) → Contains rows j → j < length marks
needed_marked needs i rows marks within is lower sized j n =
    omega (arith, lower i j (subst (λ z. Contains z j) (is ∙ get_or_default needs i rows [] within) n))

pub marks_sized : (n m a : ℕ) → a < n → length (get_or (replicate n (replicate m false)) a []) ≡ m
marks_sized n m a lt = ap length (get_or-replicate n a (replicate m false) [] lt) ∙ length-replicate m false

-- lists of nothing are the opening
pub listed_fill-opening : (states : List RowState) (holders : List (Option ℕ)) (seen : List (List Bool)) (r a : ℕ)
    → states ≡ replicate r RowState.Free → holders ≡ replicate r None → seen ≡ replicate a (replicate r false)
    → listed_fill states holders seen ≡ opening_core
listed_fill-opening states holders seen r a p q s =
    ap (λ z. listed_fill z holders seen) p ∙ ap (λ z. listed_fill (replicate r RowState.Free) z seen) q ∙ ap
    (listed_fill (replicate r RowState.Free) (replicate r None)) s
    ∙ (λ k. record {
      state = λ i. all_replicate r i RowState.Free k;
      holds = λ b i. ap (is_held_by b) (all_replicate r i None) k;
      seen = λ b i. no_marks a r b i k;
    })
