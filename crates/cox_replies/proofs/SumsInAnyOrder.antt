-- A sum over a list depends on the elements alone, where the list has each of them once.
use Rattle.std.proofs.Common.{◌≡◌, ℕ, suc, ◌<◌, List, [], ◌∷◌, ◌++◌, length, ◌⊎◌, inl, inr, ⊎_elim, refl, ap, sym, ◌∙◌, arith}
use Rattle.cox_reflect.proofs.Members.{In, here, there, In-append_right}
use Rattle.cox_reflect.proofs.Listing.{in-contains}
use Rattle.cox_context.specs.Numbers.{word_at}
use Rattle.cox_context.proofs.PlacedWords.{contains-placed}

module _ {X : Type 0} where
  -- the list has each element once
  pub data Once : List X → Type 0 where
    once_none : Once []
    once_more : {x : X} {xs : List X} → (In x xs → ⊥) → Once xs → Once (x ∷ xs)

  -- the list, cut at an element
  record IsCutAt (x : X) (xs : List X) : Type 0 where
    front : List X
    back : List X
    is : xs ≡ front ++ x ∷ back

  cut-at : {x : X} {xs : List X} → In x xs → IsCutAt x xs
  cut-at (here {xs = xs}) = record { front = []; back = xs; is = refl }
  cut-at (there {y = y} {xs = xs} i) =
      let c = cut-at i in record { front = y ∷ c.front; back = c.back; is = ap (λ rest. y ∷ rest) c.is }

  in_cases : {z x : X} {xs : List X} → In z (x ∷ xs) → (z ≡ x) ⊎ In z xs
  in_cases here = inl refl
  in_cases (there i) = inr i

  -- what is in a list with one element more within is that element, or in the list
  within_cases : {z : X} (front : List X) (x : X) (back : List X) → In z (front ++ x ∷ back) → (z ≡ x) ⊎ In z (front ++ back)
  within_cases [] x back here = inl refl
  within_cases [] x back (there i) = inr i
  within_cases (y ∷ front) x back here = inr here
  within_cases (y ∷ front) x back (there i) = ⊎_elim (λ e. inl e) (λ j. inr (there j)) (within_cases front x back i)

  within-more : {z : X} (front : List X) (x : X) (back : List X) → In z (front ++ back) → In z (front ++ x ∷ back)
  within-more [] x back i = there i
  within-more (y ∷ front) x back here = here
  within-more (y ∷ front) x back (there i) = there (within-more front x back i)

  -- without it, the list does not have it, and has each other element once
  once-without : (front : List X) (x : X) (back : List X) → Once (front ++ x ∷ back) → (In x (front ++ back) → ⊥) × Once (front ++ back)
  once-without [] x back (once_more n o) = (n, o)
  once-without (y ∷ front) x back (once_more n o) =
      let rest = once-without front x back o in (
        λ i. ⊎_elim (λ e. n (rw e (In-append_right front here))) rest.0 (in_cases i),
        once_more (λ i. n (within-more front x back i)) rest.1,
      )

  -- sums by an operation
  module _ {M : Type 0} (both : M → M → M) (none : M) (at : X → M) where
    abbrev pub total : List X → M
    total [] = none
    total (x ∷ xs) = both (at x) (total xs)

    -- whose terms may trade places
    module _ (trade : (a b c : M) → both a (both b c) ≡ both b (both a c)) where
      total-within : (front : List X) (x : X) (back : List X) → total (front ++ x ∷ back) ≡ both (at x) (total (front ++ back))
      total-within [] x back = refl
      total-within (y ∷ front) x back = ap (both (at y)) (total-within front x back) ∙ trade (at y) (at x) (total (front ++ back))

      pub total-same : (xs ys : List X) → Once xs → Once ys → ((x : X) → In x xs → In x ys) → ((x : X) → In x ys → In x xs)
          → total xs ≡ total ys
      total-same [] [] o p forth back = refl
      total-same [] (y ∷ ys) o p forth back = elim (back y here) [ ]
      total-same (x ∷ xs) ys (once_more n o) p forth back =
          let c = cut-at (forth x here) in
          let rest = once-without c.front x c.back (rw c.is at p) in
          ap (both (at x)) (total-same xs (c.front ++ c.back) o rest.1
          (λ z i. ⊎_elim (λ e. absurd (n (rw e at i))) (λ j. j) (within_cases c.front x c.back (rw c.is at (forth z (there i)))))
          (λ z i. ⊎_elim (λ e. absurd (rest.0 (rw e at i))) (λ j. j)
          (in_cases (back z (rw c.is (within-more c.front x c.back i))))))
          ∙ sym (total-within c.front x c.back) ∙ ap total (sym c.is)

-- a list whose words differ has each once
pub once-apart : (words : List (List ℕ)) → ((i j : ℕ) → i < j → j < length words → word_at words i ≡ word_at words j → ⊥) → Once words
once-apart [] apart = once_none
once-apart (x ∷ words) apart = once_more
    (λ i. let p = contains-placed words x (in-contains i) in apart 0 (suc p.i) (omega arith) (omega (arith, p.within)) (sym p.is))
    (once-apart words (λ i j l m. apart (suc i) (suc j) (omega (arith, l)) (omega (arith, m))))
