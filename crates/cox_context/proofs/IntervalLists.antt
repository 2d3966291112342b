-- Bruhat intervals as lists: each has one, and what is between two elements and the coatoms are kept of it by a test.
use Rattle.std.proofs.Common.{◌≡◌, ℕ, ◌+◌, ◌≤◌, ◌<◌, ◌==◌, Bool, true, false, if◌then◌else◌, nat_lt, List, [], ◌∷◌, length}
use Rattle.std.proofs.Common.{filter, map, ◌⊎◌, ◌↔◌, inl, inr, refl, sym, ◌∙◌, ⊎_elim, arith, subst, ltb-true, lt-ltb, true≢false}
use Rattle.std.proofs.lemmas.Bool.{cases_lt, eqb-true, eq-eqb}
use Rattle.cox_base.specs.declared.limits.TheConstants.{MAX_LETTERS}
use Rattle.cox_base.specs.IntegerMatrix.{IntegerMatrix}
use Rattle.cox_base.specs.Admissible.{IsAdmissible}
use Rattle.cox_base.specs.ShortLex.{normal_form}
use Rattle.cox_base.specs.Length.{word_length}
use Rattle.cox_base.specs.Reduced.{IsReduced}
use Rattle.cox_base.specs.Descents.{IsLeftDescent}
use Rattle.cox_base.specs.Bruhat.{IsBelow}
use Rattle.cox_reflect.proofs.Elements.{same-refl, same-sym}
use Rattle.cox_reflect.proofs.Members.{In, Each-map, Each-weaker, In-map}
use Rattle.cox_reflect.proofs.Search.{normal_form-same, normal_form-equal, word_length-length}
use Rattle.cox_reflect.proofs.Lengths.{word_length-is, IsReduced-normal_form, IsReduced-tail}
use Rattle.cox_reflect.proofs.Bruhat.{below-same, below-length, below_identity, lift_down, lift_up}
use Rattle.cox_base.specs.SortedList.{IsListOf, HasMoreThan}
use Rattle.cox_base.specs.Members.{IsInInterval}
use Rattle.cox_base.specs.Interval.{IsBetween, IsCoatom}
use Rattle.cox_context.specs.FaultMeaning.{IsRefusal}
use Rattle.cox_context.specs.declared.fault.ContextFault.{ContextFault}
use Rattle.cox_context.specs.declared.fault.ContextFault.TheVariants.{Size, Long, NoMemory}
use Rattle.cox_reflect.proofs.OrderByLifting.{first-descent, below-drop}
use Rattle.cox_reflect.proofs.NormalElements.{element-normal_form}
use Rattle.cox_reflect.proofs.Listing.{listing, subwords, Each-subwords, In-subwords}
use Rattle.cox_context.proofs.ClosedContexts.{interval-length}
use Rattle.cox_context.proofs.ShortLexLists.{IsListOf-filter, HasMoreThan-listed, HasMoreThan-over, HasMoreThan-few}

-- whether y is below the element of a reduced word, by lifting, letter by letter of it
unfoldable pub below_along : IntegerMatrix → List ℕ → List ℕ → Bool
below_along A y [] = word_length A y == 0
below_along A y (t ∷ v) = if nat_lt (word_length A (t ∷ y)) (word_length A y) then below_along A (t ∷ y) v else below_along A y v

-- whether y is below w
unfoldable pub is_below : IntegerMatrix → List ℕ → List ℕ → Bool
is_below A y w = below_along A y (normal_form A w)

module _ (A : IntegerMatrix) (g : IsAdmissible A) where
  -- at the end the identity alone is below
  empty-tells : (y : List ℕ) → ((word_length A y == 0) ≡ true) ↔ IsBelow A y []
  empty-tells y = (
    λ e. let none : length (normal_form A y) ≤ 0 = omega (arith, word_length-is A y, eqb-true (word_length A y) 0 e)
        in (below_identity A g y).1 (same-sym A g (rw (empty (normal_form A y) none) at (normal_form-same A g y))),
    λ b. eq-eqb (word_length A y) 0 (omega (arith, below-length A g b, word_length-length A g [])),
  )
    where
      empty : (n : List ℕ) → length n ≤ 0 → n ≡ []
      empty [] l = refl
      empty (s ∷ x) l = absurd (omega (arith, l))

  along-tells : (y v : List ℕ) → IsReduced A v → (below_along A y v ≡ true) ↔ IsBelow A y v
  unfolding below_along
  along-tells y [] r = empty-tells y
  along-tells y (t ∷ v) r =
      go (nat_lt (word_length A (t ∷ y)) (word_length A y)) refl (along-tells (t ∷ y) v (IsReduced-tail A g t v r))
      (along-tells y v (IsReduced-tail A g t v r))
    where
      first : IsLeftDescent A (t ∷ v) t
      first = first-descent A g t v r

      go : (b : Bool) → nat_lt (word_length A (t ∷ y)) (word_length A y) ≡ b → (below_along A (t ∷ y) v ≡ true) ↔ IsBelow A (t ∷ y) v
          → (below_along A y v ≡ true) ↔ IsBelow A y v
          → ((if b then below_along A (t ∷ y) v else below_along A y v) ≡ true) ↔ IsBelow A y (t ∷ v)
      go true e down up =
          let step = lift_down A g y (t ∷ v) t first (ltb-true (word_length A (t ∷ y)) (word_length A y) e)
          in (λ k. step.1 ((below-drop A g t (t ∷ y) v).1 (down.0 k)), λ b. down.1 ((below-drop A g t (t ∷ y) v).0 (step.0 b)))
      go false e down up =
          let step = lift_up A g y (t ∷ v) t first (λ d. true≢false (sym (lt-ltb (word_length A (t ∷ y)) (word_length A y) d) ∙ e))
          in (λ k. step.1 ((below-drop A g t y v).1 (up.0 k)), λ b. up.1 ((below-drop A g t y v).0 (step.0 b)))

  pub is_below-tells : (y w : List ℕ) → (is_below A y w ≡ true) ↔ IsBelow A y w
  unfolding is_below
  is_below-tells y w =
      let along = along-tells y (normal_form A w) (IsReduced-normal_form A g w)
      in (
        λ e. below-same A g (same-refl A g y) (normal_form-same A g w) (along.0 e),
        λ b. along.1 (below-same A g (same-refl A g y) (same-sym A g (normal_form-same A g w)) b),
      )

  -- each interval has a list: the normal forms of the subwords of a reduced word
  pub interval-exists : (w : List ℕ) → (words : List (List ℕ)) × IsListOf (IsInInterval A w) words
  interval-exists w = listing (IsInInterval A w) (map (normal_form A) (subwords (normal_form A w)))
      (Each-map (IsInInterval A w) (normal_form A) (Each-weaker (λ v a. record {
        element = element-normal_form A g v;
        below = record { word = v; subword = a; same = same-sym A g (normal_form-same A g v) };
      }) (Each-subwords (normal_form A w))))
      (λ word p. subst (λ (x : List ℕ). In x (map (normal_form A) (subwords (normal_form A w))))
      (normal_form-equal A g p.below.same ∙ p.element.normal) (In-map (normal_form A) (In-subwords p.below.subword)))

  -- what is between y and w
  pub between-of : (y w : List ℕ) (xs : List (List ℕ)) → IsListOf (IsInInterval A w) xs
      → IsListOf (IsBetween A y w) (filter (λ x. is_below A y x) xs)
  between-of y w xs a = IsListOf-filter (IsInInterval A w) (IsBetween A y w) (is_below A y) xs a
      (λ word p. (
        λ e. record { element = p.element; above = (is_below-tells y word).0 e; below = p.below },
        λ q.
            (is_below-tells y word).1 q.above,
      ))
      (λ word q. record { element = q.element; below = q.below })

  -- what w covers
  pub coatoms-of : (w : List ℕ) (xs : List (List ℕ)) → IsListOf (IsInInterval A w) xs
      → IsListOf (IsCoatom A w) (filter (λ x. length x + 1 == word_length A w) xs)
  coatoms-of w xs a = IsListOf-filter (IsInInterval A w) (IsCoatom A w) (λ x. length x + 1 == word_length A w) xs a
      (λ word p. (
        λ e. record { element = p.element; below = p.below; letters = eqb-true (length word + 1) (word_length A w) e },
        λ q. eq-eqb (length word + 1) (word_length A w) q.letters,
      ))
      (λ word q. record { element = q.element; below = q.below })

  -- an interval has more than so many elements or it has not
  pub interval-decided : (limit : ℕ) (w : List ℕ)
      → HasMoreThan limit (IsInInterval A w) ⊎
      ((HasMoreThan limit (IsInInterval A w) → ⊥) × (words : List (List ℕ)) × IsListOf (IsInInterval A w) words)
  interval-decided limit w =
      let c = interval-exists w
      in ⊎_elim (λ (many : limit < length c.0). inl (HasMoreThan-listed (IsInInterval A w) limit c.0 c.1 many))
      (λ (few : length c.0 ≤ limit). inr (HasMoreThan-few (IsInInterval A w) limit c.0 c.1 few, c.0, c.1))
      (cases_lt limit (length c.0))

  -- an interval is refused for its size alone, apart from memory that runs out
  pub interval-refused : (limit : ℕ) (w : List ℕ) → length w ≤ MAX_LETTERS → (fault : ContextFault)
      → IsRefusal (IsInInterval A w) limit fault → (fault ≡ NoMemory → ⊥)
      → HasMoreThan limit (IsInInterval A w)
  interval-refused limit w short (Size bound seen) refusal memory = HasMoreThan-over (IsInInterval A w) limit refusal.2
  interval-refused limit w short Long refusal memory =
      absurd (omega (arith, short, interval-length A g w refusal.long refusal.member, refusal.letters, word_length-length A g w))
  interval-refused limit w short NoMemory refusal memory = absurd (memory refl)
