-- Two letters t and s in turn: with their order m, t s t .. of 2 m - 1 letters is s.
use Rattle.std.proofs.Common.{ℕ, zero, suc, ◌-◌, List, [], ◌∷◌, ◌++◌, ℤ}
use Rattle.cox_base.specs.Matrix.{IsLetter}
use Rattle.cox_base.specs.Admissible.{IsAdmissible, HasOrder, order_two, order_three}
use Rattle.cox_base.specs.IntegerMatrix.{IntegerMatrix}
use Rattle.cox_base.specs.Admissible.{order_four, order_back_four, order_six, order_back_six}
use Rattle.cox_base.specs.Element.{SameElement}
use Rattle.cox_reflect.proofs.Elements.{same-refl, same-sym, same-trans, same-append, same-square}
use Rattle.cox_reflect.proofs.RankTwo.{alternating}
use Rattle.cox_reflect.proofs.RankTwo.{same-braid}

-- t s t .. t, of 2 k + 1 letters
abbrev pub zigzag : ℕ → ℕ → ℕ → List ℕ
zigzag t s zero = t ∷ []
zigzag t s (suc k) = t ∷ s ∷ zigzag t s k

module _ (A : IntegerMatrix) (g : IsAdmissible A) where
  -- with the same word before both
  prefix : (p : List ℕ) {u v : List ℕ} → SameElement A u v → SameElement A (p ++ u) (p ++ v)
  prefix p e = same-append A g (same-refl A g p) e

  one_turn : (t s : ℕ) → SameElement A (t ∷ t ∷ s ∷ []) (s ∷ [])
  one_turn t s = same-square A g t (s ∷ [])

  two_turns : (t s : ℕ) → SameElement A (t ∷ s ∷ s ∷ t ∷ s ∷ []) (s ∷ [])
  two_turns t s = same-trans A g (prefix (t ∷ []) (same-square A g s (t ∷ s ∷ []))) (one_turn t s)

  three_turns : (t s : ℕ) → SameElement A (t ∷ s ∷ t ∷ t ∷ s ∷ t ∷ s ∷ []) (s ∷ [])
  three_turns t s = same-trans A g (prefix (t ∷ s ∷ []) (same-square A g t (s ∷ t ∷ s ∷ []))) (two_turns t s)

  five_turns : (t s : ℕ) → SameElement A (t ∷ s ∷ t ∷ s ∷ t ∷ t ∷ s ∷ t ∷ s ∷ t ∷ s ∷ []) (s ∷ [])
  five_turns t s =
      same-trans A g (prefix (t ∷ s ∷ t ∷ s ∷ []) (same-square A g t (s ∷ t ∷ s ∷ t ∷ s ∷ [])))
      (same-trans A g (prefix (t ∷ s ∷ t ∷ []) (same-square A g s (t ∷ s ∷ t ∷ s ∷ []))) (three_turns t s))

  braid_of : (t s m : ℕ) → IsLetter A.rank t → IsLetter A.rank s → HasOrder (A.entry t s) (A.entry s t) m
      → SameElement A (alternating m s t) (alternating m t s)
  braid_of t s m lt ls h = same-sym A g (same-braid A g t s lt ls h)

  by_order : {a b : ℤ} (t s m : ℕ) → HasOrder a b m → SameElement A (alternating m s t) (alternating m t s)
      → SameElement A (zigzag t s (m - 1)) (s ∷ [])
  unfolding alternating
  by_order t s m order_two e = same-trans A g (prefix (t ∷ []) e) (one_turn t s)
  by_order t s m order_three e = same-trans A g (prefix (t ∷ s ∷ []) e) (two_turns t s)
  by_order t s m order_four e = same-trans A g (prefix (t ∷ s ∷ t ∷ []) e) (three_turns t s)
  by_order t s m order_back_four e = same-trans A g (prefix (t ∷ s ∷ t ∷ []) e) (three_turns t s)
  by_order t s m order_six e = same-trans A g (prefix (t ∷ s ∷ t ∷ s ∷ t ∷ []) e) (five_turns t s)
  by_order t s m order_back_six e = same-trans A g (prefix (t ∷ s ∷ t ∷ s ∷ t ∷ []) e) (five_turns t s)

  -- the walk that goes all round but for one step: the letters together are s
  pub zigzag-order : (t s m : ℕ) → IsLetter A.rank t → IsLetter A.rank s → HasOrder (A.entry t s) (A.entry s t) m
      → SameElement A (zigzag t s (m - 1)) (s ∷ [])
  zigzag-order t s m lt ls h = by_order t s m h (braid_of t s m lt ls h)
