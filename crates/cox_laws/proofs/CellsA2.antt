-- The left cells of A 2.
use Rattle.std.proofs.Common.{◌≡◌, ◌≢◌, ℕ, zero, suc, ◌≤◌, List, [], ◌∷◌, ◌++◌, pos, refl, arith}
use Rattle.std.specs.Prelude.{All, Contains}
use Rattle.std.proofs.lemmas.Int.{ints}
use Rattle.std.proofs.lemmas.Bool.{cases_lt}
use Rattle.std.proofs.lemmas.List.Elements.{All-nil, All-cons, All-contains}
use Rattle.std.proofs.Common.{⊎_elim}
use Rattle.cox_base.specs.Admissible.{IsAdmissible}
use Rattle.cox_base.specs.IntegerMatrix.{IntegerMatrix}
use Rattle.cox_base.specs.Element.{SameElement}
use Rattle.cox_base.specs.Length.{word_length}
use Rattle.cox_base.specs.Members.{IsElement}
use Rattle.cox_base.specs.SortedList.{IsRising}
use Rattle.cox_base.specs.ShortLex.{shortlex_cmp}
use Rattle.std.specs.declared.cmp.Ordering.TheVariants.{Less}
use Rattle.cox_base.specs.Descents.{IsRightDescent}
use Rattle.cox_reflect.proofs.Elements.{same-trans, same-cons, same-push, same-square, same-push_twice}
use Rattle.cox_reflect.proofs.Search.{word_length-equal}
use Rattle.cox_reflect.proofs.Lengths.{word_length-cons, word_length-push}
use Rattle.cox_hecke.specs.Row.{IsMu}
use Rattle.cox_hecke.proofs.AllRows.{row_of, row_of-is, mu-by_row, mu-same}
use Rattle.cox_hecke.proofs.Descended.{mu-left, mu-right, mu-shift_left}
use Rattle.cox_wgraph.specs.Edges.{IsEdge}
use Rattle.cox_cells.specs.Cells.{IsStep, Precedes, itself, onward, IsInCell, IsCell, AreCells}
use Rattle.cox_cells.specs.declared.kind.CellKind.TheVariants.{Left}
use Rattle.cox_laws.specs.Examples.{a2, left_cells_of_a2}
use Rattle.cox_laws.proofs.ElementsA2.{admissible, length-e, length-1, length-2, length-11, length-22, length-12, length-21, length-121}
use Rattle.cox_laws.proofs.ElementsA2.{length-212, length-122, length-211, length-221, length-112, length-1211, length-1212}
use Rattle.cox_laws.proofs.ElementsA2.{element-one, element-e, element-1, element-2, element-12, element-21, element-121, IsOne, is_e}
use Rattle.cox_laws.proofs.ElementsA2.{is_1, is_2, is_12, is_21, is_121}

-- ---- right descents in left cells

-- a step to the left keeps right descents: those of y are descents of x (Kazhdan and Lusztig 1979, 2.4)
module _ (A : IntegerMatrix) (g : IsAdmissible A) where
  step-right : (x y : List ℕ) (r : ℕ) → IsStep Left A x y → IsRightDescent A y r → IsRightDescent A x r
  step-right x y r is down = ⊎_elim (λ (d : IsRightDescent A x r). d)
      (λ (up : word_length A x ≤ word_length A (x ++ r ∷ [])). absurd (no_edge up))
      (cases_lt (word_length A (x ++ r ∷ [])) (word_length A x))
    where
      s : ℕ
      s = is.own.letter

      edge : IsEdge A x y is.neighbour.joined.0
      edge = is.neighbour.joined.1

      -- y = xr is above x: then sy < y
      upward : word_length A x ≤ word_length A (x ++ r ∷ []) → edge.value.up ≢ pos 0 → ⊥
      upward up some =
          let same : SameElement A x (y ++ r ∷ []) = mu-right A g y x r edge.value.up edge.value.is_up some down
          (λ (d : IsRightDescent A x r). omega (arith, d, up)) in
          let back : SameElement A (x ++ r ∷ []) y = same-trans A g (same-push A g r same) (same-push_twice A g y r) in
          is.own.none (omega (
            arith,
            is.own.descent,
            down,
            word_length-equal A g same,
            word_length-equal A g back,
            word_length-equal A g (same-cons A g s back),
            word_length-push A g (s ∷ x) r,
          ))

      -- y = sx is below x: then xr < x
      downward : word_length A x ≤ word_length A (x ++ r ∷ []) → edge.value.down ≢ pos 0 → ⊥
      downward up some =
          let same : SameElement A y (s ∷ x) = mu-left A g x y s edge.value.down edge.value.is_down some is.own.descent is.own.none in
          let back : SameElement A (s ∷ y) x = same-trans A g (same-cons A g s same) (same-square A g s x) in
          omega (
            arith,
            up,
            down,
            is.own.descent,
            word_length-equal A g same,
            word_length-equal A g (same-push A g r back),
            word_length-cons A g s (y ++ r ∷ []),
          )

      no_edge : word_length A x ≤ word_length A (x ++ r ∷ []) → ⊥
      no_edge up = upward up (λ (none_up : edge.value.up ≡ pos 0). downward up (λ (none_down : edge.value.down ≡ pos 0).
          edge.some (omega (arith, ints, edge.value.value, none_up, none_down))))

  precedes-right : {x w : List ℕ} (r : ℕ) → Precedes Left A x w → IsRightDescent A w r → IsRightDescent A x r
  precedes-right r (itself x) down = down
  precedes-right r (onward x y w is rest) down = step-right x y r is (precedes-right r rest down)

-- ---- the edges between 1 and 21, and between 2 and 12

mu-1-21 : IsMu a2 (1 ∷ []) (2 ∷ 1 ∷ []) (pos 1)
mu-1-21 = mu-same a2 admissible (2 ∷ 2 ∷ 1 ∷ []) (1 ∷ []) (2 ∷ 1 ∷ []) (pos 1) (same-square a2 admissible 2 (1 ∷ []))
    (mu-shift_left a2 admissible (2 ∷ 1 ∷ []) 2 (omega (arith, length-221, length-21)))

mu-21-1 : IsMu a2 (2 ∷ 1 ∷ []) (1 ∷ []) (pos 0)
mu-21-1 = mu-by_row a2 admissible (2 ∷ 1 ∷ []) (1 ∷ []) (pos 0) (row_of a2 admissible (1 ∷ [])) (row_of-is a2 admissible (1 ∷ []))
    (rw (length-1, length-21) refl)

mu-2-12 : IsMu a2 (2 ∷ []) (1 ∷ 2 ∷ []) (pos 1)
mu-2-12 = mu-same a2 admissible (1 ∷ 1 ∷ 2 ∷ []) (2 ∷ []) (1 ∷ 2 ∷ []) (pos 1) (same-square a2 admissible 1 (2 ∷ []))
    (mu-shift_left a2 admissible (1 ∷ 2 ∷ []) 1 (omega (arith, length-112, length-12)))

mu-12-2 : IsMu a2 (1 ∷ 2 ∷ []) (2 ∷ []) (pos 0)
mu-12-2 = mu-by_row a2 admissible (1 ∷ 2 ∷ []) (2 ∷ []) (pos 0) (row_of a2 admissible (2 ∷ [])) (row_of-is a2 admissible (2 ∷ []))
    (rw (length-2, length-12) refl)

step-1-21 : IsStep Left a2 (1 ∷ []) (2 ∷ 1 ∷ [])
step-1-21 = record {
  neighbour = record {
    element = element-21;
    joined = (
      pos 1,
      record {
        value = record { up = pos 1; down = pos 0; is_up = mu-1-21; is_down = mu-21-1; value = refl };
        some = λ e. omega (arith, ints, e);
      },
    );
  };
  own = record { letter = 1; descent = omega (arith, length-11, length-1); none = λ d. omega (arith, length-121, length-21, d) };
}

step-21-1 : IsStep Left a2 (2 ∷ 1 ∷ []) (1 ∷ [])
step-21-1 = record {
  neighbour = record {
    element = element-1;
    joined = (
      pos 1,
      record {
        value = record { up = pos 0; down = pos 1; is_up = mu-21-1; is_down = mu-1-21; value = refl };
        some = λ e. omega (arith, ints, e);
      },
    );
  };
  own = record { letter = 2; descent = omega (arith, length-221, length-21); none = λ d. omega (arith, length-21, length-1, d) };
}

step-2-12 : IsStep Left a2 (2 ∷ []) (1 ∷ 2 ∷ [])
step-2-12 = record {
  neighbour = record {
    element = element-12;
    joined = (
      pos 1,
      record {
        value = record { up = pos 1; down = pos 0; is_up = mu-2-12; is_down = mu-12-2; value = refl };
        some = λ e. omega (arith, ints, e);
      },
    );
  };
  own = record { letter = 2; descent = omega (arith, length-22, length-2); none = λ d. omega (arith, length-212, length-12, d) };
}

step-12-2 : IsStep Left a2 (1 ∷ 2 ∷ []) (2 ∷ [])
step-12-2 = record {
  neighbour = record {
    element = element-2;
    joined = (
      pos 1,
      record {
        value = record { up = pos 0; down = pos 1; is_up = mu-12-2; is_down = mu-2-12; value = refl };
        some = λ e. omega (arith, ints, e);
      },
    );
  };
  own = record { letter = 1; descent = omega (arith, length-112, length-12); none = λ d. omega (arith, length-12, length-2, d) };
}

-- ---- the cells

both : {x y : List ℕ} → IsElement a2 y → IsStep Left a2 x y → IsStep Left a2 y x → IsInCell Left a2 x y
both {x} {y} element forth back = record { element = element; forth = onward x y y forth (itself y); back = onward y x x back (itself x) }

alone : {x : List ℕ} → IsElement a2 x → IsInCell Left a2 x x
alone {x} element = record { element = element; forth = itself x; back = itself x }

-- where w has a right descent that x has not, no chain of steps leads from x to w
lacks : {x w : List ℕ} (r : ℕ) → Precedes Left a2 x w → IsRightDescent a2 w r → word_length a2 x ≤ word_length a2 (x ++ r ∷ []) → ⊥
lacks r chain has no_more = omega (arith, precedes-right a2 admissible r chain has, no_more)

-- a list of one word, and of two
one_rising : (x : List ℕ) → IsRising (x ∷ [])
one_rising x i zero before inside = absurd (omega (arith, before))
one_rising x i (suc j) before inside = absurd (omega (arith, inside))

two_rising : (x y : List ℕ) → shortlex_cmp x y ≡ Less → IsRising (x ∷ y ∷ [])
two_rising x y less zero (suc zero) before inside = less
two_rising x y less i zero before inside = absurd (omega (arith, before))
two_rising x y less (suc i) (suc zero) before inside = absurd (omega (arith, before))
two_rising x y less i (suc (suc j)) before inside = absurd (omega (arith, inside))

module _ (P : List ℕ → Type 0) where
  one_sound : (x y : List ℕ) → P x → Contains (x ∷ []) y → P y
  one_sound x y holds there_is = All-contains P (x ∷ []) y (All-cons P x [] holds (All-nil P)) there_is

  two_sound : (x y z : List ℕ) → P x → P y → Contains (x ∷ y ∷ []) z → P z
  two_sound x y z first second there_is =
      All-contains P (x ∷ y ∷ []) z (All-cons P x (y ∷ []) first (All-cons P y [] second (All-nil P))) there_is

cell-e : IsCell Left a2 ([] ∷ [])
cell-e = record {
  some = omega arith;
  all = record {
    rising = one_rising [];
    sound = λ x there_is. one_sound (IsInCell Left a2 []) [] x (alone element-e) there_is;
    whole = λ x is. whole x (element-one x is.element) is;
  };
}
  where
    whole : (x : List ℕ) → IsOne x → IsInCell Left a2 [] x → Contains ([] ∷ []) x
    whole x is_e is = (0, omega arith, refl)
    whole x is_1 is =
        absurd (lacks 1 is.forth (omega (arith, length-11, length-1)) (omega (arith, length-1, length-e)))
    whole x is_2 is =
        absurd (lacks 2 is.forth (omega (arith, length-22, length-2)) (omega (arith, length-2, length-e)))
    whole x is_12 is =
        absurd (lacks 2 is.forth (omega (arith, length-122, length-12)) (omega (arith, length-2, length-e)))
    whole x is_21 is =
        absurd (lacks 1 is.forth (omega (arith, length-211, length-21)) (omega (arith, length-1, length-e)))
    whole x is_121 is =
        absurd (lacks 1 is.forth (omega (arith, length-1211, length-121)) (omega (arith, length-1, length-e)))

cell-1 : IsCell Left a2 ((1 ∷ []) ∷ (2 ∷ 1 ∷ []) ∷ [])
cell-1 = record {
  some = omega arith;
  all = record {
    rising = two_rising (1 ∷ []) (2 ∷ 1 ∷ []) refl;
    sound = λ x there_is.
        two_sound (IsInCell Left a2 (1 ∷ [])) (1 ∷ []) (2 ∷ 1 ∷ []) x (alone element-1) (both element-21 step-1-21 step-21-1) there_is;
    whole = λ x is. whole x (element-one x is.element) is;
  };
}
  where
    whole : (x : List ℕ) → IsOne x → IsInCell Left a2 (1 ∷ []) x → Contains ((1 ∷ []) ∷ (2 ∷ 1 ∷ []) ∷ []) x
    whole x is_e is =
        absurd (lacks 1 is.back (omega (arith, length-11, length-1)) (omega (arith, length-1, length-e)))
    whole x is_1 is = (0, omega arith, refl)
    whole x is_2 is =
        absurd (lacks 2 is.forth (omega (arith, length-22, length-2)) (omega (arith, length-12, length-1)))
    whole x is_12 is =
        absurd (lacks 2 is.forth (omega (arith, length-122, length-12)) (omega (arith, length-12, length-1)))
    whole x is_21 is = (1, omega arith, refl)
    whole x is_121 is =
        absurd (lacks 2 is.forth (omega (arith, length-1212, length-121)) (omega (arith, length-12, length-1)))

cell-2 : IsCell Left a2 ((2 ∷ []) ∷ (1 ∷ 2 ∷ []) ∷ [])
cell-2 = record {
  some = omega arith;
  all = record {
    rising = two_rising (2 ∷ []) (1 ∷ 2 ∷ []) refl;
    sound = λ x there_is.
        two_sound (IsInCell Left a2 (2 ∷ [])) (2 ∷ []) (1 ∷ 2 ∷ []) x (alone element-2) (both element-12 step-2-12 step-12-2) there_is;
    whole = λ x is. whole x (element-one x is.element) is;
  };
}
  where
    whole : (x : List ℕ) → IsOne x → IsInCell Left a2 (2 ∷ []) x → Contains ((2 ∷ []) ∷ (1 ∷ 2 ∷ []) ∷ []) x
    whole x is_e is =
        absurd (lacks 2 is.back (omega (arith, length-22, length-2)) (omega (arith, length-2, length-e)))
    whole x is_1 is =
        absurd (lacks 1 is.forth (omega (arith, length-11, length-1)) (omega (arith, length-21, length-2)))
    whole x is_2 is = (0, omega arith, refl)
    whole x is_12 is = (1, omega arith, refl)
    whole x is_21 is =
        absurd (lacks 1 is.forth (omega (arith, length-211, length-21)) (omega (arith, length-21, length-2)))
    whole x is_121 is =
        absurd (lacks 1 is.forth (omega (arith, length-1211, length-121)) (omega (arith, length-21, length-2)))

cell-121 : IsCell Left a2 ((1 ∷ 2 ∷ 1 ∷ []) ∷ [])
cell-121 = record {
  some = omega arith;
  all = record {
    rising = one_rising (1 ∷ 2 ∷ 1 ∷ []);
    sound = λ x there_is. one_sound (IsInCell Left a2 (1 ∷ 2 ∷ 1 ∷ [])) (1 ∷ 2 ∷ 1 ∷ []) x (alone element-121) there_is;
    whole = λ x is. whole x (element-one x is.element) is;
  };
}
  where
    whole : (x : List ℕ) → IsOne x → IsInCell Left a2 (1 ∷ 2 ∷ 1 ∷ []) x → Contains ((1 ∷ 2 ∷ 1 ∷ []) ∷ []) x
    whole x is_e is =
        absurd (lacks 1 is.back (omega (arith, length-1211, length-121)) (omega (arith, length-1, length-e)))
    whole x is_1 is =
        absurd (lacks 2 is.back (omega (arith, length-1212, length-121)) (omega (arith, length-12, length-1)))
    whole x is_2 is =
        absurd (lacks 1 is.back (omega (arith, length-1211, length-121)) (omega (arith, length-21, length-2)))
    whole x is_12 is =
        absurd (lacks 1 is.back (omega (arith, length-1211, length-121)) (omega (arith, length-121, length-12)))
    whole x is_21 is =
        absurd (lacks 2 is.back (omega (arith, length-1212, length-121)) (omega (arith, length-212, length-21)))
    whole x is_121 is = (0, omega arith, refl)

pub left_cells : AreCells Left a2 left_cells_of_a2
left_cells = record { each = each; rising = rising; whole = λ x is. whole x (element-one x is) }
  where
    each : All (IsCell Left a2) left_cells_of_a2
    each zero d inside = cell-e
    each (suc zero) d inside = cell-1
    each (suc (suc zero)) d inside = cell-2
    each (suc (suc (suc zero))) d inside = cell-121
    each (suc (suc (suc (suc i)))) d inside = absurd (omega (arith, inside))

    rising : IsRising ([] ∷ (1 ∷ []) ∷ (2 ∷ []) ∷ (1 ∷ 2 ∷ 1 ∷ []) ∷ [])
    rising zero (suc zero) before inside = refl
    rising zero (suc (suc zero)) before inside = refl
    rising zero (suc (suc (suc zero))) before inside = refl
    rising (suc zero) (suc (suc zero)) before inside = refl
    rising (suc zero) (suc (suc (suc zero))) before inside = refl
    rising (suc (suc zero)) (suc (suc (suc zero))) before inside = refl
    rising i zero before inside = absurd (omega (arith, before))
    rising (suc i) (suc zero) before inside = absurd (omega (arith, before))
    rising (suc (suc i)) (suc (suc zero)) before inside = absurd (omega (arith, before))
    rising (suc (suc (suc i))) (suc (suc (suc zero))) before inside = absurd (omega (arith, before))
    rising i (suc (suc (suc (suc j)))) before inside = absurd (omega (arith, inside))

    whole : (x : List ℕ) → IsOne x → (cell : List (List ℕ)) × Contains left_cells_of_a2 cell × Contains cell x
    whole x is_e = (([] ∷ []), (0, omega arith, refl), (0, omega arith, refl))
    whole x is_1 = (((1 ∷ []) ∷ (2 ∷ 1 ∷ []) ∷ []), (1, omega arith, refl), (0, omega arith, refl))
    whole x is_2 = (((2 ∷ []) ∷ (1 ∷ 2 ∷ []) ∷ []), (2, omega arith, refl), (0, omega arith, refl))
    whole x is_12 = (((2 ∷ []) ∷ (1 ∷ 2 ∷ []) ∷ []), (2, omega arith, refl), (1, omega arith, refl))
    whole x is_21 = (((1 ∷ []) ∷ (2 ∷ 1 ∷ []) ∷ []), (1, omega arith, refl), (1, omega arith, refl))
    whole x is_121 = (((1 ∷ 2 ∷ 1 ∷ []) ∷ []), (3, omega arith, refl), (0, omega arith, refl))
