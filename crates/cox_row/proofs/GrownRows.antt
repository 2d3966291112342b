-- The row of w is still its row when members are appended: what is below w was a member before, with the same number.
use Rattle.std.proofs.Common.{◌≡◌, ℕ, ◌<◌, Bool, List, length, Contains, Option, None, Some, ℤ, sym, ◌∙◌, arith}
use Rattle.std.specs.Arc.{arc_value}
use Rattle.cox_base.specs.IntegerMatrix.{IntegerMatrix}
use Rattle.cox_base.specs.Admissible.{IsAdmissible}
use Rattle.cox_base.specs.Bruhat.{IsBelow}
use Rattle.cox_hecke.proofs.Descended.{mu-below}
use Rattle.cox_context.specs.Closed.{IsClosed}
use Rattle.cox_context.specs.Numbers.{word_at}
use Rattle.cox_context.specs.Spread.{AreKept}
use Rattle.cox_context.proofs.PlacedWords.{contains-placed, contains-at}
use Rattle.cox_row.specs.declared.row.Row.{Row}
use Rattle.cox_row.specs.declared.row.SharedPolynomials.{SharedPolynomials}
use Rattle.cox_row.specs.Rising.{number_at, AreWithin}
use Rattle.cox_row.specs.ExtremalNumbers.{AreExtremal}
use Rattle.cox_row.specs.Polynomials.{HavePolynomials}
use Rattle.cox_row.specs.Mus.{AreMus}
use Rattle.cox_row.specs.Views.{AreImages, AreImagesBy, IsViewOf, ServesFor}
use Rattle.cox_row.specs.RowOf.{IsRowOf}
use Rattle.cox_row.proofs.ImageLists.{image-within}

module _ (A : IntegerMatrix) (g : IsAdmissible A) (old new : List (List ℕ)) (from : IsClosed A old) (to : IsClosed A new)
    (are : AreKept old new)
  where
    more : (numbers : List ℕ) → AreWithin (length old) numbers → AreWithin (length new) numbers
    more numbers within k l = omega (arith, within k l, are.size)

    module _ (w : List ℕ) (member : Contains old w) where
      -- a member below w was one before
      was_member : (i : ℕ) → i < length new → IsBelow A (word_at new i) w → i < length old
      was_member i l b =
          let x : List ℕ = word_at new i
          in let p = contains-placed old x (from.down x w member (to.element x (contains-at new i l)) b)
          in let same : p.i ≡ i = to.distinct p.i i (omega (arith, p.within, are.size)) l (are.word p.i p.within ∙ p.is)
          in omega (arith, p.within, same)

      extremal-grown : (numbers : List ℕ) → AreExtremal A old w numbers → AreExtremal A new w numbers
      extremal-grown numbers h = record {
        rising = h.rising;
        within = more numbers h.within;
        extremal = λ k l. rw (are.word (number_at numbers k) (h.within k l)) (h.extremal k l);
        below = λ k l. rw (are.word (number_at numbers k) (h.within k l)) (h.below k l);
        whole = λ x l e b.
            let was = was_member x l b
            in h.whole x was (rw (are.word x was) at e) (rw (are.word x was) at b);
      }

      polynomials-grown : (numbers places : List ℕ) (pool : List (List ℤ)) → AreWithin (length old) numbers
          → HavePolynomials A old w numbers places pool → HavePolynomials A new w numbers places pool
      polynomials-grown numbers places pool within h = record {
        size = h.size;
        placed = h.placed;
        distinct = h.distinct;
        value = λ k l. rw (are.word (number_at numbers k) (within k l)) (h.value k l);
      }

      mus-grown : (numbers : List ℕ) (values : List ℤ) → AreMus A old w numbers values → AreMus A new w numbers values
      mus-grown numbers values h = record {
        size = h.size;
        rising = h.rising;
        within = more numbers h.within;
        value = λ k l. rw (are.word (number_at numbers k) (h.within k l)) (h.value k l);
        some = h.some;
        whole = λ u m l mu some.
            let was = was_member u l (mu-below A g (word_at new u) w m mu some)
            in h.whole u m was (rw (are.word u was) at mu) some;
      }

      images-grown : (p : ℕ → ℕ) (inverted : Bool) (images : List (Option ℕ)) → AreImages A old w p inverted images
          → AreImages A new w p inverted images
      images-grown p inverted images h = record {
        size = omega (arith, h.size, are.size);
        right = λ x y l e.
            let within : x < length old = omega (arith, image-within images x y e, h.size)
            in let right = h.right x y within e
            in (omega (arith, right.0, are.size), rw (are.word x within, are.word y right.0) right.1);
        there = λ x l b.
            let was = was_member x l b
            in h.there x was (rw (are.word x was) at b);
      }

      images_by-grown : (p : ℕ → ℕ) (inverted : Bool) (images : Option (List (Option ℕ))) → AreImagesBy A old w p inverted images
          → AreImagesBy A new w p inverted images
      images_by-grown p inverted None h = h
      images_by-grown p inverted (Some images) h = images-grown p inverted images h

      view-grown : (view : SharedPolynomials) → IsViewOf A old w view → IsViewOf A new w view
      view-grown view h = record {
        p = h.p;
        inverted = h.inverted;
        symmetry = h.symmetry;
        within = omega (arith, h.within, are.size);
        element = rw (are.word view.member h.within) h.element;
        images = images_by-grown h.p h.inverted view.images h.images;
      }

      serves-grown : (view : Option SharedPolynomials) (v : List ℕ) → ServesFor A old w view v → ServesFor A new w view v
      serves-grown None v h = h
      serves-grown (Some view) v (h, e) = (view-grown view h, e ∙ sym (are.word view.member h.within))

      serving-member : (view : Option SharedPolynomials) (v : List ℕ) → ServesFor A old w view v → Contains old v
      serving-member None v e = rw e member
      serving-member (Some view) v (h, e) = rw e (contains-at old view.member h.within)

    pub row-grown : (w : List ℕ) → Contains old w → (row : Row) → IsRowOf A old w row → IsRowOf A new w row
    row-grown w member row h =
        let kept : Contains old h.kept = serving-member w member row.view h.kept h.serves
        in record {
          kept = h.kept;
          serves = serves-grown w member row.view h.kept h.serves;
          values = record {
            extremal = extremal-grown h.kept kept (arc_value row.values).extremal.items h.values.extremal;
            polynomials = polynomials-grown h.kept kept (arc_value row.values).extremal.items (arc_value row.values).places
                (arc_value row.values).pool h.values.extremal.within h.values.polynomials;
          };
          mus = mus-grown w member row.neighbours.items row.mu.items h.mus;
        }
