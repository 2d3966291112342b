-- The values of a layer: at the end of the word, and by links to the values of the next.
use Rattle.std.proofs.Common.{◌≡◌, ℕ, ◌+◌, ◌^◌, ◌<◌, ◌≤◌, Some, None, List, [], ◌∷◌, length, get_or, ℤ, ap, sym, ◌∙◌, arith, lit≤}
use Rattle.std.specs.Prelude.{All}
use Rattle.std.proofs.Math.Path.{fun_ext}
use Rattle.cox_rpoly.specs.declared.TheConstants.{MAX_DIFFERENCE}
use Rattle.cox_base.specs.IntegerMatrix.{IntegerMatrix}
use Rattle.cox_base.specs.Admissible.{IsAdmissible}
use Rattle.cox_base.specs.Length.{word_length}
use Rattle.cox_base.specs.Reduced.{IsReduced}
use Rattle.cox_base.specs.Descents.{IsLeftDescent}
use Rattle.cox_poly.specs.Coefficients.{Coefficients, zero_polynomial, one_polynomial, plus, times_q, times_q_less_one}
use Rattle.cox_poly.specs.Polynomial.{coefficient}
use Rattle.cox_poly.proofs.Norms.{HasNormAtMost-coefficient}
use Rattle.cox_rpoly.specs.declared.terms.Link.{Link}
use Rattle.cox_rpoly.specs.declared.terms.Link.TheVariants.{Shorter, Longer}
use Rattle.cox_rpoly.specs.Recursion.{r_along}
use Rattle.cox_rpoly.specs.ElementValues.{Naming}
use Rattle.cox_rpoly.specs.Terms.{LeavesRoom, LeavesRoomAt, IsLinkWithin, numbered, linked_value, AreLinkedValues, AreOnes}
use Rattle.cox_rpoly.specs.Layer.{IsInLayer, IsValue, AreLayerValues, IsAt, IsLongerLink, IsLink, AreLinks}
use Rattle.cox_rpoly.proofs.AlongWords.{along-identity, along-shorter, along-longer, along-not_below, along-degree, along-norm}
use Rattle.cox_rpoly.proofs.AlongWords.{longer-length}
use Rattle.cox_rpoly.proofs.WordsOfOneElement.{SameDescents, below_identity-length}

-- an element of a list that has one
some_of : {X : Type 0} (layer : List X) (k : ℕ) → k < length layer → X
some_of [] k below = absurd (omega (arith, below))
some_of (x ∷ layer) k below = x

module _ {X : Type 0} (of : Naming X) where
  -- the value of the element with a number
  value_at : (A : IntegerMatrix) (v : List ℕ) (layer : List X) (values : List (List ℤ)) (i : ℕ) (x : X)
      → AreLayerValues of A v layer values → IsAt layer i x
      → IsValue of A v x (numbered values i)
  value_at A v layer values i x all a = rw (a.is x) at (all.each i x a.within)

  -- the value of the one element of a layer
  pub only_value : (A : IntegerMatrix) (v : List ℕ) (x : X) (layer : List X) (values : List (List ℤ)) (p : List ℤ) → layer ≡ x ∷ []
      → AreLayerValues of A v layer values → p ≡ get_or values 0 p → IsValue of A v x p
  only_value A v x layer [] p one all is = absurd (omega (arith, all.count, ap length one))
  only_value A v x layer (q ∷ values) p one all is = rw is ((rw one at all).each 0 x (omega arith))

  module _ (A : IntegerMatrix) (g : IsAdmissible A) where
    -- where no letters are left
    pub IsValue-end : SameDescents of A → (x : X) (p : List ℤ) → IsInLayer of A [] x → ((k : ℕ) → coefficient p k ≡ one_polynomial k)
        → IsValue of A [] x p
    IsValue-end descents x p m one = record {
      at = λ u e k. one k ∙ sym
          (ap (λ (f : Coefficients). f k) (along-identity A u (below_identity-length of A g descents m.word x m.of_word m.below u e)));
    }

    pub AreLayerValues-end : SameDescents of A → (v : List ℕ) (layer : List X) (values : List (List ℤ)) {n : ℕ} → length v ≡ 0
        → All (IsInLayer of A v) layer → n
        ≡ length layer
        → AreOnes n values → AreLayerValues of A v layer values
    AreLayerValues-end descents (s ∷ v) layer values none members count ones = absurd (omega (arith, none))
    AreLayerValues-end descents [] layer values none members count ones = record {
      count = ones.count ∙ count;
      each = λ i x below.
          IsValue-end descents (get_or layer i x) (numbered values i) (members i x below)
          (λ k. ones.each i k (omega (arith, below, count)));
    }

    -- where at most 38 letters more are left than x has
    LeavesRoom-value : (v : List ℕ) (x : X) (p : List ℤ) (w : List ℕ) → IsValue of A v x p → of A w x
        → length v ≤ word_length A w + 38 → LeavesRoom p
    LeavesRoom-value v x p w value e near = record {
      top = value.at w e MAX_DIFFERENCE ∙ along-degree A g w v 38 near MAX_DIFFERENCE (omega arith);
      small = λ k.
          let bound = HasNormAtMost-coefficient (r_along A w v) (3 ^ 38) (along-norm A g w v 38 near) k
          in let power : 3 ^ 38 ≤ 2 ^ 61 = lit≤ tt
          in rw (value.at w e k) (omega (arith, bound, power));
    }

    module _ (s : ℕ) (v : List ℕ) (x : X) (next : List X) (values : List (List ℤ)) (all : AreLayerValues of A v next values) where
      small_still : (i : ℕ) → IsInLayer of A (s ∷ v) x → IsLongerLink of A s x next i → LeavesRoomAt values i
      small_still i m l = record {
        within = omega (arith, l.at.within, all.count);
        small = LeavesRoom-value v x (numbered values i) m.word (value_at A v next values i x all l.at) m.of_word (omega (arith, m.near));
      }

      pub IsLink-within : (l : Link) → IsInLayer of A (s ∷ v) x → IsLink of A s v x next l → IsLinkWithin values l
      IsLink-within (Shorter i) m l = omega (arith, l.times.at.within, all.count)
      IsLink-within (Longer i None) m l = small_still i m l.0
      IsLink-within (Longer i (Some j)) m l = (
        small_still i m l.0,
        record {
          within = omega (arith, l.1.at.within, all.count);
          small = LeavesRoom-value v l.1.moved (numbered values j) (s ∷ m.word) (value_at A v next values j l.1.moved all l.1.at)
              (l.1.moves m.word m.of_word)
              (omega (arith, m.near, longer-length A m.word s (l.0.ascent m.word m.of_word)));
        },
      )

      -- (q-1) R(x,v) + q R(sx,v) is R(x,sv)
      longer : (u : List ℕ) (f h : Coefficients) → (IsLeftDescent A u s → ⊥) → f ≡ r_along A u v → h ≡ r_along A (s ∷ u) v
          → plus (times_q_less_one f) (times_q h) ≡ r_along A u (s ∷ v)
      longer u f h none e d = rw (e, d) (sym (along-longer A u s v none))

      still : (i : ℕ) (u : List ℕ) → IsLongerLink of A s x next i → of A u x → coefficient (numbered values i) ≡ r_along A u v
      still i u l e = fun_ext ((value_at A v next values i x all l.at).at u e)

      pub IsLink-value : (l : Link) (p : List ℤ) → IsReduced A v → IsLink of A s v x next l
          → ((k : ℕ) → coefficient p k ≡ linked_value values l k)
          → IsValue of A (s ∷ v) x p
      IsLink-value (Shorter i) p r l step = record {
        at = λ u e k.
            step k ∙ (value_at A v next values i l.times.moved all l.times.at).at (s ∷ u) (l.times.moves u e) k
            ∙ sym (ap (λ (f : Coefficients). f k) (along-shorter A u s v (l.descent u e)));
      }
      IsLink-value (Longer i None) p r l step = record {
        at = λ u e k.
            let none : zero_polynomial ≡ r_along A (s ∷ u) v = fun_ext (λ j. sym (along-not_below A g (s ∷ u) v r (l.1 u e) j))
            in step k ∙ ap (λ (f : Coefficients). f k) (longer u _ _ (l.0.ascent u e) (still i u l.0 e) none);
      }
      IsLink-value (Longer i (Some j)) p r l step = record {
        at = λ u e k.
            let moved : coefficient (numbered values j) ≡ r_along A (s ∷ u) v
            = fun_ext ((value_at A v next values j l.1.moved all l.1.at).at (s ∷ u) (l.1.moves u e))
            in step k ∙ ap (λ (f : Coefficients). f k) (longer u _ _ (l.0.ascent u e) (still i u l.0 e) moved);
      }

    -- ---- a whole layer

    module _ (s : ℕ) (v : List ℕ) (layer next : List X) (links : List Link) (values : List (List ℤ))
        (are : AreLinks of A s v layer next links)
        (all : AreLayerValues of A v next values) where
      pub AreLinks-within : All (IsInLayer of A (s ∷ v)) layer → All (IsLinkWithin values) links
      AreLinks-within members k d below =
          let inside : k < length layer = omega (arith, below, are.count)
          in let z : X = some_of layer k inside
          in IsLink-within s v (get_or layer k z) next values all (get_or links k d) (members k z inside) (are.each k z d inside)

      pub AreLinks-values : (mine : List (List ℤ)) → IsReduced A v → AreLinkedValues links values mine
          → AreLayerValues of A (s ∷ v) layer mine
      AreLinks-values mine r linked = record {
        count = linked.count ∙ are.count;
        each = λ i x below.
            let inside : i < length links = omega (arith, below, are.count)
            in IsLink-value s v (get_or layer i x) next values all (get_or links i (Shorter 0)) (numbered mine i) r
            (are.each i x (Shorter 0) below)
            (λ k. linked.each i (Shorter 0) k inside);
      }
