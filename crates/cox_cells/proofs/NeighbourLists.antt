-- The neighbours of one member more.
use Rattle.std.proofs.Common.{◌≡◌, ℕ, ◌+◌, ◌-◌, ◌<◌, ◌≤◌, List, [], ◌∷◌, ◌++◌, length, take, drop, ◌∙◌, ap, ⊎_elim, arith}
use Rattle.std.proofs.lemmas.List.{take-append-le, take_all, drop-append-le, length-append, length-drop}
use Rattle.std.proofs.Math.Seq.{drop-append_seam}
use Rattle.std.proofs.lemmas.Bool.{cases_lt}
use Rattle.cox_lemmas.proofs.PushedItems.{push-length, push-old, push-new}
use Rattle.cox_context.specs.Closed.{Elements}
use Rattle.cox_row.specs.Rising.{number_at}
use Rattle.cox_cells.specs.NeighbourLists.{HasNeighbours, AreNeighbours, list_between}

-- what stands between two offsets is not touched by what is put behind
between-kept : (numbers more : List ℕ) (start end : ℕ) → start ≤ end → end ≤ length numbers
    → list_between (numbers ++ more) start end ≡ list_between numbers start end
between-kept numbers more start end rise room =
    let begun : start ≤ length numbers = omega arith in
    let inside : end - start ≤ length (drop start numbers) = omega (arith, length-drop start numbers)
    in ap (take (end - start)) (drop-append-le start numbers more begun) ∙ take-append-le (end - start) (drop start numbers) more inside

-- what is put behind stands between the old end and the new one
between-new : (numbers more : List ℕ) (end : ℕ) → end ≡ length (numbers ++ more)
    → list_between (numbers ++ more) (length numbers) end ≡ more
between-new numbers more end is =
    let whole : length more ≤ end - length numbers = omega (arith, length-append numbers more)
    in ap (take (end - length numbers)) (drop-append_seam numbers more) ∙ take_all (end - length numbers) more whole

module _ (e : Elements) (n : ℕ) (offsets numbers more : List ℕ) (end : ℕ) (h : AreNeighbours e n offsets numbers)
    (new : HasNeighbours e n more)
    (is : end ≡ length (numbers ++ more)) where
  -- the offsets that were there
  old : (k : ℕ) → k ≤ n → number_at (offsets ++ end ∷ []) k ≡ number_at offsets k
  old k l = push-old offsets end 0 k (omega (arith, h.count))

  next : number_at (offsets ++ end ∷ []) (n + 1) ≡ end
  next = push-new offsets end 0 (n + 1) (omega (arith, h.count))

  rise-next : number_at (offsets ++ end ∷ []) n ≤ number_at (offsets ++ end ∷ []) (n + 1)
  rise-next = omega (arith, old n (omega arith), next, h.last, length-append numbers more)

  pub neighbours-more : AreNeighbours e (n + 1) (offsets ++ end ∷ []) (numbers ++ more)
  neighbours-more = record {
    count = omega (arith, push-length offsets end, h.count);
    last = next ∙ is;
    rise = λ k l. ⊎_elim
        (λ (less : k < n). omega (arith, h.rise k less, old k (omega arith), old (k + 1) (omega arith)))
        (λ (at : n ≤ k). let last : k ≡ n = omega arith in rw last rise-next)
        (cases_lt k n);
    room = λ k l. ⊎_elim
        (λ (less : k < n). omega (arith, h.room k less, old (k + 1) (omega arith), length-append numbers more))
        (λ (at : n ≤ k). let last : k ≡ n = omega arith in rw last (omega (arith, next, is)))
        (cases_lt k n);
    each = λ k l. ⊎_elim
        (λ (less : k < n). rw (
          old k (omega arith),
          old (k + 1) (omega arith),
          between-kept numbers more (number_at offsets k) (number_at offsets (k + 1)) (h.rise k less) (h.room k less),
        ) (h.each k less))
        (λ (at : n ≤ k).
        let last : k ≡ n = omega arith
        in rw (last, next, old n (omega arith), h.last, between-new numbers more end is) new)
        (cases_lt k n);
  }
