-- The images under each letter, one after another.
use Rattle.std.proofs.Common.{◌≡◌, ℕ, suc, ◌-◌, ◌≤◌, ◌<◌, List, [], ◌∷◌, ◌++◌, length, ⊎_elim, sym, ◌∙◌, arith}
use Rattle.std.specs.Prelude.{slice_index_or}
use Rattle.cox_base.specs.IntegerMatrix.{IntegerMatrix}
use Rattle.cox_lemmas.proofs.PushedItems.{push-length, push-old, push-new}
use Rattle.std.proofs.lemmas.Bool.{cases_lt}
use Rattle.cox_module.specs.declared.term.Term.{Term}
use Rattle.cox_module.specs.Images.{IsImage, AreImages}
use Rattle.cox_module.specs.NumberedImages.{AreImagesUnder, image_in}

module _ (A : IntegerMatrix) (words : List (List ℕ)) where
  pub images-push : (s n : ℕ) (images : List (List Term)) (image : List Term) → AreImagesUnder A words s n images
      → IsImage A words s n image
      → AreImagesUnder A words s (suc n) (images ++ image ∷ [])
  images-push s n images image are is = record {
    size = omega (arith, push-length images image, are.size);
    each = λ k l. ⊎_elim
        (λ (less : k < n). rw (push-old images image [] k (omega (arith, less, are.size))) (are.each k less))
        (λ (more : n ≤ k).
        let same : k ≡ n = omega (arith, l, more) in rw (push-new images image [] k (same ∙ sym are.size), same) is)
        (cases_lt k n);
  }

  pub letters-push : (n : ℕ) (tables : List (List (List Term))) (table : List (List Term)) (r : ℕ) → length tables ≡ r
      → ((j : ℕ) → j < r → AreImagesUnder A words (suc j) n (slice_index_or tables j []))
      → AreImagesUnder A words (suc r) n table
      → (j : ℕ) → j < suc r → AreImagesUnder A words (suc j) n (slice_index_or (tables ++ table ∷ []) j [])
  letters-push n tables table r size each last j l = ⊎_elim
      (λ (less : j < r). rw (push-old tables table [] j (omega (arith, less, size))) (each j less))
      (λ (more : r ≤ j).
      let same : j ≡ r = omega (arith, l, more)
      in rw (push-new tables table [] j (same ∙ sym size), same) last)
      (cases_lt j r)

  pub letters-all : (tables : List (List (List Term)))
      → ((j : ℕ) → j < A.rank → AreImagesUnder A words (suc j) (length words) (slice_index_or tables j []))
      → AreImages A words (image_in tables)
  letters-all tables each s k letter l =
      let e : suc (s - 1) ≡ s = omega (arith, letter.from_one)
      in rw e at ((each (s - 1) (omega (arith, letter.from_one, letter.to_rank))).each k l)
