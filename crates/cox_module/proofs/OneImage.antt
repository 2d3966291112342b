-- Each element of a cell has exactly one image under each letter.
use Rattle.std.proofs.Common.{◌≡◌, ℕ, zero, suc, ◌<◌, List, ◌++◌, ◌∷◌, [], length, map, Contains, ◌⊎◌, inl, inr, ap, sym, ◌∙◌, arith}
use Rattle.std.proofs.lemmas.List.{ext_get_or, get_or-map, length-map}
use Rattle.cox_base.specs.IntegerMatrix.{IntegerMatrix}
use Rattle.cox_base.specs.Admissible.{IsAdmissible}
use Rattle.cox_base.specs.SortedList.{IsRising, IsListOf}
use Rattle.cox_context.specs.Numbers.{word_at}
use Rattle.cox_context.proofs.PlacedWords.{IsPlaced, contains-at, contains-placed, placed-contains, rising-place}
use Rattle.cox_context.proofs.ShortLexLists.{IsListOf-unique}
use Rattle.cox_module.specs.declared.term.Entry.{Entry}
use Rattle.cox_module.specs.declared.term.Entry.TheVariants.{Minus}
use Rattle.cox_module.specs.declared.term.Term.{Term}
use Rattle.cox_module.specs.Images.{IsEntry, term, term_at, AreTermsBefore, IsImage}
use Rattle.cox_module.proofs.Entries.{entry-unique, entry_or_not}
use Rattle.cox_module.proofs.TermsByPlace.{terms-none, terms-passed, terms-added}

module _ (A : IntegerMatrix) (g : IsAdmissible A) (cell : List (List ℕ)) (rising : IsRising cell) (s : ℕ) (x : List ℕ) where
  -- ---- one list at most

  HasEntry : List ℕ → Type 0
  HasEntry y = Contains cell y × ((e : Entry) × IsEntry A s x y e)

  word_of : Term → List ℕ
  word_of t = word_at cell t.place

  word-at : (terms : List Term) (i : ℕ) → i < length terms → word_at (map word_of terms) i ≡ word_at cell (term_at terms i).place
  unfolding word_of
  word-at terms i l = get_or-map (λ (t : Term). word_at cell t.place) terms i (term 0 Minus) [] l

  size : (terms : List Term) → length (map word_of terms) ≡ length terms
  size terms = length-map terms word_of

  listed : (terms : List Term) → AreTermsBefore A cell s x (length cell) terms → IsListOf HasEntry (map word_of terms)
  unfolding HasEntry
  listed terms are = record {
    rising = λ i j less l.
        let m : j < length terms = omega (arith, l, size terms)
        in rw (word-at terms i (omega (arith, less, m)), word-at terms j m)
        (rising (term_at terms i).place (term_at terms j).place (are.rising i j less m) (are.before j (term 0 Minus) m));
    sound = λ y c. sound y (contains-placed (map word_of terms) y c);
    whole = λ y r. whole y r (contains-placed cell y r.0);
  }
    where
      sound : (y : List ℕ) → IsPlaced (map word_of terms) y → Contains cell y × ((e : Entry) × IsEntry A s x y e)
      sound y p =
          let l : p.i < length terms = omega (arith, p.within, size terms)
          in rw (sym p.is ∙ word-at terms p.i l) (
            contains-at cell (term_at terms p.i).place (are.before p.i (term 0 Minus) l),
            ((term_at terms p.i).entry, are.each p.i (term 0 Minus) l),
          )

      whole : (y : List ℕ) → Contains cell y × ((e : Entry) × IsEntry A s x y e) → IsPlaced cell y → Contains (map word_of terms) y
      whole y r p =
          let found = are.whole p.i r.1.0 p.within (rw p.is r.1.1)
          in placed-contains (map word_of terms) y (record {
            i = found.0;
            within = omega (arith, found.1, size terms);
            is = word-at terms found.0 found.1 ∙ ap (word_at cell) found.2 ∙ p.is;
          })

  pub terms-once : (terms others : List Term) → AreTermsBefore A cell s x (length cell) terms
      → AreTermsBefore A cell s x (length cell) others
      → terms ≡ others
  terms-once terms others are are' = ext_get_or (term 0 Minus) terms others length_is at
    where
      words : map word_of terms ≡ map word_of others
      words = IsListOf-unique HasEntry (map word_of terms) (map word_of others) (listed terms are) (listed others are')

      length_is : length terms ≡ length others
      length_is = sym (size terms) ∙ ap (λ (ws : List (List ℕ)). length ws) words ∙ size others

      at : (i : ℕ) → i < length terms → term_at terms i ≡ term_at others i
      at i l =
          let m : i < length others = omega (arith, l, length_is)
          in let place : (term_at terms i).place ≡ (term_at others i).place
          = rising-place cell (term_at terms i).place (term_at others i).place rising (are.before i (term 0 Minus) l)
          (are'.before i (term 0 Minus) m)
          (sym (word-at terms i l) ∙ ap (λ (ws : List (List ℕ)). word_at ws i) words ∙ word-at others i m)
          in let entry : (term_at terms i).entry ≡ (term_at others i).entry
          = entry-unique A g s x (word_at cell (term_at others i).place) (term_at terms i).entry (term_at others i).entry
          (rw place at (are.each i (term 0 Minus) l)) (are'.each i (term 0 Minus) m)
          in λ j. term (place j) (entry j)

  -- ---- one at least

  terms_before : (n : ℕ) → (terms : List Term) × AreTermsBefore A cell s x n terms
  terms_before zero = ([], terms-none A cell s x)
  terms_before (suc n) = go (terms_before n) (entry_or_not A g s x (word_at cell n))
    where
      go : (terms : List Term) × AreTermsBefore A cell s x n terms
          → ((e : Entry) × IsEntry A s x (word_at cell n) e) ⊎ ((e : Entry) → IsEntry A s x (word_at cell n) e → ⊥)
          → (terms : List Term) × AreTermsBefore A cell s x (suc n) terms
      go (terms, are) (inl (e, is)) = (terms ++ term n e ∷ [], terms-added A cell s x n terms are e is)
      go (terms, are) (inr none) = (terms, terms-passed A cell s x n terms are none)

  pub terms-exist : (terms : List Term) × AreTermsBefore A cell s x (length cell) terms
  terms-exist = terms_before (length cell)

module _ (A : IntegerMatrix) (g : IsAdmissible A) (cell : List (List ℕ)) (rising : IsRising cell) (s k : ℕ) where
  pub image-once : (image other : List Term) → IsImage A cell s k image → IsImage A cell s k other → image ≡ other
  image-once = terms-once A g cell rising s (word_at cell k)

  pub image-exists : (image : List Term) × IsImage A cell s k image
  image-exists = terms-exist A g cell rising s (word_at cell k)
