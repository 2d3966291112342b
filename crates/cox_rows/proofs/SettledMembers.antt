-- A member is settled where its row is held and all that the row is made from is settled. It stays so where more rows are held.
use Rattle.std.proofs.Common.{◌≡◌, ◌⊎◌, ⊎_elim, ℕ, ◌<◌, List, ◌∷◌, Bool, true, false, length, ℤ, pos, Option, Some, slice_index_or}
use Rattle.std.proofs.Common.{refl, sym, arith}
use Rattle.std.specs.Prelude.{◌≤ℤ◌}
use Rattle.cox_base.specs.declared.side.Side.TheVariants.{Left}
use Rattle.cox_base.specs.IntegerMatrix.{IntegerMatrix, integer_matrix}
use Rattle.cox_base.specs.Admissible.{IsAdmissible}
use Rattle.cox_base.specs.Bruhat.{IsBelow}
use Rattle.cox_base.specs.Element.{SameElement}
use Rattle.cox_base.specs.ShortLex.{normal_form}
use Rattle.cox_reflect.specs.LeastDescent.{IsLeastLeftDescent}
use Rattle.cox_reflect.proofs.Elements.{same-refl, same-sym}
use Rattle.cox_reflect.proofs.Search.{normal_form-same}
use Rattle.cox_reflect.proofs.Bruhat.{below-trans, below-descent}
use Rattle.cox_reflect.proofs.NormalElements.{element-unique}
use Rattle.cox_hecke.specs.Step.{IsCorrection}
use Rattle.cox_hecke.specs.Needs.{itself}
use Rattle.cox_hecke.proofs.Descended.{mu-below}
use Rattle.cox_context.specs.Closed.{Elements, IsClosed}
use Rattle.cox_context.specs.Numbers.{word_at}
use Rattle.cox_context.proofs.PlacedWords.{IsPlaced, contains-placed}
use Rattle.cox_context.proofs.Shifting.{member-below, element-at}
use Rattle.cox_row_symmetry.specs.declared.descents.Descent.{Descent}
use Rattle.cox_row_symmetry.specs.DescentOf.{IsDescentAt}
use Rattle.cox_klstep.specs.NeedsOf.{HasNeeds}
use Rattle.cox_klstep.specs.declared.tables.Tables.{Tables}
use Rattle.cox_klstep.specs.TablesOf.{AreTables}
use Rattle.cox_rows.specs.Beyond.{IsBeyond, NeedsBeyond}
use Rattle.cox_rows.specs.Holding.{Holding, HasRow}
use Rattle.cox_rows.specs.Ensured.{HoldsNeed, IsStore, IsSettled}
use Rattle.cox_rows.proofs.NeedCases.{NeedCase, is, by_shorter, by_correction, need_case, needed-from, correction-words}
use Rattle.cox_rows.proofs.NeedDecided.{needs_beyond-none, needs_beyond-same}

-- the row of a settled member is held
pub settled-row : (h : Holding) (i : ℕ) → IsSettled h i → HasRow h i
settled-row h i settled = settled.held i settled.member (itself record { equal = λ s t l k. refl })

pub settled-more : (a b : Holding) → b.elements ≡ a.elements → b.limit ≡ a.limit → ((j : ℕ) → HasRow a j → HasRow b j) → (i : ℕ)
    → IsSettled a i → IsSettled b i
settled-more a b elements limit kept i settled = record {
  member = rw elements settled.member;
  small = rw (elements, limit) settled.small;
  held = rw elements (λ j l n. kept j (settled.held j l n));
}

-- ---- what a row is made from

pub needs-weaker : (e : Elements) (P Q : ℕ → Type 0) (i : ℕ) → ((j : ℕ) → P j → Q j) → HasNeeds e P i → HasNeeds e Q i
needs-weaker e P Q i weaker needs = record {
  shorter = λ s j d l word. weaker j (needs.shorter s j d l word);
  corrected = λ s u m d l c. weaker u (needs.corrected s u m d l c);
}

-- the shorter element and the corrections of the step by the least left descent
pub descent-needs : (e : Elements) (P : ℕ → Type 0) (d : Descent) → IsClosed (integer_matrix e.matrix) e.members → IsDescentAt e d
    → P d.lower
    → ((u : ℕ) (m : ℤ) → u < length e.members
    → IsCorrection Left (integer_matrix e.matrix) d.letter (d.letter ∷ word_at e.members d.member) (word_at e.members u) m → P u)
    → HasNeeds e P d.member
descent-needs e P d closed descent lower each = record {
  shorter = λ s j least l word.
      let same : s ≡ d.letter = omega (arith, least.least d.letter descent.least.descent, descent.least.least s least.descent)
      in let place : j ≡ d.lower = closed.distinct j d.lower l descent.lower_within (rw (word, same) (sym descent.lower_is))
      in rw place lower;
  corrected = λ s u m least l c.
      let same : s ≡ d.letter = omega (arith, least.least d.letter descent.least.descent, descent.least.least s least.descent)
      in each u m l (rw same at c);
}

-- a settled member that is the element v
record HasSettled (h : Holding) (v : List ℕ) : Type 0 where
  pub number : ℕ
  pub same : SameElement (integer_matrix h.elements.matrix) v (word_at h.elements.members number)
  pub settled : IsSettled h number

module _ (h : Holding) (i : ℕ) (g : IsAdmissible (integer_matrix h.elements.matrix))
    (closed : IsClosed (integer_matrix h.elements.matrix) h.elements.members) (least : pos 0 ≤ℤ h.limit)
    (within : i < length h.elements.members) (needs : HasNeeds h.elements (IsSettled h) i) where
  abbrev A : IntegerMatrix
  A = integer_matrix h.elements.matrix

  abbrev members : List (List ℕ)
  members = h.elements.members

  abbrev w : List ℕ
  w = word_at members i

  place : (v : List ℕ) → IsBelow A v w → IsPlaced members (normal_form A v)
  place v below = contains-placed members (normal_form A v) (member-below A g members closed v i within below)

  lower : (s : ℕ) → IsLeastLeftDescent A w s → HasSettled h (s ∷ w)
  lower s d =
      let p = place (s ∷ w) (below-descent A g w s d.descent)
      in record {
        number = p.i;
        same = rw p.is (same-sym A g (normal_form-same A g (s ∷ w)));
        settled = needs.shorter s p.i d p.within p.is;
      }

  correction : (s : ℕ) (u : List ℕ) (m : ℤ) → IsLeastLeftDescent A w s → IsCorrection Left A s (s ∷ w) u m → HasSettled h u
  correction s u m d c =
      let p = place u (below-trans A g (mu-below A g u (s ∷ w) m c.is_mu c.some) (below-descent A g w s d.descent))
      in let same : SameElement A u (word_at members p.i) = rw p.is (same-sym A g (normal_form-same A g u))
      in record {
        number = p.i;
        same = same;
        settled = needs.corrected s p.i m d p.within
            (correction-words A g s (s ∷ w) (s ∷ w) u (word_at members p.i) m (same-refl A g (s ∷ w)) same c);
      }

  none-beyond : (v : List ℕ) → HasSettled h v → NeedsBeyond A h.limit v → ⊥
  none-beyond v p beyond = p.settled.small (needs_beyond-same A g h.limit least v (word_at members p.number) p.same beyond)

  holds-need : (v : List ℕ) → HasSettled h v → HoldsNeed h v
  holds-need v p j l n = p.settled.held j l (needed-from A g v (word_at members p.number) (word_at members j) p.same n)

  pub is_settled : (IsBeyond A h.limit w → ⊥) → HasRow h i → IsSettled h i
  is_settled small there = record {
    member = within;
    small = needs_beyond-none A g h.limit least w small (λ s d. none-beyond (s ∷ w) (lower s d))
        (λ s u m d c. none-beyond u (correction s u m d c));
    held = λ j l n. held j l (need_case A g w (word_at members j) n);
  }
    where
      held : (j : ℕ) → j < length members → NeedCase A w (word_at members j) → HasRow h j
      held j l (is e) =
          let here : j ≡ i = closed.distinct j i l within
          (element-unique A g (word_at members j) w (element-at A g members closed j l) (element-at A g members closed i within) e)
          in rw here there
      held j l (by_shorter {s} d n) = holds-need (s ∷ w) (lower s d) j l n
      held j l (by_correction {s} {u} {m} d c n) = holds-need u (correction s u m d c) j l n

-- ---- the notes

-- one flag more
pub store-set : (h : Holding) (old new : List Bool) (tables : Option Tables) (i : ℕ)
    → ((j : ℕ) → slice_index_or new j false ≡ true → (j ≡ i) ⊎ (slice_index_or old j false ≡ true)) → IsSettled h i
    → IsStore h old tables → IsStore h new tables
store-set h old new tables i at settled store = record {
  known = λ j t. ⊎_elim (λ (e : j ≡ i). rw e settled) (λ (before : slice_index_or old j false ≡ true). store.known j before) (at j t);
  usable = store.usable;
}

-- more rows, and other tables
pub store-put : (h new : Holding) (settled : List Bool) (old : Option Tables) (tables : Tables) → new.elements ≡ h.elements
    → new.limit ≡ h.limit → ((j : ℕ) → HasRow h j → HasRow new j) → IsStore h settled old → AreTables h.elements tables
    → IsStore new settled (Some tables)
store-put h new settled old tables elements limit kept store are = record {
  known = λ j t. settled-more h new elements limit kept j (store.known j t);
  usable = rw elements are;
}
