-- A certificate, as far as its lines are read, with one more line.
use Rattle.std.proofs.Common.{◌≡◌, ◌≢◌, ℕ, ◌<◌, ◌≤◌, true, false, List, [], ◌∷◌, ◌++◌, length, map, All, ℤ, refl, sym, ap, ◌∙◌}
use Rattle.std.proofs.Common.{subst, arith, ◌⊎◌, ⊎_elim}
use Rattle.std.proofs.lemmas.List.{length-map, map_push, length_push}
use Rattle.std.proofs.lemmas.List.Elements.{All-nil, All-cons, All-head, All-tail, All-push}
use Rattle.arrayvec.specs.ArrayVec.{ArrayVec}
use Rattle.cox_base.specs.Matrix.{CoxeterMatrix}
use Rattle.cox_rowcheck.specs.CheckablePolynomials.{IsCheckable}
use Rattle.cox_certtext.specs.declared.limits.TheConstants.{MAX_LISTED}
use Rattle.cox_cert.specs.declared.draft.Draft.{Draft}
use Rattle.cox_certtext.specs.Certificate.{Certificate, IsShortWord, IsTextEntry, Gives, words_of_entries, polynomials_of_entries}
use Rattle.cox_certtext.specs.Certificate.{matrix_line, top_line, count_line, entry_line, end_line}
use Rattle.cox_cert.specs.Drafts.{letters_of, IsDraftOf, IsGroup, HasHead, HasEntries, HasAll, BeginsNone}
use Rattle.cox_cert.proofs.FirstLines.{none-top, none-entry, none-end, none-behind, unfinished-entries}

-- ---- all but the last hold

All-init : {X : Type 0} (P : X → Type 0) (xs : List X) (x : X) → All P (xs ++ x ∷ []) → All P xs
All-init P [] x all = All-nil P
All-init P (y ∷ xs) x all =
    All-cons P y xs (All-head P y (xs ++ x ∷ []) all) (All-init P xs x (All-tail P y (xs ++ x ∷ []) all))

All-last : {X : Type 0} (P : X → Type 0) (xs : List X) (x : X) → All P (xs ++ x ∷ []) → P x
All-last P [] x all = All-head P x [] all
All-last P (y ∷ xs) x all = All-last P xs x (All-tail P y (xs ++ x ∷ []) all)

-- ---- the head

pub head-none : (g : CoxeterMatrix) (line : List ℕ) (lines : List (List ℕ)) → IsGroup g × (lines ≡ matrix_line g ∷ [])
    → ((w : List ℕ) → IsShortWord g.rank w → line ≢ top_line g.rank w) → BeginsNone (lines ++ line ∷ [])
head-none g line lines h none = subst (λ l. BeginsNone (l ++ line ∷ [])) (sym h.1) (none-top g line h.0 none)

-- the number of entries behind them
pub count-first : (draft : Draft) (line : List ℕ) (lines : List (List ℕ)) → HasHead draft.group draft.top.items lines
    → draft.words.items ≡ [] → draft.large ≡ false → draft.polynomials.items ≡ [] → 1 ≤ draft.count → draft.count ≤ MAX_LISTED
    → line ≡ count_line draft.count → HasEntries draft (lines ++ line ∷ [])
count-first draft line lines h words large polynomials some few is = record {
  certificate = record { matrix = draft.group; top = draft.top.items; entries = [] };
  parts = record {
    matrix = refl;
    top = refl;
    words = sym (ap letters_of words);
    large = λ e. absurd (cc (e, large));
    small = λ _. All-nil IsCheckable;
    polynomials = λ _. sym polynomials;
  };
  group = h.group;
  word = h.word;
  entries = All-nil (IsTextEntry draft.group.rank);
  some = some;
  few = few;
  within = omega arith;
  written = ap (λ l. l ++ line ∷ []) h.written
      ∙ ap (λ t. matrix_line draft.group ∷ top_line draft.group.rank draft.top.items ∷ t ∷ []) is;
}

-- ---- the entries

-- the entries so far are as many as the words
pub entries-size : (draft : Draft) (c : Certificate) → IsDraftOf draft c → length c.entries ≡ length draft.words.items
entries-size draft c parts =
    let e : length (words_of_entries c.entries) ≡ length (letters_of draft.words.items) = ap length parts.words in
    sym (length-map c.entries (λ (entry : List ℕ × List ℤ). entry.0)) ∙ e
    ∙ length-map draft.words.items (λ (word : ArrayVec ℕ). word.items)

-- the lines before the entries
abbrev head : Certificate → ℕ → List (List ℕ)
head c n = matrix_line c.matrix ∷ top_line c.matrix.rank c.top ∷ count_line n ∷ []

-- one more entry, whose parts were taken so
pub entries-more : (draft next : Draft) (word : ArrayVec ℕ) (p : List ℤ) (line : List ℕ) (lines : List (List ℕ)) → HasEntries draft lines
    → length draft.words.items < draft.count → next.group ≡ draft.group → next.top ≡ draft.top → next.count ≡ draft.count
    → next.words.items ≡ draft.words.items ++ word ∷ [] → IsTextEntry draft.group.rank (word.items, p)
    → line ≡ entry_line draft.group.rank (word.items, p)
    → (next.large ≡ true → (draft.large ≡ true) ⊎ ¬ IsCheckable p)
    → (next.large ≡ false → (draft.large ≡ false) × IsCheckable p × (next.polynomials.items ≡ draft.polynomials.items ++ p ∷ []))
    → HasEntries next (lines ++ line ∷ [])
entries-more draft next word p line lines h room group top count words is written large small =
    let c = h.certificate in
    let entry : List ℕ × List ℤ = (word.items, p) in
    let first : words_of_entries (c.entries ++ entry ∷ []) ≡ words_of_entries c.entries ++ word.items ∷ [] =
    map_push (λ (entry : List ℕ × List ℤ). entry.0) c.entries entry in
    let second : polynomials_of_entries (c.entries ++ entry ∷ []) ≡ polynomials_of_entries c.entries ++ p ∷ [] =
    map_push (λ (entry : List ℕ × List ℤ). entry.1) c.entries entry in
    record {
      certificate = record { matrix = c.matrix; top = c.top; entries = c.entries ++ entry ∷ [] };
      parts = record {
        matrix = h.parts.matrix ∙ sym group;
        top = h.parts.top ∙ ap (λ (w : ArrayVec ℕ). w.items) (sym top);
        words = first ∙ ap (λ l. l ++ word.items ∷ []) h.parts.words
            ∙ sym (ap letters_of words ∙ map_push (λ (w : ArrayVec ℕ). w.items) draft.words.items word);
        large = λ e all. ⊎_elim
            (λ (before : draft.large ≡ true).
            h.parts.large before (All-init IsCheckable (polynomials_of_entries c.entries) p (subst (λ l. All IsCheckable l) second all)))
            (λ (here : ¬ IsCheckable p). here
            (All-last IsCheckable (polynomials_of_entries c.entries) p (subst (λ l. All IsCheckable l) second all))) (large e);
        small = λ e. subst (λ l. All IsCheckable l) (sym second)
            (All-push IsCheckable (polynomials_of_entries c.entries) p (h.parts.small (small e).0) (small e).1);
        polynomials = λ e. second ∙ ap (λ l. l ++ p ∷ []) (h.parts.polynomials (small e).0) ∙ sym (small e).2;
      };
      group = h.group;
      word = h.word;
      entries = All-push (IsTextEntry c.matrix.rank) c.entries entry h.entries
          (subst (λ (g : CoxeterMatrix). IsTextEntry g.rank entry) (sym h.parts.matrix) is);
      some = subst (λ (n : ℕ). 1 ≤ n) (sym count) h.some;
      few = subst (λ (n : ℕ). n ≤ MAX_LISTED) (sym count) h.few;
      within = omega (arith, count, entries-size draft c h.parts, length_push c.entries entry);
      written = ap (λ l. l ++ line ∷ []) h.written
          ∙ ap (λ l. (head c draft.count ++ map (entry_line c.matrix.rank) c.entries) ++ l ∷ [])
          (written ∙ ap (λ (g : CoxeterMatrix). entry_line g.rank entry) (sym h.parts.matrix))
          ∙ ap (λ l. head c draft.count ++ l) (sym (map_push (entry_line c.matrix.rank) c.entries entry))
          ∙ ap (λ n. head c n ++ map (entry_line c.matrix.rank) (c.entries ++ entry ∷ [])) (sym count);
    }

pub entries-none : (draft : Draft) (line : List ℕ) (lines : List (List ℕ)) → HasEntries draft lines → length draft.words.items < draft.count
    → ((entry : List ℕ × List ℤ) → IsTextEntry draft.group.rank entry → line ≢ entry_line draft.group.rank entry)
    → BeginsNone (lines ++ line ∷ [])
entries-none draft line lines h room none =
    let c = h.certificate in
    subst (λ l. BeginsNone (l ++ line ∷ [])) (sym h.written)
    (none-entry c.matrix (top_line c.matrix.rank c.top) draft.count (map (entry_line c.matrix.rank) c.entries) line h.group h.few
    (omega (arith, entries-size draft c h.parts, length-map c.entries (entry_line c.matrix.rank)))
    (λ entry. subst (λ (g : CoxeterMatrix). IsTextEntry g.rank entry → line ≢ entry_line g.rank entry) (sym h.parts.matrix) (none entry)))

-- ---- the end

pub end-all : (draft : Draft) (line : List ℕ) (lines : List (List ℕ)) → HasEntries draft lines → draft.count ≤ length draft.words.items
    → line ≡ end_line → HasAll draft (lines ++ line ∷ [])
end-all draft line lines h full is =
    let c = h.certificate in
    let size : length c.entries ≡ draft.count = omega (arith, entries-size draft c h.parts, h.within) in
    record {
      certificate = c;
      parts = h.parts;
      is = record {
        matrix = h.group.matrix;
        rank = h.group.rank;
        top = h.word;
        entries = h.entries;
        some = omega (arith, h.some, size);
        few = omega (arith, h.few, size);
      };
      written = ap (λ l. l ++ line ∷ []) h.written
          ∙ ap (λ l. (matrix_line c.matrix ∷ top_line c.matrix.rank c.top ∷ count_line draft.count
          ∷ map (entry_line c.matrix.rank) c.entries) ++ l ∷ []) is
          ∙ ap (λ n. (matrix_line c.matrix ∷ top_line c.matrix.rank c.top ∷ count_line n
          ∷ map (entry_line c.matrix.rank) c.entries) ++ end_line ∷ []) (sym size);
    }

pub end-none : (draft : Draft) (line : List ℕ) (lines : List (List ℕ)) → HasEntries draft lines → draft.count ≤ length draft.words.items
    → line ≢ end_line → BeginsNone (lines ++ line ∷ [])
end-none draft line lines h full none =
    let c = h.certificate in
    subst (λ l. BeginsNone (l ++ line ∷ [])) (sym h.written)
    (none-end (matrix_line c.matrix) (top_line c.matrix.rank c.top) draft.count (map (entry_line c.matrix.rank) c.entries) line h.few
    (omega (arith, entries-size draft c h.parts, h.within, length-map c.entries (entry_line c.matrix.rank))) none)

pub behind-none : (draft : Draft) (line : List ℕ) (lines : List (List ℕ)) → HasAll draft lines → BeginsNone (lines ++ line ∷ [])
behind-none draft line lines h = subst (λ l. BeginsNone (l ++ line ∷ [])) (sym h.written) (none-behind h.certificate line h.is)

-- ---- too few lines

pub few-start : (lines : List (List ℕ)) → lines ≡ [] → (c : Certificate) → ¬ Gives lines c
few-start lines e c gives = cc (e, gives.written)

pub few-matrix : (g : CoxeterMatrix) (lines : List (List ℕ)) → IsGroup g × (lines ≡ matrix_line g ∷ []) → (c : Certificate)
    → ¬ Gives lines c
few-matrix g lines h c gives = cc (h.1, gives.written)

pub few-head : (g : CoxeterMatrix) (top : List ℕ) (lines : List (List ℕ)) → HasHead g top lines → (c : Certificate) → ¬ Gives lines c
few-head g top lines h c gives = cc (h.written, gives.written)

pub few-entries : (draft : Draft) (lines : List (List ℕ)) → HasEntries draft lines → (c : Certificate) → ¬ Gives lines c
few-entries draft lines h c =
    let d = h.certificate in
    subst (λ l. ¬ Gives l c) (sym h.written)
    (unfinished-entries (matrix_line d.matrix) (top_line d.matrix.rank d.top) draft.count (map (entry_line d.matrix.rank) d.entries) c h.few
    (omega (arith, h.within, length-map d.entries (entry_line d.matrix.rank))))
