-- Polynomials one behind another in one list of coefficients: one by its place, and one more; and how (q - 1) f + q h is written.
use Rattle.std.proofs.Common.{◌≡◌, ℕ, zero, suc, ◌+◌, ◌-◌, ◌^◌, ◌<◌, ◌≤◌, List, [], ◌∷◌, ◌++◌, length, take, drop, set}
use Rattle.std.proofs.Common.{ℤ, pos, ◌+ℤ◌, ◌-ℤ◌, unsigned_abs, FitsSigned, w64, ⊎_elim, refl, sym, ◌∙◌, ap, arith, length-append}
use Rattle.std.proofs.Common.{length-drop}
use Rattle.std.specs.Prelude.{All}
use Rattle.std.proofs.Math.Seq.{drop-append_seam}
use Rattle.std.proofs.lemmas.Bool.{cases_lt}
use Rattle.std.proofs.lemmas.Int.{ints, fits_signed_from_abs}
use Rattle.std.proofs.lemmas.List.{drop-append-le, take-append-le, take_all, drop_all, append-nil, map-append, length-map}
use Rattle.std.proofs.lemmas.List.{get_or-set_same, get_or-set_other}
use Rattle.std.proofs.lemmas.List.Elements.{All-head, All-tail, All-weaker, All-push}
use borrow.Rule.Slice.PartMut.{put_mid}
use Rattle.cox_poly.specs.Coefficients.{Coefficients, plus, times_q, times_q_less_one}
use Rattle.cox_poly.specs.Polynomial.{coefficient, coefficient_after}
use Rattle.cox_poly.proofs.AddedMultiples.{Added}
use Rattle.cox_poly.proofs.Coefficients.{times_q_power-one}
use Rattle.cox_poly.proofs.Polynomials.{coefficient_past}
use Rattle.cox_rowcheck.specs.declared.entries.Span.{Span}
use Rattle.cox_rowcheck.specs.EntryLists.{piece, pieces, IsSpan, HasOneMore, HasAppended}

pub pieces-length : (coefficients : List ℤ) (spans : List Span) → length (pieces coefficients spans) ≡ length spans
pieces-length coefficients spans = length-map spans (piece coefficients)

-- coefficients that are put behind the others leave these where they are
module _ (old more : List ℤ) where
  piece-kept : (span : Span) → IsSpan (length old) span → piece (old ++ more) span ≡ piece old span
  piece-kept span is =
      ap (take (span.end - span.start)) (drop-append-le span.start old more (omega (arith, is.order, is.within)))
      ∙ take-append-le (span.end - span.start) (drop span.start old) more (omega (arith, is.within, length-drop span.start old))

  pieces-kept : (spans : List Span) → All (IsSpan (length old)) spans → pieces (old ++ more) spans ≡ pieces old spans
  pieces-kept [] all = refl
  pieces-kept (span ∷ spans) all =
      let first = piece-kept span (All-head (IsSpan (length old)) span spans all)
      in let others = pieces-kept spans (All-tail (IsSpan (length old)) span spans all)
      in rw (first, others) refl

  pub spans-kept : (spans : List Span) → All (IsSpan (length old)) spans → All (IsSpan (length (old ++ more))) spans
  spans-kept spans all = All-weaker (IsSpan (length old)) (IsSpan (length (old ++ more)))
      (λ span is. record { order = is.order; within = omega (arith, is.within, length-append old more) }) spans all

  -- and they are one polynomial more
  module _ (spans : List Span) (all : All (IsSpan (length old)) spans) (span : Span) (start : span.start ≡ length old)
      (end : span.end ≡ length old + length more) where
    piece-new : piece (old ++ more) span ≡ more
    piece-new =
        let count : span.end - span.start ≡ length more = omega (arith, start, end)
        in ap (λ (n : ℕ). take n (drop span.start (old ++ more))) count
        ∙ ap (λ (n : ℕ). take (length more) (drop n (old ++ more))) start
        ∙ ap (take (length more)) (drop-append_seam old more) ∙ take_all (length more) more (omega arith)

    pub pieces-more : pieces (old ++ more) (spans ++ span ∷ []) ≡ pieces old spans ++ more ∷ []
    pieces-more = map-append (piece (old ++ more)) spans (span ∷ []) ∙ rw (pieces-kept spans all, piece-new) refl

    pub spans-more : All (IsSpan (length (old ++ more))) (spans ++ span ∷ [])
    spans-more = All-push (IsSpan (length (old ++ more))) spans span (spans-kept spans all)
        (record { order = omega (arith, start, end); within = omega (arith, end, length-append old more) })

pub appended-more : (old new : List ℤ) (f : Coefficients) (spans : List Span) (span : Span) → All (IsSpan (length old)) spans
    → HasAppended old new f → span.start ≡ length old → span.end ≡ length new
    → All (IsSpan (length new)) (spans ++ span ∷ []) × HasOneMore (pieces old spans) (pieces new (spans ++ span ∷ [])) f
appended-more old new f spans span all more start end =
    let size : span.end ≡ length old + length more.part = omega (arith, end, ap length more.list, length-append old more.part)
    in rw more.list (
      spans-more old more.part spans all span start size,
      record {
        entry = more.part;
        list = pieces-more old more.part spans all span start size;
        value = more.value;
      },
    )

-- what the polynomial is that was put behind the others
pub one_more : (old new : List (List ℤ)) (f g : Coefficients)
    → ((p : List ℤ) → ((k : ℕ) → coefficient p k ≡ f k) → (k : ℕ) → coefficient p k ≡ g k) → HasOneMore old new f → HasOneMore old new g
one_more old new f g same more = record { entry = more.entry; list = more.list; value = same more.entry more.value }

-- what was written over zeros behind the others, as the code leaves it
pub written : (old zeros all lent part : List ℤ) (start size : ℕ) → all ≡ old ++ zeros → lent ≡ all → start ≡ length old
    → length part ≡ length zeros → size ≡ length all
    → take size (put_mid start (length lent - start) lent part ++ drop (length (put_mid start (length lent - start) lent part)) all)
    ≡ old ++ part
written old zeros all lent part start size a b s long whole =
    let count : length all - start ≡ length zeros = omega (arith, s, ap length a, length-append old zeros)
    in let front : take (length old) (old ++ zeros) ≡ old
    = take-append-le (length old) old zeros (omega arith) ∙ take_all (length old) old (omega arith)
    in let behind : drop (length zeros) (drop (length old) (old ++ zeros)) ≡ []
    = ap (drop (length zeros)) (drop-append_seam old zeros) ∙ drop_all (length zeros) zeros (omega arith)
    in let here : put_mid start (length lent - start) lent part ≡ old ++ part
    = rw (b, count, s, a, front, behind, append-nil part) refl
    in let width : length (old ++ part) ≡ length all
    = omega (arith, length-append old part, length-append old zeros, ap length a, long)
    in rw (here, drop_all (length (old ++ part)) all (omega (arith, width)), append-nil (old ++ part))
    (take_all size (old ++ part) (omega (arith, whole, width)))

-- ---- the first n coefficients of (q - 1) f are written, and there are zeros behind

pub record IsLessOne (f entry : List ℤ) (n : ℕ) (before : ℤ) : Type 0 where
  pub done : (k : ℕ) → k < n → coefficient entry k ≡ times_q_less_one (coefficient f) k
  pub rest : (k : ℕ) → n ≤ k → coefficient entry k ≡ pos 0
  pub last : before ≡ times_q (coefficient f) n

pub less_one-none : (f entry : List ℤ) → ((k : ℕ) → coefficient entry k ≡ pos 0) → IsLessOne f entry 0 (pos 0)
less_one-none f entry zeros = record { done = λ k l. absurd (omega (arith, l)); rest = λ k l. zeros k; last = refl }

pub less_one-more : (f entry : List ℤ) (n m : ℕ) (before v : ℤ) → m ≡ suc n → IsLessOne f entry n before → n < length entry
    → v ≡ before -ℤ coefficient f n → IsLessOne f (set entry n v) m (coefficient f n)
less_one-more f entry n m before v e is inside made = rw e record {
  done = λ k l. ⊎_elim
      (λ (less : k < n). get_or-set_other entry n k v (pos 0) (omega (arith, less)) ∙ is.done k less)
      (λ (from : n ≤ k). here k (omega (arith, from, l)))
      (cases_lt k n);
  rest = λ k l. get_or-set_other entry n k v (pos 0) (omega (arith, l)) ∙ is.rest k (omega (arith, l));
  last = refl;
}
  where
    here : (k : ℕ) → k ≡ n → coefficient (set entry n v) k ≡ times_q_less_one (coefficient f) k
    here k at = rw at (get_or-set_same entry n v (pos 0) inside ∙ made ∙ ap (λ (a : ℤ). a -ℤ coefficient f n) is.last)

-- the last one has the leading coefficient of f
pub less_one-all : (f entry : List ℤ) (before : ℤ) → IsLessOne f entry (length f) before → length f < length entry → (k : ℕ)
    → coefficient (set entry (length f) before) k ≡ times_q_less_one (coefficient f) k
less_one-all f entry before is inside k = ⊎_elim
    (λ (l : k < suc (length f)). whole.done k l)
    (λ (l : suc (length f) ≤ k). whole.rest k l ∙ sym (past k l))
    (cases_lt k (suc (length f)))
  where
    whole : IsLessOne f (set entry (length f) before) (suc (length f)) (coefficient f (length f))
    whole = less_one-more f entry (length f) (suc (length f)) before before refl is inside
        (omega (arith, ints, coefficient_past f (length f) (omega arith)))

    past : (k : ℕ) → suc (length f) ≤ k → times_q_less_one (coefficient f) k ≡ pos 0
    past zero l = absurd (omega (arith, l))
    past (suc k) l = omega (arith, ints, coefficient_past f k (omega (arith, l)), coefficient_past f (suc k) (omega (arith, l)))

-- one time q h more
pub times_q-added : (old h : List ℤ) (k : ℕ) → coefficient_after old h (pos 1) 1 k ≡ plus (coefficient old) (times_q (coefficient h)) k
times_q-added old h k = omega (arith, ints, ap (λ (g : Coefficients). g k) (times_q_power-one (coefficient h)))

-- without f and h there is nothing
pub nothing-combined : (f h : List ℤ) → length f ≡ 0 → length h ≡ 0 → (k : ℕ)
    → coefficient [] k ≡ plus (times_q_less_one (coefficient f)) (times_q (coefficient h)) k
nothing-combined [] [] e m zero = refl
nothing-combined [] [] e m (suc k) = refl
nothing-combined [] (c ∷ h) e m k = absurd (omega (arith, m))
nothing-combined (c ∷ f) h e m k = absurd (omega (arith, e))

-- (q - 1) f has at most twice as large coefficients
pub less_one-size : (f : List ℤ) → ((k : ℕ) → unsigned_abs (coefficient f k) ≤ 2 ^ 61) → (k : ℕ)
    → unsigned_abs (times_q_less_one (coefficient f) k) ≤ 2 ^ 62
less_one-size f small zero = omega (arith, ints, small 0)
less_one-size f small (suc k) = omega (arith, ints, small k, small (suc k))

-- so no difference needs more than 64 bits
pub less_one-fits : (f entry : List ℤ) (n : ℕ) (before : ℤ) → IsLessOne f entry n before
    → ((k : ℕ) → unsigned_abs (coefficient f k) ≤ 2 ^ 61) → FitsSigned w64 (before -ℤ coefficient f n)
less_one-fits f entry n before is small =
    fits_signed_from_abs w64 (before -ℤ coefficient f n) (rw is.last (omega (arith, less_one-size f small n)))

-- nor does a sum
pub times_q-fits : (old new h : List ℤ) (n : ℕ) → Added old new h (pos 1) 1 n → ((k : ℕ) → unsigned_abs (coefficient old k) ≤ 2 ^ 62)
    → ((k : ℕ) → unsigned_abs (coefficient h k) ≤ 2 ^ 61) → FitsSigned w64 (coefficient new (1 + n) +ℤ coefficient h n)
times_q-fits old new h n added room small = fits_signed_from_abs w64 (coefficient new (1 + n) +ℤ coefficient h n)
    (rw (added.rest (1 + n) (omega arith)) (omega (arith, ints, room (1 + n), small n)))
