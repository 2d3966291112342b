-- The text of a polynomial, written term by term.
use Rattle.std.proofs.Common.{◌≡◌, ◌≢◌, ℕ, zero, suc, ◌+◌, ◌<◌, ◌≤◌, Bool, true, false, not, List, ◌∷◌, ◌++◌, length, drop, filter}
use Rattle.std.proofs.Common.{flat_map, codes, refl, ap, append_assoc, length-append, add-one, arith}
use Rattle.std.proofs.Common.{ℤ, pos, negsuc, Result, sym, ◌∙◌, append-nil}
use Rattle.std.specs.Ordering.{int_eq}
use Rattle.std.specs.List.{enumerate_from}
use Rattle.std.proofs.Math.Seq.{drop-cons}
use Rattle.std.proofs.lemmas.List.{drop_all}
use Rattle.std.proofs.lemmas.Bool.Decides.{nat_tests}
use Rattle.cox_poly.specs.Polynomial.{coefficient}
use Rattle.std.specs.declared.alloc.AllocError.{AllocError}
use Rattle.cox_poly.specs.Puts.{PutsPrefix, Puts}
use Rattle.cox_poly.specs.PolynomialText.{next_term_text, terms_text}
use Rattle.cox_poly.specs.ListedText.{listed_term_text}
use Rattle.cox_poly.proofs.Behind.{PutsPrefix-first, PutsPrefix-second, Puts-second, append-second}

-- the terms from degree k on
abbrev pub terms_from : ℕ → List ℤ → List (ℕ × ℤ)
terms_from k p = filter (λ t. not (int_eq t.1 (pos 0))) (enumerate_from k p)

-- the text of what is left, where nothing is written yet or where something is
abbrev pub rest_text : Bool → List (ℕ × ℤ) → List ℕ
rest_text true ts = terms_text ts
rest_text false ts = flat_map next_term_text ts

-- a prefix of the text was put behind what was there: all but this rest
pub record Written (old out text rest : List ℕ) : Type 0 where
  pub prefix : List ℕ
  pub parts : text ≡ prefix ++ rest
  pub behind : out ≡ old ++ prefix

-- and then a prefix of the next piece
pub Written-prefix : {old out text rest : List ℕ} (new piece rest' : List ℕ)
    → Written old out text rest → PutsPrefix piece out new → rest ≡ piece ++ rest' → PutsPrefix text old new
Written-prefix {old} {out} new piece rest' w put split =
    rw (w.parts, split) (PutsPrefix-second w.prefix (piece ++ rest') old out new w.behind (PutsPrefix-first piece rest' out new put))

-- and then the next piece
pub Written-more : {old out text rest : List ℕ} (new piece rest' : List ℕ)
    → Written old out text rest → new ≡ out ++ piece → rest ≡ piece ++ rest' → Written old new text rest'
Written-more {old} {out} new piece rest' w put split = record {
  prefix = w.prefix ++ piece;
  parts = let e = w.parts in let f = append_assoc w.prefix piece rest' in cc;
  behind = append-second w.prefix piece old out new w.behind put;
}

-- a vector that has no room for the next piece had none for the text
pub Written-full : {old out text rest : List ℕ} (capacity : ℕ) (piece rest' : List ℕ)
    → Written old out text rest → rest ≡ piece ++ rest' → capacity < length out + length piece → capacity < length old + length text
Written-full {old} {out} {text} {rest} capacity piece rest' w split full = omega (
  arith,
  full,
  ap (λ (l : List ℕ). length l) w.parts,
  ap (λ (l : List ℕ). length l) w.behind,
  ap (λ (l : List ℕ). length l) split,
  length-append w.prefix rest,
  length-append old w.prefix,
  length-append piece rest',
)

-- the coefficients from k on are the one at k and those from k + 1 on
drop-step : (p : List ℤ) (k : ℕ) → k < length p → drop k p ≡ coefficient p k ∷ drop (k + 1) p
drop-step p k h = rw add-one (drop-cons p k (pos 0) h)

-- a zero coefficient has no term
terms_from-skip : (p : List ℤ) (k : ℕ) → k < length p → coefficient p k ≡ pos 0 → terms_from k (drop k p)
    ≡ terms_from (k + 1) (drop (k + 1) p)
terms_from-skip p k h e = rw (drop-step p k h, e) refl

pub Written-zero : {old out text : List ℕ} (p : List ℤ) (k : ℕ) (first : Bool) → k < length p → coefficient p k ≡ pos 0
    → Written old out text (rest_text first (terms_from k (drop k p)))
    → Written old out text (rest_text first (terms_from (k + 1) (drop (k + 1) p)))
Written-zero p k first h e w = rw (terms_from-skip p k h e) at w

pub int_eq-zero : (c : ℤ) → c ≢ pos 0 → int_eq c (pos 0) ≡ false
int_eq-zero (pos zero) h = absurd (h refl)
int_eq-zero (pos (suc n)) h = grind (arith, nat_tests)
int_eq-zero (negsuc n) h = refl

rest_text-cons : (first : Bool) (t : ℕ × ℤ) (ts : List (ℕ × ℤ)) → rest_text first (t ∷ ts) ≡ listed_term_text first t ++ rest_text false ts
rest_text-cons true t ts = refl
rest_text-cons false t ts = refl

-- another one has
pub rest_text-term : (p : List ℤ) (k : ℕ) (first : Bool) → k < length p → coefficient p k ≢ pos 0
    → rest_text first (terms_from k (drop k p))
    ≡ listed_term_text first (k, coefficient p k) ++ rest_text false (terms_from (k + 1) (drop (k + 1) p))
rest_text-term p k first h e =
    rw (drop-step p k h, int_eq-zero (coefficient p k) e) (rest_text-cons first (k, coefficient p k) (terms_from (k + 1) (drop (k + 1) p)))

-- the text where there is no term
pub rest_text-zero : (p : List ℤ) (k : ℕ) (first : Bool) → first ≡ true → length p ≤ k → rest_text first (terms_from k (drop k p))
    ≡ codes "0"
rest_text-zero p k first none past = rw (none, drop_all k p past) refl

-- and then the last piece
pub Written-last : {old out text rest : List ℕ} (result : Result Unit AllocError) (new piece : List ℕ) → Written old out text rest
    → rest ≡ piece → Puts result piece out new → Puts result text old new
Written-last {old} {out} result new piece w is put = rw (w.parts, is) (Puts-second result w.prefix piece old out new w.behind put)

-- where some terms are written and none is left, all of the text is
pub Written-all : {old out text : List ℕ} (p : List ℤ) (k : ℕ) (first : Bool) → first ≡ false → length p ≤ k
    → Written old out text (rest_text first (terms_from k (drop k p))) → out ≡ old ++ text
Written-all {old} {out} {text} p k first some past w =
    let none = rw (some, drop_all k p past) at w.parts in
    w.behind ∙ ap (λ l. old ++ l) (sym (none ∙ append-nil w.prefix))
