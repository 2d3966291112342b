-- For code: a polynomial of which the first terms are read.
use Rattle.std.proofs.Common.{◌≡◌, ◌≢◌, ℕ, zero, suc, ◌+◌, ◌-◌, ◌<◌, ◌≤◌, ◌==◌, Bool, true, false, List, [], ◌∷◌, ◌++◌}
use Rattle.std.proofs.Common.{codes, length, take, drop, replicate}
use Rattle.std.proofs.Common.{◌⊎◌, IfOk, Result, Ok, Err, subst, ℤ, pos, FitsSigned, w64, refl, sym, ap, ◌∙◌, inl, inr}
use Rattle.std.proofs.Common.{append_assoc, append-nil, arith}
use Rattle.std.specs.List.{position_or_len}
use Rattle.std.proofs.lemmas.Bool.{cases_lt, ne_eqb, true≢false, false≢true}
use Rattle.std.proofs.lemmas.List.{get_or_append_left, get_or_at, length-append, length-replicate, take-append-drop}
use Rattle.cox_poly.specs.Polynomial.{coefficient, IsPolynomial, HasDegreeBelow}
use Rattle.cox_poly.specs.PolynomialText.{terms, terms_text, polynomial_text}
use Rattle.cox_poly.specs.ListedText.{listed_term_text}
use Rattle.cox_polyread.specs.ReadNumerals.{value_of, is_short_numeral}
use Rattle.cox_polyread.specs.PolynomialReading.{IsPolynomialText, IsTextOf, IsTextOfLarge, Fits, is_sign, signed, IsTerm, IsNoTerm}
use Rattle.cox_polyread.specs.declared.text_fault.TextFault.{TextFault}
use Rattle.cox_polyread.specs.declared.text_fault.TextFault.TheVariants.{NotAPolynomial, TooLarge, NoMemory}
use Rattle.cox_poly.proofs.Polynomials.{coefficient_past, same_polynomial}
use Rattle.cox_polyread.proofs.ReadNumerals.{value_of-above}
use Rattle.cox_polyread.proofs.Splits.{Begins, before-not, behind-begins}
use Rattle.cox_polyread.proofs.TermTexts.{signed-some, IsPiece, listed_term_text-piece, listed_term_text-one, piece-one}
use Rattle.cox_polyread.proofs.JoinedTerms.{joined, is_none, first_behind, AreSome, end_of, joined-push, end_of-push, is_none-push}
use Rattle.cox_polyread.proofs.JoinedTerms.{AreRising-end, AreSome-at, AreSome-behind, joined-begins, joined-behind}
use Rattle.cox_polyread.proofs.JoinedTerms.{not_empty, terms_text-joined}
use Rattle.cox_polyread.proofs.JoinedTerms.{terms_from-some, terms_from-rising, terms_from-push, polynomial_text-one}

-- a polynomial with one more term, above all others
abbrev pub grown : List ℤ → ℕ → ℤ → List ℤ
grown p j c = p ++ (replicate (j - length p) (pos 0) ++ c ∷ [])

length-grown : (p : List ℤ) (j : ℕ) (c : ℤ) → length p ≤ j → length (grown p j c) ≡ j + 1
length-grown p j c room =
    let n = j - length p in
    omega (arith, length-append p (replicate n (pos 0) ++ c ∷ []), length-append (replicate n (pos 0)) (c ∷ []), length-replicate n (pos 0))

coefficient-grown : (p : List ℤ) (j : ℕ) (c : ℤ) → length p ≤ j → coefficient (grown p j c) j ≡ c
coefficient-grown p j c room =
    let n = j - length p in
    let zeros = replicate n (pos 0) in
    ap (λ l. coefficient l j) (sym (append_assoc p zeros (c ∷ [])))
    ∙ get_or_at (p ++ zeros) c [] (pos 0) j (omega (arith, length-append p zeros, length-replicate n (pos 0)))

coefficient-grown_below : (p : List ℤ) (j : ℕ) (c : ℤ) (k : ℕ) → k < length p → coefficient (grown p j c) k ≡ coefficient p k
coefficient-grown_below p j c k below = get_or_append_left p (replicate (j - length p) (pos 0) ++ c ∷ []) (pos 0) k below

IsPolynomial-grown : (p : List ℤ) (j : ℕ) (c : ℤ) → length p ≤ j → c ≢ pos 0 → IsPolynomial (grown p j c)
IsPolynomial-grown p j c room some full =
    let last : length (grown p j c) - 1 ≡ j = omega (arith, length-grown p j c room) in
    rw (last, coefficient-grown p j c room) some

terms-grown : (p : List ℤ) (j : ℕ) (c : ℤ) → length p ≤ j → c ≢ pos 0 → terms (grown p j c) ≡ terms p ++ (j, c) ∷ []
terms-grown p j c room some = terms_from-push p (j - length p) 0 j c some (omega arith)

-- it fits where the polynomial and the term do
fits-zero : FitsSigned w64 (pos 0)
fits-zero = record { sfits = omega arith }

Fits-grown : (most : ℕ) (p : List ℤ) (j : ℕ) (c : ℤ) → length p ≤ j → Fits most p → j ≤ most → FitsSigned w64 c → Fits most (grown p j c)
Fits-grown most p j c room fits within c_fits = record {
  degree = λ k above. coefficient_past (grown p j c) k (omega (arith, length-grown p j c room));
  coefficients = at;
}
  where
    between : (n k : ℕ) → FitsSigned w64 (coefficient (replicate n (pos 0) ++ c ∷ []) k)
    between zero zero = c_fits
    between zero (suc k) = fits-zero
    between (suc n) zero = fits-zero
    between (suc n) (suc k) = between n k

    behind : (p : List ℤ) (n k : ℕ) → ((k : ℕ) → FitsSigned w64 (coefficient p k))
        → FitsSigned w64 (coefficient (p ++ (replicate n (pos 0) ++ c ∷ [])) k)
    behind [] n k all = between n k
    behind (d ∷ p) n zero all = all 0
    behind (d ∷ p) n (suc k) all = behind p n k (λ i. all (suc i))

    at : (k : ℕ) → FitsSigned w64 (coefficient (grown p j c) k)
    at k = behind p (j - length p) k fits.coefficients

Fits-before : (most : ℕ) (p : List ℤ) (j : ℕ) (c : ℤ) → Fits most (grown p j c) → Fits most p
Fits-before most p j c fits = record { degree = degree; coefficients = at }
  where
    degree : HasDegreeBelow p (most + 1)
    degree k above = elim (cases_lt k (length p)) [
      | inl below ↦ sym (coefficient-grown_below p j c k below) ∙ fits.degree k above
      | inr past ↦ coefficient_past p k past
    ]

    at : (k : ℕ) → FitsSigned w64 (coefficient p k)
    at k = elim (cases_lt k (length p)) [
      | inl below ↦ rw (coefficient-grown_below p j c k below) at (fits.coefficients k)
      | inr past ↦ rw (coefficient_past p k past) fits-zero
    ]

Fits-term : (most : ℕ) (p : List ℤ) (j : ℕ) (c : ℤ) → length p ≤ j → c ≢ pos 0 → Fits most (grown p j c) → (j ≤ most) × FitsSigned w64 c
Fits-term most p j c room some fits = (within, rw (coefficient-grown p j c room) at (fits.coefficients j))
  where
    within : j ≤ most
    within = elim (cases_lt most j) [
      | inl above ↦ absurd (some (sym (coefficient-grown p j c room) ∙ fits.degree j (omega arith)))
      | inr below ↦ below
    ]

-- these terms of the text are read, and the rest is left
pub record IsRead (most : ℕ) (text rest : List ℕ) (first : Bool) (last : List ℕ) (fits : Bool) (coefficients : List ℤ) : Type 0 where
  pub polynomial : List ℤ
  pub normal : IsPolynomial polynomial
  pub parts : text ≡ joined true (terms polynomial) ++ rest
  pub first_is : first ≡ is_none (terms polynomial)
  pub begins : first ≡ false → Begins is_sign rest
  pub size : length polynomial ≡ end_of 0 (terms polynomial)
  pub digits : is_short_numeral last ≡ true
  pub last_is : first ≡ false → length polynomial ≡ value_of last + 1
  pub held : fits ≡ true → coefficients ≡ polynomial
  pub small : fits ≡ true → Fits most polynomial
  pub lost : fits ≡ false → Fits most polynomial → ⊥

length-first : (ts : List (ℕ × ℤ)) → is_none ts ≡ true → end_of 0 ts ≡ 0
length-first [] none = refl
length-first (t ∷ ts) none = absurd (false≢true none)

first_behind-is_none : (ts : List (ℕ × ℤ)) → first_behind true ts ≡ is_none ts
first_behind-is_none [] = refl
first_behind-is_none (t ∷ ts) = refl

-- the next term has room behind the others
pub IsRead-room : {most : ℕ} {text rest : List ℕ} (first : Bool) (last degree : List ℕ) {fits : Bool} {coefficients : List ℤ}
    → (r : IsRead most text rest first last fits coefficients) → (first ≡ false → value_of last < value_of degree)
    → length r.polynomial ≤ value_of degree
IsRead-room true last degree r rising = omega (arith, r.size, length-first (terms r.polynomial) (sym r.first_is))
IsRead-room false last degree r rising = omega (arith, r.last_is refl, rising refl)

-- it is read, too; whether it fits or not
IsRead-more : {most : ℕ} {text rest : List ℕ} {first : Bool} {last : List ℕ} {fits : Bool} {coefficients : List ℤ}
    (piece behind : List ℕ) (negative : Bool) (size degree : List ℕ) (fits' : Bool) (coefficients' : List ℤ)
    → (r : IsRead most text rest first last fits coefficients) → rest ≡ piece ++ behind → Begins is_sign behind
    → IsTerm first negative size degree piece → length r.polynomial ≤ value_of degree
    → (fits' ≡ true → coefficients' ≡ grown r.polynomial (value_of degree) (signed negative (value_of size)))
    → (fits' ≡ true → Fits most (grown r.polynomial (value_of degree) (signed negative (value_of size))))
    → (fits' ≡ false → Fits most (grown r.polynomial (value_of degree) (signed negative (value_of size))) → ⊥)
    → IsRead most text behind false degree fits' coefficients'
IsRead-more {most} {text} {rest} {first} piece behind negative size degree fits' coefficients' r split begins term room held small lost =
    let p = r.polynomial in
    let j = value_of degree in
    let c = signed negative (value_of size) in
    let some = signed-some negative (value_of size) (value_of-above size term.size_digits) in
    let ts = terms-grown p j c room some in
    let flag : first_behind true (terms p) ≡ first = first_behind-is_none (terms p) ∙ sym r.first_is in
    let texts : joined true (terms (grown p j c)) ≡ joined true (terms p) ++ piece =
    ap (joined true) ts ∙ joined-push true (terms p) (j, c)
    ∙ ap (λ b. joined true (terms p) ++ listed_term_text b (j, c)) flag ∙ ap (λ text. joined true (terms p) ++ text) term.written in
    record {
      polynomial = grown p j c;
      normal = IsPolynomial-grown p j c room some;
      parts = r.parts ∙ ap (λ text. joined true (terms p) ++ text) split ∙ sym (append_assoc (joined true (terms p)) piece behind)
          ∙ ap (λ text. text ++ behind) (sym texts);
      first_is = sym (ap is_none ts ∙ is_none-push (terms p) (j, c));
      begins = λ _. begins;
      size = length-grown p j c room ∙ sym (ap (end_of 0) ts ∙ end_of-push 0 (terms p) (j, c));
      digits = term.degree_digits;
      last_is = λ _. length-grown p j c room;
      held = held;
      small = small;
      lost = lost;
    }

pub IsRead-fitting : {most : ℕ} {text rest : List ℕ} {first : Bool} {last : List ℕ} {fits : Bool} {coefficients : List ℤ}
    (piece behind : List ℕ) (negative : Bool) (size degree : List ℕ) (k : ℕ) (c : ℤ) (coefficients' : List ℤ)
    → (r : IsRead most text rest first last fits coefficients) → rest ≡ piece ++ behind → Begins is_sign behind
    → IsTerm first negative size degree piece → length r.polynomial ≤ value_of degree → fits ≡ true
    → k ≡ value_of degree → k ≤ most → c ≡ signed negative (value_of size) → FitsSigned w64 c → coefficients' ≡ grown coefficients k c
    → IsRead most text behind false degree true coefficients'
IsRead-fitting {most} piece behind negative size degree k c coefficients' r split begins term room so_far k_is within c_is c_fits more =
    let p = r.polynomial in
    let whole : coefficients' ≡ grown p (value_of degree) (signed negative (value_of size)) =
    more ∙ ap (λ l. grown l k c) (r.held so_far) ∙ ap (λ j. grown p j c) k_is ∙ ap (grown p (value_of degree)) c_is in
    let low : value_of degree ≤ most = omega (arith, k_is) in
    IsRead-more piece behind negative size degree true coefficients' r split begins term room (λ _. whole)
    (λ _. Fits-grown most p (value_of degree) (signed negative (value_of size)) room (r.small so_far) low
    (subst (FitsSigned w64) c_is c_fits))
    (λ e. absurd (true≢false e))

pub IsRead-lost : {most : ℕ} {text rest : List ℕ} {first : Bool} {last : List ℕ} {fits : Bool} {coefficients : List ℤ}
    (piece behind : List ℕ) (negative : Bool) (size degree : List ℕ)
    → (r : IsRead most text rest first last fits coefficients) → rest ≡ piece ++ behind → Begins is_sign behind
    → IsTerm first negative size degree piece → length r.polynomial ≤ value_of degree → fits ≡ false
    → IsRead most text behind false degree false coefficients
IsRead-lost {most} {coefficients = coefficients} piece behind negative size degree r split begins term room so_far =
    IsRead-more piece behind negative size degree false coefficients r split begins term room (λ e. absurd (false≢true e))
    (λ e. absurd (false≢true e))
    (λ _ fits. r.lost so_far (Fits-before most r.polynomial (value_of degree) (signed negative (value_of size)) fits))

pub IsRead-large : {most : ℕ} {text rest : List ℕ} {first : Bool} {last : List ℕ} {fits : Bool} {coefficients : List ℤ}
    (piece behind : List ℕ) (negative : Bool) (size degree : List ℕ)
    → (r : IsRead most text rest first last fits coefficients) → rest ≡ piece ++ behind → Begins is_sign behind
    → IsTerm first negative size degree piece → length r.polynomial ≤ value_of degree
    → (value_of degree ≤ most → FitsSigned w64 (signed negative (value_of size)) → ⊥)
    → IsRead most text behind false degree false coefficients
IsRead-large {most} {text} {rest} {first} {last} {fits} {coefficients} piece behind negative size degree r split begins term room large =
    let some = signed-some negative (value_of size) (value_of-above size term.size_digits) in
    IsRead-more piece behind negative size degree false coefficients r split begins term room (λ e. absurd (false≢true e))
    (λ e. absurd (false≢true e))
    (λ _ (small : Fits most (grown r.polynomial (value_of degree) (signed negative (value_of size)))).
    let parts = Fits-term most r.polynomial (value_of degree) (signed negative (value_of size)) room some small in large parts.0 parts.1)

-- the first piece of the rest, and what stands behind it
piece-first : (first : Bool) (rest : List ℕ) (n : ℕ) → 0 < length rest → n ≡ 1 + position_or_len is_sign (drop 1 rest)
    → (first ≡ false → Begins is_sign rest) → IsPiece first (take n rest)
piece-first first [] n some count begins = absurd (omega arith)
piece-first first (x ∷ xs) n some count begins =
    let next : n ≡ suc (position_or_len is_sign xs) = count ∙ omega arith in
    rw next (record {
      byte = x;
      rest = take (position_or_len is_sign xs) xs;
      is = refl;
      inner = before-not is_sign xs;
      begins = begins;
    })

behind-first : (rest : List ℕ) (n : ℕ) → 0 < length rest → n ≡ 1 + position_or_len is_sign (drop 1 rest) → Begins is_sign (drop n rest)
behind-first [] n some count = absurd (omega arith)
behind-first (x ∷ xs) n some count =
    let next : n ≡ suc (position_or_len is_sign xs) = count ∙ omega arith in rw next (behind-begins is_sign xs)

-- the rest is this piece and what stands behind it
pub record IsFirst (first : Bool) (rest piece behind : List ℕ) : Type 0 where
  pub split : rest ≡ piece ++ behind
  pub piece_is : IsPiece first piece
  pub begins : Begins is_sign behind

pub first-piece : (first : Bool) (rest piece behind : List ℕ) (n : ℕ) → 0 < length rest → n ≡ 1 + position_or_len is_sign (drop 1 rest)
    → piece ≡ take n rest → behind ≡ drop n rest → (first ≡ false → Begins is_sign rest) → IsFirst first rest piece behind
first-piece first rest piece behind n some count front back begins = record {
  split = sym (take-append-drop n rest) ∙ ap (λ l. l ++ drop n rest) (sym front) ∙ ap (λ l. piece ++ l) (sym back);
  piece_is = subst (IsPiece first) (sym front) (piece-first first rest n some count begins);
  begins = subst (Begins is_sign) (sym back) (behind-first rest n some count);
}

-- a polynomial with the whole text has a next term, of which the piece is the text
record HasNext (p q : List ℤ) (first : Bool) (piece : List ℕ) : Type 0 where
  term : ℕ × ℤ
  more : List (ℕ × ℤ)
  whole : terms q ≡ terms p ++ term ∷ more
  some : term.1 ≢ pos 0
  written : piece ≡ listed_term_text first term

has_terms : (q : List ℤ) (text : List ℕ) → polynomial_text q ≡ text → text ≢ codes "0" → joined true (terms q) ≡ text
has_terms q text same other = go (terms q) same
  where
    go : (ts : List (ℕ × ℤ)) → terms_text ts ≡ text → joined true ts ≡ text
    go [] e = absurd (other (sym e))
    go (t ∷ ts) e = sym (terms_text-joined (t ∷ ts) refl) ∙ e

has_next : {most : ℕ} {text rest : List ℕ} {first : Bool} {last : List ℕ} {fits : Bool} {coefficients : List ℤ}
    (piece behind : List ℕ) (q : List ℤ)
    → (r : IsRead most text rest first last fits coefficients) → rest ≡ piece ++ behind → IsPiece first piece → Begins is_sign behind
    → text ≢ codes "0" → polynomial_text q ≡ text → HasNext r.polynomial q first piece
has_next {most} {text} {rest} {first} piece behind q r split piece_is begins other same =
    let p = r.polynomial in
    let all = has_terms q text same other in
    let found = joined-behind true (terms p) (terms q) rest (terms_from-some 0 p) (terms_from-some 0 q)
    (λ e. r.begins (r.first_is ∙ e)) (sym r.parts ∙ sym all) in
    let flag : first_behind true (terms p) ≡ first = first_behind-is_none (terms p) ∙ sym r.first_is in
    go found.more found.whole (sym split ∙ found.text ∙ ap (λ b. joined b found.more) flag)
  where
    go : (more : List (ℕ × ℤ)) → terms q ≡ terms r.polynomial ++ more → piece ++ behind ≡ joined first more
        → HasNext r.polynomial q first piece
    go [] whole text = let e = piece_is.is in absurd (nothing piece_is.byte piece_is.rest (rw e at text))
      where
        nothing : (x : ℕ) (xs : List ℕ) → x ∷ (xs ++ behind) ≡ [] → ⊥
        nothing x xs e = cc
    go (t ∷ more) whole text =
        let q_some = rw whole at (terms_from-some 0 q) in
        let t_some = AreSome-at (terms r.polynomial) t more q_some in
        let later = AreSome-behind (terms r.polynomial) (t ∷ more) q_some in
        let same = piece-one first piece (listed_term_text first t) behind (joined false more) piece_is
        (listed_term_text-piece first t t_some) begins (joined-begins more later.1) text in
        record { term = t; more = more; whole = whole; some = t_some; written = same.front }

-- so where the piece is no term, or its degree is not above the last one, there is none
pub IsRead-foreign : {most : ℕ} {text rest : List ℕ} {first : Bool} {last : List ℕ} {fits : Bool} {coefficients : List ℤ}
    (piece behind : List ℕ)
    → IsRead most text rest first last fits coefficients → rest ≡ piece ++ behind → IsPiece first piece → Begins is_sign behind
    → text ≢ codes "0" → IsNoTerm first piece → IsPolynomialText text → ⊥
IsRead-foreign piece behind r split piece_is begins other none (q, same) =
    let next = has_next piece behind q r split piece_is begins other same in
    none next.term next.some (sym next.written)

pub IsRead-falling : {most : ℕ} {text rest last : List ℕ} {fits : Bool} {coefficients : List ℤ}
    (piece behind : List ℕ) (negative : Bool) (size degree : List ℕ)
    → IsRead most text rest false last fits coefficients → rest ≡ piece ++ behind → IsPiece false piece → Begins is_sign behind
    → text ≢ codes "0" → IsTerm false negative size degree piece → value_of degree ≤ value_of last → IsPolynomialText text → ⊥
IsRead-falling piece behind negative size degree r split piece_is begins other term falling (q, same) =
    let next = has_next piece behind q r split piece_is begins other same in
    let some = signed-some negative (value_of size) (value_of-above size term.size_digits) in
    let one = listed_term_text-one false next.term (value_of degree, signed negative (value_of size)) next.some some
    (sym next.written ∙ sym term.written) in
    let end = AreRising-end 0 (terms r.polynomial) next.term next.more (rw next.whole at (terms_from-rising 0 q)) in
    let degrees : next.term.0 ≡ value_of degree = ap (λ (t : ℕ × ℤ). t.0) one in
    omega (arith, end, degrees, r.size, r.last_is refl)

-- for code: nothing is left
pub none-left : (rest : List ℕ) (test : Bool) → test ≡ (length rest == 0) → test ≡ true → rest ≡ []
none-left [] test is none = refl
none-left (x ∷ rest) test is none =
    let some = ne_eqb (suc (length rest)) 0 (λ (e : suc (length rest) ≡ 0). omega arith) in absurd (false≢true (sym some ∙ sym is ∙ none))

-- the empty text is that of none
pub none-empty : IsPolynomialText [] → ⊥
none-empty (q, same) = go (terms q) (terms_from-some 0 q) same
  where
    go : (ts : List (ℕ × ℤ)) → AreSome ts → terms_text ts ≡ [] → ⊥
    go [] some e = cc
    go (t ∷ ts) some e = not_empty true t (joined false ts) some.0 (sym (terms_text-joined (t ∷ ts) refl) ∙ e)

pub IsRead-empty : {most : ℕ} {text rest last : List ℕ} {fits : Bool} {coefficients : List ℤ}
    → IsRead most text rest true last fits coefficients → rest ≡ [] → IsPolynomialText text → ⊥
IsRead-empty {most} {text} {rest} r none is = none-empty (rw whole at is)
  where
    nothing : (ts : List (ℕ × ℤ)) → is_none ts ≡ true → joined true ts ≡ []
    nothing [] e = refl
    nothing (t ∷ ts) e = absurd (false≢true e)

    whole : text ≡ []
    whole = r.parts ∙ ap (λ text. text ++ rest) (nothing (terms r.polynomial) (sym r.first_is)) ∙ none

-- all is read
pub IsRead-whole : {most : ℕ} {text rest last : List ℕ} {fits : Bool} {coefficients : List ℤ}
    → (r : IsRead most text rest false last fits coefficients) → rest ≡ [] → IsTextOf r.polynomial text
IsRead-whole {most} {text} {rest} r none = record {
  normal = r.normal;
  written = terms_text-joined (terms r.polynomial) (sym r.first_is) ∙ sym (append-nil (joined true (terms r.polynomial)))
      ∙ ap (λ rest. joined true (terms r.polynomial) ++ rest) (sym none) ∙ sym r.parts;
}

pub IsRead-large_whole : {most : ℕ} {text rest last : List ℕ} {coefficients : List ℤ}
    → IsRead most text rest false last false coefficients → rest ≡ [] → IsTextOfLarge most text
IsRead-large_whole r none = (r.polynomial, IsRead-whole r none, r.lost refl)

-- a polynomial that has the text and fits is the answer
pub read-again : (most : ℕ) (text : List ℕ) (result : Result (List ℤ) TextFault) → IfOk result (λ p. IsTextOf p text)
    → (result ≡ Err NotAPolynomial → IsPolynomialText text → ⊥) → (result ≡ Err TooLarge → IsTextOfLarge most text)
    → (p : List ℤ) → IsTextOf p text → Fits most p → (result ≡ Ok p) ⊎ (result ≡ Err NoMemory)
read-again most text (Ok q) read foreign large p is fits =
    let same : q ≡ p = same_polynomial q p read.normal is.normal (polynomial_text-one q p (read.written ∙ sym is.written)) in
    inl (rw same refl)
read-again most text (Err NotAPolynomial) read foreign large p is fits = absurd (foreign refl (p, is.written))
read-again most text (Err TooLarge) read foreign large p is fits =
    let found = large refl in
    let q = found.0 in
    let same = same_polynomial q p found.1.normal is.normal (polynomial_text-one q p (found.1.written ∙ sym is.written)) in
    absurd (found.2 (subst (Fits most) (sym same) fits))
read-again most text (Err NoMemory) read foreign large p is fits = inr refl
