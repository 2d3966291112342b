-- Each line of a certificate is made of bytes that may stand in a line, whatever the size of its polynomials.
use Rattle.std.proofs.Common.{◌≡◌, ℕ, zero, suc, ◌+◌, ◌%◌, ◌/◌, ◌<◌, ◌≤◌, true, false, Bool, cond, List, [], ◌∷◌, ◌++◌, length, map}
use Rattle.std.proofs.Common.{ℤ, pos, negsuc}
use Rattle.std.proofs.Common.{codes, decimal, nat_lt, eqb, refl, arith}
use Rattle.std.specs.Prelude.{int_lt}
use Rattle.std.specs.Ordering.{int_eq}
use Rattle.std.specs.List.{All, flat_map}
use Rattle.std.proofs.lemmas.Bool.Decides.{nat_tests}
use Rattle.std.proofs.lemmas.List.Elements.{All-nil, All-cons, All-append, All-head, All-tail}
use Rattle.std.proofs.lemmas.Fmt.{decimal_injective}
use Rattle.std.proofs.lemmas.List.{append_cancel_left}
use Rattle.cox_base.specs.declared.limits.TheConstants.{MAX_RANK}
use Rattle.cox_base.specs.WordText.{word_text}
use Rattle.cox_poly.specs.Numerals.{digits_below, number_text, integer_text}
use Rattle.cox_poly.specs.PolynomialText.{power_text, factor_text, term_text, plus_text, next_term_text, terms_text, terms, polynomial_text}
use Rattle.cox_polyread.proofs.Splits.{AreNot, AreNot-append}
use Rattle.cox_tokens.specs.Line.{is_foreign}
use Rattle.cox_certtext.specs.declared.limits.TheConstants.{MAX_LISTED}
use Rattle.cox_certtext.specs.Certificate.{Certificate, IsCertificate, IsTextEntry, matrix_line, top_line, count_line, entry_line, end_line}
use Rattle.cox_certtext.specs.Certificate.{certificate_lines}
use Rattle.cox_cert.proofs.Accepted.{matrix_line-plain, top_line-plain, count_line-plain, end_line-plain, short_word-plain}

-- ---- the text of a polynomial of any size

abbrev IsPlain : List ℕ → Type 0
IsPlain text = AreNot is_foreign text

digit-plain : (d : ℕ) → d < 10 → is_foreign (48 + d) ≡ false
digit-plain d low = grind (arith, nat_tests)

digits-plain : (bound n : ℕ) → IsPlain (digits_below bound n)
digits-plain zero n = tt
digits-plain (suc bound) n =
    by_size (nat_lt n 10) refl
    (AreNot-append is_foreign (digits_below bound (n / 10)) ((48 + n % 10) ∷ []) (digits-plain bound (n / 10))
    (digit-plain (n % 10) (omega arith), tt))
  where
    by_size : (b : Bool) → nat_lt n 10 ≡ b → IsPlain (digits_below bound (n / 10) ++ (48 + n % 10) ∷ [])
        → IsPlain (cond b ((48 + n) ∷ []) (digits_below bound (n / 10) ++ (48 + n % 10) ∷ []))
    by_size true small more = let low : n < 10 = grind (arith, nat_tests) in (digit-plain n low, tt)
    by_size false large more = more

number-plain : (n : ℕ) → IsPlain (number_text n)
unfolding number_text
number-plain n = digits-plain (suc n) n

integer-plain : (c : ℤ) → IsPlain (integer_text c)
integer-plain (pos n) = number-plain n
integer-plain (negsuc n) = (refl, number-plain (suc n))

choice-plain : (b : Bool) (xs ys : List ℕ) → IsPlain xs → IsPlain ys → IsPlain (cond b xs ys)
choice-plain true xs ys p q = p
choice-plain false xs ys p q = q

power-plain : (k : ℕ) → IsPlain (power_text k)
power-plain k =
    choice-plain (eqb k 0) [] (cond (eqb k 1) (codes "q") (codes "q^" ++ number_text k)) tt
    (choice-plain (eqb k 1) (codes "q") (codes "q^" ++ number_text k) (refl, tt) (refl, (refl, number-plain k)))

factor-plain : (k : ℕ) (c : ℤ) → IsPlain (factor_text k c)
factor-plain k c =
    choice-plain (eqb k 0) (integer_text c) (cond (int_eq c (pos 1)) [] (cond (int_eq c (negsuc 0)) (codes "-") (integer_text c)))
    (integer-plain c)
    (choice-plain (int_eq c (pos 1)) [] (cond (int_eq c (negsuc 0)) (codes "-") (integer_text c)) tt
    (choice-plain (int_eq c (negsuc 0)) (codes "-") (integer_text c) (refl, tt) (integer-plain c)))

term-plain : (t : ℕ × ℤ) → IsPlain (term_text t)
term-plain t = AreNot-append is_foreign (factor_text t.0 t.1) (power_text t.0) (factor-plain t.0 t.1) (power-plain t.0)

next-plain : (t : ℕ × ℤ) → IsPlain (next_term_text t)
next-plain t =
    AreNot-append is_foreign (plus_text t.1) (term_text t) (choice-plain (int_lt (pos 0) t.1) (codes "+") [] (refl, tt) tt)
    (term-plain t)

others-plain : (ts : List (ℕ × ℤ)) → IsPlain (flat_map next_term_text ts)
others-plain [] = tt
others-plain (t ∷ ts) = AreNot-append is_foreign (next_term_text t) (flat_map next_term_text ts) (next-plain t) (others-plain ts)

terms-plain : (ts : List (ℕ × ℤ)) → IsPlain (terms_text ts)
terms-plain [] = (refl, tt)
terms-plain (t ∷ ts) = AreNot-append is_foreign (term_text t) (flat_map next_term_text ts) (term-plain t) (others-plain ts)

polynomial-plain : (p : List ℤ) → IsPlain (polynomial_text p)
polynomial-plain p = terms-plain (terms p)

-- ---- the lines

entry-plain : (rank : ℕ) → rank ≤ MAX_RANK → (entry : List ℕ × List ℤ) → IsTextEntry rank entry → IsPlain (entry_line rank entry)
entry-plain rank limit entry is =
    AreNot-append is_foreign (word_text rank entry.0 ++ codes ":") (polynomial_text entry.1)
    (AreNot-append is_foreign (word_text rank entry.0) (codes ":") (short_word-plain rank entry.0 limit is.word).plain (refl, tt))
    (polynomial-plain entry.1)

entries-plain : (rank : ℕ) → rank ≤ MAX_RANK → (entries : List (List ℕ × List ℤ)) → All (IsTextEntry rank) entries
    → All IsPlain (map (entry_line rank) entries)
entries-plain rank limit [] all = All-nil IsPlain
entries-plain rank limit (entry ∷ entries) all =
    All-cons IsPlain (entry_line rank entry) (map (entry_line rank) entries)
    (entry-plain rank limit entry (All-head (IsTextEntry rank) entry entries all))
    (entries-plain rank limit entries (All-tail (IsTextEntry rank) entry entries all))

-- no line of a certificate has a byte that no line may have
pub lines-plain : (c : Certificate) → IsCertificate c → All (λ line. AreNot is_foreign line) (certificate_lines c)
lines-plain c is =
    let rank = c.matrix.rank in
    let entries = map (entry_line rank) c.entries in
    let count = count_line (length c.entries) in
    let top = top_line rank c.top in
    All-append IsPlain (matrix_line c.matrix ∷ top ∷ count ∷ entries) (end_line ∷ [])
    (All-cons IsPlain (matrix_line c.matrix) (top ∷ count ∷ entries) (matrix_line-plain c.matrix is.matrix is.rank).plain
    (All-cons IsPlain top (count ∷ entries) (top_line-plain rank c.top is.rank is.top).plain
    (All-cons IsPlain count entries (count_line-plain (length c.entries) is.few).plain (entries-plain rank is.rank c.entries is.entries))))
    (All-cons IsPlain end_line [] end_line-plain.plain (All-nil IsPlain))

-- a line is that of one number of entries
pub count_line-one : (n m : ℕ) → n ≤ MAX_LISTED → m ≤ MAX_LISTED → count_line n ≡ count_line m → n ≡ m
count_line-one n m n_few m_few same =
    decimal_injective n m (omega arith) (omega arith) (append_cancel_left (codes "rows ") (decimal n) (decimal m) same)
