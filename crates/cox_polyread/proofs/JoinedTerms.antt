-- Terms written one behind the other: their text is that of one list of terms.
use Rattle.std.proofs.Common.{◌≡◌, ◌≢◌, ℕ, zero, suc, ◌+◌, ◌<◌, ◌≤◌, ◌==◌, Bool, true, false, List, [], ◌∷◌, ◌++◌, length}
use Rattle.std.proofs.Common.{if◌then◌else◌, codes, replicate, flat_map, ℤ, pos, refl, sym, ap, subst, ◌∙◌, ⊎_elim}
use Rattle.std.proofs.Common.{append_assoc, append-nil, arith}
use Rattle.std.specs.Ordering.{int_eq}
use Rattle.std.proofs.lemmas.Bool.{cases_Bool, both_ways, eq-eqb, ne_eqb, true≢false}
use Rattle.std.proofs.lemmas.Bool.Decides.{nat_tests}
use Rattle.cox_poly.specs.Polynomial.{coefficient, SameCoefficients}
use Rattle.cox_poly.specs.PolynomialText.{next_term_text, terms_text, terms, polynomial_text}
use Rattle.cox_poly.specs.ListedText.{listed_term_text}
use Rattle.cox_polyread.specs.PolynomialReading.{is_sign}
use Rattle.cox_poly.proofs.Terms.{terms_from, int_eq-zero}
use Rattle.cox_polyread.proofs.Splits.{Begins}
use Rattle.cox_polyread.proofs.TermTexts.{listed_term_text-piece, listed_term_text-begins, listed_term_text-one, piece-one, is_no_zero}

-- the text of these terms, the first of them first or not; nothing where there is none
abbrev pub joined : Bool → List (ℕ × ℤ) → List ℕ
joined first [] = []
joined first (t ∷ ts) = listed_term_text first t ++ joined false ts

-- whether there is none, and whether the next one is the first
abbrev pub is_none : List (ℕ × ℤ) → Bool
is_none [] = true
is_none (t ∷ ts) = false

abbrev pub first_behind : Bool → List (ℕ × ℤ) → Bool
first_behind first [] = first
first_behind first (t ∷ ts) = false

-- no coefficient is 0; the degrees rise, from k on; and the degree from which on there is none
abbrev pub AreSome : List (ℕ × ℤ) → Type 0
AreSome [] = Unit {0}
AreSome (t ∷ ts) = (t.1 ≢ pos 0) × AreSome ts

abbrev pub AreRising : ℕ → List (ℕ × ℤ) → Type 0
AreRising k [] = Unit {0}
AreRising k (t ∷ ts) = (k ≤ t.0) × AreRising (t.0 + 1) ts

abbrev pub end_of : ℕ → List (ℕ × ℤ) → ℕ
end_of k [] = k
end_of k (t ∷ ts) = end_of (t.0 + 1) ts

-- one more term
pub joined-push : (first : Bool) (ts : List (ℕ × ℤ)) (t : ℕ × ℤ)
    → joined first (ts ++ t ∷ []) ≡ joined first ts ++ listed_term_text (first_behind first ts) t
joined-push first [] t = append-nil (listed_term_text first t)
joined-push first (s ∷ ts) t =
    ap (λ text. listed_term_text first s ++ text) (joined-push false ts t ∙ ap (λ b. joined false ts ++ listed_term_text b t) (behind ts))
    ∙ sym (append_assoc (listed_term_text first s) (joined false ts) (listed_term_text false t))
  where
    behind : (ts : List (ℕ × ℤ)) → first_behind false ts ≡ false
    behind [] = refl
    behind (t ∷ ts) = refl

pub end_of-push : (k : ℕ) (ts : List (ℕ × ℤ)) (t : ℕ × ℤ) → end_of k (ts ++ t ∷ []) ≡ t.0 + 1
end_of-push k [] t = refl
end_of-push k (s ∷ ts) t = end_of-push (s.0 + 1) ts t

pub is_none-push : (ts : List (ℕ × ℤ)) (t : ℕ × ℤ) → is_none (ts ++ t ∷ []) ≡ false
is_none-push [] t = refl
is_none-push (s ∷ ts) t = refl

-- a degree behind others is not below their end
pub AreRising-end : (k : ℕ) (ts : List (ℕ × ℤ)) (t : ℕ × ℤ) (more : List (ℕ × ℤ)) → AreRising k (ts ++ t ∷ more) → end_of k ts ≤ t.0
AreRising-end k [] t more rising = rising.0
AreRising-end k (s ∷ ts) t more rising = AreRising-end (s.0 + 1) ts t more rising.1

pub AreSome-at : (ts : List (ℕ × ℤ)) (t : ℕ × ℤ) (more : List (ℕ × ℤ)) → AreSome (ts ++ t ∷ more) → t.1 ≢ pos 0
AreSome-at [] t more some = some.0
AreSome-at (s ∷ ts) t more some = AreSome-at ts t more some.1

pub AreSome-behind : (ts more : List (ℕ × ℤ)) → AreSome (ts ++ more) → AreSome more
AreSome-behind [] more some = some
AreSome-behind (s ∷ ts) more some = AreSome-behind ts more some.1

-- terms after the first begin with a sign
pub joined-begins : (ts : List (ℕ × ℤ)) → AreSome ts → Begins is_sign (joined false ts)
joined-begins [] some = tt
joined-begins (t ∷ ts) some = let piece = listed_term_text-piece false t some.0 in rw piece.is (piece.begins refl)

joined-begins_before : (ts : List (ℕ × ℤ)) (rest : List ℕ) → AreSome ts → Begins is_sign rest → Begins is_sign (joined false ts ++ rest)
joined-begins_before [] rest some begins = begins
joined-begins_before (t ∷ ts) rest some begins =
    let piece = listed_term_text-piece false t some.0 in rw piece.is (piece.begins refl)

-- a text that begins with that of some terms is that of these and others
pub record AreBehind (first : Bool) (ts all : List (ℕ × ℤ)) (rest : List ℕ) : Type 0 where
  pub more : List (ℕ × ℤ)
  pub whole : all ≡ ts ++ more
  pub text : rest ≡ joined (first_behind first ts) more

pub not_empty : (first : Bool) (t : ℕ × ℤ) (rest : List ℕ) → t.1 ≢ pos 0 → listed_term_text first t ++ rest ≡ [] → ⊥
not_empty first t rest some none = let piece = listed_term_text-piece first t some in let e = rw piece.is at none in cc

pub joined-behind : (first : Bool) (ts all : List (ℕ × ℤ)) (rest : List ℕ) → AreSome ts → AreSome all
    → (is_none ts ≡ false → Begins is_sign rest) → joined first ts ++ rest ≡ joined first all → AreBehind first ts all rest
joined-behind first [] all rest some all_some begins same = record { more = all; whole = refl; text = same }
joined-behind first (t ∷ ts) [] rest some all_some begins same =
    let text = sym (append_assoc (listed_term_text first t) (joined false ts) rest) ∙ same in
    absurd (not_empty first t (joined false ts ++ rest) some.0 text)
joined-behind first (t ∷ ts) (s ∷ all) rest some all_some begins same =
    let sign = begins refl in
    let texts = sym (append_assoc (listed_term_text first t) (joined false ts) rest) ∙ same in
    let parts = piece-one first (listed_term_text first t) (listed_term_text first s) (joined false ts ++ rest) (joined false all)
    (listed_term_text-piece first t some.0) (listed_term_text-piece first s all_some.0)
    (joined-begins_before ts rest some.1 sign) (joined-begins all all_some.1) texts in
    let term = listed_term_text-one first t s some.0 all_some.0 parts.front in
    let behind = joined-behind false ts all rest some.1 all_some.1 (λ _. sign) parts.back in
    record {
      more = behind.more;
      whole = let e = behind.whole in cc;
      text = behind.text ∙ ap (λ b. joined b behind.more) (later ts);
    }
  where
    later : (ts : List (ℕ × ℤ)) → first_behind false ts ≡ false
    later [] = refl
    later (t ∷ ts) = refl

-- the text of a polynomial that has a term
joined-next : (ts : List (ℕ × ℤ)) → joined false ts ≡ flat_map next_term_text ts
joined-next [] = refl
joined-next (t ∷ ts) = ap (λ text. next_term_text t ++ text) (joined-next ts)

pub terms_text-joined : (ts : List (ℕ × ℤ)) → is_none ts ≡ false → terms_text ts ≡ joined true ts
terms_text-joined [] some = absurd (true≢false some)
terms_text-joined (t ∷ ts) some = ap (λ text. listed_term_text true t ++ text) (sym (joined-next ts))

-- it is not `0`
pub joined-no_zero : (ts : List (ℕ × ℤ)) → AreSome ts → joined true ts ≡ codes "0" → ⊥
joined-no_zero [] some same = cc
joined-no_zero (t ∷ ts) some same =
    let piece = listed_term_text-piece true t some.0 in
    let begins = rw piece.is at (listed_term_text-begins t some.0) in
    let text = rw piece.is at same in
    let byte : piece.byte ≡ 48 = cc in
    both_ways (is_no_zero 48) refl (rw byte at begins)

-- the terms of a list of coefficients: none is 0, and their degrees rise
term-some : (c : ℤ) → int_eq c (pos 0) ≡ false → c ≢ pos 0
term-some c other none = both_ways (int_eq c (pos 0)) other (ap (λ v. int_eq v (pos 0)) none)

pub terms_from-some : (k : ℕ) (p : List ℤ) → AreSome (terms_from k p)
terms_from-some k [] = tt
terms_from-some k (c ∷ p) =
    ⊎_elim
    (λ (none : int_eq c (pos 0) ≡ true). rw none (terms_from-some (k + 1) p))
    (λ (some : int_eq c (pos 0) ≡ false). rw some (term-some c some, terms_from-some (k + 1) p))
    (cases_Bool (int_eq c (pos 0)))

AreRising-less : (k l : ℕ) (ts : List (ℕ × ℤ)) → k ≤ l → AreRising l ts → AreRising k ts
AreRising-less k l [] le rising = tt
AreRising-less k l (t ∷ ts) le rising = let first = rising.0 in (omega arith, rising.1)

pub terms_from-rising : (k : ℕ) (p : List ℤ) → AreRising k (terms_from k p)
terms_from-rising k [] = tt
terms_from-rising k (c ∷ p) =
    ⊎_elim
    (λ (none : int_eq c (pos 0) ≡ true).
    rw none (AreRising-less k (k + 1) (terms_from (k + 1) p) (omega arith) (terms_from-rising (k + 1) p)))
    (λ (some : int_eq c (pos 0) ≡ false). rw some (omega arith, terms_from-rising (k + 1) p))
    (cases_Bool (int_eq c (pos 0)))

-- and a further term behind zeros
terms_from-zeros : (n k j : ℕ) (c : ℤ) → c ≢ pos 0 → j ≡ k + n → terms_from k (replicate n (pos 0) ++ c ∷ []) ≡ (j, c) ∷ []
terms_from-zeros zero k j c some e = let there : k ≡ j = omega arith in rw (int_eq-zero c some, there) refl
terms_from-zeros (suc n) k j c some e = terms_from-zeros n (k + 1) j c some (omega arith)

pub terms_from-push : (p : List ℤ) (n k j : ℕ) (c : ℤ) → c ≢ pos 0 → j ≡ k + length p + n
    → terms_from k (p ++ (replicate n (pos 0) ++ c ∷ [])) ≡ terms_from k p ++ (j, c) ∷ []
terms_from-push [] n k j c some e = terms_from-zeros n k j c some (omega arith)
terms_from-push (d ∷ p) n k j c some e =
    let rest = terms_from-push p n (k + 1) j c some (omega arith) in
    ⊎_elim
    (λ (none : int_eq d (pos 0) ≡ true). rw none rest)
    (λ (other : int_eq d (pos 0) ≡ false). rw other (ap (λ ts. (k, d) ∷ ts) rest))
    (cases_Bool (int_eq d (pos 0)))

-- the terms determine the coefficients
coefficient_in : List (ℕ × ℤ) → ℕ → ℤ
coefficient_in [] j = pos 0
coefficient_in (t ∷ ts) j = if t.0 == j then t.1 else coefficient_in ts j

coefficient_in-below : (ts : List (ℕ × ℤ)) (k j : ℕ) → AreRising k ts → j < k → coefficient_in ts j ≡ pos 0
unfolding coefficient_in
coefficient_in-below [] k j rising below = refl
coefficient_in-below (t ∷ ts) k j rising below =
    let first = rising.0 in
    let other : (t.0 == j) ≡ false = ne_eqb t.0 j (λ (e : t.0 ≡ j). omega arith) in
    rw other (coefficient_in-below ts (t.0 + 1) j rising.1 (omega arith))

coefficient_in-terms : (p : List ℤ) (k j i : ℕ) → j ≡ k + i → coefficient_in (terms_from k p) j ≡ coefficient p i
unfolding coefficient_in
coefficient_in-terms [] k j i e = refl
coefficient_in-terms (c ∷ p) k j zero e =
    ⊎_elim
    (λ (none : int_eq c (pos 0) ≡ true).
    rw none (coefficient_in-below (terms_from (k + 1) p) (k + 1) j (terms_from-rising (k + 1) p) (omega arith) ∙ sym (zero_is c none)))
    (λ (some : int_eq c (pos 0) ≡ false). rw (some, eq-eqb k j (omega arith)) refl)
    (cases_Bool (int_eq c (pos 0)))
  where
    zero_is : (c : ℤ) → int_eq c (pos 0) ≡ true → c ≡ pos 0
    zero_is c e = grind (arith, nat_tests)
coefficient_in-terms (c ∷ p) k j (suc i) e =
    let rest = coefficient_in-terms p (k + 1) j i (omega arith) in
    ⊎_elim
    (λ (none : int_eq c (pos 0) ≡ true). rw none rest)
    (λ (some : int_eq c (pos 0) ≡ false). rw (some, ne_eqb k j (λ (same : k ≡ j). omega arith)) rest)
    (cases_Bool (int_eq c (pos 0)))

same_coefficients : (f g : List ℤ) → terms f ≡ terms g → SameCoefficients f g
same_coefficients f g same k =
    sym (coefficient_in-terms f 0 k k (omega arith)) ∙ ap (λ ts. coefficient_in ts k) same ∙ coefficient_in-terms g 0 k k (omega arith)

-- a text is that of one list of terms
terms_text-one : (ts us : List (ℕ × ℤ)) → AreSome ts → AreSome us → terms_text ts ≡ terms_text us → ts ≡ us
terms_text-one [] [] t_some u_some same = refl
terms_text-one [] (u ∷ us) t_some u_some same = absurd (joined-no_zero (u ∷ us) u_some (sym (terms_text-joined (u ∷ us) refl) ∙ sym same))
terms_text-one (t ∷ ts) [] t_some u_some same = absurd (joined-no_zero (t ∷ ts) t_some (sym (terms_text-joined (t ∷ ts) refl) ∙ same))
terms_text-one (t ∷ ts) (u ∷ us) t_some u_some same =
    let texts = sym (terms_text-joined (t ∷ ts) refl) ∙ same ∙ terms_text-joined (u ∷ us) refl in
    let behind = joined-behind true (t ∷ ts) (u ∷ us) [] t_some u_some (λ _. tt) (append-nil (joined true (t ∷ ts)) ∙ texts) in
    let more_some = AreSome-behind (t ∷ ts) behind.more (subst AreSome behind.whole u_some) in
    none (t ∷ ts) (u ∷ us) behind.more behind.whole more_some (sym behind.text)
  where
    none : (ts us more : List (ℕ × ℤ)) → us ≡ ts ++ more → AreSome more → joined false more ≡ [] → ts ≡ us
    none ts us [] whole some text = sym (whole ∙ append-nil ts)
    none ts us (m ∷ more) whole some text = absurd (not_empty false m (joined false more) some.0 text)

-- the text determines the polynomial
pub polynomial_text-one : (f g : List ℤ) → polynomial_text f ≡ polynomial_text g → SameCoefficients f g
polynomial_text-one f g same =
    same_coefficients f g (terms_text-one (terms f) (terms g) (terms_from-some 0 f) (terms_from-some 0 g) same)
