-- The text of a term: its sign, the size of its coefficient, and its power. It is that of one term.
use Rattle.std.proofs.Common.{◌≡◌, ◌≢◌, ℕ, zero, suc, ◌<◌, ◌≤◌, ◌==◌, Bool, true, false, not, List, [], ◌∷◌, ◌++◌}
use Rattle.std.proofs.Common.{codes, length, length-append, ℤ, pos, negsuc, refl, sym, ap, subst, ◌∙◌, arith}
use Rattle.std.specs.Char.{is_ascii_digit}
use Rattle.std.proofs.lemmas.Bool.{and_parts, both_ways, ne_eqb, lt-ltb, false≢true, true≢false}
use Rattle.std.proofs.lemmas.Bool.Decides.{nat_tests}
use Rattle.cox_poly.specs.PolynomialText.{power_text, factor_text, plus_text}
use Rattle.cox_poly.specs.ListedText.{listed_term_text}
use Rattle.cox_poly.specs.Numerals.{number_text}
use Rattle.cox_polyread.specs.ReadNumerals.{value_of, is_numeral}
use Rattle.cox_polyread.specs.PolynomialReading.{is_sign, is_q, signed, sign_text, size_text, unsigned_text}
use Rattle.cox_polyread.proofs.ReadNumerals.{value_of-number_text, is_numeral-number_text, is_numeral-digits}
use Rattle.cox_polyread.proofs.Splits.{AreNot, Begins, AreSame, split-one, AreNot-append, AreNot-all}

-- a coefficient other than 0 has a sign and a size
pub record HasSign (c : ℤ) : Type 0 where
  pub negative : Bool
  pub size : ℕ
  pub some : 0 < size
  pub is : c ≡ signed negative size

pub has_sign : (c : ℤ) → c ≢ pos 0 → HasSign c
has_sign (pos zero) some = absurd (some refl)
has_sign (pos (suc n)) some = record { negative = false; size = suc n; some = omega arith; is = refl }
has_sign (negsuc n) some = record { negative = true; size = suc n; some = omega arith; is = refl }

pub signed-some : (negative : Bool) (m : ℕ) → 0 < m → signed negative m ≢ pos 0
signed-some negative zero some e = omega arith
signed-some true (suc m) some e = cc
signed-some false (suc m) some e = cc

-- the parts of the text of a term
pub factor_text-parts : (negative : Bool) (k m : ℕ) → 0 < m
    → factor_text k (signed negative m) ≡ sign_text true negative ++ size_text (not (k == 0)) m
factor_text-parts true k zero some = absurd (omega arith)
factor_text-parts false k zero some = absurd (omega arith)
factor_text-parts true k (suc m) some = grind (arith, nat_tests)
factor_text-parts false k (suc m) some = grind (arith, nat_tests)

pub listed_term_text-parts : (first negative : Bool) (k m : ℕ) → 0 < m
    → listed_term_text first (k, signed negative m) ≡ sign_text first negative ++ unsigned_text k m
listed_term_text-parts first negative k zero some = absurd (omega arith)
listed_term_text-parts true true k (suc m) some = ap (λ text. text ++ power_text k) (factor_text-parts true k (suc m) some)
listed_term_text-parts true false k (suc m) some = ap (λ text. text ++ power_text k) (factor_text-parts false k (suc m) some)
listed_term_text-parts false true k (suc m) some = ap (λ text. text ++ power_text k) (factor_text-parts true k (suc m) some)
listed_term_text-parts false false k (suc m) some =
    let plus : plus_text (pos (suc m)) ≡ codes "+" = rw (lt-ltb 0 (suc m) some) refl in
    rw plus (ap (λ text. 43 ∷ (text ++ power_text k)) (factor_text-parts false k (suc m) some))

-- sizes and powers that are written out
pub size_text-long : (has_power : Bool) (m : ℕ) → 2 ≤ m → size_text has_power m ≡ number_text m
size_text-long true m long = rw (ne_eqb m 1 (λ (e : m ≡ 1). omega arith)) refl
size_text-long false m long = refl

pub power_text-long : (k : ℕ) → 2 ≤ k → power_text k ≡ 113 ∷ 94 ∷ number_text k
power_text-long k long = rw (ne_eqb k 0 (λ (e : k ≡ 0). omega arith), ne_eqb k 1 (λ (e : k ≡ 1). omega arith)) refl

-- digits are no signs, and none of them is the letter
digit-no_sign : (d : ℕ) → is_ascii_digit d ≡ true → is_sign d ≡ false
digit-no_sign d h = grind (arith, nat_tests)

digit-no_q : (d : ℕ) → is_ascii_digit d ≡ true → is_q d ≡ false
digit-no_q d h = grind (arith, nat_tests)

number_text-no_sign : (n : ℕ) → 0 < n → AreNot is_sign (number_text n)
number_text-no_sign n some =
    AreNot-all is_sign is_ascii_digit digit-no_sign (number_text n) (is_numeral-digits (number_text n) (is_numeral-number_text n some))

number_text-no_q : (n : ℕ) → 0 < n → AreNot is_q (number_text n)
number_text-no_q n some =
    AreNot-all is_q is_ascii_digit digit-no_q (number_text n) (is_numeral-digits (number_text n) (is_numeral-number_text n some))

size_text-no_sign : (has_power : Bool) (m : ℕ) → 0 < m → AreNot is_sign (size_text has_power m)
size_text-no_sign has_power zero some = absurd (omega arith)
size_text-no_sign true (suc zero) some = tt
size_text-no_sign true (suc (suc m)) some = rw (size_text-long true (suc (suc m)) (omega arith)) (number_text-no_sign (suc (suc m)) some)
size_text-no_sign false (suc m) some = number_text-no_sign (suc m) some

pub size_text-no_q : (has_power : Bool) (m : ℕ) → 0 < m → AreNot is_q (size_text has_power m)
size_text-no_q has_power zero some = absurd (omega arith)
size_text-no_q true (suc zero) some = tt
size_text-no_q true (suc (suc m)) some = rw (size_text-long true (suc (suc m)) (omega arith)) (number_text-no_q (suc (suc m)) some)
size_text-no_q false (suc m) some = number_text-no_q (suc m) some

-- the power has no sign, and begins with the letter
power_text-no_sign : (k : ℕ) → AreNot is_sign (power_text k)
power_text-no_sign zero = tt
power_text-no_sign (suc zero) = (refl, tt)
power_text-no_sign (suc (suc k)) =
    rw (power_text-long (suc (suc k)) (omega arith)) (refl, (refl, number_text-no_sign (suc (suc k)) (omega arith)))

pub power_text-begins : (k : ℕ) → Begins is_q (power_text k)
power_text-begins zero = tt
power_text-begins (suc zero) = refl
power_text-begins (suc (suc k)) = rw (power_text-long (suc (suc k)) (omega arith)) refl

pub unsigned_text-no_sign : (k m : ℕ) → 0 < m → AreNot is_sign (unsigned_text k m)
unsigned_text-no_sign k m some =
    AreNot-append is_sign (size_text (not (k == 0)) m) (power_text k) (size_text-no_sign (not (k == 0)) m some) (power_text-no_sign k)

-- the degree that a power has, and the size that is written
abbrev degree_of : List ℕ → ℕ
degree_of [] = 0
degree_of (x ∷ []) = 1
degree_of (x ∷ y ∷ ds) = value_of ds

degree_of-power_text : (k : ℕ) → degree_of (power_text k) ≡ k
degree_of-power_text zero = refl
degree_of-power_text (suc zero) = refl
degree_of-power_text (suc (suc k)) =
    ap degree_of (power_text-long (suc (suc k)) (omega arith)) ∙ value_of-number_text (suc (suc k)) (omega arith)

abbrev size_of : List ℕ → ℕ
size_of [] = 1
size_of (d ∷ ds) = value_of (d ∷ ds)

size_of-number_text : (m : ℕ) → 0 < m → size_of (number_text m) ≡ m
size_of-number_text m some = named (number_text m) (is_numeral-number_text m some) (value_of-number_text m some)
  where
    named : (ds : List ℕ) → is_numeral ds ≡ true → value_of ds ≡ m → size_of ds ≡ m
    named [] h e = absurd (false≢true h)
    named (d ∷ ds) h e = e

size_of-size_text : (has_power : Bool) (m : ℕ) → 0 < m → size_of (size_text has_power m) ≡ m
size_of-size_text has_power zero some = absurd (omega arith)
size_of-size_text true (suc zero) some = refl
size_of-size_text true (suc (suc m)) some =
    ap size_of (size_text-long true (suc (suc m)) (omega arith)) ∙ size_of-number_text (suc (suc m)) some
size_of-size_text false (suc m) some = size_of-number_text (suc m) some

pub power_text-one : (k l : ℕ) → power_text k ≡ power_text l → k ≡ l
power_text-one k l same = sym (degree_of-power_text k) ∙ ap degree_of same ∙ degree_of-power_text l

pub size_text-one : (has_power : Bool) (m n : ℕ) → 0 < m → 0 < n → size_text has_power m ≡ size_text has_power n → m ≡ n
size_text-one has_power m n m_some n_some same =
    sym (size_of-size_text has_power m m_some) ∙ ap size_of same ∙ size_of-size_text has_power n n_some

-- a text without sign is that of one size and one degree
pub record AreOne (k l m n : ℕ) : Type 0 where
  pub degree : k ≡ l
  pub size : m ≡ n

unsigned_text-one : (k l m n : ℕ) → 0 < m → 0 < n → unsigned_text k m ≡ unsigned_text l n → AreOne k l m n
unsigned_text-one k l m n m_some n_some same =
    let parts = split-one is_q (size_text (not (k == 0)) m) (size_text (not (l == 0)) n) (power_text k) (power_text l)
    (size_text-no_q (not (k == 0)) m m_some) (size_text-no_q (not (l == 0)) n n_some) (power_text-begins k) (power_text-begins l) same in
    let degree = power_text-one k l parts.back in
    let sizes : size_text (not (k == 0)) m ≡ size_text (not (k == 0)) n = rw (sym degree) at parts.front in
    record { degree = degree; size = size_text-one (not (k == 0)) m n m_some n_some sizes }

-- and with a sign it is that of one term
record AreOneSign (negative other : Bool) (u v : List ℕ) : Type 0 where
  sign : negative ≡ other
  rest : u ≡ v

no_sign-first : (x : ℕ) (xs u : List ℕ) → is_sign x ≡ true → AreNot is_sign u → x ∷ xs ≡ u → ⊥
no_sign-first x xs [] sign not same = cc
no_sign-first x xs (y ∷ u) sign not same = let e : x ≡ y = cc in both_ways (is_sign y) not.0 (rw e at sign)

behind-one : (x y : ℕ) (u v : List ℕ) → x ∷ u ≡ y ∷ v → u ≡ v
behind-one x y u v same = cc

minus-plus : (x y : ℕ) (u v : List ℕ) → x ≡ 45 → y ≡ 43 → x ∷ u ≡ y ∷ v → ⊥
minus-plus x y u v minus plus same = let e : x ≡ y = cc in omega arith

sign_text-one : (first negative other : Bool) (u v : List ℕ) → AreNot is_sign u → AreNot is_sign v
    → sign_text first negative ++ u ≡ sign_text first other ++ v → AreOneSign negative other u v
sign_text-one first true true u v u_not v_not same = record { sign = refl; rest = behind-one 45 45 u v same }
sign_text-one true true false u v u_not v_not same = absurd (no_sign-first 45 u v refl v_not same)
sign_text-one false true false u v u_not v_not same = absurd (minus-plus 45 43 u v refl refl same)
sign_text-one true false true u v u_not v_not same = absurd (no_sign-first 45 v u refl u_not (sym same))
sign_text-one false false true u v u_not v_not same = absurd (minus-plus 45 43 v u refl refl (sym same))
sign_text-one true false false u v u_not v_not same = record { sign = refl; rest = same }
sign_text-one false false false u v u_not v_not same = record { sign = refl; rest = behind-one 43 43 u v same }

pub signed_term-one : (first negative other : Bool) (k l m n : ℕ) → 0 < m → 0 < n
    → listed_term_text first (k, signed negative m) ≡ listed_term_text first (l, signed other n)
    → ◌≡◌ {A = ℕ × ℤ} (k, signed negative m) (l, signed other n)
signed_term-one first negative other k l m n m_some n_some same =
    let texts = sym (listed_term_text-parts first negative k m m_some) ∙ same ∙ listed_term_text-parts first other l n n_some in
    let signs = sign_text-one first negative other (unsigned_text k m) (unsigned_text l n)
    (unsigned_text-no_sign k m m_some) (unsigned_text-no_sign l n n_some) texts in
    let one = unsigned_text-one k l m n m_some n_some signs.rest in
    let sign = signs.sign in
    let degree = one.degree in
    let size = one.size in
    cc

pub listed_term_text-one : (first : Bool) (t s : ℕ × ℤ) → t.1 ≢ pos 0 → s.1 ≢ pos 0 → listed_term_text first t ≡ listed_term_text first s
    → t ≡ s
listed_term_text-one first t s t_some s_some same =
    let c = has_sign t.1 t_some in
    let d = has_sign s.1 s_some in
    let t_is : t ≡ (t.0, signed c.negative c.size) = ap (λ (v : ℤ). pair t.0 v) c.is in
    let s_is : s ≡ (s.0, signed d.negative d.size) = ap (λ (v : ℤ). pair s.0 v) d.is in
    t_is ∙ signed_term-one first c.negative d.negative t.0 s.0 c.size d.size c.some d.some
    (ap (listed_term_text first) (sym t_is) ∙ same ∙ ap (listed_term_text first) s_is) ∙ sym s_is
  where
    pair : ℕ → ℤ → ℕ × ℤ
    pair k c = (k, c)

-- a byte, and no sign behind it; it is a sign itself in a term after the first
pub record IsPiece (first : Bool) (text : List ℕ) : Type 0 where
  pub byte : ℕ
  pub rest : List ℕ
  pub is : text ≡ byte ∷ rest
  pub inner : AreNot is_sign rest
  pub begins : first ≡ false → is_sign byte ≡ true

-- no zero begins a text
abbrev pub is_no_zero : ℕ → Bool
is_no_zero byte = not (byte == 48)

Begins-append : (f : ℕ → Bool) (xs ys : List ℕ) → 0 < length xs → Begins f xs → Begins f (xs ++ ys)
Begins-append f [] ys some begins = absurd (omega arith)
Begins-append f (x ∷ xs) ys some begins = begins

number_text-begins : (m : ℕ) → 0 < m → Begins is_no_zero (number_text m)
number_text-begins m some = named (number_text m) (is_numeral-number_text m some)
  where
    named : (ds : List ℕ) → is_numeral ds ≡ true → Begins is_no_zero ds
    named [] h = absurd (false≢true h)
    named (d ∷ ds) h = (and_parts _ _ h).0

number_text-some : (m : ℕ) → 0 < m → 0 < length (number_text m)
number_text-some m some = named (number_text m) (is_numeral-number_text m some)
  where
    named : (ds : List ℕ) → is_numeral ds ≡ true → 0 < length ds
    named [] h = absurd (false≢true h)
    named (d ∷ ds) h = omega arith

-- a text without sign is not empty, and no zero begins it
record IsFull (text : List ℕ) : Type 0 where
  some : 0 < length text
  begins : Begins is_no_zero text

full-number : (m : ℕ) (rest : List ℕ) → 0 < m → IsFull (number_text m ++ rest)
full-number m rest some = record {
  some = omega (arith, length-append (number_text m) rest, number_text-some m some);
  begins = Begins-append is_no_zero (number_text m) rest (number_text-some m some) (number_text-begins m some);
}

unsigned_text-full : (k m : ℕ) → 0 < m → IsFull (unsigned_text k m)
unsigned_text-full zero m some = full-number m [] some
unsigned_text-full (suc k) m some = full (suc k) m (omega arith) some
  where
    powered : (k : ℕ) → 0 < k → IsFull (power_text k)
    powered zero above = absurd (omega arith)
    powered (suc zero) above = record { some = omega arith; begins = refl }
    powered (suc (suc k)) above = rw (power_text-long (suc (suc k)) (omega arith)) (record { some = omega arith; begins = refl })

    full : (k m : ℕ) → 0 < k → 0 < m → IsFull (unsigned_text k m)
    full k zero above some = absurd (omega arith)
    full k (suc zero) above some =
        let short : size_text (not (k == 0)) 1 ≡ [] = rw (ne_eqb k 0 (λ (e : k ≡ 0). omega arith)) refl in
        subst IsFull (ap (λ text. text ++ power_text k) (sym short)) (powered k above)
    full k (suc (suc m)) above some =
        rw (size_text-long (not (k == 0)) (suc (suc m)) (omega arith)) (full-number (suc (suc m)) (power_text k) some)

sign_text-piece : (first negative : Bool) (u : List ℕ) → AreNot is_sign u → IsFull u → IsPiece first (sign_text first negative ++ u)
sign_text-piece true true u u_not full = record { byte = 45; rest = u; is = refl; inner = u_not; begins = λ e. absurd (true≢false e) }
sign_text-piece false true u u_not full = record { byte = 45; rest = u; is = refl; inner = u_not; begins = λ e. refl }
sign_text-piece false false u u_not full = record { byte = 43; rest = u; is = refl; inner = u_not; begins = λ e. refl }
sign_text-piece true false [] u_not full = absurd (omega (arith, full.some))
sign_text-piece true false (x ∷ xs) u_not full = record {
  byte = x;
  rest = xs;
  is = refl;
  inner = u_not.1;
  begins = λ e. absurd (true≢false e);
}

pub listed_term_text-piece : (first : Bool) (t : ℕ × ℤ) → t.1 ≢ pos 0 → IsPiece first (listed_term_text first t)
listed_term_text-piece first t some =
    let c = has_sign t.1 some in
    rw (c.is, listed_term_text-parts first c.negative t.0 c.size c.some)
    (sign_text-piece first c.negative (unsigned_text t.0 c.size) (unsigned_text-no_sign t.0 c.size c.some)
    (unsigned_text-full t.0 c.size c.some))

sign_text-begins : (negative : Bool) (u : List ℕ) → IsFull u → Begins is_no_zero (sign_text true negative ++ u)
sign_text-begins true u full = refl
sign_text-begins false u full = full.begins

pub listed_term_text-begins : (t : ℕ × ℤ) → t.1 ≢ pos 0 → Begins is_no_zero (listed_term_text true t)
listed_term_text-begins t some =
    let c = has_sign t.1 some in
    rw (c.is, listed_term_text-parts true c.negative t.0 c.size c.some)
    (sign_text-begins c.negative (unsigned_text t.0 c.size) (unsigned_text-full t.0 c.size c.some))

-- where two texts agree, each a piece before a sign, the pieces do
pub piece-one : (first : Bool) (p q b d : List ℕ) → IsPiece first p → IsPiece first q → Begins is_sign b → Begins is_sign d
    → p ++ b ≡ q ++ d → AreSame p q b d
piece-one first p q b d p_piece q_piece b_begins d_begins same =
    let texts : p_piece.byte ∷ (p_piece.rest ++ b) ≡ q_piece.byte ∷ (q_piece.rest ++ d) =
    ap (λ text. text ++ b) (sym p_piece.is) ∙ same ∙ ap (λ text. text ++ d) q_piece.is in
    let byte : p_piece.byte ≡ q_piece.byte = cc in
    let rests : p_piece.rest ++ b ≡ q_piece.rest ++ d = cc in
    let parts = split-one is_sign p_piece.rest q_piece.rest b d p_piece.inner q_piece.inner b_begins d_begins rests in
    let p_is = p_piece.is in
    let q_is = q_piece.is in
    let front = parts.front in
    record { front = cc; back = parts.back }
