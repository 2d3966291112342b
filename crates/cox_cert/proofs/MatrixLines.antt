-- The line of a matrix: its rank, and its labels.
use Rattle.std.proofs.Common.{◌≡◌, ℕ, zero, suc, ◌+◌, ◌-◌, ◌*◌, ◌/◌, ◌<◌, ◌≤◌, List, [], ◌∷◌, ◌++◌, length, decimal, codes, get_or, IsTrue}
use Rattle.std.proofs.Common.{take, drop, refl, sym, ap, subst, ◌∙◌, arith, append_assoc}
use Rattle.std.proofs.Common.{not}
use Rattle.std.specs.Option.{option_map}
use Rattle.std.specs.List.{All, position_or_len}
use Rattle.std.proofs.lemmas.Bool.Decides.{nat_tests}
use Rattle.std.proofs.lemmas.Fmt.{decimal_digit, decimal_injective}
use Rattle.std.proofs.lemmas.List.{append_cancel_left, take_more}
use Rattle.std.proofs.lemmas.List.Elements.{All-head, All-tail, All-weaker, All-get_or}
use Rattle.std.proofs.lemmas.List.Concat.{flat_map-append}
use Rattle.cox_base.specs.declared.limits.TheConstants.{MAX_RANK, MAX_LABELS}
use Rattle.cox_base.specs.Matrix.{CoxeterMatrix, is_label}
use Rattle.cox_base.specs.Admissible.{IsCoxeterMatrix}
use Rattle.cox_base.specs.Table.{IsFirstBad}
use Rattle.cox_base.proofs.Positions.{position-None_all}
use Rattle.cox_base.proofs.LabelPlaces.{labels_before-all, labels_before-small}
use Rattle.cox_polyread.proofs.Splits.{AreNot, Begins, AreSame, split-one}
use Rattle.cox_certtext.specs.Certificate.{matrix_line}
use Rattle.cox_certtext.specs.CertificateParts.{labels_text}
use Rattle.cox_cert.specs.LineReading.{AreDigits}
use Rattle.cox_cert.proofs.PlainTexts.{decimal-bytes}
use Rattle.cox_cert.proofs.Cuts.{is_byte, cut-one}

-- admitted labels are digits
label-digit : (m : ℕ) → IsTrue (is_label m) → m < 10
label-digit m admitted = grind (arith, nat_tests)

pub labels-digits : (labels : List ℕ) → All (λ m. IsTrue (is_label m)) labels → AreDigits labels
labels-digits labels admitted = All-weaker (λ m. IsTrue (is_label m)) (λ m. m < 10) label-digit labels admitted

-- two bytes for each label
labels_text-cons : (label : ℕ) (labels : List ℕ) → label < 10 → labels_text (label ∷ labels) ≡ 32 ∷ (48 + label) ∷ labels_text labels
labels_text-cons label labels small = rw (decimal_digit label small) refl

first_small : (label : ℕ) (labels : List ℕ) → AreDigits (label ∷ labels) → label < 10
first_small label labels small = All-head (λ m. m < 10) label labels small

others_small : (label : ℕ) (labels : List ℕ) → AreDigits (label ∷ labels) → AreDigits labels
others_small label labels small = All-tail (λ m. m < 10) label labels small

pub length-labels_text : (labels : List ℕ) → AreDigits labels → length (labels_text labels) ≡ 2 * length labels
length-labels_text [] small = refl
length-labels_text (label ∷ labels) small =
    let text = ap (length {A = ℕ}) (labels_text-cons label labels (first_small label labels small)) in
    text ∙ omega (arith, length-labels_text labels (others_small label labels small))

-- the two bytes of a label, by its place
pub record HasLabel (text : List ℕ) (k label : ℕ) : Type 0 where
  pub space : get_or text (2 * k) 0 ≡ 32
  pub digit : get_or text (2 * k + 1) 0 ≡ 48 + label

label-behind : (a b : ℕ) (text : List ℕ) (k label : ℕ) → HasLabel text k label → HasLabel (a ∷ b ∷ text) (suc k) label
label-behind a b text k label has =
    let first : 2 * suc k ≡ suc (suc (2 * k)) = omega arith in
    let second : 2 * suc k + 1 ≡ suc (suc (2 * k + 1)) = omega arith in
    record { space = rw first has.space; digit = rw second has.digit }

pub labels_text-at : (labels : List ℕ) (k : ℕ) → AreDigits labels → k < length labels → HasLabel (labels_text labels) k (get_or labels k 0)
labels_text-at [] k small within = absurd (omega arith)
labels_text-at (label ∷ labels) zero small within =
    subst (λ text. HasLabel text 0 label) (sym (labels_text-cons label labels (first_small label labels small)))
    (record { space = refl; digit = refl })
labels_text-at (label ∷ labels) (suc k) small within =
    subst (λ text. HasLabel text (suc k) (get_or labels k 0)) (sym (labels_text-cons label labels (first_small label labels small)))
    (label-behind 32 (48 + label) (labels_text labels) k (get_or labels k 0)
    (labels_text-at labels k (others_small label labels small) (omega arith)))

-- one label more
pub labels_text-push : (text labels : List ℕ) (k label : ℕ) → 2 * k + 1 < length text → label < 10 → HasLabel text k label
    → labels_text labels ≡ take (2 * k) text → labels_text (labels ++ label ∷ []) ≡ take (2 * (k + 1)) text
labels_text-push text labels k label within small has before =
    let digit_text = (48 + label) ∷ [] in
    let two : 2 * (k + 1) ≡ 2 * k + 1 + 1 = omega arith in
    let first = take_more text (2 * k) 0 (omega arith) ∙ ap (λ byte. take (2 * k) text ++ byte ∷ []) has.space in
    let second = take_more text (2 * k + 1) 0 within ∙ ap (λ byte. take (2 * k + 1) text ++ byte ∷ []) has.digit in
    let taken : take (2 * (k + 1)) text ≡ (take (2 * k) text ++ 32 ∷ []) ++ digit_text =
    rw two (second ∙ ap (λ front. front ++ digit_text) first) in
    flat_map-append (λ l. codes " " ++ decimal l) labels (label ∷ [])
    ∙ ap (λ l. labels_text labels ++ l) (labels_text-cons label [] small) ∙ ap (λ front. front ++ 32 ∷ digit_text) before
    ∙ sym (append_assoc (take (2 * k) text) (32 ∷ []) digit_text) ∙ sym taken

-- a text is that of one list of labels
pub labels_text-one : (xs ys : List ℕ) → AreDigits xs → AreDigits ys → labels_text xs ≡ labels_text ys → xs ≡ ys
labels_text-one [] [] x_small y_small same = refl
labels_text-one [] (y ∷ ys) x_small y_small same =
    absurd (omega (arith, ap (length {A = ℕ}) same, length-labels_text (y ∷ ys) y_small))
labels_text-one (x ∷ xs) [] x_small y_small same =
    absurd (omega (arith, ap (length {A = ℕ}) same, length-labels_text (x ∷ xs) x_small))
labels_text-one (x ∷ xs) (y ∷ ys) x_small y_small same =
    let texts : 32 ∷ (48 + x) ∷ labels_text xs ≡ 32 ∷ (48 + y) ∷ labels_text ys =
    sym (labels_text-cons x xs (first_small x xs x_small)) ∙ same ∙ labels_text-cons y ys (first_small y ys y_small) in
    let digit : 48 + x ≡ 48 + y = cc in
    let first : x ≡ y = omega arith in
    let behind : labels_text xs ≡ labels_text ys = cc in
    let rest = labels_text-one xs ys (others_small x xs x_small) (others_small y ys y_small) behind in
    cc

-- a numeral has no space, and labels begin with one
rank-no_space : (n : ℕ) → n ≤ MAX_RANK → AreNot (is_byte 32) (decimal n)
rank-no_space n limit = decimal-bytes (is_byte 32) n (omega arith) (λ d low. grind (arith, nat_tests))

labels_text-begins : (labels : List ℕ) → Begins (is_byte 32) (labels_text labels)
labels_text-begins [] = tt
labels_text-begins (label ∷ labels) = refl

-- the matrix of a rank and of labels
abbrev pub matrix_of : ℕ → List ℕ → CoxeterMatrix
matrix_of rank labels = record { rank = rank; labels = labels }

-- a line is that of one matrix
pub matrix_line-one : (g h : CoxeterMatrix) → IsCoxeterMatrix g → IsCoxeterMatrix h → g.rank ≤ MAX_RANK → h.rank ≤ MAX_RANK
    → matrix_line g ≡ matrix_line h → g ≡ h
matrix_line-one g h g_is h_is g_limit h_limit same =
    let texts = append_cancel_left (codes "cert ") (decimal g.rank ++ labels_text g.labels) (decimal h.rank ++ labels_text h.labels) same in
    let parts = split-one (is_byte 32) (decimal g.rank) (decimal h.rank) (labels_text g.labels) (labels_text h.labels)
    (rank-no_space g.rank g_limit) (rank-no_space h.rank h_limit) (labels_text-begins g.labels) (labels_text-begins h.labels) texts in
    let rank = decimal_injective g.rank h.rank (omega arith) (omega arith) parts.front in
    let labels = labels_text-one g.labels h.labels (labels-digits g.labels g_is.admitted) (labels-digits h.labels h_is.admitted)
    parts.back in
    ap (λ n. matrix_of n g.labels) rank ∙ ap (λ l. matrix_of h.rank l) labels

-- for code: the parts of the line of a matrix
pub matrix_line-parts : (line text front back : List ℕ) (g : CoxeterMatrix) → line ≡ codes "cert " ++ text
    → front ≡ take (position_or_len (is_byte 32) text) text → back ≡ drop (position_or_len (is_byte 32) text) text → g.rank ≤ MAX_RANK
    → line ≡ matrix_line g → AreSame (decimal g.rank) front (labels_text g.labels) back
matrix_line-parts line text front back g begins front_is back_is limit same =
    cut-one 32 text front back (decimal g.rank) (labels_text g.labels) front_is back_is
    (append_cancel_left (codes "cert ") text (decimal g.rank ++ labels_text g.labels) (sym begins ∙ same))
    (rank-no_space g.rank limit) (labels_text-begins g.labels)

-- how many labels there are at most
pub label_count-limit : (n : ℕ) → n ≤ MAX_RANK → n * (n - 1) / 2 ≤ MAX_LABELS
label_count-limit n limit = rw (labels_before-all n) at (labels_before-small n n limit (omega arith))

-- for code: the rank that is read
pub rank-read : (g : CoxeterMatrix) (rank : ℕ) (front : List ℕ) → g.rank ≤ MAX_RANK → rank ≤ MAX_RANK → decimal g.rank ≡ front
    → decimal rank ≡ front → g.rank ≡ rank
rank-read g rank front g_limit limit g_is is = decimal_injective g.rank rank (omega arith) (omega arith) (g_is ∙ sym is)

-- for code: labels of which one is not admitted
pub no_bad_label : (labels : List ℕ) (at value : ℕ) → IsFirstBad labels at value → All (λ m. IsTrue (is_label m)) labels → ⊥
no_bad_label labels at value bad admitted =
    let none = position-None_all (λ m. not (is_label m)) labels 0
    (λ k within. ap not (All-get_or (λ m. IsTrue (is_label m)) labels k 0 within admitted)) in
    let found = ap (option_map (λ k. k + 1)) (sym none) ∙ bad.first in
    cc
