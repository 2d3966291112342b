-- Contexts of intervals and of groups: their members are closed downwards, and what a group that goes on has.
use Rattle.std.proofs.Common.{◌≡◌, ℕ, ◌+◌, ◌≤◌, ◌<◌, List, [], ◌∷◌, length, Contains, Result, Ok, Err, IfErr, ap, sym, ◌∙◌}
use Rattle.std.proofs.Common.{⊎_elim}
use Rattle.std.proofs.Common.{arith, subst, refl}
use Rattle.std.proofs.lemmas.Bool.{cases_lt}
use Rattle.std.proofs.lemmas.List.Elements.{All-head}
use Rattle.cox_base.specs.Matrix.{CoxeterMatrix, IsLetter}
use Rattle.cox_base.specs.declared.limits.TheConstants.{MAX_LETTERS}
use Rattle.cox_base.specs.IntegerMatrix.{IntegerMatrix, integer_matrix}
use Rattle.cox_base.specs.Admissible.{IsAdmissible, IsCoxeterMatrix}
use Rattle.cox_base.specs.Element.{SameElement}
use Rattle.cox_base.specs.ShortLex.{normal_form}
use Rattle.cox_base.specs.Length.{word_length}
use Rattle.cox_base.specs.Bruhat.{IsBelow}
use Rattle.cox_base.specs.Reduced.{IsReduced}
use Rattle.cox_base.specs.Descents.{IsLeftDescent}
use Rattle.cox_reflect.proofs.Elements.{same-refl, same-sym}
use Rattle.cox_reflect.proofs.Admissible.{IsAdmissible-integer_matrix}
use Rattle.cox_reflect.proofs.Lengths.{word_length-is, IsReduced-normal_form}
use Rattle.cox_reflect.proofs.Deletion.{left_length}
use Rattle.cox_reflect.proofs.Bruhat.{below-length, below-same, below-equal_length}
use Rattle.cox_reflect.proofs.Search.{word_length-length, normal_form-same, normal_form-equal}
use Rattle.cox_reflect.proofs.NormalElements.{element-normal_form, element-word, element-length}
use Rattle.cox_context.specs.declared.fault.ContextFault.{ContextFault}
use Rattle.cox_context.specs.declared.fault.ContextFault.TheVariants.{Size, Long, NoMemory}
use Rattle.cox_base.specs.Members.{IsElement, IsInInterval}
use Rattle.cox_context.specs.Closed.{IsClosed}
use Rattle.cox_base.specs.SortedList.{IsRising, IsListOf}
use Rattle.cox_context.specs.Numbers.{word_at}
use Rattle.cox_context.specs.Growth.{IsGrown}
use Rattle.cox_context.specs.Refusal.{IsLong}
use Rattle.cox_context.specs.FaultMeaning.{IsRefusal}
use Rattle.cox_context.proofs.PlacedWords.{contains-placed, placed-contains, contains-at, rising-place, rising-length}
use Rattle.cox_context.proofs.Ideals.{group-ideal, interval-ideal, ideal-tailed}
use Rattle.cox_context.proofs.Ideals.{element-nil}
use Rattle.cox_context.proofs.Ideals.{element-tail}
use Rattle.cox_context.proofs.GrowingMembers.{IsTailed, grown-length, grown-list}

-- ---- the same words with two properties

pub list-along : (P Q : List ℕ → Type 0) → ((word : List ℕ) → P word → Q word) → ((word : List ℕ) → Q word → P word)
    → (words : List (List ℕ)) → IsListOf P words → IsListOf Q words
list-along P Q to from words are = record {
  rising = are.rising;
  sound = λ word c. to word (are.sound word c);
  whole = λ word q. are.whole word (from word q);
}

pub refusal-along : (P Q : List ℕ → Type 0) → ((word : List ℕ) → P word → Q word) → ((word : List ℕ) → Q word → P word)
    → (limit : ℕ) (fault : ContextFault) → IsRefusal P limit fault → IsRefusal Q limit fault
refusal-along P Q to from limit (Size bound seen) (is, one_more, over) = (
  is,
  one_more,
  record {
    prefix = over.prefix;
    first = record {
      rising = over.first.rising;
      sound = λ word c. to word (over.first.sound word c);
      first = λ word q. over.first.first word (from word q);
    };
    count = over.count;
    short = over.short;
  },
)
refusal-along P Q to from limit Long l = record {
  words = l.words;
  are = list-along (λ word. P word × (length word ≤ MAX_LETTERS)) (λ word. Q word × (length word ≤ MAX_LETTERS)) (λ word p.
      (to word p.0, p.1))
      (λ word q. (from word q.0, q.1)) l.words l.are;
  count = l.count;
  long = l.long;
  member = to l.long l.member;
  letters = l.letters;
}
refusal-along P Q to from limit NoMemory n = n

pub result-along : {T : Type 0} (P Q : List ℕ → Type 0) → ((word : List ℕ) → P word → Q word) → ((word : List ℕ) → Q word → P word)
    → (limit : ℕ) (r : Result T ContextFault) → IfErr r (IsRefusal P limit) → IfErr r (IsRefusal Q limit)
result-along P Q to from limit (Ok x) h = h
result-along P Q to from limit (Err fault) h = refusal-along P Q to from limit fault h

-- ---- the members of a context

module _ (A : IntegerMatrix) (g : IsAdmissible A) where
  -- in ShortLex order an element below another one stands before it
  pub rising-upward : (words : List (List ℕ)) → IsRising words → ((word : List ℕ) → Contains words word → IsElement A word) → (i j : ℕ)
      → i < length words → j < length words → IsBelow A (word_at words i) (word_at words j) → i ≤ j
  rising-upward words rising element i j l m b =
      ⊎_elim (λ (less : j < i).
      let size : length (word_at words j) ≤ length (word_at words i) = rising-length words j i rising (omega (arith, less)) l
      in let f : IsElement A (word_at words i) = element (word_at words i) (contains-at words i l)
      in let h : IsElement A (word_at words j) = element (word_at words j) (contains-at words j m)
      in let same : SameElement A (word_at words i) (word_at words j) = below-equal_length A g b (omega (
        arith,
        size,
        below-length A g b,
        element-length A g (word_at words i) f,
        element-length A g (word_at words j) h,
      ))
      in absurd (omega (arith, less, rising-place words i j rising l m (sym f.normal ∙ normal_form-equal A g same ∙ h.normal))))
      (λ (more : i ≤ j). more) (cases_lt j i)

  -- no member of the interval is longer than its top
  pub interval-length : (w word : List ℕ) → IsInInterval A w word → length word ≤ word_length A w
  interval-length w word p = omega (arith, below-length A g p.below, element-length A g word p.element)

  -- the interval up to w is that up to a word of the same element
  pub interval-along : (w top : List ℕ) → SameElement A top w → (word : List ℕ) → IsInInterval A top word → IsInInterval A w word
  interval-along w top same word p = record { element = p.element; below = below-same A g (same-refl A g word) same p.below }

  -- the identity alone is closed downwards
  pub identity-closed : IsClosed A ([] ∷ [])
  identity-closed = record {
    distinct = λ i j l m e. omega (arith, l, m);
    upward = λ i j l m b. omega (arith, l, m);
    element = λ word c. rw (← only word c) (element-nil A g);
    down = λ y w c e b. (
      0,
      omega arith,
      sym (empty y (omega (
        arith,
        below-length A g b,
        element-length A g y e,
        word_length-length A g w,
        ap length (only w c),
      ))),
    );
    short = λ word c. rw (← only word c) (omega arith);
    some = omega arith;
    few = omega arith;
  }
    where
      only : (word : List ℕ) → Contains ([] ∷ []) word → [] ≡ word
      only word c =
          let q = contains-placed ([] ∷ []) word c in let first : q.i ≡ 0 = omega (arith, q.within) in rw first at q.is

      empty : (n : List ℕ) → length n ≤ 0 → n ≡ []
      empty [] l = refl
      empty (s ∷ x) l = absurd (omega (arith, l))

  -- what was found up to the length of a reduced word of w is the interval
  pub interval-members : (w top : List ℕ) (words : List (List ℕ)) (letters low : ℕ) → SameElement A top w → IsReduced A top
      → letters ≡ length top → IsGrown A.rank (IsInInterval A top) letters low words → IsListOf (IsInInterval A w) words
  interval-members w top words letters low same reduced n h =
      let P : List ℕ → Type 0 = IsInInterval A top
      in list-along P (IsInInterval A w) (interval-along w top same) (interval-along top w (same-sym A g same)) words
      (grown-list A.rank P (ideal-tailed A g P (interval-ideal A g top)) letters low words h
      (λ word p. omega (arith, interval-length top word p, reduced, n)))

  -- where each member of MAX_LETTERS letters is shortened by each letter, no element is longer
  pub group-length : (low : ℕ) (words : List (List ℕ)) → IsGrown A.rank (IsElement A) MAX_LETTERS low words
      → ((i s : ℕ) → low ≤ i → i < length words → IsLetter A.rank s → IsLeftDescent A (word_at words i) s) → (word : List ℕ)
      → IsElement A word → length word ≤ MAX_LETTERS
  group-length low words h all [] e = omega arith
  group-length low words h all (t ∷ x) e = go (group-length low words h all x (element-tail A g t x e))
    where
      long : (i : ℕ) × (i < length words) × (word_at words i ≡ x) → MAX_LETTERS ≤ length x → ⊥
      long (i, l, q) m =
          let from : low ≤ i = ⊎_elim (λ (less : i < low). absurd (omega (arith, h.shorter i less, ap length q, m)))
          (λ (more : low ≤ i). more) (cases_lt i low)
          in let d : IsLeftDescent A x t = rw q at (all i t from l (All-head (IsLetter A.rank) t x (element-word A g (t ∷ x) e)))
          in omega (arith, d, element-length A g (t ∷ x) e, element-length A g x (element-tail A g t x e))

      go : length x ≤ MAX_LETTERS → length (t ∷ x) ≤ MAX_LETTERS
      go l = ⊎_elim (λ (less : length x < MAX_LETTERS). omega (arith, less))
          (λ (more : MAX_LETTERS ≤ length x). absurd (long (h.whole x (element-tail A g t x e) l) more)) (cases_lt (length x) MAX_LETTERS)

  -- where one is not, there is an element of one letter more
  pub group-long : (low limit : ℕ) (words : List (List ℕ)) → IsGrown A.rank (IsElement A) MAX_LETTERS low words → length words ≤ limit
      → (i : ℕ) × (s : ℕ) × (low ≤ i) × (i < length words) × IsLetter A.rank s × (IsLeftDescent A (word_at words i) s → ⊥)
      → IsLong (IsElement A) limit
  group-long low limit words h few (i, s, from, l, letter, none) = record {
    words = words;
    are = record {
      rising = h.rising;
      sound = λ word c. let p = contains-placed words word c in (
        subst (IsElement A) p.is (h.sound p.i p.within),
        rw (← p.is)
            (grown-length A.rank (IsElement A) tailed MAX_LETTERS low words h p.i p.within),
      );
      whole = λ word p. let w = h.whole word p.0 p.1 in placed-contains words word (record { i = w.0; within = w.1; is = w.2 });
    };
    count = few;
    long = normal_form A (s ∷ word_at words i);
    member = element-normal_form A g (s ∷ word_at words i);
    letters = sym (word_length-is A (s ∷ word_at words i)) ∙ up;
  }
    where
      tailed : IsTailed A.rank (IsElement A)
      tailed = ideal-tailed A g (IsElement A) (group-ideal A g)

      up : word_length A (s ∷ word_at words i) ≡ MAX_LETTERS + 1
      up =
          ⊎_elim (λ longer. omega (arith, longer, element-length A g (word_at words i) (h.sound i l), h.level i from l))
          (λ shorter. absurd (none (omega (arith, shorter))))
          (left_length A g s (word_at words i) letter)

-- the normal form of w in a group x, as a word in its copy y
pub form-same : (x y : CoxeterMatrix) → y ≡ x → IsCoxeterMatrix y → (w top : List ℕ) → top ≡ normal_form (integer_matrix x) w
    → IsReduced (integer_matrix y) top × SameElement (integer_matrix y) top w
form-same x y e matrix w top f =
    let g : IsAdmissible (integer_matrix y) = IsAdmissible-integer_matrix y matrix
    in let form : top ≡ normal_form (integer_matrix y) w = rw e f
    in (rw form (IsReduced-normal_form (integer_matrix y) g w), rw form (normal_form-same (integer_matrix y) g w))

-- ---- an interval up to w, as it is found up to the normal form `top` of w in a copy x of the group z

module _ (x z : CoxeterMatrix) (copy : x ≡ z) (matrix : IsCoxeterMatrix x) (w top : List ℕ) (form : top ≡ normal_form (integer_matrix z) w)
  where
    abbrev A : IntegerMatrix
    A = integer_matrix x

    g : IsAdmissible A
    g = IsAdmissible-integer_matrix x matrix

    same : IsReduced A top × SameElement A top w
    same = form-same z x copy matrix w top form

    pub interval-refused : {T : Type 0} (limit : ℕ) (r : Result T ContextFault)
        → IfErr r (IsRefusal (IsInInterval (integer_matrix x) top) limit)
        → IfErr r (IsRefusal (IsInInterval (integer_matrix z) w) limit)
    interval-refused limit r refused =
        rw (← copy) (result-along (IsInInterval A top) (IsInInterval A w) (interval-along A g w top same.1)
        (interval-along A g top w (same-sym A g same.1)) limit r refused)

    pub interval-found : (words : List (List ℕ)) (letters low : ℕ) → letters ≡ length top
        → IsGrown x.rank (IsInInterval (integer_matrix x) top) letters low words
        → IsListOf (IsInInterval (integer_matrix x) w) words
    interval-found words letters low n h = interval-members A g w top words letters low same.1 same.0 n h
