-- Which child s x of a member x is the next member, for a list of members as it grows.
use Rattle.std.proofs.Common.{◌≡◌, ℕ, ◌+◌, ◌≤◌, ◌<◌, List, [], ◌∷◌, length, Contains, Option, None, Some, inl, refl, ap, sym, ◌∙◌}
use Rattle.std.proofs.Common.{⊎_elim, arith, subst, true, false, is_some, ◌++◌}
use Rattle.std.proofs.lemmas.Bool.{cases_lt, cases_order}
use Rattle.arrayvec.specs.ArrayVec.{ArrayVec}
use Rattle.cox_base.specs.Matrix.{CoxeterMatrix, IsLetter}
use Rattle.cox_base.specs.Admissible.{IsCoxeterMatrix, IsAdmissible}
use Rattle.cox_base.specs.IntegerMatrix.{IntegerMatrix, integer_matrix}
use Rattle.cox_base.specs.Element.{SameElement}
use Rattle.cox_base.specs.ShortLex.{normal_form}
use Rattle.cox_base.specs.Length.{word_length}
use Rattle.cox_base.specs.Descents.{IsLeftDescent}
use Rattle.cox_base.specs.Bruhat.{IsBelow}
use Rattle.cox_base.specs.declared.limits.TheConstants.{MAX_LETTERS}
use Rattle.cox_reflect.proofs.Admissible.{IsAdmissible-integer_matrix}
use Rattle.cox_reflect.proofs.Elements.{same-refl, same-sym, same-trans, same-cons, same-square}
use Rattle.cox_reflect.proofs.Search.{normal_form-same, normal_form-equal, word_length-equal}
use Rattle.cox_reflect.proofs.Lengths.{word_length-is}
use Rattle.cox_reflect.proofs.Bruhat.{below-same, below-length, below-equal_length}
use Rattle.cox_reflect.proofs.NormalElements.{element-normal_form, element-length}
use Rattle.cox_context.specs.declared.members.TheConstants.{MAX_MEMBERS}
use Rattle.cox_base.specs.Members.{IsElement}
use Rattle.cox_context.specs.Refusal.{IsPrefixOf}
use Rattle.cox_context.specs.Closed.{IsClosed}
use Rattle.cox_context.specs.Numbers.{word_at}
use Rattle.cox_context.specs.Numbering.{IsNumberOf}
use Rattle.cox_context.specs.WantedMembers.{IsMember, IsBelowTop}
use Rattle.cox_context.specs.Growth.{IsGrowing, IsChild, IsOutside, IsNext, IsNoNext, known, above, outside}
use Rattle.cox_context.proofs.PlacedWords.{contains-placed, placed-contains, rising-place}
use Rattle.cox_context.proofs.ClosedContexts.{rising-upward}
use Rattle.cox_context.proofs.Ideals.{IsIdeal, ideal-member, ideal-tailed, member-tailed}
use Rattle.cox_context.proofs.GrowingMembers.{IsTailed, growing-length, growing-push, growing-prefix, growing-skip}
use Rattle.cox_context.proofs.FirstLetters.{first-least}
use Rattle.cox_context.proofs.LowerWalks.{IsAscent, ascent}

-- membership is that of an element below the top
member-parts : (A : IntegerMatrix) (top : Option (ArrayVec ℕ)) (word : List ℕ) → IsMember A top word
    → IsElement A word × IsBelowTop A top word
member-parts A None word p = (p, tt)
member-parts A (Some top) word p = (p.element, p.below)

member-of : (A : IntegerMatrix) (top : Option (ArrayVec ℕ)) (word : List ℕ) → IsElement A word → IsBelowTop A top word → IsMember A top word
member-of A None word e b = e
member-of A (Some top) word e b = record { element = e; below = b }

-- what has no number is not there
unfound : (words : List (List ℕ)) (word : List ℕ) (x : Option ℕ) → IsNumberOf words word x → is_some x ≡ false → Contains words word → ⊥
unfound words word None none e c = none c
unfound words word (Some k) found e c = absurd (cc)

-- and what has one is
pub found-contains : (words : List (List ℕ)) (word : List ℕ) (x : Option ℕ) → IsNumberOf words word x → is_some x ≡ true
    → Contains words word
found-contains words word None none e = absurd (cc)
found-contains words word (Some k) (l, is) e = placed-contains words word (record { i = k; within = l; is = is })

-- a shift that has no number lengthens its member
pub unfound-ascent : (c : CoxeterMatrix) → IsCoxeterMatrix c → (words : List (List ℕ)) → IsClosed (integer_matrix c) words → (s i : ℕ)
    → IsLetter c.rank s → i < length words → (x : Option ℕ) → IsNumberOf words (normal_form (integer_matrix c) (s ∷ word_at words i)) x
    → is_some x ≡ false
    → (Contains words (normal_form (integer_matrix c) (s ∷ word_at words i)) → ⊥) × IsAscent (integer_matrix c) words s i
unfound-ascent c m words closed s i l within x number e =
    let new : Contains words (normal_form (integer_matrix c) (s ∷ word_at words i)) → ⊥ = unfound words _ x number e
    in (new, ascent c m words closed s i l within new)

below-top-same : (A : IntegerMatrix) → IsAdmissible A → (top : Option (ArrayVec ℕ)) (v w : List ℕ) → SameElement A v w → IsBelowTop A top v
    → IsBelowTop A top w
below-top-same A g None v w e b = tt
below-top-same A g (Some top) v w e b = below-same A g e (same-refl A g top.items) b

module _ (A : IntegerMatrix) (g : IsAdmissible A) (P : List ℕ → Type 0) (ideal : IsIdeal A P) (k low high s j : ℕ) (words : List (List ℕ))
    (h : IsGrowing A.rank P k low high s j words) where
  -- the members found so far are closed downwards
  pub growing-closed : k < MAX_LETTERS → length words ≤ MAX_MEMBERS → IsClosed A words
  growing-closed short few = record {
    distinct = λ i j l m e. rising-place words i j h.rising l m e;
    upward = rising-upward A g words h.rising (λ word c. ideal.element word (member word c));
    element = λ word c. ideal.element word (member word c);
    down = λ y w c e b. below_one y w c e b;
    short = λ word c. let p = contains-placed words word c in subst (λ (x : List ℕ). length x ≤ MAX_LETTERS) p.is
        (omega (arith, long p.i p.within, short));
    some = let w = h.whole [] ideal.least (omega arith) in omega (arith, w.1, h.end);
    few = few;
  }
    where
      member : (word : List ℕ) → Contains words word → P word
      member word c = let p = contains-placed words word c in subst P p.is (h.sound p.i p.within)

      long : (i : ℕ) → i < length words → length (word_at words i) ≤ k + 1
      long = growing-length A.rank P (ideal-tailed A g P ideal) k low high s j words h

      shorter : (y : List ℕ) → P y → length y ≤ k → Contains words y
      shorter y p l = let w = h.whole y p l in placed-contains words y (record { i = w.0; within = omega (arith, w.1, h.end); is = w.2 })

      below_one : (y w : List ℕ) → Contains words w → IsElement A y → IsBelow A y w → Contains words y
      below_one y w c e b = ⊎_elim (λ (less : length y < k + 1). shorter y (ideal.down y w (member w c) e b) (omega (arith, less)))
          (λ (more : k + 1 ≤ length y). subst (λ (x : List ℕ). Contains words x) (sym (same more)) c) (cases_lt (length y) (k + 1))
        where
          upto : length w ≤ k + 1
          upto = let p = contains-placed words w c in subst (λ (x : List ℕ). length x ≤ k + 1) p.is (long p.i p.within)

          same : k + 1 ≤ length y → y ≡ w
          same more =
              let f : IsElement A w = ideal.element w (member w c)
              in let equal : word_length A y ≡ word_length A w
              = omega (arith, below-length A g b, element-length A g y e, element-length A g w f, more, upto)
              in sym e.normal ∙ normal_form-equal A g (below-equal_length A g b equal) ∙ f.normal

  module _ (inside : j < high) where
    parent_length : (m : ℕ) → m < high → length (word_at words m) ≤ k
    parent_length m l = ⊎_elim (λ (less : m < low). omega (arith, h.shorter m less)) (λ (more : low ≤ m). omega (arith, h.level m more l))
        (cases_lt m low)

    size : length (word_at words j) ≡ k
    size = h.level j h.start inside

    x_element : IsElement A (word_at words j)
    x_element = ideal.element (word_at words j) (h.sound j (omega (arith, inside, h.end)))

    -- a child that was found before is no member
    pub known-none : Contains words (normal_form A (s ∷ word_at words j)) → P (s ∷ word_at words j) → ⊥
    known-none c p =
        let e = ideal.element (s ∷ word_at words j) p
        in let q = contains-placed words (s ∷ word_at words j) (rw e.normal at c)
        in found q.i q.within q.is
      where
        twice : (m : ℕ) → (c : IsChild words low s j m) × (c.i < high) → word_at words m ≡ s ∷ word_at words j → ⊥
        twice m (c, below) is =
            ⊎_elim (λ (less : c.t < s). omega (arith, less, letter_same e))
            (λ same. omega (
              arith,
              same.1,
              rising-place words c.i j h.rising (omega (arith, below, h.end)) (omega (arith, inside, h.end))
                  (rest_same e),
            )) c.earlier
          where
            e : c.t ∷ word_at words c.i ≡ s ∷ word_at words j
            e = sym c.is ∙ is

            letter_same : {t s : ℕ} {x y : List ℕ} → t ∷ x ≡ s ∷ y → t ≡ s
            letter_same q = cc

            rest_same : {t s : ℕ} {x y : List ℕ} → t ∷ x ≡ s ∷ y → x ≡ y
            rest_same q = cc

        found : (m : ℕ) → m < length words → word_at words m ≡ s ∷ word_at words j → ⊥
        found m l is = twice m (h.made m (⊎_elim
            (λ (less : m < high). absurd (omega (arith, ap length is, size, parent_length m less)))
            (λ (more : high ≤ m). more) (cases_lt m high)) l) is

    -- nor is one above an element that was not found
    pub outside-none : IsOutside A words (s ∷ word_at words j) (length (word_at words j)) → P (s ∷ word_at words j) → ⊥
    outside-none o p =
        let w = h.whole o.word (ideal.down o.word (s ∷ word_at words j) p o.element o.below) (omega (arith, o.short, size))
        in o.absent (placed-contains words o.word (record { i = w.0; within = omega (arith, w.1, h.end); is = w.2 }))

    -- a new element s x has that normal form: its first letter is not less than s, and not greater
    pub new-normal : IsAscent A words s j → (Contains words (normal_form A (s ∷ word_at words j)) → ⊥) → P (normal_form A
        (s ∷ word_at words j))
        → normal_form A (s ∷ word_at words j) ≡ s ∷ word_at words j
    new-normal ascent new p = go (normal_form A (s ∷ word_at words j)) refl p
      where
        long : length (normal_form A (s ∷ word_at words j)) ≡ k + 1
        long = omega (arith, sym (word_length-is A (s ∷ word_at words j)), ascent.reduced, size)

        go : (v : List ℕ) → normal_form A (s ∷ word_at words j) ≡ v → P v → v ≡ s ∷ word_at words j
        go [] e q = absurd (omega (arith, ap length e, long))
        go (t ∷ z) e q =
            ⊎_elim equal (λ side. ⊎_elim (λ less. absurd (lesser less)) (λ more. absurd (greater more)) side) (cases_order t s)
          where
            same : SameElement A (t ∷ z) (s ∷ word_at words j)
            same = rw (← e) (normal_form-same A g (s ∷ word_at words j))

            rest : P z
            rest = (ideal-tailed A g P ideal).tail t z q

            equal : t ≡ s → t ∷ z ≡ s ∷ word_at words j
            equal f =
                let both : SameElement A (s ∷ z) (s ∷ word_at words j) = rw f at same
                in let z_same : SameElement A z (word_at words j)
                = same-trans A g (same-sym A g (same-square A g s z)) (same-trans A g (same-cons A g s both) (same-square A g s
                (word_at words j)))
                in rw f (ap (λ (y : List ℕ). s ∷ y)
                (sym (ideal.element z rest).normal ∙ normal_form-equal A g z_same ∙ x_element.normal))

            lesser : t < s → ⊥
            lesser less = there (h.whole z rest (omega (arith, ap length e, long)))
              where
                there : (i : ℕ) × (i < high) × (word_at words i ≡ z) → ⊥
                there (i, to, is) =
                    let from : low ≤ i = ⊎_elim (λ (below : i < low). absurd (omega
                    (arith, h.shorter i below, ap length is, ap length e, long)))
                    (λ (upper : low ≤ i). upper) (cases_lt i low)
                    in let m = h.found t i ((ideal-tailed A g P ideal).letter t z q) from to (inl less) (rw is q)
                    in new (rw e (placed-contains words (t ∷ z) (record {
                      i = m.0;
                      within = m.1;
                      is = m.2 ∙ ap (λ
                          (y : List ℕ). t ∷ y) is;
                    })))

            greater : s < t → ⊥
            greater more = first-least A g t z (ideal.element (t ∷ z) q) s shorter more
              where
                shorter : IsLeftDescent A (t ∷ z) s
                shorter = omega (arith, ascent.descent, word_length-equal A g same, word_length-equal A g (same-cons A g s same))

-- ---- in the scope that is meant

module _ (c : CoxeterMatrix) (m : IsCoxeterMatrix c) (top : Option (ArrayVec ℕ)) (k low high s j : ℕ) (words : List (List ℕ))
    (h : IsGrowing c.rank (IsMember (integer_matrix c) top) k low high s j words) where
  A : IntegerMatrix
  A = integer_matrix c

  g : IsAdmissible (integer_matrix c)
  g = IsAdmissible-integer_matrix c m

  ideal : IsIdeal (integer_matrix c) (IsMember (integer_matrix c) top)
  ideal = ideal-member (integer_matrix c) g top

  tailed : IsTailed c.rank (IsMember (integer_matrix c) top)
  tailed = member-tailed c m top

  pub member-closed : k < MAX_LETTERS → length words ≤ MAX_MEMBERS → IsClosed (integer_matrix c) words
  member-closed = growing-closed (integer_matrix c) g (IsMember (integer_matrix c) top) ideal k low high s j words h

  -- the next child is a member
  next-member : (lower : List ℕ) → IsLetter c.rank s → IsClosed (integer_matrix c) words → j < high
      → IsNext (integer_matrix c) words top (s ∷ word_at words j) lower
      → IsMember (integer_matrix c) top (s ∷ word_at words j)
  next-member lower letter closed inside next =
      let y : List ℕ = s ∷ word_at words j
      in let p : IsMember (integer_matrix c) top (normal_form (integer_matrix c) y)
      = member-of (integer_matrix c) top (normal_form (integer_matrix c) y) (element-normal_form (integer_matrix c) g y)
      (below-top-same (integer_matrix c) g top y (normal_form (integer_matrix c) y)
      (same-sym (integer_matrix c) g (normal_form-same (integer_matrix c) g y)) next.meant)
      in let normal = new-normal (integer_matrix c) g (IsMember (integer_matrix c) top) ideal k low high s j words h inside
      (ascent c m words closed s j letter (omega (arith, inside, h.end)) next.new) next.new p
      in rw normal at p

  -- a child that is not the next is none
  no-next-none : j < high → IsNoNext (integer_matrix c) words top (s ∷ word_at words j) (length (word_at words j))
      → IsMember (integer_matrix c) top (s ∷ word_at words j) → ⊥
  no-next-none inside (known there) p =
      known-none (integer_matrix c) g (IsMember (integer_matrix c) top) ideal k low high s j words h inside there p
  no-next-none inside (above none) p = none (member-parts (integer_matrix c) top (s ∷ word_at words j) p).1
  no-next-none inside (outside o) p =
      outside-none (integer_matrix c) g (IsMember (integer_matrix c) top) ideal k low high s j words h inside o p

  -- the list without it
  pub growing-no_next : j < high → IsNoNext (integer_matrix c) words top (s ∷ word_at words j) (length (word_at words j))
      → IsGrowing c.rank (IsMember (integer_matrix c) top) k low high s (j + 1) words
  growing-no_next inside none =
      growing-skip c.rank (IsMember (integer_matrix c) top) tailed k low high s j words h inside (no-next-none inside none)

  -- the next child is appended: the list grows, and it is a prefix of the members
  module _ (short : k < MAX_LETTERS) (few : length words ≤ MAX_MEMBERS) (lower : List ℕ) (letter : IsLetter c.rank s) (inside : j < high)
      (n : IsNext (integer_matrix c) words top (s ∷ word_at words j) lower) where
    member : IsMember (integer_matrix c) top (s ∷ word_at words j)
    member = next-member lower letter (member-closed short few) inside n

    pub growing-next : IsGrowing c.rank (IsMember (integer_matrix c) top) k low high s (j + 1) (words ++ (s ∷ word_at words j) ∷ [])
    growing-next = growing-push c.rank (IsMember (integer_matrix c) top) tailed k low high s j words h inside member

    pub prefix-next : IsPrefixOf (IsMember (integer_matrix c) top) (words ++ (s ∷ word_at words j) ∷ [])
    prefix-next = growing-prefix c.rank (IsMember (integer_matrix c) top) tailed k low high s j words h inside member
