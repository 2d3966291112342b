-- What a seat has published, voided and seen: step after step, and when it met another.
use Rattle.std.proofs.Common.{◌≡◌, ◌⊎◌, inl, inr, ⊎_elim, ℕ, ◌+◌, ◌<◌, ◌||◌, List, length, [], ◌∷◌, ◌++◌, true, refl, sym, ap, ◌∙◌, arith}
use Rattle.std.specs.Prelude.{◌==◌, Option, IfSome}
use Rattle.std.proofs.lemmas.Bool.{or_cases, or_left, or_right, eq-eqb}
use Rattle.std.proofs.lemmas.Option.{IfSome_then}
use Rattle.cox_context.specs.Closed.{Elements}
use Rattle.cox_claims.specs.declared.seat.Seat.{Seat}
use Rattle.cox_fill_core.specs.declared.event.RowState.{RowState}
use Rattle.cox_claims.specs.Knowledge.{saw_claimed, has_published, has_voided, looked, parted, told, joined, IsKnown, SeesAll}
use Rattle.cox_claims.specs.Seats.{view_of, HasSeen, HasSeenVoid, HasSeenClaimed, HasSeenEnd}
use Rattle.cox_row.specs.Rising.{number_at}
use Rattle.cox_claims.proofs.RowTests.{among_either}
use Rattle.cox_claims.specs.Rule.{how_many}
use Rattle.cox_claims.proofs.Splits.{how_many-append}
use Rattle.cox_klstep.specs.NeedsOf.{HasNeeds}
use Rattle.cox_workers.specs.SeatChanges.{IsNeededAt, HasEnded, MadeOfSeen, IsSeatKept}
use Rattle.cox_workers.specs.Filled.{IsNeededForSome, IsSeatGrown, HasMetAll}
use Rattle.cox_workers.proofs.SeatSteps.{same_seats-refl, same_seats-trans, needs-map, made-trans}
use Rattle.cox_claims.proofs.Views.{sees-refl, sees-trans}

-- a row that was seen Published or Void is seen so from then on
pub ended-still : (a b : Seat) → SeesAll (view_of a) (view_of b) → (i : ℕ) → HasSeenEnd a i → HasSeenEnd b i
ended-still a b seen i end =
    ⊎_elim (λ (h : HasSeen a i). inl (seen.published i h)) (λ (h : HasSeenVoid a i). inr (seen.void i h)) end

-- ---- rows that were not seen so

-- a row that is Claimed is none of them
pub fresh-claimed : (a : Seat) (i : ℕ) → IsKnown (view_of a) i RowState.Claimed → ¬ HasSeenEnd a i
fresh-claimed a i known end = ⊎_elim (λ (h : HasSeen a i). let no = known.published h in cc)
    (λ (h : HasSeenVoid a i). let no = known.void h in cc) end

-- what was not seen so later was not seen so before
pub fresh-before : (a b : Seat) → SeesAll (view_of a) (view_of b) → (found : Option ℕ) → IfSome found (λ i. ¬ HasSeenEnd b i)
    → IfSome found (λ i. ¬ HasSeenEnd a i)
fresh-before a b seen found fresh = IfSome_then found fresh (λ i no end. no (ended-still a b seen i end))

-- ---- rows that were seen Claimed

-- a look found it so
pub claimed-looked : (a b : Seat) (i : ℕ) → view_of b ≡ looked (view_of a) i RowState.Claimed → HasSeenClaimed b i
claimed-looked a b i after = ap (λ v. saw_claimed v i) after ∙ or_left (i == i) (saw_claimed (view_of a) i) (eq-eqb i i refl)

-- and it is seen so from then on
pub claimed-still : (a b : Seat) → SeesAll (view_of a) (view_of b) → (found : Option ℕ) → IfSome found (HasSeenClaimed a)
    → IfSome found (HasSeenClaimed b)
claimed-still a b seen found old = IfSome_then found old seen.claimed

-- ---- what grows

pub grown-refl : {e : Elements} {wanted : List ℕ} {a : Seat} → IsSeatGrown e wanted a a
grown-refl {e} {wanted} {a} = record {
  same = record { table = refl; number = refl };
  seats = same_seats-refl (view_of a);
  held = refl;
  seen = sees-refl (view_of a);
  ended = λ j h. inl h;
  made = λ j h. inl h;
}

pub grown-trans : {e : Elements} {wanted : List ℕ} {a b c : Seat} → IsSeatGrown e wanted a b → IsSeatGrown e wanted b c
    → IsSeatGrown e wanted a c
grown-trans {e} {wanted} {a} {b} {c} s t = record {
  same = record { table = t.same.table ∙ s.same.table; number = t.same.number ∙ s.same.number };
  seats = same_seats-trans (view_of a) (view_of b) (view_of c) s.seats t.seats;
  held = t.held ∙ s.held;
  seen = sees-trans (view_of a) (view_of b) (view_of c) s.seen t.seen;
  ended = λ j h. ⊎_elim (λ (old : HasEnded b j). s.ended j old) (λ (n : IsNeededForSome e wanted j). inr n) (t.ended j h);
  made = made-trans e a b c s.made t.seen t.made;
}

-- a seat that is kept while the row of a wanted member is made
pub grown-kept : {e : Elements} {wanted : List ℕ} {p : ℕ} {a b : Seat} → p < length wanted → IsSeatKept e (number_at wanted p) a b
    → IsSeatGrown e wanted a b
grown-kept {e} {wanted} {p} {a} {b} l k = record {
  same = k.same;
  seats = k.seats;
  held = k.held;
  seen = k.seen;
  ended = λ j h. ⊎_elim (λ (old : HasEnded a j). inl old) (λ (n : IsNeededAt e (number_at wanted p) j). inr (p, l, n)) (k.ended j h);
  made = k.made;
}

module _ (e : Elements) (wanted : List ℕ) where
  -- seat b was split from a, which is then a'; both worked on, to c and d; and c met d, which made it r
  pub met_ended : (a a' b c d r : Seat) → view_of a' ≡ parted (view_of a) → view_of b ≡ told (view_of a)
      → view_of r ≡ joined (view_of c) (view_of d)
      → ((j : ℕ) → HasEnded c j → HasEnded a' j ⊎ IsNeededForSome e wanted j)
      → ((j : ℕ) → HasEnded d j → HasEnded b j ⊎ IsNeededForSome e wanted j)
      → (j : ℕ) → HasEnded r j → HasEnded a j ⊎ IsNeededForSome e wanted j
  met_ended a a' b c d r first second met mine theirs j h =
      let of_mine : HasEnded c j → HasEnded a j ⊎ IsNeededForSome e wanted j = λ m. ⊎_elim
      (λ (old : HasEnded a' j). inl (sym (ap (λ v. has_published v j || has_voided v j) first) ∙ old))
      (λ (n : IsNeededForSome e wanted j). inr n) (mine j m)
      in let of_theirs : HasEnded d j → HasEnded a j ⊎ IsNeededForSome e wanted j = λ m. ⊎_elim
      (λ (old : HasEnded b j). let no = sym (ap (λ v. has_published v j || has_voided v j) second) ∙ old in cc)
      (λ (n : IsNeededForSome e wanted j). inr n) (theirs j m)
      in ⊎_elim
      (λ (made : has_published (joined (view_of c) (view_of d)) j ≡ true).
      among_either j (view_of c).made (view_of d).made
      (λ m. of_mine (or_left (has_published (view_of c) j) (has_voided (view_of c) j) m))
      (λ m. of_theirs (or_left (has_published (view_of d) j) (has_voided (view_of d) j) m)) made)
      (λ (void : has_voided (joined (view_of c) (view_of d)) j ≡ true).
      among_either j (view_of c).given_up (view_of d).given_up
      (λ m. of_mine (or_right (has_published (view_of c) j) (has_voided (view_of c) j) m))
      (λ m. of_theirs (or_right (has_published (view_of d) j) (has_voided (view_of d) j) m)) void)
      (or_cases (has_published (joined (view_of c) (view_of d)) j) (has_voided (joined (view_of c) (view_of d)) j)
      (sym (ap (λ v. has_published v j || has_voided v j) met) ∙ h))

  -- the rows that the two published
  pub met_made : (a a' b c d r : Seat) → view_of a' ≡ parted (view_of a) → view_of b ≡ told (view_of a)
      → view_of r ≡ joined (view_of c) (view_of d) → SeesAll (view_of c) (view_of r) → SeesAll (view_of d) (view_of r)
      → MadeOfSeen e a' c → MadeOfSeen e b d → MadeOfSeen e a r
  met_made a a' b c d r first second met sees_mine sees_theirs mine theirs j h =
      among_either j (view_of c).made (view_of d).made
      (λ (m : has_published (view_of c) j ≡ true). ⊎_elim
      (λ (old : has_published (view_of a') j ≡ true). inl (sym (ap (λ v. has_published v j) first) ∙ old))
      (λ (n : HasNeeds e (HasSeen c) j). inr (needs-map e (HasSeen c) (HasSeen r) j sees_mine.published n)) (mine j m))
      (λ (m : has_published (view_of d) j ≡ true). ⊎_elim
      (λ (old : has_published (view_of b) j ≡ true). let no = sym (ap (λ v. has_published v j) second) ∙ old in cc)
      (λ (n : HasNeeds e (HasSeen d) j). inr (needs-map e (HasSeen d) (HasSeen r) j sees_theirs.published n)) (theirs j m))
      (sym (ap (λ v. has_published v j) met) ∙ h)

-- the seats that the two split from theirs met them again, and then these two met
pub met_all : (a a' b c d r : Seat) → view_of a' ≡ parted (view_of a) → view_of b ≡ told (view_of a)
    → view_of r ≡ joined (view_of c) (view_of d) → (view_of d).generation ≡ (view_of b).generation → HasMetAll a' c → HasMetAll b d
    → HasMetAll a r
met_all a a' b c d r first second met generation mine theirs k =
    let child : ℕ = (view_of a).generation + 1 in
    let split : (view_of a').children ≡ child ∷ (view_of a).children = ap (λ v. v.children) first in
    let before : (view_of a').met ≡ (view_of a).met = ap (λ v. v.met) first in
    let none_split : (view_of b).children ≡ [] = ap (λ v. v.children) second in
    let none_met : (view_of b).met ≡ [] = ap (λ v. v.met) second in
    let is_child : (view_of d).generation ≡ child = generation ∙ ap (λ v. v.generation) second in
    let children : (view_of r).children ≡ (view_of c).children ++ (view_of d).children = ap (λ v. v.children) met in
    let all_met : (view_of r).met ≡ (view_of c).met ++ (child ∷ (view_of d).met) =
    ap (λ v. v.met) met ∙ ap (λ n. (view_of c).met ++ (n ∷ (view_of d).met)) is_child in
    omega (
      arith,
      mine k,
      theirs k,
      ap (how_many k) split,
      ap (how_many k) before,
      ap (how_many k) none_split,
      ap (how_many k) none_met,
      ap (how_many k) children,
      ap (how_many k) all_met,
      how_many-append k (child ∷ []) (view_of a).children,
      how_many-append k (child ∷ []) (view_of d).met,
      how_many-append k (view_of c).children (view_of d).children,
      how_many-append k (view_of c).met (child ∷ (view_of d).met),
    )
