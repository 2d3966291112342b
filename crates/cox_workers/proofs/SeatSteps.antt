-- What a worker does to its seat: step after step, for a member and for those that it needs.
use Rattle.std.proofs.Common.{◌≡◌, ◌⊎◌, inl, inr, ⊎_elim, ℕ, ◌<◌, Bool, true, false, ◌==◌, ◌||◌, List, [], ◌∷◌, length, ℤ}
use Rattle.std.proofs.Common.{refl, sym, ap, ◌∙◌, subst}
use Rattle.std.specs.Prelude.{Result, Ok, Err, IfErr, IsErrAnd}
use Rattle.std.proofs.lemmas.Result.{MatchResult-weaker}
use Rattle.std.proofs.lemmas.Bool.{or_cases, or_parts, or_left, or_right, cond-true, cond-false, eqb-true, eq-eqb, false_from_ne_true}
use Rattle.cox_base.specs.IntegerMatrix.{integer_matrix}
use Rattle.cox_base.specs.Admissible.{IsAdmissible}
use Rattle.cox_reflect.proofs.Elements.{same-refl}
use Rattle.cox_hecke.specs.Needs.{itself}
use Rattle.cox_hecke.proofs.NeededElements.{needed-trans}
use Rattle.cox_context.specs.Closed.{Elements}
use Rattle.cox_context.specs.Numbers.{word_at}
use Rattle.cox_fill_core.specs.declared.event.RowState.{RowState}
use Rattle.cox_row_builder.specs.declared.fault.StepFault.{StepFault}
use Rattle.cox_row_builder.specs.declared.fault.StepFault.TheVariants.{NoMemory}
use Rattle.cox_row_builder.specs.Faults.{IsFault}
use Rattle.cox_klstep.specs.NeedsOf.{HasNeeds}
use Rattle.cox_claims.specs.declared.seat.Seat.{Seat}
use Rattle.cox_claims.specs.declared.view.View.{View}
use Rattle.cox_claims.specs.Knowledge.{among, without, holds, has_published, has_voided, saw_void, looked}
use Rattle.cox_claims.specs.Knowledge.{TellsSameSeats, SeesAll, Wins, Publishes, Voids}
use Rattle.cox_claims.specs.Seats.{view_of, splits_of, IsSameSeat, HasSeen, HasSeenVoid}
use Rattle.cox_claims.proofs.RowTests.{among_else}
use Rattle.cox_claims.proofs.Views.{looked_did, sees-refl, sees-trans}
use Rattle.cox_workers.specs.declared.missing.Missing.{Missing}
use Rattle.cox_workers.specs.declared.missing.Missing.TheVariants.{Void, Fault}
use Rattle.cox_workers.specs.SeatChanges.{IsNeededAt, HasEnded, MadeOfSeen, IsSeatKept, VoidsNone, IsVoid}
use Rattle.cox_workers.specs.SeatChanges.{IsRowMissing, IsUnmade}

-- ---- views

pub same_seats-refl : (v : View) → TellsSameSeats v v
same_seats-refl v = record { generation = refl; children = refl; met = refl }

pub same_seats-trans : (u v w : View) → TellsSameSeats u v → TellsSameSeats v w → TellsSameSeats u w
same_seats-trans u v w s t = record {
  generation = t.generation ∙ s.generation;
  children = t.children ∙ s.children;
  met = t.met ∙ s.met;
}

-- a seat that looks voids no row
pub looked_none : (a b : Seat) (k : ℕ) (x : RowState) → view_of b ≡ looked (view_of a) k x → VoidsNone a b
looked_none a b k x after = ap (λ v. v.given_up) after ∙ (looked_did (view_of a) k x).given_up

-- without a row that is not there a list is what it was
pub without-absent : (i : ℕ) (xs : List ℕ) → among i xs ≡ false → without i xs ≡ xs
without-absent i [] h = refl
without-absent i (x ∷ xs) h =
    let parts = or_parts (x == i) (among i xs) h
    in cond-false (x == i) (without i xs) (x ∷ without i xs) parts.0 ∙ ap (λ ys. x ∷ ys) (without-absent i xs parts.1)

-- ---- what a member needs

-- where all rows of one kind are of another, those that a row is made from are
pub needs-map : (e : Elements) (P Q : ℕ → Type 0) (i : ℕ) → ((j : ℕ) → P j → Q j) → HasNeeds e P i → HasNeeds e Q i
needs-map e P Q i f h = record {
  shorter = λ s j d l is. f j (h.shorter s j d l is);
  corrected = λ s u m d l c. f u (h.corrected s u m d l c);
}

module _ (e : Elements) where
  pub needs_itself : IsAdmissible (integer_matrix e.matrix) → (i : ℕ) → i < length e.members → IsNeededAt e i i
  needs_itself g i l = record { within = l; needed = itself (same-refl (integer_matrix e.matrix) g (word_at e.members i)) }

  pub needs-trans : IsAdmissible (integer_matrix e.matrix) → (i u j : ℕ) → IsNeededAt e i u → IsNeededAt e u j → IsNeededAt e i j
  needs-trans g i u j n m = record {
    within = m.within;
    needed = needed-trans (integer_matrix e.matrix) g (word_at e.members i) (word_at e.members u) (word_at e.members j) n.needed m.needed;
  }

  -- ---- what is kept

  -- rows that were published after those that they are made from, and more such
  pub made-trans : (a b c : Seat) → MadeOfSeen e a b → SeesAll (view_of b) (view_of c) → MadeOfSeen e b c → MadeOfSeen e a c
  made-trans a b c s seen t j h = ⊎_elim
      (λ (old : has_published (view_of b) j ≡ true). ⊎_elim (λ (older : has_published (view_of a) j ≡ true). inl older)
      (λ (n : HasNeeds e (HasSeen b) j). inr (needs-map e (HasSeen b) (HasSeen c) j seen.published n)) (s j old))
      (λ (n : HasNeeds e (HasSeen c) j). inr n) (t j h)

  pub kept-refl : (i : ℕ) (a : Seat) → IsSeatKept e i a a
  kept-refl i a = record {
    same = record { table = refl; number = refl };
    splits = refl;
    seats = same_seats-refl (view_of a);
    held = refl;
    seen = sees-refl (view_of a);
    ended = λ j h. inl h;
    made = λ j h. inl h;
  }

  pub kept-trans : (i : ℕ) (a b c : Seat) → IsSeatKept e i a b → IsSeatKept e i b c → IsSeatKept e i a c
  kept-trans i a b c s t = record {
    same = record { table = t.same.table ∙ s.same.table; number = t.same.number ∙ s.same.number };
    splits = t.splits ∙ s.splits;
    seats = same_seats-trans (view_of a) (view_of b) (view_of c) s.seats t.seats;
    held = t.held ∙ s.held;
    seen = sees-trans (view_of a) (view_of b) (view_of c) s.seen t.seen;
    ended = λ j h. ⊎_elim (λ (old : HasEnded b j). s.ended j old) (λ (n : IsNeededAt e i j). inr n) (t.ended j h);
    made = made-trans a b c s.made t.seen t.made;
  }

  -- a seat that looks at some row
  pub looked_kept : (i k : ℕ) (a b : Seat) (x : RowState) → IsSameSeat a b → splits_of b ≡ splits_of a → view_of b ≡ looked (view_of a) k x
      → SeesAll (view_of a) (view_of b) → IsSeatKept e i a b
  looked_kept i k a b x same splits after seen =
      let did = looked_did (view_of a) k x in
      let published = λ (j : ℕ). ap (λ v. has_published v j) after ∙ ap (among j) did.made in
      let voided = λ (j : ℕ). ap (λ v. has_voided v j) after ∙ ap (among j) did.given_up in
      record {
        same = same;
        splits = splits;
        seats = subst (TellsSameSeats (view_of a)) (sym after) did.seats;
        held = ap (λ v. v.held) after ∙ did.held;
        seen = seen;
        ended = λ j h. inl
            (ap (λ p. p || has_voided (view_of a) j) (sym (published j)) ∙ ap (λ q. has_published (view_of b) j || q) (sym (voided j)) ∙ h);
        made = λ j h. inl (sym (published j) ∙ h);
      }

  -- for a row that is needed, so for the row that needs it
  pub kept-needed : IsAdmissible (integer_matrix e.matrix) → (i u : ℕ) (a b : Seat) → IsNeededAt e i u → IsSeatKept e u a b
      → IsSeatKept e i a b
  kept-needed g i u a b n k = record {
    same = k.same;
    splits = k.splits;
    seats = k.seats;
    held = k.held;
    seen = k.seen;
    ended = λ j h. ⊎_elim (λ (old : HasEnded a j). inl old) (λ (m : IsNeededAt e u j). inr (needs-trans g i u j n m)) (k.ended j h);
    made = k.made;
  }

  -- ---- why a row is not there

  -- the row itself was found Void, and the seat voided nothing before
  pub looked_void : IsAdmissible (integer_matrix e.matrix) → (i : ℕ) (a b c : Seat) → i < length e.members → VoidsNone a b
      → view_of c ≡ looked (view_of b) i RowState.Void → IsVoid e i i a c
  looked_void g i a b c within none after = record {
    needed = needs_itself g i within;
    void = ap (λ v. saw_void v i) after ∙ or_left (i == i) (saw_void (view_of b) i) (eq-eqb i i refl);
    mark = ap (λ v. among i v.given_up) after ∙ ap (among i) none;
  }

  -- for a row that is needed, so for the row that needs it, where the seat voided nothing before
  pub missing-needed : IsAdmissible (integer_matrix e.matrix) → (limit : ℤ) (i u : ℕ) (a b c : Seat) (m : Missing) → IsNeededAt e i u
      → VoidsNone a b → IsRowMissing e limit u b c m → IsRowMissing e limit i a c m
  missing-needed g limit i u a b c (Void j) n none h = record {
    needed = needs-trans g i u j n h.needed;
    void = h.void;
    mark = h.mark ∙ ap (among j) none;
  }
  missing-needed g limit i u a b c (Fault fault) n none (j, h) = (
    j,
    record {
      needed = needs-trans g i u j n h.needed;
      is = h.is;
      void = h.void;
      now = h.now;
      before = ap (among j) (sym none) ∙ h.before;
    },
  )

  -- a row is not made where one that it needs is missing
  pub unmade_by-needed : {T : Type 0} → IsAdmissible (integer_matrix e.matrix) → (limit : ℤ) (i u : ℕ) (a b c : Seat)
      (result : Result T Missing)
      → IsNeededAt e i u → VoidsNone a b → IfErr result (IsRowMissing e limit u b c) → IfErr result (IsUnmade e limit i a c)
  unmade_by-needed g limit i u a b c result n none h =
      MatchResult-weaker result h (λ x t. t) (λ m f. inl (missing-needed g limit i u a b c m n none f))

  -- or where memory ran out
  pub unmade_err : {T : Type 0} → (limit : ℤ) (i : ℕ) (a b : Seat) (r : Result T Missing) → IsErrAnd r (λ m. m ≡ Fault NoMemory)
      → IfErr r (IsUnmade e limit i a b)
  unmade_err limit i a b (Ok x) h = tt
  unmade_err limit i a b (Err m) h = inr (NoMemory, h, tt)

  -- ---- a claim that is won, and what comes of it

  module _ (g : IsAdmissible (integer_matrix e.matrix)) (i : ℕ) (within : i < length e.members) (a b c d : Seat)
      (claimed : IsSameSeat a b) (claimed-splits : splits_of b ≡ splits_of a) (wins : Wins (view_of a) i (view_of b))
      (kept : IsSeatKept e i b c)
      (ended : IsSameSeat c d) (ended-splits : splits_of d ≡ splits_of c)
    where
      -- the row was not held before
      not-held : holds (view_of a) i ≡ false
      not-held = false_from_ne_true (holds (view_of a) i) (λ h. let no = wins.known.held h in cc)

      held-again : without i (view_of c).held ≡ (view_of a).held
      held-again =
          ap (without i) (kept.held ∙ ap (λ v. v.held) wins.after)
          ∙ cond-true (i == i) (without i (view_of a).held) (i ∷ without i (view_of a).held) (eq-eqb i i refl)
          ∙ without-absent i (view_of a).held not-held

      same : IsSameSeat a d
      same = record {
        table = ended.table ∙ kept.same.table ∙ claimed.table;
        number = ended.number ∙ kept.same.number ∙ claimed.number;
      }

      seats : TellsSameSeats (view_of a) (view_of c)
      seats = same_seats-trans (view_of a) (view_of b) (view_of c)
          (subst (TellsSameSeats (view_of a)) (sym wins.after) (record { generation = refl; children = refl; met = refl })) kept.seats

      seen : SeesAll (view_of c) (view_of d) → SeesAll (view_of a) (view_of d)
      seen after = sees-trans (view_of a) (view_of b) (view_of d) wins.kept (sees-trans (view_of b) (view_of c) (view_of d) kept.seen after)

      -- the rows that were published or voided are those from before the claim, or needed
      ended-before : (j : ℕ) → HasEnded c j → HasEnded a j ⊎ IsNeededAt e i j
      ended-before j h = ⊎_elim
          (λ (old : HasEnded b j). inl (sym (ap (λ v. has_published v j || has_voided v j) wins.after) ∙ old))
          (λ (n : IsNeededAt e i j). inr n) (kept.ended j h)

      -- and row i itself is needed
      with_itself : (P : ℕ → Type 0) (j : ℕ) (rest : Bool) → (rest ≡ true → P j ⊎ IsNeededAt e i j) → ((i == j) || rest) ≡ true
          → P j ⊎ IsNeededAt e i j
      with_itself P j rest old h = ⊎_elim
          (λ (this : (i == j) ≡ true). inr (subst (IsNeededAt e i) (eqb-true i j this) (needs_itself g i within)))
          old (or_cases (i == j) rest h)

      -- a row that was published is row i, or was published before, or was voided before
      ended_or_published : (j : ℕ) → (((i == j) || has_published (view_of c) j) || has_voided (view_of c) j) ≡ true
          → HasEnded a j ⊎ IsNeededAt e i j
      ended_or_published j h = ⊎_elim
          (λ (made : ((i == j) || has_published (view_of c) j) ≡ true).
          with_itself (HasEnded a) j (has_published (view_of c) j)
          (λ m. ended-before j (or_left (has_published (view_of c) j) (has_voided (view_of c) j) m)) made)
          (λ (void : has_voided (view_of c) j ≡ true).
          ended-before j (or_right (has_published (view_of c) j) (has_voided (view_of c) j) void))
          (or_cases ((i == j) || has_published (view_of c) j) (has_voided (view_of c) j) h)

      ended_or_voided : (j : ℕ) → (has_published (view_of c) j || ((i == j) || has_voided (view_of c) j)) ≡ true
          → HasEnded a j ⊎ IsNeededAt e i j
      ended_or_voided j h = ⊎_elim
          (λ (made : has_published (view_of c) j ≡ true).
          ended-before j (or_left (has_published (view_of c) j) (has_voided (view_of c) j) made))
          (λ (void : ((i == j) || has_voided (view_of c) j) ≡ true).
          with_itself (HasEnded a) j (has_voided (view_of c) j)
          (λ v. ended-before j (or_right (has_published (view_of c) j) (has_voided (view_of c) j) v)) void)
          (or_cases (has_published (view_of c) j) ((i == j) || has_voided (view_of c) j) h)

      -- rows that were published since are made of what was seen
      made-before : SeesAll (view_of c) (view_of d) → (j : ℕ) → has_published (view_of c) j ≡ true
          → (has_published (view_of a) j ≡ true) ⊎ HasNeeds e (HasSeen d) j
      made-before after j h = ⊎_elim
          (λ (old : has_published (view_of b) j ≡ true). inl (sym (ap (λ v. has_published v j) wins.after) ∙ old))
          (λ (n : HasNeeds e (HasSeen c) j). inr (needs-map e (HasSeen c) (HasSeen d) j after.published n)) (kept.made j h)

      pub published_kept : Publishes (view_of c) i (view_of d) → HasNeeds e (HasSeen c) i → IsSeatKept e i a d
      published_kept p needs = record {
        same = same;
        splits = ended-splits ∙ kept.splits ∙ claimed-splits;
        seats = same_seats-trans (view_of a) (view_of c) (view_of d) seats
            (subst (TellsSameSeats (view_of c)) (sym p.after) (record { generation = refl; children = refl; met = refl }));
        held = ap (λ v. v.held) p.after ∙ held-again;
        seen = seen p.kept;
        ended = λ j h. ended_or_published j (ap (λ v. has_published v j || has_voided v j) (sym p.after) ∙ h);
        made = λ j h. ⊎_elim
            (λ (this : (i == j) ≡ true). inr (subst (HasNeeds e (HasSeen d)) (eqb-true i j this)
            (needs-map e (HasSeen c) (HasSeen d) i p.kept.published needs)))
            (λ (old : has_published (view_of c) j ≡ true). made-before p.kept j old)
            (or_cases (i == j) (has_published (view_of c) j) (ap (λ v. has_published v j) (sym p.after) ∙ h));
      }

      pub voided_kept : Voids (view_of c) i (view_of d) → IsSeatKept e i a d
      voided_kept p = record {
        same = same;
        splits = ended-splits ∙ kept.splits ∙ claimed-splits;
        seats = same_seats-trans (view_of a) (view_of c) (view_of d) seats
            (subst (TellsSameSeats (view_of c)) (sym p.after) (record { generation = refl; children = refl; met = refl }));
        held = ap (λ v. v.held) p.after ∙ held-again;
        seen = seen p.kept;
        ended = λ j h. ended_or_voided j (ap (λ v. has_published v j || has_voided v j) (sym p.after) ∙ h);
        made = λ j h. made-before p.kept j (ap (λ v. has_published v j) (sym p.after) ∙ h);
      }

      -- row i was Claimed to the end, so it is not one that was seen Void
      voided_as_before : Voids (view_of c) i (view_of d) → (j : ℕ) → HasSeenVoid c j → has_voided (view_of d) j ≡ has_voided (view_of c) j
      voided_as_before p j void = ap (λ v. among j v.given_up) p.after
          ∙ among_else i j (view_of c).given_up (λ same. let no = p.known.void (subst (λ k. HasSeenVoid c k) same void) in cc)

      missing : Voids (view_of c) i (view_of d) → (limit : ℤ) (m : Missing) → IsRowMissing e limit i b c m → IsRowMissing e limit i a d m
      missing p limit (Void j) h = record {
        needed = h.needed;
        void = p.kept.void j h.void;
        mark = voided_as_before p j h.void ∙ h.mark ∙ ap (λ v. among j v.given_up) wins.after;
      }
      missing p limit (Fault fault) (j, h) = (
        j,
        record {
          needed = h.needed;
          is = h.is;
          void = p.kept.void j h.void;
          now = ap (λ v. has_voided v j) p.after ∙ or_right (i == j) (has_voided (view_of c) j) h.now;
          before = sym (ap (λ v. has_voided v j) wins.after) ∙ h.before;
        },
      )

      pub unmade_missing : Voids (view_of c) i (view_of d) → HasSeenVoid d i → (limit : ℤ) (m : Missing) → IsUnmade e limit i b c m
          → IsRowMissing e limit i a d m
      unmade_missing p void limit m h = ⊎_elim (λ (other : IsRowMissing e limit i b c m). missing p limit m other)
          (λ (own : (fault : StepFault) × (m ≡ Fault fault) × IsFault (integer_matrix e.matrix) e.members limit (λ w. w ≡ i) fault).
          subst (IsRowMissing e limit i a d) (sym own.1) (
            i,
            record {
              needed = needs_itself g i within;
              is = own.2;
              void = void;
              now = ap (λ v. has_voided v i) p.after ∙ or_left (i == i) (has_voided (view_of c) i) (eq-eqb i i refl);
              before = false_from_ne_true (has_voided (view_of a) i) (λ h. let no = wins.known.given_up h in cc);
            },
          ))
          h
