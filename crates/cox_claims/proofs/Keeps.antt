-- The rule on states and views is kept where a seat learns what is so, and where it changes the state of a row as a claim, a publication
-- or a void does. States and views are functions of numbers here.
use Rattle.std.proofs.Common.{◌≡◌, ◌≢◌, ℕ, true, false, ◌⊎◌, ⊎_elim, inl, inr, refl, sym, ap, subst, ◌∙◌, arith}
use Rattle.std.proofs.lemmas.Bool.{cases_eq, false≢true}
use Rattle.std.proofs.lemmas.Bool.Decides.{nat_tests}
use Rattle.cox_fill_core.specs.declared.event.RowState.{RowState}
use Rattle.cox_fill_core.specs.Fill.{put}
use Rattle.cox_fill_core.proofs.Points.{put_here, put_else}
use Rattle.cox_claims.specs.declared.view.View.{View}
use Rattle.cox_claims.specs.Knowledge.{holds, saw_published, saw_void, saw_claimed, has_published, has_voided, caused, IsKnown}
use Rattle.cox_claims.specs.Knowledge.{TellsSameSeats, nothing, won, published, voided}
use Rattle.cox_claims.specs.Rule.{IsKept}
use Rattle.cox_claims.proofs.RowTests.{among_else, among-without_same, among-without_other}

-- a value of a changed function: the new one, or an old one
pub at_put : {X : Type 0} (P : X → Type 0) (f : ℕ → X) (a : ℕ) (w : X) (b : ℕ) → (b ≡ a → P w) → (b ≢ a → P (f b)) → P (put f a w b)
at_put P f a w b here else = ⊎_elim
    (λ e. subst P (sym (ap (put f a w) e ∙ put_here f a w)) (here e))
    (λ ne. subst P (sym (put_else f a w b ne)) (else ne))
    (cases_eq b a)

-- ---- a seat learns what is so

-- what seats did is still told by some view, the seat holds no row that it did not hold, and what it knows fits the states
pub learns_keeps : (state : ℕ → RowState) (view : ℕ → View) (a : ℕ) (w : View) → IsKept state view
    → ((i : ℕ) (x : RowState) → caused (view a) i x ≡ true → (b : ℕ) × (caused (put view a w b) i x ≡ true))
    → ((i : ℕ) → holds w i ≡ true → holds (view a) i ≡ true)
    → ((i : ℕ) → IsKnown w i (state i)) → (w.spent ≡ true → w ≡ nothing) → IsKept state (put view a w)
learns_keeps state view a w k causes held known spent = record {
  cause = λ i h. let c = k.cause i h in ⊎_elim
      (λ e. causes i (state i) (ap (λ z. caused (view z) i (state i)) (sym e) ∙ c.1))
      (λ ne. (c.0, ap (λ v. caused v i (state i)) (put_else view a w c.0 ne) ∙ c.1))
      (cases_eq c.0 a);
  one = λ b d i h l. k.one b d i (still b i h) (still d i l);
  known = λ b i. at_put (λ v. IsKnown v i (state i)) view a w b (λ _. known i) (λ _. k.known b i);
  spent = λ b. at_put (λ v. v.spent ≡ true → v ≡ nothing) view a w b (λ _. spent) (λ _. k.spent b);
}
  where
    still : (b i : ℕ) → holds (put view a w b) i ≡ true → holds (view b) i ≡ true
    still b i = at_put (λ v. holds v i ≡ true → holds (view b) i ≡ true) view a w b
        (λ e h. ap (λ z. holds (view z) i) e ∙ held i h) (λ _ h. h)

-- what the seat did, its new view tells too
pub causes_here : (view : ℕ → View) (a : ℕ) (w : View) → ((i : ℕ) (x : RowState) → caused (view a) i x ≡ true → caused w i x ≡ true)
    → (i : ℕ) (x : RowState) → caused (view a) i x ≡ true → (b : ℕ) × (caused (put view a w b) i x ≡ true)
causes_here view a w still i x h = (a, ap (λ v. caused v i x) (put_here view a w) ∙ still i x h)

-- ---- a seat changes the state of a row

-- the views v and w know and did the same of row j
pub record KnowsSame (v w : View) (j : ℕ) : Type 0 where
  pub held : holds w j ≡ holds v j
  pub published : saw_published w j ≡ saw_published v j
  pub void : saw_void w j ≡ saw_void v j
  pub claimed : saw_claimed w j ≡ saw_claimed v j
  pub made : has_published w j ≡ has_published v j
  pub given_up : has_voided w j ≡ has_voided v j

-- a seat whose view was v made the state of row i x, and its view is w
pub record Acts (v : View) (i : ℕ) (x : RowState) (w : View) : Type 0 where
  pub others : (j : ℕ) → j ≢ i → KnowsSame v w j
  pub here : IsKnown w i x
  pub cause : caused w i x ≡ true
  pub final : x ≢ RowState.Free
  pub live : w.spent ≡ v.spent
  pub seats : TellsSameSeats v w

pub won_acts : (v : View) (i : ℕ) → IsKnown v i RowState.Free → Acts v i RowState.Claimed (won v i)
won_acts v i k = record {
  others = λ j ne. record { held = among_else i j v.held ne; published = refl; void = refl; claimed = refl; made = refl; given_up = refl };
  here = record {
    held = λ _. refl;
    published = λ h. let s = k.published h in cc;
    void = λ h. let s = k.void h in cc;
    claimed = λ _ e. cc;
    made = λ h. let s = k.made h in cc;
    given_up = λ h. let s = k.given_up h in cc;
  };
  cause = grind (arith, nat_tests);
  final = λ e. cc;
  live = refl;
  seats = record { generation = refl; children = refl; met = refl };
}

pub published_acts : (v : View) (i : ℕ) → IsKnown v i RowState.Claimed → Acts v i RowState.Published (published v i)
published_acts v i k = record {
  others = λ j ne. record {
    held = among-without_other i j v.held ne;
    published = among_else i j v.published ne;
    void = refl;
    claimed = refl;
    made = among_else i j v.made ne;
    given_up = refl;
  };
  here = record {
    held = λ h. absurd (false≢true (sym (among-without_same i v.held) ∙ h));
    published = λ _. refl;
    void = λ h. let s = k.void h in cc;
    claimed = λ _ e. cc;
    made = λ _. refl;
    given_up = λ h. let s = k.given_up h in cc;
  };
  cause = grind (arith, nat_tests);
  final = λ e. cc;
  live = refl;
  seats = record { generation = refl; children = refl; met = refl };
}

pub voided_acts : (v : View) (i : ℕ) → IsKnown v i RowState.Claimed → Acts v i RowState.Void (voided v i)
voided_acts v i k = record {
  others = λ j ne. record {
    held = among-without_other i j v.held ne;
    published = refl;
    void = among_else i j v.voids ne;
    claimed = refl;
    made = refl;
    given_up = among_else i j v.given_up ne;
  };
  here = record {
    held = λ h. absurd (false≢true (sym (among-without_same i v.held) ∙ h));
    published = λ h. let s = k.published h in cc;
    void = λ _. refl;
    claimed = λ _ e. cc;
    made = λ h. let s = k.made h in cc;
    given_up = λ _. refl;
  };
  cause = grind (arith, nat_tests);
  final = λ e. cc;
  live = refl;
  seats = record { generation = refl; children = refl; met = refl };
}

same_caused : (v w : View) (j : ℕ) → KnowsSame v w j → (y : RowState) → caused w j y ≡ caused v j y
same_caused v w j s RowState.Free = refl
same_caused v w j s RowState.Claimed = s.held
same_caused v w j s RowState.Published = s.made
same_caused v w j s RowState.Void = s.given_up

same_known : (v w : View) (j : ℕ) (y : RowState) → KnowsSame v w j → IsKnown v j y → IsKnown w j y
same_known v w j y s k = record {
  held = λ h. k.held (sym s.held ∙ h);
  published = λ h. k.published (sym s.published ∙ h);
  void = λ h. k.void (sym s.void ∙ h);
  claimed = λ h. k.claimed (sym s.claimed ∙ h);
  made = λ h. k.made (sym s.made ∙ h);
  given_up = λ h. k.given_up (sym s.given_up ∙ h);
}

-- seat a may change the state of row i where that is Free, or where the seat holds the row
pub acts_keeps : (state : ℕ → RowState) (view : ℕ → View) (a i : ℕ) (x : RowState) (w : View) → IsKept state view
    → (state i ≡ RowState.Free) ⊎ (holds (view a) i ≡ true) → (view a).spent ≡ false → Acts (view a) i x w
    → IsKept (put state i x) (put view a w)
acts_keeps state view a i x w k mine live acts = record {
  cause = λ j h. ⊎_elim
      (λ e. (a, subst (λ z. caused (put view a w a) z (put state i x z) ≡ true) (sym e) cause_here))
      (λ ne. let same = put_else state i x j ne in let c = k.cause j (λ f. h (same ∙ f)) in
      (c.0, subst (λ y. caused (put view a w c.0) j y ≡ true) (sym same) (cause_else j c.0 ne c.1)))
      (cases_eq j i);
  one = λ b d j h l. ⊎_elim
      (λ e. ⊎_elim (λ f. e.0 ∙ sym f.0) (λ o. e.0 ∙ sym (alone d j e.1 o)) (held_by d j l))
      (λ o. ⊎_elim (λ f. alone b j f.1 o ∙ sym f.0) (λ p. k.one b d j o p) (held_by d j l))
      (held_by b j h);
  known = λ b j. at_put (λ v. IsKnown v j (put state i x j)) view a w b (λ _. hers j) (λ ne. theirs b j ne);
  spent = λ b. at_put (λ v. v.spent ≡ true → v ≡ nothing) view a w b (λ _ s. absurd (false≢true (sym (acts.live ∙ live) ∙ s)))
      (λ _. k.spent b);
}
  where
    cause_here : caused (put view a w a) i (put state i x i) ≡ true
    cause_here = subst (λ y. caused (put view a w a) i y ≡ true) (sym (put_here state i x))
        (ap (λ v. caused v i x) (put_here view a w) ∙ acts.cause)

    cause_else : (j b : ℕ) → j ≢ i → caused (view b) j (state j) ≡ true → caused (put view a w b) j (state j) ≡ true
    cause_else j b ne h = at_put (λ v. caused v j (state j) ≡ true) view a w b
        (λ e. same_caused (view a) w j (acts.others j ne) (state j) ∙ ap (λ z. caused (view z) j (state j)) (sym e) ∙ h) (λ _. h)

    -- who holds row i is seat a
    alone : (b j : ℕ) → j ≡ i → holds (view b) j ≡ true → b ≡ a
    alone b j e h =
        let there = ap (holds (view b)) (sym e) ∙ h in
        ⊎_elim (λ free. let s = (k.known b i).held there in cc) (λ m. k.one b a i there m) mine

    held_by : (b j : ℕ) → holds (put view a w b) j ≡ true → ((b ≡ a) × (j ≡ i)) ⊎ (holds (view b) j ≡ true)
    held_by b j = at_put (λ v. holds v j ≡ true → ((b ≡ a) × (j ≡ i)) ⊎ (holds (view b) j ≡ true)) view a w b
        (λ e h. ⊎_elim (λ s. inl (e, s)) (λ ne. inr (ap (λ z. holds (view z) j) e ∙ sym (acts.others j ne).held ∙ h)) (cases_eq j i))
        (λ _ h. inr h)

    hers : (j : ℕ) → IsKnown w j (put state i x j)
    hers j = ⊎_elim
        (λ e. subst (λ z. IsKnown w z (put state i x z)) (sym e) (subst (IsKnown w i) (sym (put_here state i x)) acts.here))
        (λ ne. subst (IsKnown w j) (sym (put_else state i x j ne)) (same_known (view a) w j (state j) (acts.others j ne) (k.known a j)))
        (cases_eq j i)

    -- an ended row is another one
    ended : (j : ℕ) (y : RowState) → y ≢ RowState.Free → y ≢ RowState.Claimed → state j ≡ y → put state i x j ≡ y
    ended j y f c h = ⊎_elim
        (λ e. absurd (⊎_elim (λ free. f (sym h ∙ ap state e ∙ free)) (λ m. c (sym h ∙ ap state e ∙ (k.known a i).held m)) mine))
        (λ ne. put_else state i x j ne ∙ h)
        (cases_eq j i)

    theirs : (b j : ℕ) → b ≢ a → IsKnown (view b) j (put state i x j)
    theirs b j ne =
        let n = k.known b j in record {
          held = λ h. ⊎_elim (λ e. absurd (ne (alone b j e h))) (λ o. put_else state i x j o ∙ n.held h) (cases_eq j i);
          published = λ h. ended j RowState.Published (λ e. cc) (λ e. cc) (n.published h);
          void = λ h. ended j RowState.Void (λ e. cc) (λ e. cc) (n.void h);
          claimed = λ h. ⊎_elim
              (λ e f. acts.final (sym (put_here state i x) ∙ ap (put state i x) (sym e) ∙ f))
              (λ o f. n.claimed h (sym (put_else state i x j o) ∙ f))
              (cases_eq j i);
          made = λ h. ended j RowState.Published (λ e. cc) (λ e. cc) (n.made h);
          given_up = λ h. ended j RowState.Void (λ e. cc) (λ e. cc) (n.given_up h);
        }

-- ---- states are told by views

free_cases : (x : RowState) → (x ≡ RowState.Free) ⊎ (x ≢ RowState.Free)
free_cases RowState.Free = inl refl
free_cases RowState.Claimed = inr (λ e. cc)
free_cases RowState.Published = inr (λ e. cc)
free_cases RowState.Void = inr (λ e. cc)

caused_known : (v : View) (i : ℕ) (x y : RowState) → caused v i x ≡ true → IsKnown v i y → y ≡ x
caused_known v i RowState.Free y h n = cc
caused_known v i RowState.Claimed y h n = n.held h
caused_known v i RowState.Published y h n = n.made h
caused_known v i RowState.Void y h n = n.given_up h

-- under the rule, the same views go with the same states
pub same_state : (state other : ℕ → RowState) (view : ℕ → View) (i : ℕ) → IsKept state view → IsKept other view → state i ≡ other i
same_state state other view i k l = ⊎_elim
    (λ f. ⊎_elim
    (λ e. e ∙ sym f)
    (λ n. let c = k.cause i n in sym (caused_known (view c.0) i (state i) (other i) c.1 (l.known c.0 i)))
    (free_cases (state i)))
    (λ n. let c = l.cause i n in caused_known (view c.0) i (other i) (state i) c.1 (k.known c.0 i))
    (free_cases (other i))
