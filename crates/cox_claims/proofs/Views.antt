-- What a look, a split and a meeting do to a view: what the seat knows then is so, and no step forgets what was seen.
use Rattle.std.proofs.Common.{◌≡◌, ℕ, true, eqb, ⊎_elim, List, [], ◌++◌, refl, sym, ap, ◌∙◌}
use Rattle.std.proofs.lemmas.Bool.{or_cases, or_left, or_right, eqb-true, false≢true}
use Rattle.cox_fill_core.specs.declared.event.RowState.{RowState}
use Rattle.cox_claims.specs.declared.view.View.{View}
use Rattle.cox_claims.specs.Knowledge.{among, saw_published, saw_void, saw_claimed, caused, IsKnown}
use Rattle.cox_claims.specs.Knowledge.{TellsSameSeats, SeesAll, nothing, looked, noted, won, published, voided, parted, told, joined}
use Rattle.cox_claims.proofs.RowTests.{among-append, among_either}

-- ---- a look

-- the view w holds what v holds, did what v did, and is of the same seat
pub record DidSame (v w : View) : Type 0 where
  pub held : w.held ≡ v.held
  pub made : w.made ≡ v.made
  pub given_up : w.given_up ≡ v.given_up
  pub live : w.spent ≡ v.spent
  pub seats : TellsSameSeats v w

pub looked_did : (v : View) (i : ℕ) (x : RowState) → DidSame v (looked v i x)
looked_did v i RowState.Free =
    record { held = refl; made = refl; given_up = refl; live = refl; seats = record { generation = refl; children = refl; met = refl } }
looked_did v i RowState.Claimed =
    record { held = refl; made = refl; given_up = refl; live = refl; seats = record { generation = refl; children = refl; met = refl } }
looked_did v i RowState.Published =
    record { held = refl; made = refl; given_up = refl; live = refl; seats = record { generation = refl; children = refl; met = refl } }
looked_did v i RowState.Void =
    record { held = refl; made = refl; given_up = refl; live = refl; seats = record { generation = refl; children = refl; met = refl } }

pub did_caused : (v w : View) → DidSame v w → (i : ℕ) (x : RowState) → caused w i x ≡ caused v i x
did_caused v w s i RowState.Free = refl
did_caused v w s i RowState.Claimed = ap (among i) s.held
did_caused v w s i RowState.Published = ap (among i) s.made
did_caused v w s i RowState.Void = ap (among i) s.given_up

-- what a seat notes of row i is so
noted_known : (v : View) (i : ℕ) (x : RowState) (j : ℕ) (y : RowState) → (j ≡ i → y ≡ x) → IsKnown v j y → IsKnown (noted v i x) j y
noted_known v i RowState.Free j y is k = k
noted_known v i RowState.Claimed j y is k = record {
  held = k.held;
  published = k.published;
  void = k.void;
  claimed = λ h. ⊎_elim (λ e f. let s = is (sym (eqb-true i j e)) in cc) k.claimed (or_cases (eqb i j) (saw_claimed v j) h);
  made = k.made;
  given_up = k.given_up;
}
noted_known v i RowState.Published j y is k = record {
  held = k.held;
  published = λ h. ⊎_elim (λ e. is (sym (eqb-true i j e))) k.published (or_cases (eqb i j) (saw_published v j) h);
  void = k.void;
  claimed = k.claimed;
  made = k.made;
  given_up = k.given_up;
}
noted_known v i RowState.Void j y is k = record {
  held = k.held;
  published = k.published;
  void = λ h. ⊎_elim (λ e. is (sym (eqb-true i j e))) k.void (or_cases (eqb i j) (saw_void v j) h);
  claimed = k.claimed;
  made = k.made;
  given_up = k.given_up;
}

pub looked_known : (v : View) (i : ℕ) (x : RowState) (j : ℕ) (y : RowState) → (j ≡ i → y ≡ x) → IsKnown v j y → IsKnown (looked v i x) j y
looked_known v i x j y is k =
    let n = noted_known v i x j y is k in
    record { held = n.held; published = n.published; void = n.void; claimed = n.claimed; made = n.made; given_up = n.given_up }

-- ---- a split and a meeting

pub parted_known : (v : View) (j : ℕ) (y : RowState) → IsKnown v j y → IsKnown (parted v) j y
parted_known v j y k =
    record { held = k.held; published = k.published; void = k.void; claimed = k.claimed; made = k.made; given_up = k.given_up }

pub parted_caused : (v : View) (j : ℕ) (x : RowState) → caused (parted v) j x ≡ caused v j x
parted_caused v j RowState.Free = refl
parted_caused v j RowState.Claimed = refl
parted_caused v j RowState.Published = refl
parted_caused v j RowState.Void = refl

pub told_known : (v : View) (j : ℕ) (y : RowState) → IsKnown v j y → IsKnown (told v) j y
told_known v j y k = record {
  held = λ h. cc;
  published = k.published;
  void = k.void;
  claimed = k.claimed;
  made = λ h. cc;
  given_up = λ h. cc;
}

in_first : (j : ℕ) (xs ys : List ℕ) → among j xs ≡ true → among j (xs ++ ys) ≡ true
in_first j xs ys h = among-append j xs ys ∙ or_left (among j xs) (among j ys) h

in_second : (j : ℕ) (xs ys : List ℕ) → among j ys ≡ true → among j (xs ++ ys) ≡ true
in_second j xs ys h = among-append j xs ys ∙ or_right (among j xs) (among j ys) h

pub joined_known : (v w : View) (j : ℕ) (y : RowState) → IsKnown v j y → IsKnown w j y → IsKnown (joined v w) j y
joined_known v w j y k l = record {
  held = k.held;
  published = among_either j v.published w.published k.published l.published;
  void = among_either j v.voids w.voids k.void l.void;
  claimed = among_either j v.claimed w.claimed k.claimed l.claimed;
  made = among_either j v.made w.made k.made l.made;
  given_up = among_either j v.given_up w.given_up k.given_up l.given_up;
}

pub joined_caused_first : (v w : View) (j : ℕ) (x : RowState) → caused v j x ≡ true → caused (joined v w) j x ≡ true
joined_caused_first v w j RowState.Free h = h
joined_caused_first v w j RowState.Claimed h = h
joined_caused_first v w j RowState.Published h = in_first j v.made w.made h
joined_caused_first v w j RowState.Void h = in_first j v.given_up w.given_up h

-- of a seat that holds nothing
pub joined_caused_second : (v w : View) (j : ℕ) (x : RowState) → w.held ≡ [] → caused w j x ≡ true → caused (joined v w) j x ≡ true
joined_caused_second v w j RowState.Free idle h = h
joined_caused_second v w j RowState.Claimed idle h = absurd (false≢true (sym (ap (among j) idle) ∙ h))
joined_caused_second v w j RowState.Published idle h = in_second j v.made w.made h
joined_caused_second v w j RowState.Void idle h = in_second j v.given_up w.given_up h

pub nothing_known : (j : ℕ) (y : RowState) → IsKnown nothing j y
nothing_known j y = record { held = λ h. cc; published = λ h. cc; void = λ h. cc; claimed = λ h. cc; made = λ h. cc; given_up = λ h. cc }

pub nothing_caused : (j : ℕ) (x : RowState) → caused nothing j x ≡ true → ⊥
nothing_caused j RowState.Free h = cc
nothing_caused j RowState.Claimed h = cc
nothing_caused j RowState.Published h = cc
nothing_caused j RowState.Void h = cc

-- ---- no step forgets what was seen

pub sees-refl : (v : View) → SeesAll v v
sees-refl v = record { published = λ i h. h; void = λ i h. h; claimed = λ i h. h }

pub sees-trans : (u v w : View) → SeesAll u v → SeesAll v w → SeesAll u w
sees-trans u v w s t = record {
  published = λ i h. t.published i (s.published i h);
  void = λ i h. t.void i (s.void i h);
  claimed = λ i h. t.claimed i (s.claimed i h);
}

pub looked_sees : (v : View) (i : ℕ) (x : RowState) → SeesAll v (looked v i x)
looked_sees v i RowState.Free = record { published = λ j h. h; void = λ j h. h; claimed = λ j h. h }
looked_sees v i RowState.Claimed = record { published = λ j h. h; void = λ j h. h; claimed = λ j h. or_right (eqb i j) (saw_claimed v j) h }
looked_sees v i RowState.Published =
    record { published = λ j h. or_right (eqb i j) (saw_published v j) h; void = λ j h. h; claimed = λ j h. h }
looked_sees v i RowState.Void = record { published = λ j h. h; void = λ j h. or_right (eqb i j) (saw_void v j) h; claimed = λ j h. h }

pub won_sees : (v : View) (i : ℕ) → SeesAll v (won v i)
won_sees v i = record { published = λ j h. h; void = λ j h. h; claimed = λ j h. h }

pub published_sees : (v : View) (i : ℕ) → SeesAll v (published v i)
published_sees v i = record { published = λ j h. or_right (eqb i j) (saw_published v j) h; void = λ j h. h; claimed = λ j h. h }

pub voided_sees : (v : View) (i : ℕ) → SeesAll v (voided v i)
voided_sees v i = record { published = λ j h. h; void = λ j h. or_right (eqb i j) (saw_void v j) h; claimed = λ j h. h }

pub joined_sees_first : (v w : View) → SeesAll v (joined v w)
joined_sees_first v w = record {
  published = λ j h. in_first j v.published w.published h;
  void = λ j h. in_first j v.voids w.voids h;
  claimed = λ j h. in_first j v.claimed w.claimed h;
}

pub joined_sees_second : (v w : View) → SeesAll w (joined v w)
joined_sees_second v w = record {
  published = λ j h. in_second j v.published w.published h;
  void = λ j h. in_second j v.voids w.voids h;
  claimed = λ j h. in_second j v.claimed w.claimed h;
}
