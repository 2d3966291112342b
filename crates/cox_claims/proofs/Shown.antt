-- Each step leads from states and views that show a core to some that show the core after the event. States and views are functions of
-- numbers here.
use Rattle.std.proofs.Common.{◌≡◌, ◌≢◌, ℕ, suc, ◌<◌, Bool, true, false, ◌||◌, ◌&&◌, eqb, ⊎_elim, List, [], refl, sym, ap, ◌∙◌, arith}
use Rattle.std.proofs.lemmas.Bool.{cases_eq, false≢true}
use Rattle.std.proofs.lemmas.Bool.Decides.{nat_tests}
use Rattle.cox_fill_core.specs.declared.event.RowState.{RowState}
use Rattle.cox_fill_core.specs.Fill.{Fill, put, put_at, is_published, noticed, after_tell, after_claim}
use Rattle.cox_fill_core.specs.Fill.{after_publication, after_void}
use Rattle.cox_fill_core.proofs.Points.{put_here, put_else}
use Rattle.cox_claims.specs.declared.view.View.{View}
use Rattle.cox_claims.specs.Knowledge.{among, without, holds, saw_published, nothing, looked, won, published, voided, parted, told, joined}
use Rattle.cox_claims.specs.Rule.{IsKept}
use Rattle.cox_claims.specs.Events.{IsShown}
use Rattle.cox_claims.proofs.RowTests.{among-without_same, among-without_other, among-append}
use Rattle.cox_claims.proofs.Keeps.{at_put}
use Rattle.cox_claims.proofs.Views.{looked_did}

no_more : (b x : Bool) → x ≡ ((b && false) || x)
no_more true x = refl
no_more false x = refl

one_more : (b x : Bool) → (b || x) ≡ ((b && true) || x)
one_more true x = refl
one_more false x = refl

noticed_at : (f : ℕ → ℕ → Bool) (a i : ℕ) (p : Bool) (b j : ℕ) → put_at f a i (f a i || p) b j ≡ ((eqb b a && (eqb i j && p)) || f b j)
noticed_at f a i p b j = grind (arith, nat_tests)

same_row : (a : ℕ) (x y : Bool) → ((eqb a a && x) || y) ≡ (x || y)
same_row a x y = grind (arith, nat_tests)

looked_published : (v : View) (i : ℕ) (x : RowState) (j : ℕ)
    → saw_published (looked v i x) j ≡ ((eqb i j && is_published x) || saw_published v j)
looked_published v i RowState.Free j = no_more (eqb i j) (saw_published v j)
looked_published v i RowState.Claimed j = no_more (eqb i j) (saw_published v j)
looked_published v i RowState.Published j = one_more (eqb i j) (saw_published v j)
looked_published v i RowState.Void j = no_more (eqb i j) (saw_published v j)

pub look_shown : (state : ℕ → RowState) (view : ℕ → View) (made : ℕ) (c : Fill) (a i : ℕ) → IsShown state view made c → a < made
    → (view a).spent ≡ false
    → IsKept state (put view a (looked (view a) i (state i)))
    → IsShown state (put view a (looked (view a) i (state i))) made (noticed c a i)
look_shown state view made c a i s lt live kept = record {
  state_is = s.state_is;
  holds_is = λ b j. s.holds_is b j ∙ sym
      (at_put (λ v. holds v j ≡ holds (view b) j) view a w b
      (λ e. ap (among j) ((looked_did (view a) i (state i)).held) ∙ ap (λ z. holds (view z) j) (sym e)) (λ _. refl));
  seen_is =
      λ b j. at_put (λ v. v.spent ≡ false → put_at c.seen a i (c.seen a i || is_published (c.state i)) b j ≡ saw_published v j) view a w b
      (λ e _. ap (λ z. put_at c.seen a i (c.seen a i || is_published (c.state i)) z j) e ∙ here j)
      (λ ne l. let q = s.seen_is b j l in grind (arith, nat_tests));
  void_is = λ b j. (kept.known b j).void;
  claimed_is = λ b j. (kept.known b j).claimed;
  fresh = λ b j le. let q = s.fresh b j le in grind (arith, nat_tests);
}
  where
    w : View
    w = looked (view a) i (state i)

    here : (j : ℕ) → put_at c.seen a i (c.seen a i || is_published (c.state i)) a j ≡ saw_published w j
    here j =
        let q = s.seen_is a j live in
        let p = ap is_published (s.state_is i) in
        let l = looked_published (view a) i (state i) j in
        let n = noticed_at c.seen a i (is_published (c.state i)) a j in
        n ∙ same_row a (eqb i j && is_published (c.state i)) (c.seen a j) ∙ ap (λ z. (eqb i j && z) || c.seen a j) p ∙ ap
        (λ z. (eqb i j && is_published (state i)) || z) q ∙ sym l

-- ---- steps that change the state of a row

-- the actor holds row i from then on, or no longer
holds_put : (state : ℕ → RowState) (view : ℕ → View) (made : ℕ) (c : Fill) (a i : ℕ) (w : View) (h : Bool) → IsShown state view made c
    → ((j : ℕ) → holds w j ≡ put (holds (view a)) i h j) → (b j : ℕ) → put_at c.holds a i h b j ≡ holds (put view a w b) j
holds_put state view made c a i w h s is b j = at_put (λ v. put_at c.holds a i h b j ≡ holds v j) view a w b
    (λ e. let q = s.holds_is a j in let l = is j in grind (arith, nat_tests))
    (λ ne. let q = s.holds_is b j in grind (arith, nat_tests))

-- row i gets the state x, and nobody has seen more Published
acts_shown : (state : ℕ → RowState) (view : ℕ → View) (made : ℕ) (c : Fill) (a i : ℕ) (x : RowState) (w : View) (h : Bool)
    → IsShown state view made c
    → ((j : ℕ) → holds w j ≡ put (holds (view a)) i h j) → w.published ≡ (view a).published → w.spent ≡ (view a).spent
    → IsKept (put state i x) (put view a w)
    → IsShown (put state i x) (put view a w) made (record c { state = put c.state i x; holds = put_at c.holds a i h })
acts_shown state view made c a i x w h s held seen live kept = record {
  state_is = λ j. let q = s.state_is j in grind (arith, nat_tests);
  holds_is = holds_put state view made c a i w h s held;
  seen_is = λ b j. at_put (λ v. v.spent ≡ false → c.seen b j ≡ saw_published v j) view a w b
      (λ e l. ap (λ z. c.seen z j) e ∙ s.seen_is a j (sym live ∙ l) ∙ sym (ap (among j) seen))
      (λ ne l. s.seen_is b j l);
  void_is = λ b j. (kept.known b j).void;
  claimed_is = λ b j. (kept.known b j).claimed;
  fresh = s.fresh;
}

without_put : (i : ℕ) (xs : List ℕ) (j : ℕ) → among j (without i xs) ≡ put (λ z. among z xs) i false j
without_put i xs j = ⊎_elim
    (λ e. ap (λ z. among z (without i xs)) e ∙ among-without_same i xs ∙ sym
    (ap (put (λ z. among z xs) i false) e ∙ put_here (λ z. among z xs) i false))
    (λ ne. among-without_other i j xs ne ∙ sym (put_else (λ z. among z xs) i false j ne))
    (cases_eq j i)

pub claim_shown : (state : ℕ → RowState) (view : ℕ → View) (made : ℕ) (c : Fill) (a i : ℕ) → IsShown state view made c
    → IsKept (put state i RowState.Claimed) (put view a (won (view a) i))
    → IsShown (put state i RowState.Claimed) (put view a (won (view a) i)) made (after_claim c a i)
claim_shown state view made c a i s kept =
    acts_shown state view made c a i RowState.Claimed (won (view a) i) true s (λ j. grind (arith, nat_tests)) refl refl kept

pub void_shown : (state : ℕ → RowState) (view : ℕ → View) (made : ℕ) (c : Fill) (a i : ℕ) → IsShown state view made c
    → IsKept (put state i RowState.Void) (put view a (voided (view a) i))
    → IsShown (put state i RowState.Void) (put view a (voided (view a) i)) made (after_void c a i)
void_shown state view made c a i s kept =
    acts_shown state view made c a i RowState.Void (voided (view a) i) false s (without_put i (view a).held) refl refl kept

pub publish_shown : (state : ℕ → RowState) (view : ℕ → View) (made : ℕ) (c : Fill) (a i : ℕ) → IsShown state view made c → a < made
    → (view a).spent ≡ false → IsKept (put state i RowState.Published) (put view a (published (view a) i))
    → IsShown (put state i RowState.Published) (put view a (published (view a) i)) made (after_publication c a i)
publish_shown state view made c a i s lt live kept = record {
  state_is = λ j. let q = s.state_is j in grind (arith, nat_tests);
  holds_is = holds_put state view made c a i (published (view a) i) false s (without_put i (view a).held);
  seen_is = λ b j. at_put (λ v. v.spent ≡ false → put_at c.seen a i true b j ≡ saw_published v j) view a (published (view a) i) b
      (λ e l. let q = s.seen_is a j l in grind (arith, nat_tests))
      (λ ne l. let q = s.seen_is b j l in grind (arith, nat_tests));
  void_is = λ b j. (kept.known b j).void;
  claimed_is = λ b j. (kept.known b j).claimed;
  fresh = λ b j le. let q = s.fresh b j le in grind (arith, nat_tests);
}

-- ---- a split and a meeting

-- the next seat is told what seat a has seen
pub split_shown : (state : ℕ → RowState) (view : ℕ → View) (made : ℕ) (c : Fill) (a : ℕ) → IsShown state view made c
    → (view a).spent ≡ false → (view made).held ≡ [] → IsKept state (put (put view a (parted (view a))) made (told (view a)))
    → IsShown state (put (put view a (parted (view a))) made (told (view a))) (suc made) (after_tell c a made)
split_shown state view made c a s live idle kept = record {
  state_is = s.state_is;
  holds_is = λ b j. at_put (λ v. c.holds b j ≡ holds v j) (put view a (parted (view a))) made (told (view a)) b
      (λ e. ap (λ z. c.holds z j) e ∙ s.holds_is made j ∙ ap (among j) idle)
      (λ _. at_put (λ v. c.holds b j ≡ holds v j) view a (parted (view a)) b (λ e. ap (λ z. c.holds z j) e ∙ s.holds_is a j)
      (λ _. s.holds_is b j));
  seen_is = λ b j. at_put (λ v. v.spent ≡ false → put c.seen made (λ i. c.seen made i || c.seen a i) b j ≡ saw_published v j)
      (put view a (parted (view a))) made (told (view a)) b
      (λ e _. let q = s.seen_is a j live in let f = s.fresh made j (omega arith) in grind (arith, nat_tests))
      (λ ne. at_put (λ v. v.spent ≡ false → put c.seen made (λ i. c.seen made i || c.seen a i) b j ≡ saw_published v j) view a
      (parted (view a)) b
      (λ e l. let q = s.seen_is a j l in grind (arith, nat_tests))
      (λ _ l. let q = s.seen_is b j l in grind (arith, nat_tests)));
  void_is = λ b j. (kept.known b j).void;
  claimed_is = λ b j. (kept.known b j).claimed;
  fresh = λ b j le. let q = s.fresh b j (omega arith) in grind (arith, nat_tests);
}

-- seat a is told what seat b has seen, which is spent from then on
pub meet_shown : (state : ℕ → RowState) (view : ℕ → View) (made : ℕ) (c : Fill) (a b : ℕ) → IsShown state view made c → a < made → b ≢ a
    → (view a).spent ≡ false → (view b).spent ≡ false → (view b).held ≡ []
    → IsKept state (put (put view a (joined (view a) (view b))) b nothing)
    → IsShown state (put (put view a (joined (view a) (view b))) b nothing) made (after_tell c b a)
meet_shown state view made c a b s lt ne live alive idle kept = record {
  state_is = s.state_is;
  holds_is = λ d j. at_put (λ v. c.holds d j ≡ holds v j) (put view a (joined (view a) (view b))) b nothing d
      (λ e. ap (λ z. c.holds z j) e ∙ s.holds_is b j ∙ ap (among j) idle)
      (λ _. at_put (λ v. c.holds d j ≡ holds v j) view a (joined (view a) (view b)) d (λ e. ap (λ z. c.holds z j) e ∙ s.holds_is a j)
      (λ _. s.holds_is d j));
  seen_is = λ d j. at_put (λ v. v.spent ≡ false → put c.seen a (λ i. c.seen a i || c.seen b i) d j ≡ saw_published v j)
      (put view a (joined (view a) (view b))) b nothing d
      (λ _ l. absurd (false≢true (sym l)))
      (λ _. at_put (λ v. v.spent ≡ false → put c.seen a (λ i. c.seen a i || c.seen b i) d j ≡ saw_published v j) view a
      (joined (view a) (view b)) d
      (λ e _. let q = s.seen_is a j live in let r = s.seen_is b j alive in let u = among-append j (view a).published
      (view b).published in grind (arith, nat_tests))
      (λ other l. let q = s.seen_is d j l in grind (arith, nat_tests)));
  void_is = λ d j. (kept.known d j).void;
  claimed_is = λ d j. (kept.known d j).claimed;
  fresh = λ d j le. let q = s.fresh d j le in grind (arith, nat_tests);
}
