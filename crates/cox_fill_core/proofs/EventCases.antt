-- The cases of each event, and that each event keeps a core good.
use Rattle.std.proofs.Common.{◌≡◌, ◌≢◌, ℕ, Bool, true, false, ◌&&◌, cond, ⊎_elim, List, Contains, Option, Some, None, is_none}
use Rattle.std.proofs.Common.{refl, subst, arith}
use Rattle.std.proofs.lemmas.Bool.{or_cases}
use Rattle.std.proofs.lemmas.Bool.Decides.{nat_tests}
use Rattle.cox_fill_core.specs.declared.event.RowState.{RowState}
use Rattle.cox_fill_core.specs.declared.event.Event.{Event}
use Rattle.cox_fill_core.specs.declared.event.Reply.{Reply}
use Rattle.cox_fill_core.specs.Fill.{Fill, is_free, is_published, noticed, after_claim, after_publication, after_void, after_tell, missing}
use Rattle.cox_fill_core.specs.Fill.{publish_reply, after, reply}
use Rattle.cox_fill_core.specs.Good.{IsGood}
use Rattle.cox_fill_core.proofs.Needs.{none_missing}
use Rattle.cox_fill_core.proofs.Points.{put_cases}

pub is_free-free : (x : RowState) → is_free x ≡ true → x ≡ RowState.Free
is_free-free RowState.Free h = refl
is_free-free RowState.Claimed h = cc
is_free-free RowState.Published h = cc
is_free-free RowState.Void h = cc

pub is_published-published : (x : RowState) → is_published x ≡ true → x ≡ RowState.Published
is_published-published RowState.Free h = cc
is_published-published RowState.Claimed h = cc
is_published-published RowState.Published h = refl
is_published-published RowState.Void h = cc

noticed_good : (needs : ℕ → List ℕ) (c : Fill) (a i : ℕ) → IsGood needs c → IsGood needs (noticed c a i)
noticed_good needs c a i g = record {
  claimed = g.claimed;
  held = g.held;
  one = g.one;
  seen =
      λ b j h. grind (arith, nat_tests, g.seen b j, or_cases (c.seen a i) (is_published (c.state i)), is_published-published (c.state i));
  needed = g.needed;
}

claimed_good : (needs : ℕ → List ℕ) (c : Fill) (a i : ℕ) → c.state i ≡ RowState.Free → IsGood needs c → IsGood needs (after_claim c a i)
claimed_good needs c a i free g = record {
  claimed = λ j h. ⊎_elim (λ k. (a, grind (arith, nat_tests))) (λ k. let w = g.claimed j k.1 in (w.0, grind (arith, nat_tests)))
      (put_cases c.state i RowState.Claimed j RowState.Claimed h);
  held = λ b j h. grind (arith, nat_tests, g.held b j);
  one = λ b d j h k. grind (arith, nat_tests, g.one b d j, g.held b j, g.held d j);
  seen = λ b j h. grind (arith, nat_tests, g.seen b j);
  needed = λ j k h n. grind (arith, nat_tests, g.needed j k, n);
}

voided_good : (needs : ℕ → List ℕ) (c : Fill) (a i : ℕ) → c.holds a i ≡ true → IsGood needs c → IsGood needs (after_void c a i)
voided_good needs c a i mine g = record {
  claimed = λ j h. ⊎_elim (λ k. cc) (λ k. let w = g.claimed j k.1 in (w.0, grind (arith, nat_tests)))
      (put_cases c.state i RowState.Void j RowState.Claimed h);
  held = λ b j h. grind (arith, nat_tests, g.held b j, g.one a b i);
  one = λ b d j h k. grind (arith, nat_tests, g.one b d j);
  seen = λ b j h. grind (arith, nat_tests, g.seen b j, g.held a i);
  needed = λ j k h n. grind (arith, nat_tests, g.needed j k, n, g.held a i);
}

published_good : (needs : ℕ → List ℕ) (c : Fill) (a i : ℕ) → c.holds a i ≡ true → ((j : ℕ) → Contains (needs i) j → c.seen a j ≡ true)
    → IsGood needs c → IsGood needs (after_publication c a i)
published_good needs c a i mine all g = record {
  claimed = λ j h. ⊎_elim (λ k. cc) (λ k. let w = g.claimed j k.1 in (w.0, grind (arith, nat_tests)))
      (put_cases c.state i RowState.Published j RowState.Claimed h);
  held = λ b j h. grind (arith, nat_tests, g.held b j, g.one a b i);
  one = λ b d j h k. grind (arith, nat_tests, g.one b d j);
  seen = λ b j h. grind (arith, nat_tests, g.seen b j);
  needed = λ j k h n. ⊎_elim
      (λ e. let s = g.seen a k (all k (subst (λ z. Contains (needs z) k) e.0 n)) in grind (arith, nat_tests))
      (λ e. let s = g.needed j k e.1 n in grind (arith, nat_tests))
      (put_cases c.state i RowState.Published j RowState.Published h);
}

told_good : (needs : ℕ → List ℕ) (c : Fill) (a b : ℕ) → IsGood needs c → IsGood needs (after_tell c a b)
told_good needs c a b g = record {
  claimed = g.claimed;
  held = g.held;
  one = g.one;
  seen = λ d j h. grind (arith, nat_tests, g.seen d j, g.seen a j, g.seen b j, or_cases (c.seen b j) (c.seen a j));
  needed = g.needed;
}

-- one test decides both the core after and the reply
by_test : {A B : Type 0} (b : Bool) (P : A → B → Type 0) (x y : A) (u v : B) → (b ≡ true → P x u) → (b ≡ false → P y v)
    → P (cond b x y) (cond b u v)
by_test true P x y u v at_true at_false = at_true refl
by_test false P x y u v at_true at_false = at_false refl

-- a publication: the actor holds the row and nothing is missing, or the core stays
by_publication : (b : Bool) (o : Option ℕ) (P : Fill → Reply → Type 0) (d c : Fill)
    → (b ≡ true → is_none o ≡ true → P d Reply.Made)
    → ((r : Reply) → r ≢ Reply.Made → P c r)
    → P (cond (b && is_none o) d c) (cond b (publish_reply o) Reply.NotYours)
by_publication true None P d c made other = made refl refl
by_publication true (Some j) P d c made other = other (Reply.Missing j) (λ e. cc)
by_publication false None P d c made other = other Reply.NotYours (λ e. cc)
by_publication false (Some j) P d c made other = other Reply.NotYours (λ e. cc)

-- the two cases of a claim, of a publication and of a void, each with what is known there
pub claim_cases : (needs : ℕ → List ℕ) (c : Fill) (a i : ℕ) (P : Fill → Reply → Type 0)
    → (c.state i ≡ RowState.Free → P (after_claim c a i) Reply.Won)
    → (c.state i ≢ RowState.Free → P (noticed c a i) (Reply.Lost (c.state i)))
    → P (after needs c (Event.Claim a i)) (reply needs c (Event.Claim a i))
claim_cases needs c a i P won lost =
    by_test (is_free (c.state i)) P (after_claim c a i) (noticed c a i) Reply.Won (Reply.Lost (c.state i))
    (λ free. won (is_free-free (c.state i) free))
    (λ taken. lost (λ e. cc))

pub void_cases : (needs : ℕ → List ℕ) (c : Fill) (a i : ℕ) (P : Fill → Reply → Type 0)
    → (c.holds a i ≡ true → P (after_void c a i) Reply.Voided)
    → (c.holds a i ≡ false → P c Reply.NotYours)
    → P (after needs c (Event.Void a i)) (reply needs c (Event.Void a i))
void_cases needs c a i P mine other = by_test (c.holds a i) P (after_void c a i) c Reply.Voided Reply.NotYours mine other

pub publish_cases : (needs : ℕ → List ℕ) (c : Fill) (a i : ℕ) (P : Fill → Reply → Type 0)
    → (c.holds a i ≡ true → ((j : ℕ) → Contains (needs i) j → c.seen a j ≡ true) → P (after_publication c a i) Reply.Made)
    → ((r : Reply) → r ≢ Reply.Made → P c r)
    → P (after needs c (Event.Publish a i)) (reply needs c (Event.Publish a i))
publish_cases needs c a i P made not_made =
    by_publication (c.holds a i) (missing needs c a i) P (after_publication c a i) c
    (λ mine nothing. made mine (λ j. none_missing (c.seen a) (needs i) j nothing))
    not_made

pub after_good : (needs : ℕ → List ℕ) (c : Fill) (e : Event) → IsGood needs c → IsGood needs (after needs c e)
after_good needs c (Event.Claim a i) g =
    claim_cases needs c a i (λ d r. IsGood needs d) (λ free. claimed_good needs c a i free g) (λ _. noticed_good needs c a i g)
after_good needs c (Event.Look a i) g = noticed_good needs c a i g
after_good needs c (Event.Publish a i) g =
    publish_cases needs c a i (λ d r. IsGood needs d) (λ mine all. published_good needs c a i mine all g) (λ _ _. g)
after_good needs c (Event.Void a i) g = void_cases needs c a i (λ d r. IsGood needs d) (λ mine. voided_good needs c a i mine g) (λ _. g)
after_good needs c (Event.Tell a b) g = told_good needs c a b g
