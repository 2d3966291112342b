-- What is known of a vertex, by whether it was seen and by its place.
use Rattle.std.proofs.Common.{◌≡◌, ◌≢◌, ℕ, zero, suc, ◌<◌, ◌≤◌, Bool, true, false, cond, ◌==◌, List, get_or, replicate, slice_set, length}
use Rattle.std.proofs.Common.{refl, ◌∙◌, ap, not, ◌+◌, arith}
use Rattle.std.specs.Prelude.{count_by}
use Rattle.std.proofs.lemmas.Bool.Decides.{nat_tests}
use Rattle.std.proofs.lemmas.List.Sums.{sum_by-set}
use Rattle.cox_scc.specs.Visits.{Visit, Unseen, Open, Closed, nowhere, visit_by}
use Rattle.cox_scc.specs.Walk.{LiesFrom}

visited-seen : (b : Bool) (place : ℕ) → cond b Closed (Open place) ≢ Unseen
visited-seen true place is = cc
visited-seen false place is = cc

-- a vertex that was seen is open or closed
pub seen_visit : (s : Bool) (place : ℕ) → s ≡ true → visit_by s place ≢ Unseen
seen_visit true place e = visited-seen (place == nowhere) place
seen_visit false place e = absurd (let no : ⊥ = cc in no)

pub open_seen : (s : Bool) (place p : ℕ) → visit_by s place ≡ Open p → s ≡ true
open_seen true place p is = refl
open_seen false place p is = absurd (let no : ⊥ = cc in no)

pub visit_unseen : (s : Bool) (place : ℕ) → s ≡ false → visit_by s place ≡ Unseen
visit_unseen true place e = absurd (let no : ⊥ = cc in no)
visit_unseen false place e = refl

pub unseen_visit : (s : Bool) (place : ℕ) → visit_by s place ≡ Unseen → s ≡ false
unseen_visit true place is = absurd (seen_visit true place refl is)
unseen_visit false place is = refl

-- at a place
pub open_at : (place : ℕ) → place < nowhere → visit_by true place ≡ Open place
open_at place lt = let no : (place == nowhere) ≡ false = grind (arith, nat_tests) in ap (λ b. cond b Closed (Open place)) no

-- a vertex that was seen lies at its place, or is closed
pub lies_at : (low place : ℕ) → low ≤ place → LiesFrom low (visit_by true place)
lies_at low place le = by (place == nowhere)
  where
    by : (b : Bool) → LiesFrom low (cond b Closed (Open place))
    by true = tt
    by false = le

-- what lies at a place or above lies above a lesser one
pub lies_lower : (low b : ℕ) (visit : Visit) → b ≤ low → LiesFrom low visit → LiesFrom b visit
lies_lower low b Unseen le lies = lies
lies_lower low b (Open place) le lies = omega (arith, lies)
lies_lower low b Closed le lies = tt

-- where one more vertex was seen, one less was not
pub unseen-set : (seen : List Bool) (v : ℕ) → v < length seen → get_or seen v false ≡ false
    → count_by not (slice_set seen v true) + 1 ≡ count_by not seen
unseen-set seen v within is =
    let each = sum_by-set (λ x. cond (not x) 1 0) seen v true false within in
    let one : ◌≡◌ {A = ℕ} (cond (not (get_or seen v false)) 1 0) 1 = ap (λ z. cond (not z) 1 0) is in
    omega (arith, each, one)

-- where all are unseen
pub none_in : (seen : List Bool) (n : ℕ) → seen ≡ replicate n false → (v : ℕ) → get_or seen v false ≡ false
none_in seen n is v = ap (λ z. get_or z v false) is ∙ each n v
  where
    each : (n v : ℕ) → get_or (replicate n false) v false ≡ false
    each zero v = refl
    each (suc n) zero = refl
    each (suc n) (suc v) = each n v
