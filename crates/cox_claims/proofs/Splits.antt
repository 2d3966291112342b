-- Each seat but the first was split from another, and stays so: what a step, a split and a meeting do to the counts of seats. And no seat
-- is in a table beside those that the counts tell of.
use Rattle.std.proofs.Common.{◌≡◌, ◌≢◌, ℕ, zero, suc, ◌+◌, ◌<◌, ◌≤◌, false, ◌==◌, cond, zero-add, ⊎_elim, List, [], ◌∷◌, ◌++◌}
use Rattle.std.proofs.Common.{length, get_or, set, length-set, length-append, refl, sym, ap, subst, ◌∙◌, arith}
use Rattle.std.specs.Prelude.{sum_by}
use Rattle.std.specs.List.{All}
use Rattle.std.specs.List.Sorted.{IsPermutation}
use Rattle.std.proofs.lemmas.Bool.{cases_eq, cases_lt, eq-eqb, ne_eqb}
use Rattle.std.proofs.lemmas.List.{get_or-append-add, get_or_past, get_or_default}
use Rattle.std.proofs.lemmas.List.Sorted.{All-permutation, IsPermutation-refl, sum_by-IsPermutation, length_permutation}
use Rattle.std.proofs.lemmas.List.Sums.{sum_by-set, sum_by_push, sum_by-append, sum_by-cons}
use mathlib.Core.Option.{some}
use lib.ListN.{get_elem?}
use Rattle.cox_claims.specs.declared.view.View.{View}
use Rattle.cox_claims.specs.Knowledge.{TellsSameSeats, nothing, newcomer, parted, told, joined}
use Rattle.cox_claims.specs.Rule.{view_at, how_many, seats_in, seats_of, children_of, HasParents, ComeBySplits}
use Rattle.cox_claims.proofs.Keeps.{at_put}
use Rattle.cox_claims.proofs.Boards.{view_set, view_snoc, view_here, at_within}

-- ---- sums over views

-- a view in the list is changed
sum-changed : (f : View → ℕ) (vs : List View) (a : ℕ) (v w : View) → get_elem? vs a ≡ some v
    → sum_by f (set vs a w) + f v ≡ sum_by f vs + f w
sum-changed f vs a v w at =
    ap (λ u. sum_by f (set vs a w) + f u) (sym (view_here vs a v at)) ∙ sum_by-set f vs a w nothing (at_within vs a v at)

pub how_many-append : (d : ℕ) (xs ys : List ℕ) → how_many d (xs ++ ys) ≡ how_many d xs + how_many d ys
how_many-append d xs ys = sum_by-append (λ x. cond (x == d) 1 0) xs ys

how_many-here : (d : ℕ) (xs : List ℕ) → how_many d (d ∷ xs) ≡ 1 + how_many d xs
how_many-here d xs = sum_by-cons (λ x. cond (x == d) 1 0) d xs ∙ ap (λ b. cond b 1 0 + how_many d xs) (eq-eqb d d refl)

how_many-else : (d x : ℕ) (xs : List ℕ) → x ≢ d → how_many d (x ∷ xs) ≡ how_many d xs
how_many-else d x xs ne =
    sum_by-cons (λ y. cond (y == d) 1 0) x xs ∙ ap (λ b. cond b 1 0 + how_many d xs) (ne_eqb x d ne) ∙ zero-add (how_many d xs)

-- ---- steps, splits and meetings

seats-live : (v : View) → v.spent ≡ false → seats_in v ≡ v.generation ∷ v.met
seats-live v live = ap (λ b. cond b [] (v.generation ∷ v.met)) live

same-seats : (v w : View) → w.spent ≡ v.spent → TellsSameSeats v w → seats_in w ≡ seats_in v
same-seats v w live same =
    ap (λ b. cond b [] (w.generation ∷ w.met)) live
    ∙ ap (λ g. cond v.spent [] (g ∷ w.met)) same.generation ∙ ap (λ m. cond v.spent [] (v.generation ∷ m)) same.met

-- what holds of a view that is changed, and of all others, holds of all
parents-changed : (vs : List View) (a : ℕ) (v w : View) → get_elem? vs a ≡ some v → HasParents w → ((b : ℕ) → HasParents (view_at vs b))
    → (b : ℕ) → HasParents (view_at (set vs a w) b)
parents-changed vs a v w at here all b =
    subst (λ g. HasParents (g b)) (sym (view_set vs a w (at_within vs a v at)))
    (at_put HasParents (view_at vs) a w b (λ _. here) (λ _. all b))

of_view : (vs : List View) (a : ℕ) (v : View) → get_elem? vs a ≡ some v → ((b : ℕ) → HasParents (view_at vs b)) → HasParents v
of_view vs a v at all = subst HasParents (view_here vs a v at) (all a)

pub step_splits : (vs : List View) (a : ℕ) (v w : View) → get_elem? vs a ≡ some v → w.spent ≡ v.spent → TellsSameSeats v w
    → ComeBySplits vs → ComeBySplits (set vs a w)
step_splits vs a v w at live same k = record {
  count = omega (arith, length-set vs a w, sum-changed (λ u. length u.children) vs a v w at, k.count, ap length same.children);
  generations = λ d. omega (
    arith,
    sum-changed (seats_of d) vs a v w at,
    sum-changed (children_of d) vs a v w at,
    k.generations d,
    ap (how_many d) (same-seats v w live same),
    ap (how_many d) same.children,
  );
  parents = parents-changed vs a v w at (record {
    parent = λ d l.
        let q = (of_view vs a v at k.parents).parent d (subst (λ c. 0 < how_many d c) same.children l)
        in (q.0, q.1, subst (λ s. 0 < how_many q.0 s) (sym (same-seats v w live same)) q.2);
  }) k.parents;
}

parted-parents : (v : View) → v.spent ≡ false → HasParents v → HasParents (parted v)
parted-parents v live k = record {
  parent = λ d l. ⊎_elim
      (λ (e : v.generation + 1 ≡ d). (
        v.generation,
        sym e,
        subst (λ s. 0 < how_many v.generation s) (sym (seats-live v live)) (omega (arith, how_many-here v.generation v.met)),
      ))
      (λ (ne : v.generation + 1 ≢ d). k.parent d (subst (λ n. 0 < n) (how_many-else d (v.generation + 1) v.children ne) l))
      (cases_eq (v.generation + 1) d);
}

no-parents : (v : View) → v.children ≡ [] → HasParents v
no-parents v none = record { parent = λ d l. absurd (omega (arith, l, ap (how_many d) none)) }

pub split_splits : (vs : List View) (a : ℕ) (v : View) → get_elem? vs a ≡ some v → v.spent ≡ false → ComeBySplits vs
    → ComeBySplits (set vs a (parted v) ++ told v ∷ [])
split_splits vs a v at live k = record {
  count = omega (
    arith,
    length-append old (told v ∷ []),
    length-set vs a (parted v),
    sum_by_push (λ u. length u.children) old (told v),
    sum-changed (λ u. length u.children) vs a v (parted v) at,
    k.count,
  );
  generations = λ d. omega (
    arith,
    sum_by_push (seats_of d) old (told v),
    sum_by_push (children_of d) old (told v),
    sum-changed (seats_of d) vs a v (parted v) at,
    sum-changed (children_of d) vs a v (parted v) at,
    how_many-append d ((v.generation + 1) ∷ []) v.children,
    k.generations d,
  );
  parents = λ b. subst (λ g. HasParents (g b)) (sym (view_snoc old (told v)))
      (at_put HasParents (view_at old) (length old) (told v) b (λ _. no-parents (told v) refl)
      (λ _. parents-changed vs a v (parted v) at (parted-parents v live (of_view vs a v at k.parents)) k.parents b));
}
  where
    old : List View
    old = set vs a (parted v)

-- the seats of two views that became one are those of both
joined-seats : (d : ℕ) (v w : View) → v.spent ≡ false → w.spent ≡ false → seats_of d (joined v w) ≡ seats_of d v + seats_of d w
joined-seats d v w live alive =
    let all = ap (how_many d) (seats-live (joined v w) live) in
    let first = ap (how_many d) (seats-live v live) in
    let second = ap (how_many d) (seats-live w alive) in
    omega (arith, all, first, second, how_many-append d (v.generation ∷ v.met) (w.generation ∷ w.met))

joined-parents : (v w : View) → v.spent ≡ false → w.spent ≡ false → HasParents v → HasParents w → HasParents (joined v w)
joined-parents v w live alive k l = record {
  parent = λ d some_child. ⊎_elim
      (λ (mine : 0 < children_of d v).
      let q = k.parent d mine in (q.0, q.1, omega (arith, q.2, joined-seats q.0 v w live alive)))
      (λ (none : children_of d v ≤ 0).
      let q = l.parent d (omega (arith, some_child, none, how_many-append d v.children w.children))
      in (q.0, q.1, omega (arith, q.2, joined-seats q.0 v w live alive)))
      (cases_lt 0 (children_of d v));
}

pub meeting_splits : (vs : List View) (a b : ℕ) (v w : View) → get_elem? vs a ≡ some v → v.spent ≡ false → w.spent ≡ false → b ≢ a
    → get_elem? (set vs a (joined v w)) b ≡ some w → ComeBySplits vs
    → ComeBySplits (set (set vs a (joined v w)) b nothing)
meeting_splits vs a b v w at live alive ne there k = record {
  count = omega (
    arith,
    length-set both b nothing,
    length-set vs a (joined v w),
    sum-changed (λ u. length u.children) both b w nothing there,
    sum-changed (λ u. length u.children) vs a v (joined v w) at,
    length-append v.children w.children,
    k.count,
  );
  generations = λ d. omega (
    arith,
    sum-changed (seats_of d) both b w nothing there,
    sum-changed (children_of d) both b w nothing there,
    sum-changed (seats_of d) vs a v (joined v w) at,
    sum-changed (children_of d) vs a v (joined v w) at,
    joined-seats d v w live alive,
    how_many-append d v.children w.children,
    k.generations d,
  );
  parents = parents-changed both b w nothing there (no-parents nothing refl) met;
}
  where
    both : List View
    both = set vs a (joined v w)

    -- the second view is one of those from before
    second : HasParents w
    second = subst HasParents
        (sym (ap (λ g. g b) (view_set vs a (joined v w) (at_within vs a v at))
        ∙ at_put (λ u. u ≡ view_at vs b) (view_at vs) a (joined v w) b (λ e. absurd (ne e)) (λ _. refl)) ∙ view_here both b w there)
        (k.parents b)

    met : (c : ℕ) → HasParents (view_at both c)
    met = parents-changed vs a v (joined v w) at (joined-parents v w live alive (of_view vs a v at k.parents) second) k.parents

-- the first seat of all
pub start_splits : ComeBySplits (newcomer ∷ [])
start_splits = record {
  count = refl;
  generations = λ d. omega arith;
  parents = at;
}
  where
    at : (a : ℕ) → HasParents (view_at (newcomer ∷ []) a)
    at zero = no-parents newcomer refl
    at (suc a) = no-parents nothing refl

-- ---- no seat beside those that the counts tell of

module _ (f : View → ℕ) where
  sum-none : (vs : List View) → ((k : ℕ) → f (view_at vs k) ≡ 0) → sum_by f vs ≡ 0
  sum-none [] h = refl
  sum-none (v ∷ vs) h = omega (arith, sum_by-cons f v vs, sum-none vs (λ k. h (suc k)), h 0)

  sum-at : f nothing ≡ 0 → (vs : List View) (k : ℕ) → f (view_at vs k) ≤ sum_by f vs
  sum-at zero_past [] k = omega (arith, zero_past)
  sum-at zero_past (v ∷ vs) zero = omega (arith, sum_by-cons f v vs)
  sum-at zero_past (v ∷ vs) (suc k) = omega (arith, sum_by-cons f v vs, sum-at zero_past vs k)

no-items : (xs : List ℕ) → ((d : ℕ) → how_many d xs ≡ 0) → length xs ≡ 0
no-items [] h = refl
no-items (x ∷ xs) h = absurd (omega (arith, h x, how_many-here x xs))

no-views : (vs : List View) → length vs ≡ 0 → vs ≡ []
no-views [] h = refl
no-views (v ∷ vs) h = absurd (omega arith)

-- views whose seats were all split from seats of theirs are none
module _ (more : List View) (count : length more ≡ sum_by (λ v. length v.children) more)
    (generations : (d : ℕ) → sum_by (seats_of d) more ≡ sum_by (children_of d) more) (parents : (k : ℕ) → HasParents (view_at more k))
  where
    -- where they have no seats of the generation before, they have no children of this one
    no-children_after : (d k : ℕ) → ((p : ℕ) → d ≡ p + 1 → sum_by (seats_of p) more ≡ 0) → children_of d (view_at more k) ≡ 0
    no-children_after d k before = ⊎_elim
        (λ (some_child : 0 < children_of d (view_at more k)).
        let q = (parents k).parent d some_child in absurd (omega (arith, q.2, sum-at (seats_of q.0) refl more k, before q.0 q.1)))
        (λ (none : children_of d (view_at more k) ≤ 0). omega (arith, none))
        (cases_lt 0 (children_of d (view_at more k)))

    no-seats : (d : ℕ) → sum_by (seats_of d) more ≡ 0
    no-seats zero = generations 0 ∙ sum-none (children_of 0) more (λ k. no-children_after 0 k (λ p e. absurd (omega (arith, e))))
    no-seats (suc d) = generations (suc d) ∙ sum-none (children_of (suc d)) more
        (λ k. no-children_after (suc d) k (λ p e.
        let same : d ≡ p = omega (arith, e) in subst (λ q. sum_by (seats_of q) more ≡ 0) same (no-seats d)))

    no-children : (d k : ℕ) → children_of d (view_at more k) ≡ 0
    no-children d k = no-children_after d k (λ p e. no-seats p)

    pub none-more : more ≡ []
    none-more = no-views more (count ∙ sum-none (λ v. length v.children) more
        (λ k. no-items (view_at more k).children (λ d. no-children d k)))

-- views that come by splits, beside some that come by splits too, are none
pub split-none_left : (vs more all : List View) → ComeBySplits vs → ComeBySplits all → IsPermutation all (vs ++ more) → more ≡ []
split-none_left vs more all k l same = none-more more
    (omega (arith, k.count, l.count, of_both (λ v. length v.children), length_permutation all (vs ++ more) same, length-append vs more))
    (λ d. omega (arith, k.generations d, l.generations d, of_both (seats_of d), of_both (children_of d)))
    parents_too
  where
    of_both : (f : View → ℕ) → sum_by f all ≡ sum_by f vs + sum_by f more
    of_both f = sym (sum_by-IsPermutation f all (vs ++ more) same) ∙ sum_by-append f vs more

    each : All HasParents (vs ++ more)
    each = All-permutation HasParents all (vs ++ more) same (λ i d lt. subst HasParents (get_or_default all i nothing d lt) (l.parents i))

    parents_too : (i : ℕ) → HasParents (view_at more i)
    parents_too i = ⊎_elim
        (λ (within : i < length more).
        let there : get_or (vs ++ more) (length vs + i) nothing ≡ view_at more i = get_or-append-add vs more i nothing
        in subst HasParents there (each (length vs + i) nothing (omega (arith, length-append vs more, within))))
        (λ (past : length more ≤ i). subst HasParents (sym (get_or_past more i nothing past)) (no-parents nothing refl))
        (cases_lt i (length more))

-- a first seat with the view of the start is the only one
pub only_seat : (vs : List View) → get_elem? vs 0 ≡ some newcomer → ComeBySplits vs → vs ≡ newcomer ∷ []
only_seat [] at k = cc
only_seat (v ∷ vs) at k =
    let e : v ≡ newcomer = cc in
    let same = subst (λ u. IsPermutation (v ∷ vs) (u ∷ vs)) e (IsPermutation-refl (v ∷ vs)) in
    let none = split-none_left (newcomer ∷ []) vs (v ∷ vs) start_splits k same in
    ap (λ u. u ∷ vs) e ∙ ap (λ us. newcomer ∷ us) none
