-- Roots as the keys of a set: where a root is found, and a new one goes last.
use Rattle.std.proofs.Common.{◌≡◌, ℕ, zero, suc, ◌<◌, Bool, true, false, nat_eq, ◌&&◌, ◌||◌, List, [], ◌∷◌, length, get_or, Contains}
use Rattle.std.proofs.Common.{Option, None, Some, is_some, MatchOption, position, refl, sym, ◌∙◌, true≢false, arith}
use Rattle.std.specs.Cmp.Lexicographic.{pointwise, bytes_decides}
use Rattle.std.specs.List.{list_any}
use Rattle.std.proofs.lemmas.Bool.{and_parts, or_right}
use Rattle.std.proofs.lemmas.List.Quantifiers.{position-Some}
use Rattle.indexmap.specs.IndexSet.{insert_key}
use Rattle.indexmap.proofs.CallerLemmas.{Contains-list_any}
use Rattle.cox_minroots.specs.declared.root.Root.{Root}
use Rattle.cox_minroots.specs.RootLists.{no_root, root_at, IsInserted, there, last}

-- equality of roots
abbrev pub same_root : Root → Root → Bool
same_root r q = pointwise nat_eq r.root q.root && pointwise nat_eq r.coroot q.coroot

pub same_root-equal : (r q : Root) → same_root r q ≡ true → r ≡ q
same_root-equal r q e =
    let a : r.root ≡ q.root
    = (bytes_decides r.root q.root).0 (and_parts (pointwise nat_eq r.root q.root) (pointwise nat_eq r.coroot q.coroot) e).0
    in let b : r.coroot ≡ q.coroot
    = (bytes_decides r.coroot q.coroot).0 (and_parts (pointwise nat_eq r.root q.root) (pointwise nat_eq r.coroot q.coroot) e).1
    in λ i. record { root = a i; coroot = b i }

pub same_root-own : (r : Root) → same_root r r ≡ true
same_root-own r =
    rw ((bytes_decides r.root r.root).1 refl, (bytes_decides r.coroot r.coroot).1 refl) refl

pub contains-found : (keys : List Root) (r : Root) → Contains keys r → list_any (same_root r) keys ≡ true
contains-found [] r c = absurd (omega (arith, c.1))
contains-found (x ∷ keys) r c = go c.0 c.1 c.2 (contains-found keys r)
  where
    go : (i : ℕ) → i < suc (length keys) → get_or (x ∷ keys) i r ≡ r → (Contains keys r → list_any (same_root r) keys ≡ true)
        → (same_root r x || list_any (same_root r) keys) ≡ true
    go zero l e rest = let own : same_root r x ≡ true = rw e (same_root-own r) in rw own refl
    go (suc i) l e rest = let later : list_any (same_root r) keys ≡ true = rest (i, omega (arith, l), e)
        in or_right (same_root r x) (list_any (same_root r) keys) later

pub inserted : (keys : List Root) (r : Root) (next : List Root) → next ≡ insert_key same_root keys r → IsInserted keys r next
inserted keys r next e = go (list_any (same_root r) keys) refl
  where
    go : (b : Bool) → list_any (same_root r) keys ≡ b → IsInserted keys r next
    go true q = rw (e, q) (there (Contains-list_any same_root same_root-equal keys r q))
    go false q = rw (e, q) (last (λ c. true≢false (sym (contains-found keys r c) ∙ q)))

position-found : (keys : List Root) (r : Root) (i : ℕ) → position (same_root r) keys ≡ Some i → (i < length keys) × (root_at keys i ≡ r)
position-found keys r i e =
    let found = position-Some (same_root r) keys i no_root e
    in (found.0, sym (same_root-equal r (get_or keys i no_root) found.1))

pub number-is : (keys : List Root) (r : Root) (found : Option ℕ) → found ≡ position (same_root r) keys
    → is_some found ≡ list_any (same_root r) keys
    → MatchOption found (Contains keys r → ⊥) (λ i. (i < length keys) × (root_at keys i ≡ r))
number-is keys r None e f = λ c. true≢false (sym (contains-found keys r c) ∙ sym f)
number-is keys r (Some i) e f = position-found keys r i (sym e)
