-- The list of the simple roots, letter by letter.
use Rattle.std.proofs.Common.{◌≡◌, ℕ, ◌+◌, ◌-◌, ◌*◌, ◌≤◌, ◌<◌, List, [], length, get_or, Contains, ⊎_elim, ap, sym, ◌∙◌, arith}
use Rattle.std.proofs.lemmas.List.{get_or_default}
use Rattle.std.proofs.lemmas.Bool.{cases_eq}
use Rattle.std.proofs.lemmas.Int.{ints}
use Rattle.cox_base.specs.declared.limits.TheConstants.{MAX_RANK}
use Rattle.cox_base.specs.Matrix.{IsLetter}
use Rattle.cox_base.specs.IntegerMatrix.{IntegerMatrix}
use Rattle.cox_base.specs.Admissible.{IsAdmissible}
use Rattle.cox_reflect.specs.Action.{Vector, simple_root}
use Rattle.cox_reflect.proofs.Sums.{simple_root-self, simple_root-other}
use Rattle.cox_small.specs.SmallRoots.{simple}
use Rattle.cox_minroots.specs.declared.root.Root.{Root}
use Rattle.cox_minroots.specs.Coordinates.{vector_of}
use Rattle.cox_minroots.specs.RootLists.{no_root, root_at, root_of, IsInserted, there, last}
use Rattle.cox_minroots.specs.Closure.{AreCoordinatesUpTo, AreSmall, HasSimple}
use Rattle.cox_minroots.proofs.SmallRootLists.{small-inserted, at_last, length-last, longer-inserted, HasSimple-longer}

-- the simple roots of the letters below s
pub record IsStarting (A : IntegerMatrix) (roots : List Root) (s : ℕ) : Type 0 where
  pub small : AreSmall A roots
  pub count : length roots ≡ s - 1
  pub simple : HasSimple roots (s - 1)

pub starting : (A : IntegerMatrix) (roots : List Root) → roots ≡ [] → IsStarting A roots 1
starting A roots e =
    let none : length roots ≡ 0 = ap length e
    in record {
      small = record {
        small = λ i l. absurd (omega (arith, l, none));
        different = λ i j k l. absurd (omega (arith, l, none));
        row = λ i l. absurd (omega (arith, l, none));
        corow = λ i l. absurd (omega (arith, l, none));
      };
      count = none;
      simple = record { within = omega arith; is = λ s l. absurd (omega (arith, l.from_one, l.to_rank)) };
    }

-- different letters have different simple roots
simple-different : (s t : ℕ) → simple_root s ≡ simple_root t → s ≡ t
simple-different s t e = ⊎_elim (λ f. f) (λ ne. absurd (never ne)) (cases_eq s t)
  where
    never : (s ≡ t → ⊥) → ⊥
    never ne = omega (arith, ints, ap (λ (v : Vector). v s) e, simple_root-self s, simple_root-other t s ne)

pub starting-next : (A : IntegerMatrix) → IsAdmissible A → (roots : List Root) (s : ℕ) (r : Root) (new : List Root) → IsStarting A roots s
    → IsLetter A.rank s
    → vector_of r.root ≡ simple_root s → vector_of r.coroot ≡ simple_root s → length r.root ≡ MAX_RANK → length r.coroot ≡ MAX_RANK
    → ((k : ℕ) → get_or r.root k 0 ≤ 1) → ((k : ℕ) → get_or r.coroot k 0 ≤ 1)
    → IsInserted roots r new → IsStarting A new (s + 1)
starting-next A g roots s r new h l e f n m a b put = record {
  small = small-inserted A g h.small (rw (e, f) (simple l)) (row r.root n a) (row r.coroot m b) put;
  count = (new_last put).0;
  simple = record { within = omega (arith, (new_last put).0); is = simple_at };
}
  where
    row : (xs : List ℕ) → length xs ≡ MAX_RANK → ((k : ℕ) → get_or xs k 0 ≤ 1) → AreCoordinatesUpTo (1 + 3 * length roots) xs
    row xs full low = record { full = full; small = λ k. omega (arith, low k) }

    -- e(s) is not here yet: the root with the number j is e(j + 1)
    absent : Contains roots r → ⊥
    absent c =
        let within : c.0 < length roots = c.1
        in let at : root_at roots c.0 ≡ r = get_or_default roots c.0 no_root r c.1 ∙ c.2
        in let letter : IsLetter (s - 1) (c.0 + 1) = record { from_one = omega arith; to_rank = omega (arith, within, h.count) }
        in let place : c.0 + 1 - 1 ≡ c.0 = omega arith
        in let same : simple_root (c.0 + 1) ≡ simple_root s
        = sym (h.simple.is (c.0 + 1) letter) ∙ ap (λ (k : ℕ). root_of roots k) place ∙ ap (λ (q : Root). vector_of q.root) at ∙ e
        in omega (arith, simple-different (c.0 + 1) s same, within, h.count, l.from_one)

    -- so it comes last
    new_last : {next : List Root} → IsInserted roots r next → (length next ≡ s + 1 - 1) × (root_at next (s - 1) ≡ r)
    new_last (there c) = absurd (absent c)
    new_last (last c) = (
      omega (arith, length-last roots r, h.count, l.from_one),
      rw (← h.count) (at_last roots r),
    )

    simple_at : (q : ℕ) → IsLetter (s + 1 - 1) q → root_of new (q - 1) ≡ simple_root q
    simple_at q k =
        ⊎_elim (λ (f : q ≡ s). rw f (ap (λ (x : Root). vector_of x.root) (new_last put).1 ∙ e))
        (λ ne. (HasSimple-longer roots new (s - 1) (longer-inserted put) h.simple).is q
        (record { from_one = k.from_one; to_rank = omega (arith, k.to_rank, ne) })) (cases_eq q s)
