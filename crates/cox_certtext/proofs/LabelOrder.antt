-- The labels of a Coxeter matrix in their order: the nodes of the first, and those of the next.
use Rattle.std.proofs.Common.{◌≡◌, ℕ, ◌+◌, ◌-◌, ◌*◌, ◌/◌, ◌<◌, ◌≤◌, ⊎_elim, arith, refl}
use Rattle.std.proofs.lemmas.Bool.{cases_lt}
use Rattle.cox_base.specs.Matrix.{labels_before, place}
use Rattle.cox_base.proofs.LabelPlaces.{labels_before-all, labels_before-next}
use Rattle.cox_certtext.specs.LabelPairs.{IsNextPair}

-- the nodes of the label at the place k, if there is one: s and t with s < t; behind the last label s is the rank
pub record IsPair (n k s t : ℕ) : Type 0 where
  pub from_one : 1 ≤ s
  pub to_rank : s ≤ n
  pub rising : s < t
  pub next : s < n → t ≤ n
  pub at : place n s t ≡ k

pub first-pair : (n : ℕ) → 1 ≤ n → IsPair n 0 1 2
unfolding place labels_before
first-pair n some = record { from_one = omega arith; to_rank = some; rising = omega arith; next = λ l. omega (arith, l); at = refl }

-- where there is a label, both nodes are in range
pub pair-inside : (n k s t : ℕ) → IsPair n k s t → k < n * (n - 1) / 2 → s < n
unfolding place
pair-inside n k s t p inside = ⊎_elim
    (λ (l : s < n). l)
    (λ (e : n ≤ s).
    let last : labels_before n (s - 1) + (n - s) ≡ labels_before n s = labels_before-next n s p.from_one
    in let same : s ≡ n = omega (arith, e, p.to_rank)
    in let all : labels_before n s ≡ n * (n - 1) / 2 = rw same (labels_before-all n)
    in absurd (omega (arith, last, all, p.at, p.to_rank, e, inside)))
    (cases_lt s n)

-- the next pair
pub pair-next : (n k s t u v : ℕ) → IsPair n k s t → s < n → IsNextPair n s t u v → IsPair n (k + 1) u v
unfolding place
pair-next n k s t u v p inside step = ⊎_elim
    (λ (l : t < n). let same : u ≡ s = step.same l
    in let more : v ≡ t + 1 = step.more l
    in rw (same, more) (record {
      from_one = p.from_one;
      to_rank = p.to_rank;
      rising = omega (arith, p.rising);
      next = λ _. omega (arith, l);
      at = omega (arith, p.at, p.rising);
    }))
    (λ (e : n ≤ t).
    let last : t ≡ n = omega (arith, e, p.next inside)
    in let after : u ≡ s + 1 = step.after last
    in let behind : v ≡ s + 2 = step.behind last
    in let row : labels_before n (s - 1) + (n - s) ≡ labels_before n s = labels_before-next n s p.from_one
    in let start : s + 1 - 1 ≡ s = omega arith
    in rw (after, behind) (record {
      from_one = omega arith;
      to_rank = omega (arith, inside);
      rising = omega arith;
      next = λ l. omega (arith, l);
      at = rw start (omega (arith, p.at, p.rising, row, last, inside));
    }))
    (cases_lt t n)
