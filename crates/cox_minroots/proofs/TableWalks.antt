-- A walk over the table, from the last letter of a reduced word to the first: what it tells of a letter behind the word.
use Rattle.std.proofs.Common.{◌≡◌, ℕ, suc, ◌+◌, ◌-◌, ◌*◌, ◌≤◌, ◌<◌, List, [], ◌∷◌, ◌++◌, length, take, drop, get_or, refl, ap, sym, ◌∙◌}
use Rattle.std.proofs.Common.{arith, drop-cons}
use Rattle.std.specs.List.{remove}
use Rattle.std.specs.Coded.{le_prop}
use Rattle.std.proofs.Math.Logic.{∥∥₁_elim, ∥∥₁_map}
use Rattle.std.proofs.Math.IntN.{ℤ_set}
use native.Mathlib.Nat.{ℕ_set}
use Rattle.std.proofs.lemmas.List.{take-append-drop}
use Rattle.cox_base.specs.declared.limits.TheConstants.{MAX_RANK}
use Rattle.cox_base.specs.Matrix.{IsLetter, IsWord}
use Rattle.cox_base.specs.IntegerMatrix.{IntegerMatrix}
use Rattle.cox_base.specs.Admissible.{IsAdmissible}
use Rattle.cox_base.specs.Element.{SameElement}
use Rattle.cox_base.specs.Reduced.{IsReduced}
use Rattle.cox_reflect.specs.Action.{simple_root, reflect}
use Rattle.cox_reflect.specs.WordAction.{act}
use Rattle.cox_reflect.proofs.Action.{act-nil, act-cons}
use Rattle.cox_reflect.proofs.Removal.{right_letter_goes}
use Rattle.cox_small.specs.SmallRoots.{IsSmall}
use Rattle.cox_small.proofs.Reading.{read-front, read-out}
use Rattle.cox_minroots.specs.declared.moves.TheConstants.{NEGATIVE, OUT}
use Rattle.cox_minroots.specs.Moves.{IsMove, IsMoveTable, IsRootTable}

-- the word behind takes e(s) to the small root i
pub record IsAt (A : IntegerMatrix) (count : ℕ) (moves : List ℕ) (behind : List ℕ) (s i : ℕ) : Type 0 where
  pub table : IsMoveTable A count moves
  pub is : act A behind (simple_root s) ≡ table.root i

-- the last k letters of w take e(s) to the small root i
pub record IsWalk (A : IntegerMatrix) (moves w : List ℕ) (s k i : ℕ) : Type 0 where
  pub count : ℕ
  pub table : IsRootTable A count moves
  pub letters : IsWord A.rank w
  pub letter : IsLetter A.rank s
  pub reduced : IsReduced A w
  pub inside : i < count
  pub reads : ∥ IsAt A count moves (drop (length w - k) w) s i ∥₁

drop-all : (w : List ℕ) → drop (length w) w ≡ []
drop-all [] = refl
drop-all (s ∷ w) = drop-all w

pub walk-start : (A : IntegerMatrix) (count : ℕ) (moves w : List ℕ) (s : ℕ) → IsRootTable A count moves → IsWord A.rank w
    → IsLetter A.rank s
    → IsReduced A w → IsWalk A moves w s 0 (s - 1)
walk-start A count moves w s t lw ls r = record {
  count = count;
  table = t;
  letters = lw;
  letter = ls;
  reduced = r;
  inside = ∥∥₁_elim t.table (hlevel le_prop) (λ (x : IsMoveTable A count moves). (x.simple s ls).0);
  reads = ∥∥₁_map t.table (λ (x : IsMoveTable A count moves). start x);
}
  where
    nothing : drop (length w - 0) w ≡ []
    nothing = let e : length w - 0 ≡ length w = omega arith in rw e (drop-all w)

    start : IsMoveTable A count moves → IsAt A count moves (drop (length w - 0) w) s (s - 1)
    start x = record { table = x; is = rw nothing (act-nil A (simple_root s) ∙ sym (x.simple s ls).1) }

module _ (A : IntegerMatrix) (g : IsAdmissible A) (fits : A.rank ≤ MAX_RANK) (moves w : List ℕ) (s k i : ℕ) (h : IsWalk A moves w s k i)
    (more : k < length w) (place : ℕ) (at : place ≡ length w - 1 - k) (q : ℕ) (is_q : q ≡ get_or w place 0) where
  within : place < length w
  within = omega (arith, more, at)

  lq : IsLetter A.rank q
  lq = rw is_q (h.letters place 0 within)

  behind : List ℕ
  behind = drop (length w - k) w

  here : drop (length w - k) w ≡ drop (place + 1) w
  here = let e : length w - k ≡ place + 1 = omega (arith, more, at) in rw e refl

  split : w ≡ take place w ++ q ∷ drop (length w - k) w
  split =
      let e : drop place w ≡ get_or w place 0 ∷ drop (suc place) w = drop-cons w place 0 within
      in let f : suc place ≡ place + 1 = omega arith
      in rw (here, ← f, is_q, ← e) (sym (take-append-drop place w))

  module _ (move : ℕ) (is_move : move ≡ get_or moves (MAX_RANK * i + (q - 1)) 0) where
    move_at : (t : IsMoveTable A h.count moves) → IsMove A h.count t.root t.coroot i q move
    move_at t = rw is_move (t.move i q h.inside lq)

    pub walk-negative : move ≡ NEGATIVE → SameElement A (w ++ s ∷ []) (remove w place)
    walk-negative e =
        let gone : SameElement A ((take place w ++ q ∷ drop (length w - k) w) ++ s ∷ []) (take place w ++ drop (length w - k) w)
        = ∥∥₁_elim h.reads (hlevel ℤ_set) (λ (x : IsAt A h.count moves (drop (length w - k) w) s i).
        right_letter_goes A g (take place w) (drop (length w - k) w) q s lq h.letter (x.is ∙ (move_at x.table).negative e))
        in let f : suc place ≡ place + 1 = omega arith
        in let rest : take place w ++ drop (length w - k) w ≡ remove w place = rw (here, ← f) refl
        in rw (← split, rest) at gone

    pub walk-out : move ≡ OUT → IsReduced A (w ++ s ∷ [])
    walk-out e =
        let longer : IsReduced A ((take place w ++ q ∷ drop (length w - k) w) ++ s ∷ [])
        = ∥∥₁_elim h.reads (hlevel ℕ_set) (λ (x : IsAt A h.count moves (drop (length w - k) w) s i). out_at x)
        in rw (← split) at longer
      where
        out_at : IsAt A h.count moves (drop (length w - k) w) s i
            → IsReduced A ((take place w ++ q ∷ drop (length w - k) w) ++ s ∷ [])
        out_at x =
            let step = (move_at x.table).out e
            in read-out A g (take place w) (drop (length w - k) w) q s {c = x.table.coroot i} h.letter (rw (← split) h.reduced)
            (rw x.is (x.table.small i h.inside)) (rw x.is step.0) (rw x.is step.1)

    pub walk-on : move < NEGATIVE → IsWalk A moves w s (k + 1) move
    walk-on l = record {
      count = h.count;
      table = h.table;
      letters = h.letters;
      letter = h.letter;
      reduced = h.reduced;
      inside = ∥∥₁_elim h.reads (hlevel le_prop) (λ (x : IsAt A h.count moves (drop (length w - k) w) s i). ((move_at x.table).goes l).0);
      reads = ∥∥₁_map h.reads (λ (x : IsAt A h.count moves (drop (length w - k) w) s i). next x);
    }
      where
        longer : drop (length w - (k + 1)) w ≡ q ∷ drop (length w - k) w
        longer =
            let e : drop place w ≡ get_or w place 0 ∷ drop (suc place) w = drop-cons w place 0 within
            in let f : suc place ≡ place + 1 = omega arith
            in let there : length w - (k + 1) ≡ place = omega (arith, at)
            in rw (there, e, here, ← f, is_q) refl

        next : IsAt A h.count moves (drop (length w - k) w) s i → IsAt A h.count moves (drop (length w - (k + 1)) w) s move
        next x = record {
          table = x.table;
          is = rw longer (act-cons A q (drop (length w - k) w) (simple_root s) ∙ ap (reflect A q) x.is ∙ sym ((move_at x.table).goes l).1);
        }

pub walk-end : (A : IntegerMatrix) → IsAdmissible A → (moves w : List ℕ) (s k i : ℕ) → IsWalk A moves w s k i → k ≡ length w
    → IsReduced A (w ++ s ∷ [])
walk-end A g moves w s k i h e =
    ∥∥₁_elim h.reads (hlevel ℕ_set) (λ (x : IsAt A h.count moves (drop (length w - k) w) s i).
    read-front A g w s {c = x.table.coroot i} h.letter h.reduced (at_end x))
  where
    whole : drop (length w - k) w ≡ w
    whole = let none : length w - k ≡ 0 = omega (arith, e) in rw none refl

    at_end : (x : IsAt A h.count moves (drop (length w - k) w) s i) → IsSmall A (act A w (simple_root s)) (x.table.coroot i)
    at_end x = let same : act A w (simple_root s) ≡ x.table.root i = rw whole at x.is in rw same (x.table.small i h.inside)
