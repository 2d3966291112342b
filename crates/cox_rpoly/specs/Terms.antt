-- For code: values of a layer by those of the next.
use Rattle.std.specs.Prelude.{◌≡◌, ℕ, ◌^◌, ◌<◌, ◌≤◌, Some, None, List, [], length, slice_index_or, ℤ, pos, unsigned_abs}
use Rattle.cox_poly.specs.Coefficients.{Coefficients, zero_polynomial, one_polynomial, plus, times_q, times_q_less_one}
use Rattle.cox_poly.specs.Polynomial.{coefficient}
use Rattle.cox_rpoly.specs.declared.TheConstants.{MAX_DIFFERENCE}
use Rattle.cox_rpoly.specs.declared.terms.Link.{Link}
use Rattle.cox_rpoly.specs.declared.terms.Link.TheVariants.{Shorter, Longer}

-- q times the polynomial fits, and its coefficients have room for sums of three
pub record LeavesRoom (p : List ℤ) : Type 0 where
  pub top : coefficient p MAX_DIFFERENCE ≡ pos 0
  pub small : (k : ℕ) → unsigned_abs (coefficient p k) ≤ 2 ^ 61

-- the polynomial with a number
abbrev pub numbered : List (List ℤ) → ℕ → List ℤ
numbered ps i = slice_index_or ps i []

pub record LeavesRoomAt (ps : List (List ℤ)) (i : ℕ) : Type 0 where
  pub within : i < length ps
  pub small : LeavesRoom (numbered ps i)

-- the link leads to polynomials that are there, and what is combined is small
abbrev pub IsLinkWithin : List (List ℤ) → Link → Type 0
IsLinkWithin ps (Shorter i) = i < length ps
IsLinkWithin ps (Longer i None) = LeavesRoomAt ps i
IsLinkWithin ps (Longer i (Some j)) = LeavesRoomAt ps i × LeavesRoomAt ps j

-- where s shortens x the value of s x, and else (q-1) times that of x and q times that of s x
abbrev pub linked_value : List (List ℤ) → Link → Coefficients
linked_value ps (Shorter i) = coefficient (numbered ps i)
linked_value ps (Longer i None) = plus (times_q_less_one (coefficient (numbered ps i))) (times_q zero_polynomial)
linked_value ps (Longer i (Some j)) = plus (times_q_less_one (coefficient (numbered ps i))) (times_q (coefficient (numbered ps j)))

-- one value a link
pub record AreLinkedValues (links : List Link) (next values : List (List ℤ)) : Type 0 where
  pub count : length values ≡ length links
  pub each : (i : ℕ) (l : Link) (k : ℕ) → i < length links → coefficient (numbered values i) k
      ≡ linked_value next (slice_index_or links i l) k

-- so many polynomials 1
pub record AreOnes (n : ℕ) (values : List (List ℤ)) : Type 0 where
  pub count : length values ≡ n
  pub each : (i : ℕ) (k : ℕ) → i < n → coefficient (numbered values i) k ≡ one_polynomial k
