-- What each atomic step tells the seat that makes it.
use Rattle.std.specs.Prelude.{◌≡◌, ℕ, ◌==◌, if◌then◌else◌}
use Rattle.atomic_table.specs.Table.{Me, Step}
use Rattle.cox_claims.specs.declared.view.View.{View}
use Rattle.cox_claims.specs.declared.table.Claimed.{Claimed}
use Rattle.cox_claims.specs.Knowledge.{Looks, TriesClaim, Publishes, Voids}
use Rattle.cox_claims.specs.Rule.{state_of}

-- a seat before or after a step: its view, and the slots that it carries, of which there are none
abbrev pub Sitter : Type 0
Sitter = Me (Unit {0}) View

-- the seat carries what it carried, and is as live as it was
pub record StaysSeated (v w : Sitter) : Type 0 where
  pub carried : w.1 ≡ v.1
  pub live : w.0.spent ≡ v.0.spent

-- what a claim answers that found the word n
abbrev pub claim_answer : ℕ → Claimed
claim_answer n = if n == 0 then Claimed.Won else Claimed.Lost (state_of n)

abbrev pub TellsLook : Step (Unit {0}) → Sitter → ℕ → Sitter → Type 0
TellsLook s v n w = Looks v.0 s.word (state_of n) w.0 × StaysSeated v w

abbrev pub TellsClaim : Step (Unit {0}) → Sitter → ℕ → Sitter → Type 0
TellsClaim s v n w = TriesClaim v.0 s.word (claim_answer n) w.0 × StaysSeated v w

abbrev pub TellsPublish : Step (Unit {0}) → Sitter → ℕ → Sitter → Type 0
TellsPublish s v n w = Publishes v.0 s.word w.0 × StaysSeated v w

abbrev pub TellsVoid : Step (Unit {0}) → Sitter → ℕ → Sitter → Type 0
TellsVoid s v n w = Voids v.0 s.word w.0 × StaysSeated v w
