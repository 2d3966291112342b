-- What the pass knows of a vertex.
use Rattle.std.specs.Prelude.{ℕ, Bool, true, false, cond, ◌==◌, ◌-◌, ◌^◌}

-- the pass has not come to it; it is on the stack, at a place; its class is known
pub data Visit : Type 0 where
  Unseen : Visit
  Open : ℕ → Visit
  Closed : Visit

-- stands in place of the place of a vertex that is not on the stack
abbrev pub nowhere : ℕ
nowhere = 2 ^ 32 - 1

-- what is known of a vertex by whether it was seen, and by its place
abbrev pub visit_by : Bool → ℕ → Visit
visit_by false place = Unseen
visit_by true place = cond (place == nowhere) Closed (Open place)
