-- The text of one member of a cell, which is put behind those before it.
use Rattle.std.specs.Prelude.{ℕ, ◌++◌, Bool, if◌then◌else◌, List, codes}
use Rattle.cox_print.specs.AnswerText.{element_text}

-- a member of a cell, and whether it is the first: a space stands before each other one
abbrev pub member_text : ℕ → List ℕ → Bool → List ℕ
member_text rank x first = if first then element_text rank x else codes " " ++ element_text rank x
