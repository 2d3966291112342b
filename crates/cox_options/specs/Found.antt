-- What a parse found for an option.
use Rattle.std.specs.Prelude.{◌≡◌, ℕ, Some}
use Rattle.clap.specs.Words.{IsUnsignedIn, Text, one_text}
use Rattle.clap.specs.declared.parser.matches.Found.{Found}

-- a text is there, which writes a number from 1 to `most`
abbrev pub HasNumber : Found → Text → ℕ → Type 0
HasNumber found name most =
    (text : Text) × (one_text found name ≡ Some text) × IsUnsignedIn 1 most text
