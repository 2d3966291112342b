-- The lines of a text, as lists of bytes.
use Rattle.std.specs.Prelude.{ℕ, ◌-◌, Bool, ◌||◌, ◌==◌, nat_lt, nat_le, if◌then◌else◌, List, [], length, take}
use Rattle.std.specs.List.{slice_split}
use Rattle.std.specs.Io.BufRead.{strip_last}

-- the byte that ends a line
abbrev pub line_feed : ℕ
line_feed = 10

-- the byte that is no part of a line where it stands right before its end
abbrev pub carriage_return : ℕ
carriage_return = 13

-- The lines of these bytes, without their ends: what stands before, between and after its LFs, save that an LF at the end of the bytes ends
-- the last line. So a last line that is not empty may end with the bytes; no bytes have no line.
abbrev pub lines_of : List ℕ → List (List ℕ)
lines_of [] = []
lines_of bytes = slice_split (λ byte. byte == line_feed) (strip_last line_feed bytes)

-- those of these bytes' lines that end by LF: all but what stands after the last LF
abbrev pub ended_lines : List ℕ → List (List ℕ)
ended_lines bytes = let parts = slice_split (λ byte. byte == line_feed) bytes in take (length parts - 1) parts

-- the lines of a text of which at most so many bytes may be read: of a longer one those that end by LF within the limit
abbrev pub lines_within : ℕ → List ℕ → List (List ℕ)
lines_within limit bytes = if nat_le (length bytes) limit then lines_of bytes else ended_lines (take limit bytes)

-- the byte is none of those from 0x20 to 0x7E, of which lines are made
abbrev pub is_foreign : ℕ → Bool
is_foreign byte = nat_lt byte 0x20 || nat_lt 0x7E byte

-- a line without the one CR that may stand right before its end
abbrev pub content_of : List ℕ → List ℕ
content_of line = strip_last carriage_return line
