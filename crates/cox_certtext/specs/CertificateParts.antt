-- The text of a certificate in parts: what stands before the list of its entries, and what stands behind it.
use Rattle.std.specs.Prelude.{ℕ, List, ◌∷◌, ◌++◌, codes, decimal}
use Rattle.std.specs.List.{flat_map}
use Rattle.cox_base.specs.Matrix.{CoxeterMatrix}
use Rattle.cox_tokens.specs.Line.{line_feed}
use Rattle.cox_certtext.specs.Certificate.{matrix_line, top_line, end_line}

-- a label in the first line
abbrev pub label_text : ℕ → List ℕ
label_text label = codes " " ++ decimal label

-- the labels of a matrix, as they stand in its line
abbrev pub labels_text : List ℕ → List ℕ
labels_text labels = flat_map label_text labels

-- the line of the element, behind the end of the line before
abbrev pub next_top_line : ℕ → List ℕ → List ℕ
next_top_line rank top = line_feed ∷ top_line rank top

-- the lines of the group and of the element, and the third line as far as the number of the entries
abbrev pub certificate_head : CoxeterMatrix → List ℕ → List ℕ
certificate_head g top = matrix_line g ++ next_top_line g.rank top ++ line_feed ∷ codes "rows "

-- the last line, behind the end of the line before
abbrev pub certificate_foot : List ℕ
certificate_foot = line_feed ∷ end_line
