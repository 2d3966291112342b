-- What is kept of a list.
use Rattle.std.proofs.Common.{◌≡◌, ◌≤◌, ◌+◌, Bool, true, false, inl, inr, [], ◌∷◌, ◌++◌, length}
use Rattle.std.proofs.Common.{refl, sym, subst, arith, length-append, ◌<◌}
use Rattle.std.proofs.lemmas.Bool.Decides.{nat_tests}
use Rattle.cox_shell.specs.Reply.{Kept, OpenList}
use Rattle.cox_shell.specs.OpenLists.{then_line, then_block, kept_lines, is_long}
use Rattle.cox_shell.specs.Keeping.{itself, line_behind, block_behind, IsKeptOf, IsBounded}
use Rattle.cox_shell.proofs.Counts.{few_blocks, few_lines}

-- a list with more blocks and lines than one that is too long is too long
long-more : (list more : OpenList) → length list ≤ length more → length (kept_lines list) ≤ length (kept_lines more) → is_long list ≡ true
    → is_long more ≡ true
long-more list more blocks lines long = grind (arith, nat_tests)

count-line : (list : OpenList) (line : Kept) → length (kept_lines (then_line list line)) ≡ length (kept_lines list) + 1
count-line [] line = refl
count-line (block ∷ []) line = omega (
  arith,
  length-append block (line ∷ []),
  length-append block [],
  length-append (block ++ line ∷ []) [],
)
count-line (block ∷ next ∷ blocks) line = omega (
  arith,
  count-line (next ∷ blocks) line,
  length-append block (kept_lines (next ∷ blocks)),
  length-append block (kept_lines (then_line (next ∷ blocks) line)),
)

length-line : (list : OpenList) (line : Kept) → length list ≤ length (then_line list line)
length-line [] line = omega arith
length-line (block ∷ []) line = omega arith
length-line (block ∷ next ∷ blocks) line = omega (arith, length-line (next ∷ blocks) line)

long-line : (list : OpenList) (line : Kept) → is_long list ≡ true → is_long (then_line list line) ≡ true
long-line list line long =
    long-more list (then_line list line) (length-line list line) (omega (arith, count-line list line)) long

lines-block : (list : OpenList) → length (kept_lines (then_block list)) ≡ length (kept_lines list)
lines-block [] = omega arith
lines-block (block ∷ blocks) = omega (
  arith,
  lines-block blocks,
  length-append block (kept_lines blocks),
  length-append block (kept_lines (then_block blocks)),
)

long-block : (list : OpenList) → is_long list ≡ true → is_long (then_block list) ≡ true
long-block list long = long-more list (then_block list) (omega (arith, length-append list ([] ∷ []))) (omega (arith, lines-block list)) long

-- a list that is not too long is bounded with one more line
most_blocks : (list : OpenList) (line : Kept) → length (then_line list line) ≤ length list + 1
most_blocks [] line = omega arith
most_blocks (block ∷ []) line = omega arith
most_blocks (block ∷ next ∷ blocks) line = omega (arith, most_blocks (next ∷ blocks) line)

bounded-line : (list : OpenList) (line : Kept) → is_long list ≡ false → IsBounded (then_line list line)
bounded-line list line short = (
  omega (arith, most_blocks list line, few_blocks list short),
  omega (arith, count-line list line, few_lines list short),
)

bounded-block : (list : OpenList) → is_long list ≡ false → IsBounded (then_block list)
bounded-block list short = (
  omega (arith, length-append list ([] ∷ []), few_blocks list short),
  omega (arith, lines-block list, few_lines list short),
)

-- of a list that is not too long all is kept
kept-whole : (kept list : OpenList) → IsKeptOf kept list → is_long kept ≡ false → kept ≡ list
kept-whole kept list (inl same) short = same.0
kept-whole kept list (inr long) short = absurd (cc (long.0, short))

-- what is kept of a list: at least a block, and no more than makes it too long
abbrev pub Keeps : OpenList → OpenList → Type 0
Keeps kept list = (0 < length kept) × IsBounded kept × IsKeptOf kept list

-- where it is not too long one more line is kept
line-grown : (list : OpenList) (line : Kept) (b : Bool) → is_long (then_line list line) ≡ b → is_long list ≡ false
    → IsKeptOf (then_line list line) (then_line list line)
line-grown list line false test short = inl (refl, test)
line-grown list line true test short = inr (test, test, itself, list, short, inr (line, refl))

pub line-taken : (kept list new : OpenList) (line : Kept) → Keeps kept list → is_long kept ≡ false → new ≡ then_line kept line
    → Keeps new (then_line list line)
line-taken kept list new line keeps short same = subst (λ (l : OpenList). Keeps l (then_line list line)) (sym same) (
  omega (arith, keeps.0, length-line kept line),
  bounded-line kept line short,
  subst (λ (l : OpenList). IsKeptOf (then_line kept line) (then_line l line)) (kept-whole kept list keeps.2 short)
      (line-grown kept line (is_long (then_line kept line)) refl short),
)

-- and one more block
block-grown : (list : OpenList) (b : Bool) → is_long (then_block list) ≡ b → is_long list ≡ false
    → IsKeptOf (then_block list) (then_block list)
block-grown list false test short = inl (refl, test)
block-grown list true test short = inr (test, test, itself, list, short, inl refl)

pub block-taken : (kept list new : OpenList) → Keeps kept list → is_long kept ≡ false → new ≡ then_block kept → Keeps new (then_block list)
block-taken kept list new keeps short same = subst (λ (l : OpenList). Keeps l (then_block list)) (sym same) (
  omega (arith, keeps.0, length-append kept ([] ∷ [])),
  bounded-block kept short,
  subst (λ (l : OpenList). IsKeptOf (then_block kept) (then_block l)) (kept-whole kept list keeps.2 short)
      (block-grown kept (is_long (then_block kept)) refl short),
)

-- where it is too long, so is the whole list, whatever follows
line-behind : (kept list : OpenList) (line : Kept) → IsKeptOf kept list → is_long kept ≡ true → IsKeptOf kept (then_line list line)
line-behind kept list line (inl same) long = absurd (cc (long, same.0, same.1))
line-behind kept list line (inr of) long = inr (of.0, long-line list line of.1, line_behind of.2 line, of.3, of.4, of.5)

block-behind : (kept list : OpenList) → IsKeptOf kept list → is_long kept ≡ true → IsKeptOf kept (then_block list)
block-behind kept list (inl same) long = absurd (cc (long, same.0, same.1))
block-behind kept list (inr of) long = inr (of.0, long-block list of.1, block_behind of.2, of.3, of.4, of.5)

pub line-left : (kept list : OpenList) (line : Kept) → Keeps kept list → is_long kept ≡ true → Keeps kept (then_line list line)
line-left kept list line keeps long = (keeps.0, keeps.1, line-behind kept list line keeps.2 long)

pub block-left : (kept list : OpenList) → Keeps kept list → is_long kept ≡ true → Keeps kept (then_block list)
block-left kept list keeps long = (keeps.0, keeps.1, block-behind kept list keeps.2 long)
