-- A line at the end of the last block, and lines that are refused by their bytes.
use Rattle.std.proofs.Common.{Option, Some, ◌≡◌, ℕ, zero, suc, ◌+◌, List, [], ◌∷◌, ◌++◌, length, get_or, slice_set, ap, refl, arith}
use Rattle.std.specs.Option.{option_map_or}
use Rattle.cox_command.specs.declared.refusal.Refusal.{Refusal}
use Rattle.cox_shell.specs.Reply.{Kept, OpenList, State, Reply, refusal}
use Rattle.cox_shell.specs.OpenLists.{then_line}
use Rattle.cox_shell.specs.ListReply.{reply_when_kept}

-- the reply to a line that is refused by its bytes, where this list is open, or none
abbrev pub kept_refusal : Option OpenList → State → Refusal → Reply
kept_refusal o state why =
    option_map_or (λ list. reply_when_kept state list (record { content = []; refused = Some why })) o (refusal state why)

pub then_line-last : (list : OpenList) (n : ℕ) (block : List Kept) (line : Kept) → length list ≡ n + 1 → block ≡ get_or list n block
    → then_line list line ≡ slice_set list n (block ++ line ∷ [])
then_line-last [] n block line count is = absurd (omega (arith, count))
then_line-last (b ∷ []) zero block line count is = rw is refl
then_line-last (b ∷ []) (suc n) block line count is = absurd (omega (arith, count))
then_line-last (b ∷ c ∷ blocks) zero block line count is = absurd (omega (arith, count))
then_line-last (b ∷ c ∷ blocks) (suc n) block line count is =
    ap (λ l. b ∷ l) (then_line-last (c ∷ blocks) n block line (omega (arith, count)) is)
