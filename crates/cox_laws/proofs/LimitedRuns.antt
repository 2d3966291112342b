-- What a run that met the limit has answered: the lines of the script within it.
use Rattle.std.proofs.Common.{◌≡◌, ◌<◌, ℕ, false, nat_le, List, [], ◌∷◌, ◌++◌, length, Option, None, Some, refl, sym, ap, ◌∙◌, subst, arith}
use Rattle.std.proofs.Common.{length-append}
use Rattle.std.specs.Io.KnownBytes.{prepend_known}
use Rattle.std.proofs.lemmas.List.{take_at}
use Rattle.std.proofs.lemmas.Bool.Decides.{nat_tests}
use Rattle.cox_outside.specs.declared.limits.TheConstants.{INPUT_LIMIT}
use Rattle.cox_tokens.specs.Line.{ended_lines}
use Rattle.cox_outside.specs.Supply.{Supply}
use Rattle.cox_outside.specs.Outlet.{Outlet}
use Rattle.cox_shell.specs.declared.status.Status.TheVariants.{InputLimit}
use Rattle.cox_shell.specs.Reply.{opening}
use Rattle.cox_shell.specs.Answer.{AreAllReplies, script_lines}
use Rattle.cox_shell.specs.Top.{given_limits}
use Rattle.cox_shell.specs.WholeRun.{IsRun}
use Rattle.cox_laws.specs.Limited.{AnswersWithin}

-- the lines of a longer script are those that end within the limit
script_lines-limited : (given : List ℕ) (byte : ℕ) (rest : List ℕ) → length given ≡ INPUT_LIMIT
    → script_lines (given ++ byte ∷ rest) ≡ ended_lines given
script_lines-limited given byte rest size =
    let more : INPUT_LIMIT < length (given ++ byte ∷ rest) = omega (arith, size, length-append given (byte ∷ rest)) in
    let test : nat_le (length (given ++ byte ∷ rest)) INPUT_LIMIT ≡ false = grind (arith, nat_tests, more) in
    rw (test, take_at given (byte ∷ rest) INPUT_LIMIT size) refl

-- a known script of which these bytes came
known-given : (given : List ℕ) (byte : ℕ) (script : List ℕ) (left : Option (List ℕ))
    → Some script ≡ prepend_known given (prepend_known (byte ∷ []) left) → (rest : List ℕ) × (script ≡ given ++ byte ∷ rest)
known-given given byte script None gave = absurd (cc gave)
known-given given byte script (Some rest) gave = (rest, cc gave)

pub limit-within : (arguments : List (List ℕ)) (script : List ℕ) (source left : Supply) (old new : Outlet) → source.left ≡ Some script
    → IsRun InputLimit arguments source left old new → AnswersWithin (given_limits arguments) script old new
limit-within arguments script source left old new known run =
    let limit = run.limit refl in
    let answers = limit.1 in
    let rest = known-given answers.given limit.0 script left.left (sym known ∙ answers.taken) in
    let lines : script_lines script ≡ ended_lines answers.given =
    ap script_lines rest.1 ∙ script_lines-limited answers.given limit.0 rest.0 limit.2 in record {
      replies = answers.replies;
      are_replies = subst (λ lines. AreAllReplies (opening (given_limits arguments)) lines answers.replies) (sym lines) answers.are_replies;
      none_quits = answers.none_quits;
      over = omega (arith, ap length rest.1, length-append answers.given (limit.0 ∷ rest.0), limit.2);
      writes = answers.writes;
    }
