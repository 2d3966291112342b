-- The proof of `run_arguments`: words follow the name where there are two arguments.
use Rattle.std.proofs.Common.{drop, map, refl}
use Rattle.std.specs.String.{string_bytes}
use Rattle.cox_cert.proofs.WholeChecks.{check-words, behind-none, behind-some}
use Rattle.coxcheck.proofs.run_arguments.Goals as goal

pub returns-then-arguments-gt1 : goal.returns-then-arguments-gt1
returns-then-arguments-gt1 g c = record {
  check = c.refuse_words.ensures (drop 1 (map string_bytes c.args.arguments.now))
      (behind-some string_bytes c.args.arguments.now c.if-arguments-gt1.true) _;
  unread = λ some. refl;
}

pub returns : goal.returns
returns g c = record {
  check = check-words c.check.result _ (drop 1 (map string_bytes c.args.arguments.now)) _ _ _ _ (λ none. absurd (none refl))
      (λ some. absurd (some (behind-none string_bytes c.args.arguments.now c.if-arguments-gt1.false))) c.check.ensures.check;
  unread = λ some. absurd (some (behind-none string_bytes c.args.arguments.now c.if-arguments-gt1.false));
}
