-- The proof of `run_arguments`: the texts are those of the arguments.
use Rattle.std.proofs.Common.{◌≡◌, map, ap, ◌∙◌, refl}
use Rattle.std.specs.String.{string_bytes}
use Rattle.cox_shell.specs.Top.{argument_texts}
use Rattle.cox_shell.proofs.UnreadRuns.{run-none, read-none}
use Rattle.coxeter.proofs.run_arguments.Goals as goal

pub returns-in-Ok : goal.returns-in-Ok
returns-in-Ok g c =
    let same : argument_texts c.deref.result.now ≡ map string_bytes c.args.arguments.now =
    ap argument_texts c.deref.ensures.value ∙ c.in-Ok.ensures.each in record {
      run = rw (← same) c.run.ensures.run;
      reading = rw (← same) c.run.ensures.reading;
      unread = rw (← same) c.run.ensures.unread;
    }

pub returns-in-Err : goal.returns-in-Err
returns-in-Err g c = record {
  run = run-none (map string_bytes c.args.arguments.now) _ _;
  reading = read-none (map string_bytes c.args.arguments.now) _;
  unread = λ wrong. refl;
}
