-- One more piece was written, or a write failed behind what was.
use Rattle.std.proofs.Common.{take, drop, arith, sym, ◌∙◌, subst, length-drop}
use Rattle.std.proofs.lemmas.List.{take-append-drop, take_rest}
use Rattle.cox_outside.specs.Outlet.{Writes}
use Rattle.cox_outside.proofs.Known.{Writes-on, Writes-stay}
use Rattle.cox_outside.proofs.writing.write_all.Goals as goal

pub rest-preserved : goal.rest-preserved
rest-preserved g c = record {
  within = omega (arith, c.in-Bytes.ensures.count, length-drop c.rest.at c.args.bytes.now);
  puts = Writes-on c.rest.at c.in-Bytes.count c.args.bytes.now _ _ _ c.rest.invariant.puts
      (subst (λ rest. Writes (take c.in-Bytes.count rest) (g.K.Sink.seen c.rest.sink) (g.K.Sink.seen c.write.new.self))
      (take_rest c.args.bytes.now c.rest.at) c.in-Bytes.ensures.puts);
  still = λ none. absurd (omega (arith, c.in-Bytes.ensures.count));
  faults = c.in-Bytes.ensures.cause ∙ c.rest.invariant.faults;
}

pub returns-in-Failed-clause-err : goal.returns-in-Failed-clause-err
returns-in-Failed-clause-err g c = (
  take c.rest.at c.args.bytes.now,
  (drop c.rest.at c.args.bytes.now, sym (take-append-drop c.rest.at c.args.bytes.now)),
  Writes-stay _ _ _ _ c.rest.invariant.puts c.in-Failed.ensures.puts,
)
