-- What is written over zeros stands behind the coefficients that were there.
use Rattle.std.proofs.Common.{◌≡◌, ◌+◌, ◌-◌, ◌++◌, ◌≤◌, List, ℤ, pos, [], length, drop, replicate, append-nil, eqb-true, sym, ap}
use Rattle.std.proofs.Common.{◌∙◌, arith}
use Rattle.std.proofs.Common.{length-take, length-drop}
use Rattle.std.specs.Vec.{vec_len}
use Rattle.std.proofs.lemmas.List.{take_all, length-replicate}
use Rattle.cox_rowcheck.proofs.StoredEntries.{written, nothing-combined}
use Rattle.cox_rowcheck.proofs.entries.append_combined.Goals as goal

pub returns-then-is_empty-2-clause-appended : goal.returns-then-is_empty-2-clause-appended
returns-then-is_empty-2-clause-appended c = record {
  part = [];
  list = sym (append-nil c.args.list.now.items);
  value = nothing-combined c.args.f.now c.args.h.now (eqb-true (length c.args.f.now) 0 (sym c.if-is_empty.ensures))
      (eqb-true (length c.args.h.now) 0 (sym c.if-is_empty-2.ensures));
}

pub returns-clause-appended : goal.returns-clause-appended
returns-clause-appended c =
    let old = c.args.list.now.items
    in let lent = c.deref_mut.result.now
    in let end = c.len-start.result + c.max.result + 1
    in let zeros = replicate (end - vec_len c.args.list.now) (pos 0)
    in let room : length old ≤ end = omega (arith, c.len-start.ensures)
    in let start : c.len-start.result ≡ length old = omega (arith, c.len-start.ensures)
    in let size : length lent ≡ end = omega (arith, c.deref_mut.ensures.len, c.in_ok-resize.ensures.len)
    in let part : length c.combine.new.entry ≡ length zeros = omega (
      arith,
      start,
      size,
      c.combine.auto.entry,
      length-take (length lent - c.len-start.result) (drop c.len-start.result lent),
      length-drop c.len-start.result lent,
      length-replicate (end - vec_len c.args.list.now) (pos 0),
    )
    in record {
      part = c.combine.new.entry;
      list = written old zeros c.resize.new.self.items lent c.combine.new.entry c.len-start.result c.resize.new.self.len
          (c.in_ok-resize.ensures.items ∙ ap (λ (xs : List ℤ). xs ++ zeros) (take_all end old room)) c.deref_mut.ensures.value start part
          (omega (arith, c.deref_mut.ensures.len, ap length c.deref_mut.ensures.value));
      value = c.combine.ensures;
    }
