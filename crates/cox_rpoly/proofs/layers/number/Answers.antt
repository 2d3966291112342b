-- What the set stores at the number is the element.
use Rattle.std.proofs.Common.{sym, ◌∙◌}
use Rattle.std.proofs.lemmas.Option.{slice_get_within, get_or_from_slice_get}
use Rattle.cox_rpoly.proofs.layers.number.Goals as goal

pub returns-clause-at : goal.returns-clause-at
returns-clause-at g c =
    let h = c.in_ok-number.ensures.stored
    in record {
      within = slice_get_within c.insert_full.new.self.keys c.in_ok-number.number h.0 h.1;
      is = λ d. get_or_from_slice_get c.insert_full.new.self.keys c.in_ok-number.number h.0 d h.1
          ∙ sym (g.met.E.Element.same c.args.x h.0 h.2);
    }
