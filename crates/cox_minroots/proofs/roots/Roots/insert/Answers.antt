-- A root that is new stands last, and only such a one can fail.
use Rattle.std.proofs.Common.{true≢false, sym, ◌∙◌}
use Rattle.cox_minroots.proofs.RootKeys.{contains-found, inserted}
use Rattle.cox_minroots.proofs.roots.Roots.insert.Goals as goal

pub returns-clause-inserted : goal.returns-clause-inserted
returns-clause-inserted c = rw (← c.self.view_is) (inserted c.self.inside.set.keys c.args.root c.insert.new.self.keys c.in-Ok.ensures.keys)

pub returns-in_default-clause-fault : goal.returns-in_default-clause-fault
returns-in_default-clause-fault c =
    rw (← c.self.view_is)
    (λ h. true≢false (sym (contains-found c.self.inside.set.keys c.args.root h) ∙ c.in_default.ensures.absent))
