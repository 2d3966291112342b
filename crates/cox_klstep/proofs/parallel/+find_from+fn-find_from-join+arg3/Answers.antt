-- Two threads found them, or more.
use Rattle.std.proofs.Common.{rules, ◌≡◌, ◌++◌}
use Rattle.cox_klstep.proofs.FoundLists.{found-both}
use Rattle.cox_klstep.proofs.parallel.+find_from+fn-find_from-join+arg3.Goals as goal

pub returns-in-Ok : goal.returns-in-Ok
returns-in-Ok g t c =
    let whole : c.append.new.self.items ≡ c.join-mine.result.0.items ++ c.join-mine.result.1.items = search rules
    in found-both _ _ c.join-mine.result.0.items c.join-mine.result.1.items c.append.new.self.items whole
    c.join-mine.ensures.first c.join-mine.ensures.second
