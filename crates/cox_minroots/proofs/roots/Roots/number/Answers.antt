-- The number of a root is its place in the list.
use Rattle.cox_minroots.proofs.RootKeys.{number-is}
use Rattle.cox_minroots.proofs.roots.Roots.number.Goals as goal

pub returns : goal.returns
returns c =
    rw (← c.self.view_is)
    (number-is c.self.inside.set.keys c.args.root.now c.get_index_of.result c.get_index_of.ensures.index c.get_index_of.ensures.found)
