-- The proof of `Session::obey`.
use Rattle.std.proofs.Common.{Some, [], ◌∷◌, refl}
use Rattle.cox_command.specs.declared.command.Command.TheVariants.{Jobs}
use Rattle.cox_shell.specs.CommandReply.{IsCommandReply}
use Rattle.cox_shell.proofs.SaidReplies.{Says-silence, Says-quit, opened-says, silent-breaks}
use Rattle.cox_shell.proofs.session.Session.obey.Goals as goal

pub returns-in-Nothing-clause-ok : goal.returns-in-Nothing-clause-ok
returns-in-Nothing-clause-ok g c = rw c.in-Nothing.is (_, refl, Says-silence _ _ _ refl)

pub returns-in-Quit-clause-ok : goal.returns-in-Quit-clause-ok
returns-in-Quit-clause-ok g c = rw c.in-Quit.is (_, refl, Says-quit _ _)

pub returns-in-Jobs-clause-ok : goal.returns-in-Jobs-clause-ok
returns-in-Jobs-clause-ok g c = rw c.in-Jobs.is (opened-says _ c.args.self.now _ _ c.open_list.ensures.ok)

pub returns-in-Jobs-clause-err : goal.returns-in-Jobs-clause-err
returns-in-Jobs-clause-err g c = rw c.in-Jobs.is (silent-breaks _ c.args.self.now _ (record c.args.self.now { list = Some ([] ∷ []) })
    (IsCommandReply Jobs c.args.self.now) _ refl c.open_list.ensures.err)
