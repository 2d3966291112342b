-- The proof of `find_longest`.
use Rattle.std.proofs.Common.{◌≡◌, rules, w64, FitsSigned}
use Rattle.std.proofs.lemmas.Int.{to_z-of_z}
use Rattle.cox_replies.specs.InverseReply.{inverse_limit}
use Rattle.cox_answers.proofs.KeptBetween.{read_off-found}
use Rattle.cox_answers.proofs.kept_rows.between.find_longest.Goals as goal

pub returns : goal.returns
returns c =
    let fits : FitsSigned w64 c.inverse_limit.result = search rules in
    let entry : FitsSigned w64 c.limit.result = search rules in
    let limit : c.inverse_limit.result ≡ inverse_limit c.args.rows.now.limit
    = rw (to_z-of_z w64 c.limit.result entry, c.limit.ensures) at c.inverse_limit.ensures.limit in
    read_off-found c.args.rows.now c.of.result c.requires.small
    (rw (c.context.ensures.context, to_z-of_z w64 c.inverse_limit.result fits, limit) at c.of.ensures.readable)
