-- The law `labels_of_type`.
use Rattle.cox_base.specs.NamedType.{type_matrix}
use Rattle.cox_base.proofs.LabelRows.{type_matrix-IsCoxeterMatrix, type_rank-limit, label-type_matrix}
use Rattle.cox_base.proofs.laws.labels_of_type.Goals as goal

pub returns-clause-matrix : goal.returns-clause-matrix
returns-clause-matrix c = type_matrix-IsCoxeterMatrix c.args.letter c.args.n c.requires

pub returns-clause-limit : goal.returns-clause-limit
unfolding type_matrix
returns-clause-limit c = type_rank-limit c.args.letter c.args.n c.requires

pub returns-clause-labels : goal.returns-clause-labels
returns-clause-labels c = label-type_matrix c.args.letter c.args.n
