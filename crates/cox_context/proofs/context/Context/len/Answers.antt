-- The matrix of a context is a Coxeter matrix.
use Rattle.cox_reflect.proofs.Admissible.{IsAdmissible-integer_matrix}
use Rattle.cox_context.proofs.context.Context.len.Goals as goal

pub returns-clause-admissible : goal.returns-clause-admissible
returns-clause-admissible c = rw (← c.self.view_is) (IsAdmissible-integer_matrix c.self.inside.group c.rank-rank.ensures.matrix)
