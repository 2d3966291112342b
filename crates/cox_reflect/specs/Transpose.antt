-- The transposed integer matrix, which has the same group; its roots are the coroots.
use Rattle.cox_base.specs.IntegerMatrix.{IntegerMatrix}

abbrev pub transposed : IntegerMatrix → IntegerMatrix
transposed A = record { rank = A.rank; entry = λ s t. A.entry t s }
