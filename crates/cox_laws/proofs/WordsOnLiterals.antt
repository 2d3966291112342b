-- What a proof unfolds to compute matrices, normal forms and lengths of words that are written out, in a group of a named type.
use Rattle.std.specs.Prelude.{⊤}
use Rattle.cox_base.specs.Matrix.{label, place, labels_before}
use Rattle.cox_base.specs.NamedType.{type_matrix, rows_above}
use Rattle.cox_base.specs.IntegerMatrix.{entry_of}
use Rattle.cox_base.specs.Element.{sum_to, identity, matrix_product, generator_matrix, matrix}
use Rattle.cox_base.specs.ShortLex.{letters, words_of_length, words_up_to, same_matrix, normal_form}
use Rattle.cox_base.specs.Length.{word_length}

-- the entries of the integer matrix
unfoldable pub entries_on_literals : ⊤
unfolding type_matrix rows_above entry_of label place labels_before sum_to
entries_on_literals = tt

-- the words that a normal form is searched among
unfoldable search_on_literals : ⊤
unfolding letters words_of_length words_up_to same_matrix
search_on_literals = tt

unfoldable pub words_on_literals : ⊤
unfolding entries_on_literals search_on_literals identity generator_matrix matrix_product matrix normal_form word_length
words_on_literals = tt
