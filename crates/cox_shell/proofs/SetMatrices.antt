-- The matrix that an accepted command sets is a Coxeter matrix.
use Rattle.std.proofs.Common.{◌≡◌, ℕ, ◌+◌, ◌-◌, ◌*◌, ◌/◌, Bool, true, false, if◌then◌else◌, List, [], ◌∷◌, drop, map, length, Option}
use Rattle.std.proofs.Common.{Some, None, refl, ◌∙◌, subst, arith, eqb-true, leb-true, length-drop}
use Rattle.std.specs.List.{slice_index}
use Rattle.std.proofs.lemmas.Bool.{and_parts, not-false}
use Rattle.std.proofs.lemmas.List.{length-map}
use Rattle.std.proofs.lemmas.List.Folds.{list_all-map}
use Rattle.std.proofs.lemmas.List.Sums.{AllPass-from_list_all}
use Rattle.cox_base.specs.Matrix.{CoxeterMatrix, is_label}
use Rattle.cox_base.specs.Admissible.{IsCoxeterMatrix}
use Rattle.cox_base.specs.NamedType.{type_matrix}
use Rattle.cox_base.proofs.LabelRows.{type_matrix-IsCoxeterMatrix}
use Rattle.cox_command.specs.declared.refusal.Refusal.{Refusal}
use Rattle.cox_command.specs.declared.refusal.Refusal.TheVariants.{WrongCount, WrongNumber, NoGroup, UnknownType, WrongLabel}
use Rattle.cox_command.specs.declared.command_word.CommandWord.{CommandWord}
use Rattle.cox_command.specs.declared.command_word.CommandWord.TheVariants.{Named, Matrix}
use Rattle.cox_base.specs.declared.limits.TheConstants.{MAX_RANK}
use Rattle.cox_tokens.specs.Number.{is_number_in, value_of}
use Rattle.cox_command.specs.LineRefusal.{argument, names_type, applies, command_refusal}
use Rattle.cox_command.specs.CommandReading.{command_by}
use Rattle.cox_command.specs.declared.command.Command.TheVariants.{Group}

-- what is known where no refusal of a list applies
pub passed_over : (b : Bool) (why : Refusal) (rest : Option Refusal) → (if b then Some why else rest) ≡ None → (b ≡ false) × (rest ≡ None)
passed_over true why rest none = absurd (cc none)
passed_over false why rest none = (refl, none)

-- the matrix that `type` sets
abbrev pub named_matrix : List (List ℕ) → CoxeterMatrix
named_matrix arguments = type_matrix (slice_index (argument arguments 0) 0) (value_of (argument arguments 1))

-- the matrix that `matrix` sets
abbrev pub matrix_of : List (List ℕ) → CoxeterMatrix
matrix_of arguments = record { rank = value_of (argument arguments 0); labels = map value_of (drop 1 arguments) }

-- the matrix of a type that there is
named_matrix-is : (arguments : List (List ℕ)) (rank : Option ℕ) → applies Named arguments rank UnknownType ≡ false
    → IsCoxeterMatrix (named_matrix arguments)
named_matrix-is arguments rank typed = by_name (argument arguments 0) (not-false _ typed)
  where
    n : ℕ
    n = value_of (argument arguments 1)

    by_name : (name : List ℕ) → names_type name n ≡ true → IsCoxeterMatrix (type_matrix (slice_index name 0) n)
    by_name [] typed = absurd (cc typed)
    by_name (letter ∷ []) typed = type_matrix-IsCoxeterMatrix letter n typed
    by_name (letter ∷ next ∷ name) typed = absurd (cc typed)

-- the matrix of labels that are admitted, as many as there have to be
matrix_of-is : (arguments : List (List ℕ)) (rank : Option ℕ) → applies Matrix arguments rank WrongCount ≡ false
    → applies Matrix arguments rank WrongNumber ≡ false → applies Matrix arguments rank WrongLabel ≡ false
    → IsCoxeterMatrix (matrix_of arguments)
matrix_of-is arguments rank counted numbers labelled =
    let n = value_of (argument arguments 0) in
    let ranked : is_number_in 1 MAX_RANK (argument arguments 0) ≡ true = (and_parts _ _ (not-false _ numbers)).0 in
    let count = eqb-true (length arguments) (1 + n * (n - 1) / 2) (not-false _ (rw ranked at counted)) in
    record {
      some = leb-true 1 n (and_parts _ _ (and_parts _ _ ranked).0).1;
      count = length-map (drop 1 arguments) value_of ∙ omega (arith, count, length-drop 1 arguments);
      admitted = AllPass-from_list_all is_label (map value_of (drop 1 arguments))
          (list_all-map is_label value_of (drop 1 arguments) ∙ not-false _ labelled);
    }

-- the matrix that a command sets which no test refuses
tested-is : (word : CommandWord) (arguments : List (List ℕ)) (rank : Option ℕ) (g : CoxeterMatrix)
    → applies word arguments rank WrongCount ≡ false → applies word arguments rank WrongNumber ≡ false
    → applies word arguments rank UnknownType ≡ false → applies word arguments rank WrongLabel ≡ false
    → command_by word arguments rank ≡ Group g → IsCoxeterMatrix g
tested-is Named arguments rank g counted numbers typed labelled sets =
    let same : named_matrix arguments ≡ g = cc sets in subst IsCoxeterMatrix same (named_matrix-is arguments rank typed)
tested-is Matrix arguments rank g counted numbers typed labelled sets =
    let same : matrix_of arguments ≡ g = cc sets in subst IsCoxeterMatrix same (matrix_of-is arguments rank counted numbers labelled)
tested-is word arguments rank g counted numbers typed labelled sets = absurd (cc sets)

-- the matrix that an accepted command sets
pub group_set-is : (word : CommandWord) (arguments : List (List ℕ)) (rank : Option ℕ) (g : CoxeterMatrix)
    → command_refusal (Some word) arguments rank ≡ None
    → command_by word arguments rank ≡ Group g → IsCoxeterMatrix g
group_set-is word arguments rank g accepted sets =
    let counted = passed_over (applies word arguments rank WrongCount) WrongCount _ accepted in
    let numbered = passed_over (applies word arguments rank WrongNumber) WrongNumber _ counted.1 in
    let grouped = passed_over (applies word arguments rank NoGroup) NoGroup _ numbered.1 in
    let typed = passed_over (applies word arguments rank UnknownType) UnknownType _ grouped.1 in
    let labelled = passed_over (applies word arguments rank WrongLabel) WrongLabel _ typed.1 in
    tested-is word arguments rank g counted.0 numbered.0 typed.0 labelled.0 sets
