-- At the end of words that are taken each option has a row: options that no row names get their defaults.
use Rattle.std.proofs.Common.{◌≡◌, ◌∙◌, ◌||◌, inl, inr, Bool, true, false, cond, List, [], ◌∷◌}
use Rattle.std.proofs.Common.{map, Some, All, Contains, get_or, refl, sym, ap, ap₂, subst}
use Rattle.std.specs.Prelude.{IsSomeAnd, option_and_then, option_map, slice_get}
use Rattle.std.specs.List.{fold}
use Rattle.std.specs.Str.{bytes_eq}
use Rattle.std.proofs.lemmas.Bool.{leb-true}
use Rattle.std.proofs.lemmas.List.Elements.{All-contains, All-cons, All-head, All-nil, All-tail}
use Rattle.std.proofs.lemmas.List.{get_or_default}
use Rattle.std.proofs.lemmas.List.Folds.{list_any-append}
use Rattle.std.proofs.lemmas.Slice.Eq.{bytes_eq-Decides}
use Rattle.clap.specs.ValueTests.{is_unsigned_in}
use Rattle.clap.specs.Values.{read_as}
use Rattle.clap.specs.Walk.{Row, Text}
use Rattle.clap.specs.Walk.{has_row}
use Rattle.clap.specs.Walk.{one_of}
use Rattle.clap.specs.Walk.{row_text}
use Rattle.clap.specs.Walk.{with_default}
use Rattle.clap.specs.Walk.{with_values}
use Rattle.clap.specs.declared.builder.value_parser.Reading.TheVariants.{AsWritten}
use Rattle.clap.specs.declared.parser.matches.ValueSource.TheVariants.{DefaultValue}
use Rattle.clap.proofs.WalkLemmas.{both}
use Rattle.cox_options.specs.Command.{NumberOption}
use Rattle.cox_options.specs.OneOption.{IsInRange}
use Rattle.cox_options.specs.Arguments.{decimal_value}
use Rattle.cox_options.proofs.Table.{IsTable, one_place}
use Rattle.cox_options.proofs.ParsedRows.{AreGiven, Finds-find, IsGiven, more_given, new_row, rule}

-- where an option gets its default, no row goes
row_kept : (id : Text) (o : NumberOption) (rows : List Row) → has_row id rows ≡ true → has_row id (with_default rows (rule o)) ≡ true
row_kept id o rows has = go (has_row o.name rows) refl
  where
    go : (b : Bool) → has_row o.name rows ≡ b
        → has_row id (cond b rows (with_values o.name AsWritten DefaultValue (o.default ∷ []) rows)) ≡ true
    go true is = has
    go false is = ap (has_row id) (new_row o.name DefaultValue (o.default ∷ []) rows is)
        ∙ list_any-append (λ r. bytes_eq r.id id) rows _ ∙ ap (λ b. b || (bytes_eq o.name id || false)) has

rows_kept : (id : Text) (os : List NumberOption) (rows : List Row) → has_row id rows ≡ true
    → has_row id (fold with_default rows (map rule os)) ≡ true
rows_kept id [] rows has = has
rows_kept id (o ∷ os) rows has = rows_kept id os (with_default rows (rule o)) (row_kept id o rows has)

-- and the option has one
own_row : (o : NumberOption) (rows : List Row) → has_row o.name (with_default rows (rule o)) ≡ true
own_row o rows = go (has_row o.name rows) refl
  where
    go : (b : Bool) → has_row o.name rows ≡ b
        → has_row o.name (cond b rows (with_values o.name AsWritten DefaultValue (o.default ∷ []) rows)) ≡ true
    go true is = is
    go false is = ap (has_row o.name) (new_row o.name DefaultValue (o.default ∷ []) rows is)
        ∙ list_any-append (λ r. bytes_eq r.id o.name) rows _
        ∙ ap₂ (λ a b. a || (b || false)) is ((bytes_eq-Decides o.name o.name).1 refl)

pub own_rows : (os : List NumberOption) (rows : List Row) → All (λ o. has_row o.name (fold with_default rows (map rule os)) ≡ true) os
own_rows [] rows = All-nil _
own_rows (o ∷ os) rows = All-cons (λ p. has_row p.name (fold with_default rows (map rule (o ∷ os))) ≡ true) o os
    (rows_kept o.name os (with_default rows (rule o)) (own_row o rows)) (own_rows os (with_default rows (rule o)))

module _ (options : List NumberOption) (table : IsTable options) where
  -- rows that get the default of an option of the table
  default_given : (o : NumberOption) → Contains options o → (rows : List Row) → AreGiven options rows
      → AreGiven options (with_default rows (rule o))
  default_given o listed rows given = go (has_row o.name rows) refl
    where
      go : (b : Bool) → has_row o.name rows ≡ b
          → AreGiven options (cond b rows (with_values o.name AsWritten DefaultValue (o.default ∷ []) rows))
      go true is = given
      go false is = more_given options o listed DefaultValue o.default rows given
          (All-contains (λ p. is_unsigned_in 1 p.most p.default ≡ true) options o table.defaults listed) is

  pub defaults_given : (os : List NumberOption) → All (Contains options) os → (rows : List Row) → AreGiven options rows
      → AreGiven options (fold with_default rows (map rule os))
  defaults_given [] listed rows given = given
  defaults_given (o ∷ os) listed rows given = defaults_given os (All-tail (Contains options) o os listed) (with_default rows (rule o))
      (default_given o (All-head (Contains options) o os listed) rows given)

  -- two options of the table with one name are one
  same_option : (a b : NumberOption) → Contains options a → Contains options b → a.name ≡ b.name → a ≡ b
  same_option a b (i, low, here) (j, high, there) same =
      let at : i ≡ j = one_place options table i j a b low high
      (ap (λ (o : NumberOption). o.name) here ∙ same ∙ sym (ap (λ (o : NumberOption). o.name) there)) in
      sym here ∙ ap (λ k. get_or options k a) at ∙ get_or_default options j a b high ∙ there

  -- what the rows give to an option that has one
  pub number_given : (o : NumberOption) → Contains options o → (rows : List Row) → AreGiven options rows → has_row o.name rows ≡ true
      → IsSomeAnd (option_map decimal_value (one_of o.name rows)) (IsInRange o)
  number_given o listed rows given has = elim (Finds-find (IsGiven options) (λ r. bytes_eq r.id o.name) rows given) [
    | inl none ↦
        let bad : false ≡ true = sym none.1 ∙ has in
        cc
    | inr (row, is, named, r) ↦
        let one : row_text row ≡ Some r.text = ap₂ (λ how values. option_map (read_as how) (slice_get values 0)) r.reading r.values in
        let same : r.owner ≡ o = same_option r.owner o r.listed listed (sym r.id ∙ (bytes_eq-Decides row.id o.name).0 named) in
        let numeral = both _ _ (subst (λ p. is_unsigned_in 1 p.most r.text ≡ true) same r.ok) in
        let range = both _ _ (both _ _ numeral.1).1 in
        let value : option_map decimal_value (one_of o.name rows) ≡ Some (decimal_value r.text) =
        ap (λ found. option_map decimal_value (option_and_then row_text found)) is ∙ ap (option_map decimal_value) one in
        subst (λ n. IsSomeAnd n (IsInRange o)) (sym value) (leb-true _ _ range.0, leb-true _ _ range.1)
  ]
