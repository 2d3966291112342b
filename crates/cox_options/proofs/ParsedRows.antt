-- What a parse finds for options of a table: rows with one number of the option's range each.
use Rattle.std.proofs.Common.{◌≡◌, ◌∙◌, ◌||◌, ◌==◌, ◌⊎◌, inl, inr, Bool, true, false, cond, List, [], ◌∷◌}
use Rattle.std.proofs.Common.{◌++◌, map, length, Option, Some, None, All, Contains, get_or, append-nil, refl, sym, ap, subst}
use Rattle.std.proofs.Common.{arith}
use Rattle.std.specs.List.{find, list_any}
use Rattle.std.specs.Str.{bytes_eq}
use Rattle.std.proofs.lemmas.Bool.{ne_eqb}
use Rattle.std.proofs.lemmas.List.Elements.{All-contains_itself, All-head, All-map, All-push, All-tail}
use Rattle.clap.specs.Faults.{use_fault}
use Rattle.clap.specs.Kinds.{Kinds, or_else}
use Rattle.clap.specs.Simple.{Shape, built, filled, with_index}
use Rattle.clap.specs.ValueTests.{is_unsigned_in}
use Rattle.clap.specs.Walk.{Row, Rule, Text}
use Rattle.clap.specs.Walk.{at_row, has_row}
use Rattle.clap.specs.Walk.{more_values}
use Rattle.clap.specs.Walk.{used}
use Rattle.clap.specs.Walk.{with_values, without}
use Rattle.clap.specs.declared.builder.value_parser.Reading.TheVariants.{AsWritten}
use Rattle.clap.specs.declared.error.kind.ErrorKind.TheVariants.{ArgumentConflict, InvalidValue, ValueValidation}
use Rattle.clap.specs.declared.error.kind.ErrorKind.TheVariants.{WrongNumberOfValues}
use Rattle.clap.specs.declared.parser.matches.ValueSource.{ValueSource}
use Rattle.clap.specs.declared.parser.matches.ValueSource.TheVariants.{CommandLine}
use Rattle.cox_options.specs.Command.{NumberOption, coxeter_app, number_rule}

-- the option as a parse reads it
abbrev pub rule : NumberOption → Rule
rule o = with_index 1 (filled (number_rule o))

-- no fault of two is none of either
pub none_of_both : (a b : Kinds) → or_else a b ≡ [] → (a ≡ []) × (b ≡ [])
none_of_both [] b e = (refl, e)
none_of_both (k ∷ ks) b e = cc

-- a search with this answer to whether any element passes found nothing, or an element that passes and of which P holds
abbrev pub Finds : {X : Type 0} → (X → Type 0) → (X → Bool) → Bool → Option X → Type 0
Finds {X} P p any answer = ((answer ≡ None) × (any ≡ false)) ⊎ ((x : X) × (answer ≡ Some x) × (p x ≡ true) × P x)

pub Finds-find : {X : Type 0} (P : X → Type 0) (p : X → Bool) (xs : List X) → All P xs → Finds P p (list_any p xs) (find p xs)
Finds-find P p [] all = inl (refl, refl)
Finds-find P p (x ∷ xs) all = go (p x) refl (Finds-find P p xs (All-tail P x xs all))
  where
    go : (b : Bool) → p x ≡ b → Finds P p (list_any p xs) (find p xs) → Finds P p (b || list_any p xs) (cond b (Some x) (find p xs))
    go true passes rest = inr (x, refl, passes, All-head P x xs all)
    go false passes rest = rest

-- what is added for an id that no row has comes last
row_behind : (id : Text) (change : Row → List Row) (added : List Row) (rows : List Row) → has_row id rows ≡ false
    → at_row id change added rows ≡ rows ++ added
row_behind id change added [] none = refl
row_behind id change added (r ∷ rs) none = go (bytes_eq r.id id) none (row_behind id change added rs)
  where
    go : (b : Bool) → (b || has_row id rs) ≡ false → (has_row id rs ≡ false → at_row id change added rs ≡ rs ++ added)
        → cond b (change r ++ rs) (r ∷ at_row id change added rs) ≡ r ∷ (rs ++ added)
    go true none rest = cc
    go false none rest = ap (λ rows. r ∷ rows) (rest none)

-- a first row with values under an id
pub new_row : (id : Text) (s : ValueSource) (values : List Text) (rows : List Row) → has_row id rows ≡ false
    → with_values id AsWritten s values rows
    ≡ rows ++ record { id = id; values = values; count = None; source = Some s; reading = AsWritten } ∷ []
new_row id s values rows none = row_behind id (more_values s values) _ rows none

-- nothing goes with an id that no row has
no_row : (id : Text) (rows : List Row) → has_row id rows ≡ false → without id rows ≡ rows
no_row id rows none = row_behind id (λ _. []) [] rows none ∙ append-nil rows

module _ (options : List NumberOption) where
  abbrev pub table_rules : List Rule
  table_rules = map rule options

  -- the command with these options, as a parse reads it
  abbrev pub table_command : Shape
  table_command = record (built coxeter_app).top { rules = table_rules }

  -- the rule is that of an option of the table
  record IsRule (r : Rule) : Type 0 where
    pub owner : NumberOption
    pub listed : Contains options owner
    pub is : r ≡ rule owner

  all_rules : All IsRule table_rules
  all_rules = All-map IsRule rule options
      (λ k d below. record { owner = get_or options k d; listed = All-contains_itself options k d below; is = refl })

  -- a search finds the rule of an option or nothing
  pub one_rule : (p : Rule → Bool) → (find p table_rules ≡ None)
      ⊎ ((o : NumberOption) × Contains options o × (find p table_rules ≡ Some (rule o)) × (p (rule o) ≡ true))
  one_rule p = elim (Finds-find IsRule p table_rules all_rules) [
    | inl none ↦ inl none.0
    | inr some ↦
        let r = some.3 in
        inr (r.owner, r.listed, some.1 ∙ ap (λ a. Some a) r.is, subst (λ a. p a ≡ true) r.is some.2)
  ]

  -- it finds nothing by a test that no option passes
  pub no_rule : (p : Rule → Bool) → ((o : NumberOption) → p (rule o) ≡ false) → find p table_rules ≡ None
  no_rule p none = elim (one_rule p) [
    | inl e ↦ e
    | inr some ↦
        let bad : true ≡ false = sym some.3 ∙ none some.0 in
        cc
  ]

  -- the row is an option's, with one number of its range
  pub record IsGiven (r : Row) : Type 0 where
    pub owner : NumberOption
    pub listed : Contains options owner
    pub id : r.id ≡ owner.name
    pub text : Text
    pub values : r.values ≡ text ∷ []
    pub reading : r.reading ≡ AsWritten
    pub ok : is_unsigned_in 1 owner.most text ≡ true

  abbrev pub AreGiven : List Row → Type 0
  AreGiven = All IsGiven

  -- so are rows with one more, of an option that they do not name
  pub more_given : (o : NumberOption) → Contains options o → (s : ValueSource) (text : Text) (rows : List Row) → AreGiven rows
      → is_unsigned_in 1 o.most text ≡ true → has_row o.name rows ≡ false → AreGiven (with_values o.name AsWritten s (text ∷ []) rows)
  more_given o listed s text rows given ok none = subst AreGiven (sym (new_row o.name s (text ∷ []) rows none))
      (All-push IsGiven rows _ given
      (record { owner = o; listed = listed; id = refl; text = text; values = refl; reading = refl; ok = ok }))

  -- a use without a fault gives one number in the range
  pub used_given : (o : NumberOption) → Contains options o → (values : List Text) (rows : List Row) → AreGiven rows
      → use_fault false (rule o) values rows ≡ [] → AreGiven (used (rule o) values rows)
  used_given o listed [] rows given e =
      let bad : InvalidValue ∷ [] ≡ [] = e in
      cc
  used_given o listed (v ∷ []) rows given e = go (has_row o.name rows) refl (is_unsigned_in 1 o.most v) refl e
    where
      go : (again : Bool) → has_row o.name rows ≡ again → (ok : Bool) → is_unsigned_in 1 o.most v ≡ ok
          → use_fault false (rule o) (v ∷ []) rows ≡ [] → AreGiven (used (rule o) (v ∷ []) rows)
      go true again ok test e =
          let bad : ArgumentConflict ∷ [] ≡ [] = rw again at e in
          cc
      go false again false test e =
          let bad : ValueValidation ∷ [] ≡ [] = rw (again, test) at e in
          cc
      go false again true test e = subst (λ rows. AreGiven (with_values o.name AsWritten CommandLine (v ∷ []) rows))
          (sym (no_row o.name rows again)) (more_given o listed CommandLine v rows given test again)
  used_given o listed (v ∷ w ∷ vs) rows given e =
      let some : (length (v ∷ w ∷ vs) == 0) ≡ false = ne_eqb _ 0 (λ none. absurd (omega arith)) in
      let several : (1 == length (v ∷ w ∷ vs)) ≡ false = ne_eqb 1 _ (λ one. absurd (omega arith)) in
      let bad : WrongNumberOfValues ∷ [] ≡ [] = rw (some, several) at e in
      cc
