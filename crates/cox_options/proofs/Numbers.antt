-- The options with a number have one after a parse, within their range.
use Rattle.std.proofs.Common.{◌≡◌, ◌∙◌, ◌<◌, ap, ℕ, true, false, List, [], ◌∷◌, map, length, is_some, not, Option, Some, None, refl, sym}
use Rattle.std.proofs.Common.{subst, inl, inr, arith, All}
use Rattle.std.specs.List.{AllByRecursion, slice_index_or}
use Rattle.std.proofs.lemmas.List.Elements.{recursion_from_All}
use Rattle.std.proofs.lemmas.Slice.Eq.{bytes_eq-Decides}
use Rattle.std.proofs.lemmas.List.{get_or-map, length-map}
use Rattle.clap.specs.Facts.{args_of, least_values, unwrap_or_range}
use Rattle.clap.specs.Built.{IsParsedFrom}
use Rattle.clap.specs.Matches.{found_of, one_text}
use Rattle.clap.specs.Walk.{Row, Rule, Text, is_simple_arg, one_of, rows_of, rule_of, texts}
use Rattle.clap.specs.Simple.{App, app_of, matches_of}
use Rattle.clap.specs.Texts.{items_of}
use Rattle.clap.specs.declared.builder.arg.Arg.{Arg}
use Rattle.clap.specs.declared.builder.command.Command.{Command}
use Rattle.clap.specs.declared.parser.matches.ArgMatches.{ArgMatches}
use Rattle.clap.specs.declared.parser.matches.Found.{Found}
use Rattle.std.specs.Prelude.{option_map}
use Rattle.clap.specs.declared.builder.value_parser.ValueParser.TheVariants.{Unsigned}
use Rattle.clap.specs.declared.builder.range.ValueRange.{ValueRange}
use Rattle.clap.proofs.SimpleLemmas.{all_simple, is_nil, plain_fields, simple_groups}
use Rattle.clap.proofs.WalkLemmas.{both, one_text-rows}
use Rattle.cox_options.specs.Command.{NumberOption, coxeter_app, number_options, number_rule}
use Rattle.cox_options.specs.Found.{HasNumber}
use Rattle.cox_options.specs.Arguments.{given_number, decimal_value}
use Rattle.cox_options.proofs.Table.{IsTable, IsTable-options, one_place, own_name}
use Rattle.cox_options.proofs.DefaultValue.{default_read}

is_none : {X : Type 0} (o : Option X) → not (is_some o) ≡ true → o ≡ None
is_none None e = refl
is_none (Some x) e =
    let bad : false ≡ true = e in
    cc

-- a simple argument has no default under a condition and no delimiter
simple_facts : (a : Arg) → is_simple_arg a ≡ true → (a.default_vals_ifs.items ≡ []) × (a.val_delim ≡ None)
simple_facts a e =
    let p = both _ _ e in
    let q = both _ _ p.1 in
    let r = both _ _ q.1 in
    let s = both _ _ r.1 in
    (is_nil _ q.0, is_none _ s.0)

-- the rules of a table are simple
rules_simple : (options : List NumberOption) → all_simple (map number_rule options) ≡ true
rules_simple [] = refl
rules_simple (o ∷ os) = rules_simple os

-- an argument of a list that has one
some_arg : (xs : List Arg) (k : ℕ) → k < length xs → Arg
some_arg [] k lt = absurd (omega arith)
some_arg (x ∷ xs) k lt = x

-- where the rules of a command are those of a table, each option has a number of its range
pub numbers_read : (options : List NumberOption) → IsTable options → (app : App) (c : Command) (m : ArgMatches)
    → IsParsedFrom c m → app_of c ≡ app
    → app.top.is_plain ≡ true → app.top.rules ≡ map number_rule options
    → All (λ option. HasNumber (found_of m) option.name option.most) options
numbers_read options table app c m p is plain table_rules k o below =
    let option = slice_index_or options k o in
    let own = own_name option.name (table.own k o below) in
    let fields = plain_fields c (ap (λ (x : App). x.top.is_plain) is ∙ plain) in
    let list : map rule_of (args_of c) ≡ map number_rule options = ap (λ (x : App). x.top.rules) is ∙ table_rules in
    let groups = simple_groups c (ap all_simple list ∙ rules_simple options) in
    let size : length (args_of c) ≡ length options =
    sym (length-map (args_of c) rule_of) ∙ ap length list ∙ length-map options number_rule in
    let lt : k < length (args_of c) = omega arith in
    let d = some_arg (args_of c) k lt in
    let a = slice_index_or (args_of c) k d in
    let at : (j : ℕ) (e : Arg) → j < length (args_of c) → rule_of (slice_index_or (args_of c) j e)
    ≡ number_rule (slice_index_or options j o) =
    λ j e in_range. sym (get_or-map rule_of (args_of c) j e (rule_of e) in_range)
    ∙ ap (λ (rs : List Rule). slice_index_or rs j (rule_of e)) list
    ∙ get_or-map number_rule options j o (rule_of e) (omega arith) in
    let of_a : rule_of a ≡ number_rule option = at k d lt in
    let id : a.id.now ≡ option.name = ap (λ (r : Rule). r.id) of_a in
    let simple_a = simple_facts a (ap (λ (r : Rule). r.is_simple) of_a) in
    let defaults : texts (items_of a.default_vals) ≡ option.default ∷ [] = ap (λ (r : Rule). r.defaults) of_a in
    let some : length (items_of a.default_vals) ≡ 1 = sym (length-map (items_of a.default_vals) (λ s. s.now)) ∙ ap length defaults in
    let range : least_values a ≡ 1 = ap (λ (o : Option ValueRange). (unwrap_or_range o).start_inclusive)
    (ap (λ (r : Rule). r.range) of_a) in
    let read = default_read c m p fields.globals ((p.from.same_groups groups).1 ∙ fields.groups) k d lt
    (λ j e in_range same. one_place options table j k o o (omega arith) below
    (sym (ap (λ (r : Rule). r.id) (at j e in_range)) ∙ (bytes_eq-Decides _ _).0 same ∙ id))
    (λ auto. elim auto [ inl h ↦ own.1 (sym id ∙ h) | inr h ↦ own.2 (sym id ∙ h) ])
    (ap (λ (r : Rule). r.action) of_a) simple_a.1 (omega arith) (λ empty. own.0 (sym id ∙ empty))
    (Unsigned 1 option.most) (ap (λ (r : Rule). r.parser) of_a) (simple_a.0, omega arith) in
    subst (λ (t : Text). HasNumber (found_of m) t option.most) id read

-- each option of the command has one
pub options_read : (c : Command) (m : ArgMatches) → IsParsedFrom c m → app_of c ≡ coxeter_app
    → AllByRecursion (λ option. HasNumber (found_of m) option.name option.most) number_options
options_read c m p is = recursion_from_All (λ option. HasNumber (found_of m) option.name option.most) number_options
    (numbers_read number_options IsTable-options coxeter_app c m p is refl refl)

-- what a parse found for an option is what the words give
pub given_read : (app : App) (words : List Text) (found : Found) (name : Text) → app ≡ coxeter_app → rows_of found ≡ matches_of app words
    → given_number name words ≡ option_map decimal_value (one_text found name)
given_read app words found name is rows =
    ap (λ (a : App). option_map decimal_value (one_of name (matches_of a words))) (sym is)
    ∙ ap (λ (rs : List Row). option_map decimal_value (one_of name rs)) (sym rows)
    ∙ ap (option_map decimal_value) (sym (one_text-rows found name))
