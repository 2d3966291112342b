-- An argument with a default that takes one value has a value after a parse, which passed its parser.
use Rattle.std.proofs.Common.{◌≡◌, ◌∙◌, ◌<◌, ◌≤◌, ap, ℕ, Bool, cond, true, false, zero, suc, List, [], ◌∷◌, length, is_some, Option, Some}
use Rattle.std.proofs.Common.{None, refl, sym, subst, inl, inr, arith}
use Rattle.std.specs.List.{All, slice_index_or}
use Rattle.std.specs.Str.{bytes_eq}
use Rattle.std.specs.Prelude.{find, option_map, slice_get}
use Rattle.std.specs.Borrow.{Bor}
use Rattle.std.proofs.lemmas.List.Elements.{All-get_or}
use Rattle.std.proofs.lemmas.Slice.Eq.{bytes_eq-Decides}
use Rattle.clap.specs.Facts.{Entry, EntryPasses, IsParsed, PassesArg, WantsDefault, args_of, groups_of, least_values, parser_of_value}
use Rattle.clap.specs.Built.{IsAuto, IsParsedFrom, SameRules}
use Rattle.clap.specs.Matches.{found_of, has_subcommand, matched_of, one_text}
use Rattle.clap.specs.Values.{Accepts, read_as, reading_of}
use Rattle.clap.specs.declared.builder.action.ArgAction.TheVariants.{Count, Set}
use Rattle.clap.specs.declared.builder.arg.Arg.{Arg}
use Rattle.clap.specs.declared.builder.command.Command.{Command}
use Rattle.clap.specs.declared.builder.command.Command.TheViews.{out-Command}
use Rattle.clap.specs.declared.builder.value_parser.ValueParser.{ValueParser}
use Rattle.clap.specs.declared.builder.value_parser.Reading.{Reading}
use Rattle.clap.specs.declared.parser.matches.ArgMatches.{ArgMatches}
use Rattle.clap.specs.declared.parser.matches.MatchedArg.{MatchedArg}
use Rattle.clap.proofs.CallerLemmas.{default_present, entry_by_id, same_rules_by_id}

-- an id that stands in the list is found there
found_entry : (xs : List Entry) (id : List ℕ) (i : ℕ) → i < length xs → ((d : Entry) → bytes_eq (slice_index_or xs i d).0.now id ≡ true)
    → is_some (option_map (λ e. e.1) (find (λ e. bytes_eq e.0.now id) xs)) ≡ true
found_entry [] id i lt at = absurd (omega arith)
found_entry (x ∷ xs) id zero lt at = rw (at x) refl
found_entry (x ∷ xs) id (suc i) lt at = go (bytes_eq x.0.now id) (found_entry xs id i (omega arith) at)
  where
    go : (b : Bool) → is_some (option_map (λ e. e.1) (find (λ e. bytes_eq e.0.now id) xs)) ≡ true
        → is_some (option_map (λ e. e.1) (cond b (Some x) (find (λ e. bytes_eq e.0.now id) xs))) ≡ true
    go true rest = refl
    go false rest = rest

-- the first of some values, with what holds of each
first_of_all : (P : Bor (List ℕ) → Type 0) (how : Reading) (vs : List (Bor (List ℕ))) → All P vs → 0 < length vs
    → (v : Bor (List ℕ)) × (option_map (λ s. read_as how s.now) (slice_get vs 0) ≡ Some (read_as how v.now)) × P v
first_of_all P how [] all some = absurd (omega arith)
first_of_all P how (v ∷ vs) all some = (v, refl, All-get_or P (v ∷ vs) 0 v (omega arith) all)

module _ (c : Command) (m : ArgMatches) (p : IsParsedFrom c m) (globals : (out-Command c).has_globals ≡ false)
    (no_groups : groups_of p.built ≡ [])
    (k : ℕ) (d : Arg) (lt : k < length (args_of c))
    (unique : (j : ℕ) (e : Arg) → j < length (args_of c)
    → bytes_eq (slice_index_or (args_of c) j e).id.now (slice_index_or (args_of c) k d).id.now ≡ true → j ≡ k)
    (own : IsAuto (slice_index_or (args_of c) k d) → ⊥) where
  abbrev a : Arg
  a = slice_index_or (args_of c) k d

  -- the rules of an argument of the built command with that id
  rules_by_id : (key : List ℕ) → key ≡ a.id.now → (j : ℕ) (x : Arg) → j < length (args_of p.built) → slice_index_or (args_of p.built) j x
      ≡ x
      → bytes_eq x.id.now key ≡ true → SameRules a x
  rules_by_id key is j x high at same = same_rules_by_id c m p k d lt unique own j x high at
      (subst (λ (t : List ℕ). bytes_eq x.id.now t ≡ true) is same)

  module _ (set : a.action ≡ Some Set) (delim : a.val_delim ≡ None) (least : 1 ≤ least_values a) (named : a.id.now ≡ [] → ⊥)
      (q : ValueParser) (parser : a.value_parser ≡ Some q) where
    -- what an entry under that id gives
    read_entry : (e : Entry) → e.0.now ≡ a.id.now → EntryPasses p.built e
        → (v : Bor (List ℕ))
        × (option_map (λ s. read_as e.1.reading s.now) (slice_get e.1.vals.items 0) ≡ Some (read_as (reading_of q) v.now))
        × Accepts a.ignore_case q v.now
    read_entry e key pass =
        let no_group : e.1.is_group ≡ true → ⊥ = λ g. elim (pass.3 g) [
          | inl empty ↦ named (sym key ∙ empty)
          | inr lots ↦
              let bad : 0 < 0 = rw no_groups at lots in
              absurd (omega arith)
        ] in
        let some : 0 < length e.1.vals.items = elim pass.1 [
          | inl g ↦ absurd (no_group g.0)
          | inr (inl vals) ↦ vals
          | inr (inr (inl counts)) ↦
              let any = counts.1 in
              let s = rules_by_id _ key any.0 any.1 any.2 any.3 any.4.0 in
              let is_set : any.1.action ≡ Some Set = s.action Set set in
              let bad : Set ≡ Count = rw is_set at any.4.1 in
              cc
          | inr (inr (inr none)) ↦
              let s = rules_by_id _ key none.0 none.1 none.2 none.3 none.4.0 in
              elim none.4.1 [
                | inl without ↦
                    let one = s.least set least in
                    absurd (omega arith)
                | inr has ↦
                    let bad : false ≡ true = rw (s.val_delim, delim) at has in
                    cc
              ]
        ] in
        let all : All (λ v. PassesArg p.built e.0.now v.now) e.1.vals.items = elim pass.0 [
          | inl g ↦ absurd (no_group g)
          | inr vals ↦ vals
        ] in
        let how : e.1.reading ≡ reading_of q = elim pass.4 [
          | inl g ↦ absurd (no_group g)
          | inr h ↦
              let s = rules_by_id _ key h.0 h.1 h.2 h.3 h.4.0 in
              sym h.4.1 ∙ ap (λ (o : Option ValueParser). reading_of (parser_of_value o)) (s.parser q parser)
        ] in
        let first = first_of_all (λ v. PassesArg p.built e.0.now v.now) e.1.reading e.1.vals.items all some in
        let any = first.2 in
        let s = rules_by_id _ key any.0 any.1 any.2 any.3 any.4.0 in
        let as_q : Accepts any.1.ignore_case q first.0.now =
        subst (λ (o : Option ValueParser). Accepts any.1.ignore_case (parser_of_value o) first.0.now) (s.parser q parser) any.4.1 in (
          first.0,
          first.1 ∙ ap (λ (r : Reading). Some (read_as r first.0.now)) how,
          subst (λ (b : Bool). Accepts b q first.0.now) s.ignore_case as_q,
        )

    -- the value that the getters read of that argument
    pub default_read : WantsDefault a → (t : List ℕ) × (one_text (found_of m) a.id.now ≡ Some (read_as (reading_of q) t))
        × Accepts a.ignore_case q t
    default_read wants =
        let has = default_present c m p globals k d lt wants in
        go (matched_of (found_of m) a.id.now) refl (found_entry (found_of m).entries.items a.id.now has.0 has.1 has.2)
      where
        go : (o : Option MatchedArg) → matched_of (found_of m) a.id.now ≡ o → is_some (matched_of (found_of m) a.id.now) ≡ true
            → (t : List ℕ) × (one_text (found_of m) a.id.now ≡ Some (read_as (reading_of q) t)) × Accepts a.ignore_case q t
        go None is some =
            let bad : false ≡ true = rw is at some in
            cc
        go (Some x) is some =
            let parsed : IsParsed p.built (found_of m) (has_subcommand m) = p.parsed (p.from.globals ∙ globals) in
            let got = entry_by_id (EntryPasses p.built) (found_of m).entries.items a.id.now x parsed.values is in
            let read = read_entry got.0 ((bytes_eq-Decides got.0.0.now a.id.now).0 got.2) got.3 in
            let value : option_map (λ s. read_as x.reading s.now) (slice_get x.vals.items 0) ≡ Some (read_as (reading_of q) read.0.now) =
            subst (λ (y : MatchedArg). option_map (λ s. read_as y.reading s.now) (slice_get y.vals.items 0)
            ≡ Some (read_as (reading_of q) read.0.now)) got.1 read.1 in
            (read.0.now, rw is value, read.2)
