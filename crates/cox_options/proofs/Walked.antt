-- On the way through words that are taken each row that is found is an option's, with one number of its range.
use Rattle.std.proofs.Common.{◌≡◌, ◌∙◌, ◌&&◌, ◌==◌, inl, inr, ℕ, Bool, true, false, zero, suc, not, cond, List, [], ◌∷◌}
use Rattle.std.proofs.Common.{drop, length, Option, Some, None, is_some, Contains, refl, sym, ap, subst}
use Rattle.std.specs.Prelude.{encode_utf8, slice_get}
use Rattle.std.specs.Option.{option_map_or}
use Rattle.std.specs.List.{fold}
use Rattle.std.specs.Str.{bytes_eq, chars}
use Rattle.clap.specs.Faults.{flag_word_fault, long_fault, option_fault, other_fault, settle_fault, turn_fault, use_fault, walk_fault}
use Rattle.clap.specs.Faults.{word_fault}
use Rattle.clap.specs.Lexer.{long_of, short_of}
use Rattle.clap.specs.Simple.{Shape}
use Rattle.clap.specs.Walk.{Held, Outcome, Rule, Step, Text, Waiting, Walk, after_flag, after_step, arg_by_id, arg_by_long, arg_by_short}
use Rattle.clap.specs.Walk.{bundle, bundle_met, bundle_step, done, has_long, has_short, idle, long_met, long_or_other}
use Rattle.clap.specs.Walk.{next, option, option_met, option_word, plain, plain_word, positional, refused}
use Rattle.clap.specs.Walk.{settled, settled_rows, short_met, short_or_plain, subcommand, subcommand_met, subcommand_or_other}
use Rattle.clap.specs.Walk.{to_positional, trailing, used_by_id, value, waits, walked, walked_from}
use Rattle.clap.specs.Walk.{word_met}
use Rattle.clap.specs.declared.error.kind.ErrorKind.TheVariants.{UnknownArgument}
use Rattle.cox_options.specs.Command.{NumberOption}
use Rattle.cox_options.proofs.ParsedRows.{AreGiven, none_of_both, no_rule, one_rule, rule, table_command, table_rules, used_given}

module _ (options : List NumberOption) where
  abbrev rules : List Rule
  rules = table_rules options

  abbrev command : Shape
  command = table_command options

  -- each row so far is an option's, with one number of its range
  abbrev Holds : Held → Type 0
  Holds h = AreGiven options h.rows

  -- what is pending, once it is used without a fault
  pub settled_given : (h : Held) → Holds h → settle_fault rules false h ≡ [] → Holds (settled rules h)
  settled_given h given e = go h.pending e
    where
      by_id : (id : Text) (values : List Text) → settle_fault rules false (record h { pending = Some (id, values) }) ≡ []
          → AreGiven options (settled_rows rules (Some (id, values)) h.rows)
      by_id id values e = elim (one_rule options (λ a. bytes_eq a.id id)) [
        | inl none ↦ subst (λ o. AreGiven options (used_by_id o values h.rows)) (sym none) given
        | inr some ↦
            let fault = ap (λ o. option_map_or (λ a. use_fault false a values h.rows) o []) some.2 in
            subst (λ o. AreGiven options (used_by_id o values h.rows)) (sym some.2)
            (used_given options some.0 some.1 values h.rows given (sym fault ∙ e))
      ]

      go : (p : Option (Text × List Text)) → settle_fault rules false (record h { pending = p }) ≡ []
          → AreGiven options (settled_rows rules p h.rows)
      go None e = given
      go (Some p) e = by_id p.0 p.1 e

  -- a word that is no flag changes no row
  plain_rows : (waiting : Waiting) (word : Text) (h : Held) → (plain_word rules waiting word h).0.rows ≡ h.rows
  plain_rows idle word h = refl
  plain_rows positional word h = refl
  plain_rows (option id) word h = go (arg_by_id rules id)
    where
      go : (found : Option Rule) → (option_word found id word h).0.rows ≡ h.rows
      go None = refl
      go (Some a) = refl

  -- nor does what comes of it
  after_rows : (waiting : Waiting) (word : Text) (h : Held) (outcome : Outcome) → (after_flag rules waiting word h outcome).0.rows ≡ h.rows
  after_rows waiting word h done = refl
  after_rows waiting word h (waits id) = refl
  after_rows waiting word h plain = plain_rows waiting word h
  after_rows waiting word h refused = plain_rows waiting word h

  -- no option has a short name, so a word of short ones changes no row
  short_rows : (x : ℕ) (rest : Text) (h : Held) (then : Held → Held × Outcome)
      → (short_met rules (arg_by_short rules x) rest h then).0.rows ≡ h.rows
  short_rows x rest h then = subst (λ found. (short_met rules found rest h then).0.rows ≡ h.rows)
      (sym (no_rule options (λ a. not (is_some a.index) && has_short a x) (λ o. refl))) refl

  bundle_rows : (k : ℕ) (flags : Text) (skip : ℕ) (so_far : Outcome) (h : Held) → (bundle_met rules k flags skip so_far h).0.rows ≡ h.rows
  unfolding bundle_met
  bundle_rows zero flags skip so_far h = refl
  bundle_rows (suc k) flags skip so_far h = go (slice_get (chars flags) 0) skip (bundle_rows k)
    where
      go : (x : Option ℕ) (skip : ℕ)
          → ((flags : Text) (skip : ℕ) (so_far : Outcome) (h : Held) → (bundle_met rules k flags skip so_far h).0.rows ≡ h.rows)
          → (bundle_step rules x flags skip so_far h (bundle_met rules k)).0.rows ≡ h.rows
      go None skip rest = refl
      go (Some x) zero rest = short_rows x _ h _
      go (Some x) (suc skip) rest = rest (drop (length (encode_utf8 x)) flags) skip so_far h

  -- an option by its long name, without a fault
  option_given : (o : NumberOption) → Contains options o → (v : Option Text) (h : Held) → Holds h
      → option_fault rules false (rule o) v h ≡ [] → Holds (option_met rules (rule o) v h).0
  option_given o listed None h given e = settled_given h given e
  option_given o listed (Some v) h given e =
      let parts = none_of_both (settle_fault rules false h) _ e in
      used_given options o listed (v ∷ []) _ (settled_given h given parts.0) parts.1

  -- a long word without a fault
  long_given : (name : Text) (v : Option Text) (h : Held) → Holds h → long_fault rules false (arg_by_long rules name) v h ≡ []
      → Holds (long_met rules (arg_by_long rules name) v h).0
  long_given name v h given e = elim (one_rule options (λ a. not (is_some a.index) && has_long a name)) [
    | inl none ↦
        let bad : UnknownArgument ∷ [] ≡ [] = sym (ap (λ o. long_fault rules false o v h) none) ∙ e in
        cc
    | inr some ↦
        let fault = ap (λ o. long_fault rules false o v h) some.2 in
        subst (λ o. Holds (long_met rules o v h).0) (sym some.2) (option_given some.0 some.1 v h given (sym fault ∙ e))
  ]

  -- a word without a fault, which is neither `--` nor behind it
  flag_given : (waiting : Waiting) (word : Text) (h : Held) → Holds h → flag_word_fault rules false (long_of word) word h ≡ []
      → Holds (long_or_other rules waiting word (long_of word) h).0
  flag_given waiting word h given e = go (long_of word) e
    where
      other : (o : Option Text) → Holds (short_or_plain rules waiting word o h).0
      other None = subst (AreGiven options) (sym (plain_rows waiting word h)) given
      other (Some flags) =
          let met = bundle rules flags h in
          let same = after_rows waiting word met.0 met.1 ∙ bundle_rows (length flags) flags h.skip plain (record h { skip = 0 }) in
          subst (AreGiven options) (sym same) given

      go : (o : Option (Text × Option Text)) → flag_word_fault rules false o word h ≡ []
          → Holds (long_or_other rules waiting word o h).0
      go None e = other (short_of word)
      go (Some p) e =
          let met = long_met rules (arg_by_long rules p.0) p.1 h in
          subst (AreGiven options) (sym (after_rows waiting word met.0 met.1)) (long_given p.0 p.1 h given e)

  -- the command has no subcommand
  no_subcommand : (waiting : Waiting) (word : Text) → subcommand_met [] waiting word ≡ None
  no_subcommand idle word = refl
  no_subcommand positional word = refl
  no_subcommand (option id) word = refl

  -- a word without a fault
  word_given : (is_trailing : Bool) (waiting : Waiting) (position : ℕ) (word : Text) (h : Held) → Holds h
      → word_fault command [] is_trailing waiting word h ≡ [] → Holds (word_met rules [] is_trailing waiting position word h).0
  word_given true waiting position word h given e = given
  word_given false waiting position word h given e =
      let none = no_subcommand waiting word in
      let fault = ap (λ o. other_fault command o word h) none in
      subst (λ o. Holds (subcommand_or_other rules o waiting position word h).0) (sym none)
      (go (bytes_eq word (45 ∷ 45 ∷ [])) (sym fault ∙ e))
    where
      go : (b : Bool) → cond b [] (flag_word_fault rules false (long_of word) word h) ≡ []
          → Holds (cond b (h, trailing position) (long_or_other rules waiting word (long_of word) h)).0
      go true e = given
      go false e = flag_given waiting word h given e

  -- no word is a positional's
  step_held : (word : Text) (w : Walk) (h : Held) (step : Step) → (after_step rules word w h step).held ≡ h
  step_held word w h (next waiting) = refl
  step_held word w h (trailing position) = refl
  step_held word w h (subcommand name) = refl
  step_held word w h value = subst (λ found. (to_positional rules found word w h).held ≡ h)
      (sym (no_rule options (λ a. option_map_or (λ k. k == w.position) a.index false) (λ o. refl))) refl

  -- one more word without a fault
  turn_given : (w : Walk) (word : Text) → Holds w.held → turn_fault command [] w word ≡ [] → Holds (walked rules [] w word).held
  unfolding walked
  turn_given w word given e = go w.stopped e
    where
      go : (o : Option (Text × List Text)) → turn_fault command [] (record w { stopped = o }) word ≡ []
          → Holds (walked_from rules [] o w word).held
      go (Some p) e = given
      go None e =
          let met = word_met rules [] w.is_trailing w.waiting w.position word w.held in
          let here = none_of_both (word_fault command [] w.is_trailing w.waiting word w.held) _ e in
          subst Holds (sym (step_held word w met.0 met.1))
          (word_given w.is_trailing w.waiting w.position word w.held given here.0)

  -- all words without a fault
  pub walk_given : (w : Walk) (words : List Text) → Holds w.held → walk_fault command [] w words ≡ []
      → Holds (fold (walked rules []) w words).held
  unfolding walk_fault
  walk_given w [] given e = given
  walk_given w (word ∷ words) given e =
      let parts = none_of_both (turn_fault command [] w word) _ e in
      walk_given (walked rules [] w word) words (turn_given w word given parts.0) parts.1
