-- A parse without a fault gives the options by their definition.
use Rattle.std.proofs.Common.{◌∙◌, ap, sym, not, map, codes, pos, Ok, Err, Result}
use Rattle.std.specs.Prelude.{option_map, IfOk, IsOkAnd, MatchResult}
use Rattle.std.proofs.lemmas.Result.{IfOk-weaker}
use Rattle.clap.specs.Simple.{App}
use Rattle.clap.specs.Walk.{is_empty}
use Rattle.clap.specs.Words.{Kinds, fault_of, found_of, is_simple, is_simple_and_free}
use Rattle.cox_options.proofs.Numbers.{options_read, given_read}
use Rattle.cox_options.proofs.reading.read.Goals as goal

-- what follows for options, which there are only where a parse found them
for_options : {M E O F : Type 0} (N : E → Type 0) (answer : Result M E) (result : Result O F) {P : M → Type 0} {Q : M → O → Type 0}
    {R : O → Type 0} → MatchResult answer P N → IfOk result (λ o. IsOkAnd answer (λ m. Q m o))
    → ((m : M) (o : O) → P m → Q m o → R o) → IfOk result R
for_options N (Ok m) (Ok o) holds by step = step m o holds by
for_options N (Err e) (Ok o) holds by step = absurd by
for_options N (Ok m) (Err f) holds by step = tt
for_options N (Err e) (Err f) holds by step = tt

pub options_by-requires-clause-context : goal.options_by-requires-clause-context
options_by-requires-clause-context c = IfOk-weaker c.try_get_matches_from.result _ _
    (λ m parsed. (options_read _ m parsed c.in-Ok.ensures).0) c.try_get_matches_from.ensures.parsed

pub options_by-requires-clause-roots : goal.options_by-requires-clause-roots
options_by-requires-clause-roots c = IfOk-weaker c.try_get_matches_from.result _ _
    (λ m parsed. (options_read _ m parsed c.in-Ok.ensures).1.0) c.try_get_matches_from.ensures.parsed

pub options_by-requires-clause-coef : goal.options_by-requires-clause-coef
options_by-requires-clause-coef c = IfOk-weaker c.try_get_matches_from.result _ _
    (λ m parsed. (options_read _ m parsed c.in-Ok.ensures).1.1.0) c.try_get_matches_from.ensures.parsed

pub options_by-requires-clause-workers : goal.options_by-requires-clause-workers
options_by-requires-clause-workers c = IfOk-weaker c.try_get_matches_from.result _ _
    (λ m parsed. (options_read _ m parsed c.in-Ok.ensures).1.1.1.0) c.try_get_matches_from.ensures.parsed

pub returns-clause-taken : goal.returns-clause-taken
returns-clause-taken c =
    let words = map (λ word. word.now) c.args.words.now in
    for_options _ c.try_get_matches_from.result c.options_by.result
    (c.try_get_matches_from.ensures.kinds (ap is_simple_and_free c.in-Ok.ensures)) c.options_by.ensures.context
    (λ m o none read. ap (λ (kinds : Kinds). not (is_empty kinds))
    (sym (ap (λ (a : App). fault_of a words) c.in-Ok.ensures) ∙ none))

pub returns-clause-context : goal.returns-clause-context
returns-clause-context c =
    let words = map (λ word. word.now) c.args.words.now in
    for_options _ c.try_get_matches_from.result c.options_by.result c.try_get_matches_from.ensures.matches c.options_by.ensures.context
    (λ m o matches read. given_read _ words (found_of m) (codes "context") c.in-Ok.ensures (matches (ap is_simple c.in-Ok.ensures)).0
    ∙ read)

pub returns-clause-roots : goal.returns-clause-roots
returns-clause-roots c =
    let words = map (λ word. word.now) c.args.words.now in
    for_options _ c.try_get_matches_from.result c.options_by.result c.try_get_matches_from.ensures.matches c.options_by.ensures.roots
    (λ m o matches read. given_read _ words (found_of m) (codes "roots") c.in-Ok.ensures (matches (ap is_simple c.in-Ok.ensures)).0 ∙ read)

pub returns-clause-coef : goal.returns-clause-coef
returns-clause-coef c =
    let words = map (λ word. word.now) c.args.words.now in
    for_options _ c.try_get_matches_from.result c.options_by.result c.try_get_matches_from.ensures.matches c.options_by.ensures.coef
    (λ m o matches read. ap (option_map pos) (given_read _ words (found_of m) (codes "coef") c.in-Ok.ensures
    (matches (ap is_simple c.in-Ok.ensures)).0) ∙ read)

pub returns-clause-workers : goal.returns-clause-workers
returns-clause-workers c =
    let words = map (λ word. word.now) c.args.words.now in
    for_options _ c.try_get_matches_from.result c.options_by.result c.try_get_matches_from.ensures.matches c.options_by.ensures.workers
    (λ m o matches read. given_read _ words (found_of m) (codes "workers") c.in-Ok.ensures (matches (ap is_simple c.in-Ok.ensures)).0
    ∙ read)
