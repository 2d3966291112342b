-- The proof of `work_word`.
use Rattle.std.proofs.Common.{◌≡◌, ◌+◌, ◌∷◌, [], ◌∙◌, ap, sym, subst, rules, arith}
use Rattle.std.proofs.lemmas.List.{length-append}
use Rattle.std.proofs.lemmas.List.Elements.{All-append, All-cons, All-nil}
use Rattle.cox_base.specs.Matrix.{IsLetter, IsWord}
use Rattle.cox_command.specs.Generated.{state_after}
use Rattle.cox_command.specs.declared.generated.TheConstants.{WORD_LETTERS}
use Rattle.cox_command.proofs.GeneratedWords.{step_letters, state_after-next, step_letters-next}
use Rattle.cox_command.proofs.generated.work_word.Goals as goal

pub loop-init : goal.loop-init
unfolding state_after
loop-init c = search rules

pub loop-preserved : goal.loop-preserved
loop-preserved c =
    let kept = c.loop.invariant in
    let letter = c.letter_of.result in
    let state = state_after-next c.loop.counter c.args.g c.loop.state c.step-state.result kept.state_is c.step-state.ensures.state in
    let one : IsWord c.args.rank (letter ∷ []) =
    All-cons (IsLetter c.args.rank) letter [] c.letter_of.ensures.letter (All-nil (IsLetter c.args.rank)) in
    record {
      letters = step_letters-next c.args.rank c.loop.counter c.args.g c.step-state.result letter c.loop.word.items c.push.new.self.items
          kept.letters state c.letter_of.ensures.is c.push.ensures.items;
      size = rw c.push.ensures.items (length-append c.loop.word.items (letter ∷ []) ∙ ap (λ n. n + 1) kept.size);
      is_word = subst (IsWord c.args.rank) (sym c.push.ensures.items)
          (All-append (IsLetter c.args.rank) c.loop.word.items (letter ∷ []) kept.is_word one);
      state_is = state;
      most = c.step-state.ensures.most;
    }

pub returns-clause-word : goal.returns-clause-word
returns-clause-word c =
    let all : c.loop.counter ≡ WORD_LETTERS = omega arith in
    c.loop.invariant.letters ∙ ap (λ steps. step_letters c.args.rank steps c.args.g) all

pub returns-clause-state : goal.returns-clause-state
returns-clause-state c =
    let all : c.loop.counter ≡ WORD_LETTERS = omega arith in
    c.loop.invariant.state_is ∙ ap (λ steps. state_after steps c.args.g) all
