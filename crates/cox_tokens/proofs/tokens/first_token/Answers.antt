-- The proof of `first_token`.
use Rattle.std.proofs.Common.{arith}
use Rattle.std.proofs.lemmas.Bool.Decides.{nat_tests}
use Rattle.cox_tokens.proofs.Pieces.{tokens_of-next, tokens_of-none, token-some}
use Rattle.cox_tokens.proofs.tokens.first_token.Goals as goal

pub returns-then-is_empty-clause-tokens : goal.returns-then-is_empty-clause-tokens
returns-then-is_empty-clause-tokens c =
    tokens_of-none c.args.line.now c.split_at.result.1.now _ c.spaces_before.ensures.count c.split_at.ensures.back
    (grind (arith, nat_tests))

pub returns-clause-tokens : goal.returns-clause-tokens
returns-clause-tokens c =
    tokens_of-next c.args.line.now c.split_at.result.1.now _ _ _ _ c.spaces_before.ensures.count c.split_at.ensures.back
    (grind (arith, nat_tests))
    c.token_len.ensures.count c.split_at-2.ensures.front c.split_at-2.ensures.back

pub returns-clause-sizes : goal.returns-clause-sizes
returns-clause-sizes c =
    let some = token-some c.args.line.now c.split_at.result.1.now _ _ c.spaces_before.ensures.count c.split_at.ensures.back
    (grind (arith, nat_tests)) c.token_len.ensures.count in
    (omega (arith, some), omega arith)
