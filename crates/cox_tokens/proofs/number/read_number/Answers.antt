-- The proof of `read_number`.
use Rattle.std.proofs.Common.{◌≤◌, ◌^◌, arith, rules}
use Rattle.std.proofs.Math.Nat.{pow-le-pow_right}
use Rattle.cox_tokens.proofs.number.read_number.Goals as goal

pub overflow_mul-value : goal.overflow_mul-value
overflow_mul-value c =
    let few : 10 ^ c.loop-byte.byte-index ≤ 10 ^ 8 = pow-le-pow_right (omega arith) {j = 8} (omega arith) in
    search (rules, few)

pub overflow_add-value : goal.overflow_add-value
overflow_add-value c =
    let few : 10 ^ c.loop-byte.byte-index ≤ 10 ^ 8 = pow-le-pow_right (omega arith) {j = 8} (omega arith) in
    search (rules, few)
