-- The lemmas on sums of absolute coefficients.
use Rattle.std.proofs.Common.{arith}
use Rattle.cox_poly.proofs.Norms.{HasNormAtMost-coefficient, HasNormAtMost-plus, HasNormAtMost-times_q, HasNormAtMost-times_q_less_one}
use Rattle.cox_poly.proofs.Norms.{HasNormAtMost-product}
use Rattle.cox_poly.proofs.laws.norms.Goals as goal

pub returns : goal.returns
returns c = record {
  coefficient = λ f m k h. HasNormAtMost-coefficient f m h k;
  plus = HasNormAtMost-plus;
  times_q = HasNormAtMost-times_q;
  times_q_less_one = λ f m h n. omega (arith, HasNormAtMost-times_q_less_one f m h n);
  product = HasNormAtMost-product;
}
