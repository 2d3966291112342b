-- One term more is taken off.
use Rattle.std.proofs.Common.{◌≡◌, suc, ◌+◌, [], FitsSigned, w64, rules, refl, arith}
use Rattle.std.proofs.lemmas.Int.{ints, to_z-of_z}
use Rattle.cox_poly.proofs.Polynomials.{coefficient_past}
use Rattle.cox_inverse.proofs.SignedProducts.{taken_off-none, taken_off-more, taken_off-all, degree-less, term-small}
use Rattle.cox_inverse.proofs.sums.take_off.Goals as goal

pub returns-in_default-clause-sum : goal.returns-in_default-clause-sum
returns-in_default-clause-sum c =
    let none : c.args.p.now ≡ [] = c.in_default.ensures.zero.0 refl
    in taken_off-all c.args.p.now c.args.r.now c.args.sums.now c.args.d 0 c.args.sums.now
    (λ k l. coefficient_past c.args.p.now k (rw none (omega arith)))
    (taken_off-none c.args.p.now c.args.r.now c.args.sums.now c.args.d)

pub loop-k-init : goal.loop-k-init
loop-k-init c = record {
  off = taken_off-none c.args.p.now c.args.r.now c.args.sums.now c.args.d;
  size = λ j. omega arith;
}

pub add_scaled-requires-clause-room : goal.add_scaled-requires-clause-room
add_scaled-requires-clause-room c = λ k.
    let fits : FitsSigned w64 c.taken_off.result = search rules
    in let low = degree-less c.args.p.now c.in-Some.degree 128 c.in-Some.ensures.degree c.requires.p_degree
    in let small = c.taken_off.ensures.size
    in rw (to_z-of_z w64 c.taken_off.result fits)
    (let bound = term-small c.loop-k.sums c.args.r.now c.taken_off.result c.loop-k.k k (omega (arith, ints, small)) c.requires.r_small
    in omega (arith, bound, low, c.loop-k-test.true, c.loop-k.invariant.size k, c.requires.room k))

pub loop-k-preserved : goal.loop-k-preserved
loop-k-preserved c =
    let fits : FitsSigned w64 c.taken_off.result = search rules
    in let fits_c : FitsSigned w64 c.coefficient.result = search rules
    in let next : c.loop-k.k + 1 ≡ suc c.loop-k.k = omega arith
    in let small = c.taken_off.ensures.size
    in let after = simp (to_z-of_z w64 c.taken_off.result fits) at c.add_scaled.ensures.sum
    in record {
      off = rw next (taken_off-more c.args.p.now c.args.r.now c.args.sums.now c.args.d c.loop-k.k c.coefficient.result c.taken_off.result
          c.loop-k.sums c.add_scaled.new.self c.coefficient.ensures
          (simp (to_z-of_z w64 c.coefficient.result fits_c) at c.taken_off.ensures.sign) after c.loop-k.invariant.off);
      size = λ j. rw (after j)
          (let bound = term-small c.loop-k.sums c.args.r.now c.taken_off.result c.loop-k.k j (omega (arith, ints, small)) c.requires.r_small
          in omega (arith, bound, c.loop-k.invariant.size j));
    }

pub returns-clause-sum : goal.returns-clause-sum
returns-clause-sum c =
    taken_off-all c.args.p.now c.args.r.now c.args.sums.now c.args.d c.loop-k.k c.loop-k.sums
    (λ k l. c.in-Some.ensures.degree.above k (omega (arith, l, c.loop-k-test.false))) c.loop-k.invariant.off
