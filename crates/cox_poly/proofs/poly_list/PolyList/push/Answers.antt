-- The list is as it was, or has one polynomial more.
use Rattle.std.proofs.Common.{◌≡◌, [], length, refl, sym, ◌∙◌, append-nil, arith}
use Rattle.cox_poly.specs.PolyLists.{start_at, pieces}
use Rattle.cox_poly.proofs.Behind.{on_err}
use Rattle.cox_poly.proofs.Stored.{kept, pushed}
use Rattle.cox_poly.proofs.poly_list.PolyList.push.Goals as goal

pub invariant_of-self : goal.invariant_of-self
invariant_of-self c =
    let d = c.deref.ensures.value in let n = c.len.ensures in let s = c.start_at-start.ensures in
    let at : c.start_at-start.result ≡ start_at c.self.inside.ends.items (length c.self.inside.ends.items) = cc in
    (kept c.self.inside.coefficients.items c.self.inside.ends.items c.self.invariant c.start_at-start.result at
    c.extend_from_slice.new.self.items [] (c.in_err-extend_from_slice.ensures.items ∙ c.truncate.ensures.items ∙ sym (append-nil _))).0

pub returns-in_err-extend_from_slice-clause-kept : goal.returns-in_err-extend_from_slice-clause-kept
returns-in_err-extend_from_slice-clause-kept c =
    let d = c.deref.ensures.value in let n = c.len.ensures in let s = c.start_at-start.ensures in
    let at : c.start_at-start.result ≡ start_at c.self.inside.ends.items (length c.self.inside.ends.items) = cc in
    let is : pieces c.extend_from_slice.new.self.items c.self.inside.ends.items ≡ c.args.self.now =
    (kept c.self.inside.coefficients.items c.self.inside.ends.items c.self.invariant c.start_at-start.result at
    c.extend_from_slice.new.self.items [] (c.in_err-extend_from_slice.ensures.items ∙ c.truncate.ensures.items ∙ sym (append-nil _))).1
    ∙ c.self.view_is in
    on_err c.from_residual.result is

pub invariant_of-self-in_err-push : goal.invariant_of-self-in_err-push
invariant_of-self-in_err-push c =
    let d = c.deref.ensures.value in let n = c.len.ensures in let s = c.start_at-start.ensures in
    let at : c.start_at-start.result ≡ start_at c.self.inside.ends.items (length c.self.inside.ends.items) = cc in
    rw c.in_err-push.ensures.items (kept c.self.inside.coefficients.items c.self.inside.ends.items c.self.invariant
    c.start_at-start.result at
    c.extend_from_slice.new.self.items c.args.p.now (rw (
      c.in_ok-extend_from_slice.ensures.items,
      c.truncate.ensures.items,
      c.coefficients-coefficients.ensures.list,
    ) refl)).0

pub returns-in_err-push-clause-kept : goal.returns-in_err-push-clause-kept
returns-in_err-push-clause-kept c =
    let d = c.deref.ensures.value in let n = c.len.ensures in let s = c.start_at-start.ensures in
    let at : c.start_at-start.result ≡ start_at c.self.inside.ends.items (length c.self.inside.ends.items) = cc in
    let is : pieces c.extend_from_slice.new.self.items c.push.new.self.items ≡ c.args.self.now =
    rw c.in_err-push.ensures.items ((kept c.self.inside.coefficients.items c.self.inside.ends.items c.self.invariant
    c.start_at-start.result at
    c.extend_from_slice.new.self.items c.args.p.now (rw (
      c.in_ok-extend_from_slice.ensures.items,
      c.truncate.ensures.items,
      c.coefficients-coefficients.ensures.list,
    ) refl)).1 ∙ c.self.view_is) in
    on_err c.from_residual-in_err-push.result is

pub invariant_of-self-2 : goal.invariant_of-self-2
invariant_of-self-2 c =
    let d = c.deref.ensures.value in let n = c.len.ensures in let s = c.start_at-start.ensures in
    let at : c.start_at-start.result ≡ start_at c.self.inside.ends.items (length c.self.inside.ends.items) = cc in
    (pushed c.self.inside.coefficients.items c.self.inside.ends.items c.self.invariant c.start_at-start.result at
    c.extend_from_slice.new.self.items c.args.p.now (rw (
      c.in_ok-extend_from_slice.ensures.items,
      c.truncate.ensures.items,
      c.coefficients-coefficients.ensures.list,
    ) refl)
    c.push.new.self.items c.in-Ok.end c.in_ok-push.ensures.items
    (rw (← c.coefficients-coefficients.ensures.list) (omega (arith, c.in-Ok.ensures))) c.coefficients-coefficients.ensures.storable).0

pub returns-clause-pushed : goal.returns-clause-pushed
returns-clause-pushed c =
    let d = c.deref.ensures.value in let n = c.len.ensures in let s = c.start_at-start.ensures in
    let at : c.start_at-start.result ≡ start_at c.self.inside.ends.items (length c.self.inside.ends.items) = cc in
    rw (← c.self.view_is) (pushed c.self.inside.coefficients.items c.self.inside.ends.items c.self.invariant c.start_at-start.result at
    c.extend_from_slice.new.self.items c.args.p.now (rw (
      c.in_ok-extend_from_slice.ensures.items,
      c.truncate.ensures.items,
      c.coefficients-coefficients.ensures.list,
    ) refl)
    c.push.new.self.items c.in-Ok.end c.in_ok-push.ensures.items
    (rw (← c.coefficients-coefficients.ensures.list) (omega (arith, c.in-Ok.ensures))) c.coefficients-coefficients.ensures.storable).1
