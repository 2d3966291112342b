-- The proof of `put_labels`.
use Rattle.std.proofs.Common.{◌≡◌, ◌<◌, ◌≤◌, ◌*◌, ◌-◌, ◌/◌, length, slice_index, rules, arith, sym, ap, ◌∙◌}
use Rattle.std.proofs.lemmas.List.{append-nil}
use Rattle.cox_base.proofs.Entries.{label-above}
use Rattle.cox_poly.proofs.Behind.{Puts-failed, PutsPrefix-next, append-next, append-all}
use Rattle.cox_certtext.specs.CertificateParts.{label_text}
use Rattle.cox_certtext.proofs.LabelOrder.{first-pair, pair-inside, pair-next}
use Rattle.cox_certtext.proofs.printing.put_labels.Goals as goal

pub loop-k-init : goal.loop-k-init
loop-k-init c = (first-pair c.args.g.now.rank c.rank-rank.ensures.matrix.some, sym (append-nil c.args.out.now.items))

pub label-requires-clause-t : goal.label-requires-clause-t
label-requires-clause-t c =
    let pair = c.loop-k.invariant.0 in
    let inside = pair-inside c.args.g.now.rank c.loop-k._k c.loop-k.s c.loop-k.t pair (rw c.rank-rank.ensures.rank at c.loop-k-test.true) in
    record { from_one = omega (arith, pair.rising); to_rank = pair.next inside }

pub next_pair-next-requires-clause-to_rank : goal.next_pair-next-requires-clause-to_rank
next_pair-next-requires-clause-to_rank c =
    let pair = c.loop-k.invariant.0 in
    let inside = pair-inside c.args.g.now.rank c.loop-k._k c.loop-k.s c.loop-k.t pair (rw c.rank-rank.ensures.rank at c.loop-k-test.true) in
    rw c.rank-rank.ensures.rank (pair.next inside)

pub loop-k-preserved : goal.loop-k-preserved
loop-k-preserved c =
    let g = c.args.g.now in
    let pair = c.loop-k.invariant.0 in
    let within = rw c.rank-rank.ensures.rank at c.loop-k-test.true in
    let inside = pair-inside g.rank c.loop-k._k c.loop-k.s c.loop-k.t pair within in
    let value : c.label.result ≡ slice_index g.labels c.loop-k._k
    = c.label.ensures ∙ label-above g c.loop-k.s c.loop-k.t pair.rising ∙ ap (slice_index g.labels) pair.at in
    let there : c.loop-k._k < length g.labels = rw c.rank-rank.ensures.matrix.count within in (
      pair-next g.rank c.loop-k._k c.loop-k.s c.loop-k.t c.next_pair-next.result.0 c.next_pair-next.result.1 pair inside
          (rw c.rank-rank.ensures.rank at c.next_pair-next.ensures),
      append-next label_text g.labels c.loop-k._k c.label.result 0 _ _ _ there value c.loop-k.invariant.1
          (c.in_ok-put_label.ensures {u = tt}),
    )

pub returns-in_err-put_label : goal.returns-in_err-put_label
returns-in_err-put_label c =
    let g = c.args.g.now in
    let pair = c.loop-k.invariant.0 in
    let within = rw c.rank-rank.ensures.rank at c.loop-k-test.true in
    let value : c.label.result ≡ slice_index g.labels c.loop-k._k
    = c.label.ensures ∙ label-above g c.loop-k.s c.loop-k.t pair.rising ∙ ap (slice_index g.labels) pair.at in
    let there : c.loop-k._k < length g.labels = rw c.rank-rank.ensures.matrix.count within in
    Puts-failed _ _ _ _ (search rules)
    (PutsPrefix-next label_text g.labels c.loop-k._k c.label.result 0 _ _ _ there value c.loop-k.invariant.1
    (c.in_err-put_label.ensures {u = tt}))

pub returns : goal.returns
returns c =
    let g = c.args.g.now in
    let rank = c.rank-rank.result in
    let end : rank * (rank - 1) / 2 ≤ c.loop-k._k = omega arith in
    let past : length g.labels ≤ c.loop-k._k = rw c.rank-rank.ensures.matrix.count (rw c.rank-rank.ensures.rank at end) in
    append-all label_text g.labels c.loop-k._k _ _ past c.loop-k.invariant.1
