-- A list of events is taken one event after another: the core and the replies after one event more.
use Rattle.std.proofs.Common.{◌≡◌, ℕ, ◌+◌, ◌<◌, List, [], ◌∷◌, ◌++◌, length, take, get_or, refl, sym, ap, ◌∙◌, length-append, arith}
use Rattle.std.proofs.lemmas.List.{take_more}
use Rattle.cox_fill_core.specs.declared.event.Event.{Event}
use Rattle.cox_fill_core.specs.declared.event.Reply.{Reply}
use Rattle.cox_fill_core.specs.Fill.{Fill, after, reply, after_all, replies}
use Rattle.cox_fill_core.specs.Machine.{HasSameShape}
use Rattle.cox_fill_core.specs.declared.machine.Core.{Core}

pub after_all-append : (needs : ℕ → List ℕ) (c : Fill) (es ds : List Event)
    → after_all needs c (es ++ ds) ≡ after_all needs (after_all needs c es) ds
after_all-append needs c [] ds = refl
after_all-append needs c (e ∷ es) ds = after_all-append needs (after needs c e) es ds

replies-append : (needs : ℕ → List ℕ) (c : Fill) (es ds : List Event)
    → replies needs c (es ++ ds) ≡ replies needs c es ++ replies needs (after_all needs c es) ds
replies-append needs c [] ds = refl
replies-append needs c (e ∷ es) ds = ap (λ rs. reply needs c e ∷ rs) (replies-append needs (after needs c e) es ds)

-- one event more, from the core d that the first k events led to
pub after_all_more : (needs given : ℕ → List ℕ) (c d e : Fill) (es : List Event) (k : ℕ) (x : Event) → given ≡ needs
    → d ≡ after_all needs c (take k es) → k < length es
    → e ≡ after given d (get_or es k x) → e ≡ after_all needs c (take (k + 1) es)
after_all_more needs given c d e es k x same at lt step =
    step ∙ ap (λ n. after n d (get_or es k x)) same ∙ ap (λ z. after needs z (get_or es k x)) at
    ∙ sym (ap (after_all needs c) (take_more es k x lt) ∙ after_all-append needs c (take k es) (get_or es k x ∷ []))

pub replies_more : (needs given : ℕ → List ℕ) (c d : Fill) (all rs : List Reply) (r : Reply) (es : List Event) (k : ℕ) (x : Event)
    → all ≡ rs ++ r ∷ [] → given ≡ needs → d ≡ after_all needs c (take k es) → k < length es
    → rs ≡ replies needs c (take k es) → r ≡ reply given d (get_or es k x) → all ≡ replies needs c (take (k + 1) es)
replies_more needs given c d all rs r es k x pushed same at lt so_far step =
    pushed
    ∙ ap (λ z. z ++ r ∷ []) so_far
    ∙ ap (λ z. replies needs c (take k es) ++ z ∷ [])
    (step ∙ ap (λ n. reply n d (get_or es k x)) same ∙ ap (λ z. reply needs z (get_or es k x)) at)
    ∙ sym (ap (replies needs c) (take_more es k x lt) ∙ replies-append needs c (take k es) (get_or es k x ∷ []))

pub same_shape : (a b c : Core) → HasSameShape a b → HasSameShape b c → HasSameShape a c
same_shape a b c p q = record { needs = q.needs ∙ p.needs; rows = q.rows ∙ p.rows; actors = q.actors ∙ p.actors }

pub one_answer_more : (rs all : List Reply) (r : Reply) (k : ℕ) → all ≡ rs ++ r ∷ [] → length rs ≡ k → length all ≡ k + 1
one_answer_more rs all r k pushed count = omega (arith, ap length pushed, length-append rs (r ∷ []), count)
