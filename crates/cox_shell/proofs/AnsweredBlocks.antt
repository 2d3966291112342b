-- What several lines and blocks are answered.
use Rattle.std.proofs.Common.{◌≡◌, ℕ, suc, ◌+◌, ◌<◌, ◌≤◌, List, [], ◌∷◌, ◌++◌, Option, None, Some, length, drop, get_or, refl, sym, ap}
use Rattle.std.proofs.Common.{◌∙◌, subst, arith, append_assoc}
use Rattle.std.specs.Option.{option_map}
use Rattle.std.specs.List.{filter_map, cons_option, slice_get}
use Rattle.std.proofs.lemmas.List.{append-nil, drop_all}
use Rattle.std.proofs.lemmas.List.Elements.{filter_map-append}
use Rattle.std.proofs.lemmas.Grind.{flat_map-append}
use Rattle.std.proofs.Math.Seq.{drop-cons}
use Rattle.cox_command.specs.declared.refusal.Refusal.{Refusal}
use Rattle.cox_command.specs.RefusalNumber.{refusal_number}
use Rattle.cox_shell.specs.Reply.{Kept, State, Reply, closed}
use Rattle.cox_shell.specs.OpenLists.{kept_lines}
use Rattle.cox_shell.specs.Blocks.{AreBlockLineReplies}
use Rattle.cox_shell.specs.AnsweredText.{Numbered, numbered, numbered_by, no_text, first_number, then_numbered}
use Rattle.cox_shell.specs.AnsweredText.{AnswersLine, AnswersBlock, AnswersBlocks, AnswersList}

first_number-none : (a : Option ℕ) → first_number a None ≡ a
first_number-none None = refl
first_number-none (Some n) = refl

first_number-assoc : (a b c : Option ℕ) → first_number (first_number a b) c ≡ first_number a (first_number b c)
first_number-assoc None b c = refl
first_number-assoc (Some n) b c = refl

abbrev number_of : List ℕ → Option ℕ → Numbered
number_of text refused = record { text = text; refused = refused }

same_parts : (t u : List ℕ) (r q : Option ℕ) → t ≡ u → r ≡ q → number_of t r ≡ number_of u q
same_parts t u r q e f = rw (e, f) refl

pub same_numbered : (a b : Numbered) → a.text ≡ b.text → a.refused ≡ b.refused → a ≡ b
same_numbered a b e f = same_parts a.text b.text a.refused b.refused e f

then_no_text : (a : Numbered) → then_numbered a no_text ≡ a
then_no_text a = same_numbered (then_numbered a no_text) a (append-nil a.text) (first_number-none a.refused)

then_numbered-assoc : (a b c : Numbered) → then_numbered (then_numbered a b) c ≡ then_numbered a (then_numbered b c)
then_numbered-assoc a b c = same_numbered (then_numbered (then_numbered a b) c) (then_numbered a (then_numbered b c))
    (append_assoc a.text b.text c.text) (first_number-assoc a.refused b.refused c.refused)

-- the number of the first refusal of both
first_refusal : (a b : List Refusal) → option_map refusal_number (slice_get (a ++ b) 0)
    ≡ first_number (option_map refusal_number (slice_get a 0)) (option_map refusal_number (slice_get b 0))
first_refusal [] b = refl
first_refusal (why ∷ a) b = refl

numbered-append : (p q : List Reply) → numbered (p ++ q) ≡ then_numbered (numbered p) (numbered q)
numbered-append p q = same_numbered (numbered (p ++ q)) (then_numbered (numbered p) (numbered q))
    (flat_map-append (λ (reply : Reply). reply.text) p q)
    (ap (λ l. option_map refusal_number (slice_get l 0)) (filter_map-append (λ (reply : Reply). reply.refused) p q)
    ∙ first_refusal (filter_map (λ (reply : Reply). reply.refused) p) (filter_map (λ (reply : Reply). reply.refused) q))

numbered-one : (reply : Reply) → numbered (reply ∷ []) ≡ numbered_by reply
numbered-one reply = same_numbered (numbered (reply ∷ [])) (numbered_by reply) (append-nil reply.text) (by_refusal reply.refused)
  where
    by_refusal : (o : Option Refusal) → option_map refusal_number (slice_get (cons_option o []) 0) ≡ option_map refusal_number o
    by_refusal None = refl
    by_refusal (Some why) = refl

pub next_of : {X : Type 0} (list : List X) (i : ℕ) (d : X) → i < length list → drop i list ≡ get_or list i d ∷ drop (i + 1) list
next_of list i d within = drop-cons list i d within ∙ ap (λ n. get_or list i d ∷ drop n list) (same i)
  where
    same : (n : ℕ) → suc n ≡ n + 1
    same n = omega arith

-- the replies to some lines, and then to others
pub both_replies : (state : State) (first rest : List Kept) (p q : List Reply) → AreBlockLineReplies state first p
    → AreBlockLineReplies state rest q
    → AreBlockLineReplies state (first ++ rest) (p ++ q)
both_replies state [] rest p q none are = subst (λ r. AreBlockLineReplies state rest (r ++ q)) (sym none) are
both_replies state (line ∷ first) rest [] q none are = absurd none
both_replies state (line ∷ first) rest (reply ∷ p) q some are = (some.0, both_replies state first rest p q some.1 are)

-- What the lines up to a place were answered: with the replies to those that follow, whatever these are, these are the replies to all.
pub record HasAnswered (state : State) (lines : List Kept) (i : ℕ) (before now : Numbered) : Type 0 where
  pub answered : List Reply
  pub goes : (rest : List Reply) → AreBlockLineReplies state (drop i lines) rest → AreBlockLineReplies state lines (answered ++ rest)
  pub is : now ≡ then_numbered before (numbered answered)

module _ (state : State) (lines : List Kept) where
  pub HasAnswered-start : (before : Numbered) → HasAnswered state lines 0 before before
  HasAnswered-start before = record { answered = []; goes = λ rest h. h; is = sym (then_no_text before) }

  pub HasAnswered-more : (i : ℕ) (line : Kept) (before now next : Numbered) → i < length lines → line ≡ get_or lines i line
      → HasAnswered state lines i before now → AnswersLine state line now next → HasAnswered state lines (i + 1) before next
  HasAnswered-more i line before now next within at h one = record {
    answered = h.answered ++ one.0 ∷ [];
    goes = λ rest more. subst (λ t. AreBlockLineReplies state lines t) (sym (append_assoc h.answered (one.0 ∷ []) rest))
        (h.goes (one.0 ∷ rest) (rw (next_of lines i line within, ← at) (one.1, more)));
    is = one.2 ∙ ap (λ a. then_numbered a (numbered_by one.0)) h.is
        ∙ then_numbered-assoc before (numbered h.answered) (numbered_by one.0)
        ∙ ap (λ a. then_numbered before (then_numbered (numbered h.answered) a)) (sym (numbered-one one.0))
        ∙ ap (then_numbered before) (sym (numbered-append h.answered (one.0 ∷ [])));
  }

  pub HasAnswered-all : (i : ℕ) (before now : Numbered) → length lines ≤ i → HasAnswered state lines i before now
      → AnswersBlock state lines before now
  HasAnswered-all i before now end h = (
    h.answered,
    subst (λ t. AreBlockLineReplies state lines t) (append-nil h.answered) (h.goes [] (rw (drop_all i lines end) refl)),
    h.is,
  )

-- the same of blocks
pub record HasAnsweredBlocks (state : State) (blocks : List (List Kept)) (i : ℕ) (before now : Numbered) : Type 0 where
  pub answered : List Reply
  pub goes : (rest : List Reply) → AreBlockLineReplies state (kept_lines (drop i blocks)) rest
      → AreBlockLineReplies state (kept_lines blocks) (answered ++ rest)
  pub is : now ≡ then_numbered before (numbered answered)

module _ (state : State) (blocks : List (List Kept)) where
  pub HasAnsweredBlocks-start : (before : Numbered) → HasAnsweredBlocks state blocks 0 before before
  HasAnsweredBlocks-start before = record { answered = []; goes = λ rest h. h; is = sym (then_no_text before) }

  pub HasAnsweredBlocks-more : (i : ℕ) (block : List Kept) (before now next : Numbered) → i < length blocks → block ≡ get_or blocks i block
      → HasAnsweredBlocks state blocks i before now → AnswersBlock state block now next → HasAnsweredBlocks state blocks (i + 1) before next
  HasAnsweredBlocks-more i block before now next within at h one = record {
    answered = h.answered ++ one.0;
    goes = λ rest more. subst (λ t. AreBlockLineReplies state (kept_lines blocks) t) (sym (append_assoc h.answered one.0 rest))
        (h.goes (one.0 ++ rest) (rw (next_of blocks i block within, ← at)
        (both_replies state block (kept_lines (drop (i + 1) blocks)) one.0 rest one.1 more)));
    is = one.2 ∙ ap (λ a. then_numbered a (numbered one.0)) h.is ∙ then_numbered-assoc before (numbered h.answered) (numbered one.0)
        ∙ ap (then_numbered before) (sym (numbered-append h.answered one.0));
  }

  pub HasAnsweredBlocks-all : (i : ℕ) (before now : Numbered) → length blocks ≤ i → HasAnsweredBlocks state blocks i before now
      → AnswersBlocks state blocks before now
  HasAnsweredBlocks-all i before now end h = (
    h.answered,
    subst (λ t. AreBlockLineReplies state (kept_lines blocks) t) (append-nil h.answered) (h.goes [] (rw (drop_all i blocks end) refl)),
    h.is,
  )

-- what some blocks are answered, and then others
pub AnswersList-both : (state : State) (first rest : List (List Kept)) (a b : Numbered) → AnswersList state first a
    → AnswersList state rest b → AnswersList state (first ++ rest) (then_numbered a b)
AnswersList-both state first rest a b p q = (
  p.0 ++ q.0,
  subst (λ l. AreBlockLineReplies (closed state) l (p.0 ++ q.0)) (sym (flat_map-append (λ (block : List Kept). block) first rest))
      (both_replies (closed state) (kept_lines first) (kept_lines rest) p.0 q.0 p.1 q.1),
  ap (λ x. then_numbered x b) p.2 ∙ ap (λ x. then_numbered (numbered p.0) x) q.2 ∙ sym (numbered-append p.0 q.0),
)
