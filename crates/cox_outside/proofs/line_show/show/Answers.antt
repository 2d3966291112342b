-- What is shown of the kept bytes is shown of the line.
use Rattle.std.proofs.Common.{◌≡◌, ℕ, ◌+◌, ◌≤◌, length, take, ap, subst}
use Rattle.std.specs.Option.{option_map}
use Rattle.cox_tokens.specs.declared.limits.TheConstants.{LINE_LIMIT}
use Rattle.cox_tokens.specs.Line.{content_of}
use Rattle.cox_outside.proofs.Showing.{shown_prefix, shown_length, found_in}
use Rattle.cox_outside.proofs.line_show.show.Goals as goal

pub returns-in-Some : goal.returns-in-Some
returns-in-Some c = λ line keeps.
    let len = c.content_len-len.ensures in
    let is : take c.content_len-len.result c.args.buffer.now
    ≡ content_of line = shown_prefix _ _ _ _ _ keeps len c.if-len-gt-LINE_LIMIT.false in
    let size : c.content_len-len.result ≡ length (content_of line) = shown_length _ _ _ _ _ keeps len in (
      subst (λ (n : ℕ). n ≤ LINE_LIMIT) size c.if-len-gt-LINE_LIMIT.false,
      ap (option_map (λ before. before + 1))
          (found_in _ _ _ is c.in-Some.ensures.place),
    )

pub returns-in-None : goal.returns-in-None
returns-in-None c = λ line keeps.
    let len = c.content_len-len.ensures in
    let is : take c.content_len-len.result c.args.buffer.now
    ≡ content_of line = shown_prefix _ _ _ _ _ keeps len c.if-len-gt-LINE_LIMIT.false in
    let size : c.content_len-len.result ≡ length (content_of line) = shown_length _ _ _ _ _ keeps len in
    (is, subst (λ (n : ℕ). n ≤ LINE_LIMIT) size c.if-len-gt-LINE_LIMIT.false, found_in _ _ _ is c.in-None.ensures.place)
