-- Behind the blanks there is nothing, or a comment, or a token.
use Rattle.std.proofs.Common.{sym, ◌∙◌}
use Rattle.nomos_script.proofs.ScanLemmas.{tokens_of-nil, tokens_of-empty, comment_is_last}
use Rattle.nomos_script.proofs.tokens.split_token.Goals as goal

pub returns-in_default-clause-next : goal.returns-in_default-clause-next
returns-in_default-clause-next c =
    let none = tokens_of-empty c.after_blanks-text.result.now c.in_default.len_below in
    (sym c.after_blanks-text.ensures.same ∙ none, none)

pub returns-then-begins_comment-clause-next : goal.returns-then-begins_comment-clause-next
returns-then-begins_comment-clause-next c =
    let none = comment_is_last c.after_blanks-text.result.now c.in-len1-up.len_at_least
    c.after_blanks-text.ensures.solid (cc) in
    (sym c.after_blanks-text.ensures.same ∙ none, tokens_of-nil)
