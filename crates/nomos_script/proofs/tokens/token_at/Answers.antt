-- Each branch takes the token of its case.
use Rattle.std.proofs.Common.{add-one}
use Rattle.nomos_script.proofs.ScanLemmas.{tokens_of-word, tokens_of-number, tokens_of-mark, digits_are_numeral}
use Rattle.nomos_script.proofs.tokens.token_at.Goals as goal

pub returns-then-is_letter-clause-token : goal.returns-then-is_letter-clause-token
returns-then-is_letter-clause-token c =
    rw (c.requires.split, add-one, c.word_length-length.ensures.value)
    (tokens_of-word c.args.first c.args.after.now c.requires.solid c.requires.code (cc))

pub returns-then-is_digit-clause-token : goal.returns-then-is_digit-clause-token
returns-then-is_digit-clause-token c =
    rw (c.requires.split, add-one, c.digits_length-length.ensures.value)
    (tokens_of-number c.args.first c.args.after.now c.requires.solid c.requires.code (cc) (cc))

pub returns-then-is_digit-clause-digits : goal.returns-then-is_digit-clause-digits
returns-then-is_digit-clause-digits c =
    rw (c.requires.split, add-one, c.digits_length-length.ensures.value)
    (digits_are_numeral c.args.first c.args.after.now (cc))

pub returns-else-is_digit-clause-token : goal.returns-else-is_digit-clause-token
returns-else-is_digit-clause-token c =
    rw c.requires.split (tokens_of-mark c.args.first c.args.after.now c.requires.solid c.requires.code (cc) (cc))
