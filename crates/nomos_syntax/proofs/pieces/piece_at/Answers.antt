-- Each branch finds the piece of its case.
use Rattle.std.proofs.Common.{refl}
use Rattle.nomos_syntax.proofs.PieceLemmas.{piece_at-blank, piece_at-comment, piece_at-word, piece_at-number, piece_at-symbol, finds_word}
use Rattle.nomos_syntax.proofs.pieces.piece_at.Goals as goal

pub returns-then-is_blank-clause-found : goal.returns-then-is_blank-clause-found
returns-then-is_blank-clause-found c =
    rw (piece_at-blank c.args.first c.args.after.now (cc)) (record { more = refl; lexeme = refl })

pub returns-then-begins_comment-clause-found : goal.returns-then-begins_comment-clause-found
returns-then-begins_comment-clause-found c =
    rw (piece_at-comment c.args.first c.args.after.now (cc) (cc))
    (record { more = c.comment_length.ensures.value; lexeme = refl })

pub returns-then-is_letter-clause-found : goal.returns-then-is_letter-clause-found
returns-then-is_letter-clause-found c =
    rw (piece_at-word c.args.first c.args.after.now (cc) (cc) (cc))
    (finds_word c.args.first c.args.after.now c.args.bytes.now c.word_kind.result c.word_length-more.result
    c.requires c.word_length-more.ensures.value c.word_kind.ensures)

pub returns-then-is_digit-clause-found : goal.returns-then-is_digit-clause-found
returns-then-is_digit-clause-found c =
    rw (piece_at-number c.args.first c.args.after.now (cc) (cc) (cc) (cc))
    (record {
      more = c.digits_length.ensures.value;
      lexeme = rw c.requires (rw c.digits_length.ensures.value refl);
    })

pub returns-else-is_digit-clause-found : goal.returns-else-is_digit-clause-found
returns-else-is_digit-clause-found c =
    rw (piece_at-symbol c.args.first c.args.after.now (cc) (cc) (cc) (cc)) (rw c.requires c.symbol_piece.ensures.found)
