-- What was found at a place of a text, against the piece that begins there.
use Rattle.std.specs.Prelude.{◌≡◌, ℕ, suc, List, [], ◌∷◌, take, None}
use Rattle.std.specs.Option.{option_map}
use Rattle.nomos_syntax.specs.declared.pieces.Piece.{Piece as Found}
use Rattle.nomos_syntax.specs.Scan.{Piece, piece_at}
use Rattle.nomos_syntax.specs.Spans.{lexeme_of}

-- the piece at the front of these bytes
abbrev pub first_piece : List ℕ → Piece
first_piece [] = record { lexeme = None; more = 0 }
first_piece (b ∷ bytes) = piece_at b bytes

-- the bytes begin with this piece, and it was found
pub record Finds (bytes : List ℕ) (piece : Piece) (found : Found) : Type 0 where
  pub more : found.more ≡ piece.more
  pub lexeme : option_map (λ kind. lexeme_of kind (take (suc found.more) bytes)) found.kind ≡ piece.lexeme
