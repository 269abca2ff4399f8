-- A reader inside which so many parts may be open.
use Rattle.std.proofs.Common.{◌≡◌, ℕ, zero, suc, ◌-◌, ◌<◌, List, refl, arith}
use Rattle.nomos_reader.specs.mirror.Types.{read_one, read_type, type_of_tokens}
use Rattle.nomos_syntax.specs.Lexeme.{Placed}

pub closed_type : (room : ℕ) (tokens : List Placed) → room ≡ 0 → read_type room tokens ≡ read_one tokens
unfolding read_type
closed_type zero tokens e = refl
closed_type (suc room) tokens e = absurd (omega arith)

pub open_type : (room : ℕ) (tokens : List Placed) → 0 < room
    → read_type room tokens ≡ type_of_tokens (read_type (room - 1)) tokens
unfolding read_type
open_type zero tokens lt = absurd (omega arith)
open_type (suc room) tokens lt = let e : suc room - 1 ≡ room = omega arith in rw e refl
