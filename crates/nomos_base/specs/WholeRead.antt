-- One step of reading all bytes.
use Rattle.std.specs.Prelude.{◌≡◌, ℕ, ◌<◌, Bool, true, false, List, ◌++◌, length, Option}
use Rattle.nomos_base.specs.Source.{with_front, HasEnded}

-- a read got a piece, which stands behind the bytes now
pub record AddsPiece (bytes bytes_now : List ℕ) (before now : Option (List ℕ)) : Type 0 where
  pub piece : List ℕ
  pub some : 0 < length piece
  pub added : bytes_now ≡ bytes ++ piece
  pub taken : before ≡ with_front piece now

-- nothing more comes, and the bytes stay
pub record AddsNothing (bytes bytes_now : List ℕ) (before now : Option (List ℕ)) : Type 0 where
  pub same : bytes_now ≡ bytes
  pub ended : HasEnded before
  pub kept : now ≡ before

-- one step added a piece, after which more may come, or came to the end
abbrev pub TakesPiece : Bool → List ℕ → List ℕ → Option (List ℕ) → Option (List ℕ) → Type 0
TakesPiece true bytes bytes_now before now = AddsPiece bytes bytes_now before now
TakesPiece false bytes bytes_now before now = AddsNothing bytes bytes_now before now
