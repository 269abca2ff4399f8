-- The texts that have tokens.
use Rattle.std.specs.Prelude.{ℕ, ◌<◌, ◌≤◌, List, length, All}
use Rattle.nomos_ir.specs.Limits.{text_limit}

-- a text short enough, of bytes below 128
pub record IsPlainText (text : List ℕ) : Type 0 where
  pub length_limit : length text ≤ text_limit
  pub ascii : All (λ b. b < 128) text
