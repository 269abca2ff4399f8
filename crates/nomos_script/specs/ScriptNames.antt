-- The names of a script.
use Rattle.std.specs.Prelude.{ℕ, ◌≤◌, List, length}
use Rattle.nomos_ir.specs.Name.{IsWordText, max_name_length}

-- a word that is not too long; no word is reserved
pub record IsScriptName (bytes : List ℕ) : Type 0 where
  pub word : IsWordText bytes
  pub short : length bytes ≤ max_name_length
