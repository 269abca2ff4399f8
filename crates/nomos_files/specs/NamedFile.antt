-- A file that a word names.
use Rattle.std.specs.Prelude.{ℕ, List, Option}

-- What a contract sees of a file: the word that names it, if there is one; how often it was read, or written, and how
-- often that failed. Both counts stay at their last value, 2^64 - 1.
pub record NamedFile : Type 0 where
  pub word : Option (List ℕ)
  pub calls : ℕ
  pub faults : ℕ
