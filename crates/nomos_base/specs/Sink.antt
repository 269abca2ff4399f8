-- What a sink has written, and what one write does to it. Bytes that a sink does not tell are `None`.
use Rattle.std.specs.Prelude.{◌≡◌, ℕ, ◌<◌, ◌≤◌, List, ◌++◌, length, take, Option, Some, None}
use Rattle.nomos_base.specs.Faults.{Rose}
use Rattle.nomos_base.specs.declared.sink.Put.{Put}
use Rattle.nomos_base.specs.declared.sink.Put.TheVariants.{Wrote, Failed}

-- what is written, where that is told, and these bytes behind it
abbrev pub with_end : Option (List ℕ) → List ℕ → Option (List ℕ)
with_end None bytes = None
with_end (Some written) bytes = Some (written ++ bytes)

-- a write appended the first `count` of the bytes
pub record Appends (count : ℕ) (bytes : List ℕ) (before now : Option (List ℕ)) : Type 0 where
  pub some : 0 < count
  pub fits : count ≤ length bytes
  pub behind : now ≡ with_end before (take count bytes)

-- a write failed, was counted, and appended nothing
pub record FailsToWrite (before now : Option (List ℕ)) (faults_before faults_now : ℕ) : Type 0 where
  pub counted : Rose faults_before faults_now
  pub kept : now ≡ before

-- what each answer of a write says of what is written and of the count of faults
abbrev pub Writes : Put → List ℕ → Option (List ℕ) → Option (List ℕ) → ℕ → ℕ → Type 0
Writes (Wrote count) bytes before now faults_before faults_now = Appends count bytes before now
Writes Failed bytes before now faults_before faults_now = FailsToWrite before now faults_before faults_now

-- some of the bytes, and not all, were appended
abbrev pub AppendsSome : List ℕ → Option (List ℕ) → Option (List ℕ) → Type 0
AppendsSome bytes before now =
    (count : ℕ) × (count < length bytes) × (now ≡ with_end before (take count bytes))
