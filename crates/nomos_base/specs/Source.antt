-- What a source has left, and what one read does to it. Bytes that a source does not tell are `None`.
use Rattle.std.specs.Prelude.{◌≡◌, ℕ, ◌<◌, ◌≤◌, List, [], ◌++◌, length, take, Option, Some, None, ⊤}
use Rattle.nomos_base.specs.Faults.{Rose}
use Rattle.nomos_base.specs.declared.source.Got.{Got}
use Rattle.nomos_base.specs.declared.source.Got.TheVariants.{Got as got_bytes, End, Failed}

-- these bytes and behind them what is left, where that is told
abbrev pub with_front : List ℕ → Option (List ℕ) → Option (List ℕ)
with_front front None = None
with_front front (Some rest) = Some (front ++ rest)

-- nothing is left, where that is told
abbrev pub HasEnded : Option (List ℕ) → Type 0
HasEnded None = ⊤
HasEnded (Some rest) = rest ≡ []

-- a read got the first `count` bytes of the buffer from the front of what was left
pub record GetsFront (count : ℕ) (buffer : List ℕ) (before now : Option (List ℕ)) : Type 0 where
  pub some : 0 < count
  pub fits : count ≤ length buffer
  pub front : before ≡ with_front (take count buffer) now

-- a read came to the end
pub record FindsEnd (before now : Option (List ℕ)) : Type 0 where
  pub ended : HasEnded before
  pub kept : now ≡ before

-- a read failed, was counted, and took nothing
pub record FailsToRead (before now : Option (List ℕ)) (faults_before faults_now : ℕ) : Type 0 where
  pub counted : Rose faults_before faults_now
  pub kept : now ≡ before

-- what each answer of a read says of the buffer, of what is left and of the count of faults
abbrev pub Reads : Got → List ℕ → Option (List ℕ) → Option (List ℕ) → ℕ → ℕ → Type 0
Reads (got_bytes count) buffer before now faults_before faults_now = GetsFront count buffer before now
Reads End buffer before now faults_before faults_now = FindsEnd before now
Reads Failed buffer before now faults_before faults_now = FailsToRead before now faults_before faults_now

-- a front of at most this many bytes was taken
abbrev pub TakesAtMost : ℕ → Option (List ℕ) → Option (List ℕ) → Type 0
TakesAtMost most before now = (taken : List ℕ) × (length taken ≤ most) × (before ≡ with_front taken now)

-- a front of just this many bytes was taken
abbrev pub TakesExactly : ℕ → Option (List ℕ) → Option (List ℕ) → Type 0
TakesExactly count before now =
    (taken : List ℕ) × (length taken ≡ count) × (before ≡ with_front taken now)

-- these bytes are all that was left, and nothing is left now, where that is told
abbrev pub TakesAll : List ℕ → Option (List ℕ) → Option (List ℕ) → Type 0
TakesAll bytes None now = ⊤
TakesAll bytes (Some all) now = (bytes ≡ all) × (now ≡ Some [])
