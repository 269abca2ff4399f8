-- What is seen of the sources and of the sinks of a call.
use Rattle.std.specs.Prelude.{◌≡◌, ℕ, List, Option, Some, None, ⊤}
use Rattle.nomos_base.specs.Faults.{Rose}

-- the counts of faults of a source or a sink before a call and after it
pub record FaultCounts : Type 0 where
  pub before : ℕ
  pub after : ℕ

-- The source or sink failed during the call: its count of faults rose, or stands at its last value.
abbrev pub HaveRisen : FaultCounts → Type 0
HaveRisen c = Rose c.before c.after

-- a text that is read, and the counts of its source
pub record Input : Type 0 where
  pub text : List ℕ
  pub counts : FaultCounts

-- the text is what the source has left, where it tells that
abbrev pub HasText : Option (List ℕ) → List ℕ → Type 0
HasText None text = ⊤
HasText (Some left) text = text ≡ left

-- what a source has left at the begin of a call, where it tells that, and its counts
pub record SourceState : Type 0 where
  pub left : Option (List ℕ)
  pub counts : FaultCounts

-- a source that has this left, and these counts of faults before the call and after it
abbrev pub source_state : Option (List ℕ) → ℕ → ℕ → SourceState
source_state left before after = record { left = left; counts = record { before = before; after = after } }

-- The text that a source gives, with the counts of faults of that source.
abbrev pub input_of : SourceState → List ℕ → Input
input_of source text = record { text = text; counts = source.counts }

-- what the sink has got before the call and after it, where it tells that, and its counts
pub record SinkState : Type 0 where
  pub before : Option (List ℕ)
  pub after : Option (List ℕ)
  pub counts : FaultCounts

-- a sink that has got this before the call and after it, with these counts
abbrev pub sink_state : Option (List ℕ) → Option (List ℕ) → ℕ → ℕ → SinkState
sink_state before after failed fails =
    record { before = before; after = after; counts = record { before = failed; after = fails } }
