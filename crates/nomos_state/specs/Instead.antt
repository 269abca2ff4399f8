-- What is kept of a message that uses one name instead of another.
use Rattle.std.specs.Prelude.{ℕ, if◌then◌else◌}
use Rattle.std.specs.Option.{option_map}
use Rattle.nomos_deeds.specs.declared.sight.SeenPayload.{SeenPayload}
use Rattle.nomos_deeds.specs.declared.sight.SeenPayload.TheVariants as seen
use Rattle.nomos_machine.specs.Revised.{renamed}
use Rattle.nomos_state.specs.declared.kept.KeptMessage.{KeptMessage}

-- what it brings
abbrev pub brings_instead : ℕ → ℕ → SeenPayload → SeenPayload
brings_instead old new (seen.Channel name) = seen.Channel (renamed old new name)
brings_instead old new brought = brought

-- the other end of its talk, and what it brings; what it provides stays
abbrev pub kept_instead : ℕ → ℕ → KeptMessage → KeptMessage
kept_instead old new k = record k {
  from = if k.to_client then k.from else renamed old new k.from;
  next = if k.to_client then option_map (renamed old new) k.next else k.next;
  brings = brings_instead old new k.brings;
}
