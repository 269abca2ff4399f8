-- What objects do with names, part by part.
use Rattle.std.specs.Prelude.{ℕ, List, [], ◌∷◌, ◌++◌}
use Rattle.std.specs.Option.{option_to_list}
use Rattle.nomos_deeds.specs.declared.sight.SeenProcess.{SeenProcess}
use Rattle.nomos_state.specs.declared.mentions.MessageNames.{MessageNames}
use Rattle.nomos_state.specs.declared.tally.NameUse.{NameUse}
use Rattle.nomos_state.specs.declared.tally.NameUse.TheVariants as doing

-- what a process does with names by its plain fields
abbrev pub fields_seen : SeenProcess → NameUse → List ℕ
fields_seen x doing.Provides = x.offers ∷ []
fields_seen x doing.Uses = []
fields_seen x doing.Bases = option_to_list x.base

-- what a message does with the names that it mentions
abbrev pub names_used : MessageNames → NameUse → List ℕ
names_used names doing.Provides = option_to_list names.provides
names_used names doing.Uses = option_to_list names.end ++ option_to_list names.brings
names_used names doing.Bases = []
