-- A mirror of the code that gathers options.
use Rattle.std.specs.Prelude.{◌≡◌, ℕ, List, Option, Some, None, codes, if◌then◌else◌}
use Rattle.std.specs.Option.{option_map}
use Rattle.std.specs.Str.{bytes_eq}
use Rattle.nomos_words.specs.Options.{AreOptions, option_value}
use Rattle.nomos_words.specs.declared.options.GivenOptions.{GivenOptions}

-- the value of each option, if it has one
pub record OptionValues : Type 0 where
  pub workers : Option (List ℕ)
  pub policy : Option (List ℕ)
  pub steps : Option (List ℕ)
  pub journal : Option (List ℕ)

abbrev pub option_values : GivenOptions → OptionValues
option_values given = record {
  workers = option_map (λ word. word.now) given.workers;
  policy = option_map (λ word. word.now) given.policy;
  steps = option_map (λ word. word.now) given.steps;
  journal = option_map (λ word. word.now) given.journal;
}

-- those of options
abbrev pub given_by : List (List ℕ × List ℕ) → OptionValues
given_by options = record {
  workers = option_value (codes "--workers") options;
  policy = option_value (codes "--policy") options;
  steps = option_value (codes "--steps") options;
  journal = option_value (codes "--journal") options;
}

-- the words are options that have these values
abbrev pub AreGiven : List (List ℕ) → OptionValues → Type 0
AreGiven words given = (options : List (List ℕ × List ℕ)) × AreOptions words options × (given ≡ given_by options)

-- these values, where there was none before
abbrev pub if_new : Option (List ℕ) → OptionValues → Option OptionValues
if_new (Some word) given = None
if_new None given = Some given

-- the values with one more
abbrev pub with_option : OptionValues → List ℕ → List ℕ → Option OptionValues
with_option given name value =
    if bytes_eq name (codes "--workers") then if_new given.workers (record given { workers = Some value })
    else if bytes_eq name (codes "--policy") then if_new given.policy (record given { policy = Some value })
    else if bytes_eq name (codes "--steps") then if_new given.steps (record given { steps = Some value })
    else if bytes_eq name (codes "--journal") then if_new given.journal (record given { journal = Some value })
    else None
