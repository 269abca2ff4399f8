-- The options behind `run FILE SCRIPT`: each is a name, and behind it the word that is its value.
use Rattle.std.specs.Prelude.{◌≡◌, ◌≢◌, ◌<◌, ◌≤◌, ℕ, List, [], ◌∷◌, All, AllPairs, Option, Some, None, codes, decimal}
use Rattle.std.specs.List.{Contains}
use Rattle.std.specs.Map.{lookup}
use Rattle.std.specs.Str.{bytes_eq}
use Rattle.nomos_machine.specs.declared.policy.Policy.{Policy}
use Rattle.nomos_machine.specs.declared.policy.Policy.TheVariants.{First, Round}
use Rattle.nomos_words.specs.declared.workers.Workers.{Workers}
use Rattle.nomos_words.specs.declared.workers.Workers.TheVariants.{One, Many}

-- The names that an option of `run` may have: workers, policy, steps and journal.
abbrev pub option_names : List (List ℕ)
option_names = codes "--workers" ∷ codes "--policy" ∷ codes "--steps" ∷ codes "--journal" ∷ []

-- names and values as they stand in the words
abbrev pub option_words : List (List ℕ × List ℕ) → List (List ℕ)
option_words [] = []
option_words (option ∷ options) = option.0 ∷ option.1 ∷ option_words options

-- the words are these options, which may stand in any order, each at most once
pub record AreOptions (words : List (List ℕ)) (options : List (List ℕ × List ℕ)) : Type 0 where
  pub are : words ≡ option_words options
  pub known : All (λ option. Contains option_names option.0) options
  pub once : AllPairs (λ one other. one.0 ≢ other.0) options

-- the value behind a name, if the name stands there
abbrev pub option_value : List ℕ → List (List ℕ × List ℕ) → Option (List ℕ)
option_value name options = lookup (bytes_eq name) options

-- a file word is not empty and does not begin with `-`
abbrev pub IsFileWord : List ℕ → Type 0
IsFileWord [] = ⊥
IsFileWord (b ∷ word) = b ≢ 45

-- a word is a number from 1 to the most that is allowed, in decimal without leading zeros
abbrev pub IsCount : ℕ → List ℕ → ℕ → Type 0
IsCount most word n = (1 ≤ n) × (n ≤ most) × (word ≡ decimal n)

-- the value of an option is such a number; where the option is missing, this one stands for it
abbrev pub IsCountOr : ℕ → ℕ → Option (List ℕ) → ℕ → Type 0
IsCountOr missing most None n = n ≡ missing
IsCountOr missing most (Some word) n = IsCount most word n

-- the word for a policy
abbrev pub policy_word : Policy → List ℕ
policy_word First = codes "first"
policy_word Round = codes "round"

-- the policy of `--policy`, which is `first` where the option is missing
abbrev pub IsPolicy : Option (List ℕ) → Policy → Type 0
IsPolicy None policy = policy ≡ First
IsPolicy (Some word) policy = word ≡ policy_word policy

-- the workers of `--workers`, from 1 to 16, and of `--policy`, which stands only with one worker; there is one worker
-- where the former is missing
abbrev pub AreWorkers : Option (List ℕ) → Option (List ℕ) → Workers → Type 0
AreWorkers count policy_given (One policy) = IsCountOr 1 16 count 1 × IsPolicy policy_given policy
AreWorkers count policy_given (Many n) = IsCountOr 1 16 count n × (1 < n) × (policy_given ≡ None)

-- the most firings of a batch where nothing else is said
abbrev pub usual_limit : ℕ
usual_limit = 1000000

-- the most firings of a batch, of `--steps`
abbrev pub AreSteps : Option (List ℕ) → ℕ → Type 0
AreSteps steps_given n = IsCountOr usual_limit 10000000 steps_given n
