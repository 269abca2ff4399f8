-- How batches are dealt to threads: by the account that sends them.
use Rattle.std.specs.Prelude.{ℕ, ◌%◌, List, [], ◌∷◌, ◌++◌, filter, map, if◌then◌else◌}
use Rattle.std.specs.List.{list_any, position_or_len}
use Rattle.std.specs.Str.{bytes_eq}
use Rattle.nomos_script.specs.declared.item.Start.{Start}
use Rattle.nomos_script.specs.declared.item.Batch.{Batch}
use Rattle.nomos_pool.specs.Gathering.{IsGathering}
use Rattle.nomos_pool.specs.declared.pool.Submission.{Submission}

-- the account that pays for the first of some starts
abbrev pub first_payer : List Start → List ℕ
first_payer [] = []
first_payer (start ∷ starts) = start.sender

-- the account that sends a batch
abbrev pub account_name : Batch → List ℕ
account_name batch = first_payer batch.starts

-- names, and behind them one more, unless it is among them
abbrev pub with_name : List (List ℕ) → List ℕ → List (List ℕ)
with_name names name = if list_any (λ n. bytes_eq name n) names then names else names ++ name ∷ []

-- the same of the accounts that send these batches, one after the other
abbrev pub with_accounts : List (List ℕ) → List Batch → List (List ℕ)
with_accounts names [] = names
with_accounts names (batch ∷ batches) = with_accounts (with_name names (account_name batch)) batches

-- the accounts that send batches, each once, in the order in which they first appear
abbrev pub account_names : List Batch → List (List ℕ)
account_names batches = with_accounts [] batches

-- the thread of n that submits what an account sends: the place of its name among these, modulo n
abbrev pub thread_of : ℕ → List (List ℕ) → List ℕ → ℕ
thread_of n names name = position_or_len (λ m. bytes_eq m name) names % n

-- of each batch its thread
abbrev pub threads_of : ℕ → List Batch → List ℕ
threads_of n batches = map (λ batch. thread_of n (account_names batches) (account_name batch)) batches

-- batches are gathered fairly from n threads: of each thread what is dealt to it, in the order of the script, each once
abbrev pub IsFairGathering : ℕ → List Batch → List (Submission Batch) → Type 0
IsFairGathering n batches gathered = IsGathering n (threads_of n batches) batches gathered

-- what an account sends, in the order in which it stands
abbrev pub sent_by_account : List ℕ → List Batch → List Batch
sent_by_account name batches = filter (λ batch. bytes_eq (account_name batch) name) batches
