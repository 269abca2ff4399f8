-- What threads submit is gathered fairly.
use Rattle.std.specs.Prelude.{◌≡◌, ◌≢◌, ℕ, List, [], ◌∷◌, Some, None, Ok, IsSome}
use Rattle.std.specs.List.{flat_map}
use Rattle.nomos_pool.specs.Dealing.{sent_by_account}
use Rattle.nomos_pool.specs.Pooled.{PoolsTo}
use Rattle.nomos_script.specs.ScriptReading.{ReadsAs}
use Rattle.nomos_script.specs.declared.item.Batch.{Batch}
use Rattle.nomos_script.specs.declared.item.ScriptItem.{ScriptItem}
use Rattle.nomos_script.specs.declared.item.ScriptItem.TheVariants as item
use Rattle.nomos_top.specs.Seen.{Call, Texts, IsDone}
use Rattle.nomos_top.specs.Tasks.{IsPooled}
use Rattle.nomos_words.specs.Words.{Task, pool, Asks}

-- the batch of an item, if it is one
abbrev pub batches_in : ScriptItem → List Batch
batches_in (item.Batch batch) = batch ∷ []
batches_in _ = []

-- what an account sends by items, in the order in which it stands
abbrev pub sent_in : List ℕ → List ScriptItem → List Batch
sent_in name items = sent_by_account name (flat_map batches_in items)

-- What was taken of a script: its first items as they read, and then what each thread submits, in its order, each once,
-- and nothing else.
pub record IsTaken (t : Texts) (threads : ℕ) (taken : List ScriptItem) : Type 0 where
  pub items : List ScriptItem
  pub reads : ReadsAs t.script items
  pub fair : PoolsTo threads items (Ok taken)
  -- so what an account sends stands in it as it stands in the script, in that order, each once
  pub accounts : (name : List ℕ) → sent_in name taken ≡ sent_in name items

pub record GathersFairly (c : Call) (t : Texts) : Type 0 where
  pub fair : (file script : List ℕ) (threads : ℕ) (taken : List ScriptItem) → Asks c.words (pool file script threads)
      → c.taken ≡ Some taken → IsTaken t threads taken
  -- it is given where the report was written; with 6 where it was due, and with 7 once all was gathered; otherwise not
  pub given : (file script : List ℕ) (threads : ℕ) → Asks c.words (pool file script threads) → IsDone c.status
      → IsSome c.taken
  pub nothing : ¬ (IsDone c.status) → c.status ≢ 6 → c.status ≢ 7 → c.taken ≡ None
  pub others : (task : Task) → Asks c.words task → ¬ (IsPooled task) → c.taken ≡ None
