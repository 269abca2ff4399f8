-- Which journals of a script are legal: one walk over its items, along which all that is said of a journal goes.
use Rattle.std.specs.Prelude.{◌≡◌, ℕ, ◌+◌, ◌-◌, ◌≤◌, min, List, [], ◌∷◌, length, map, All, Option, Some, None, sum_by}
use Rattle.std.specs.List.{flat_map}
use Rattle.std.specs.Option.{option_to_list}
use Rattle.nomos_types.specs.Acceptance.{Acceptance}
use Rattle.nomos_machine.specs.Policies.{IsRunOf, IsChosenAfter}
use Rattle.nomos_machine.specs.declared.policy.Policy.{Policy}
use Rattle.nomos_script.specs.declared.item.ScriptItem.{ScriptItem}
use Rattle.nomos_legal.specs.Ledger.{LedgerState, empty_ledger}
use Rattle.nomos_legal.specs.Passage.{Passage, IsPassage}
use Rattle.nomos_legal.specs.declared.journal.End.{End}
use Rattle.nomos_legal.specs.declared.journal.End.TheVariants as end
use Rattle.nomos_legal.specs.declared.journal.Entry.{Entry}
use Rattle.nomos_legal.specs.declared.journal.Journal.{Journal}

-- ---- the walk

-- the most firings of all batches of a script
abbrev pub max_firings : ℕ
max_firings = 20000000

-- the most firings of the next batch, where one batch may make so many and so many were made already
abbrev pub batch_limit : ℕ → ℕ → ℕ
batch_limit limit made = min limit (max_firings - made)

-- the firings of an entry, if there is one
abbrev pub firings_in : Option Entry → List ℕ
firings_in (Some entry) = entry.firings
firings_in None = []

-- Where so many firings were made before, these passages lead from the one ledger to the other: each begins where the
-- one before it ended.
pub data Leads (a : Acceptance) (limit : ℕ) : ℕ → LedgerState → List Passage → LedgerState → Type 0 where
  done : (made : ℕ) (l : LedgerState) → Leads a limit made l [] l
  passes : (made : ℕ) (p : Passage) (ps : List Passage) (last : LedgerState) → IsPassage a (batch_limit limit made) p
      → Leads a limit (made + length (firings_in p.entry)) p.after ps last → Leads a limit made p.before (p ∷ ps) last

-- the entries of passages
abbrev pub entries_of : List Passage → List Entry
entries_of ps = flat_map (λ p. option_to_list p.entry) ps

-- how many firings entries have
abbrev pub firings_made : List Entry → ℕ
firings_made entries = sum_by (λ e. length e.firings) entries

-- ---- legal journals

-- a batch may make 1 to 10,000,000 firings
pub record IsLimit (limit : ℕ) : Type 0 where
  pub some : 1 ≤ limit
  pub few : limit ≤ 10000000

-- The passages are what became of these items by this journal: from the first ledger they lead to the last one.
pub record TellsFrom (a : Acceptance) (first : LedgerState) (items : List ScriptItem) (journal : Journal)
    (ps : List Passage) (last : LedgerState) : Type 0 where
  pub limit : IsLimit journal.limit
  pub items_are : map (λ p. p.item) ps ≡ items
  pub entries_are : entries_of ps ≡ journal.entries
  pub leads : Leads a journal.limit 0 first ps last

-- the same from the empty ledger
abbrev pub Tells : Acceptance → List ScriptItem → Journal → List Passage → LedgerState → Type 0
Tells a items journal ps last = TellsFrom a empty_ledger items journal ps last

-- A journal of these items is legal from the first ledger: it tells what became of them.
pub record IsLegalFrom (a : Acceptance) (first : LedgerState) (items : List ScriptItem) (journal : Journal) : Type 0
  where
    pub passages : List Passage
    pub last : LedgerState
    pub tells : TellsFrom a first items journal passages last

-- from the empty ledger
abbrev pub IsLegal : Acceptance → List ScriptItem → Journal → Type 0
IsLegal a items journal = IsLegalFrom a empty_ledger items journal

-- ---- policies

-- the process that an end names is one that is chosen
abbrev pub Aborts : (ℕ → Type 0) → End → Type 0
Aborts P (end.Aborted pid f) = P pid
Aborts P _ = Unit {0}

-- the firings of a passage are those that the policy chooses, and so is the process with whose fault it ends
abbrev pub PassesBy : Policy → Acceptance → Passage → Option Entry → Type 0
PassesBy policy a p None = Unit {0}
PassesBy policy a p (Some entry) =
    IsRunOf policy a p.start.state entry.firings p.last
    × Aborts (IsChosenAfter policy a p.start.state entry.firings p.last) entry.end

-- in all passages
abbrev pub FollowPolicy : Policy → Acceptance → List Passage → Type 0
FollowPolicy policy a ps = All (λ p. PassesBy policy a p p.entry) ps
