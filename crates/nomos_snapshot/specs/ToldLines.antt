-- What the code keeps of what lines told, and what a line more does.
use Rattle.std.specs.Prelude.{◌≡◌, ◌≢◌, ◌<◌, ◌≤◌, ◌↔◌, ◌^◌, ℕ, List, [], length, map, All, Bool, MatchBool, None, IfSome}
use Rattle.std.specs.List.Sorted.{IsStrictlySortedBy}
use Rattle.std.specs.Option.{option_map}
use Rattle.std.specs.Ordering.{nat_cmp}
use Rattle.nomos_ir.specs.declared.ids.VarId.{VarId}
use Rattle.nomos_contents.specs.Data.{state_of}
use Rattle.nomos_contents.specs.declared.data.StateData.{StateData}
use Rattle.nomos_legal.specs.Ledger.{LedgerState, account_of}
use Rattle.nomos_machine.specs.Objects.{object_number}
use Rattle.nomos_machine.specs.TypedState.{HasVariables}
use Rattle.nomos_machine.specs.declared.object.Object.{Object}
use Rattle.nomos_machine.specs.declared.object.Object.TheVariants as object
use Rattle.nomos_machine.specs.declared.object.PotentialList.{PotentialList}
use Rattle.nomos_machine.specs.declared.object.Process.{Process}
use Rattle.nomos_types.specs.Acceptance.{Acceptance}
use Rattle.nomos_snapshot.specs.GatheredLines.{Gathered, Goes, IsOverNames, IsOverObjects, IsOverVariables, Stand, behind, ledger_of}
use Rattle.nomos_snapshot.specs.declared.line.SnapshotLine.{SnapshotLine}
use Rattle.nomos_snapshot.specs.declared.ledger_parts.LedgerParts.{LedgerParts}
use Rattle.nomos_snapshot.specs.declared.told_lines.ToldList.{ToldList}
use Rattle.nomos_snapshot.specs.declared.told_lines.ToldObject.{ToldObject}
use Rattle.nomos_snapshot.specs.declared.told_lines.ToldObject.TheVariants as told_object
use Rattle.nomos_snapshot.specs.declared.told_lines.ToldProcess.{ToldProcess}
use Rattle.nomos_snapshot.specs.declared.gathered.Gathering.{Gathering}

-- ---- what is kept

abbrev pub list_told : ToldList → PotentialList
list_told l = record { amount = l.amount; items = l.items }

abbrev pub process_told : ToldProcess → Process
process_told p = record {
  pid = p.seen.pid;
  mode = p.seen.mode;
  code = p.seen.code;
  values = p.values.items;
  lists = map (λ e. (e.0, list_told e.1)) p.lists.items;
  channels = p.channels.items;
  offers = p.seen.offers;
  base = p.seen.base;
  purse = p.seen.purse;
  payer = p.seen.payer;
}

abbrev pub object_told : ToldObject → Object
object_told (told_object.Process p) = object.Process (process_told p)
object_told (told_object.Message m) = object.Message m

-- what was gathered
abbrev pub told : Gathering → Gathered
told g = record {
  ledger = record {
    accounts = g.accounts;
    contracts = g.contracts;
    deposits = 0;
    state = record {
      objects = map object_told g.objects.items;
      next_object = g.next_object;
      next_name = g.next_name;
      types = g.types.items;
      balances = g.balances.items;
      spent = g.spent;
      results = [];
      outside = [];
    };
  };
  process = option_map process_told g.process;
}

-- the ledger of these parts, without deposits
abbrev pub parts_ledger : LedgerParts → LedgerState
parts_ledger p = record {
  accounts = p.accounts;
  contracts = p.contracts;
  deposits = 0;
  state = state_of p.contents;
}

-- Objects, names and the variables of each process stand in order, each once, and there are fewer than 2^31 accounts.
pub record AreSorted (d : StateData) : Type 0 where
  pub objects : IsStrictlySortedBy nat_cmp (map object_number d.objects)
  pub table : IsStrictlySortedBy nat_cmp (map (λ t. t.0) d.types)
  pub variables : All HasVariables d.objects
  pub few : length d.balances < 2 ^ 31

-- ---- the least numbers that may follow

-- the variables that may follow are those from this number on
abbrev pub IsProcessKept : ToldProcess → Type 0
IsProcessKept p = (v : VarId) → IsOverVariables v (process_told p) ↔ (p.from ≤ v.0)

-- One balance for each account; and the numbers of objects, and the names, that may follow are those from these on.
pub record IsKept (g : Gathering) : Type 0 where
  pub even : length g.accounts ≡ length g.balances.items
  pub objects : (n : ℕ) → IsOverObjects n (ledger_of (told g)) ↔ (g.objects_from ≤ n)
  pub names : (n : ℕ) → IsOverNames n (told g).ledger ↔ (g.names_from ≤ n)
  pub variables : IfSome g.process IsProcessKept

-- Whether the variable's number is over those of the process, and which process has it too.
abbrev pub PutsBehind : VarId → (Process → Process) → ToldProcess → ToldProcess → Bool → Type 0
PutsBehind v change before after fits =
    MatchBool fits
    (IsOverVariables v (process_told before) × (process_told after ≡ change
    (process_told before)) × IsProcessKept after)
    (¬ (IsOverVariables v (process_told before)))

-- ---- steps

-- whether no account has this name
abbrev pub IsNewAccount : Gathering → List ℕ → Bool → Type 0
IsNewAccount g name fits =
    MatchBool fits (account_of g.accounts name ≡ None) (account_of g.accounts name ≢ None)

-- The process is one of the objects, and nothing else has changed.
pub record IsSettled (before after : Gathering) : Type 0 where
  pub told : told after ≡ record { ledger = ledger_of (told before); process = None }
  pub kept : IsKept after
  pub from : after.objects_from ≡ before.objects_from

-- ---- what a line does

-- the line may not stand there
abbrev pub CannotGo : Acceptance → Stand → SnapshotLine → Type 0
CannotGo a stand l = (next : Stand) → ¬ (Goes a stand l next)

-- Whether the line may stand behind what was gathered, and where it leads.
abbrev pub LeadsOn : SnapshotLine → Gathering → Gathering → Bool → Type 0
LeadsOn l before after fits = (a : Acceptance)
    → MatchBool fits (Goes a (behind (told before)) l (behind (told after)) × IsKept after)
    (CannotGo a (behind (told before)) l)
