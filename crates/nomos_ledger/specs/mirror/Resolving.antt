-- A mirror of the code: what the steps answer by which a line is resolved.
use Rattle.std.specs.Prelude.{◌≡◌, ◌⊎◌, ◌<◌, ◌≤◌, ℕ, All, List, Option, Some, None, Result, Ok, Err, position, slice_get, slice_index}
use Rattle.nomos_ir.specs.declared.declaration.ProcDecl.{ProcDecl}
use Rattle.nomos_ir.specs.declared.ids.ProcId.{ProcId}
use Rattle.nomos_ir.specs.declared.ids.TypeId.{TypeId}
use Rattle.nomos_ir.specs.declared.ids.VarId.{VarId}
use Rattle.nomos_ir.specs.declared.lists.ProgramLists.{ProgramLists}
use Rattle.nomos_ir.specs.declared.mode.Mode.{Mode}
use Rattle.nomos_ir.specs.declared.or_no_memory.OrNoMemory.{OrNoMemory}
use Rattle.nomos_ir.specs.declared.or_no_memory.OrNoMemory.TheVariants as stop
use Rattle.nomos_types.specs.Acceptance.{Acceptance}
use Rattle.nomos_types.specs.Amount.{dths}
use Rattle.nomos_types.specs.Modes.{HasMode}
use Rattle.nomos_script.specs.declared.item.Start.{Start}
use Rattle.nomos_legal.specs.Ledger.{LedgerState, account_of, shared_name}
use Rattle.nomos_legal.specs.LineStarts.{ArgumentsFit, NameIsFree, is_wanted}
use Rattle.nomos_legal.specs.declared.refusal.Refusal.{Refusal}
use Rattle.nomos_legal.specs.declared.refusal.Refusal.TheVariants as refusal
use Rattle.nomos_ledger.specs.declared.resolving.ResolvedLine.{ResolvedLine}

-- what is asked of an answer holds of it, unless memory ran out
abbrev pub IfAnswered : {X E : Type 0} → Result X (OrNoMemory E) → (Result X E → Type 0) → Type 0
IfAnswered (Ok x) P = P (Ok x)
IfAnswered (Err (stop.Answer e)) P = P (Err e)
IfAnswered (Err stop.NoMemory) P = Unit {0}

-- the account that pays, or that the sender has none
abbrev pub FindsPayer : List (List ℕ) → Start → Result ℕ Refusal → Type 0
FindsPayer accounts start (Ok payer) = account_of accounts start.sender ≡ Some payer
FindsPayer accounts start (Err r) = (account_of accounts start.sender ≡ None) × (r ≡ refusal.NoAccount start.sender)

-- the declaration that the line wants, or that there is none
abbrev pub FindsDeclaration : List ProcDecl → Start → Result ProcId Refusal → Type 0
FindsDeclaration procs start (Ok proc) = position (is_wanted start) procs ≡ Some proc.0
FindsDeclaration procs start (Err r) = (position (is_wanted start) procs ≡ None) × (r ≡ refusal.NoProcess start.proc)

-- the type of each channel parameter has a mode
abbrev pub HaveModes : ProgramLists → List (VarId × TypeId) → Type 0
HaveModes lists pars = All (λ par. (m : Mode) × HasMode lists par.1 m) pars

-- no contract has the name that the line gives, or one has it
abbrev pub FreesName : LedgerState → Option (List ℕ) → Result (Unit {0}) Refusal → Type 0
FreesName l contract (Ok u) = NameIsFree l contract
FreesName l contract (Err r) =
    (name : List ℕ) × (shared : ℕ) × (contract ≡ Some name) × (shared_name l.contracts name ≡ Some shared)
    × (r ≡ refusal.NameTaken name)

-- the sender has what is needed, or less
abbrev pub HasGas : Start → ℕ → ℕ → Result (Unit {0}) Refusal → Type 0
HasGas start has needs (Ok u) = needs ≤ has
HasGas start has needs (Err r) = (has < needs) × (r ≡ refusal.NoGas start.sender has needs)

-- shared names for which the arguments of the line fit the parameters of the declaration, or that there are none
abbrev pub FindsNames : Acceptance → LedgerState → Start → ProcDecl → Result (List ℕ) Refusal → Type 0
FindsNames a l start d (Ok shared) = ArgumentsFit a l start d shared
FindsNames a l start d (Err r) =
    ((shared : List ℕ) → ¬ (ArgumentsFit a l start d shared)) × (r ≡ refusal.BadArguments start.proc)

-- what the account that pays has
abbrev pub held_by : LedgerState → ResolvedLine → ℕ
held_by l found = slice_index l.state.balances found.payer

-- The name is free and the payer has what the declaration needs; or the name is taken; or it is free, and the payer
-- has less.
abbrev pub PassesRest : Acceptance → LedgerState → Start → ResolvedLine → Result (Unit {0}) Refusal → Type 0
PassesRest a l start found (Ok u) =
    NameIsFree l start.contract
    × ((d : ProcDecl) → slice_get a.program.procs found.proc.0 ≡ Some d
    → dths a.annotations d.amount ≤ held_by l found)
PassesRest a l start found (Err r) =
    FreesName l start.contract (Err r)
    ⊎ (NameIsFree l start.contract
    × ((d : ProcDecl) → slice_get a.program.procs found.proc.0 ≡ Some d
    → HasGas start (held_by l found) (dths a.annotations d.amount) (Err r)))
