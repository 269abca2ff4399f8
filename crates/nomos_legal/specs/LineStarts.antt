-- How a line of a batch starts a process: what it is resolved to, or why it is refused.
use Rattle.std.specs.Prelude.{◌≡◌, ◌≤◌, ◌<◌, ℕ, ◌&&◌, Bool, false, not, is_some, List, [], ◌∷◌, Option, Some, None, Result, Ok, Err, position, bytes_eq, slice_get, slice_index}
use Rattle.nomos_ir.specs.Value.{Value}
use Rattle.nomos_ir.specs.ValueKind.{ValueHasKind}
use Rattle.nomos_ir.specs.declared.declaration.Par.{Par}
use Rattle.nomos_ir.specs.declared.declaration.ProcDecl.{ProcDecl}
use Rattle.nomos_ir.specs.declared.ids.TypeId.{TypeId}
use Rattle.nomos_ir.specs.declared.ids.VarId.{VarId}
use Rattle.nomos_ir.specs.declared.mode.Mode.{Mode}
use Rattle.nomos_ir.specs.declared.mode.Mode.TheVariants as mode
use Rattle.nomos_types.specs.Acceptance.{Acceptance}
use Rattle.nomos_types.specs.Amount.{dths}
use Rattle.nomos_machine.specs.Matching.{NameHasType}
use Rattle.nomos_script.specs.declared.item.Start.{Start}
use Rattle.nomos_legal.specs.Ledger.{LedgerState, account_of, shared_name}
use Rattle.nomos_legal.specs.declared.refusal.Refusal.{Refusal}
use Rattle.nomos_legal.specs.declared.refusal.Refusal.TheVariants as refusal
use Rattle.nomos_legal.specs.declared.resolved.Resolved.{Resolved}

-- ---- the declaration that a line wants

-- a line that names a contract wants mode S, another one mode T
abbrev pub has_mode : Bool → Mode → Bool
has_mode named mode.S = named
has_mode named mode.T = not named
has_mode named _ = false

-- whether a declaration is the one that a line wants: it has the name and the mode
abbrev pub is_wanted : Start → ProcDecl → Bool
is_wanted start d = bytes_eq d.name start.proc && has_mode (is_some start.contract) d.mode

-- ---- arguments

-- the two lists have one length, and what stands at one place is related
pub data OneEach {X Y : Type 0} (R : X → Y → Type 0) : List X → List Y → Type 0 where
  none : OneEach R [] []
  one : {x : X} {y : Y} {xs : List X} {ys : List Y} → R x y → OneEach R xs ys → OneEach R (x ∷ xs) (y ∷ ys)

-- The value fits the parameter: it has its kind. No value fits a list that carries potential.
pub record ValueFits (v : Value) (par : Par) : Type 0 where
  pub no_list : par.amount ≡ None
  pub kind : ValueHasKind v par.kind

-- The shared name is that of a contract, and its type is alike to that of the parameter; so this has mode S.
pub record ContractFits (a : Acceptance) (l : LedgerState) (name : List ℕ) (par : VarId × TypeId) (shared : ℕ)
    : Type 0 where
  pub found : shared_name l.contracts name ≡ Some shared
  pub alike : NameHasType a.program a.annotations l.state.types shared par.1

-- for each name and each parameter, in order, a shared name that fits
pub data ContractsFit (a : Acceptance) (l : LedgerState) : List (List ℕ) → List (VarId × TypeId) → List ℕ → Type 0 where
  none : ContractsFit a l [] [] []
  one : {name : List ℕ} {par : VarId × TypeId} {shared : ℕ} {names : List (List ℕ)} {pars : List (VarId × TypeId)}
      {others : List ℕ} → ContractFits a l name par shared → ContractsFit a l names pars others
      → ContractsFit a l (name ∷ names) (par ∷ pars) (shared ∷ others)

-- The arguments of the line fit the parameters of the declaration: its values, and its names, which stand for these
-- shared names.
pub record ArgumentsFit (a : Acceptance) (l : LedgerState) (start : Start) (d : ProcDecl) (shared : List ℕ) : Type 0
  where
    pub values : OneEach ValueFits start.values d.values
    pub names : ContractsFit a l start.names d.channels shared

-- ---- what a line comes to

-- the account that pays
abbrev pub IsPayer : LedgerState → Start → ℕ → Type 0
IsPayer l start payer = account_of l.accounts start.sender ≡ Some payer

-- the declaration of this number is the one that the line wants
pub record IsDeclaration (a : Acceptance) (start : Start) (number : ℕ) (d : ProcDecl) : Type 0 where
  pub first : position (is_wanted start) a.program.procs ≡ Some number
  pub there : slice_get a.program.procs number ≡ Some d

-- no contract has the name that the line gives, if it gives one
abbrev pub NameIsFree : LedgerState → Option (List ℕ) → Type 0
NameIsFree l (Some name) = shared_name l.contracts name ≡ None
NameIsFree l None = Unit {0}

-- what the line starts: a process of the declaration of this number, with these shared names, which this account pays
abbrev pub started_by : Start → ℕ → List ℕ → ℕ → Resolved
started_by start number shared payer = record {
  proc = record { 0 = number };
  values = start.values;
  names = shared;
  payer = payer;
  contract = start.contract;
}

-- What a line comes to in a ledger: a start, or the first cause, in the order of these rows, for which it is refused.
pub data Resolves (a : Acceptance) (l : LedgerState) (start : Start) : Result Resolved Refusal → Type 0 where
  no_account : account_of l.accounts start.sender ≡ None → Resolves a l start (Err (refusal.NoAccount start.sender))
  no_process : (payer : ℕ) → IsPayer l start payer → position (is_wanted start) a.program.procs ≡ None
      → Resolves a l start (Err (refusal.NoProcess start.proc))
  bad_arguments : (payer number : ℕ) (d : ProcDecl) → IsPayer l start payer → IsDeclaration a start number d
      → ((shared : List ℕ) → ¬ (ArgumentsFit a l start d shared))
      → Resolves a l start (Err (refusal.BadArguments start.proc))
  name_taken : (payer number : ℕ) (d : ProcDecl) (shared : List ℕ) (name : List ℕ) (contract : ℕ)
      → IsPayer l start payer
      → IsDeclaration a start number d → ArgumentsFit a l start d shared → start.contract ≡ Some name
      → shared_name l.contracts name ≡ Some contract → Resolves a l start (Err (refusal.NameTaken name))
  no_gas : (payer number : ℕ) (d : ProcDecl) (shared : List ℕ) → IsPayer l start payer → IsDeclaration a start number d
      → ArgumentsFit a l start d shared → NameIsFree l start.contract
      → slice_index l.state.balances payer < dths a.annotations d.amount
      → Resolves a l start
      (Err (refusal.NoGas start.sender (slice_index l.state.balances payer) (dths a.annotations d.amount)))
  starts : (payer number : ℕ) (d : ProcDecl) (shared : List ℕ) → IsPayer l start payer → IsDeclaration a start number d
      → ArgumentsFit a l start d shared → NameIsFree l start.contract
      → dths a.annotations d.amount ≤ slice_index l.state.balances payer
      → Resolves a l start
      (Ok (started_by start number shared payer))
