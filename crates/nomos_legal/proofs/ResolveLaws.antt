-- What a line of a batch is resolved to can be started.
use Rattle.std.proofs.Common.{◌≡◌, ◌⊎◌, ℕ, ◌≤◌, ◌&&◌, Bool, true, false, cond, is_some, List, [], ◌∷◌, map, find, All, Option, Some, None, Ok, slice_index, inl, inr, subst, refl, sym, arith}
use Rattle.std.specs.List.{zip}
use Rattle.std.specs.Option.{option_map}
use Rattle.std.specs.Str.{bytes_eq}
use Rattle.std.proofs.lemmas.List.Elements.{All-nil, All-cons, All-head, All-tail}
use Rattle.std.proofs.lemmas.List.Quantifiers.{position-Some}
use Rattle.std.proofs.lemmas.Option.{get_or_from_slice_get}
use Rattle.nomos_ir.specs.Paired.{PairedInOrder}
use Rattle.nomos_ir.specs.Paired as paired
use Rattle.nomos_ir.specs.Value.{Value}
use Rattle.nomos_ir.specs.declared.declaration.Par.{Par}
use Rattle.nomos_ir.specs.declared.declaration.ProcDecl.{ProcDecl}
use Rattle.nomos_ir.specs.declared.ids.TypeId.{TypeId}
use Rattle.nomos_ir.specs.declared.ids.VarId.{VarId}
use Rattle.nomos_ir.specs.declared.mode.Mode.{Mode}
use Rattle.nomos_ir.specs.declared.mode.Mode.TheVariants as mode
use Rattle.nomos_types.specs.Acceptance.{Acceptance}
use Rattle.nomos_types.specs.Amount.{Annotations, dths}
use Rattle.nomos_machine.specs.Matching.{NameHasType}
use Rattle.nomos_machine.specs.Starting as given
use Rattle.nomos_machine.specs.Starting.{FitValues, GivenFits, CanStart, CanStartWith, value_bindings, channel_bindings}
use Rattle.nomos_machine.specs.State.{State}
use Rattle.nomos_machine.specs.TypedState.{IsContractName}
use Rattle.nomos_script.specs.declared.item.Start.{Start}
use Rattle.nomos_legal.specs.Ledger.{Contracts, LedgerState, IsLedger, shared_name}
use Rattle.nomos_legal.specs.LineStarts.{OneEach, ValueFits, ContractFits, ContractsFit, ArgumentsFit, IsPayer, IsDeclaration, NameIsFree, Resolves, started_by, has_mode, is_wanted}
use Rattle.nomos_legal.specs.LineStarts as line
use Rattle.nomos_legal.specs.StandsFor.{NamesBalances, IsSettled}
use Rattle.nomos_legal.specs.declared.resolved.Resolved.{Resolved}
use Rattle.nomos_legal.proofs.SettledLaws.{account-within}

-- ---- what holds of a line that starts

-- what the line was resolved by
pub record ResolvedBy (a : Acceptance) (l : LedgerState) (start : Start) (r : Resolved) : Type 0 where
  pub payer : ℕ
  pub number : ℕ
  pub declaration : ProcDecl
  pub shared : List ℕ
  pub pays : IsPayer l start payer
  pub declared : IsDeclaration a start number declaration
  pub fits : ArgumentsFit a l start declaration shared
  pub free : NameIsFree l start.contract
  pub has : dths a.annotations declaration.amount ≤ slice_index l.state.balances payer
  pub is : r ≡ started_by start number shared payer

pub resolved-by : {a : Acceptance} {l : LedgerState} {start : Start} {r : Resolved} → Resolves a l start (Ok r)
    → ResolvedBy a l start r
resolved-by (line.starts payer number d shared pays declared fits free has) = record {
  payer = payer;
  number = number;
  declaration = d;
  shared = shared;
  pays = pays;
  declared = declared;
  fits = fits;
  free = free;
  has = has;
  is = refl;
}

-- ---- its mode

and-both : (a b : Bool) → (a && b) ≡ true → (a ≡ true) × (b ≡ true)
and-both true b e = (refl, e)
and-both false b e = absurd cc

-- the mode that a line wants is S or T
wanted-mode : (named : Bool) (m : Mode) → has_mode named m ≡ true → (m ≡ mode.S) ⊎ (m ≡ mode.T)
wanted-mode named mode.S e = inl refl
wanted-mode named mode.T e = inr refl
wanted-mode named mode.R e = absurd cc
wanted-mode named mode.L e = absurd cc

-- and S where it names a contract
wanted-s : (name : Option (List ℕ)) (m : Mode) → has_mode (is_some name) m ≡ true → (n : List ℕ) → name ≡ Some n
    → m ≡ mode.S
wanted-s (Some n) mode.S e k is = refl
wanted-s (Some n) mode.T e k is = absurd cc
wanted-s (Some n) mode.R e k is = absurd cc
wanted-s (Some n) mode.L e k is = absurd cc
wanted-s None m e k is = absurd cc

declared-mode : {a : Acceptance} {start : Start} {number : ℕ} {d : ProcDecl} → IsDeclaration a start number d
    → has_mode (is_some start.contract) d.mode ≡ true
declared-mode {a} {start} {number} {d} declared =
    let first = (position-Some (is_wanted start) a.program.procs number d declared.first).1 in
    let wanted : is_wanted start d ≡ true =
    subst (λ (x : ProcDecl). is_wanted start x ≡ true) (get_or_from_slice_get a.program.procs number d d declared.there)
    first in
    (and-both (bytes_eq d.name start.proc) (has_mode (is_some start.contract) d.mode) wanted).1

-- the declaration has mode S where the line names a contract
pub declared-s : {a : Acceptance} {start : Start} {number : ℕ} {d : ProcDecl} → IsDeclaration a start number d
    → (name : List ℕ) → start.contract ≡ Some name → d.mode ≡ mode.S
declared-s {a} {start} {number} {d} declared name is = wanted-s start.contract d.mode (declared-mode declared) name is

-- ---- its arguments

-- a value of its kind for each parameter, and no list
fit-values : (x : Annotations) {values : List Value} {pars : List Par} → OneEach ValueFits values pars
    → FitValues x (zip (map (λ par. par.var) pars) values) [] pars
fit-values x line.none = given.none
fit-values x (line.one {x = v} fits others) = given.value v fits.no_list fits.kind (fit-values x others)

-- a name that fits for each channel
fit-channels : {a : Acceptance} {l : LedgerState} {names : List (List ℕ)} {pars : List (VarId × TypeId)}
    {shared : List ℕ} → ContractsFit a l names pars shared
    → PairedInOrder (NameHasType a.program a.annotations l.state.types) (zip (map (λ par. par.0) pars) shared) pars
fit-channels line.none = paired.none
fit-channels (line.one {par = par} fits others) = paired.pair par.0 fits.alike (fit-channels others)

-- what holds of each contract holds of the one that is found
pub found-contract : {a : Acceptance} {s : State} (contracts : Contracts) (name : List ℕ) (shared : ℕ)
    → All (λ c. IsContractName a s c.1) contracts → shared_name contracts name ≡ Some shared
    → IsContractName a s shared
found-contract [] name shared all found = absurd cc
found-contract {a} {s} (c ∷ cs) name shared all found =
    at (bytes_eq c.0 name) found (λ is. found-contract cs name shared (All-tail IsOne c cs all) is)
  where
    IsOne : List ℕ × ℕ → Type 0
    IsOne d = IsContractName a s d.1

    others : Option (List ℕ × ℕ)
    others = find (λ (d : List ℕ × ℕ). bytes_eq d.0 name) cs

    at : (t : Bool) → option_map (λ (d : List ℕ × ℕ). d.1) (cond t (Some c) others) ≡ Some shared
        → (option_map (λ (d : List ℕ × ℕ). d.1) others ≡ Some shared → IsContractName a s shared)
        → IsContractName a s shared
    at true is rest = let same : c.1 ≡ shared = cc in subst (IsContractName a s) same (All-head IsOne c cs all)
    at false is rest = rest is

-- each name that fits is that of a contract
fit-contracts : {a : Acceptance} {l : LedgerState} {names : List (List ℕ)} {pars : List (VarId × TypeId)}
    {shared : List ℕ} → All (λ c. IsContractName a l.state c.1) l.contracts → ContractsFit a l names pars shared
    → All (λ e. IsContractName a l.state e.1) (zip (map (λ par. par.0) pars) shared)
fit-contracts {a} {l} contracts line.none = All-nil (λ (e : VarId × ℕ). IsContractName a l.state e.1)
fit-contracts {a} {l} contracts (line.one {name = name} {par = par} {shared = shared} fits others) =
    All-cons (λ (e : VarId × ℕ). IsContractName a l.state e.1) (par.0, shared) _
    (found-contract l.contracts name shared contracts fits.found) (fit-contracts contracts others)

-- ---- the start

module _ {a : Acceptance} {l : LedgerState} (settled : IsSettled a l) (counted : NamesBalances l) {start : Start}
    {r : Resolved} (by : ResolvedBy a l start r) where
  by-can : CanStart a l.state by.declaration (value_bindings by.declaration start.values)
      (channel_bindings by.declaration by.shared) by.payer
  by-can = record {
    fits = record {
      values = fit-values a.annotations by.fits.values;
      channels = fit-channels by.fits.names;
    };
    contracts = fit-contracts settled.contracts by.fits.names;
    account = omega (arith, account-within l.accounts start.sender by.payer by.pays, counted);
    has = by.has;
  }

  by-can_start : CanStartWith a l.state r.proc.0 r.values r.names r.payer
  by-can_start =
      subst (λ (x : Resolved). CanStartWith a l.state x.proc.0 x.values x.names x.payer) (sym by.is) (record {
        declaration = by.declaration;
        declared = by.declared.there;
        its_mode = wanted-mode (is_some start.contract) by.declaration.mode (declared-mode by.declared);
        can = by-can;
      })

-- what a line of a settled ledger is resolved to can be started
pub counted-can_start : {a : Acceptance} {l : LedgerState} {start : Start} {r : Resolved} → IsSettled a l
    → NamesBalances l → Resolves a l start (Ok r) → CanStartWith a l.state r.proc.0 r.values r.names r.payer
counted-can_start settled counted resolves = by-can_start settled counted (resolved-by resolves)

pub resolves-can_start : {a : Acceptance} {l : LedgerState} {start : Start} {r : Resolved} → IsSettled a l → IsLedger l
    → Resolves a l start (Ok r) → CanStartWith a l.state r.proc.0 r.values r.names r.payer
resolves-can_start settled ledger resolves = counted-can_start settled ledger.each_account resolves
