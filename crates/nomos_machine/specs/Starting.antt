-- Accounts, and the start of a process by a line of a script.
use Rattle.std.specs.Prelude.{◌≡◌, ◌<◌, ◌≤◌, ◌⊎◌, ℕ, List, [], ◌∷◌, ◌++◌, map, length, All, Option, Some, None, slice_get, slice_index}
use Rattle.std.specs.List.{zip}
use Rattle.nomos_ir.specs.Paired.{PairedInOrder}
use Rattle.nomos_ir.specs.Value.{Value}
use Rattle.nomos_ir.specs.ValueKind.{ValueHasKind}
use Rattle.nomos_ir.specs.declared.amount.Amount.{Amount}
use Rattle.nomos_ir.specs.declared.declaration.Par.{Par}
use Rattle.nomos_ir.specs.declared.declaration.ProcDecl.{ProcDecl}
use Rattle.nomos_ir.specs.declared.ids.VarId.{VarId}
use Rattle.nomos_ir.specs.declared.mode.Mode.TheVariants as mode
use Rattle.nomos_types.specs.Acceptance.{Acceptance}
use Rattle.nomos_types.specs.Amount.{Annotations, dths}
use Rattle.nomos_machine.specs.Change.{Change, made, changed, no_change}
use Rattle.nomos_machine.specs.Given.{Given, begins}
use Rattle.nomos_machine.specs.Matching.{NameHasType, IsListOf}
use Rattle.nomos_machine.specs.Optional.{◌>>=◌}
use Rattle.nomos_machine.specs.State.{State, NameTypes}
use Rattle.nomos_machine.specs.TypedState.{IsContractName}
use Rattle.nomos_machine.specs.declared.object.Object.TheVariants as object
use Rattle.nomos_machine.specs.declared.object.PotentialList.{PotentialList}

-- ---- accounts

-- one more account, with this balance in Dths
abbrev pub opened : State → ℕ → State
opened s gas = record s { balances = s.balances ++ gas ∷ [] }

-- an account has so much more, in Dths
abbrev pub credits : State → ℕ → ℕ → Change
credits s account gas = record (no_change s) { gets = Some (account, gas) }

-- the state in which an account has so much more
abbrev pub credited : State → ℕ → ℕ → State
credited s account gas = made s (credits s account gas)

-- nothing was emitted
abbrev pub cleared : State → State
cleared s = record s { results = [] }

-- ---- starts

-- For each parameter in order there is a value of its kind, or a list of its element kind and amount.
pub data FitValues (x : Annotations) : List (VarId × Value) → List (VarId × PotentialList) → List Par → Type 0 where
  none : FitValues x [] [] []
  value : {values : List (VarId × Value)} {its_lists : List (VarId × PotentialList)} {par : Par} {pars : List Par}
      → (v : Value) → par.amount ≡ None → ValueHasKind v par.kind → FitValues x values its_lists pars
      → FitValues x ((par.var, v) ∷ values) its_lists (par ∷ pars)
  list : {values : List (VarId × Value)} {its_lists : List (VarId × PotentialList)} {par : Par} {pars : List Par}
      → (l : PotentialList) (amount : Amount) → par.amount ≡ Some amount
      → IsListOf l (record { kind = par.kind; amount = dths x amount }) → FitValues x values its_lists pars
      → FitValues x values ((par.var, l) ∷ its_lists) (par ∷ pars)

-- What is given fits the parameters of a declaration: values and lists, and names of types that are alike to those of
-- the channels.
pub record GivenFits (a : Acceptance) (types : NameTypes) (d : ProcDecl) (g : Given) : Type 0 where
  pub values : FitValues a.annotations g.values g.lists d.values
  pub channels : PairedInOrder (NameHasType a.program a.annotations types) g.channels d.channels

-- A line of a script can start a process: its values and channels fit the parameters, of which none is a list; the
-- channels are contracts; and the payer's account has the declared potential.
pub record CanStart (a : Acceptance) (s : State) (d : ProcDecl) (values : List (VarId × Value))
    (channels : List (VarId × ℕ)) (payer : ℕ) : Type 0 where
  pub fits : GivenFits a s.types d (record { values = values; lists = []; channels = channels })
  pub contracts : All (λ e. IsContractName a s e.1) channels
  pub account : payer < length s.balances
  pub has : dths a.annotations d.amount ≤ slice_index s.balances payer

-- A process of the declaration comes, with these values and channels for its parameters; no line of a script has a list
-- that carries potential. It offers the next name, and its declared potential comes from its payer's account.
abbrev pub starts : Acceptance → State → ProcDecl → List (VarId × Value) → List (VarId × ℕ) → ℕ → Change
starts a s d values channels payer =
    let g : Given = record { values = values; lists = []; channels = channels } in
    record (no_change s) {
      comes = Some (object.Process (begins d g s.next_object s.next_name (dths a.annotations d.amount) payer));
      next_type = Some d.offers;
      gives = Some (payer, dths a.annotations d.amount);
    }

-- the state in which that process has come
abbrev pub started : Acceptance → State → ProcDecl → List (VarId × Value) → List (VarId × ℕ) → ℕ → State
started a s d values channels payer = changed s (starts a s d values channels payer)

-- ---- starts by number, with what the parameters are given in their order

-- the values, each for the parameter of its place
abbrev pub value_bindings : ProcDecl → List Value → List (VarId × Value)
value_bindings d values = zip (map (λ par. par.var) d.values) values

-- the names, each for the channel parameter of its place
abbrev pub channel_bindings : ProcDecl → List ℕ → List (VarId × ℕ)
channel_bindings d names = zip (map (λ par. par.0) d.channels) names

-- A line of a script can start a contract or a transaction of the declaration of this number, with these values and
-- names for its parameters.
pub record CanStartWith (a : Acceptance) (s : State) (number : ℕ) (values : List Value) (names : List ℕ) (payer : ℕ)
    : Type 0 where
  pub declaration : ProcDecl
  pub declared : slice_get a.program.procs number ≡ Some declaration
  pub its_mode : (declaration.mode ≡ mode.S) ⊎ (declaration.mode ≡ mode.T)
  pub can : CanStart a s declaration (value_bindings declaration values) (channel_bindings declaration names) payer

-- the state after it, if there is such a declaration
abbrev pub started_with : Acceptance → State → ℕ → List Value → List ℕ → ℕ → Option State
started_with a s number values names payer = slice_get a.program.procs number >>= λ d.
    Some (started a s d (value_bindings d values) (channel_bindings d names) payer)
