-- What a declaration is given, and a process at its start.
use Rattle.std.specs.Prelude.{ℕ, ◌+◌, pos, List, [], ◌∷◌, ◌++◌, Option, Some, None}
use Rattle.nomos_ir.specs.Bindings.{bound_to, bindings_of}
use Rattle.nomos_ir.specs.Value.{Value, int}
use Rattle.nomos_ir.specs.declared.code_node.Args.{Args}
use Rattle.nomos_ir.specs.declared.code_node.ValueArg.{ValueArg}
use Rattle.nomos_ir.specs.declared.code_node.ValueArg.TheVariants as arg
use Rattle.nomos_ir.specs.declared.declaration.Par.{Par}
use Rattle.nomos_ir.specs.declared.declaration.ProcDecl.{ProcDecl}
use Rattle.nomos_ir.specs.declared.ids.TypeId.{TypeId}
use Rattle.nomos_ir.specs.declared.ids.VarId.{VarId}
use Rattle.nomos_machine.specs.Optional.{◌>>=◌}
use Rattle.nomos_machine.specs.Objects.{potential_of}
use Rattle.nomos_machine.specs.declared.object.PotentialList.{PotentialList}
use Rattle.nomos_machine.specs.declared.object.Process.{Process}

-- What a declaration is given: for each of its parameters a value, a list, or the name of a channel, each in the order
-- of the parameters.
pub record Given : Type 0 where
  pub values : List (VarId × Value)
  pub lists : List (VarId × PotentialList)
  pub channels : List (VarId × ℕ)

-- ---- from the arguments of a `spawn` or a `call`, where its terms have these values

-- a value for each parameter whose argument is a term, and a list of the process for each of the others
abbrev pub give_values : Process → List Value → List ValueArg → List Par
    → Option (List (VarId × Value) × List (VarId × PotentialList))
give_values p [] [] [] = Some ([], [])
give_values p (x ∷ vs) (arg.Term e ∷ args) (par ∷ pars) = do
  others ← give_values p vs args pars
  Some ((par.var, x) ∷ others.0, others.1)
give_values p vs (arg.List w ∷ args) (par ∷ pars) = do
  list ← bound_to w.0 p.lists
  others ← give_values p vs args pars
  Some (others.0, (par.var, list) ∷ others.1)
give_values p _ _ _ = None

-- the present name of a channel for each parameter that is one
abbrev pub give_names : Process → List VarId → List (VarId × TypeId) → Option (List (VarId × ℕ))
give_names p [] [] = Some []
give_names p (v ∷ vs) (par ∷ pars) = do
  name ← bound_to v.0 p.channels
  others ← give_names p vs pars
  Some ((par.0, name) ∷ others)
give_names p _ _ = None

-- What a process hands over to the parameters of a declaration, or none where it has not what they want.
abbrev pub given : Process → List Value → Args → ProcDecl → Option Given
given p vs args d = do
  values ← give_values p vs args.values d.values
  channels ← give_names p args.channels d.channels
  Some (record { values = values.0; lists = values.1; channels = channels })

-- ---- a process at the start of a declaration

-- `me` stands for the number of the account that pays
abbrev pub me_value : Option VarId → ℕ → List (VarId × Value)
me_value (Some v) account = (v, int (pos account)) ∷ []
me_value None account = []

-- It has what it is given, offers a name, and has as purse this potential with that of its lists.
abbrev pub begins : ProcDecl → Given → ℕ → ℕ → ℕ → ℕ → Process
begins d g pid offers potential payer =
    let bare : Process = record {
      pid = pid;
      mode = d.mode;
      code = d.first;
      values = bindings_of (me_value d.me payer ++ g.values);
      lists = bindings_of g.lists;
      channels = bindings_of g.channels;
      offers = offers;
      base = None;
      purse = 0;
      payer = payer;
    } in
    record bare { purse = potential + potential_of bare }
