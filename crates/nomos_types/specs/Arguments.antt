-- When channels, values and lists may be passed on, and what of them is left.
use Rattle.std.specs.Prelude.{◌≡◌, List, [], ◌∷◌, Some, None}
use Rattle.nomos_ir.specs.declared.amount.Amount.{Amount}
use Rattle.nomos_ir.specs.declared.code_node.Args.{Args}
use Rattle.nomos_ir.specs.declared.code_node.ValueArg.{ValueArg}
use Rattle.nomos_ir.specs.declared.code_node.ValueArg.TheVariants as arg
use Rattle.nomos_ir.specs.declared.declaration.Par.{Par}
use Rattle.nomos_ir.specs.declared.declaration.ProcDecl.{ProcDecl}
use Rattle.nomos_ir.specs.declared.ids.TermId.{TermId}
use Rattle.nomos_ir.specs.declared.ids.TypeId.{TypeId}
use Rattle.nomos_ir.specs.declared.ids.VarId.{VarId}
use Rattle.nomos_ir.specs.declared.lists.ProgramLists.{ProgramLists}
use Rattle.nomos_ir.specs.Bindings.{bound_to, unbind}
use Rattle.nomos_ir.specs.TermKind.{HasKind}
use Rattle.nomos_types.specs.Alike.{AlikeTypes}
use Rattle.nomos_types.specs.Amount.{Annotations, dths}
use Rattle.nomos_types.specs.Judgement.{Judgement}

-- The channel of a variable passes as one of a type. A reference stays, and may pass again; a channel that is used
-- exactly once is used up, and so passes only once. Each passes only for a type of its own mode.
pub data PassesChannel (lists : ProgramLists) (x : Annotations) : Judgement → VarId → TypeId → Judgement → Type 0 where
  shared : {j : Judgement} {v : VarId} {t : TypeId} → (own : TypeId) → bound_to v.0 j.shared ≡ Some own
      → AlikeTypes lists x own t → PassesChannel lists x j v t j
  linear : {j : Judgement} {v : VarId} {t : TypeId} → (own : TypeId) → bound_to v.0 j.shared ≡ None
      → bound_to v.0 j.linear ≡ Some own → AlikeTypes lists x own t
      → PassesChannel lists x j v t (record j { linear = unbind v.0 j.linear })

-- channels pass one after another for parameters, of which there are as many
pub data PassesChannels (lists : ProgramLists) (x : Annotations) : Judgement → List VarId → List (VarId × TypeId)
    → Judgement → Type 0 where
  none : {j : Judgement} → PassesChannels lists x j [] [] j
  channel : {j k left : Judgement} {v : VarId} {vs : List VarId} {par : VarId × TypeId} {pars : List (VarId × TypeId)}
      → PassesChannel lists x j v par.1 k → PassesChannels lists x k vs pars left
      → PassesChannels lists x j (v ∷ vs) (par ∷ pars) left

-- A value passes by a term of the parameter's kind. A list passes only for a list parameter of its element kind and its
-- amount, and is used up.
pub data PassesValue (lists : ProgramLists) (x : Annotations) : Judgement → ValueArg → Par → Judgement → Type 0 where
  term : {j : Judgement} {e : TermId} {par : Par} → par.amount ≡ None → HasKind lists j.kinds e par.kind
      → PassesValue lists x j (arg.Term e) par j
  list : {j : Judgement} {w : VarId} {par : Par} → (amount : Amount) → par.amount ≡ Some amount
      → bound_to w.0 j.lists ≡ Some (record { kind = par.kind; amount = dths x amount })
      → PassesValue lists x j (arg.List w) par (record j { lists = unbind w.0 j.lists })

-- values and lists pass one after another for parameters, of which there are as many
pub data PassesValues (lists : ProgramLists) (x : Annotations) : Judgement → List ValueArg → List Par → Judgement
    → Type 0 where
  none : {j : Judgement} → PassesValues lists x j [] [] j
  value : {j k left : Judgement} {a : ValueArg} {args : List ValueArg} {par : Par} {pars : List Par}
      → PassesValue lists x j a par k → PassesValues lists x k args pars left
      → PassesValues lists x j (a ∷ args) (par ∷ pars) left

-- The arguments fit the declaration, and leave this of the judgement.
pub record ArgumentsFit (lists : ProgramLists) (x : Annotations) (j : Judgement) (d : ProcDecl) (args : Args)
    (left : Judgement) : Type 0 where
  pub between : Judgement
  pub values : PassesValues lists x j args.values d.values between
  pub channels : PassesChannels lists x between args.channels d.channels left
