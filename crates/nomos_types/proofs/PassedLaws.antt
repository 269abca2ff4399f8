-- What arguments give a declaration: for each channel the type that the judgement has for its variable, for each value
-- a term of the kind, for each list its own type. With such channels its start is like its own one.
use Rattle.std.proofs.Common.{◌≡◌, List, [], ◌∷◌, Option, Some, None, ap, ◌∙◌}
use Rattle.std.specs.Option.{option_or}
use Rattle.nomos_ir.specs.Bindings.{bound_to}
use Rattle.nomos_ir.specs.TermKind.{HasKind}
use Rattle.nomos_ir.specs.declared.amount.Amount.{Amount}
use Rattle.nomos_ir.specs.declared.code_node.ValueArg.{ValueArg}
use Rattle.nomos_ir.specs.declared.code_node.ValueArg.TheVariants as arg
use Rattle.nomos_ir.specs.declared.declaration.Par.{Par}
use Rattle.nomos_ir.specs.declared.ids.TermId.{TermId}
use Rattle.nomos_ir.specs.declared.ids.TypeId.{TypeId}
use Rattle.nomos_ir.specs.declared.ids.VarId.{VarId}
use Rattle.nomos_ir.specs.declared.lists.ProgramLists.{ProgramLists}
use Rattle.nomos_types.specs.Alike.{Alike, AlikeTypes, AlikeChannels}
use Rattle.nomos_types.specs.Alike as alikes
use Rattle.nomos_types.specs.Amount.{Annotations, dths}
use Rattle.nomos_types.specs.Arguments.{PassesChannel, shared, linear}
use Rattle.nomos_types.specs.Arguments as passes
use Rattle.nomos_types.specs.Judgement.{Judgement, type_held}

-- The channels of the variables stand for the parameters: each type is the one that the judgement has for the variable,
-- and is like the declared one.
pub data PassedChannels (lists : ProgramLists) (x : Annotations) (j : Judgement)
    : List VarId → List (VarId × TypeId) → List (VarId × TypeId) → Type 0 where
  none : PassedChannels lists x j [] [] []
  channel : {v : VarId} {vs : List VarId} {par : VarId × TypeId} {pars cs : List (VarId × TypeId)} → (own : TypeId)
      → type_held j v.0 ≡ Some own → AlikeTypes lists x own par.1 → PassedChannels lists x j vs pars cs
      → PassedChannels lists x j (v ∷ vs) (par ∷ pars) ((par.0, own) ∷ cs)

-- The arguments stand for the parameters: terms of their kinds, and lists of their element kinds and amounts, each as
-- the judgement has it.
pub data PassedValues (lists : ProgramLists) (x : Annotations) (j : Judgement) : List ValueArg → List Par → Type 0 where
  none : PassedValues lists x j [] []
  term : {e : TermId} {args : List ValueArg} {par : Par} {pars : List Par} → par.amount ≡ None
      → HasKind lists j.kinds e par.kind → PassedValues lists x j args pars
      → PassedValues lists x j (arg.Term e ∷ args) (par ∷ pars)
  list : {w : VarId} {args : List ValueArg} {par : Par} {pars : List Par} → (amount : Amount) → par.amount ≡ Some amount
      → bound_to w.0 j.lists ≡ Some (record { kind = par.kind; amount = dths x amount })
      → PassedValues lists x j args pars → PassedValues lists x j (arg.List w ∷ args) (par ∷ pars)

-- ---- what is found in what is left

first-there : {X : Type 0} (o p : Option X) (x : X) → o ≡ Some x → option_or o p ≡ Some x
first-there {X} o p x found = ap (λ (f : Option X). option_or f p) found

only-second_there : {X : Type 0} (o p : Option X) (x : X) → o ≡ None → p ≡ Some x → option_or o p ≡ Some x
only-second_there {X} o p x nothing found = ap (λ (f : Option X). option_or f p) nothing ∙ found

module _ {lists : ProgramLists} {x : Annotations} where
  -- ---- channels

  -- a channel that passes has a type, which is like the declared one
  own-type : {j : Judgement} {v : VarId} {t : TypeId} {k : Judgement} → PassesChannel lists x j v t k
      → (own : TypeId) × (type_held j v.0 ≡ Some own) × AlikeTypes lists x own t
  own-type {j} {v} (shared own found alike) =
      (own, first-there (bound_to v.0 j.shared) (bound_to v.0 j.linear) own found, alike)
  own-type {j} {v} (linear own no_reference found alike) =
      (own, only-second_there (bound_to v.0 j.shared) (bound_to v.0 j.linear) own no_reference found, alike)

  -- they are like the declared ones
  pub passed-alike : {j : Judgement} {vs : List VarId} {pars cs : List (VarId × TypeId)}
      → PassedChannels lists x j vs pars cs → AlikeChannels lists x cs pars
  passed-alike none = alikes.none
  passed-alike (channel {par = par} {pars = pars} {cs = cs} own found alike others) =
      alikes.channel par.0 own par.1 cs pars alike (passed-alike others)
  -- ---- values and lists

-- ---- starts
