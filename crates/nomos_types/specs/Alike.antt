-- Types and judgements that may stand for one another: they differ only in types that are equal and have the same mode.
use Rattle.std.specs.Prelude.{◌≡◌, List, [], ◌∷◌}
use Rattle.nomos_ir.specs.declared.ids.TypeId.{TypeId}
use Rattle.nomos_ir.specs.declared.ids.VarId.{VarId}
use Rattle.nomos_ir.specs.declared.lists.ProgramLists.{ProgramLists}
use Rattle.nomos_ir.specs.declared.mode.Mode.{Mode}
use Rattle.nomos_types.specs.Amount.{Annotations}
use Rattle.nomos_types.specs.Equality.{EqualTypes}
use Rattle.nomos_types.specs.Judgement.{Judgement}
use Rattle.nomos_types.specs.Modes.{HasMode}

-- the two types are equal and have the same mode
pub record AlikeTypes (lists : ProgramLists) (x : Annotations) (a b : TypeId) : Type 0 where
  pub equal : EqualTypes lists x a b
  pub mode : Mode
  pub left_mode : HasMode lists a mode
  pub right_mode : HasMode lists b mode

-- the same variables, with types that are alike
pub data AlikeChannels (lists : ProgramLists) (x : Annotations) : List (VarId × TypeId) → List (VarId × TypeId)
    → Type 0 where
  none : AlikeChannels lists x [] []
  channel : (v : VarId) (a b : TypeId) (channels others : List (VarId × TypeId)) → AlikeTypes lists x a b
      → AlikeChannels lists x channels others → AlikeChannels lists x ((v, a) ∷ channels) ((v, b) ∷ others)

-- the judgements differ only in types that are alike
pub record Alike (lists : ProgramLists) (x : Annotations) (j k : Judgement) : Type 0 where
  pub mode : j.mode ≡ k.mode
  pub kinds : j.kinds ≡ k.kinds
  pub same_lists : j.lists ≡ k.lists
  pub shared : AlikeChannels lists x j.shared k.shared
  pub linear : AlikeChannels lists x j.linear k.linear
  pub q : j.q ≡ k.q
  pub code : j.code ≡ k.code
  pub offers : AlikeTypes lists x j.offers k.offers
