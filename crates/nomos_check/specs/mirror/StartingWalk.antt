-- A mirror of the code: what a process has in hand where a declaration begins.
use Rattle.std.specs.Prelude.{◌≡◌, ℕ, Bool, true, false, not, List, [], ◌∷◌, ◌++◌, Option, Some, None}
use Rattle.std.specs.List.{flat_map}
use Rattle.nomos_ir.specs.declared.amount.Amount.{Amount}
use Rattle.nomos_ir.specs.declared.declaration.ProcDecl.{ProcDecl}
use Rattle.nomos_ir.specs.declared.ids.VarId.{VarId}
use Rattle.nomos_ir.specs.declared.kind.Kind.{Kind}
use Rattle.nomos_ir.specs.Bindings.{bind, bindings_of}
use Rattle.nomos_types.specs.Judgement.{payer_kinds, value_par}
use Rattle.nomos_check.specs.Reaching.{Outset}
use Rattle.nomos_check.specs.declared.standing.Carried.{Carried}
use Rattle.nomos_check.specs.declared.standing.Standing.{Standing}
use Rattle.nomos_check.specs.mirror.StandingData.{shape_of, HasAccount}

-- pairs are bound before those of a map, the last one first
abbrev pub bind_all : {X : Type 0} → List (VarId × X) → List (VarId × X) → List (VarId × X)
bind_all [] b = b
bind_all (p ∷ ps) b = bind p.0 p.1 (bind_all ps b)

-- a parameter that is a list
abbrev pub carried_par : VarId → Kind → Option Amount → List (VarId × Carried)
carried_par v kind None = []
carried_par v kind (Some amount) = (v, record { kind = kind; amount = amount }) ∷ []

-- the kinds and the lists with which a declaration begins
abbrev pub kinds_of : ProcDecl → List (VarId × Kind)
kinds_of d = bindings_of (payer_kinds d.me ++ flat_map (λ par. value_par par.var par.kind par.amount) d.values)

abbrev pub lists_of : ProcDecl → List (VarId × Carried)
lists_of d = bindings_of (flat_map (λ par. carried_par par.var par.kind par.amount) d.values)

-- whether a channel is picked among the references, or among the others
abbrev pub picks : Bool → Bool → Bool
picks true shared = shared
picks false shared = not shared

-- the one item, if it is picked
abbrev pub one_if : {X : Type 0} → Bool → X → List X
one_if true x = x ∷ []
one_if false x = []

-- the code's data stands for the outset
pub record IsStartOf (n : ℕ) (o : Outset) (s : Standing) : Type 0 where
  pub shape : shape_of s ≡ o.judgement
  pub has : HasAccount n s o.account
