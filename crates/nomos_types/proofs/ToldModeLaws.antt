-- How the mode of a type is told without the table of modes: S shows at its head, T is that of what a declaration of
-- transactions offers, and every other one is that of channels that are used exactly once.
use Rattle.std.proofs.Common.{◌≡◌, ◌≢◌, ◌⊎◌, ◌↔◌, inl, inr, false, List, [], ◌∷◌, ◌++◌, map, All, Option, Some, get_or, refl, sym, ap, subst, ◌∙◌}
use Rattle.std.specs.List.{flat_map}
use Rattle.std.proofs.lemmas.List.Elements.{All-nil, All-cons, All-append, All-map, All-contains, Contains-get_or}
use Rattle.std.proofs.lemmas.Option.{slice_get-get_or}
use Rattle.nomos_ir.specs.Nodes.{type_node}
use Rattle.nomos_ir.specs.declared.declaration.ProcDecl.{ProcDecl}
use Rattle.nomos_ir.specs.declared.ids.TypeId.{TypeId}
use Rattle.nomos_ir.specs.declared.ids.VarId.{VarId}
use Rattle.nomos_ir.specs.declared.lists.ProgramLists.{ProgramLists}
use Rattle.nomos_ir.specs.declared.mode.Mode.{Mode}
use Rattle.nomos_ir.specs.declared.mode.Mode.TheVariants as mode
use Rattle.nomos_ir.specs.declared.type_node.Branch.{Branch}
use Rattle.nomos_ir.specs.declared.type_node.Def.{Def}
use Rattle.nomos_ir.specs.declared.type_node.TypeNode.{TypeNode}
use Rattle.nomos_ir.specs.declared.type_node.TypeNode.TheVariants as node
use Rattle.nomos_types.proofs.AlikeLaws.{IsCarriedMode, carried-is_carried}
use Rattle.nomos_types.proofs.ModeLaws.{mode-in_range, mode-unique, offered-has_mode}
use Rattle.nomos_types.proofs.Nodes.{type_node-there}
use Rattle.nomos_types.proofs.OccurrenceLaws.{all-flat}
use Rattle.nomos_types.proofs.StartLaws.{reference-at_s}
use Rattle.nomos_types.specs.Judgement.{is_shared_mode}
use Rattle.nomos_types.specs.Modes.{HasMode, whole, part, IsLinearMode, Allows, IsOfTransactions, head_mode, as_parameter, parameter_mode, carried_mode, part_modes, whole_modes}
use Rattle.nomos_types.specs.Typed.{IsWellFormed}

-- ---- modes

-- T and S are none of the modes of channels that are used exactly once
linear-not_t : (m : Mode) → IsLinearMode m → m ≢ mode.T
linear-not_t m (inl at_r) at_t = absurd cc
linear-not_t m (inr at_l) at_t = absurd cc

linear-not_s : (m : Mode) → IsLinearMode m → m ≢ mode.S
linear-not_s m (inl at_r) at_s = absurd cc
linear-not_s m (inr at_l) at_s = absurd cc

-- every other mode is one of them
others-linear : (m : Mode) → m ≢ mode.S → m ≢ mode.T → IsLinearMode m
others-linear mode.R not_s not_t = inl refl
others-linear mode.L not_s not_t = inr refl
others-linear mode.S not_s not_t = absurd (not_s refl)
others-linear mode.T not_s not_t = absurd (not_t refl)

-- ---- S shows at the head

-- a mode of channels that are used exactly once is not S
pub linear-unshared : (m : Mode) → IsLinearMode m → false ≡ is_shared_mode m
linear-unshared mode.R linear = refl
linear-unshared mode.L linear = refl
linear-unshared mode.T linear = refl
linear-unshared mode.S (inl is) = absurd cc
linear-unshared mode.S (inr is) = absurd cc

-- the mode of an end is not S
end-unshared : (m : Mode) → (m ≡ mode.R) ⊎ (m ≡ mode.T) → false ≡ is_shared_mode m
end-unshared mode.R at = refl
end-unshared mode.L at = refl
end-unshared mode.T at = refl
end-unshared mode.S (inl is) = absurd cc
end-unshared mode.S (inr is) = absurd cc

-- a parameter of a mode, but for T, is taken as shared where the mode is S
parameter-shows : (m : Mode) → m ≢ mode.T → is_shared_mode (as_parameter (Some m)) ≡ is_shared_mode m
parameter-shows mode.R other = refl
parameter-shows mode.S other = refl
parameter-shows mode.L other = refl
parameter-shows mode.T other = absurd (other refl)

-- a node that is allowed at a mode shows whether it is S
node-shows : (lists : ProgramLists) (m : Mode) (n : TypeNode) → Allows lists m n
    → is_shared_mode (as_parameter (head_mode lists (Some n))) ≡ is_shared_mode m
node-shows lists m node.One allowed = end-unshared m allowed
node-shows lists m (node.Up a) allowed = ap (λ (k : Mode). is_shared_mode k) (sym allowed)
node-shows lists m (node.Down a) allowed = linear-unshared m (inr allowed)
node-shows lists m (node.Named d) (is, other) =
    ap (λ (o : Option Mode). is_shared_mode (as_parameter o)) is ∙ parameter-shows m other
node-shows lists m (node.Plus bs) allowed = linear-unshared m allowed
node-shows lists m (node.With bs) allowed = linear-unshared m allowed
node-shows lists m (node.Tensor a b) allowed = linear-unshared m allowed
node-shows lists m (node.Lolli a b) allowed = linear-unshared m allowed
node-shows lists m (node.ValueOut kind a) allowed = linear-unshared m allowed
node-shows lists m (node.ValueIn kind a) allowed = linear-unshared m allowed
node-shows lists m (node.PotOut amount a) allowed = linear-unshared m allowed
node-shows lists m (node.PotIn amount a) allowed = linear-unshared m allowed

-- ---- T is that of what a declaration of transactions offers

-- no parameter has it
parameter-not_t : (o : Option Mode) → as_parameter o ≢ mode.T
parameter-not_t (Some mode.S) is = absurd cc
parameter-not_t (Some mode.L) is = absurd cc
parameter-not_t o is = absurd cc

-- nothing that is carried has it
carried-not_t : (m : Mode) → IsCarriedMode m → m ≢ mode.T
carried-not_t m (inl at_s) at_t = absurd cc
carried-not_t m (inr at_r) at_t = absurd cc

-- no part of a node that is allowed has it
abbrev NotAtT : TypeId × Mode → Type 0
NotAtT e = e.1 ≢ mode.T

only-not_t : (a : TypeId) (m : Mode) → m ≢ mode.T → All NotAtT ((a, m) ∷ [])
only-not_t a m other = All-cons NotAtT (a, m) [] other (All-nil NotAtT)

both-not_t : (lists : ProgramLists) (m : Mode) (a b : TypeId) → IsLinearMode m
    → All NotAtT ((a, carried_mode lists m a) ∷ (b, m) ∷ [])
both-not_t lists m a b linear =
    All-cons NotAtT (a, carried_mode lists m a) ((b, m) ∷ [])
    (carried-not_t (carried_mode lists m a) (carried-is_carried lists m a)) (only-not_t b m (linear-not_t m linear))

parts-not_t : (lists : ProgramLists) (m : Mode) (n : TypeNode) → Allows lists m n → All NotAtT (part_modes lists m n)
parts-not_t lists m node.One allowed = All-nil NotAtT
parts-not_t lists m (node.Plus branches) allowed =
    All-map NotAtT (λ (b : Branch). (b.goes, m)) branches (λ k e inside. linear-not_t m allowed)
parts-not_t lists m (node.With branches) allowed =
    All-map NotAtT (λ (b : Branch). (b.goes, m)) branches (λ k e inside. linear-not_t m allowed)
parts-not_t lists m (node.Tensor a b) allowed = both-not_t lists m a b allowed
parts-not_t lists m (node.Lolli a b) allowed = both-not_t lists m a b allowed
parts-not_t lists m (node.ValueOut kind a) allowed = only-not_t a m (linear-not_t m allowed)
parts-not_t lists m (node.ValueIn kind a) allowed = only-not_t a m (linear-not_t m allowed)
parts-not_t lists m (node.PotOut amount a) allowed = only-not_t a m (linear-not_t m allowed)
parts-not_t lists m (node.PotIn amount a) allowed = only-not_t a m (linear-not_t m allowed)
parts-not_t lists m (node.Up a) allowed = only-not_t a mode.L (λ is. cc)
parts-not_t lists m (node.Down a) allowed = only-not_t a mode.S (λ is. cc)
parts-not_t lists m (node.Named d) allowed = All-nil NotAtT

module _ {lists : ProgramLists} (formed : IsWellFormed lists) where
  -- ---- S

  -- the head of a type shows whether its mode is S
  pub type-shows_shared : {t : TypeId} (m : Mode) → HasMode lists t m
      → is_shared_mode (parameter_mode lists t) ≡ is_shared_mode m
  type-shows_shared {t} m has =
      let (n, there) = type_node-there lists t.0 (mode-in_range formed.program has) in
      ap (λ (o : Option TypeNode). is_shared_mode (as_parameter (head_mode lists o))) there
      ∙ node-shows lists m n (formed.modes.allowed t m n has there)

  -- so a type has mode S exactly where it is taken as S for a parameter
  pub shared-by_head : {t : TypeId} (m : Mode) → HasMode lists t m → (parameter_mode lists t ≡ mode.S) ↔ (m ≡ mode.S)
  shared-by_head {t} m has =
      let shows = type-shows_shared m has in (
        λ at_s. reference-at_s m (sym shows ∙ ap is_shared_mode at_s),
        λ at_s. reference-at_s (parameter_mode lists t) (shows ∙ ap is_shared_mode at_s),
      )

  -- ---- T

  -- a whole type that has mode T is what a declaration of transactions offers
  abbrev IsTold : TypeId × Mode → Type 0
  IsTold e = e.1 ≡ mode.T → IsOfTransactions lists e.0

  wholes-told : All IsTold (whole_modes lists)
  wholes-told =
      let bodies : All IsTold (map (λ (d : Def). (d.body, d.mode)) lists.defs) =
      All-map IsTold (λ (d : Def). (d.body, d.mode)) lists.defs
      (λ k e inside at_t. absurd (formed.modes.definitions k e inside at_t))
      in
      let place : VarId × TypeId → TypeId × Mode = λ par. (par.1, parameter_mode lists par.1) in
      let of_one : ProcDecl → List (TypeId × Mode) = λ d. map place d.channels in
      let parameters : All IsTold (flat_map of_one lists.procs) =
      all-flat IsTold of_one lists.procs
      (λ k e inside.
      All-map IsTold place (get_or lists.procs k e).channels
      (λ i par within at_t. absurd (parameter-not_t (head_mode lists (type_node lists
      (get_or (get_or lists.procs k e).channels i par).1.0)) at_t)))
      in
      let offers : All IsTold (map (λ (d : ProcDecl). (d.offers, d.mode)) lists.procs) =
      All-map IsTold (λ (d : ProcDecl). (d.offers, d.mode)) lists.procs
      (λ k e inside at_t. (get_or lists.procs k e, Contains-get_or lists.procs k e inside, at_t, refl))
      in
      let first = map (λ (d : Def). (d.body, d.mode)) lists.defs in
      let second = flat_map of_one lists.procs in
      All-append IsTold (first ++ second) (map (λ (d : ProcDecl). (d.offers, d.mode)) lists.procs)
      (All-append IsTold first second bodies parameters) offers

  -- a type that has mode T stands whole
  told : {t : TypeId} {m : Mode} → HasMode lists t m → m ≡ mode.T → IsOfTransactions lists t
  told {t} {m} (whole among) at_t = All-contains IsTold (whole_modes lists) (t, m) wholes-told among at_t
  told {t} {m} (part outer n form has there among) at_t =
      let parts = parts-not_t lists n form (formed.modes.allowed outer n form has there) in
      absurd (All-contains NotAtT (part_modes lists n form) (t, m) parts among at_t)

  -- so a type has mode T exactly where a declaration of transactions offers it
  pub transactions-by_offer : (t : TypeId) → HasMode lists t mode.T ↔ IsOfTransactions lists t
  transactions-by_offer t = (
    λ has. told has refl,
    λ (d, among, at_t, is).
        let found = slice_get-get_or lists.procs among.0 d among.1 ∙ ap (λ (e : ProcDecl). Some e) among.2 in
        let offered = offered-has_mode lists among.0 d found in
        let at : HasMode lists d.offers mode.T = subst (λ (m : Mode). HasMode lists d.offers m) at_t offered in
        subst (λ (u : TypeId). HasMode lists u mode.T) is at,
  )

  -- ---- R and L

  -- a channel is used exactly once where its type is neither taken as S nor offered by transactions
  pub linear-told : {t : TypeId} (m : Mode) → HasMode lists t m
      → IsLinearMode m ↔ ((parameter_mode lists t ≢ mode.S) × ¬ (IsOfTransactions lists t))
  linear-told {t} m has = (
    λ linear. (
      λ at_s. linear-not_s m linear ((shared-by_head m has).0 at_s),
      λ offered.
          let at_t : HasMode lists t mode.T = (transactions-by_offer t).1 offered in
          linear-not_t m linear (mode-unique formed.program has at_t),
    ),
    λ (no_head, no_offer).
        others-linear m (λ at_s. no_head ((shared-by_head m has).1 at_s))
        (λ at_t. no_offer (told has at_t)),
  )
