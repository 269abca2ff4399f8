-- Laws of modes: each type node has one mode, and what a type unfolds to, its parts and its branches have the modes of
-- their places.
use Rattle.std.proofs.Common.{◌≡◌, ◌<◌, ◌≤◌, ◌+◌, inl, inr, ℕ, zero, suc, length, get_or, All, Contains, Some, option_map, slice_get, List, [], ◌∷◌, ◌++◌, map, subst, ap, ap₂, subst₂, sym, refl, ◌∙◌, arith}
use Rattle.std.proofs.lemmas.Bool.{cases_lt}
use Rattle.std.proofs.lemmas.List.{map-append}
use Rattle.std.proofs.lemmas.List.Elements.{All-append, All-map, All-contains, Contains-append_left, Contains-append_right, Contains-get_or}
use Rattle.std.proofs.lemmas.Option.{slice_get_within}
use Rattle.std.specs.List.{flat_map}
use Rattle.nomos_ir.specs.declared.declaration.ProcDecl.{ProcDecl}
use Rattle.nomos_ir.specs.declared.ids.Label.{Label}
use Rattle.nomos_ir.specs.declared.ids.TypeId.{TypeId}
use Rattle.nomos_ir.specs.declared.ids.VarId.{VarId}
use Rattle.nomos_ir.specs.declared.lists.ProgramLists.{ProgramLists}
use Rattle.nomos_ir.specs.declared.mode.Mode.{Mode}
use Rattle.nomos_ir.specs.declared.type_node.Branch.{Branch}
use Rattle.nomos_ir.specs.declared.type_node.Def.{Def}
use Rattle.nomos_ir.specs.declared.type_node.TypeAt.{TypeAt}
use Rattle.nomos_ir.specs.declared.type_node.TypeNode.{TypeNode}
use Rattle.nomos_ir.specs.declared.type_node.TypeNode.TheVariants as node
use Rattle.nomos_ir.proofs.NodeLaws.{type_node-at}
use Rattle.nomos_ir.specs.Nodes.{type_node}
use Rattle.nomos_ir.specs.Order.{count_of, type_places}
use Rattle.nomos_ir.specs.Program.{IsProgram}
use Rattle.nomos_ir.specs.TypeParts.{type_parts}
use Rattle.nomos_ir.specs.Unfold.{IsContractive, Unfolds, constructor, name}
use Rattle.nomos_types.specs.Branches.{goes_by}
use Rattle.nomos_types.specs.Modes.{HasMode, whole, part, ObeysModes, part_modes, whole_modes, parameter_mode}
use Rattle.nomos_types.proofs.BranchLaws.{goes-all}
use Rattle.nomos_types.proofs.Nodes.{type_node-in_range}
use Rattle.nomos_types.proofs.OccurrenceLaws.{all-flat, contains-found, contains-part, contains-map, contains-unmap, count-append, counted, contained, one-place, one-part, count-part, part-with}

-- ---- places with their modes

-- the number of a type that stands with a mode
abbrev type_number : TypeId × Mode → ℕ
type_number p = p.0.0

-- one map after another
map-twice : {X Y Z : Type 0} (f : Y → Z) (g : X → Y) (xs : List X) → map f (map g xs) ≡ map (λ x. f (g x)) xs
map-twice f g [] = refl
map-twice f g (x ∷ xs) = ap (λ ys. f (g x) ∷ ys) (map-twice f g xs)

-- the same over the lists of many items
map-flat : {X Y Z W : Type 0} (f : Y → Z) (g : W → Y) (h : X → List W) (xs : List X)
    → map f (flat_map (λ x. map g (h x)) xs) ≡ flat_map (λ x. map (λ w. f (g w)) (h x)) xs
map-flat f g h [] = refl
map-flat f g h (x ∷ xs) =
    map-append f (map g (h x)) (flat_map (λ y. map g (h y)) xs) ∙ ap₂ ◌++◌ (map-twice f g (h x)) (map-flat f g h xs)

-- the places of types that are no parts: in definitions, as types of channel parameters, as offered types
abbrev def_places : ProgramLists → List ℕ
def_places lists = map (λ d. d.body.0) lists.defs

abbrev channel_places : ProgramLists → List ℕ
channel_places lists = flat_map (λ d. map (λ par. par.1.0) d.channels) lists.procs

abbrev offer_places : ProgramLists → List ℕ
offer_places lists = map (λ d. d.offers.0) lists.procs

-- the parts of a node beside its offset
abbrev pub node_parts : TypeAt → List ℕ
node_parts at = type_parts at.node

-- the whole types with modes are the whole types in their places
whole-numbers : (lists : ProgramLists)
    → map type_number (whole_modes lists) ≡ def_places lists ++ channel_places lists ++ offer_places lists
whole-numbers lists =
    let of_def : Def → TypeId × Mode = λ d. (d.body, d.mode) in
    let of_channel : VarId × TypeId → TypeId × Mode = λ par. (par.1, parameter_mode lists par.1) in
    let of_offer : ProcDecl → TypeId × Mode = λ d. (d.offers, d.mode) in
    let channels_of : ProcDecl → List (VarId × TypeId) = λ d. d.channels in
    let channels = flat_map (λ (d : ProcDecl). map of_channel d.channels) lists.procs in
    let offers = map of_offer lists.procs in
    let defs = map of_def lists.defs in
    map-append type_number (defs ++ channels) offers
    ∙ ap₂ ◌++◌
    (map-append type_number defs channels
    ∙ ap₂ ◌++◌ (map-twice type_number of_def lists.defs) (map-flat type_number of_channel channels_of lists.procs))
    (map-twice type_number of_offer lists.procs)

-- the parts with modes are the parts
part-numbers : (lists : ProgramLists) (m : Mode) (n : TypeNode) → map type_number (part_modes lists m n) ≡ type_parts n
part-numbers lists m node.One = refl
part-numbers lists m (node.Plus bs) = map-twice type_number (λ (b : Branch). (b.goes, m)) bs
part-numbers lists m (node.With bs) = map-twice type_number (λ (b : Branch). (b.goes, m)) bs
part-numbers lists m (node.Tensor a b) = refl
part-numbers lists m (node.Lolli a b) = refl
part-numbers lists m (node.ValueOut kind a) = refl
part-numbers lists m (node.ValueIn kind a) = refl
part-numbers lists m (node.PotOut q a) = refl
part-numbers lists m (node.PotIn q a) = refl
part-numbers lists m (node.Up a) = refl
part-numbers lists m (node.Down a) = refl
part-numbers lists m (node.Named d) = refl

-- a type stands once: either as a whole type or as a part
stands-once : (lists : ProgramLists) (t : ℕ) → IsProgram lists → t < length lists.types
    → count_of t (map type_number (whole_modes lists)) + count_of t (flat_map node_parts lists.types) ≡ 1
stands-once lists t is_program inside =
    let defs = def_places lists in
    let parts = flat_map node_parts lists.types in
    let channels = channel_places lists in
    let offers = offer_places lists in
    let all = count-append t (defs ++ parts ++ channels) offers in
    let before_offers = count-append t (defs ++ parts) channels in
    let before_channels = count-append t defs parts in
    let wholes = count-append t (defs ++ channels) offers in
    let whole_before = count-append t defs channels in
    let numbers = ap (count_of t) (whole-numbers lists) in
    let once : count_of t (type_places lists) ≡ 1 = is_program.types t inside in
    omega arith

-- ---- ranges

-- what stands whole is a type node
whole-in_range : (lists : ProgramLists) (t : ℕ) → IsProgram lists → Contains (map type_number (whole_modes lists)) t
    → t < length lists.types
whole-in_range lists t is_program among =
    let n = length lists.types in
    let P : ℕ → Type 0 = λ k. k < n in
    let defs : All P (def_places lists) = All-map P (λ (d : Def). d.body.0) lists.defs is_program.ids.defs in
    let number : VarId × TypeId → ℕ = λ par. par.1.0 in
    let numbers : ProcDecl → List ℕ = λ d. map number d.channels in
    let each : All (λ d. All P (numbers d)) lists.procs =
    λ k d inside. All-map P number (get_or lists.procs k d).channels (is_program.ids.procs k d inside).channels
    in
    let channels : All P (channel_places lists) = all-flat P numbers lists.procs each in
    let offers : All P (offer_places lists) =
    All-map P (λ (d : ProcDecl). d.offers.0) lists.procs (λ k d inside. (is_program.ids.procs k d inside).offers)
    in
    let before = def_places lists ++ channel_places lists in
    let all_before : All P before = All-append P (def_places lists) (channel_places lists) defs channels in
    let all = All-append P before (offer_places lists) all_before offers in
    let there = subst (λ (xs : List ℕ). Contains xs t) (whole-numbers lists) among in
    All-contains P (before ++ offer_places lists) t all there

-- the numbers of types that stand as parts are parts
pub part-number : (lists : ProgramLists) (m k : Mode) (n : TypeNode) (t : TypeId)
    → Contains (part_modes lists m n) (t, k) → Contains (type_parts n) t.0
part-number lists m k n t among =
    let numbered = contains-map type_number (part_modes lists m n) (t, k) t.0 among refl in
    subst (λ (xs : List ℕ). Contains xs t.0) (part-numbers lists m n) numbered

-- what has a mode is a type node
pub mode-in_range : {lists : ProgramLists} {t : TypeId} {m : Mode} → IsProgram lists → HasMode lists t m
    → t.0 < length lists.types
mode-in_range {lists = lists} {t = t} {m = m} is_program (whole among) =
    whole-in_range lists t.0 is_program (contains-map type_number (whole_modes lists) (t, m) t.0 among refl)
mode-in_range {lists = lists} {t = t} {m = m} is_program (part outer k n _ there among) =
    let in_range = type_node-in_range lists outer.0 n is_program there in
    All-contains (λ (i : ℕ). i < length lists.types) (type_parts n) t.0 in_range.parts (part-number lists k m n t among)

-- ---- places whose modes are known

-- the whole types with their modes: the body of a definition, a channel parameter, an offered type
abbrev of_def : Def → TypeId × Mode
of_def d = (d.body, d.mode)

abbrev of_channel : ProgramLists → VarId × TypeId → TypeId × Mode
of_channel lists par = (par.1, parameter_mode lists par.1)

abbrev of_offer : ProcDecl → TypeId × Mode
of_offer d = (d.offers, d.mode)

abbrev of_channels : ProgramLists → ProcDecl → List (TypeId × Mode)
of_channels lists d = map (of_channel lists) d.channels

-- the body of a definition has the definition's mode
body-has_mode : (lists : ProgramLists) (k : ℕ) (d : Def) → slice_get lists.defs k ≡ Some d → HasMode lists d.body d.mode
body-has_mode lists k d found =
    let defs = map of_def lists.defs in
    let channels = flat_map (of_channels lists) lists.procs in
    let offers = map of_offer lists.procs in
    let among : Contains lists.defs d = contains-found lists.defs k d found in
    let here : Contains defs (of_def d) = contains-map of_def lists.defs d (of_def d) among refl in
    let before = Contains-append_left defs channels (of_def d) here in
    whole (Contains-append_left (defs ++ channels) offers (of_def d) before)

-- a channel parameter has the mode that its type shows
pub parameter-has_mode : (lists : ProgramLists) (p : ℕ) (d : ProcDecl) (v : VarId) (t : TypeId)
    → slice_get lists.procs p ≡ Some d → Contains d.channels (v, t) → HasMode lists t (parameter_mode lists t)
parameter-has_mode lists p d v t found among =
    let defs = map of_def lists.defs in
    let channels = flat_map (of_channels lists) lists.procs in
    let offers = map of_offer lists.procs in
    let place : TypeId × Mode = (t, parameter_mode lists t) in
    let one = contains-map (of_channel lists) d.channels (v, t) place among refl in
    let here : Contains channels place = contains-part (of_channels lists) lists.procs p d place found one in
    whole (Contains-append_left (defs ++ channels) offers place (Contains-append_right defs channels place here))

-- the offered type of a declaration has the declaration's mode
pub offered-has_mode : (lists : ProgramLists) (p : ℕ) (d : ProcDecl) → slice_get lists.procs p ≡ Some d
    → HasMode lists d.offers d.mode
offered-has_mode lists p d found =
    let defs = map of_def lists.defs in
    let channels = flat_map (of_channels lists) lists.procs in
    let offers = map of_offer lists.procs in
    let among : Contains lists.procs d = contains-found lists.procs p d found in
    let here : Contains offers (of_offer d) = contains-map of_offer lists.procs d (of_offer d) among refl in
    whole (Contains-append_right (defs ++ channels) offers (of_offer d) here)

-- ---- unfolding

-- the type with this number
abbrev type_with : ℕ → TypeId
type_with n = record { 0 = n }

-- the same, by the number of the type
keeps-mode : {lists : ProgramLists} {t : ℕ} {n : TypeNode} → (m : Mode) → ObeysModes lists
    → HasMode lists (type_with t) m → Unfolds lists t n
    → (u : TypeId) × (type_node lists u.0 ≡ Some n) × HasMode lists u m
keeps-mode m obeys there (constructor t n found no_name) = (type_with t, found, there)
keeps-mode {lists = lists} m obeys there (name t id def n named found rest) =
    let shown = (obeys.allowed (type_with t) m (node.Named id) there named).0 in
    let its_mode = ap (option_map (λ (d : Def). d.mode)) found in
    let same : def.mode ≡ m = cc in
    let its_own = body-has_mode lists id.0 def found in
    let body : HasMode lists def.body m = subst (λ (k : Mode). HasMode lists def.body k) same its_own in
    keeps-mode m obeys body rest

-- what a type unfolds to stands at a type of the same mode
pub unfolding-keeps_mode : {lists : ProgramLists} {t : TypeId} {m : Mode} {n : TypeNode} → IsProgram lists
    → IsContractive lists → ObeysModes lists → HasMode lists t m → Unfolds lists t.0 n
    → (u : TypeId) × (type_node lists u.0 ≡ Some n) × HasMode lists u m
unfolding-keeps_mode {m = m} is_program contractive obeys there unfolds = keeps-mode m obeys there unfolds

-- the parts of what a type unfolds to have the modes of parts at its mode
pub part-has_mode : {lists : ProgramLists} {t u : TypeId} {m k : Mode} {n : TypeNode} → IsProgram lists
    → IsContractive lists → ObeysModes lists → HasMode lists t m → Unfolds lists t.0 n
    → Contains (part_modes lists m n) (u, k) → HasMode lists u k
part-has_mode {m = m} {n = n} is_program contractive obeys there unfolds among =
    let head = keeps-mode m obeys there unfolds in
    part head.0 m n head.2 head.1 among

-- each branch is a part with the mode of the choice
pub branch-among : (m : Mode) (branches : List Branch) (l : Label) (u : TypeId) → goes_by branches l ≡ Some u
    → Contains {X = TypeId × Mode} (map (λ b. (b.goes, m)) branches) (u, m)
branch-among m branches l u goes =
    let place : Branch → TypeId × Mode = λ b. (b.goes, m) in
    let each : All (λ b. Contains (map place branches) (place b)) branches =
    λ k d inside.
    let b = get_or branches k d in
    contains-map place branches b (place b) (Contains-get_or branches k d inside) refl
    in
    goes-all (λ t. Contains {X = TypeId × Mode} (map place branches) (t, m)) branches l u each goes

-- the branches of an internal choice have its mode
pub plus-branch-has_mode : {lists : ProgramLists} {t u : TypeId} {m : Mode} → (branches : List Branch) (l : Label)
    → IsProgram lists → IsContractive lists → ObeysModes lists → HasMode lists t m
    → Unfolds lists t.0 (node.Plus branches) → goes_by branches l ≡ Some u → HasMode lists u m
plus-branch-has_mode {u = u} {m = m} branches l is_program contractive obeys there unfolds goes =
    part-has_mode is_program contractive obeys there unfolds (branch-among m branches l u goes)

-- the branches of an external choice have its mode
pub with-branch-has_mode : {lists : ProgramLists} {t u : TypeId} {m : Mode} → (branches : List Branch) (l : Label)
    → IsProgram lists → IsContractive lists → ObeysModes lists → HasMode lists t m
    → Unfolds lists t.0 (node.With branches) → goes_by branches l ≡ Some u → HasMode lists u m
with-branch-has_mode {u = u} {m = m} branches l is_program contractive obeys there unfolds goes =
    part-has_mode is_program contractive obeys there unfolds (branch-among m branches l u goes)

-- ---- one mode

-- a part stands among the parts of the node at its outer type
part-stands : (lists : ProgramLists) (t outer : TypeId) (m k : Mode) (n : TypeNode) → type_node lists outer.0 ≡ Some n
    → Contains (part_modes lists k n) (t, m)
    → (at : TypeAt) × (slice_get lists.types outer.0 ≡ Some at) × (1 ≤ count_of t.0 (node_parts at)) × (at.node ≡ n)
part-stands lists t outer m k n there among =
    let at = type_node-at lists outer.0 n there in
    let parts : Contains (type_parts at.0.node) t.0 =
    subst (λ (o : TypeNode). Contains (type_parts o) t.0) (sym at.2) (part-number lists k m n t among)
    in
    (at.0, at.1, counted t.0 (type_parts at.0.node) parts, at.2)

-- a type does not stand both whole and as a part
whole-or-part : (lists : ProgramLists) (t outer : TypeId) (m j k : Mode) (n : TypeNode) → IsProgram lists
    → t.0 < length lists.types → Contains (whole_modes lists) (t, m) → type_node lists outer.0 ≡ Some n
    → Contains (part_modes lists k n) (t, j) → ⊥
whole-or-part lists t outer m j k n is_program inside among there part_among =
    let wholes = map type_number (whole_modes lists) in
    let numbered = contains-map type_number (whole_modes lists) (t, m) t.0 among refl in
    let as_whole : 1 ≤ count_of t.0 wholes = counted t.0 wholes numbered in
    let at = part-stands lists t outer j k n there part_among in
    let as_part = count-part node_parts t.0 lists.types outer.0 at.0 at.1 in
    omega (arith, stands-once lists t.0 is_program inside, at.2)

-- where the outer types, their modes and nodes are the same, so are the modes of a part
same-part : (lists : ProgramLists) (t outer : TypeId) (m j k : Mode) (n : TypeNode) → IsProgram lists
    → t.0 < length lists.types → type_node lists outer.0 ≡ Some n → Contains (part_modes lists k n) (t, m)
    → Contains (part_modes lists k n) (t, j) → m ≡ j
same-part lists t outer m j k n is_program inside there m_among j_among =
    let at = part-stands lists t outer m k n there m_among in
    let as_part = count-part node_parts t.0 lists.types outer.0 at.0 at.1 in
    let numbers = part-numbers lists k n ∙ ap type_parts (sym at.3) in
    let stands = stands-once lists t.0 is_program inside in
    let counts = ap (count_of t.0) numbers in
    let once : count_of t.0 (map type_number (part_modes lists k n)) ≤ 1 = omega arith in
    let same = one-place type_number t.0 (part_modes lists k n) (t, m) (t, j) refl refl once m_among j_among in
    ap (λ (p : TypeId × Mode). p.1) same

-- a part has one outer type
same-outer : (lists : ProgramLists) (t o p : TypeId) (m j k i : Mode) (n q : TypeNode) → IsProgram lists
    → t.0 < length lists.types → type_node lists o.0 ≡ Some n → Contains (part_modes lists k n) (t, m)
    → type_node lists p.0 ≡ Some q → Contains (part_modes lists i q) (t, j) → o ≡ p
same-outer lists t o p m j k i n q is_program inside o_there m_among p_there j_among =
    let o_at = part-stands lists t o m k n o_there m_among in
    let p_at = part-stands lists t p j i q p_there j_among in
    let stands = stands-once lists t.0 is_program inside in
    let once : count_of t.0 (flat_map node_parts lists.types) ≤ 1 = omega arith in
    ap type_with (one-part node_parts t.0 lists.types o.0 p.0 o_at.0 p_at.0 once o_at.1 p_at.1 o_at.2 p_at.2)

-- a type has one mode
pub mode-unique : {lists : ProgramLists} {t : TypeId} {m n : Mode} → IsProgram lists → HasMode lists t m
    → HasMode lists t n → m ≡ n
mode-unique {lists = lists} {t = t} {m = m} {n = n} is_program (whole m_among) (whole n_among) =
    let inside : t.0 < length lists.types = mode-in_range is_program (whole m_among) in
    let stands = stands-once lists t.0 is_program inside in
    let once : count_of t.0 (map type_number (whole_modes lists)) ≤ 1 = omega arith in
    let same = one-place type_number t.0 (whole_modes lists) (t, m) (t, n) refl refl once m_among n_among in
    ap (λ (p : TypeId × Mode). p.1) same
mode-unique {lists = lists} {t = t} {m = m} {n = n} is_program (whole m_among) (part outer k node _ there n_among) =
    let inside : t.0 < length lists.types = mode-in_range is_program (whole m_among) in
    absurd (whole-or-part lists t outer m n k node is_program inside m_among there n_among)
mode-unique {lists = lists} {t = t} {m = m} {n = n} is_program (part outer k node _ there m_among) (whole n_among) =
    let inside : t.0 < length lists.types = mode-in_range is_program (whole n_among) in
    absurd (whole-or-part lists t outer n m k node is_program inside n_among there m_among)
mode-unique {lists = lists} {t = t} {m = m} {n = n} is_program (part o k a o_mode there m_among)
    (part p i b p_mode there2 n_among) =
    let inside : t.0 < length lists.types = mode-in_range is_program (part o k a o_mode there m_among) in
    let outers : o ≡ p = same-outer lists t o p m n k i a b is_program inside there m_among there2 n_among in
    let nodes : a ≡ b = cc in
    let mode2 : HasMode lists o i = subst (λ (q : TypeId). HasMode lists q i) (sym outers) p_mode in
    let modes : k ≡ i = mode-unique is_program o_mode mode2 in
    let Among : Mode → TypeNode → Type 0 = λ j c. Contains (part_modes lists j c) (t, n) in
    let among : Among k a = subst₂ Among (sym modes) (sym nodes) n_among in
    same-part lists t o m n k a is_program inside there m_among among

-- ---- a mode for each type

-- a type that stands whole has a mode
whole-exists : (lists : ProgramLists) (t : TypeId) → Contains (map type_number (whole_modes lists)) t.0
    → (m : Mode) × HasMode lists t m
whole-exists lists t among =
    let p = contains-unmap type_number (whole_modes lists) t.0 among in
    let place : p.0 ≡ (t, p.0.1) = ap (λ (n : ℕ). let q : TypeId × Mode = (type_with n, p.0.1) in q) p.2 in
    (p.0.1, whole (subst (λ (q : TypeId × Mode). Contains (whole_modes lists) q) place p.1))

-- a part of a type that has a mode has a mode
part-exists : (lists : ProgramLists) (t outer : TypeId) (k : Mode) (n : TypeNode) → HasMode lists outer k
    → type_node lists outer.0 ≡ Some n → Contains (type_parts n) t.0 → (m : Mode) × HasMode lists t m
part-exists lists t outer k n outer_mode there among =
    let parts = part_modes lists k n in
    let numbers = sym (part-numbers lists k n) in
    let numbered : Contains (map type_number parts) t.0 = subst (λ (xs : List ℕ). Contains xs t.0) numbers among in
    let p = contains-unmap type_number parts t.0 numbered in
    let place : p.0 ≡ (t, p.0.1) = ap (λ (m : ℕ). let q : TypeId × Mode = (type_with m, p.0.1) in q) p.2 in
    (p.0.1, part outer k n outer_mode there (subst (λ (q : TypeId × Mode). Contains parts q) place p.1))

-- by the number of types from this one on: an outer type has a higher number
exists-from : (lists : ProgramLists) (left : ℕ) (t : TypeId) → IsProgram lists → t.0 < length lists.types
    → length lists.types ≤ t.0 + left → (m : Mode) × HasMode lists t m
exists-from lists zero t is_program inside enough = absurd (omega arith)
exists-from lists (suc left) t is_program inside enough =
    let wholes = map type_number (whole_modes lists) in
    elim (cases_lt 0 (count_of t.0 wholes)) [
      | inl as_whole ↦ whole-exists lists t (contained t.0 wholes (omega arith))
      | inr not_whole ↦
          let stands = stands-once lists t.0 is_program inside in
          let as_part : 1 ≤ count_of t.0 (flat_map node_parts lists.types) = omega arith in
          let p = part-with node_parts t.0 lists.types as_part in
          let outer = type_with p.0 in
          let below = is_program.parts.types p.0 p.1 p.2 in
          let lower : t.0 < outer.0 = All-contains (λ (i : ℕ). i < outer.0) (node_parts p.1) t.0 below p.3 in
          let outer_inside : outer.0 < length lists.types = slice_get_within lists.types p.0 p.1 p.2 in
          let outer_mode = exists-from lists left outer is_program outer_inside (omega arith) in
          let there = ap (option_map (λ (a : TypeAt). a.node)) p.2 in
          part-exists lists t outer outer_mode.0 p.1.node outer_mode.1 there p.3
    ]

-- each type node has a mode
pub mode-exists : (lists : ProgramLists) (t : TypeId) → IsProgram lists → t.0 < length lists.types
    → (m : Mode) × HasMode lists t m
mode-exists lists t is_program inside = exists-from lists (length lists.types) t is_program inside (omega arith)
