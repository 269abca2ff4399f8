-- A table in which the modes of parts are set from the last type node down to the first has the mode of each type node.
use Rattle.std.proofs.Common.{◌≡◌, ◌≢◌, ◌≤◌, ◌<◌, ℕ, zero, suc, ◌==◌, Bool, true, false, List, [], ◌∷◌, length, set, Contains, Some, slice_get, refl, subst, sym, ap, ◌∙◌, arith, eqb-true}
use Rattle.std.specs.Prelude.{slice_set}
use Rattle.std.proofs.lemmas.Bool.{eqb-false}
use Rattle.std.proofs.lemmas.List.{length-set}
use Rattle.std.proofs.lemmas.List.Elements.{All-contains}
use Rattle.std.proofs.lemmas.Option.{slice_get_within}
use Rattle.nomos_ir.specs.Ids.{AllBelow}
use Rattle.nomos_ir.specs.TypeParts.{type_parts}
use Rattle.nomos_ir.proofs.NodeLaws.{type_node-at}
use Rattle.nomos_ir.specs.declared.ids.TypeId.{TypeId}
use Rattle.nomos_ir.specs.declared.lists.ProgramLists.{ProgramLists}
use Rattle.nomos_ir.specs.declared.mode.Mode.{Mode}
use Rattle.nomos_ir.specs.declared.type_node.TypeNode.{TypeNode}
use Rattle.nomos_ir.specs.Nodes.{type_node}
use Rattle.nomos_ir.specs.Program.{IsProgram}
use Rattle.nomos_types.proofs.ModeLaws.{mode-unique, mode-exists, mode-in_range, part-number}
use Rattle.nomos_types.proofs.ModeSettingLemmas.{length-with_modes}
use Rattle.nomos_types.specs.Modes.{HasMode, whole, part, part_modes, whole_modes}
use Rattle.nomos_types.specs.ModeTable.{AreModesOf}
use Rattle.nomos_types.specs.mirror.ModeSetting.{with_modes}

-- the modes of wholes are set, and those of the parts of all nodes from k on
pub record IsDoneFrom (lists : ProgramLists) (k : ℕ) (modes : List Mode) : Type 0 where
  pub each : length modes ≡ length lists.types
  pub within : k ≤ length lists.types
  pub wholes : (t : TypeId) (m : Mode) → Contains (whole_modes lists) (t, m) → slice_get modes t.0 ≡ Some m
  pub parts : (outer : TypeId) (n : Mode) (node : TypeNode) (t : TypeId) (m : Mode) → k ≤ outer.0
      → HasMode lists outer n → type_node lists outer.0 ≡ Some node → Contains (part_modes lists n node) (t, m)
      → slice_get modes t.0 ≡ Some m

-- what is set at a place is there
set-here : (modes : List Mode) (i : ℕ) (m : Mode) → i < length modes → slice_get (slice_set modes i m) i ≡ Some m
set-here [] i m inside = absurd (omega arith)
set-here (x ∷ modes) zero m inside = refl
set-here (x ∷ modes) (suc i) m inside = set-here modes i m (omega arith)

-- what is set elsewhere changes nothing here
set-elsewhere : (modes : List Mode) (i j : ℕ) (m : Mode) → j ≢ i → slice_get (slice_set modes i m) j ≡ slice_get modes j
set-elsewhere [] i j m other = refl
set-elsewhere (x ∷ modes) zero zero m other = absurd (other refl)
set-elsewhere (x ∷ modes) zero (suc j) m other = refl
set-elsewhere (x ∷ modes) (suc i) zero m other = refl
set-elsewhere (x ∷ modes) (suc i) (suc j) m other = set-elsewhere modes i j m (λ same. other (ap suc same))

-- only this mode is set for the type
abbrev SetsOnly : List (TypeId × Mode) → TypeId → Mode → Type 0
SetsOnly ps t m = (n : Mode) → Contains ps (t, n) → n ≡ m

-- the same of those behind the first
sets-only-later : (p : TypeId × Mode) (ps : List (TypeId × Mode)) (t : TypeId) (m : Mode) → SetsOnly (p ∷ ps) t m
    → SetsOnly ps t m
sets-only-later p ps t m only = λ n (k, inside, is). only n (suc k, omega arith, is)

-- the first keeps a mode that is there, where only it is set
first-keeps : (p : TypeId × Mode) (ps : List (TypeId × Mode)) (modes : List Mode) (t : TypeId) (m : Mode) (b : Bool)
    → (t.0 == p.0.0) ≡ b → slice_get modes t.0 ≡ Some m → SetsOnly (p ∷ ps) t m
    → slice_get (slice_set modes p.0.0 p.1) t.0 ≡ Some m
first-keeps p ps modes t m true here there only =
    let place : t.0 ≡ p.0.0 = eqb-true t.0 p.0.0 here in
    let own : p.0 ≡ t = ap (λ (k : ℕ). let id : TypeId = record { 0 = k } in id) (sym place) in
    let first : p ≡ (t, p.1) = ap (λ (u : TypeId). let q : TypeId × Mode = (u, p.1) in q) own in
    let mode : p.1 ≡ m = only p.1 (0, omega arith, first) in
    let set : slice_get (slice_set modes t.0 p.1) t.0
    ≡ Some p.1 = set-here modes t.0 p.1 (slice_get_within modes t.0 m there) in
    subst (λ (k : ℕ). slice_get (slice_set modes k p.1) t.0 ≡ Some m) place (set ∙ ap Some mode)
first-keeps p ps modes t m false here there only =
    set-elsewhere modes p.0.0 t.0 p.1 (eqb-false t.0 p.0.0 here) ∙ there

-- a mode that is there stays, where only it is set
with_modes-keeps : (ps : List (TypeId × Mode)) (modes : List Mode) (t : TypeId) (m : Mode)
    → slice_get modes t.0 ≡ Some m → SetsOnly ps t m → slice_get (with_modes ps modes) t.0 ≡ Some m
with_modes-keeps [] modes t m there only = there
with_modes-keeps (p ∷ ps) modes t m there only =
    with_modes-keeps ps (slice_set modes p.0.0 p.1) t m (first-keeps p ps modes t m (t.0 == p.0.0) refl there only)
    (sets-only-later p ps t m only)

-- a mode that is set is there, where only it is set
with_modes-sets : (ps : List (TypeId × Mode)) (modes : List Mode) (t : TypeId) (m : Mode) → Contains ps (t, m)
    → t.0 < length modes → SetsOnly ps t m → slice_get (with_modes ps modes) t.0 ≡ Some m
with_modes-sets [] modes t m (k, inside, is) within only = absurd (omega arith)
with_modes-sets (p ∷ ps) modes t m (zero, inside, is) within only =
    let set : slice_get (slice_set modes t.0 m) t.0 ≡ Some m = set-here modes t.0 m within in
    let first : slice_get (slice_set modes p.0.0 p.1) t.0
    ≡ Some m = subst (λ (q : TypeId × Mode). slice_get (slice_set modes q.0.0 q.1) t.0 ≡ Some m) (sym is) set in
    with_modes-keeps ps (slice_set modes p.0.0 p.1) t m first (sets-only-later p ps t m only)
with_modes-sets (p ∷ ps) modes t m (suc k, inside, is) within only =
    let still : t.0 < length (slice_set modes p.0.0 p.1) = rw (length-set modes p.0.0 p.1) within in
    with_modes-sets ps (slice_set modes p.0.0 p.1) t m (k, omega arith, is) still (sets-only-later p ps t m only)

module _ {lists : ProgramLists} (is_program : IsProgram lists) where
  -- wholes have one mode, and so have the parts of one node
  wholes-only : (t : TypeId) (m : Mode) → HasMode lists t m → SetsOnly (whole_modes lists) t m
  wholes-only t m has = λ n among. mode-unique is_program (whole among) has

  parts-only : (outer : TypeId) (k : Mode) (node : TypeNode) (t : TypeId) (m : Mode) → HasMode lists outer k
      → type_node lists outer.0 ≡ Some node → HasMode lists t m → SetsOnly (part_modes lists k node) t m
  parts-only outer k node t m outer_has there has =
      λ n among. mode-unique is_program (part outer k node outer_has there among) has

  -- parts are lower than their node
  part-lower : (outer : TypeId) (k : Mode) (node : TypeNode) (t : TypeId) (m : Mode)
      → type_node lists outer.0 ≡ Some node → Contains (part_modes lists k node) (t, m) → t.0 < outer.0
  part-lower outer k node t m there among =
      let (at, found, is) = type_node-at lists outer.0 node there in
      let below : AllBelow outer.0 (type_parts node) = subst (λ (n : TypeNode). AllBelow outer.0 (type_parts n)) is
      (is_program.parts.types outer.0 at found) in
      All-contains (λ (i : ℕ). i < outer.0) (type_parts node) t.0 below (part-number lists k m node t among)

  -- at the beginning the wholes are set
  pub done-init : (modes : List Mode) → length modes ≡ length lists.types
      → IsDoneFrom lists (length lists.types) (with_modes (whole_modes lists) modes)
  done-init modes each = record {
    each = length-with_modes (whole_modes lists) modes ∙ each;
    within = omega arith;
    wholes = λ t m among.
        let has : HasMode lists t m = whole among in
        let inside = mode-in_range is_program has in
        with_modes-sets (whole_modes lists) modes t m among (omega (arith, each)) (wholes-only t m has);
    parts = λ outer n node t m above has there among.
        let inside = mode-in_range is_program has in
        absurd (omega arith);
  }

  -- a type whose wholes are done has its mode
  known-from : (k : ℕ) (modes : List Mode) (t : TypeId) (m : Mode) → IsDoneFrom lists k modes → k ≤ suc t.0
      → HasMode lists t m → slice_get modes t.0 ≡ Some m
  known-from k modes t m done above (whole among) = done.wholes t m among
  known-from k modes t m done above (part outer n node has there among) =
      let lower = part-lower outer n node t m there among in
      done.parts outer n node t m (omega arith) has there among

  -- one node more
  step-parts : (k : ℕ) (modes : List Mode) (node : TypeNode) (n : Mode) (own : TypeId) → own.0 ≡ k
      → IsDoneFrom lists (suc k) modes → type_node lists own.0 ≡ Some node → HasMode lists own n
      → (outer : TypeId) (o : Mode) (other : TypeNode) (t : TypeId) (m : Mode) → k ≤ outer.0 → HasMode lists outer o
      → type_node lists outer.0 ≡ Some other → Contains (part_modes lists o other) (t, m) → (b : Bool)
      → (outer.0 == own.0) ≡ b → slice_get (with_modes (part_modes lists n node) modes) t.0 ≡ Some m
  step-parts k modes node n own place done there has outer o other t m above outer_has outer_there among true here =
      let same : outer ≡ own = ap (λ (i : ℕ). let id : TypeId = record { 0 = i } in id) (eqb-true outer.0 own.0 here) in
      let part_has : HasMode lists t m = part outer o other outer_has outer_there among in
      let modes_same : o ≡ n = mode-unique is_program (subst (λ (u : TypeId). HasMode lists u o) same outer_has) has in
      let node_there : type_node lists own.0
      ≡ Some other = subst (λ (u : TypeId). type_node lists u.0 ≡ Some other) same outer_there in
      let nodes_same : other ≡ node = cc in
      let among_here : Contains (part_modes lists n node) (t, m) =
      subst (λ (u : Mode). Contains (part_modes lists u node) (t, m)) modes_same
      (subst (λ (u : TypeNode). Contains (part_modes lists o u) (t, m)) nodes_same among) in
      let inside = mode-in_range is_program part_has in
      with_modes-sets (part_modes lists n node) modes t m among_here (omega (arith, done.each))
      (parts-only own n node t m has there part_has)
  step-parts k modes node n own place done there has outer o other t m above outer_has outer_there among false here =
      let apart : outer.0 ≢ own.0 = eqb-false outer.0 own.0 here in
      let higher : suc k ≤ outer.0 = omega arith in
      let part_has : HasMode lists t m = part outer o other outer_has outer_there among in
      with_modes-keeps (part_modes lists n node) modes t m
      (done.parts outer o other t m higher outer_has outer_there among)
      (parts-only own n node t m has there part_has)

  pub done-step : (k : ℕ) (modes : List Mode) (node : TypeNode) (n : Mode) → IsDoneFrom lists (suc k) modes
      → type_node lists k ≡ Some node → slice_get modes k ≡ Some n
      → IsDoneFrom lists k (with_modes (part_modes lists n node) modes)
  done-step k modes node n done there set =
      let own : TypeId = record { 0 = k } in
      let (m, has) = mode-exists lists own is_program (omega (arith, done.within)) in
      let known : slice_get modes k ≡ Some m = known-from (suc k) modes own m done (omega arith) has in
      let same : m ≡ n = cc in
      let own_has : HasMode lists own n = subst (λ (o : Mode). HasMode lists own o) same has in
      record {
        each = length-with_modes (part_modes lists n node) modes ∙ done.each;
        within = omega (arith, done.within);
        wholes =
            λ t o among. with_modes-keeps (part_modes lists n node) modes t o (done.wholes t o among)
            (parts-only own n node t o own_has there (whole among));
        parts =
            λ outer o other t p above outer_has outer_there among.
            step-parts k modes node n own refl done there own_has outer o other t p above outer_has outer_there among
            (outer.0 == own.0) refl;
      }

  -- at the end each type has its mode
  pub done-all : (modes : List Mode) → IsDoneFrom lists 0 modes → AreModesOf lists modes
  done-all modes done = record { each = done.each; own = λ t m has. known-from 0 modes t m done (omega arith) has }
