-- A mirror of how the code goes over a type. No promise stands on it.
use Rattle.std.specs.Prelude.{ℕ, List, [], ◌∷◌}
use Rattle.nomos_elaborate.specs.Built.{put_type, amount_of, kind_of}
use Rattle.nomos_elaborate.specs.NameClaim.{declared, new_among}
use Rattle.nomos_elaborate.specs.Names.{Names, seen, number_of}
use Rattle.nomos_elaborate.specs.TypeBuild.{choice_node, channel_node, value_node, paying_node}
use Rattle.nomos_elaborate.specs.declared.elaborator.Elaborator.{Elaborator}
use Rattle.nomos_elaborate.specs.mirror.Checked.{Checked, found, demand, ◌>>=◌}
use Rattle.nomos_elaborate.specs.mirror.Work.{made, label_seen}
use Rattle.nomos_ir.specs.declared.ids.DefId.{DefId}
use Rattle.nomos_ir.specs.declared.ids.Label.{Label}
use Rattle.nomos_ir.specs.declared.ids.TypeId.{TypeId}
use Rattle.nomos_ir.specs.declared.type_node.Branch.{Branch}
use Rattle.nomos_ir.specs.declared.type_node.TypeNode.{TypeNode}
use Rattle.nomos_ir.specs.declared.type_node.TypeNode.TheVariants as node
use Rattle.nomos_surface.specs.declared.name_at.NameAt.{NameAt}
use Rattle.nomos_surface.specs.Tree.{TypeTree, one, named, choice, channel, valued, paying, going_up, going_down, grouped, BranchTrees, no_branches, branch}

-- the next type node
abbrev pub type_made : Elaborator → TypeNode → ℕ → Elaborator × TypeId
type_made w n at = made w (put_type w.built n at)

-- the state of the walk over branches: the labels before a branch too
abbrev pub Labelled : Type 0
Labelled = Elaborator × Names

-- a label that is new among those before it, and what it goes on with
abbrev pub the_branch : Elaborator × TypeId → Names → Label → Labelled × Branch
the_branch goes before l = ((goes.0, before), record { label = l; goes = goes.1 })

abbrev pub check_branch : (Elaborator → Checked (Elaborator × TypeId)) → Labelled → NameAt → Checked (Labelled × Branch)
check_branch goes v l = do
  _ ← demand (new_among v.1 l)
  b ← goes (made v.0 (label_seen v.0.built l)).0
  found (the_branch b (seen v.1 l.name) (label_seen v.0.built l).1)

-- the branches, where the labels before them are needed no more
abbrev pub branches_alone : Checked (Labelled × List Branch) → Checked (Elaborator × List Branch)
branches_alone branches = do
  b ← branches
  found (b.0.0, b.1)

-- the number of a declared definition
abbrev pub check_definition : Elaborator → NameAt → Checked DefId
check_definition w n = do
  _ ← demand (declared w.spaces.types n)
  found (record { 0 = number_of w.spaces.types n.name })

unfoldable mutual
  pub check_type : Elaborator → TypeTree → Checked (Elaborator × TypeId)
  check_type w (one at) = found (type_made w node.One at)
  check_type w (named n) = do
    d ← check_definition w n
    found (type_made w (node.Named d) n.at)
  check_type w (choice sender at branches) = do
    b ← branches_alone (check_branches (w, []) branches)
    found (type_made b.0 (choice_node sender b.1) at)
  check_type w (channel sender at carried goes) = do
    a ← check_type w carried
    b ← check_type a.0 goes
    found (type_made b.0 (channel_node sender a.1 b.1) at)
  check_type w (valued sender at value goes) = do
    a ← check_type w goes
    found (type_made a.0 (value_node sender (kind_of value) a.1) at)
  check_type w (paying sender at potential goes) = do
    a ← check_type (made w (amount_of w.built potential)).0 goes
    found (type_made a.0 (paying_node sender (amount_of w.built potential).1 a.1) at)
  check_type w (going_up at goes) = do
    a ← check_type w goes
    found (type_made a.0 (node.Up a.1) at)
  check_type w (going_down at goes) = do
    a ← check_type w goes
    found (type_made a.0 (node.Down a.1) at)
  check_type w (grouped inner) = check_type w inner

  pub check_branches : Labelled → BranchTrees → Checked (Labelled × List Branch)
  check_branches v no_branches = found (v, [])
  check_branches v (branch l goes branches) = do
    a ← check_branch (λ w. check_type w goes) v l
    b ← check_branches a.0 branches
    found (b.0, a.1 ∷ b.1)
