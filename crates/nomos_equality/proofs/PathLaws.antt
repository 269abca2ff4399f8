-- Equality along paths: what is equal is equal at equal paths, and what amounts it needs.
use Rattle.std.proofs.Common.{◌≡◌, ◌<◌, ℕ, zero, suc, length, arith, List, [], ◌∷◌, Some, subst}
use Rattle.std.proofs.lemmas.Option.{slice_get_within}
use Rattle.nomos_ir.specs.declared.amount.Amount.{Amount}
use Rattle.nomos_ir.specs.declared.ids.TypeId.{TypeId}
use Rattle.nomos_ir.specs.declared.lists.ProgramLists.{ProgramLists}
use Rattle.nomos_ir.specs.declared.type_node.TypeNode.{TypeNode}
use Rattle.nomos_ir.specs.declared.type_node.TypeAt.{TypeAt}
use Rattle.nomos_ir.specs.declared.type_node.TypeNode.TheVariants as node
use Rattle.nomos_ir.specs.Ids.{AllBelow, TypeInRange}
use Rattle.nomos_ir.specs.Nodes.{type_node}
use Rattle.nomos_ir.specs.Program.{IsProgram}
use Rattle.nomos_ir.specs.TypeParts.{type_parts}
use Rattle.nomos_ir.proofs.NodeLaws.{All-at, type_node-at}
use Rattle.nomos_ir.specs.Unfold.{Unfolds, constructor}
use Rattle.nomos_ir.proofs.UnfoldLaws.{Unfolds-unique}
use Rattle.nomos_types.specs.Amount.{Annotations, dths}
use Rattle.nomos_types.specs.Equality.{SameHead, SameUnfolding, Agree, EqualTypes, EqualShapes, no_amounts}
use Rattle.nomos_types.specs.Unfolding.{IsUnfolding}
use Rattle.nomos_types.proofs.EqualityLaws.{same_head-map, equal-unfolded, branch-below}
use Rattle.nomos_equality.specs.declared.hop.Hop.{Hop}
use Rattle.nomos_equality.specs.declared.hop.Hop.TheVariants as hop
use Rattle.nomos_equality.specs.Differences.{SameForm, DifferAt}
use Rattle.nomos_equality.specs.Paths.{PathLeads, ends, hops, part_by, paid_by, AtEqualPaths, StandAtEqualPaths}
use Rattle.nomos_equality.proofs.HeadLaws.{form-head, head-parts, head-worth}

-- related heads have the same form
pub same-form : (R : TypeId → TypeId → Type 0) (p q : TypeNode) → SameHead no_amounts R p q → SameForm p q
same-form R p q same = same_head-map (λ a b related. tt) same

-- types that are equal unfold to nodes whose heads are the same
equal-heads : (lists : ProgramLists) (x : Annotations) (a b : TypeId) (p q : TypeNode) → EqualTypes lists x a b
    → Unfolds lists a.0 p → Unfolds lists b.0 q → SameHead x (EqualTypes lists x) p q
equal-heads lists x a b p q equal left right =
    let u = equal-unfolded lists x a b p equal left in
    subst (λ (r : TypeNode). SameHead x (EqualTypes lists x) p r) (Unfolds-unique lists b.0 u.0 q u.1 right) u.2

-- equal types are equal at equal paths
pub equal-along : (lists : ProgramLists) (x : Annotations) (path : List Hop) (a b c d : TypeId) → EqualTypes lists x a b
    → PathLeads lists path a c → PathLeads lists path b d → EqualTypes lists x c d
equal-along lists x [] a b c d equal (ends _) (ends _) = equal
equal-along lists x (h ∷ path) a b c d equal (hops _ _ _ s _ n unfolds part rest)
    (hops _ _ _ t _ m unfolds2 part2 rest2) =
    equal-along lists x path s t c d
    (head-parts n m h s t (equal-heads lists x a b n m equal unfolds unfolds2) part part2) rest rest2

-- the types at a place of equal types are equal
place-heads : (lists : ProgramLists) (x : Annotations) (a b : TypeId) (place : AtEqualPaths lists a b)
    → EqualTypes lists x a b → SameHead x (EqualTypes lists x) place.left place.right
place-heads lists x a b place equal =
    equal-heads lists x place.left_type place.right_type place.left place.right
    (equal-along lists x place.path a b place.left_type place.right_type equal place.left_leads place.right_leads)
    place.left_unfolds place.right_unfolds

-- the nodes at a place of types of equal shapes have the same form
pub place-form : (lists : ProgramLists) (a b : TypeId) (place : AtEqualPaths lists a b) → EqualShapes lists a b
    → SameForm place.left place.right
place-form lists a b place equal = same-form _ _ _ (place-heads lists no_amounts a b place equal)

-- types that differ at the end of a path do not have equal shapes
pub differ-unequal : (lists : ProgramLists) (a b : TypeId) (path : List Hop) → DifferAt lists a b path
    → EqualShapes lists a b → ⊥
differ-unequal lists a b path differ equal =
    differ.differ (place-form lists a b differ.place equal)

-- the amounts at equal paths of equal types have the same worth
pub equal-worth : (lists : ProgramLists) (x : Annotations) (a b : TypeId) (p : Amount × Amount) → EqualTypes lists x a b
    → StandAtEqualPaths lists a b p → dths x p.0 ≡ dths x p.1
equal-worth lists x a b p equal stand =
    head-worth x _ _ p.0 p.1 (place-heads lists x a b stand.place equal) stand.left_pays stand.right_pays

-- what stands at equal paths of two parts stands at equal paths of the wholes
pub stand-behind : (lists : ProgramLists) (a b c d : TypeId) (n m : TypeNode) (h : Hop) (p : Amount × Amount)
    → Unfolds lists a.0 n → Unfolds lists b.0 m → part_by n h ≡ Some c → part_by m h ≡ Some d
    → StandAtEqualPaths lists c d p → StandAtEqualPaths lists a b p
stand-behind lists a b c d n m h p left right left_part right_part stand =
    let place = stand.place in
    record {
      place = record {
        path = h ∷ place.path;
        left_type = place.left_type;
        right_type = place.right_type;
        left_leads = hops h place.path a c place.left_type n left left_part place.left_leads;
        right_leads = hops h place.path b d place.right_type m right right_part place.right_leads;
        left = place.left;
        right = place.right;
        left_unfolds = place.left_unfolds;
        right_unfolds = place.right_unfolds;
      };
      left_pays = stand.left_pays;
      right_pays = stand.right_pays;
    }

-- the amounts of what two types unfold to stand at equal paths
pub stand-here : (lists : ProgramLists) (a b : TypeId) (n m : TypeNode) (p : Amount × Amount) → Unfolds lists a.0 n
    → Unfolds lists b.0 m → paid_by n ≡ Some p.0 → paid_by m ≡ Some p.1 → StandAtEqualPaths lists a b p
stand-here lists a b n m p left right left_pays right_pays =
    record {
      place = record {
        path = [];
        left_type = a;
        right_type = b;
        left_leads = ends a;
        right_leads = ends b;
        left = n;
        right = m;
        left_unfolds = left;
        right_unfolds = right;
      };
      left_pays = left_pays;
      right_pays = right_pays;
    }

-- types of equal shapes, whose amounts at equal paths have the same worth, agree to each depth
agree-worth : (lists : ProgramLists) (x : Annotations) (n : ℕ) (a b : TypeId) → EqualShapes lists a b
    → ((p : Amount × Amount) → StandAtEqualPaths lists a b p → dths x p.0 ≡ dths x p.1) → Agree lists x n a b
agree-worth lists x zero a b shapes worth = tt
agree-worth lists x (suc n) a b shapes worth =
    let u : SameUnfolding lists no_amounts (Agree lists no_amounts zero) a b = shapes (suc zero) in
    let heads : SameHead no_amounts (EqualShapes lists) u.left u.right =
    equal-heads lists no_amounts a b u.left u.right shapes u.left_unfolds u.right_unfolds
    in
    record {
      left = u.left;
      right = u.right;
      left_unfolds = u.left_unfolds;
      right_unfolds = u.right_unfolds;
      same = form-head u.left u.right (same-form _ _ _ heads)
          (λ h c d left_part right_part.
          agree-worth lists x n c d (head-parts u.left u.right h c d heads left_part right_part)
          (λ p stand. worth p (stand-behind lists a b c d u.left u.right h p u.left_unfolds u.right_unfolds left_part
          right_part stand)))
          (λ q r left_pays right_pays. worth (q, r)
          (stand-here lists a b u.left u.right (q, r) u.left_unfolds u.right_unfolds left_pays right_pays));
    }

-- types of equal shapes are equal under amounts that have the same worth at equal paths
pub equal-from_worth : (lists : ProgramLists) (x : Annotations) (a b : TypeId) → EqualShapes lists a b
    → ((p : Amount × Amount) → StandAtEqualPaths lists a b p → dths x p.0 ≡ dths x p.1) → EqualTypes lists x a b
equal-from_worth lists x a b shapes worth = λ n. agree-worth lists x n a b shapes worth

-- ---- behind names

-- a type unfolds to what the type behind its name unfolds to
pub behind-name : (lists : ProgramLists) (t u : ℕ) (n : TypeNode) → IsUnfolding lists t u → Unfolds lists u n
    → Unfolds lists t n
behind-name lists t u n behind unfolds =
    let same : behind.node ≡ n = Unfolds-unique lists u behind.node n
    (constructor u behind.node behind.there behind.no_name) unfolds in
    subst (λ (m : TypeNode). Unfolds lists t m) same behind.unfolds

-- and the other way
pub before-name : (lists : ProgramLists) (t u : ℕ) (n : TypeNode) → IsUnfolding lists t u → Unfolds lists t n
    → Unfolds lists u n
before-name lists t u n behind unfolds =
    let same : behind.node ≡ n = Unfolds-unique lists t behind.node n behind.unfolds unfolds in
    subst (λ (m : TypeNode). Unfolds lists u m) same (constructor u behind.node behind.there behind.no_name)

-- the node there is what the type unfolds to
pub node-behind : (lists : ProgramLists) (t u : ℕ) (n : TypeNode) → IsUnfolding lists t u → type_node lists u ≡ Some n
    → Unfolds lists t n
node-behind lists t u n behind there =
    let found = behind.there in
    let same : behind.node ≡ n = cc in
    subst (λ (m : TypeNode). Unfolds lists t m) same behind.unfolds

-- agreement behind names is agreement
pub agree-behind : (lists : ProgramLists) (x : Annotations) (n : ℕ) (a b u v : TypeId) → IsUnfolding lists a.0 u.0
    → IsUnfolding lists b.0 v.0 → Agree lists x n u v → Agree lists x n a b
agree-behind lists x zero a b u v left right agree = tt
agree-behind lists x (suc n) a b u v left right agree =
    record {
      left = agree.left;
      right = agree.right;
      left_unfolds = behind-name lists a.0 u.0 agree.left left agree.left_unfolds;
      right_unfolds = behind-name lists b.0 v.0 agree.right right agree.right_unfolds;
      same = agree.same;
    }

-- a path from a type, as one from the type behind its name: it ends at the type behind its name, or where it ended
pub leads-behind : (lists : ProgramLists) (path : List Hop) (a u c : TypeId) (n : TypeNode) → IsUnfolding lists a.0 u.0
    → PathLeads lists path a c → Unfolds lists c.0 n → (d : TypeId) × PathLeads lists path u d × Unfolds lists d.0 n
leads-behind lists [] a u c n behind (ends _) unfolds = (u, ends u, before-name lists a.0 u.0 n behind unfolds)
leads-behind lists (h ∷ path) a u c n behind (hops _ _ _ s _ m first part rest) unfolds =
    (c, hops h path u s c m (before-name lists a.0 u.0 m behind first) part rest, unfolds)

-- what stands at equal paths stands there from behind names too
pub stand-from_behind : (lists : ProgramLists) (a b u v : TypeId) (p : Amount × Amount) → IsUnfolding lists a.0 u.0
    → IsUnfolding lists b.0 v.0 → StandAtEqualPaths lists a b p → StandAtEqualPaths lists u v p
stand-from_behind lists a b u v p left right stand =
    let place = stand.place in
    let l = leads-behind lists place.path a u place.left_type place.left left place.left_leads place.left_unfolds in
    let r = leads-behind lists place.path b v place.right_type place.right right place.right_leads
    place.right_unfolds in
    record {
      place = record {
        path = place.path;
        left_type = l.0;
        right_type = r.0;
        left_leads = l.1;
        right_leads = r.1;
        left = place.left;
        right = place.right;
        left_unfolds = l.2;
        right_unfolds = r.2;
      };
      left_pays = stand.left_pays;
      right_pays = stand.right_pays;
    }

-- ---- numbers in range

-- the parts of a node in range are in range
part-in_range : (n : ℕ) (node_at : TypeNode) (h : Hop) (s : TypeId) → AllBelow n (type_parts node_at)
    → part_by node_at h ≡ Some s → s.0 < n
part-in_range n (node.Plus bs) (hop.Label l) s parts found = branch-below n bs l s parts found
part-in_range n (node.With bs) (hop.Label l) s parts found = branch-below n bs l s parts found
part-in_range n (node.Tensor a b) hop.Carried s parts found =
    let same : a ≡ s = cc in subst (λ (t : TypeId). t.0 < n) same (parts 0 0 (omega arith))
part-in_range n (node.Tensor a b) hop.Next s parts found =
    let same : b ≡ s = cc in subst (λ (t : TypeId). t.0 < n) same (parts 1 0 (omega arith))
part-in_range n (node.Lolli a b) hop.Carried s parts found =
    let same : a ≡ s = cc in subst (λ (t : TypeId). t.0 < n) same (parts 0 0 (omega arith))
part-in_range n (node.Lolli a b) hop.Next s parts found =
    let same : b ≡ s = cc in subst (λ (t : TypeId). t.0 < n) same (parts 1 0 (omega arith))
part-in_range n (node.ValueOut k a) hop.Next s parts found =
    let same : a ≡ s = cc in subst (λ (t : TypeId). t.0 < n) same (parts 0 0 (omega arith))
part-in_range n (node.ValueIn k a) hop.Next s parts found =
    let same : a ≡ s = cc in subst (λ (t : TypeId). t.0 < n) same (parts 0 0 (omega arith))
part-in_range n (node.PotOut q a) hop.Next s parts found =
    let same : a ≡ s = cc in subst (λ (t : TypeId). t.0 < n) same (parts 0 0 (omega arith))
part-in_range n (node.PotIn q a) hop.Next s parts found =
    let same : a ≡ s = cc in subst (λ (t : TypeId). t.0 < n) same (parts 0 0 (omega arith))
part-in_range n (node.Up a) hop.Next s parts found =
    let same : a ≡ s = cc in subst (λ (t : TypeId). t.0 < n) same (parts 0 0 (omega arith))
part-in_range n (node.Down a) hop.Next s parts found =
    let same : a ≡ s = cc in subst (λ (t : TypeId). t.0 < n) same (parts 0 0 (omega arith))
part-in_range n m (hop.Label l) s parts found = absurd cc
part-in_range n m hop.Next s parts found = absurd cc
part-in_range n m hop.Carried s parts found = absurd cc

-- the part of a type of a program is a type of the program
pub part-below : (lists : ProgramLists) (t : ℕ) (n : TypeNode) (h : Hop) (s : TypeId) → IsProgram lists
    → type_node lists t ≡ Some n → part_by n h ≡ Some s → s.0 < length lists.types
part-below lists t n h s is_program there found =
    let at = type_node-at lists t n there in
    let parts : AllBelow (length lists.types) (type_parts n) =
    subst (λ (m : TypeNode). AllBelow (length lists.types) (type_parts m)) at.2
    (All-at (λ (e : TypeAt). TypeInRange lists e.node) lists.types t at.0 is_program.ids.types at.1).parts
    in
    part-in_range (length lists.types) n h s parts found

-- a type whose node is known is one of the program
pub there-below : (lists : ProgramLists) (t : ℕ) (n : TypeNode) → type_node lists t ≡ Some n → t < length lists.types
there-below lists t n there = let at = type_node-at lists t n there in slice_get_within lists.types t at.0 at.1
