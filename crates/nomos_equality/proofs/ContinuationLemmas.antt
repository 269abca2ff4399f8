-- Continuations by hops, and as a list.
use Rattle.std.proofs.Common.{◌≡◌, ◌≢◌, ◌<◌, ◌==◌, ℕ, zero, suc, Bool, true, false, cond, List, [], ◌∷◌, map, length, get_or, Contains, find, Option, Some, option_map, refl, sym, ap, subst, ◌∙◌, eq-eqb, ne_eqb, arith}
use Rattle.std.proofs.lemmas.List.{get_or-map, length-map}
use Rattle.std.proofs.lemmas.List.Elements.{Contains-get_or}
use Rattle.nomos_ir.specs.declared.ids.Label.{Label}
use Rattle.nomos_ir.specs.declared.ids.TypeId.{TypeId}
use Rattle.nomos_ir.specs.declared.lists.ProgramLists.{ProgramLists}
use Rattle.nomos_ir.specs.declared.type_node.Branch.{Branch}
use Rattle.nomos_ir.specs.declared.type_node.TypeAt.{TypeAt}
use Rattle.nomos_ir.specs.declared.type_node.TypeNode.{TypeNode}
use Rattle.nomos_ir.specs.declared.type_node.TypeNode.TheVariants as node
use Rattle.nomos_ir.specs.Naming.{AllDiffer}
use Rattle.nomos_ir.specs.Nodes.{type_node}
use Rattle.nomos_ir.specs.Program.{IsProgram}
use Rattle.nomos_ir.specs.TypeParts.{type_labels}
use Rattle.nomos_ir.proofs.NodeLaws.{All-at, type_node-at}
use Rattle.nomos_types.proofs.OccurrenceLaws.{contains-map, contains-unmap}
use Rattle.nomos_types.specs.Branches.{goes_by}
use Rattle.nomos_types.specs.Synchronizing.{continuations, Reaches, further}
use Rattle.nomos_equality.specs.declared.hop.Hop.{Hop}
use Rattle.nomos_equality.specs.declared.hop.Hop.TheVariants as hop
use Rattle.nomos_equality.specs.Paths.{part_by, choices_of}
use Rattle.nomos_equality.proofs.HeadLaws.{goes-label}
use Rattle.nomos_equality.proofs.PathLaws.{part-below}
use Rattle.nomos_equality.specs.Continuing.{continuation_by, behind_down, Continues, stops, continues}

-- the only element
pub one-element : {X : Type 0} (x y : X) → Contains (x ∷ []) y → x ≡ y
one-element x y (zero, inside, is) = is
one-element x y (suc k, inside, is) = absurd (omega arith)

-- ---- where labels differ, a choice goes on after the label of a branch as the branch says

tested-first : (b : Branch) (rest : Option Branch) (passes : Bool) → passes ≡ true
    → option_map (λ c. c.goes) (cond passes (Some b) rest) ≡ Some b.goes
tested-first b rest true is = refl
tested-first b rest false is = absurd cc

tested-later : (b : Branch) (rest : Option Branch) (passes : Bool) (t : TypeId) → passes ≡ false
    → option_map (λ c. c.goes) rest ≡ Some t → option_map (λ c. c.goes) (cond passes (Some b) rest) ≡ Some t
tested-later b rest true t is goes = absurd cc
tested-later b rest false t is goes = goes

pub goes-own : (bs : List Branch) → AllDiffer (map (λ b. b.label.0) bs) → (c : Branch) → Contains bs c
    → goes_by bs c.label ≡ Some c.goes
goes-own [] differ c among = absurd (omega (arith, among.1))
goes-own (b ∷ bs) differ c (zero, inside, is) =
    let same : b ≡ c = is in
    subst (λ (d : Branch). goes_by (b ∷ bs) d.label ≡ Some d.goes) same
    (tested-first b (find (λ e. e.label.0 == b.label.0) bs) (b.label.0 == b.label.0) (eq-eqb b.label.0 b.label.0 refl))
goes-own (b ∷ bs) differ c (suc k, inside, is) =
    let numbers = map (λ (d : Branch). d.label.0) bs in
    let below : k < length bs = omega arith in
    let mapped : k < length numbers = rw length-map below in
    let apart : b.label.0 ≢ get_or numbers k c.label.0 = differ 0 (suc k) c.label.0 (omega arith)
    (omega (arith, mapped)) in
    let other : get_or numbers k c.label.0
    ≡ c.label.0 = get_or-map (λ (d : Branch). d.label.0) bs k c c.label.0 below
    ∙ ap (λ (d : Branch). d.label.0) is in
    let different : b.label.0 ≢ c.label.0 = λ e. apart (e ∙ sym other) in
    let rest : AllDiffer numbers = λ i j d less in_rest. differ (suc i) (suc j) d (omega arith) (omega arith) in
    tested-later b (find (λ e. e.label.0 == c.label.0) bs) (b.label.0 == c.label.0) c.goes
    (ne_eqb b.label.0 c.label.0 different) (goes-own bs rest c (k, below, is))

-- the labels of a choice of a program differ
pub labels-differ : (lists : ProgramLists) (t : ℕ) (n : TypeNode) → IsProgram lists → type_node lists t ≡ Some n
    → AllDiffer (type_labels n)
labels-differ lists t n is_program there =
    let at = type_node-at lists t n there in
    subst (λ (m : TypeNode). AllDiffer (type_labels m)) at.2
    (All-at (λ (e : TypeAt). AllDiffer (type_labels e.node)) lists.types t at.0 is_program.labels.choices at.1)

-- the numbers of the labels of a choice differ
choice-differs : (n : TypeNode) → AllDiffer (type_labels n) → AllDiffer (map (λ b. b.label.0) (choices_of n))
choice-differs (node.Plus bs) differ = differ
choice-differs (node.With bs) differ = differ
choice-differs n differ = λ i j d less inside. absurd (omega (arith, inside))

-- after the label of a branch a choice of a program goes on as the branch says
pub branch-goes : (lists : ProgramLists) (at : ℕ) (n : TypeNode) (branch : Branch) → IsProgram lists
    → type_node lists at ≡ Some n → Contains (choices_of n) branch
    → goes_by (choices_of n) branch.label ≡ Some branch.goes
branch-goes lists at n branch is_program there among =
    goes-own (choices_of n) (choice-differs n (labels-differ lists at n is_program there)) branch among

-- ---- both forms

branch-hop : (bs : List Branch) (s : TypeId) → AllDiffer (map (λ b. b.label.0) bs) → Contains (map (λ b. b.goes) bs) s
    → (h : Hop) × (l : Label) × (h ≡ hop.Label l) × (goes_by bs l ≡ Some s)
branch-hop bs s differ among =
    let c = contains-unmap (λ (b : Branch). b.goes) bs s among in
    (hop.Label c.0.label, c.0.label, refl, goes-own bs differ c.0 c.1 ∙ ap (λ (t : TypeId). Some t) c.2)

-- each continuation is one by a hop
pub continuation-hop : (n : TypeNode) (s : TypeId) → AllDiffer (type_labels n) → Contains (continuations n) s
    → (h : Hop) × (continuation_by n h ≡ Some s)
continuation-hop (node.Plus bs) s differ among = let r = branch-hop bs s differ among in (hop.Label r.1, r.3)
continuation-hop (node.With bs) s differ among = let r = branch-hop bs s differ among in (hop.Label r.1, r.3)
continuation-hop (node.Tensor a b) s differ among = (hop.Next, ap (λ (t : TypeId). Some t) (one-element b s among))
continuation-hop (node.Lolli a b) s differ among = (hop.Next, ap (λ (t : TypeId). Some t) (one-element b s among))
continuation-hop (node.ValueOut k a) s differ among = (hop.Next, ap (λ (t : TypeId). Some t) (one-element a s among))
continuation-hop (node.ValueIn k a) s differ among = (hop.Next, ap (λ (t : TypeId). Some t) (one-element a s among))
continuation-hop (node.PotOut q a) s differ among = (hop.Next, ap (λ (t : TypeId). Some t) (one-element a s among))
continuation-hop (node.PotIn q a) s differ among = (hop.Next, ap (λ (t : TypeId). Some t) (one-element a s among))
continuation-hop n s differ among = absurd (omega (arith, among.1))

pub branch-among : (bs : List Branch) (l : Label) (s : TypeId) → goes_by bs l ≡ Some s
    → Contains (map (λ b. b.goes) bs) s
branch-among bs l s found = let c = goes-label bs l s found in contains-map (λ (b : Branch). b.goes) bs c.0 s c.1 c.3

only : (a s : TypeId) → Some a ≡ Some s → Contains (a ∷ []) s
only a s found =
    let same : a ≡ s = cc in
    subst (λ (t : TypeId). Contains (a ∷ []) t) same (Contains-get_or (a ∷ []) 0 a (omega arith))

-- a continuation by a hop is one
pub hop-continuation : (n : TypeNode) (h : Hop) (s : TypeId) → continuation_by n h ≡ Some s
    → Contains (continuations n) s
hop-continuation (node.Plus bs) (hop.Label l) s found = branch-among bs l s found
hop-continuation (node.With bs) (hop.Label l) s found = branch-among bs l s found
hop-continuation (node.Tensor a b) hop.Next s found = only b s found
hop-continuation (node.Lolli a b) hop.Next s found = only b s found
hop-continuation (node.ValueOut k a) hop.Next s found = only a s found
hop-continuation (node.ValueIn k a) hop.Next s found = only a s found
hop-continuation (node.PotOut q a) hop.Next s found = only a s found
hop-continuation (node.PotIn q a) hop.Next s found = only a s found
hop-continuation n (hop.Label l) s found = absurd cc
hop-continuation n hop.Next s found = absurd cc
hop-continuation n hop.Carried s found = absurd cc

-- what a path of continuations leads to is reached
pub continues-reaches : (lists : ProgramLists) (a t u : TypeId) (path : List Hop) → Reaches lists a t
    → Continues lists path t u → Reaches lists a u
continues-reaches lists a t u [] reached (stops _) = reached
continues-reaches lists a t u (h ∷ path) reached (continues _ _ _ s _ n unfolds part rest) =
    continues-reaches lists a s u path (further n reached unfolds (hop-continuation n h s part)) rest

-- a node behind which there is a shared type again is a `down`
pub down-behind : (n : TypeNode) (b : TypeId) → behind_down n ≡ Some b → n ≡ node.Down b
down-behind (node.Down a) b found = let same : a ≡ b = cc in ap (λ (t : TypeId). node.Down t) same
down-behind n b found = absurd cc

-- the type behind a `down` of a program is one of the program
pub down-below : (lists : ProgramLists) (t : ℕ) (n : TypeNode) (b : TypeId) → IsProgram lists
    → type_node lists t ≡ Some n → behind_down n ≡ Some b → b.0 < length lists.types
down-below lists t n b is_program there found =
    let part : part_by n hop.Next ≡ Some b = ap (λ (m : TypeNode). part_by m hop.Next) (down-behind n b found) in
    part-below lists t n hop.Next b is_program there part

-- a `down` at a type
pub down-there : (lists : ProgramLists) (t : ℕ) (n : TypeNode) (b : TypeId) → type_node lists t ≡ Some n
    → behind_down n ≡ Some b → type_node lists t ≡ Some (node.Down b)
down-there lists t n b there found = there ∙ ap (λ (m : TypeNode). Some m) (down-behind n b found)

-- a continuation is a part
continuation-part : (n : TypeNode) (h : Hop) (s : TypeId) → continuation_by n h ≡ Some s → part_by n h ≡ Some s
continuation-part (node.Up a) hop.Next s found = absurd cc
continuation-part (node.Down a) hop.Next s found = absurd cc
continuation-part n (hop.Label l) s found = found
continuation-part n hop.Next s found = found
continuation-part n hop.Carried s found = absurd cc

-- a continuation of a type of a program is one of the program
pub continuation-below : (lists : ProgramLists) (t : ℕ) (n : TypeNode) (h : Hop) (s : TypeId) → IsProgram lists
    → type_node lists t ≡ Some n → continuation_by n h ≡ Some s → s.0 < length lists.types
continuation-below lists t n h s is_program there found =
    part-below lists t n h s is_program there (continuation-part n h s found)
