-- Types that carry nothing: so do their continuations, and the types that are equal to them.
use Rattle.std.proofs.Common.{◌≡◌, ◌∙◌, ℕ, List, [], ◌∷◌, map, Contains, Some, refl, ap, subst, arith}
use Rattle.nomos_ir.specs.Naming.{AllDiffer}
use Rattle.nomos_ir.specs.Nodes.{type_node}
use Rattle.nomos_ir.specs.Program.{IsProgram}
use Rattle.nomos_ir.specs.TypeParts.{type_labels}
use Rattle.nomos_ir.specs.Unfold.{Unfolds, constructor, name}
use Rattle.nomos_ir.specs.declared.ids.TypeId.{TypeId}
use Rattle.nomos_ir.specs.declared.lists.ProgramLists.{ProgramLists}
use Rattle.nomos_ir.specs.declared.type_node.Branch.{Branch}
use Rattle.nomos_ir.specs.declared.type_node.TypeNode.{TypeNode}
use Rattle.nomos_types.specs.Amount.{Annotations}
use Rattle.nomos_types.specs.Equality.{EqualTypes, SameBranches, SameHead, one, plus, with, tensor, lolli, value_out, value_in, pot_out, pot_in, up, down}
use Rattle.nomos_types.specs.Synchronizing.{continuations, Reaches, here, further}
use Rattle.nomos_types.proofs.EqualityLaws.{equal-back, equal-unfolded}
use Rattle.nomos_types.proofs.HeadsOverLaws.{both-under}
use Rattle.nomos_types.proofs.OccurrenceLaws.{contains-head, contains-unmap}
use Rattle.nomos_types.proofs.SynchronizingLaws.{reaches-behind}
use Rattle.nomos_equality.proofs.ContinuationLemmas.{branch-among, goes-own, labels-differ, one-element}
use Rattle.nomos_equality.specs.Carriers.{IsCarrier, CarriesChannel, CarriesNothing}

-- ---- along a talk

-- a continuation of a type that carries nothing carries nothing
pub carries-continues : {lists : ProgramLists} {t u : TypeId} → (n : TypeNode) → CarriesNothing lists t
    → Unfolds lists t.0 n → Contains (continuations n) u → CarriesNothing lists u
carries-continues n none unfolds among =
    λ c. none (record {
      at = c.at;
      reached = reaches-behind n unfolds among c.reached;
      head = c.head;
      unfolds = c.unfolds;
      carrier = c.carrier;
    })

-- no channel is sent at its own head
pub carries-here : {lists : ProgramLists} {t : TypeId} → (n : TypeNode) → CarriesNothing lists t
    → Unfolds lists t.0 n → ¬ (IsCarrier n)
carries-here {t = t} n none unfolds carrier =
    none (record { at = t; reached = here; head = n; unfolds = unfolds; carrier = carrier })

-- ---- at types that are equal

-- what a type unfolds to stands at a type
stands-at : {lists : ProgramLists} {t : ℕ} {n : TypeNode} → Unfolds lists t n
    → (u : ℕ) × (type_node lists u ≡ Some n)
stands-at (constructor t n there no_name) = (t, there)
stands-at (name _ _ _ _ _ _ unfolds) = stands-at unfolds

abbrev GoesAlike : (TypeId → TypeId → Type 0) → TypeNode → TypeId → Type 0
GoesAlike R q u = (w : TypeId) × Contains (continuations q) w × R u w

branch-alike : (lists : ProgramLists) (x : Annotations) (R : TypeId → TypeId → Type 0) (bs cs : List Branch)
    (u : TypeId) → SameBranches R bs cs → AllDiffer (map (λ b. b.label.0) bs) → Contains (map (λ b. b.goes) bs) u
    → (w : TypeId) × Contains (map (λ b. b.goes) cs) w × R u w
branch-alike lists x R bs cs u same differ among =
    let (c, inside, is) = contains-unmap (λ (b : Branch). b.goes) bs u among in
    let goes = goes-own bs differ c inside ∙ ap (λ (t : TypeId). Some t) is in
    let (w, found, related) = both-under u (same c.label) goes in
    (w, branch-among cs c.label w found, related)

one-alike : (R : TypeId → TypeId → Type 0) (a b u : TypeId) → R a b → Contains (a ∷ []) u
    → (w : TypeId) × Contains (b ∷ []) w × R u w
one-alike R a b u related among =
    let same = one-element a u among in
    (b, contains-head b b [] refl, subst (λ (t : TypeId). R t b) same related)

continuation-alike : (lists : ProgramLists) {x : Annotations} {R : TypeId → TypeId → Type 0} {n q : TypeNode}
    → SameHead x R n q → AllDiffer (type_labels n) → (u : TypeId) → Contains (continuations n) u → GoesAlike R q u
continuation-alike lists one differ u among = absurd (omega (arith, among.1))
continuation-alike lists {x} {R} (plus bs cs same) differ u among = branch-alike lists x R bs cs u same differ among
continuation-alike lists {x} {R} (with bs cs same) differ u among = branch-alike lists x R bs cs u same differ among
continuation-alike lists {R = R} (tensor a b c d first rest) differ u among = one-alike R b d u rest among
continuation-alike lists {R = R} (lolli a b c d first rest) differ u among = one-alike R b d u rest among
continuation-alike lists {R = R} (value_out kind a b rest) differ u among = one-alike R a b u rest among
continuation-alike lists {R = R} (value_in kind a b rest) differ u among = one-alike R a b u rest among
continuation-alike lists {R = R} (pot_out q r a b same rest) differ u among = one-alike R a b u rest among
continuation-alike lists {R = R} (pot_in q r a b same rest) differ u among = one-alike R a b u rest among
continuation-alike lists (up a b rest) differ u among = absurd (omega (arith, among.1))
continuation-alike lists (down a b rest) differ u among = absurd (omega (arith, among.1))

carrier-alike : {x : Annotations} {R : TypeId → TypeId → Type 0} {n q : TypeNode} → SameHead x R n q → IsCarrier n
    → IsCarrier q
carrier-alike (tensor a b c d first rest) carrier = tt
carrier-alike (lolli a b c d first rest) carrier = tt
carrier-alike one carrier = absurd carrier
carrier-alike (plus bs cs same) carrier = absurd carrier
carrier-alike (with bs cs same) carrier = absurd carrier
carrier-alike (value_out kind a b rest) carrier = absurd carrier
carrier-alike (value_in kind a b rest) carrier = absurd carrier
carrier-alike (pot_out q r a b same rest) carrier = absurd carrier
carrier-alike (pot_in q r a b same rest) carrier = absurd carrier
carrier-alike (up a b rest) carrier = absurd carrier
carrier-alike (down a b rest) carrier = absurd carrier

module _ {lists : ProgramLists} (is_program : IsProgram lists) (x : Annotations) where
  -- what the one of two equal types reaches, the other reaches as well, up to equality
  reaches-equal : {t u v : TypeId} → EqualTypes lists x t u → Reaches lists t v
      → (w : TypeId) × Reaches lists u w × EqualTypes lists x v w
  reaches-equal {t} {u} equal here = (u, here, equal)
  reaches-equal equal (further {t = v} {u = r} n reached unfolds among) =
      let (w, reached_too, same) = reaches-equal equal reached in
      let (q, unfolds_too, head) = equal-unfolded lists x v w n same unfolds in
      let (at, there) = stands-at unfolds in
      let (z, among_too, related) = continuation-alike lists head (labels-differ lists at n is_program there) r among in
      (z, further q reached_too unfolds_too among_too, related)

  carries-equal : {t u : TypeId} → EqualTypes lists x t u → CarriesChannel lists t → CarriesChannel lists u
  carries-equal equal c =
      let (w, reached, same) = reaches-equal equal c.reached in
      let (q, unfolds, head) = equal-unfolded lists x c.at w c.head same c.unfolds in
      record { at = w; reached = reached; head = q; unfolds = unfolds; carrier = carrier-alike head c.carrier }

  -- where one carries nothing the other carries nothing
  pub carries-nothing-equal : {t u : TypeId} → EqualTypes lists x t u → CarriesNothing lists t → CarriesNothing lists u
  carries-nothing-equal {t} {u} equal none = λ c. none (carries-equal (equal-back lists x t u equal) c)
