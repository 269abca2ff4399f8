-- Lemmas of visits: what their nodes are, which types follow from them, and how they are reached.
use Rattle.std.proofs.Common.{◌≡◌, ◌<◌, ◌⊎◌, inl, inr, ℕ, zero, suc, List, [], ◌∷◌, ◌++◌, length, get_or, Contains, Some, slice_get, Result, Ok, Err, OnOk, refl, sym, subst, arith}
use Rattle.std.proofs.lemmas.List.Elements.{Contains-append_left}
use Rattle.nomos_ir.specs.declared.ids.Label.{Label}
use Rattle.nomos_ir.specs.declared.ids.TypeId.{TypeId}
use Rattle.nomos_ir.specs.declared.type_node.Branch.{Branch}
use Rattle.nomos_ir.specs.declared.lists.ProgramLists.{ProgramLists}
use Rattle.nomos_ir.specs.declared.type_node.TypeNode.{TypeNode}
use Rattle.nomos_ir.specs.Unfold.{Unfolds}
use Rattle.nomos_types.specs.Branches.{goes_by}
use Rattle.nomos_types.specs.Unfolding.{IsUnfolding}
use Rattle.nomos_equality.specs.declared.hop.Hop.{Hop}
use Rattle.nomos_equality.specs.declared.hop.Hop.TheVariants as hop
use Rattle.nomos_equality.specs.declared.difference.TypeVisit.{TypeVisit}
use Rattle.nomos_equality.specs.Comparing.{IsFront}
use Rattle.nomos_equality.specs.Differences.{SameForm}
use Rattle.nomos_equality.specs.Paths.{PathLeads, ends, hops, choices_of, part_by}
use Rattle.nomos_equality.specs.mirror.Search.{IsMet, IsAt, Follows, HasForm}
use Rattle.nomos_equality.proofs.HeadLaws.{goes-label}

-- ---- fronts

pub front-contains : {X : Type 0} (xs ys : List X) (x : X) → IsFront xs ys → Contains xs x → Contains ys x
front-contains xs ys x front among =
    subst (λ (l : List _). Contains l x) (sym front.is) (Contains-append_left xs front.more x among)

-- ---- look-ups

pub get-front : {X : Type 0} (xs ys : List X) (i : ℕ) (x : X) → slice_get xs i ≡ Some x
    → slice_get (xs ++ ys) i ≡ Some x
get-front [] ys i x found = absurd cc
get-front (y ∷ xs) ys zero x found = found
get-front (y ∷ xs) ys (suc i) x found = get-front xs ys i x found

-- an element of a list with one more is one of the list, or the last
pub get-push : {X : Type 0} (xs : List X) (y : X) (i : ℕ) (x : X) → slice_get (xs ++ y ∷ []) i ≡ Some x
    → (slice_get xs i ≡ Some x) ⊎ ((i ≡ length xs) × (y ≡ x))
get-push [] y zero x found = inr (refl, cc)
get-push [] y (suc i) x found = absurd cc
get-push (z ∷ xs) y zero x found = inl found
get-push (z ∷ xs) y (suc i) x found =
    elim (get-push xs y i x found) [ inl h ↦ inl h | inr h ↦ inr (omega (arith, h.0), h.1) ]

-- ---- what is met

-- what is related is related more widely
pub met-wider : (lists : ProgramLists) (R S : TypeId → TypeId → Type 0) (a b : TypeId)
    → ((u v : TypeId) → R u v → S u v) → IsMet lists R a b → IsMet lists S a b
met-wider lists R S a b wider met =
    record {
      left = met.left;
      right = met.right;
      left_is = met.left_is;
      right_is = met.right_is;
      among = wider met.left met.right met.among;
    }

pub follows-wider : (lists : ProgramLists) (v : TypeVisit) (h : Hop) (R S : TypeId → TypeId → Type 0)
    → ((c d : TypeId) → R c d → S c d) → Follows lists v h R → Follows lists v h S
follows-wider lists v h R S wider follows =
    λ left right a b at left_part right_part.
    met-wider lists R S a b wider (follows left right a b at left_part right_part)

-- the parts of a visit by one hop are met
pub follows-known : (lists : ProgramLists) (v : TypeVisit) (h : Hop) (R : TypeId → TypeId → Type 0) (p q : TypeNode)
    (a b : TypeId) → IsAt lists v p q → part_by p h ≡ Some a → part_by q h ≡ Some b → IsMet lists R a b
    → Follows lists v h R
follows-known lists v h R p q a b at left_part right_part met =
    λ left right c d here left_is right_is.
    let l1 = at.left_there in
    let l2 = here.left_there in
    let r1 = at.right_there in
    let r2 = here.right_there in
    let left_same : p ≡ left = cc in
    let right_same : q ≡ right = cc in
    let first : part_by left h ≡ Some a = subst (λ (n : TypeNode). part_by n h ≡ Some a) left_same left_part in
    let second : part_by right h ≡ Some b = subst (λ (n : TypeNode). part_by n h ≡ Some b) right_same right_part in
    let c_same : a ≡ c = cc in
    let d_same : b ≡ d = cc in
    subst (λ (t : TypeId). IsMet lists R c t) d_same (subst (λ (t : TypeId). IsMet lists R t b) c_same met)

-- nodes of the same form
pub form-known : (lists : ProgramLists) (v : TypeVisit) (p q : TypeNode) → IsAt lists v p q → SameForm p q
    → HasForm lists v
form-known lists v p q at form left right here =
    let l1 = at.left_there in
    let l2 = here.left_there in
    let r1 = at.right_there in
    let r2 = here.right_there in
    let left_same : p ≡ left = cc in
    let right_same : q ≡ right = cc in
    subst (λ (n : TypeNode). SameForm left n) right_same (subst (λ (n : TypeNode). SameForm n q) left_same form)

-- the labels of a visit whose branches were followed
pub labels-known : (lists : ProgramLists) (v : TypeVisit) (p q : TypeNode) (R : TypeId → TypeId → Type 0)
    → IsAt lists v p q → ((k : ℕ) (d : Branch) → k < length (choices_of p)
    → Follows lists v (hop.Label (get_or (choices_of p) k d).label) R) → (l : Label)
    → Follows lists v (hop.Label l) R
labels-known lists v p q R at followed l =
    λ left right a b here left_part right_part.
    let l1 = at.left_there in
    let l2 = here.left_there in
    let left_same : left ≡ p = cc in
    let found : goes_by (choices_of p) l
    ≡ Some a = subst (λ (n : TypeNode). goes_by (choices_of n) l ≡ Some a) left_same left_part in
    let c = goes-label (choices_of p) l a found in
    let at_branch : Follows lists v (hop.Label c.0.label) R =
    subst (λ (d : Branch). Follows lists v (hop.Label d.label) R) c.1.2 (followed c.1.0 c.0 c.1.1)
    in
    let at_label : Follows lists v (hop.Label l) R = subst (λ (k : Label). Follows lists v (hop.Label k) R) c.2
    at_branch in
    at_label left right a b here left_part right_part

-- a fact of an Ok carries over
pub ok-map : {T E : Type 0} {P Q : Type 0} (r : Result T E) → (P → Q) → OnOk r P → OnOk r Q
ok-map (Ok v) turn holds = turn holds
ok-map (Err e) turn holds = holds

-- two facts of an Ok are both facts of it
pub ok-both : {T E : Type 0} (P Q : Type 0) (r : Result T E) → OnOk r P → OnOk r Q → OnOk r (P × Q)
ok-both P Q (Ok v) first second = (first, second)
ok-both P Q (Err e) first second = first

-- ---- paths

-- the types of a visit stand at the end of a path, behind their names
pub record Reached (lists : ProgramLists) (a b : TypeId) (path : List Hop) (v : TypeVisit) : Type 0 where
  pub left_type : TypeId
  pub right_type : TypeId
  pub left_leads : PathLeads lists path a left_type
  pub right_leads : PathLeads lists path b right_type
  pub left_is : IsUnfolding lists left_type.0 v.left.0
  pub right_is : IsUnfolding lists right_type.0 v.right.0

-- one more hop
pub leads-push : (lists : ProgramLists) (path : List Hop) (a c d : TypeId) (n : TypeNode) (h : Hop)
    → PathLeads lists path a c → Unfolds lists c.0 n → part_by n h ≡ Some d → PathLeads lists (path ++ h ∷ []) a d
leads-push lists [] a c d n h (ends _) unfolds part = hops h [] a d d n unfolds part (ends d)
leads-push lists (g ∷ path) a c d n h (hops _ _ _ s _ m first by rest) unfolds part =
    hops g (path ++ h ∷ []) a s d m first by (leads-push lists path s c d n h rest unfolds part)
