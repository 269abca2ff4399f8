-- Lemmas of the walk: what a visit leads to, and what holds when no visit is left.
use Rattle.std.proofs.Common.{◌≡◌, ◌<◌, inl, inr, ℕ, zero, suc, ◌+◌, List, [], ◌∷◌, ◌++◌, length, get_or, Contains, Option, Some, None, Result, Ok, Err, OnOk, slice_get, reverse, refl, sym, ap, subst, ◌∙◌, arith, append_assoc}
use Rattle.std.proofs.lemmas.List.{append-nil, reverse-append}
use Rattle.std.proofs.lemmas.List.Elements.{Contains-append_left, Contains-push}
use Rattle.std.proofs.lemmas.Option.{slice_get_within}
use Rattle.nomos_equality.proofs.VisitLemmas.{get-push, get-front}
use Rattle.nomos_ir.specs.declared.ids.Label.{Label}
use Rattle.nomos_ir.specs.declared.ids.TypeId.{TypeId}
use Rattle.nomos_ir.specs.declared.lists.ProgramLists.{ProgramLists}
use Rattle.nomos_ir.specs.declared.type_node.Branch.{Branch}
use Rattle.nomos_ir.specs.declared.type_node.TypeNode.{TypeNode}
use Rattle.nomos_ir.specs.Nodes.{type_node}
use Rattle.nomos_ir.specs.Unfold.{Unfolds}
use Rattle.nomos_types.specs.Branches.{goes_by}
use Rattle.nomos_types.specs.Unfolding.{IsUnfolding}
use Rattle.nomos_equality.specs.declared.hop.Hop.{Hop}
use Rattle.nomos_equality.specs.declared.hop.Hop.TheVariants as hop
use Rattle.nomos_equality.specs.Paths.{choices_of}
use Rattle.nomos_equality.proofs.HeadLaws.{goes-label}
use Rattle.nomos_equality.proofs.PathLaws.{node-behind}
use Rattle.nomos_equality.specs.declared.continuation_walk.Arrival.{Arrival}
use Rattle.nomos_equality.specs.Continuing.{continuation_by, Continues, stops, continues}
use Rattle.nomos_equality.specs.mirror.Walk.{Visits, IsVisited, MeetsType, known, fresh, LeadsOn, WalksTo, stays, meets, FollowsHop, FollowsEachLabel, FollowsAll, WayTo, begins, onward, VisitsAreInOrder, WasMetBy}

-- ---- look-ups

-- ---- what is met stays met

record Stays (old new : Visits) : Type 0 where
  more : Visits
  is : new ≡ old ++ more

stays-same : (old new : Visits) → new ≡ old → Stays old new
stays-same old new same = record { more = []; is = same ∙ sym (append-nil old) }

stays-through : (xs ys zs : Visits) → Stays xs ys → Stays ys zs → Stays xs zs
stays-through xs ys zs first second =
    record {
      more = first.more ++ second.more;
      is = second.is ∙ ap (λ (l : Visits). l ++ second.more) first.is ∙ append_assoc xs first.more second.more;
    }

visited-stays : (lists : ProgramLists) (old new : Visits) (t : TypeId) → Stays old new → IsVisited lists old t
    → IsVisited lists new t
visited-stays lists old new t front met =
    record {
      at = met.at;
      from = met.from;
      is = met.is;
      among =
          subst (λ (l : Visits). Contains l (met.at, met.from)) (sym front.is)
          (Contains-append_left old front.more (met.at, met.from) met.among);
    }

meets-stays : (lists : ProgramLists) (s n : Visits) (t : TypeId) (from : Option Arrival) → MeetsType lists s t from n
    → Stays s n × IsVisited lists n t
meets-stays lists s n t from (known met same) =
    (stays-same s n same, subst (λ (l : Visits). IsVisited lists l t) (sym same) met)
meets-stays lists s n t from (fresh at is last) = (
  record { more = (at, from) ∷ []; is = last },
  record {
    at = at;
    from = from;
    is = is;
    among = subst (λ (l : Visits). Contains l (at, from)) (sym last) (Contains-push s (at, from));
  },
)

walks-stays : (lists : ProgramLists) (s n : Visits) → WalksTo lists s n → Stays s n
walks-stays lists s n stays = stays-same s s refl
walks-stays lists s n (meets mid _ o t walks on met) =
    stays-through s mid n (walks-stays lists s mid walks) ((meets-stays lists mid n t (Some o) met).0)

pub walks-through : (lists : ProgramLists) (s t u : Visits) → WalksTo lists s t → WalksTo lists t u → WalksTo lists s u
walks-through lists s t u first stays = first
walks-through lists s t u first (meets mid _ o c walks on met) =
    meets mid u o c (walks-through lists s t mid first walks) on met

pub walks-get : (lists : ProgramLists) (s n : Visits) (i : ℕ) (v : ℕ × Option Arrival) → WalksTo lists s n
    → slice_get s i ≡ Some v → slice_get n i ≡ Some v
walks-get lists s n i v walks found =
    let front = walks-stays lists s n walks in
    subst (λ (l : Visits). slice_get l i ≡ Some v) (sym front.is) (get-front s front.more i v found)

follows-stays : (lists : ProgramLists) (at : ℕ) (h : Hop) (s n : Visits) → Stays s n → FollowsHop lists at h s
    → FollowsHop lists at h n
follows-stays lists at h s n front follows =
    λ node t there part. visited-stays lists s n t front (follows node t there part)

pub follows-walks : (lists : ProgramLists) (at : ℕ) (h : Hop) (s n : Visits) → WalksTo lists s n
    → FollowsHop lists at h s → FollowsHop lists at h n
follows-walks lists at h s n walks follows = follows-stays lists at h s n (walks-stays lists s n walks) follows

-- ---- where visits come from

abbrev pub CameFrom : ProgramLists → TypeId → Visits → ℕ → Option Arrival → TypeId → Type 0
CameFrom lists a visits i None t = t ≡ a
CameFrom lists a visits i (Some o) t = (o.visit < i) × LeadsOn lists visits o t

pub record Arrived (lists : ProgramLists) (a : TypeId) (visits : Visits) (i at : ℕ) (from : Option Arrival) : Type 0
  where
    pub typed : TypeId
    pub by : CameFrom lists a visits i from typed
    pub is : IsUnfolding lists typed.0 at

-- each visit is reached from the first type
abbrev pub AreReached : ProgramLists → TypeId → Visits → Type 0
AreReached lists a visits =
    (i at : ℕ) (from : Option Arrival) → slice_get visits i ≡ Some (at, from) → Arrived lists a visits i at from

leads-front : (lists : ProgramLists) (visits more : Visits) (o : Arrival) (t : TypeId) → LeadsOn lists visits o t
    → LeadsOn lists (visits ++ more) o t
leads-front lists visits more o t on =
    record {
      at = on.at;
      from = on.from;
      there = get-front visits more o.visit (on.at, on.from) on.there;
      node = on.node;
      node_there = on.node_there;
      part = on.part;
    }

came-front : (lists : ProgramLists) (a : TypeId) (visits more : Visits) (i : ℕ) (from : Option Arrival) (t : TypeId)
    → CameFrom lists a visits i from t → CameFrom lists a (visits ++ more) i from t
came-front lists a visits more i None t by = by
came-front lists a visits more i (Some o) t by = (by.0, leads-front lists visits more o t by.1)

-- one more visit
reached-push : (lists : ProgramLists) (a : TypeId) (s : Visits) (at : ℕ) (from : Option Arrival) (t : TypeId)
    → AreReached lists a s → CameFrom lists a s (length s) from t
    → IsUnfolding lists t.0 at → AreReached lists a (s ++ (at, from) ∷ [])
reached-push lists a s at from t reached by is =
    λ i k g found.
    elim (get-push s (at, from) i (k, g) found) [
      | inl h ↦
          let r = reached i k g h in
          record { typed = r.typed; by = came-front lists a s ((at, from) ∷ []) i g r.typed r.by; is = r.is }
      | inr h ↦
          let last : Arrived lists a (s ++ (at, from) ∷ []) (length s) at from =
          record { typed = t; by = came-front lists a s ((at, from) ∷ []) (length s) from t by; is = is } in
          subst (λ (j : ℕ). Arrived lists a (s ++ (at, from) ∷ []) j k g) (sym h.0)
          (subst (λ (v : ℕ × Option Arrival). Arrived lists a (s ++ (at, from) ∷ []) (length s) v.0 v.1) h.1 last)
    ]

reached-meets : (lists : ProgramLists) (a : TypeId) (s n : Visits) (t : TypeId) (from : Option Arrival)
    → AreReached lists a s → CameFrom lists a s (length s) from t → MeetsType lists s t from n → AreReached lists a n
reached-meets lists a s n t from reached by (known met same) = subst (AreReached lists a) (sym same) reached
reached-meets lists a s n t from reached by (fresh at is last) =
    subst (AreReached lists a) (sym last) (reached-push lists a s at from t reached by is)

-- a walk begins
pub reached-begins : (lists : ProgramLists) (a : TypeId) (s n : Visits) → s ≡ [] → MeetsType lists s a None n
    → AreReached lists a n
reached-begins lists a s n empty met =
    let none : AreReached lists a s =
    λ i at from found. let inside =
    slice_get_within s i (at, from) found in absurd (omega (arith, inside, ap length empty))
    in
    reached-meets lists a s n a None none refl met

-- a walk goes on
pub reached-walks : (lists : ProgramLists) (a : TypeId) (s n : Visits) → AreReached lists a s → WalksTo lists s n
    → AreReached lists a n
reached-walks lists a s n reached stays = reached
reached-walks lists a s n reached (meets mid _ o t walks on met) =
    reached-meets lists a mid n t (Some o) (reached-walks lists a s mid reached walks)
    (slice_get_within mid o.visit (on.at, on.from) on.there, on) met

pub begins-visited : (lists : ProgramLists) (a : TypeId) (s n : Visits) → MeetsType lists s a None n
    → IsVisited lists n a
begins-visited lists a s n met = (meets-stays lists s n a None met).1

pub visited-walks : (lists : ProgramLists) (s n : Visits) (t : TypeId) → WalksTo lists s n → IsVisited lists s t
    → IsVisited lists n t
visited-walks lists s n t walks met = visited-stays lists s n t (walks-stays lists s n walks) met

pub reached-order : (lists : ProgramLists) (a : TypeId) (s : Visits) → AreReached lists a s → VisitsAreInOrder s
reached-order lists a s reached = λ i at o found. (reached i at (Some o) found).by.0

-- ---- ways

-- one visit stands at a number
pub one-visit : (s : Visits) (i : ℕ) (v w : ℕ × Option Arrival) → slice_get s i ≡ Some v → slice_get s i ≡ Some w
    → v ≡ w
one-visit s i v w there found = cc

continues-push : (lists : ProgramLists) (path : List Hop) (a c d : TypeId) (n : TypeNode) (h : Hop)
    → Continues lists path a c → Unfolds lists c.0 n → continuation_by n h ≡ Some d
    → Continues lists (path ++ h ∷ []) a d
continues-push lists [] a c d n h (stops _) unfolds part = continues h [] a d d n unfolds part (stops d)
continues-push lists (g ∷ path) a c d n h (continues _ _ _ s _ m first by rest) unfolds part =
    continues g (path ++ h ∷ []) a s d m first by (continues-push lists path s c d n h rest unfolds part)

-- a visit is reached by its way
pub way-reached : (lists : ProgramLists) (a : TypeId) (s : Visits) (i at : ℕ) (from : Option Arrival) (path : List Hop)
    → AreReached lists a s → WayTo s i path → slice_get s i ≡ Some (at, from)
    → (t : TypeId) × Continues lists path a t × IsUnfolding lists t.0 at
way-reached lists a s i at from [] reached (begins _ k there) found =
    let r = reached i k None there in
    let whole = one-visit s i (k, None) (at, from) there found in
    let same : k ≡ at = ap (λ (v : ℕ × Option Arrival). v.0) whole in
    let first = r.by in (
      a,
      stops a,
      subst (λ (j : ℕ). IsUnfolding lists a.0 j) same
          (subst (λ (t : TypeId). IsUnfolding lists t.0 k) first r.is),
    )
way-reached lists a s i at from _ reached (onward _ k o path there way) found =
    let r = reached i k (Some o) there in
    let on = r.by.1 in
    let before = way-reached lists a s o.visit on.at on.from path reached way on.there in
    let whole = one-visit s i (k, Some o) (at, from) there found in
    let same : k ≡ at = ap (λ (v : ℕ × Option Arrival). v.0) whole in (
      r.typed,
      continues-push lists path a before.0 r.typed on.node o.hop before.1
          (node-behind lists before.0.0 on.at on.node before.2 on.node_there) on.part,
      subst (λ (j : ℕ). IsUnfolding lists r.typed.0 j) same r.is,
    )

way-from : (lists : ProgramLists) (a : TypeId) (s : Visits) (n i at : ℕ) (from : Option Arrival) → AreReached lists a s
    → slice_get s i ≡ Some (at, from) → i < n → (path : List Hop) × WayTo s i path
way-from lists a s zero i at from reached found inside = absurd (omega arith)
way-from lists a s (suc n) i at None reached found inside = ([], begins i at found)
way-from lists a s (suc n) i at (Some o) reached found inside =
    let r = reached i at (Some o) found in
    let w = way-from lists a s n o.visit r.by.1.at r.by.1.from reached r.by.1.there (omega (arith, r.by.0)) in
    (w.0 ++ o.hop ∷ [], onward i at o w.0 found w.1)

-- each visit is reached
pub visit-reached : (lists : ProgramLists) (a : TypeId) (s : Visits) (i at : ℕ) (from : Option Arrival)
    → AreReached lists a s → slice_get s i ≡ Some (at, from)
    → (path : List Hop) × (t : TypeId) × Continues lists path a t × IsUnfolding lists t.0 at
visit-reached lists a s i at from reached found =
    let w = way-from lists a s (suc i) i at from reached found (omega arith) in
    let r = way-reached lists a s i at from w.0 reached w.1 found in
    (w.0, r.0, r.1, r.2)

-- the node at a visit
pub visit-node : (lists : ProgramLists) (a : TypeId) (s : Visits) (i at : ℕ) (from : Option Arrival)
    → AreReached lists a s → slice_get s i ≡ Some (at, from) → (n : TypeNode) × (type_node lists at ≡ Some n)
visit-node lists a s i at from reached found = let r = reached i at from found in (r.is.node, r.is.there)

-- ---- reading a way back

-- the visit at which the reading stands was met by this hop
pub record IsWayFrom (visits : Visits) (number : ℕ) (from : Option Arrival) (path : List Hop) : Type 0 where
  pub here : ℕ
  pub met : WasMetBy visits here from
  pub leads : (front : List Hop) → WayTo visits here front → WayTo visits number (front ++ reverse path)

-- one more than the visit from which the hop came
abbrev pub way_measure : Option Arrival → ℕ
way_measure None = 0
way_measure (Some o) = o.visit + 1

pub way-starts : (visits : Visits) (number : ℕ) (from : Option Arrival) → WasMetBy visits number from
    → IsWayFrom visits number from []
way-starts visits number from met =
    record {
      here = number;
      met = met;
      leads = λ front way. subst (λ (l : List Hop). WayTo visits number l) (sym (append-nil front)) way;
    }

pub way-onward : (visits : Visits) (number : ℕ) (o : Arrival) (next : Option Arrival) (path : List Hop)
    → IsWayFrom visits number (Some o) path → WasMetBy visits o.visit next
    → IsWayFrom visits number next (path ++ o.hop ∷ [])
way-onward visits number o next path way met =
    record {
      here = o.visit;
      met = met;
      leads = λ front before.
          subst (λ (l : List Hop). WayTo visits number l)
          (append_assoc front (o.hop ∷ []) (reverse path)
          ∙ ap (λ (l : List Hop). front ++ l) (sym (reverse-append path (o.hop ∷ []))))
          (way.leads (front ++ o.hop ∷ []) (onward way.here way.met.0 o front way.met.1 before));
    }

pub way-ends : (visits : Visits) (number : ℕ) (path : List Hop) → IsWayFrom visits number None path
    → WayTo visits number (reverse path)
way-ends visits number path way = way.leads [] (begins way.here way.met.0 way.met.1)

pub way-inside : (visits : Visits) (number : ℕ) (o : Arrival) (path : List Hop) → VisitsAreInOrder visits
    → IsWayFrom visits number (Some o) path → o.visit < length visits
way-inside visits number o path order way =
    let earlier = order way.here way.met.0 o way.met.1 in
    let inside = slice_get_within visits way.here (way.met.0, Some o) way.met.1 in
    omega (arith, earlier, inside)

-- ---- what the functions owe

-- the continuation by a hop is met
pub follow-goes : (lists : ProgramLists) (s n : Visits) (number at : ℕ) (from : Option Arrival) (h : Hop) (p : TypeNode)
    (t : TypeId) → slice_get s number ≡ Some (at, from) → type_node lists at ≡ Some p → continuation_by p h ≡ Some t
    → MeetsType lists s t (Some (record { visit = number; hop = h })) n → WalksTo lists s n × FollowsHop lists at h n
follow-goes lists s n number at from h p t there node_there part met = (
  meets s n (record { visit = number; hop = h }) t stays
      (record { at = at; from = from; there = there; node = p; node_there = node_there; part = part }) met,
  λ m u m_there m_part.
      let same : p ≡ m = cc in
      let at_m : continuation_by m h ≡ Some t = subst (λ (k : TypeNode). continuation_by k h ≡ Some t) same part in
      let target : t ≡ u = cc in
      subst (λ (v : TypeId). IsVisited lists n v) target ((meets-stays lists s n t _ met).1),
)

-- the labels of a visit whose branches were followed
pub labels-known : (lists : ProgramLists) (at : ℕ) (p : TypeNode) (visits : Visits) → type_node lists at ≡ Some p
    → ((k : ℕ) (d : Branch) → k < length (choices_of p)
    → FollowsHop lists at (hop.Label (get_or (choices_of p) k d).label) visits) → FollowsEachLabel lists at visits
labels-known lists at p visits there followed =
    λ l m t m_there part.
    let same : m ≡ p = cc in
    let found : goes_by (choices_of p) l
    ≡ Some t = subst (λ (n : TypeNode). goes_by (choices_of n) l ≡ Some t) same part in
    let c = goes-label (choices_of p) l t found in
    let at_branch : FollowsHop lists at (hop.Label c.0.label) visits =
    subst (λ (d : Branch). FollowsHop lists at (hop.Label d.label) visits) c.1.2 (followed c.1.0 c.0 c.1.1) in
    let at_label : FollowsHop lists at (hop.Label l) visits =
    subst (λ (k : Label). FollowsHop lists at (hop.Label k) visits) c.2 at_branch in
    at_label m t m_there part

-- all hops
pub all-followed : (lists : ProgramLists) (at : ℕ) (s t : Visits) → FollowsHop lists at hop.Next s → WalksTo lists s t
    → FollowsEachLabel lists at t → FollowsAll lists at t
all-followed lists at s t next walks labels = by
  where
    by : (h : Hop) → FollowsHop lists at h t
    by (hop.Label l) = labels l
    by hop.Next = follows-walks lists at hop.Next s t walks next
    by hop.Carried = λ n u there part. absurd cc

pub ok-both : {T E : Type 0} {P Q R : Type 0} (r : Result T E) → (P → Q → R) → OnOk r P → OnOk r Q → OnOk r R
ok-both (Ok v) turn first second = turn first second
ok-both (Err e) turn first second = first
