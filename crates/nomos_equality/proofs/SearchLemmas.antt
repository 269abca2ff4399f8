-- Lemmas of the search: what a visit leads to, and what holds when no visit is left.
use Rattle.std.proofs.Common.{◌≡◌, ◌<◌, ◌⊎◌, inl, inr, ℕ, zero, suc, ◌+◌, List, [], ◌∷◌, ◌++◌, map, length, get_or, Contains, Option, Some, None, slice_get, Bool, MatchBool, refl, sym, ap, subst, ◌∙◌, arith}
use Rattle.std.proofs.lemmas.Bool.{cases_lt}
use Rattle.std.proofs.lemmas.List.{map-append}
use Rattle.std.proofs.lemmas.List.Elements.{Contains-push}
use Rattle.std.proofs.lemmas.Option.{slice_get_within, slice_get-get_or}
use Rattle.nomos_ir.specs.declared.ids.Label.{Label}
use Rattle.nomos_ir.specs.declared.ids.TypeId.{TypeId}
use Rattle.nomos_ir.specs.declared.lists.ProgramLists.{ProgramLists}
use Rattle.nomos_ir.specs.declared.type_node.TypeNode.{TypeNode}
use Rattle.nomos_ir.specs.Unfold.{constructor}
use Rattle.nomos_types.proofs.OccurrenceLaws.{contains-unmap}
use Rattle.nomos_types.specs.Equality.{Agree, EqualShapes, no_amounts}
use Rattle.nomos_types.specs.Unfolding.{IsUnfolding}
use Rattle.nomos_types.proofs.EqualityLaws.{agree-same, agree-back, agree-through, no_dths}
use Rattle.nomos_equality.specs.declared.hop.Hop.{Hop}
use Rattle.nomos_equality.specs.declared.hop.Hop.TheVariants as hop
use Rattle.nomos_equality.specs.declared.difference.Origin.{Origin}
use Rattle.nomos_equality.specs.declared.difference.TypeVisit.{TypeVisit}
use Rattle.nomos_equality.specs.declared.difference.DifferenceSearch.{DifferenceSearch}
use Rattle.nomos_equality.specs.Comparing.{IsFront}
use Rattle.nomos_equality.specs.Differences.{DifferAt}
use Rattle.nomos_equality.specs.Paths.{ends, part_by}
use Rattle.nomos_equality.specs.mirror.Linking.{Linked, same, along, back, through}
use Rattle.nomos_equality.specs.mirror.Search.{IsFormed, IsMet, Classed, Meets, known, fresh, IsAt, HasNodes, GoesOn, GoesTo, stays, meets, Follows, HasForm, IsCompared, DifferHere, Trail, begins, onward, AreInOrder}
use Rattle.nomos_equality.proofs.ClassLemmas.{linked-more}
use Rattle.nomos_equality.proofs.ComparedLaws.{front-same, front-through}
use Rattle.nomos_equality.proofs.HeadLaws.{form-head}
use Rattle.nomos_equality.proofs.PathLaws.{agree-behind, node-behind, there-below}
use Rattle.nomos_equality.proofs.VisitLemmas.{get-front, get-push, met-wider, follows-wider, follows-known, Reached, leads-push}

-- ---- one type behind both names

-- types that unfold to the same type have equal shapes
pub same-shapes : (lists : ProgramLists) (a b u v : TypeId) → IsFormed lists → IsUnfolding lists a.0 u.0
    → IsUnfolding lists b.0 v.0 → u.0 ≡ v.0 → EqualShapes lists a b
same-shapes lists a b u v formed left right one =
    λ n. agree-behind lists no_amounts n a b u v left right
    (subst (λ (k : ℕ). Agree lists no_amounts n u (record { 0 = k })) one
    (agree-same lists no_amounts n u formed.program formed.contractive (there-below lists u.0 left.node left.there)))

-- ---- classes grow

classed-front : (s t : DifferenceSearch) → IsFront s.classes t.classes → (u v : TypeId) → Classed s u v → Classed t u v
classed-front s t front u v linked =
    subst (λ (l : List (TypeId × TypeId)). Linked l u.0 v.0) (sym front.is)
    (linked-more s.classes front.more u.0 v.0 linked)

pub meets-front : (lists : ProgramLists) (s t : DifferenceSearch) (a b : TypeId) (from : Option Origin)
    → Meets lists s a b from t
    → IsFront s.classes t.classes × IsMet lists (Classed t) a b
meets-front lists s t a b from (known met classes visits) =
    let front : IsFront s.classes t.classes = front-same s.classes t.classes classes in
    (front, met-wider lists (Classed s) (Classed t) a b (classed-front s t front) met)
meets-front lists s t a b from (fresh left right left_is right_is classes visits) = (
  record { more = (left, right) ∷ []; is = classes },
  record {
    left = left;
    right = right;
    left_is = left_is;
    right_is = right_is;
    among = along (left, right)
        (subst (λ (l : List (TypeId × TypeId)). Contains l (left, right)) (sym classes)
        (Contains-push s.classes (left, right)));
  },
)

goes-front : (lists : ProgramLists) (s t : DifferenceSearch) → GoesTo lists s t → IsFront s.classes t.classes
goes-front lists s t stays = front-same s.classes s.classes refl
goes-front lists s t (meets mid _ o a b goes on met) =
    front-through (goes-front lists s mid goes) ((meets-front lists mid t a b (Some o) met).0)

-- types of one class stay so
pub goes-classed : (lists : ProgramLists) (s t : DifferenceSearch) → GoesTo lists s t → (u v : TypeId) → Classed s u v
    → Classed t u v
goes-classed lists s t goes u v linked = classed-front s t (goes-front lists s t goes) u v linked

pub goes-through : (lists : ProgramLists) (s t u : DifferenceSearch) → GoesTo lists s t → GoesTo lists t u
    → GoesTo lists s u
goes-through lists s t u first stays = first
goes-through lists s t u first (meets mid _ o a b goes on met) =
    meets mid u o a b (goes-through lists s t mid first goes) on met

-- visits stay
meets-visits : (lists : ProgramLists) (s t : DifferenceSearch) (a b : TypeId) (from : Option Origin)
    → Meets lists s a b from t
    → IsFront s.visits.items t.visits.items
meets-visits lists s t a b from (known met classes visits) = front-same s.visits.items t.visits.items visits
meets-visits lists s t a b from (fresh left right left_is right_is classes visits) =
    record { more = _; is = visits }

goes-visits : (lists : ProgramLists) (s t : DifferenceSearch) → GoesTo lists s t → IsFront s.visits.items t.visits.items
goes-visits lists s t stays = front-same s.visits.items s.visits.items refl
goes-visits lists s t (meets mid _ o a b goes on met) =
    front-through (goes-visits lists s mid goes) (meets-visits lists mid t a b (Some o) met)

pub goes-get : (lists : ProgramLists) (s t : DifferenceSearch) (i : ℕ) (v : TypeVisit) → GoesTo lists s t
    → slice_get s.visits.items i ≡ Some v → slice_get t.visits.items i ≡ Some v
goes-get lists s t i v goes found =
    let front = goes-visits lists s t goes in
    subst (λ (l : List TypeVisit). slice_get l i ≡ Some v) (sym front.is)
    (get-front s.visits.items front.more i v found)

-- ---- where visits come from

abbrev pair_of : TypeVisit → TypeId × TypeId
pair_of v = (v.left, v.right)

-- two types are met at the beginning, or by a hop from an earlier visit
abbrev pub CameBy : ProgramLists → TypeId → TypeId → List TypeVisit → ℕ → Option Origin → TypeId → TypeId → Type 0
CameBy lists a b visits i None c d = (c ≡ a) × (d ≡ b)
CameBy lists a b visits i (Some o) c d = (o.visit < i) × GoesOn lists visits o c d

pub record Came (lists : ProgramLists) (a b : TypeId) (visits : List TypeVisit) (i : ℕ) (v : TypeVisit) : Type 0 where
  pub left : TypeId
  pub right : TypeId
  pub by : CameBy lists a b visits i v.from left right
  pub left_is : IsUnfolding lists left.0 v.left.0
  pub right_is : IsUnfolding lists right.0 v.right.0

-- what holds of a search at each moment
pub record IsWalk (lists : ProgramLists) (a b : TypeId) (s : DifferenceSearch) : Type 0 where
  pub classes : s.classes ≡ map pair_of s.visits.items
  pub came : (i : ℕ) (v : TypeVisit) → slice_get s.visits.items i ≡ Some v → Came lists a b s.visits.items i v

goes_on-front : (lists : ProgramLists) (visits more : List TypeVisit) (o : Origin) (c d : TypeId)
    → GoesOn lists visits o c d → GoesOn lists (visits ++ more) o c d
goes_on-front lists visits more o c d on =
    record {
      visit = on.visit;
      there = get-front visits more o.visit on.visit on.there;
      left = on.left;
      right = on.right;
      at = on.at;
      left_part = on.left_part;
      right_part = on.right_part;
    }

came_by-front : (lists : ProgramLists) (a b : TypeId) (visits more : List TypeVisit) (i : ℕ) (from : Option Origin)
    (c d : TypeId) → CameBy lists a b visits i from c d → CameBy lists a b (visits ++ more) i from c d
came_by-front lists a b visits more i None c d by = by
came_by-front lists a b visits more i (Some o) c d by = (by.0, goes_on-front lists visits more o c d by.1)

came-front : (lists : ProgramLists) (a b : TypeId) (visits more : List TypeVisit) (i : ℕ) (v : TypeVisit)
    → Came lists a b visits i v → Came lists a b (visits ++ more) i v
came-front lists a b visits more i v came =
    record {
      left = came.left;
      right = came.right;
      by = came_by-front lists a b visits more i v.from came.left came.right came.by;
      left_is = came.left_is;
      right_is = came.right_is;
    }

-- ---- trails

module _ (lists : ProgramLists) (a b : TypeId) (visits : List TypeVisit)
    (came : (i : ℕ) (v : TypeVisit) → slice_get visits i ≡ Some v → Came lists a b visits i v) where
  came-begins : (v : TypeVisit) (i : ℕ) (from : Option Origin) (c d : TypeId) → CameBy lists a b visits i from c d
      → from ≡ None → (c ≡ a) × (d ≡ b)
  came-begins v i None c d by is = by
  came-begins v i (Some o) c d by is = absurd cc

  came-onward : (i : ℕ) (from : Option Origin) (o : Origin) (c d : TypeId) → CameBy lists a b visits i from c d
      → from ≡ Some o → (o.visit < i) × GoesOn lists visits o c d
  came-onward i None o c d by is = absurd cc
  came-onward i (Some p) o c d by is =
      let same : p ≡ o = cc in
      subst (λ (q : Origin). (q.visit < i) × GoesOn lists visits q c d) same by

  -- a visit is reached by its trail
  pub trail-reached : (i : ℕ) (path : List Hop) (v : TypeVisit) → Trail visits i path → slice_get visits i ≡ Some v
      → Reached lists a b path v
  trail-reached i [] v (begins _ w there is) found =
      let c = came i w there in
      let ends_at = came-begins w i w.from c.left c.right c.by is in
      let same : w ≡ v = cc in
      let at_w : Reached lists a b [] w = record {
        left_type = a;
        right_type = b;
        left_leads = ends a;
        right_leads = ends b;
        left_is = subst (λ (t : TypeId). IsUnfolding lists t.0 w.left.0) ends_at.0 c.left_is;
        right_is = subst (λ (t : TypeId). IsUnfolding lists t.0 w.right.0) ends_at.1 c.right_is;
      } in
      subst (λ (u : TypeVisit). Reached lists a b [] u) same at_w
  trail-reached i _ v (onward _ w o path there is trail) found =
      let c = came i w there in
      let on = came-onward i w.from o c.left c.right c.by is in
      let before = trail-reached o.visit path on.1.visit trail on.1.there in
      let same : w ≡ v = cc in
      let at_w : Reached lists a b (path ++ o.hop ∷ []) w = record {
        left_type = c.left;
        right_type = c.right;
        left_leads =
            leads-push lists path a before.left_type c.left on.1.left o.hop before.left_leads
            (node-behind lists before.left_type.0 on.1.visit.left.0 on.1.left before.left_is on.1.at.left_there)
            on.1.left_part;
        right_leads =
            leads-push lists path b before.right_type c.right on.1.right o.hop before.right_leads
            (node-behind lists before.right_type.0 on.1.visit.right.0 on.1.right before.right_is on.1.at.right_there)
            on.1.right_part;
        left_is = c.left_is;
        right_is = c.right_is;
      } in
      subst (λ (u : TypeVisit). Reached lists a b (path ++ o.hop ∷ []) u) same at_w

-- ---- a search at each moment

-- one more visit
walk-visit : (lists : ProgramLists) (a b : TypeId) (s t : DifferenceSearch) (c d : TypeId) (v : TypeVisit)
    → IsWalk lists a b s
    → CameBy lists a b s.visits.items (length s.visits.items) v.from c d → IsUnfolding lists c.0 v.left.0
    → IsUnfolding lists d.0 v.right.0 → t.classes ≡ s.classes ++ (v.left, v.right) ∷ []
    → t.visits.items ≡ s.visits.items ++ v ∷ [] → IsWalk lists a b t
walk-visit lists a b s t c d v walk by left_is right_is classes visits =
    let visited = s.visits.items in
    let last : Came lists a b (visited ++ v ∷ []) (length visited) v = record {
      left = c;
      right = d;
      by = came_by-front lists a b visited (v ∷ []) (length visited) v.from c d by;
      left_is = left_is;
      right_is = right_is;
    } in
    let came : (i : ℕ) (w : TypeVisit) → slice_get (visited ++ v ∷ []) i ≡ Some w
    → Came lists a b (visited ++ v ∷ []) i w =
    λ i w found.
    elim (get-push visited v i w found) [
      | inl h ↦ came-front lists a b visited (v ∷ []) i w (walk.came i w h)
      | inr h ↦ subst (λ (u : TypeVisit). Came lists a b (visited ++ v ∷ []) i u) h.1
          (subst (λ (j : ℕ). Came lists a b (visited ++ v ∷ []) j v) (sym h.0) last)
    ]
    in
    record {
      classes =
          classes ∙ ap (λ (l : List (TypeId × TypeId)). l ++ (v.left, v.right) ∷ []) walk.classes
          ∙ sym (map-append pair_of visited (v ∷ [])) ∙ ap (λ (l : List TypeVisit). map pair_of l) (sym visits);
      came =
          subst (λ (l : List TypeVisit). (i : ℕ) (w : TypeVisit) → slice_get l i ≡ Some w → Came lists a b l i w)
          (sym visits)
          came;
    }

walk-meets : (lists : ProgramLists) (a b : TypeId) (s t : DifferenceSearch) (from : Option Origin) (c d : TypeId)
    → IsWalk lists a b s → CameBy lists a b s.visits.items (length s.visits.items) from c d
    → Meets lists s c d from t → IsWalk lists a b t
walk-meets lists a b s t from c d walk by (known met classes visits) =
    record {
      classes = classes ∙ walk.classes ∙ ap (λ (l : List TypeVisit). map pair_of l) (sym visits);
      came =
          subst (λ (l : List TypeVisit). (i : ℕ) (v : TypeVisit) → slice_get l i ≡ Some v → Came lists a b l i v)
          (sym visits)
          walk.came;
    }
walk-meets lists a b s t from c d walk by (fresh left right left_is right_is classes visits) =
    walk-visit lists a b s t c d (record { left = left; right = right; from = from }) walk by left_is right_is classes
    visits

-- a search before its first visit
pub walk-begins : (lists : ProgramLists) (a b : TypeId) (old s : DifferenceSearch) → old.visits.items ≡ []
    → old.classes ≡ []
    → Meets lists old a b None s → IsWalk lists a b s
walk-begins lists a b old s empty alone met =
    let none : (i : ℕ) (v : TypeVisit) → slice_get old.visits.items i ≡ Some v → Came lists a b old.visits.items i v =
    λ i v found. let inside =
    slice_get_within old.visits.items i v found in absurd (omega (arith, inside, ap length empty))
    in
    let before : IsWalk lists a b old = record {
      classes = alone ∙ ap (λ (l : List TypeVisit). map pair_of l) (sym empty);
      came = none;
    } in
    walk-meets lists a b old s None a b before (refl, refl) met

-- a search that goes on
pub walk-goes : (lists : ProgramLists) (a b : TypeId) (s t : DifferenceSearch) → IsWalk lists a b s → GoesTo lists s t
    → IsWalk lists a b t
walk-goes lists a b s t walk stays = walk
walk-goes lists a b s t walk (meets mid _ o c d goes on met) =
    walk-meets lists a b mid t (Some o) c d (walk-goes lists a b s mid walk goes)
    (slice_get_within mid.visits.items o.visit on.visit on.there, on) met

-- ---- what the search is to know

-- the nodes at a visit
pub visit-nodes : (lists : ProgramLists) (a b : TypeId) (s : DifferenceSearch) (i : ℕ) (v : TypeVisit)
    → IsWalk lists a b s
    → slice_get s.visits.items i ≡ Some v → HasNodes lists v
visit-nodes lists a b s i v walk found =
    let c = walk.came i v found in
    record {
      left = c.left_is.node;
      right = c.right_is.node;
      at = record { left_there = c.left_is.there; right_there = c.right_is.there };
      left_constructs = c.left_is.no_name;
      right_constructs = c.right_is.no_name;
    }

-- a visit whose nodes differ, at the end of its trail
pub visit-differs : (lists : ProgramLists) (a b : TypeId) (s : DifferenceSearch) (i : ℕ) (v : TypeVisit)
    (path : List Hop)
    → IsWalk lists a b s → Trail s.visits.items i path → slice_get s.visits.items i ≡ Some v → DifferHere lists v
    → DifferAt lists a b path
visit-differs lists a b s i v path walk trail found differ =
    let r = trail-reached lists a b s.visits.items walk.came i path v trail found in
    record {
      place = record {
        path = path;
        left_type = r.left_type;
        right_type = r.right_type;
        left_leads = r.left_leads;
        right_leads = r.right_leads;
        left = differ.left;
        right = differ.right;
        left_unfolds = node-behind lists r.left_type.0 v.left.0 differ.left r.left_is differ.at.left_there;
        right_unfolds = node-behind lists r.right_type.0 v.right.0 differ.right r.right_is differ.at.right_there;
      };
      path_is = refl;
      differ = differ.differ;
    }

-- ---- what the functions owe

pub follow-goes : (lists : ProgramLists) (s t : DifferenceSearch) (number : ℕ) (v : TypeVisit) (h : Hop)
    (p q : TypeNode)
    (a b : TypeId) → slice_get s.visits.items number ≡ Some v → IsAt lists v p q → part_by p h ≡ Some a
    → part_by q h ≡ Some b → Meets lists s a b (Some (record { visit = number; hop = h })) t
    → GoesTo lists s t × Follows lists v h (Classed t)
follow-goes lists s t number v h p q a b there at left_part right_part met = (
  meets s t (record { visit = number; hop = h }) a b stays
      (record {
        visit = v;
        there = there;
        left = p;
        right = q;
        at = at;
        left_part = left_part;
        right_part = right_part;
      }) met,
  follows-known lists v h (Classed t) p q a b at left_part right_part ((meets-front lists s t a b _ met).1),
)

-- all that a step does
pub step-compared : (lists : ProgramLists) (v : TypeVisit) (t u w : DifferenceSearch) → HasForm lists v
    → Follows lists v hop.Carried (Classed t) → GoesTo lists t u → Follows lists v hop.Next (Classed u)
    → GoesTo lists u w → ((l : Label) → Follows lists v (hop.Label l) (Classed w)) → IsCompared lists v (Classed w)
step-compared lists v t u w form carried second next third labels = record { form = form; parts = λ h. by h }
  where
    by : (h : Hop) → Follows lists v h (Classed w)
    by (hop.Label l) = labels l
    by hop.Next = follows-wider lists v hop.Next (Classed u) (Classed w) (goes-classed lists u w third) next
    by hop.Carried =
        follows-wider lists v hop.Carried (Classed t) (Classed w)
        (goes-classed lists t w (goes-through lists t u w second third)) carried

-- each visit was met from an earlier one
pub walk-order : (lists : ProgramLists) (a b : TypeId) (s : DifferenceSearch) → IsWalk lists a b s
    → AreInOrder s.visits.items
walk-order lists a b s walk =
    λ i v o found is. let c =
    walk.came i v found in (came-onward lists a b s.visits.items walk.came i v.from o c.left c.right c.by is).0

compared-wider : (lists : ProgramLists) (v : TypeVisit) (s t : DifferenceSearch) → GoesTo lists s t
    → IsCompared lists v (Classed s)
    → IsCompared lists v (Classed t)
compared-wider lists v s t goes compared =
    record {
      form = compared.form;
      parts = λ h. follows-wider lists v h (Classed s) (Classed t) (goes-classed lists s t goes) (compared.parts h);
    }

-- one more visit is compared
pub compared-more : (lists : ProgramLists) (s t : DifferenceSearch) (n : ℕ) (v : TypeVisit) → GoesTo lists s t
    → n < length s.visits.items → slice_get s.visits.items n ≡ Some v
    → ((i : ℕ) (w : TypeVisit) → i < n → slice_get s.visits.items i ≡ Some w → IsCompared lists w (Classed s))
    → IsCompared lists v (Classed t) → (i : ℕ) (w : TypeVisit) → i < n + 1 → slice_get t.visits.items i ≡ Some w
    → IsCompared lists w (Classed t)
compared-more lists s t n v goes inside there before last i w below found =
    elim (cases_lt i n) [
      | inl less ↦
          let d = slice_get-get_or s.visits.items i v (omega arith) in
          let old = goes-get lists s t i (get_or s.visits.items i v) goes d in
          let same_visit : get_or s.visits.items i v ≡ w = cc in
          let here : slice_get s.visits.items i
          ≡ Some w = subst (λ (u : TypeVisit). slice_get s.visits.items i ≡ Some u) same_visit d in
          compared-wider lists w s t goes (before i w less here)
      | inr more ↦
          let at : n ≡ i = omega arith in
          let old = goes-get lists s t n v goes there in
          let old_at : slice_get t.visits.items i
          ≡ Some v = subst (λ (k : ℕ). slice_get t.visits.items k ≡ Some v) at old in
          let same_visit : v ≡ w = cc in
          subst (λ (u : TypeVisit). IsCompared lists u (Classed t)) same_visit last
    ]

-- what a step says, by its answer
pub step-says : (lists : ProgramLists) (v : TypeVisit) (s : DifferenceSearch) (answer is : Bool) → answer ≡ is
    → MatchBool answer (IsCompared lists v (Classed s)) (DifferHere lists v)
    → MatchBool is (IsCompared lists v (Classed s)) (DifferHere lists v)
step-says lists v s answer is equal says =
    subst (λ (b : Bool). MatchBool b (IsCompared lists v (Classed s)) (DifferHere lists v)) equal says

-- ---- where no visit is left

-- linked types are the same, or agree as the pairs do
linked-agree : (lists : ProgramLists) (n : ℕ) (pairs : List (TypeId × TypeId))
    → ((p : TypeId × TypeId) → Contains pairs p → Agree lists no_amounts n p.0 p.1) → (s t : ℕ) → Linked pairs s t
    → (s ≡ t) ⊎ Agree lists no_amounts n (record { 0 = s }) (record { 0 = t })
linked-agree lists n pairs agree s t (same _) = inl refl
linked-agree lists n pairs agree s t (along p among) = inr (agree p among)
linked-agree lists n pairs agree s t (back u v linked) =
    elim (linked-agree lists n pairs agree u v linked) [
      | inl h ↦ inl (sym h)
      | inr h ↦ inr (agree-back lists no_amounts n (record { 0 = u }) (record { 0 = v }) h)
    ]
linked-agree lists n pairs agree s t (through u v w first second) =
    elim (linked-agree lists n pairs agree u v first) [
      | inl h ↦
          subst (λ (k : ℕ). (k ≡ w) ⊎ Agree lists no_amounts n (record { 0 = k }) (record { 0 = w })) (sym h)
          (linked-agree lists n pairs agree v w second)
      | inr h ↦
          elim (linked-agree lists n pairs agree v w second) [
            | inl k ↦
                inr (subst (λ (j : ℕ). Agree lists no_amounts n (record { 0 = u }) (record { 0 = j })) k h)
            | inr k ↦
                inr (agree-through lists no_amounts n (record { 0 = u }) (record { 0 = v }) (record { 0 = w }) h k)
          ]
    ]

module _ (lists : ProgramLists) (a b : TypeId) (s : DifferenceSearch) (formed : IsFormed lists)
    (walk : IsWalk lists a b s)
    (compared : (i : ℕ) (v : TypeVisit) → slice_get s.visits.items i ≡ Some v → IsCompared lists v (Classed s)) where
  -- a visit whose parts agree to a depth agrees to one more
  visit-agrees : (n : ℕ) (v : TypeVisit) → HasNodes lists v → IsCompared lists v (Classed s)
      → ((c d : TypeId) → IsMet lists (Classed s) c d → Agree lists no_amounts n c d)
      → Agree lists no_amounts (suc n) v.left v.right
  visit-agrees n v nodes here agrees =
      record {
        left = nodes.left;
        right = nodes.right;
        left_unfolds = constructor v.left.0 nodes.left nodes.at.left_there nodes.left_constructs;
        right_unfolds = constructor v.right.0 nodes.right nodes.at.right_there nodes.right_constructs;
        same = form-head nodes.left nodes.right (here.form nodes.left nodes.right nodes.at)
            (λ h c d left_part right_part.
            agrees c d (here.parts h nodes.left nodes.right c d nodes.at left_part right_part))
            (λ q r left_pays right_pays. no_dths q ∙ sym (no_dths r));
      }

  -- a joined pair is that of a visit
  joined-visit : (p : TypeId × TypeId) → Contains s.classes p
      → (i : ℕ) × ((v : TypeVisit) × (slice_get s.visits.items i ≡ Some v) × (pair_of v ≡ p))
  joined-visit p among =
      let w = contains-unmap pair_of s.visits.items p
      (subst (λ (l : List (TypeId × TypeId)). Contains l p) walk.classes among) in
      (w.1.0, (w.0, slice_get-get_or s.visits.items w.1.0 w.0 w.1.1 ∙ ap (λ (x : TypeVisit). Some x) w.1.2, w.2))

  -- a joined pair agrees to each depth
  joined-agrees : (n : ℕ) (p : TypeId × TypeId) → Contains s.classes p → Agree lists no_amounts n p.0 p.1
  joined-agrees zero p among = tt
  joined-agrees (suc n) p among =
      let w = joined-visit p among in
      subst (λ (q : TypeId × TypeId). Agree lists no_amounts (suc n) q.0 q.1) w.1.2
      (visit-agrees n w.1.0 (visit-nodes lists a b s w.0 w.1.0 walk w.1.1) (compared w.0 w.1.0 w.1.1)
      (λ c d met.
      agree-behind lists no_amounts n c d met.left met.right met.left_is met.right_is
      (elim (linked-agree lists n s.classes (λ q there. joined-agrees n q there) met.left.0 met.right.0 met.among) [
        | inl h ↦
            subst (λ (k : ℕ). Agree lists no_amounts n met.left (record { 0 = k })) h
            (agree-same lists no_amounts n met.left formed.program formed.contractive
            (there-below lists met.left.0 met.left_is.node met.left_is.there))
        | inr h ↦ h
      ])))

  -- what is met has equal shapes
  pub met-equal : (c d : TypeId) → IsMet lists (Classed s) c d → EqualShapes lists c d
  met-equal c d met =
      λ n. agree-behind lists no_amounts n c d met.left met.right met.left_is met.right_is
      (elim (linked-agree lists n s.classes (λ q there. joined-agrees n q there) met.left.0 met.right.0 met.among) [
        | inl h ↦
            subst (λ (k : ℕ). Agree lists no_amounts n met.left (record { 0 = k })) h
            (agree-same lists no_amounts n met.left formed.program formed.contractive
            (there-below lists met.left.0 met.left_is.node met.left_is.there))
        | inr h ↦ h
      ])
