-- Lemmas of the walk through what can be reached from a type, while it goes on and when it ends.
use Rattle.std.proofs.Common.{◌≡◌, ◌<◌, ◌+◌, inl, inr, ℕ, nat_eq, Bool, true, false, if◌then◌else◌, List, [], ◌∷◌, ◌++◌, length, get_or, Contains, Option, Some, None, is_some, true≢false, slice_get, refl, sym, ap, subst, ◌∙◌, eqb-true, arith}
use Rattle.std.specs.List.{list_any}
use Rattle.std.proofs.lemmas.Bool.{cases_lt}
use Rattle.std.proofs.lemmas.List.Elements.{All-push, All-nil}
use Rattle.std.proofs.lemmas.Option.{slice_get_within, slice_get-get_or}
use Rattle.indexmap.specs.IndexSet.{insert_key}
use Rattle.indexmap.proofs.CallerLemmas.{Contains-insert_key}
use Rattle.nomos_ir.specs.declared.ids.Label.{Label}
use Rattle.nomos_ir.specs.declared.ids.TypeId.{TypeId}
use Rattle.nomos_ir.specs.declared.lists.ProgramLists.{ProgramLists}
use Rattle.nomos_ir.specs.declared.type_node.Branch.{Branch}
use Rattle.nomos_ir.specs.declared.type_node.TypeNode.{TypeNode}
use Rattle.nomos_ir.specs.Nodes.{type_node}
use Rattle.nomos_ir.specs.Unfold.{Unfolds}
use Rattle.nomos_ir.proofs.UnfoldLaws.{constructor-node}
use Rattle.nomos_types.specs.Branches.{goes_by}
use Rattle.nomos_types.specs.Unfolding.{IsUnfolding}
use Rattle.nomos_equality.specs.declared.hop.Hop.{Hop}
use Rattle.nomos_equality.specs.declared.hop.Hop.TheVariants as hop
use Rattle.nomos_equality.specs.Comparing.{IsFront}
use Rattle.nomos_equality.specs.Paths.{PathLeads, ends, hops, choices_of, part_by, paid_by, PaysNowhere}
use Rattle.nomos_equality.specs.mirror.Reach.{AreTypes, IsVisited, WalksOn, MeetsPart, MeetsLabels, MeetsParts}
use Rattle.nomos_equality.proofs.ComparedLaws.{front-same, front-through}
use Rattle.nomos_equality.proofs.HeadLaws.{goes-label}
use Rattle.nomos_equality.proofs.PathLaws.{before-name}
use Rattle.nomos_equality.proofs.VisitLemmas.{front-contains, get-front}

-- ---- one more visit

insert-front : (ks : List ℕ) (k : ℕ) → IsFront ks (insert_key nat_eq ks k)
insert-front ks k = by (list_any (nat_eq k) ks)
  where
    by : (b : Bool) → IsFront ks (if b then ks else ks ++ k ∷ [])
    by true = front-same ks ks refl
    by false = record { more = k ∷ []; is = refl }

insert-types : (lists : ProgramLists) (ks : List ℕ) (k : ℕ) → k < length lists.types → AreTypes lists ks
    → AreTypes lists (insert_key nat_eq ks k)
insert-types lists ks k below types = by (list_any (nat_eq k) ks)
  where
    by : (b : Bool) → AreTypes lists (if b then ks else ks ++ k ∷ [])
    by true = types
    by false = All-push (λ (at : ℕ). at < length lists.types) ks k types below

pub walks-insert : (lists : ProgramLists) (old new : List ℕ) (at : ℕ) → at < length lists.types
    → new ≡ insert_key nat_eq old at → WalksOn lists old new
walks-insert lists old new at below is =
    subst (λ (l : List ℕ). WalksOn lists old l) (sym is)
    (record { front = insert-front old at; types = insert-types lists old at below })

pub visited-insert : (lists : ProgramLists) (old new : List ℕ) (t : TypeId) (at : ℕ) → IsUnfolding lists t.0 at
    → new ≡ insert_key nat_eq old at → IsVisited lists new t
visited-insert lists old new t at behind is =
    record {
      at = at;
      is = behind;
      among =
          subst (λ (l : List ℕ). Contains l at) (sym is) (Contains-insert_key nat_eq (λ x y e. eqb-true x y e) old at);
    }

-- ---- what is met stays met

pub walks-nowhere : (lists : ProgramLists) (s : List ℕ) → WalksOn lists s s
walks-nowhere lists s = record { front = front-same s s refl; types = λ types. types }

pub walks-through : (lists : ProgramLists) (s t u : List ℕ) → WalksOn lists s t → WalksOn lists t u → WalksOn lists s u
walks-through lists s t u first second =
    record {
      front = front-through first.front second.front;
      types = λ types. second.types (first.types types);
    }

pub visited-walks : (lists : ProgramLists) (s n : List ℕ) (t : TypeId) → WalksOn lists s n → IsVisited lists s t
    → IsVisited lists n t
visited-walks lists s n t walks met =
    record { at = met.at; is = met.is; among = front-contains s n met.at walks.front met.among }

pub part-walks : (lists : ProgramLists) (at : ℕ) (h : Hop) (s n : List ℕ) → WalksOn lists s n → MeetsPart lists at h s
    → MeetsPart lists at h n
part-walks lists at h s n walks meets = λ node t there part. visited-walks lists s n t walks (meets node t there part)

-- ---- what the functions owe

-- the part by a hop is met
pub part-known : (lists : ProgramLists) (at : ℕ) (h : Hop) (p : TypeNode) (t : TypeId) (visits : List ℕ)
    → type_node lists at ≡ Some p → part_by p h ≡ Some t → IsVisited lists visits t → MeetsPart lists at h visits
part-known lists at h p t visits there part met =
    λ m u m_there m_part.
    let same : p ≡ m = cc in
    let at_m : part_by m h ≡ Some t = subst (λ (k : TypeNode). part_by k h ≡ Some t) same part in
    let target : t ≡ u = cc in
    subst (λ (v : TypeId). IsVisited lists visits v) target met

-- there is no part by a hop
pub part-none : (lists : ProgramLists) (at : ℕ) (h : Hop) (p : TypeNode) (visits : List ℕ)
    → type_node lists at ≡ Some p → part_by p h ≡ None → MeetsPart lists at h visits
part-none lists at h p visits there none =
    λ m u m_there m_part.
    let same : p ≡ m = cc in
    let at_m : part_by m h ≡ None = subst (λ (k : TypeNode). part_by k h ≡ None) same none in
    absurd cc

-- the labels of a visit whose branches were followed
pub labels-met : (lists : ProgramLists) (at : ℕ) (p : TypeNode) (visits : List ℕ) → type_node lists at ≡ Some p
    → ((k : ℕ) (d : Branch) → k < length (choices_of p)
    → MeetsPart lists at (hop.Label (get_or (choices_of p) k d).label) visits) → MeetsLabels lists at visits
labels-met lists at p visits there followed =
    λ l m t m_there part.
    let same : m ≡ p = cc in
    let found : goes_by (choices_of p) l
    ≡ Some t = subst (λ (n : TypeNode). goes_by (choices_of n) l ≡ Some t) same part in
    let c = goes-label (choices_of p) l t found in
    let at_branch : MeetsPart lists at (hop.Label c.0.label) visits =
    subst (λ (d : Branch). MeetsPart lists at (hop.Label d.label) visits) c.1.2 (followed c.1.0 c.0 c.1.1) in
    let at_label : MeetsPart lists at (hop.Label l) visits =
    subst (λ (k : Label). MeetsPart lists at (hop.Label k) visits) c.2 at_branch in
    at_label m t m_there part

-- all hops
pub all-met : (lists : ProgramLists) (at : ℕ) (s t u : List ℕ) → MeetsPart lists at hop.Carried s → WalksOn lists s t
    → MeetsPart lists at hop.Next t → WalksOn lists t u → MeetsLabels lists at u → MeetsParts lists at u
all-met lists at s t u carried first next second labels = by
  where
    by : (h : Hop) → MeetsPart lists at h u
    by (hop.Label l) = labels l
    by hop.Next = part-walks lists at hop.Next t u second next
    by hop.Carried = part-walks lists at hop.Carried s u (walks-through lists s t u first second) carried

-- what is not there
pub none-where : {X : Type 0} (o : Option X) → is_some o ≡ false → o ≡ None
none-where None absent = refl
none-where (Some x) absent = absurd (true≢false absent)

-- ---- at each moment

-- a visit whose parts are met, and which pays nothing
pub record IsPassed (lists : ProgramLists) (visits : List ℕ) (at : ℕ) : Type 0 where
  pub parts : MeetsParts lists at visits
  pub free : (n : TypeNode) → type_node lists at ≡ Some n → paid_by n ≡ None

-- what holds of a walk: the first visits pay nothing
pub record IsFreeSoFar (lists : ProgramLists) (start : TypeId) (visits : List ℕ) (next : ℕ) : Type 0 where
  pub types : AreTypes lists visits
  pub begun : IsVisited lists visits start
  pub passed : (i at : ℕ) → i < next → slice_get visits i ≡ Some at → IsPassed lists visits at

pub free-begins : (lists : ProgramLists) (start : TypeId) (s n : List ℕ) → s ≡ [] → WalksOn lists s n
    → IsVisited lists n start → IsFreeSoFar lists start n 0
free-begins lists start s n empty walks met =
    record {
      types = walks.types (subst (AreTypes lists) (sym empty) (All-nil (λ (at : ℕ). at < length lists.types)));
      begun = met;
      passed = λ i at below there. absurd (omega (arith, below));
    }

-- a visit is a type of the program
pub visit-below : (lists : ProgramLists) (visits : List ℕ) (i at : ℕ) → AreTypes lists visits
    → slice_get visits i ≡ Some at → at < length lists.types
visit-below lists visits i at types there =
    let inside = slice_get_within visits i at there in
    let d = slice_get-get_or visits i at inside in
    let same : get_or visits i at ≡ at = cc in
    subst (λ (k : ℕ). k < length lists.types) same (types i at inside)

get-walks : (lists : ProgramLists) (s n : List ℕ) (i at : ℕ) → WalksOn lists s n → slice_get s i ≡ Some at
    → slice_get n i ≡ Some at
get-walks lists s n i at walks found =
    subst (λ (l : List ℕ). slice_get l i ≡ Some at) (sym walks.front.is) (get-front s walks.front.more i at found)

-- one visit further
pub free-more : (lists : ProgramLists) (start : TypeId) (at : ℕ) (m : TypeNode) (s n : List ℕ) (next : ℕ)
    → IsFreeSoFar lists start s next → slice_get s next ≡ Some at → type_node lists at ≡ Some m → paid_by m ≡ None
    → WalksOn lists s n → MeetsParts lists at n → IsFreeSoFar lists start n (next + 1)
free-more lists start at m s n next so_far there node free walks parts =
    record {
      types = walks.types so_far.types;
      begun = visited-walks lists s n start walks so_far.begun;
      passed = λ i k below found.
          elim (cases_lt i next) [
            | inl less ↦
                let inside = slice_get_within s next at there in
                let d = slice_get-get_or s i at (omega (arith, inside, less)) in
                let now = get-walks lists s n i (get_or s i at) walks d in
                let same : get_or s i at ≡ k = cc in
                let before : slice_get s i ≡ Some k = subst (λ (v : ℕ). slice_get s i ≡ Some v) same d in
                let passed = so_far.passed i k less before in
                record { parts = λ h. part-walks lists k h s n walks (passed.parts h); free = passed.free }
            | inr more ↦
                let is : next ≡ i = omega (arith, below, more) in
                let now = get-walks lists s n next at walks there in
                let now_at : slice_get n i ≡ Some at = subst (λ (j : ℕ). slice_get n j ≡ Some at) is now in
                let same : at ≡ k = cc in
                subst (λ (j : ℕ). IsPassed lists n j) same (record {
                  parts = parts;
                  free = λ q is_q.
                      let one : m ≡ q = cc in
                      subst (λ (p : TypeNode). paid_by p ≡ None) one free;
                })
          ];
    }

-- ---- the end

module _ (lists : ProgramLists) (start : TypeId) (s : List ℕ) (next : ℕ) (so_far : IsFreeSoFar lists start s next)
    (none : slice_get s next ≡ None) where
  all-passed : (at : ℕ) → Contains s at → IsPassed lists s at
  all-passed at (i, inside, is) =
      let there : slice_get s i ≡ Some at = slice_get-get_or s i at inside ∙ ap (λ (k : ℕ). Some k) is in
      so_far.passed i at (within i inside) there
    where
      within : (i : ℕ) → i < length s → i < next
      within i inside =
          elim (cases_lt i next) [
            | inl less ↦ less
            | inr more ↦
                let d = slice_get-get_or s next 0 (omega (arith, inside, more)) in
                absurd cc
          ]

  -- the node of a visit, by what the type unfolds to
  visited-node : (t : TypeId) (n : TypeNode) (met : IsVisited lists s t) → Unfolds lists t.0 n
      → type_node lists met.at ≡ Some n
  visited-node t n met unfolds =
      constructor-node lists met.at met.is.node n met.is.there met.is.no_name
      (before-name lists t.0 met.at n met.is unfolds)

  visited-nowhere : (path : List Hop) (t u : TypeId) (n : TypeNode) → IsVisited lists s t → PathLeads lists path t u
      → Unfolds lists u.0 n → paid_by n ≡ None
  visited-nowhere [] t _ n met (ends _) unfolds =
      (all-passed met.at met.among).free n (visited-node t n met unfolds)
  visited-nowhere (h ∷ path) t u n met (hops _ _ _ c _ m first part rest) unfolds =
      visited-nowhere path c u n ((all-passed met.at met.among).parts h m c (visited-node t m met first) part) rest
      unfolds

  pub free-ends : PaysNowhere lists start
  free-ends = λ path u n leads unfolds. visited-nowhere path start u n so_far.begun leads unfolds
