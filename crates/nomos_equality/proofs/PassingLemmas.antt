-- What a walk says of a shared type, while it goes on and when it ends.
use Rattle.std.proofs.Common.{◌≡◌, ◌<◌, ◌+◌, ◌⊎◌, inl, inr, ℕ, List, [], get_or, Contains, Option, Some, None, slice_get, sym, ap, subst, ◌∙◌, arith}
use Rattle.std.proofs.lemmas.Bool.{cases_lt}
use Rattle.std.proofs.lemmas.Option.{slice_get_within, slice_get-get_or}
use Rattle.nomos_ir.specs.declared.amount.Amount.{Amount}
use Rattle.nomos_ir.specs.declared.ids.TypeId.{TypeId}
use Rattle.nomos_ir.specs.declared.lists.ProgramLists.{ProgramLists}
use Rattle.nomos_ir.specs.declared.type_node.TypeNode.{TypeNode}
use Rattle.nomos_ir.specs.declared.type_node.TypeNode.TheVariants as node
use Rattle.nomos_ir.specs.Nodes.{type_node}
use Rattle.nomos_ir.specs.Program.{IsProgram}
use Rattle.nomos_ir.specs.Unfold.{Unfolds}
use Rattle.nomos_ir.proofs.UnfoldLaws.{Unfolds-unique}
use Rattle.nomos_types.specs.Equality.{EqualShapes}
use Rattle.nomos_types.specs.Synchronizing.{Reaches, here, further}
use Rattle.nomos_equality.specs.Comparing.{Compared}
use Rattle.nomos_equality.specs.Paths.{StandAtEqualPaths}
use Rattle.nomos_equality.specs.declared.hop.Hop.{Hop}
use Rattle.nomos_equality.proofs.PathLaws.{node-behind}
use Rattle.nomos_equality.specs.declared.continuation_walk.Arrival.{Arrival}
use Rattle.nomos_equality.specs.Continuing.{StandAtDown}
use Rattle.nomos_equality.specs.SyncAnswer.{StraysAt, FindsSynchronizing}
use Rattle.nomos_equality.specs.mirror.Walk.{Visits, IsVisited, MeetsType, WalksTo, FollowsAll, WayTo, AgreesBehind, no_down, down, DiffersBehind}
use Rattle.nomos_equality.proofs.ContinuationLemmas.{labels-differ, continuation-hop, continues-reaches}
use Rattle.nomos_equality.proofs.WalkLemmas.{AreReached, reached-begins, reached-walks, begins-visited, visited-walks, walks-get, one-visit, follows-walks, way-reached, visit-reached}

-- a visit whose continuations are met, and behind which, where it is a `down`, stands an equal type
pub record IsPassed (lists : ProgramLists) (shared : TypeId) (visits : Visits) (e : Compared) (at : ℕ) : Type 0 where
  pub follows : FollowsAll lists at visits
  pub equal : (b : TypeId) → type_node lists at ≡ Some (node.Down b) → EqualShapes lists b shared
  pub noted : (b : TypeId) (q : Amount × Amount) → type_node lists at ≡ Some (node.Down b)
      → StandAtEqualPaths lists b shared q → Contains e.amounts q

-- what holds of a walk at each moment
pub record IsPassing (lists : ProgramLists) (start shared : TypeId) (old e : Compared) (visits : Visits)
    (next : ℕ) : Type 0 where
  pub reached : AreReached lists start visits
  pub begun : IsVisited lists visits start
  pub passed : (i at : ℕ) (from : Option Arrival) → i < next → slice_get visits i ≡ Some (at, from)
      → IsPassed lists shared visits e at
  pub kept : (q : Amount × Amount) → Contains old.amounts q → Contains e.amounts q
  pub found : (q : Amount × Amount) → Contains e.amounts q → Contains old.amounts q ⊎ StandAtDown lists start shared q

pub passing-begins : (lists : ProgramLists) (start shared : TypeId) (old : Compared) (s n : Visits) → s ≡ []
    → MeetsType lists s start None n → IsPassing lists start shared old old n 0
passing-begins lists start shared old s n empty met =
    record {
      reached = reached-begins lists start s n empty met;
      begun = begins-visited lists start s n met;
      passed = λ i at from below there. absurd (omega (arith, below));
      kept = λ q among. among;
      found = λ q among. inl among;
    }

-- what was noted stays noted
agrees-kept : (lists : ProgramLists) (at shared : TypeId) (e f : Compared) (q : Amount × Amount)
    → AgreesBehind lists at shared e f → Contains e.amounts q → Contains f.amounts q
agrees-kept lists at shared e f q (no_down none same) among =
    subst (λ (c : Compared). Contains c.amounts q) (sym same) among
agrees-kept lists at shared e f q (down b there finds) among = (finds.amounts q).1 (inl among)

agrees-equal : (lists : ProgramLists) (at shared : TypeId) (e f : Compared) (b : TypeId)
    → AgreesBehind lists at shared e f → type_node lists at.0 ≡ Some (node.Down b) → EqualShapes lists b shared
agrees-equal lists at shared e f b (no_down none same) there = absurd (none b there)
agrees-equal lists at shared e f b (down c found finds) there =
    let same : c ≡ b = cc in
    subst (λ (t : TypeId). EqualShapes lists t shared) same finds.shapes

agrees-noted : (lists : ProgramLists) (at shared : TypeId) (e f : Compared) (b : TypeId) (q : Amount × Amount)
    → AgreesBehind lists at shared e f → type_node lists at.0 ≡ Some (node.Down b) → StandAtEqualPaths lists b shared q
    → Contains f.amounts q
agrees-noted lists at shared e f b q (no_down none same) there stand = absurd (none b there)
agrees-noted lists at shared e f b q (down c found finds) there stand =
    let same : b ≡ c = cc in
    (finds.amounts q).1 (inr (subst (λ (t : TypeId). StandAtEqualPaths lists t shared q) same stand))

passed-more : (lists : ProgramLists) (shared : TypeId) (s n : Visits) (e f : Compared) (at : ℕ) → WalksTo lists s n
    → ((q : Amount × Amount) → Contains e.amounts q → Contains f.amounts q)
    → IsPassed lists shared s e at → IsPassed lists shared n f at
passed-more lists shared s n e f at walks kept passed =
    record {
      follows = λ h. follows-walks lists at h s n walks (passed.follows h);
      equal = passed.equal;
      noted = λ b q there stand. kept q (passed.noted b q there stand);
    }

-- what is found behind a visit is found at a `down` that is reached
agrees-found : (lists : ProgramLists) (start shared at : TypeId) (old e f : Compared) (s : Visits) (i : ℕ)
    (from : Option Arrival) (q : Amount × Amount) → AreReached lists start s → slice_get s i ≡ Some (at.0, from)
    → AgreesBehind lists at shared e
    f → (Contains e.amounts q → Contains old.amounts q ⊎ StandAtDown lists start shared q) → Contains f.amounts q
    → Contains old.amounts q ⊎ StandAtDown lists start shared q
agrees-found lists start shared at old e f s i from q reached there (no_down none same) before among =
    before (subst (λ (c : Compared). Contains c.amounts q) same among)
agrees-found lists start shared at old e f s i from q reached there (down b found finds) before among =
    elim ((finds.amounts q).0 among) [
      | inl h ↦ before h
      | inr h ↦
          let r = visit-reached lists start s i at.0 from reached there in
          inr (record {
            at = r.1;
            behind = b;
            reached = continues-reaches lists start start r.1 r.0 here r.2;
            unfolds = node-behind lists r.1.0 at.0 (node.Down b) r.3 found;
            stand = h;
          })
    ]

-- one visit further
pub passing-more : (lists : ProgramLists) (start shared at : TypeId) (old e f : Compared) (s n : Visits) (next : ℕ)
    (from : Option Arrival) → IsPassing lists start shared old e s next → slice_get s next ≡ Some (at.0, from)
    → AgreesBehind lists at shared e f → WalksTo lists s n → FollowsAll lists at.0 n
    → IsPassing lists start shared old f n (next + 1)
passing-more lists start shared at old e f s n next from passing there agrees walks follows =
    record {
      reached = reached-walks lists start s n passing.reached walks;
      begun = visited-walks lists s n start walks passing.begun;
      passed = λ i k g below found.
          elim (cases_lt i next) [
            | inl less ↦
                let inside = slice_get_within s next (at.0, from) there in
                let d = slice_get-get_or s i (at.0, from) (omega (arith, inside, less)) in
                let now = walks-get lists s n i (get_or s i (at.0, from)) walks d in
                let same : get_or s i (at.0, from) ≡ (k, g) = cc in
                let before : slice_get s i ≡ Some (k, g) = subst (λ (v : ℕ × Option Arrival). slice_get s i ≡ Some v)
                same d in
                passed-more lists shared s n e f k walks (λ q among. agrees-kept lists at shared e f q agrees among)
                (passing.passed i k g less before)
            | inr more ↦
                let is : next ≡ i = omega (arith, below, more) in
                let now = walks-get lists s n next (at.0, from) walks there in
                let now_at : slice_get n i ≡ Some (at.0, from) = subst (λ (j : ℕ). slice_get n j ≡ Some (at.0, from)) is
                now in
                let same : at.0 ≡ k = ap (λ (v : ℕ × Option Arrival). v.0)
                (one-visit n i (at.0, from) (k, g) now_at found) in
                subst (λ (j : ℕ). IsPassed lists shared n f j) same
                (record {
                  follows = follows;
                  equal = λ b down_there. agrees-equal lists at shared e f b agrees down_there;
                  noted = λ b q down_there stand. agrees-noted lists at shared e f b q agrees down_there stand;
                })
          ];
      kept = λ q among. agrees-kept lists at shared e f q agrees (passing.kept q among);
      found =
          λ q among. agrees-found lists start shared at old e f s next from q passing.reached there agrees
          (passing.found q) among;
    }

-- ---- the end

pub none-past : {X : Type 0} (xs : List X) (n i : ℕ) (x : X) → slice_get xs n ≡ None → slice_get xs i ≡ Some x → i < n
none-past xs n i x none found =
    elim (cases_lt i n) [
      | inl less ↦ less
      | inr more ↦
          let inside = slice_get_within xs i x found in
          let there = slice_get-get_or xs n x (omega (arith, inside, more)) in
          absurd cc
    ]

module _ (lists : ProgramLists) (start shared : TypeId) (old e : Compared) (s : Visits) (next : ℕ)
    (is_program : IsProgram lists) (passing : IsPassing lists start shared old e s next)
    (none : slice_get s next ≡ None) where
  -- a type that was met is passed
  visited-passed : (t : TypeId) (met : IsVisited lists s t) → IsPassed lists shared s e met.at
  visited-passed t met =
      let k = met.among.0 in
      let found : slice_get s k ≡ Some (met.at, met.from) = slice_get-get_or s k (met.at, met.from) met.among.1
      ∙ ap (λ (v : ℕ × Option Arrival). Some v) met.among.2 in
      passing.passed k met.at met.from (none-past s next k (met.at, met.from) none found) found

  -- what a type unfolds to stands where it was met
  visited-node : (t : TypeId) (n : TypeNode) (met : IsVisited lists s t) → Unfolds lists t.0 n
      → type_node lists met.at ≡ Some n
  visited-node t n met unfolds =
      let same : met.is.node ≡ n = Unfolds-unique lists t.0 met.is.node n met.is.unfolds unfolds in
      subst (λ (m : TypeNode). type_node lists met.at ≡ Some m) same met.is.there

  -- each type that is reached was met
  reached-visited : (t : TypeId) → Reaches lists start t → IsVisited lists s t
  reached-visited _ here = passing.begun
  reached-visited u (further {t = t} n reached unfolds among) =
      let met = reached-visited t reached in
      let there = visited-node t n met unfolds in
      let h = continuation-hop n u (labels-differ lists met.at n is_program there) among in
      (visited-passed t met).follows h.0 n u there h.1

  pub passing-ends : FindsSynchronizing lists start shared old e
  passing-ends =
      record {
        shapes = λ t b reached unfolds.
            let met = reached-visited t reached in
            (visited-passed t met).equal b (visited-node t (node.Down b) met unfolds);
        amounts = λ q. (
          passing.found q,
          λ there. elim there [
            | inl h ↦ passing.kept q h
            | inr h ↦
                let met = reached-visited h.at h.reached in
                (visited-passed h.at met).noted h.behind q (visited-node h.at (node.Down h.behind) met h.unfolds)
                h.stand
          ],
        );
      }

-- a visit behind which another type stands
pub passing-offends : (lists : ProgramLists) (start shared at : TypeId) (s : Visits) (i : ℕ) (from : Option Arrival)
    (path : List Hop) → AreReached lists start s → slice_get s i ≡ Some (at.0, from) → WayTo s i path
    → DiffersBehind lists at shared → StraysAt lists start shared path
passing-offends lists start shared at s i from path reached there way differs =
    let r = way-reached lists start s i at.0 from path reached way there in
    record {
      at = r.0;
      behind = differs.behind;
      leads = r.1;
      unfolds = node-behind lists r.0.0 at.0 (node.Down differs.behind) r.2 differs.there;
      unequal = differs.unequal;
    }
