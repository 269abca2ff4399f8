-- A walk through types at which no channel is sent, while it goes on and when it ends.
use Rattle.std.proofs.Common.{◌≡◌, ◌<◌, ◌+◌, inl, inr, ℕ, get_or, Option, Some, None, slice_get, ap, subst, ◌∙◌, arith}
use Rattle.std.proofs.lemmas.Bool.{cases_lt}
use Rattle.std.proofs.lemmas.Option.{slice_get_within, slice_get-get_or}
use Rattle.nomos_ir.specs.declared.ids.TypeId.{TypeId}
use Rattle.nomos_ir.specs.declared.lists.ProgramLists.{ProgramLists}
use Rattle.nomos_ir.specs.declared.type_node.TypeNode.{TypeNode}
use Rattle.nomos_ir.specs.Nodes.{type_node}
use Rattle.nomos_ir.specs.Program.{IsProgram}
use Rattle.nomos_ir.specs.Unfold.{Unfolds}
use Rattle.nomos_ir.proofs.UnfoldLaws.{Unfolds-unique}
use Rattle.nomos_types.specs.Synchronizing.{Reaches, here, further}
use Rattle.nomos_equality.proofs.PathLaws.{node-behind}
use Rattle.nomos_equality.specs.declared.continuation_walk.Arrival.{Arrival}
use Rattle.nomos_equality.specs.Carriers.{IsCarrier, CarriesChannel, CarriesNothing}
use Rattle.nomos_equality.specs.mirror.Walk.{Visits, IsVisited, WalksTo, FollowsAll}
use Rattle.nomos_equality.proofs.ContinuationLemmas.{labels-differ, continuation-hop, continues-reaches}
use Rattle.nomos_equality.proofs.PassingLemmas.{none-past}
use Rattle.nomos_equality.proofs.WalkLemmas.{AreReached, reached-walks, visited-walks, walks-get, one-visit, follows-walks, visit-reached}

-- a visit whose continuations are met, and at which no channel is sent
pub record IsSilent (lists : ProgramLists) (visits : Visits) (at : ℕ) : Type 0 where
  pub follows : FollowsAll lists at visits
  pub silent : (n : TypeNode) → type_node lists at ≡ Some n → ¬ (IsCarrier n)

-- what holds of a walk at each moment
pub record IsSilentSoFar (lists : ProgramLists) (start : TypeId) (visits : Visits) (next : ℕ) : Type 0 where
  pub reached : AreReached lists start visits
  pub begun : IsVisited lists visits start
  pub passed : (i at : ℕ) (from : Option Arrival) → i < next → slice_get visits i ≡ Some (at, from)
      → IsSilent lists visits at

-- one visit further
pub silent-more : (lists : ProgramLists) (start : TypeId) (at : ℕ) (m : TypeNode) (s n : Visits) (next : ℕ)
    (from : Option Arrival) → IsSilentSoFar lists start s next → slice_get s next ≡ Some (at, from)
    → type_node lists at ≡ Some m → ¬ (IsCarrier m) → WalksTo lists s n → FollowsAll lists at n
    → IsSilentSoFar lists start n (next + 1)
silent-more lists start at m s n next from so_far there node silent walks follows = record {
  reached = reached-walks lists start s n so_far.reached walks;
  begun = visited-walks lists s n start walks so_far.begun;
  passed = λ i k g below found.
      elim (cases_lt i next) [
        | inl less ↦
            let inside = slice_get_within s next (at, from) there in
            let d = slice_get-get_or s i (at, from) (omega (arith, inside, less)) in
            let now = walks-get lists s n i (get_or s i (at, from)) walks d in
            let same : get_or s i (at, from) ≡ (k, g) = cc in
            let before : slice_get s i ≡ Some (k, g) =
            subst (λ (v : ℕ × Option Arrival). slice_get s i ≡ Some v) same d in
            let passed = so_far.passed i k g less before in
            record { follows = λ h. follows-walks lists k h s n walks (passed.follows h); silent = passed.silent }
        | inr more ↦
            let is : next ≡ i = omega (arith, below, more) in
            let now = walks-get lists s n next (at, from) walks there in
            let now_at : slice_get n i ≡ Some (at, from) =
            subst (λ (j : ℕ). slice_get n j ≡ Some (at, from)) is now in
            let same : at ≡ k = ap (λ (v : ℕ × Option Arrival). v.0) (one-visit n i (at, from) (k, g) now_at found) in
            subst (λ (j : ℕ). IsSilent lists n j) same (record {
              follows = follows;
              silent = λ q is_q carrier.
                  let one : q ≡ m = cc in
                  silent (subst IsCarrier one carrier);
            })
      ];
}

-- ---- the end

module _ (lists : ProgramLists) (start : TypeId) (s : Visits) (next : ℕ) (is_program : IsProgram lists)
    (so_far : IsSilentSoFar lists start s next) (none : slice_get s next ≡ None) where
  visited-passed : (t : TypeId) (met : IsVisited lists s t) → IsSilent lists s met.at
  visited-passed t met =
      let k = met.among.0 in
      let found : slice_get s k ≡ Some (met.at, met.from) = slice_get-get_or s k (met.at, met.from) met.among.1
      ∙ ap (λ (v : ℕ × Option Arrival). Some v) met.among.2 in
      so_far.passed k met.at met.from (none-past s next k (met.at, met.from) none found) found

  visited-node : (t : TypeId) (n : TypeNode) (met : IsVisited lists s t) → Unfolds lists t.0 n
      → type_node lists met.at ≡ Some n
  visited-node t n met unfolds =
      let same : met.is.node ≡ n = Unfolds-unique lists t.0 met.is.node n met.is.unfolds unfolds in
      subst (λ (m : TypeNode). type_node lists met.at ≡ Some m) same met.is.there

  reached-visited : (t : TypeId) → Reaches lists start t → IsVisited lists s t
  reached-visited _ here = so_far.begun
  reached-visited u (further {t = t} n reached unfolds among) =
      let met = reached-visited t reached in
      let there = visited-node t n met unfolds in
      let h = continuation-hop n u (labels-differ lists met.at n is_program there) among in
      (visited-passed t met).follows h.0 n u there h.1

  -- no channel is sent at any type that is reached
  pub silent-ends : CarriesNothing lists start
  silent-ends c =
      let met = reached-visited c.at c.reached in
      (visited-passed c.at met).silent c.head (visited-node c.at c.head met c.unfolds) c.carrier

-- where a channel is sent at a visit, one is sent on the talk
pub carrier-found : (lists : ProgramLists) (start : TypeId) (at : ℕ) (m : TypeNode) (s : Visits) (i : ℕ)
    (from : Option Arrival) → AreReached lists start s → slice_get s i ≡ Some (at, from)
    → type_node lists at ≡ Some m → IsCarrier m → CarriesChannel lists start
carrier-found lists start at m s i from reached there node carrier =
    let r = visit-reached lists start s i at from reached there in
    record {
      at = r.1;
      reached = continues-reaches lists start start r.1 r.0 here r.2;
      head = m;
      unfolds = node-behind lists r.1.0 at m r.3 node;
      carrier = carrier;
    }
