-- A batch at its start: what came since the ledger before it.
use Rattle.std.proofs.Common.{◌≡◌, ◌∙◌, ◌≤◌, ◌<◌, ℕ, List, [], ◌∷◌, ◌++◌, length, All, Option, Some, None, slice_get, refl, sym, subst, ap, arith}
use Rattle.std.specs.Option.{option_map}
use Rattle.std.proofs.lemmas.List.{append-nil, append_assoc}
use Rattle.std.proofs.lemmas.List.Elements.{All-nil, All-cons, All-head, All-append, All-weaker}
use Rattle.nomos_ir.specs.declared.ids.CodeId.{CodeId}
use Rattle.nomos_types.specs.Acceptance.{Acceptance, IsAccepted}
use Rattle.nomos_machine.specs.Starting.{started_with}
use Rattle.nomos_machine.specs.State.{State}
use Rattle.nomos_ready.specs.ProcessesCome.{HasGrown}
use Rattle.nomos_ready.specs.Covering.{Covers, IsFollowed, IsNoted, MayBeReady}
use Rattle.nomos_ready.specs.declared.awake.Awake.{Awake}
use Rattle.nomos_ready.proofs.BeginLaws.{begun-covers, grown-same, grown-twice, start-grown}
use Rattle.nomos_legal.specs.Batch.{after_start, after_starts, named, state_or}
use Rattle.nomos_legal.specs.Ledger.{Contracts, LedgerState}
use Rattle.nomos_legal.specs.StandsFor.{WorldStandsFor}
use Rattle.nomos_legal.specs.World.{FiresAt, WorldState, pids_of, ledger_begun}
use Rattle.nomos_legal.specs.World as world
use Rattle.nomos_legal.specs.declared.resolved.Resolved.{Resolved}
use Rattle.nomos_legal.proofs.WorldLaws.{world-typed}

-- where nothing fired, the state is the first one
nothing-fired : {a : Acceptance} {s t : State} (pids : List ℕ) {places : List CodeId} → FiresAt a s pids places t
    → pids ≡ [] → s ≡ t
nothing-fired [] (world.done s) none = refl
nothing-fired (pid ∷ pids) all none = absurd cc

pub fresh-start : (a : Acceptance) (w : WorldState) → WorldStandsFor a w → w.firings ≡ []
    → (ledger_begun a w).state ≡ w.state
fresh-start a w stands fresh = nothing-fired (pids_of w.firings) stands.reached (ap pids_of fresh)

-- ---- what starts leave

-- The state has grown, and behind the contracts that were there stand others, whose names are new.
pub record Begun (l m : LedgerState) : Type 0 where
  pub grown : HasGrown l.state m.state
  pub made : Contracts
  pub contracts : m.contracts ≡ l.contracts ++ made
  pub new : All (λ c. l.state.next_name ≤ c.1) made

begun-none : (l : LedgerState) → Begun l l
begun-none l = record {
  grown = grown-same l.state;
  made = [];
  contracts = sym (append-nil l.contracts);
  new = All-nil (λ c. l.state.next_name ≤ c.1);
}

begun-more : (l m r : LedgerState) → Begun l m → Begun m r → Begun l r
begun-more l m r one two = record {
  grown = grown-twice one.grown two.grown;
  made = one.made ++ two.made;
  contracts =
      two.contracts
      ∙ ap (λ (c : Contracts). c ++ two.made) one.contracts
      ∙ append_assoc l.contracts one.made two.made;
  new =
      All-append (λ c. l.state.next_name ≤ c.1) one.made two.made one.new
      (All-weaker (λ c. m.state.next_name ≤ c.1) (λ c. l.state.next_name ≤ c.1)
      (λ c over. omega (arith, over, one.grown.names)) two.made two.new);
}

module _ (a : Acceptance) where
  -- the state after a start, if there is one
  begun-one : (l : LedgerState) (r : Resolved) → Begun l (after_start a l r)
  begun-one l r =
      by_state (started_with a l.state r.proc.0 r.values r.names r.payer) refl
    where
      more : Option (List ℕ) → Contracts
      more (Some name) = (name, l.state.next_name) ∷ []
      more None = []

      behind : (name : Option (List ℕ)) → named l.contracts name l.state.next_name ≡ l.contracts ++ more name
      behind (Some name) = refl
      behind None = sym (append-nil l.contracts)

      new : (name : Option (List ℕ)) → All (λ c. l.state.next_name ≤ c.1) (more name)
      new (Some name) =
          All-cons (λ c. l.state.next_name ≤ c.1) (name, l.state.next_name) [] (omega arith)
          (All-nil (λ c. l.state.next_name ≤ c.1))
      new None = All-nil (λ c. l.state.next_name ≤ c.1)

      after : State → LedgerState
      after t = record l { contracts = named l.contracts r.contract l.state.next_name; state = t }

      begun : (t : State) → HasGrown l.state t → Begun l (after t)
      begun t grown = record {
        grown = grown;
        made = more r.contract;
        contracts = behind r.contract;
        new = new r.contract;
      }

      by_state : (o : Option State) → started_with a l.state r.proc.0 r.values r.names r.payer ≡ o
          → Begun l (after (state_or l.state o))
      by_state (Some t) is = begun t (start-grown a l.state t r.proc.0 r.values r.names r.payer is)
      by_state None is = begun l.state (grown-same l.state)

  pub begun-starts : (l : LedgerState) (rs : List Resolved) → Begun l (after_starts a l rs)
  begun-starts l [] = begun-none l
  begun-starts l (r ∷ rs) =
      begun-more l (after_start a l r) (after_starts a l (r ∷ rs)) (begun-one l r)
      (begun-starts (after_start a l r) rs)

-- ---- the numbers of what is new

behind-own : {X : Type 0} (xs ys : List X) → slice_get (xs ++ ys) (length xs) ≡ slice_get ys 0
behind-own [] ys = refl
behind-own (x ∷ xs) ys = behind-own xs ys

-- the first contract that was made has a new name
pub first-new : (l m : LedgerState) (name : ℕ) → Begun l m
    → Some name ≡ option_map (λ c. c.1) (slice_get m.contracts (length l.contracts)) → l.state.next_name ≤ name
first-new l m name begun is = at begun.made begun.new (sym (first ∙ sym is))
  where
    first : option_map (λ c. c.1) (slice_get begun.made 0)
        ≡ option_map (λ c. c.1) (slice_get m.contracts (length l.contracts))
    first =
        ap (option_map (λ c. c.1)) (sym (behind-own l.contracts begun.made)
        ∙ ap (λ (cs : Contracts). slice_get cs (length l.contracts)) (sym begun.contracts))

    at : (made : Contracts) → All (λ c. l.state.next_name ≤ c.1) made
        → Some name ≡ option_map (λ c. c.1) (slice_get made 0) → l.state.next_name ≤ name
    at (c ∷ made) new is =
        let same : name ≡ c.1 = cc in
        let over = All-head (λ (e : List ℕ × ℕ). l.state.next_name ≤ e.1) c made new in
        omega (arith, same, over)
    at [] new is = absurd cc

-- ---- a batch in which nothing has fired

module _ {a : Acceptance} (accepted : IsAccepted a) {w : WorldState} (stands : WorldStandsFor a w)
    (fresh : w.firings ≡ []) where
  pub begun-world : Begun w.origin (record w.origin { contracts = w.contracts; state = w.state })
  begun-world =
      let starts = begun-starts a w.origin w.starts in
      let same = fresh-start a w stands fresh in
      record {
        grown = subst (HasGrown w.origin.state) same starts.grown;
        made = starts.made;
        contracts = stands.contracts ∙ starts.contracts;
        new = starts.new;
      }

  -- A set of all processes from a number on covers it, where that is no higher than the first new one, and no name is
  -- followed that is not new, and nobody is noted.
  pub start-covers : (first first_name : ℕ) (awake : Awake) → first ≤ w.origin.state.next_object
      → w.origin.state.next_name ≤ first_name
      → ((q : ℕ) → first ≤ q → q < w.state.next_object → MayBeReady awake q)
      → ((name : ℕ) → IsFollowed awake name → first_name ≤ name) → ((name q : ℕ) → IsNoted awake name q → ⊥)
      → Covers a w.state awake
  start-covers first first_name awake low high woken followed noted =
      begun-covers accepted stands.origin.settled.typed (world-typed accepted stands) begun-world.grown
      stands.origin.quiet awake (λ q from below. woken q (omega (arith, from, low)) below)
      (λ name is. omega (arith, followed name is, high)) noted
