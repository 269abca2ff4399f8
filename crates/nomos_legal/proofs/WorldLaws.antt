-- Worlds that stand for a program: what their firings reach, one more firing, and what a batch leaves that stays.
use Rattle.std.proofs.Common.{◌≡◌, ◌∙◌, ℕ, ◌*◌, ◌^◌, ◌<◌, List, [], ◌∷◌, ◌++◌, length, All, Option, Some, None, refl, sym, subst, ap, arith}
use Rattle.std.proofs.lemmas.List.{length-map, map-append}
use Rattle.std.proofs.lemmas.Option.{same_Some}
use Rattle.nomos_ir.specs.declared.ids.CodeId.{CodeId}
use Rattle.nomos_types.specs.Acceptance.{Acceptance, IsAccepted}
use Rattle.nomos_machine.specs.Optional.{◌>>=◌}
use Rattle.nomos_machine.specs.Run.{IsQuiet, run}
use Rattle.nomos_machine.specs.Starting.{cleared}
use Rattle.nomos_machine.specs.State.{State, gas_of, process_at}
use Rattle.nomos_machine.specs.Step.{step, deed, state_after}
use Rattle.nomos_machine.specs.TypedState.{IsTyped, IsContractName}
use Rattle.nomos_machine.specs.declared.object.Process.{Process}
use Rattle.nomos_machine.proofs.ContractLaws.{cleared-keeps_contracts, run-keeps_contracts}
use Rattle.nomos_machine.proofs.OutsideLaws.{run-no_outside}
use Rattle.nomos_machine.proofs.PreservationLaws.{run-keeps}
use Rattle.nomos_machine.proofs.RunLaws.{Rises, run-rises}
use Rattle.nomos_machine.proofs.StartingLaws.{cleared-typed}
use Rattle.nomos_script.specs.declared.item.Start.{Start}
use Rattle.nomos_legal.specs.Batch.{AllStart, after_starts}
use Rattle.nomos_legal.specs.Ending.{EndsAs, HasTransaction}
use Rattle.nomos_legal.specs.Ledger.{AreNamed, LedgerState, IsLedger}
use Rattle.nomos_legal.specs.StandsFor.{IsSettled, StandsFor, WorldStandsFor}
use Rattle.nomos_legal.specs.World.{WorldState, IsWorld, FiresAt, ledger_begun, pids_of, committed}
use Rattle.nomos_legal.specs.World as world
use Rattle.nomos_legal.specs.declared.journal.End.TheVariants as end
use Rattle.nomos_legal.specs.declared.journal.Firing.{Firing}
use Rattle.nomos_legal.specs.declared.resolved.Resolved.{Resolved}
use Rattle.nomos_legal.proofs.SettledLaws.{contracts-kept, little-deposits, same-no_transaction, same-quiet}
use Rattle.nomos_legal.proofs.StartLaws.{starts-named, starts-same, starts-settled}

-- ---- firings at their instructions

-- who fires is a process
step-process : (a : Acceptance) (s t : State) (pid : ℕ) → step a s pid ≡ Some t
    → (p : Process) × (process_at s pid ≡ Some p)
step-process a s t pid steps = at (process_at s pid) refl steps
  where
    at : (o : Option Process) → process_at s pid ≡ o → ((o >>= deed a s) >>= state_after s) ≡ Some t
        → (p : Process) × (process_at s pid ≡ Some p)
    at (Some p) found is = (p, found)
    at None found is = absurd cc

module _ {a : Acceptance} where
  -- such firings are a run
  pub fires_at-run : {s t : State} {pids : List ℕ} {places : List CodeId} → FiresAt a s pids places t
      → run a s pids ≡ Some t
  fires_at-run (world.done s) = refl
  fires_at-run (world.fires s t u pid p pids places at steps rest) =
      ap (λ (o : Option State). o >>= λ next. run a next pids) steps ∙ fires_at-run rest

  -- with as many instructions as firings
  pub fires_at-length : {s t : State} {pids : List ℕ} {places : List CodeId} → FiresAt a s pids places t
      → length places ≡ length pids
  fires_at-length (world.done s) = refl
  fires_at-length (world.fires s t u pid p pids places at steps rest) = let others = fires_at-length rest in omega arith

  -- one more firing
  pub fires_at-push : {s t u : State} {pids : List ℕ} {places : List CodeId} (pid : ℕ) (p : Process)
      → FiresAt a s pids places t → process_at t pid ≡ Some p → step a t pid ≡ Some u
      → FiresAt a s (pids ++ pid ∷ []) (places ++ p.code ∷ []) u
  fires_at-push {u = u} pid p (world.done s) at steps = world.fires s u u pid p [] [] at steps (world.done u)
  fires_at-push pid p (world.fires s v w first q pids places at_first steps_first rest) at steps =
      world.fires s v _ first q _ _ at_first steps_first (fires_at-push pid p rest at steps)

  -- each run is one of firings at some instructions
  pub fires_at-of_run : (s t : State) (pids : List ℕ) → run a s pids ≡ Some t
      → (places : List CodeId) × FiresAt a s pids places t
  fires_at-of_run s t [] is =
      let same : s ≡ t = cc in ([], subst (FiresAt a s [] []) same (world.done s))
  fires_at-of_run s t (pid ∷ pids) is = at (step a s pid) refl is (λ u. fires_at-of_run u t pids)
    where
      at : (o : Option State) → step a s pid ≡ o → (o >>= λ next. run a next pids) ≡ Some t
          → ((u : State) → run a u pids ≡ Some t → (places : List CodeId) × FiresAt a u pids places t)
          → (places : List CodeId) × FiresAt a s (pid ∷ pids) places t
      at (Some u) steps runs others =
          let (p, found) = step-process a s u pid steps in
          let (places, rest) = others u runs in
          (p.code ∷ places, world.fires s u t pid p pids places found steps rest)
      at None steps runs others = absurd cc

  -- the instructions are determined, and the state that is reached
  pub fires_at-one : {s t u : State} {pids : List ℕ} {places others : List CodeId} → FiresAt a s pids places t
      → FiresAt a s pids others u → (places ≡ others) × (t ≡ u)
  fires_at-one (world.done s) (world.done s2) = (refl, refl)
  fires_at-one (world.fires s t u pid p pids places at steps rest)
      (world.fires s2 v w pid2 q pids2 others at_other steps_other rest_other) =
      let process : p ≡ q = same_Some p q (sym at ∙ at_other) in
      let next : v ≡ t = same_Some v t (sym steps_other ∙ steps) in
      let (same, last) = fires_at-one rest (subst (λ (x : State). FiresAt a x pids others w) next rest_other) in
      ((λ i. (process i).code ∷ same i), last)

-- ---- runs from a settled ledger

-- the state that firings reach from a settled ledger
pub record Reached (a : Acceptance) (l : LedgerState) (t : State) : Type 0 where
  pub typed : IsTyped a t
  pub outside : t.outside ≡ []
  pub gas : gas_of t ≡ l.deposits * a.annotations.unit
  pub contracts : All (λ c. IsContractName a t c.1) l.contracts
  pub accounts : length t.balances ≡ length l.state.balances

pub settled-reached : {a : Acceptance} → IsAccepted a → {l : LedgerState} → IsSettled a l → (pids : List ℕ) (t : State)
    → run a l.state pids ≡ Some t → Reached a l t
settled-reached {a} accepted {l} settled pids t is =
    let (typed, gas) = run-keeps accepted l.state t pids settled.typed is in
    record {
      typed = typed;
      outside = run-no_outside a l.state t pids is settled.outside;
      gas = gas ∙ settled.gas;
      contracts =
          contracts-kept (run-keeps_contracts accepted l.state t pids settled.typed is) l.contracts settled.contracts;
      accounts = (run-rises accepted l.state t pids settled.typed is).accounts;
    }

-- with it, and nothing emitted, the ledger is settled
pub reached-settled : {a : Acceptance} {l : LedgerState} {t : State} → Reached a l t → l.deposits < 2 ^ 64
    → IsSettled a (record l { state = cleared t })
reached-settled {a} {l} {t} reached few = record {
  typed = cleared-typed reached.typed;
  outside = reached.outside;
  results = refl;
  few = few;
  gas = reached.gas;
  contracts = contracts-kept (cleared-keeps_contracts a t) l.contracts reached.contracts;
}

-- and stands, where that state is quiet and no transaction is left in it
pub reached-stands : {a : Acceptance} → IsAccepted a → {l : LedgerState} {t : State} → Reached a l t
    → l.deposits < 2 ^ 64
    → IsQuiet a t × ¬ (HasTransaction t) → StandsFor a (record l { state = cleared t })
reached-stands accepted reached few ends = record {
  settled = reached-settled reached few;
  quiet = same-quiet accepted reached.typed (cleared-typed reached.typed) refl ends.0;
  no_transaction = same-no_transaction refl ends.1;
}

-- ---- worlds

-- what a batch leaves that stays is the ledger of its start, with the last state and nothing emitted
pub committed-is : {a : Acceptance} {w : WorldState} → WorldStandsFor a w
    → committed w ≡ record (ledger_begun a w) { state = cleared w.state }
committed-is {a} {w} stands =
    let (accounts, deposits) = starts-same a w.origin w.starts in
    λ i. record {
      accounts = sym accounts i;
      contracts = stands.contracts i;
      deposits = sym deposits i;
      state = cleared w.state;
    }

-- the world of a batch whose lines started, before any firing
abbrev pub begun : Acceptance → LedgerState → List Resolved → WorldState
begun a l rs = record {
  origin = l;
  starts = rs;
  contracts = (after_starts a l rs).contracts;
  firings = [];
  places = [];
  state = (after_starts a l rs).state;
}

-- it stands where its ledger does
pub begun-stands : {a : Acceptance} → IsAccepted a → {l : LedgerState} {starts : List Start} {rs : List Resolved}
    → StandsFor a l → IsLedger l → AllStart a l starts rs → WorldStandsFor a (begun a l rs)
begun-stands {a} accepted {l} {starts} {rs} stands ledger all = record {
  origin = stands;
  start = starts-settled accepted stands.settled ledger all;
  contracts = refl;
  reached = world.done (after_starts a l rs).state;
}

-- and is named as its ledger is
pub begun-named : {a : Acceptance} → IsAccepted a → {l : LedgerState} {starts : List Start} {rs : List Resolved}
    → IsSettled a l → IsLedger l → AllStart a l starts rs → IsWorld (begun a l rs)
begun-named {a} accepted {l} {starts} {rs} settled ledger all =
    let named = starts-named accepted settled ledger all in
    let m : LedgerState = after_starts a l rs in
    subst (λ (accounts : List (List ℕ)). AreNamed accounts m.contracts m.state.balances)
    (starts-same a l rs).0 named

module _ {a : Acceptance} (accepted : IsAccepted a) {w : WorldState} (stands : WorldStandsFor a w) where
  pub world-run : run a (ledger_begun a w).state (pids_of w.firings) ≡ Some w.state
  world-run = fires_at-run stands.reached

  world-reached : Reached a (ledger_begun a w) w.state
  world-reached = settled-reached accepted stands.start (pids_of w.firings) w.state world-run

  pub world-typed : IsTyped a w.state
  world-typed = world-reached.typed

  -- all gas is what was deposited before the batch
  pub world-gas_is : gas_of w.state ≡ w.origin.deposits * a.annotations.unit
  world-gas_is = world-reached.gas ∙ ap (λ (n : ℕ). n * a.annotations.unit) (starts-same a w.origin w.starts).1

  pub world-gas : gas_of w.state < 2 ^ 95
  world-gas =
      subst (λ (g : ℕ). g < 2 ^ 95) (sym world-gas_is)
      (little-deposits w.origin.deposits a.annotations.unit stands.origin.settled.few accepted.small_unit)

  -- nothing is outside
  pub world-outside : w.state.outside ≡ []
  world-outside = world-reached.outside

  -- contracts are contracts still
  pub world-contracts : All (λ c. IsContractName a w.state c.1) w.contracts
  world-contracts =
      subst (All (λ (c : List ℕ × ℕ). IsContractName a w.state c.1)) (sym stands.contracts) world-reached.contracts

  -- both next numbers rise by one at most with each firing
  pub world-rises : Rises (length w.firings) (ledger_begun a w).state w.state
  world-rises =
      subst (λ (n : ℕ). Rises n (ledger_begun a w).state w.state) (length-map w.firings (λ f. f.pid))
      (run-rises accepted (ledger_begun a w).state w.state (pids_of w.firings) stands.start.typed world-run)

  -- there is an instruction for each firing
  pub world-places : length w.places ≡ length w.firings
  world-places = fires_at-length stands.reached ∙ length-map w.firings (λ f. f.pid)

  -- the world with one more firing stands
  pub world-fired : (firing : Firing) (p : Process) (t : State) → process_at w.state firing.pid ≡ Some p
      → step a w.state firing.pid ≡ Some t
      → WorldStandsFor a (record w {
        firings = w.firings ++ firing ∷ [];
        places = w.places ++ p.code ∷ [];
        state = t;
      })
  world-fired firing p t found steps = record {
    origin = stands.origin;
    start = stands.start;
    contracts = stands.contracts;
    reached =
        subst (λ (pids : List ℕ). FiresAt a (ledger_begun a w).state pids (w.places ++ p.code ∷ []) t)
        (sym (map-append (λ (f : Firing). f.pid) w.firings (firing ∷ [])))
        (fires_at-push firing.pid p stands.reached found steps);
  }

  -- and as many accounts stay named in it
  pub fired-named : (firings : List Firing) (places : List CodeId) (pid : ℕ) (t : State) → step a w.state pid ≡ Some t
      → IsWorld w → IsWorld (record w { firings = firings; places = places; state = t })
  fired-named firings places pid t steps named =
      let one : run a w.state (pid ∷ []) ≡ Some t = ap (λ (o : Option State). o >>= λ next. Some next) steps in
      let rises = run-rises accepted w.state t (pid ∷ []) world-typed one in
      record {
        few = named.few;
        each_account = named.each_account ∙ sym rises.accounts;
        accounts_differ = named.accounts_differ;
        contracts_differ = named.contracts_differ;
      }

  -- ---- a batch that stays

  -- what a batch leaves that ends as committed stands
  pub committed-stands : (count limit : ℕ) → EndsAs a w.state count limit end.Committed → StandsFor a (committed w)
  committed-stands count limit ends =
      subst (StandsFor a) (sym (committed-is stands))
      (reached-stands accepted world-reached stands.start.few ends)

-- accounts and contracts are named in it as they are in the world
pub committed-named : (w : WorldState) → IsWorld w → IsLedger (committed w)
committed-named w named = named
