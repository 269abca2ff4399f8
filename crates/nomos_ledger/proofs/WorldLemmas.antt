-- Worlds that are kept in books, in a firing.
use Rattle.std.proofs.Common.{◌≡◌, ◌≢◌, ◌∙◌, ℕ, zero, suc, length, slice_get, List, [], ◌∷◌, ◌++◌, Option, Some, None, refl, sym, ap, subst, arith, take}
use Rattle.std.specs.Option.{option_map}
use Rattle.nomos_ir.specs.declared.ids.CodeId.{CodeId}
use Rattle.nomos_types.specs.Acceptance.{Acceptance, IsAccepted}
use Rattle.nomos_machine.specs.State.{State, process_at}
use Rattle.nomos_machine.specs.Step.{step}
use Rattle.nomos_machine.specs.declared.object.Process.{Process}
use Rattle.nomos_deeds.specs.Acting.{HasNumbers}
use Rattle.nomos_deeds.specs.Firings.{MayFire}
use Rattle.nomos_legal.specs.Batch.{state_or}
use Rattle.nomos_legal.specs.Ledger.{IsLedger}
use Rattle.nomos_legal.specs.StandsFor.{WorldStandsFor}
use Rattle.nomos_legal.specs.World.{WorldState}
use Rattle.nomos_legal.specs.declared.journal.Firing.{Firing}
use Rattle.nomos_legal.specs.declared.resolved.Resolved.{Resolved}
use Rattle.nomos_legal.proofs.WorldLaws.{fired-named, world-fired, world-gas, world-typed}
use Rattle.nomos_ledger.specs.Calls.{HasFired}
use Rattle.nomos_ledger.specs.declared.fired.Fired.{Fired}
use Rattle.nomos_ledger.specs.mirror.Books.{BooksState, IsUnderWay, origin_in, with_state}
use Rattle.nomos_ledger.specs.mirror.Worlds.{world_of}

-- what a firing asks for
pub may-fire : {a : Acceptance} → IsAccepted a → {w : WorldState} → WorldStandsFor a w → HasNumbers w.state
    → MayFire a w.state
may-fire accepted stands numbers =
    let gas = world-gas accepted stands in
    record { typed = world-typed accepted stands; gas = omega (arith, gas); numbers = numbers }

-- where a state is marked, another one beside it changes nothing
marked-same : (marked : Option State) (s t : State) → marked ≢ None → state_or s marked ≡ state_or t marked
marked-same (Some u) s t some = refl
marked-same None s t some = absurd (some refl)

-- the ledger before a batch stays where another state comes
origin-same : (b : BooksState) (kept : ℕ) (s : State) → b.marked ≢ None
    → origin_in (with_state b s) kept ≡ origin_in b kept
origin-same b kept s some =
    ap (λ (t : State). record b.now { contracts = take kept b.now.contracts; state = t })
    (marked-same b.marked s b.now.state some)

-- who fires stands at the instruction
process-placed : (o : Option Process) (place : CodeId) → option_map (λ p. p.code) o ≡ Some place
    → (p : Process) × (o ≡ Some p) × (p.code ≡ place)
process-placed (Some p) place at = (p, refl, cc)
process-placed None place at = absurd cc

-- books whose state stays are as they were
pub faulted-same : (b c : BooksState) → c ≡ with_state b c.now.state → c.now.state ≡ b.now.state → c ≡ b
faulted-same b c rest same = rest ∙ ap (with_state b) same

-- Of books a process fired, at this instruction, and these are the books and the firings after it. Room for the firing
-- was made before.
pub record OneFires (a : Acceptance) (b c : BooksState) (f h g : Fired) (firing : Firing) (place : CodeId) : Type 0
  where
    pub rest : c ≡ with_state b c.now.state
    pub at : Some place ≡ option_map (λ p. p.code) (process_at b.now.state firing.pid)
    pub steps : step a b.now.state firing.pid ≡ Some c.now.state
    pub same_firings : h.firings.items ≡ f.firings.items
    pub same_places : h.places.items ≡ f.places.items
    pub firings : g.firings.items ≡ h.firings.items ++ firing ∷ []
    pub places : g.places.items ≡ h.places.items ++ place ∷ []

module _ {a : Acceptance} (accepted : IsAccepted a) {b c : BooksState} {f h g : Fired} {firing : Firing}
    {place : CodeId} (one : OneFires a b c f h g firing place) (kept : ℕ) (starts : List Resolved)
    (stands : WorldStandsFor a (world_of b kept starts f)) (under : IsUnderWay b kept) where
  -- the world with one more firing, at this instruction
  abbrev after : CodeId → WorldState
  after its = record (world_of b kept starts f) {
    firings = f.firings.items ++ firing ∷ [];
    places = f.places.items ++ its ∷ [];
    state = c.now.state;
  }

  noted : g.firings.items ≡ f.firings.items ++ firing ∷ []
  noted = one.firings ∙ ap (λ (xs : List Firing). xs ++ firing ∷ []) one.same_firings

  noted_places : g.places.items ≡ f.places.items ++ place ∷ []
  noted_places = one.places ∙ ap (λ (xs : List CodeId). xs ++ place ∷ []) one.same_places

  is-after : world_of c kept starts g ≡ after place
  is-after =
      ap (λ (d : BooksState). world_of d kept starts g) one.rest
      ∙ (λ i. record {
        origin = origin-same b kept c.now.state under.marked i;
        starts = starts;
        contracts = b.now.contracts;
        firings = noted i;
        places = noted_places i;
        state = c.now.state;
      })

  placed : (p : Process) × (process_at b.now.state firing.pid ≡ Some p) × (p.code ≡ place)
  placed = process-placed (process_at b.now.state firing.pid) place (sym one.at)

  is-placed : world_of c kept starts g ≡ after placed.0.code
  is-placed = is-after ∙ ap after (sym placed.2)

  pub has-fired : HasFired a (world_of b kept starts f) firing (world_of c kept starts g)
  has-fired = record { process = placed.0; there = placed.1; steps = one.steps; is = is-placed }

  pub fired-stands : WorldStandsFor a (world_of c kept starts g)
  fired-stands =
      subst (WorldStandsFor a) (sym is-placed)
      (world-fired accepted stands firing placed.0 c.now.state placed.1 one.steps)

  pub fired-under_way : IsUnderWay c kept
  fired-under_way = subst (λ (d : BooksState). IsUnderWay d kept) (sym one.rest) (record {
    marked = under.marked;
    origin = subst IsLedger (sym (origin-same b kept c.now.state under.marked)) under.origin;
    ledger = fired-named accepted stands [] [] firing.pid c.now.state one.steps under.ledger;
  })

-- ---- what a batch makes

-- what stands behind the first ones of a list stands there in the list
pub behind-taken : {X : Type 0} (count : ℕ) (xs : List X) → slice_get xs (length (take count xs)) ≡ slice_get xs count
behind-taken zero xs = refl
behind-taken (suc count) [] = refl
behind-taken (suc count) (x ∷ xs) = behind-taken count xs
