-- How several workers carry a script on: from item to item, and from look to look.
use Rattle.std.proofs.Common.{◌≡◌, ◌∙◌, ℕ, ◌+◌, ◌<◌, ◌≤◌, List, [], ◌∷◌, ◌++◌, length, take, Some, None, refl, sym, ap, subst, arith, inl, inr}
use Rattle.std.specs.Prelude.{Result, Ok, Err, IfOk, IfSome, OnErr, slice_get}
use Rattle.std.specs.Option.{option_to_list}
use Rattle.std.proofs.lemmas.List.{append_assoc, map-append, take_more}
use Rattle.std.proofs.lemmas.Option.{get_or_from_slice_get, slice_get_within}
use Rattle.nomos_types.specs.Acceptance.{Acceptance, IsAccepted}
use Rattle.nomos_machine.specs.declared.policy.Policy.{Policy}
use Rattle.nomos_script.specs.Size.{start_count}
use Rattle.nomos_script.specs.declared.item.Batch.{Batch}
use Rattle.nomos_script.specs.declared.item.ScriptItem.{ScriptItem}
use Rattle.nomos_script.specs.declared.item.ScriptItem.TheVariants as item
use Rattle.nomos_legal.specs.Ending.{IsAllowed}
use Rattle.nomos_legal.specs.Ledger.{LedgerState, empty_ledger}
use Rattle.nomos_legal.specs.Legal.{batch_limit, max_firings}
use Rattle.nomos_legal.specs.Leaving.{left_by, passage_of}
use Rattle.nomos_legal.specs.StandsFor.{StandsFor, StandsNamed}
use Rattle.nomos_legal.specs.World.{WorldState}
use Rattle.nomos_legal.specs.declared.journal.End.{End}
use Rattle.nomos_legal.specs.declared.journal.Entry.{Entry}
use Rattle.nomos_legal.specs.declared.journal.Firing.{Firing}
use Rattle.nomos_ledger.specs.Running.{MayRun, RunsOn}
use Rattle.nomos_floor.specs.FloorPass.{AddsAtMostOne}
use Rattle.nomos_report.specs.declared.course.Outset.{Outset}
use Rattle.nomos_walk.proofs.ComeLaws.{begun-room}
use Rattle.nomos_walk.specs.Coming.{journal_of}
use Rattle.nomos_walk.specs.WalkState.{WalkState}
use Rattle.nomos_walk.specs.Walks.{HasBegunBatch, HasItemRoom, HasRoomFor, PassesStill, batch_entry, walk_with}
use Rattle.nomos_walk.specs.declared.started.BatchUnderWay.{BatchUnderWay}
use Rattle.nomos_walk.specs.declared.started.PassedItem.{PassedItem}
use Rattle.nomos_ledger.specs.Watching.{IsWatched}
use Rattle.nomos_workers.proofs.ShopLemmas.{may-shop}
use Rattle.nomos_workers.specs.OneWorker.{EndsBy, RunsBy}
use Rattle.nomos_workers.specs.declared.batch.BatchEnd.{BatchEnd}
use Rattle.nomos_workers.specs.declared.batch.BatchEnd.TheVariants as batch_end
use Rattle.nomos_workers.specs.declared.batch.Crew.{Crew}
use Rattle.nomos_workers.specs.declared.batch.Crew.TheVariants as crews
use Rattle.nomos_run.specs.Carried.{RunsScript}
use Rattle.nomos_run.specs.declared.script_course.Phase.{Phase}
use Rattle.nomos_run.specs.declared.script_course.Phase.TheVariants as phase
use Rattle.nomos_run.specs.declared.script_course.Trail.{Trail}
use Rattle.nomos_run.specs.declared.script_course.UnderWay.{UnderWay}
use Rattle.nomos_run.specs.declared.orders.Orders.{Orders}
use Rattle.nomos_run.specs.declared.orders.ScriptRun.{ScriptRun}
use Rattle.nomos_run.specs.mirror.Courses.{CourseState, HasComeTo, HasMoved, HasPassed, IsNext, IsPhase, IsTrail, IsUnder, KeepsTrail, firings_told, opening}
use Rattle.nomos_run.specs.mirror.Runs.{CarriesOut, HasGone, IsWholeOf, RunsSoFar}
use Rattle.nomos_run.proofs.CarryLemmas.{batch-carried, begun-accepted, empty-accounts, empty-numbers, gone-made, gone-more, gone-room, gone-so_far, gone-stands, script-run, still-carried}

-- ---- items

-- the item at the next place is the next one
pub next-item : (t : Trail) (i : ScriptItem) → slice_get t.items.now t.next ≡ Some i → IsNext t i
next-item t i at =
    let items = t.items.now in
    let inside : t.next < length items = slice_get_within items t.next i at in
    record {
      inside = inside;
      more =
          take_more items t.next i inside
          ∙ ap (λ (x : ScriptItem). take t.next items ++ x ∷ []) (get_or_from_slice_get items t.next i i at);
    }

-- what was carried out behind an item that has passed, whose entry is kept
pub passed-come : {M : Type 0} {t : Trail} {passed : PassedItem M} (has : HasPassed t passed) {kept : List Entry}
    → kept ≡ t.way.entries.items ++ option_to_list passed.entry
    → HasGone t.accepted.now empty_ledger t.orders (take (t.next + 1) t.items.now) kept passed.ledger t.way.walk
passed-come {t = t} {passed} has {kept} kept_is =
    subst
    (λ (is : List ScriptItem). HasGone t.accepted.now empty_ledger t.orders is kept passed.ledger t.way.walk)
    (sym has.next.more) (gone-more passed has.come has.carried kept_is)

-- where memory is wanting, the entries are those of the items before
pub come-so_far : (t : Trail) {l : LedgerState} {w : WalkState} {kept : List Entry} → HasComeTo t l w
    → kept ≡ t.way.entries.items → RunsSoFar t.accepted.now empty_ledger t.items.now t.orders kept
come-so_far t come same = gone-so_far t.items.now t.next come same

module _ {t : Trail} {l : LedgerState} (trail : IsTrail t) (come : HasComeTo t l t.way.walk) where
  -- the ledger stands for the program
  pub come-standing : StandsFor t.way.walk.accepted l
  come-standing = gone-stands t.items.now t.next come trail.accepted trail.standing

  -- there is room for the next item
  pub come-room_for : (i : ScriptItem) → IsNext t i → HasRoomFor t.way.walk l i
  come-room_for i next =
      gone-room t.items.now t.next come trail.accepted trail.standing (empty-numbers empty_ledger refl)
      (empty-accounts empty_ledger refl) i trail.size next.more

  pub come-few : t.way.walk.made ≤ max_firings
  come-few = gone-made t.items.now t.next come

-- the walk knows the program
pub come-program : (t : Trail) {l : LedgerState} {w : WalkState} → HasComeTo t l w → w.accepted ≡ t.accepted.now
come-program t come = begun-accepted come

-- ---- firings

-- what may be added to some firings may be added behind others
pub adds-behind : (n : ℕ) (fired xs ys : List Firing) → AddsAtMostOne n (firings_told xs) (firings_told ys)
    → AddsAtMostOne n (firings_told (fired ++ xs)) (firings_told (fired ++ ys))
adds-behind n fired xs ys adds = behind adds
  where
    pair : Firing → ℕ × ℕ
    pair f = (f.pass, f.pid)

    split : (zs : List Firing) → firings_told (fired ++ zs) ≡ firings_told fired ++ firings_told zs
    split zs = map-append pair fired zs

    behind : AddsAtMostOne n (firings_told xs) (firings_told ys)
        → AddsAtMostOne n (firings_told (fired ++ xs)) (firings_told (fired ++ ys))
    behind (inl same) =
        inl (split ys ∙ (ap (λ (l : List (ℕ × ℕ)). firings_told fired ++ l) same ∙ sym (split xs)))
    behind (inr added) = inr (
      added.0,
      split ys
          ∙ (ap (λ (l : List (ℕ × ℕ)). firings_told fired ++ l) added.1
          ∙ (sym (append_assoc (firings_told fired) (firings_told xs) ((n, added.0) ∷ []))
          ∙ ap (λ (l : List (ℕ × ℕ)). l ++ (n, added.0) ∷ []) (sym (split xs)))),
    )

-- so it is where the firings of a batch are then put behind those of the batches before
pub adds-settled : (n : ℕ) (fired xs ys all : List Firing) → AddsAtMostOne n (firings_told xs) (firings_told ys)
    → all ≡ fired ++ ys → AddsAtMostOne n (firings_told (fired ++ xs)) (firings_told all)
adds-settled n fired xs ys all adds same =
    subst (λ (zs : List Firing). AddsAtMostOne n (firings_told (fired ++ xs)) (firings_told zs)) (sym same)
    (adds-behind n fired xs ys adds)

-- ---- batches

-- several workers are not one
several-one : {P : Type 0} (crew : Crew) (workers : ℕ) (policy : Policy) → crew ≡ crews.Many workers
    → crew ≡ crews.One policy → P
several-one crew workers policy many one = absurd cc

-- a batch that has come to this end, and was finished, was carried out
under-carried : {M : Type 0} {t : Trail} (u : UnderWay M) → IsTrail t → (under : IsUnder t u) → (v : WorldState)
    → v ≡ u.watched.world → (e : End)
    → IsAllowed t.accepted.now u.watched.world.state (length u.watched.world.firings) u.limit e
    → (passed : PassedItem M) (after : WalkState) → passed.ledger ≡ left_by e v
    → passed.entry ≡ Some (batch_entry u.outset.line v e)
    → ((batch : Batch) → batch.line ≡ u.outset.line
    → after ≡ walk_with (passage_of t.way.walk.accepted batch v e) t.way.walk)
    → CarriesOut t.orders.crew t.way.walk under.ledger under.item passed after
under-carried {M} {t} u trail under v same e allowed passed after ledger entry walk =
    batch-carried t.orders.crew ended passed under.begun runs one
    (record { answer = e; ended_is = refl; allowed = allowed_here; ledger = ledger; entry = entry; walk = walk })
  where
    before : WalkState
    before = t.way.walk

    ended : BatchEnd
    ended = batch_end.Done e

    program : t.accepted.now ≡ before.accepted
    program = sym (come-program t under.come)

    most : ℕ
    most = batch_limit before.limit before.made

    runs : RunsOn before.accepted most under.start v
    runs =
        subst (λ (w : WorldState). RunsOn before.accepted most under.start w) (sym same)
        (subst (λ (n : ℕ). RunsOn before.accepted n under.start u.watched.world) under.limit
        (subst (λ (a : Acceptance). RunsOn a u.limit under.start u.watched.world) program under.runs))

    allowed_here : IsAllowed before.accepted v.state (length v.firings) most e
    allowed_here =
        subst (λ (w : WorldState). IsAllowed before.accepted w.state (length w.firings) most e) (sym same)
        (subst
        (λ (n : ℕ). IsAllowed before.accepted u.watched.world.state (length u.watched.world.firings) n e) under.limit
        (subst
        (λ (a : Acceptance). IsAllowed a u.watched.world.state (length u.watched.world.firings) u.limit e) program
        allowed))

    one : (policy : Policy) → t.orders.crew ≡ crews.One policy
        → RunsBy policy before.accepted most under.start v × EndsBy policy before.accepted most v ended
    one policy is = several-one t.orders.crew trail.workers policy trail.several is

-- a script with another walk
abbrev pub walked : Trail → WalkState → Trail
walked t w = record t { way = record t.way { walk = w } }

-- so it has passed
pub under-passed : {M : Type 0} {t : Trail} (u : UnderWay M) → IsTrail t → IsUnder t u → (v : WorldState)
    → v ≡ u.watched.world → (e : End)
    → IsAllowed t.accepted.now u.watched.world.state (length u.watched.world.firings) u.limit e
    → (passed : PassedItem M) (after : WalkState) → passed.ledger ≡ left_by e v
    → passed.entry ≡ Some (batch_entry u.outset.line v e)
    → ((batch : Batch) → batch.line ≡ u.outset.line
    → after ≡ walk_with (passage_of t.way.walk.accepted batch v e) t.way.walk) → HasPassed (walked t after) passed
under-passed {t = t} u trail under v same e allowed passed after ledger entry walk = record {
  ledger = under.ledger;
  walk = t.way.walk;
  item = under.item;
  come = under.come;
  next = record { inside = under.next.inside; more = under.next.more };
  carried = under-carried u trail under v same e allowed passed after ledger entry walk;
}

-- an item without firings has passed
pub still-passed : {M : Type 0} (t : Trail) (l : LedgerState) (i : ScriptItem) (passed : PassedItem M)
    (after : WalkState) → HasComeTo t l t.way.walk → IsNext t i → PassesStill t.way.walk l i passed after
    → HasPassed (walked t after) passed
still-passed t l i passed after come next passes = record {
  ledger = l;
  walk = t.way.walk;
  item = i;
  come = come;
  next = record { inside = next.inside; more = next.more };
  carried = still-carried t.orders.crew passes;
}

-- a batch whose lines have started is under way
pub begun-under : {M : Type 0} (t : Trail) (l : LedgerState) (i : ScriptItem) (after : WalkState) → IsTrail t
    → HasComeTo t l t.way.walk → IsNext t i → (b : BatchUnderWay M) (u : UnderWay M)
    → HasBegunBatch t.way.walk l i b.outset.line b.outset.spent b.world after → u.outset ≡ b.outset
    → u.watched.world ≡ b.world → u.limit ≡ batch_limit after.limit after.made → after.made + u.limit ≤ max_firings
    → IsWatched t.accepted.now u.watched.world.state u.watched.awake
    → IsUnder (walked t after) u × (u.watched.world.firings ≡ [])
begun-under {M} t l i after trail come next b u begun outset_is world_is limit_is sum watched = (
  record {
    ledger = l;
    item = i;
    start = u.watched.world;
    come = subst (λ (w : WalkState). HasComeTo t l w) (sym begun.walk) come;
    next = record { inside = next.inside; more = next.more };
    begun =
        subst (λ (w : WalkState). HasBegunBatch w l i u.outset.line u.outset.spent u.watched.world after)
        (sym begun.walk)
        (subst (λ (w : WorldState). HasBegunBatch walk l i u.outset.line u.outset.spent w after) (sym world_is)
        (subst (λ (o : Outset). HasBegunBatch walk l i o.line o.spent b.world after) (sym outset_is) begun));
    runs = record { stands = may.stands; origin = refl; starts = refl; within = omega (arith, ap length may.fresh) };
    limit = limit_is;
    sum = sum;
    shop = may-shop t.accepted.now u.limit u.watched.world may;
    watched = watched;
  },
  may.fresh,
)
  where
    walk : WalkState
    walk = t.way.walk

    most : ℕ
    most = batch_limit walk.limit walk.made

    program : walk.accepted ≡ t.accepted.now
    program = come-program t come

    limit_was : u.limit ≡ most
    limit_was = limit_is ∙ ap (λ (w : WalkState). batch_limit w.limit w.made) begun.walk

    room : HasItemRoom l (start_count (item.Batch begun.batch ∷ [])) most
    room =
        subst (λ (x : ScriptItem). HasItemRoom l (start_count (x ∷ [])) most) begun.item
        (come-room_for trail come i next)

    begun_may : MayRun walk.accepted most b.world
    begun_may = begun-room (subst IsAccepted (sym program) trail.accepted) room begun.begun begun.stands

    may : MayRun t.accepted.now u.limit u.watched.world
    may =
        subst (λ (w : WorldState). MayRun t.accepted.now u.limit w) (sym world_is)
        (subst (λ (n : ℕ). MayRun t.accepted.now n b.world) (sym limit_was)
        (subst (λ (a : Acceptance). MayRun a most b.world) program begun_may))

-- where memory is wanting nothing has moved
pub wanting-moved : {M E : Type 0} {before after : Trail} (r : Result (Phase M) E) (error : E) → r ≡ Err error
    → KeepsTrail before after → after.fired.items ≡ before.fired.items
    → RunsSoFar after.accepted.now empty_ledger after.items.now after.orders after.way.entries.items
    → HasMoved before after r
wanting-moved (Ok p) error is kept fired so_far = absurd cc
wanting-moved (Err e) error is kept fired so_far = record { kept = kept; fired = fired; ok = tt; err = so_far }

-- whatever comes next, the entries are those of some first items
pub phase-so_far : {M : Type 0} (t : Trail) (p : Phase M) → IsPhase t p
    → RunsSoFar t.accepted.now empty_ledger t.items.now t.orders t.way.entries.items
phase-so_far t (phase.Between l) is = come-so_far t is refl
phase-so_far t (phase.Under u) is = come-so_far t is.come refl
phase-so_far t phase.Stopped is = is

-- ---- the whole script

-- what is given of a script that several workers have left, whole or not
pub course-run : {M E : Type 0} {a : Acceptance} {orders : Orders} {items script : List ScriptItem}
    {entries : List Entry} (s : CourseState) (w : WalkState) (run : ScriptRun M) (last : Result LedgerState E)
    → opening s ≡ record { accepted = a; orders = orders; items = items; firings = [] } → items ≡ script
    → IsAccepted a → StandsNamed a empty_ledger
    → IfOk last (λ l. HasGone s.accepted empty_ledger s.orders s.items entries l w)
    → OnErr last (RunsSoFar s.accepted empty_ledger s.items s.orders entries)
    → run.journal ≡ journal_of orders.limit entries
    → IfSome run.finished (λ f. IfOk last (λ l. IsWholeOf w l f)) → OnErr last (run.finished ≡ None)
    → RunsScript a script orders run
course-run {a = a} {orders} {items} {script} {entries} s w run last opened items_are accepted standing gone so_far
    journal whole none =
    subst (λ (o : Orders). run.journal ≡ journal_of o.limit entries → RunsScript a script o run)
    (ap (λ (x : CourseState). x.orders) opened)
    (λ here. script-run w run last (ap (λ (x : CourseState). x.accepted) opened)
    (ap (λ (x : CourseState). x.items) opened ∙ items_are) accepted standing gone so_far here whole none) journal
