-- Batches under way: firing by firing, up to their end.
use Rattle.std.proofs.Common.{◌≡◌, ◌≢◌, ◌∙◌, ◌+◌, ◌<◌, ◌≤◌, ℕ, List, [], ◌∷◌, ◌++◌, length, length-append, Result, Ok, Err, IfOk, MatchResult, refl, sym, subst, ap, arith}
use Rattle.std.proofs.lemmas.List.{length-map, map-append}
use Rattle.nomos_types.specs.Acceptance.{Acceptance, IsAccepted}
use Rattle.nomos_deeds.specs.Acting.{HasNumbers}
use Rattle.nomos_script.specs.declared.item.Batch.{Batch}
use Rattle.nomos_script.specs.declared.item.ScriptItem.{ScriptItem}
use Rattle.nomos_legal.specs.Ending.{IsAllowed}
use Rattle.nomos_legal.specs.Ledger.{LedgerState}
use Rattle.nomos_legal.specs.NextNumbers.{HasNumbered}
use Rattle.nomos_legal.specs.StandsFor.{WorldStandsFor}
use Rattle.nomos_legal.specs.World.{WorldState, pids_of}
use Rattle.nomos_legal.specs.declared.journal.End.{End}
use Rattle.nomos_legal.specs.declared.journal.Firing.{Firing}
use Rattle.nomos_legal.proofs.NextNumberLaws.{world-numbers}
use Rattle.nomos_journal.specs.declared.line.JournalLine.{JournalLine}
use Rattle.nomos_journal.specs.declared.line.JournalLine.TheVariants as line
use Rattle.nomos_journal.specs.declared.line.Version.{Version}
use Rattle.nomos_ledger.specs.Calls.{HasFired}
use Rattle.nomos_ledger.specs.Running.{RunsOn}
use Rattle.nomos_walk.specs.Walks.{HasItemRoom}
use Rattle.nomos_replay.specs.Answers.{Reads}
use Rattle.nomos_replay.specs.Spoiled.{Spoils}
use Rattle.nomos_replay.specs.Spoiled as spoiled
use Rattle.nomos_replay.specs.Stand.{Goes, MayStand, SaysFiring, Stand, UnderWay, before, fires, told_run}
use Rattle.nomos_replay.specs.Stand as stand
use Rattle.nomos_replay.specs.Told.{Told, next_limit}
use Rattle.nomos_replay.specs.declared.ends.KeptEnd.{KeptEnd}
use Rattle.nomos_replay.specs.declared.error.ReplayError.{ReplayError}
use Rattle.nomos_replay.specs.declared.error.ReplayError.TheVariants as error
use Rattle.nomos_replay.specs.declared.journal_lines.JournalLines.{JournalLines}
use Rattle.nomos_replay.specs.mirror.JournalReading.{Carries, HasRead, Stops}
use Rattle.nomos_replay.specs.mirror.BatchUnderWay.{Asks, CarriesFirings, EndStops, FireStops, FiresBy, firing_by, under_way}
use Rattle.nomos_replay.proofs.ReadingLemmas.{carries-line, carries-on, stops-later, stops-no_form, stops-spoiled}

-- ---- worlds

-- so many firings as a world's are so many as its processes that fired
pub count-same : (w : WorldState) → length (pids_of w.firings) ≡ length w.firings
count-same w = length-map w.firings (λ (f : Firing). f.pid)

-- a world is one that ran on by no firing
pub ran-none : {a : Acceptance} (most : ℕ) (w : WorldState) → WorldStandsFor a w → length w.firings ≤ most
    → RunsOn a most w w
ran-none most w stands within = record { stands = stands; origin = refl; starts = refl; within = within }

-- a firing more
pub ran-more : {a : Acceptance} {v : Version} {most : ℕ} {l : JournalLine} {first old after : WorldState}
    → RunsOn a most first old → FiresBy a v most l old after → WorldStandsFor a after → RunsOn a most first after
ran-more {most = most} {old = old} {after = after} ran by stands =
    let is = by.fired.is in
    let more : length after.firings ≡ length (old.firings ++ firing_by by.pid ∷ []) =
    ap (λ (w : WorldState). length w.firings) is in
    record {
      stands = stands;
      origin = ap (λ (w : WorldState). w.origin) is ∙ ran.origin;
      starts = ap (λ (w : WorldState). w.starts) is ∙ ran.starts;
      within = omega (arith, more, length-append old.firings (firing_by by.pid ∷ []), by.left);
    }

-- the next numbers of a world that ran on are far from the greatest, where a firing is left
pub ran-numbers : {a : Acceptance} → IsAccepted a → {most : ℕ} {first w : WorldState}
    → HasItemRoom first.origin (length first.starts) most → RunsOn a most first w → length w.firings < most
    → HasNumbers w.state
ran-numbers {a} accepted {most} {first} {w} room ran left =
    let there = subst (λ (l : LedgerState). HasNumbered room.given l.state) (sym ran.origin) room.numbered in
    let at = world-numbers accepted ran.stands room.given there in
    let starts = ap length ran.starts in
    record {
      object = omega (arith, at.objects, room.few, left, starts);
      name = omega (arith, at.names, room.few, left, starts);
    }

-- ---- lines

module _ (a : Acceptance) (v : Version) (most : ℕ) where
  -- a line that says a firing says it where the batch of the world is under way
  pub asks-says : (told : Told) → next_limit told ≡ most → (batch : Batch) {l : JournalLine} {w : WorldState} {pid : ℕ}
      → Asks v most l w pid → SaysFiring v told (under_way batch w) l pid
  asks-says told same batch {w = w} asks =
      record { process = asks.says; left = omega (arith, asks.left, count-same w, same) }

  pub says-asks : (told : Told) → next_limit told ≡ most → (batch : Batch) {l : JournalLine} {w : WorldState} {pid : ℕ}
      → SaysFiring v told (under_way batch w) l pid → Asks v most l w pid
  says-asks told same batch {w = w} says =
      record { says = says.process; left = omega (arith, says.left, count-same w, same) }

  -- the batch after a firing
  fired-under_way : (batch : Batch) (pid : ℕ) (w u : WorldState) → HasFired a w (firing_by pid) u
      → record (under_way batch w) { firings = pids_of w.firings ++ pid ∷ []; state = u.state } ≡ under_way batch u
  fired-under_way batch pid w u fired =
      let starts : w.starts ≡ u.starts = sym (ap (λ (x : WorldState). x.starts) fired.is) in
      let firings : pids_of w.firings ++ pid ∷ [] ≡ pids_of u.firings =
      sym (map-append (λ (f : Firing). f.pid) w.firings (firing_by pid ∷ []))
      ∙ sym (ap (λ (x : WorldState). pids_of x.firings) fired.is) in
      (λ i. record { batch = batch; starts = starts i; firings = firings i; state = u.state })

  -- a firing leads on
  pub carries-fired : (begun w u : WorldState) {start source after : JournalLines} {l : JournalLine}
      → CarriesFirings a v most start begun source w → HasRead a.annotations.unit source l after
      → FiresBy a v most l w u → CarriesFirings a v most start begun after u
  carries-fired begun w u {start} {source} {after} {l} carries read by first all items batch told same =
      let asks : Asks v most l w by.pid = record { says = by.says; left = by.left } in
      let goes : Goes a first all (fires v told (under_way batch w) items) l
      (fires v told (record (under_way batch w) { firings = pids_of w.firings ++ by.pid ∷ []; state = u.state })
      items) =
      stand.firing v told (under_way batch w) items l by.pid u.state (asks-says told same batch asks) by.fired.steps
      by.line
      in
      let there = subst (λ (x : UnderWay). Goes a first all (fires v told (under_way batch w) items) l
      (fires v told x items))
      (fired-under_way batch by.pid w u by.fired) goes in
      carries-on a first all (carries first all items batch told same) (carries-line a first all read there)

  -- a line that is no firing and no end stops
  pub stops-firing : IsAccepted a → (w : WorldState) {source after : JournalLines} {l : JournalLine}
      → HasRead a.annotations.unit source l after → ((e : End) → l ≢ line.End e) → (e : ReplayError)
      → FireStops a v most after.at l w e → (first : LedgerState) (all items : List ScriptItem) (batch : Batch)
      (told : Told) → next_limit told ≡ most → Stops a first all source (fires v told (under_way batch w) items) e
  stops-firing accepted w read no_end error.NoMemory stops first all items batch told same = tt
  stops-firing accepted w {source} {after} {l} read no_end (error.BadLine n) stops first all items batch told same =
      subst (λ (k : ℕ). Reads a first all (source.at + 1) (fires v told (under_way batch w) items) source.lines
      (Err (error.BadLine k)))
      (sym stops.0)
      (stops-no_form a first all accepted read tt (no-form l no_end stops.1))
    where
      no-form : (m : JournalLine) → ((e : End) → m ≢ line.End e) → ((pid : ℕ) → ¬ Asks v most m w pid)
          → ¬ MayStand (fires v told (under_way batch w) items) m
      no-form m never none (stand.firing v2 told2 run items2 m2 pid says) = none pid (says-asks told same batch says)
      no-form m never none (stand.batch_end v2 told2 run items2 kept) = never kept refl
  stops-firing accepted w {source} {after} {l} read no_end (error.NotEnabled n pid) stops first all items batch told
      same =
      subst (λ (k : ℕ). Reads a first all (source.at + 1) (fires v told (under_way batch w) items) source.lines
      (Err (error.NotEnabled k pid))) (sym stops.0)
      (stops-spoiled a first all read
      (spoiled.not_enabled v told (under_way batch w) items l pid (asks-says told same batch stops.1) stops.2))
  stops-firing accepted w {source} {after} {l} read no_end (error.WrongFiring n pid) stops first all items batch told
      same =
      let (s, steps, differs) = stops.2 in
      subst (λ (k : ℕ). Reads a first all (source.at + 1) (fires v told (under_way batch w) items) source.lines
      (Err (error.WrongFiring k pid))) (sym stops.0)
      (stops-spoiled a first all read
      (spoiled.wrong_firing v told (under_way batch w) items l pid s (asks-says told same batch stops.1) steps differs))
  stops-firing accepted w read no_end error.TooLong stops first all items batch told same = absurd stops
  stops-firing accepted w read no_end (error.WrongEnd n kept found) stops first all items batch told same = absurd stops

  -- an end that is allowed leads on
  pub carries-end : (w : WorldState) {source after : JournalLines} (e : End)
      → HasRead a.annotations.unit source (line.End e) after → IsAllowed a w.state (length w.firings) most e
      → (first : LedgerState) (all items : List ScriptItem) (batch : Batch) (told : Told) → next_limit told ≡ most
      → Carries a first all source (fires v told (under_way batch w) items) after
      (before v (told_run a told (under_way batch w) e) items)
  carries-end w {source} {after} e read allowed first all items batch told same =
      carries-line a first all read
      (stand.batch_end v told (under_way batch w) items e
      (subst (λ (n : ℕ). IsAllowed a w.state n (next_limit told) e) (sym (count-same w))
      (subst (λ (n : ℕ). IsAllowed a w.state (length w.firings) n e) (sym same) allowed)))

  -- one that is not stops
  pub stops-end : (w : WorldState) {source after : JournalLines} (kept : KeptEnd)
      → HasRead a.annotations.unit source (line.End kept.end) after → kept.at ≡ after.at → (e : ReplayError)
      → EndStops a w.state (length w.firings) most kept e → (first : LedgerState) (all items : List ScriptItem)
      (batch : Batch) (told : Told) → next_limit told ≡ most
      → Stops a first all source (fires v told (under_way batch w) items) e
  stops-end w kept read at error.NoMemory stops first all items batch told same = tt
  stops-end w {source} {after} kept read at (error.WrongEnd n e found) stops first all items batch told same =
      let count : ℕ → Type 0 = λ n. IsAllowed a w.state n (next_limit told) kept.end in
      let never : ¬ IsAllowed a w.state (length (pids_of w.firings)) (next_limit told) kept.end =
      λ allowed. stops.2
      (subst (λ (m : ℕ). IsAllowed a w.state (length w.firings) m kept.end) same
      (subst count (count-same w) allowed))
      in
      let finds = subst (λ (m : ℕ). spoiled.Finds a w.state m (next_limit told) found) (sym (count-same w))
      (subst (λ (m : ℕ). spoiled.Finds a w.state (length w.firings) m found) (sym same) stops.3) in
      rw (stops.0, stops.1, at)
      (stops-spoiled a first all read (spoiled.not_allowed v told (under_way batch w) items kept.end found never finds))
  stops-end w kept read at error.TooLong stops first all items batch told same = absurd stops
  stops-end w kept read at (error.BadLine n) stops first all items batch told same = absurd stops
  stops-end w kept read at (error.NotEnabled n pid) stops first all items batch told same = absurd stops
  stops-end w kept read at (error.WrongFiring n pid) stops first all items batch told same = absurd stops

  -- what is answered of an end is answered where the batch began
  pub judged : (begun w : WorldState) {start source after : JournalLines} (kept : KeptEnd)
      → CarriesFirings a v most start begun source w → HasRead a.annotations.unit source (line.End kept.end) after
      → kept.at ≡ after.at → (r : Result End ReplayError)
      → MatchResult r (λ e. (e ≡ kept.end) × IsAllowed a w.state (length w.firings) most e)
      (EndStops a w.state (length w.firings) most kept)
      → (first : LedgerState) (all items : List ScriptItem) (batch : Batch) (told : Told) → next_limit told ≡ most
      → MatchResult r
      (λ e. Carries a first all start (fires v told (under_way batch begun) items) after
      (before v (told_run a told (under_way batch w) e) items))
      (Stops a first all start (fires v told (under_way batch begun) items))
  judged begun w {source = source} {after = after} kept carries read at (Ok e) is first all items batch told same =
      let here = subst (λ (x : End). HasRead a.annotations.unit source (line.End x) after) (sym is.0) read in
      carries-on a first all (carries first all items batch told same)
      (carries-end w e here is.1 first all items batch told same)
  judged begun w kept carries read at (Err e) is first all items batch told same =
      stops-later a first all (carries first all items batch told same) e
      (stops-end w kept read at e is first all items batch told same)

-- a world that ran on did so whatever is answered
pub always-ok : (a : Acceptance) (most : ℕ) (first w : WorldState) (r : Result End ReplayError) → RunsOn a most first w
    → IfOk r (λ e. RunsOn a most first w)
always-ok a most first w (Ok e) ran = ran
always-ok a most first w (Err e) ran = tt

-- an end that is given back is allowed
pub judged-allowed : (a : Acceptance) (most : ℕ) (w : WorldState) (kept : KeptEnd) (r : Result End ReplayError)
    → MatchResult r (λ e. (e ≡ kept.end) × IsAllowed a w.state (length w.firings) most e)
    (EndStops a w.state (length w.firings) most kept) → IfOk r (IsAllowed a w.state (length w.firings) most)
judged-allowed a most w kept (Ok e) is = is.1
judged-allowed a most w kept (Err e) is = tt
