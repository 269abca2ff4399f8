-- Firings that are those of a line.
use Rattle.std.proofs.Common.{◌≡◌, ◌≢◌, ◌∙◌, ◌↔◌, ℕ, Bool, true, false, Some, IsTrue, sym, ap}
use Rattle.std.specs.Option.{option_map}
use Rattle.std.proofs.lemmas.Bool.{false≢true}
use Rattle.std.proofs.lemmas.Option.{same_Some}
use Rattle.nomos_ir.specs.declared.ids.CodeId.{CodeId}
use Rattle.nomos_types.specs.Acceptance.{Acceptance}
use Rattle.nomos_machine.specs.State.{State, process_at}
use Rattle.nomos_machine.specs.Step.{step}
use Rattle.nomos_machine.specs.declared.object.Process.{Process}
use Rattle.nomos_legal.specs.World.{WorldState}
use Rattle.nomos_journal.specs.JournalText.{firing_line}
use Rattle.nomos_journal.specs.declared.line.JournalLine.{JournalLine}
use Rattle.nomos_journal.specs.declared.line.Version.{Version}
use Rattle.nomos_ledger.specs.Calls.{HasFired}
use Rattle.nomos_replay.specs.mirror.BatchUnderWay.{Asks, FiresBy, FiresOrNot, firing_by}

module _ (a : Acceptance) (v : Version) (most : ℕ) (l : JournalLine) (before after : WorldState) (pid : ℕ)
    (place : CodeId) where
  -- what the code says of a line at an instruction
  abbrev Tells : Bool → Type 0
  Tells same = (s : State) (p : Process) → process_at s pid ≡ Some p → p.code ≡ place
      → (IsTrue same ↔ (firing_line v a s pid ≡ Some l))

  has-fired : (fired : Bool) → fired ≡ true → FiresOrNot a before pid fired after
      → HasFired a before (firing_by pid) after
  has-fired true is fires = fires
  has-fired false is fires = absurd (false≢true is)

  stands-there : (p : Process) → process_at before.state pid ≡ Some p
      → option_map (λ (q : Process). q.code) (process_at before.state pid) ≡ Some place → p.code ≡ place
  stands-there p there at =
      same_Some p.code place (sym (ap (option_map (λ (q : Process). q.code)) there) ∙ at)

  tells-here : (fired : Bool) → fired ≡ true → FiresOrNot a before pid fired after
      → option_map (λ (q : Process). q.code) (process_at before.state pid) ≡ Some place → (same : Bool) → Tells same
      → (IsTrue same ↔ (firing_line v a before.state pid ≡ Some l))
  tells-here fired is fires at same tells =
      let has = has-fired fired is fires in
      tells before.state has.process has.there (stands-there has.process has.there at)

  pub fired-by : Asks v most l before pid → (fired : Bool) → fired ≡ true → FiresOrNot a before pid fired after
      → option_map (λ (q : Process). q.code) (process_at before.state pid) ≡ Some place → (same : Bool) → same ≡ true
      → Tells same → FiresBy a v most l before after
  fired-by asks fired is fires at same true_is tells = record {
    pid = pid;
    says = asks.says;
    left = asks.left;
    fired = has-fired fired is fires;
    line = (tells-here fired is fires at same tells).0 true_is;
  }

  pub fired-otherwise : (fired : Bool) → fired ≡ true → FiresOrNot a before pid fired after
      → option_map (λ (q : Process). q.code) (process_at before.state pid) ≡ Some place → (same : Bool) → same ≡ false
      → Tells same → (s : State) × (step a before.state pid ≡ Some s) × (firing_line v a before.state pid ≢ Some l)
  fired-otherwise fired is fires at same false_is tells =
      let has = has-fired fired is fires in (
        after.state,
        has.steps,
        λ is_line. false≢true (sym false_is ∙ (tells-here fired is fires at same tells).1 is_line),
      )
