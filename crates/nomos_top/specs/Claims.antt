-- All that is claimed of a call, of one and the same texts of its sources: first what a reader has to believe, then how
-- it ends, and what follows from that.
use Rattle.std.specs.Prelude.{◌≡◌}
use Rattle.nomos_top.specs.Accepted.{AcceptedIsTyped}
use Rattle.nomos_top.specs.Call.{EndsOn}
use Rattle.nomos_top.specs.Seen.{Call, Texts}
use Rattle.nomos_top.specs.Complete.{TypedIsAccepted}
use Rattle.nomos_top.specs.Headline.{AcceptsTyped, KeepsRuns}
use Rattle.nomos_top.specs.Kept.{KeptIsLegal, KeptGoesRight, OneWorkerFollows}
use Rattle.nomos_top.specs.Pooling.{GathersFairly}
use Rattle.nomos_top.specs.Refusing.{RefusesTruly}
use Rattle.nomos_top.specs.Repeating.{Repeats}
use Rattle.nomos_top.specs.Replaying.{KeptReplays}
use Rattle.nomos_top.specs.Shown.{WritesWhatIsDue, FailsTruly}
use Rattle.nomos_top.specs.Snapshots.{SavesAndLoads}
use Rattle.nomos_top.specs.TalksByType.{TalksByType}
use Rattle.nomos_words.specs.Words.{Task, Asks}

pub record Claims (c : Call) : Type 0 where
  -- its words ask for one task at most, so that each task below is the same
  pub one_task : (t u : Task) → Asks c.words t → Asks c.words u → t ≡ u
  pub texts : Texts
  pub accepts_typed : AcceptsTyped c texts
  pub keeps_runs : KeepsRuns c texts
  pub ends : EndsOn c texts
  pub accepted_is_typed : AcceptedIsTyped c texts
  pub typed_is_accepted : TypedIsAccepted c texts
  pub refuses_truly : RefusesTruly c texts
  pub kept_is_legal : KeptIsLegal c texts
  pub kept_goes_right : KeptGoesRight c texts
  pub one_worker_follows : OneWorkerFollows c texts
  pub writes_what_is_due : WritesWhatIsDue c texts
  pub fails_truly : FailsTruly c texts
  pub gathers_fairly : GathersFairly c texts
  pub talks_by_the_type : TalksByType c texts
  pub saves_and_loads : SavesAndLoads c texts
  pub kept_replays : KeptReplays c texts
  pub repeats : Repeats c texts
