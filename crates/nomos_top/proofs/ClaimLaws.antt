-- All that is claimed of a call follows from how it ended.
use Rattle.nomos_top.proofs.AcceptedLaws.{accepted-is_typed, typed-is_accepted}
use Rattle.nomos_top.proofs.HeadlineLaws.{accepts-typed, keeps-runs}
use Rattle.nomos_top.proofs.KeptLaws.{kept-goes_right, kept-is_legal, one-worker_follows}
use Rattle.nomos_top.proofs.PoolingLaws.{gathers-fairly}
use Rattle.nomos_top.proofs.RefusingLaws.{refuses-truly}
use Rattle.nomos_top.proofs.RepeatLaws.{call-repeats}
use Rattle.nomos_top.proofs.ReplayingLaws.{kept-replays}
use Rattle.nomos_top.proofs.ShownLaws.{fails-truly, writes-what_is_due}
use Rattle.nomos_top.proofs.SnapshotLaws.{saves-and_loads}
use Rattle.nomos_top.proofs.TalksByTypeLaws.{talks-by_type}
use Rattle.nomos_top.specs.Call.{HasEnded}
use Rattle.nomos_top.specs.Claims.{Claims}
use Rattle.nomos_top.specs.Seen.{Call}
use Rattle.nomos_words.proofs.WordLaws.{one_task}

pub ended-claims : (c : Call) → HasEnded c → Claims c
ended-claims c (texts, ends) = record {
  one_task = one_task c.words;
  texts = texts;
  accepts_typed = accepts-typed c texts ends;
  keeps_runs = keeps-runs c texts ends;
  ends = ends;
  accepted_is_typed = accepted-is_typed c texts ends;
  typed_is_accepted = typed-is_accepted c texts ends;
  refuses_truly = refuses-truly c texts ends;
  kept_is_legal = kept-is_legal c texts ends;
  kept_goes_right = kept-goes_right c texts ends;
  one_worker_follows = one-worker_follows c texts ends;
  writes_what_is_due = writes-what_is_due c texts ends;
  fails_truly = fails-truly c texts ends;
  gathers_fairly = gathers-fairly c texts ends;
  talks_by_the_type = talks-by_type c texts ends;
  saves_and_loads = saves-and_loads c texts ends;
  kept_replays = kept-replays c texts ends;
  repeats = call-repeats c texts ends;
}
