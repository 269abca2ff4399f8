use Rattle.std.proofs.Common.{refl}
use Rattle.nomos_run.proofs.CourseLemmas.{passed-come}
use Rattle.nomos_run.proofs.script_course.pass.Goals as goal

pub returns : goal.returns
returns g c = record {
  kept = record { accepted = refl; orders = refl; items = refl };
  fired = refl;
  ok = (passed-come c.requires c.in_ok-keep.ensures.ok, refl);
  err = tt;
}
