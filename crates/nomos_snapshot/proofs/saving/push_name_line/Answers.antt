-- The type was looked at.
use Rattle.std.proofs.Common.{◌<◌, ◌^◌, refl, arith}
use Rattle.std.proofs.lemmas.Result.{on_ok_weaker}
use Rattle.nomos_snapshot.specs.declared.line.SnapshotLine.TheVariants as line
use Rattle.nomos_snapshot.proofs.SavingLemmas.{writes-one}
use Rattle.nomos_snapshot.proofs.saving.push_name_line.Goals as goal

pub returns : goal.returns
returns c =
    let small : c.args.name < 2 ^ 32 = omega arith in
    on_ok_weaker c.push_typed_name.result
    (writes-one {lists = c.args.program.now} (line.Name c.args.name c.args.t) (small, c.if-not-is_type.ensures.0 refl))
    (c.push_typed_name.ensures c.args.program.now)
