use Rattle.std.proofs.Common.{◌∙◌, length, ap, arith}
use Rattle.nomos_forms.proofs.PlaceLemmas.{count-of, length-ends, no-rows}
use Rattle.nomos_forms.proofs.rows.count.Goals as goal

pub returns-in-Some : goal.returns-in-Some
returns-in-Some c =
    let item = c.in-Some.ensures.item in
    item.1 ∙ count-of c.args.ends.now c.args.groups.now c.in-Some.end.now c.requires (omega (arith, item.3.0))

pub returns-in-None : goal.returns-in-None
returns-in-None c = no-rows c.args.groups.now
    (omega (arith, c.in-None.ensures.item.3, ap length c.requires ∙ length-ends 0 c.args.groups.now))
