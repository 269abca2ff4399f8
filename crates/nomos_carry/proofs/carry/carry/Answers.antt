use Rattle.std.proofs.Common.{None, map, refl, string_bytes}
use Rattle.nomos_carry.specs.CarryWords.{carry_usage}
use Rattle.nomos_carry.specs.mirror.Errands as errands
use Rattle.nomos_carry.specs.mirror.Errands.{carry_task}
use Rattle.nomos_carry.proofs.CallLemmas.{alone-asked, alone-unasked, call-claims, usage-due}
use Rattle.nomos_carry.proofs.TaskLaws.{found-none}
use Rattle.nomos_carry.proofs.carry.carry.Goals as goal

pub end_asked-requires : goal.end_asked-requires
end_asked-requires g c = record { asked = (map string_bytes c.args.words.now, c.in-Some.ensures.found) }

pub returns-in-Some-clause-claims : goal.returns-in-Some-clause-claims
returns-in-Some-clause-claims g c =
    call-claims _ (c.end_asked.ensures.ends (map string_bytes c.args.words.now) c.in-Some.ensures.found)

pub returns-in-Some-clause-alone : goal.returns-in-Some-clause-alone
returns-in-Some-clause-alone g c =
    alone-asked (map string_bytes c.args.words.now) (carry_task c.in-Some.errand) _ _ _ c.in-Some.ensures.found
    c.end_asked.ensures.alone

pub returns-in-None-clause-claims : goal.returns-in-None-clause-claims
returns-in-None-clause-claims g c =
    let words = map string_bytes c.args.words.now in
    call-claims _
    (errands.wrote 4 carry_usage None (usage-due words _ _ _ (found-none words None c.in-None.ensures refl))
    (c.write_line.ensures.written _ refl))

pub returns-in-None-clause-alone : goal.returns-in-None-clause-alone
returns-in-None-clause-alone g c = alone-unasked _ _ _ _ c.write_line.ensures.status refl refl refl refl
