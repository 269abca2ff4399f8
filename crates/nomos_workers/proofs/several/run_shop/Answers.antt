use Rattle.std.proofs.Common.{◌≡◌, ◌∙◌, ◌++◌, ℕ, List, [], map, length, refl, ap, sym, arith}
use Rattle.std.proofs.lemmas.Grind.{common_steps}
use Rattle.std.specs.List.{range_with_len}
use Rattle.nomos_floor.specs.FloorPass.{ended_of, next_of, out_of, own_of, pass_number}
use Rattle.nomos_floor.specs.FloorCrew.{numbers_at, passes_at}
use Rattle.nomos_floor.proofs.CrewLaws.{crew-kept}
use Rattle.nomos_workers.proofs.PassLemmas.{entries-none, unfired, workers-fired}
use Rattle.nomos_workers.proofs.several.run_shop.Goals as goal

pub join_all-requires-clause-crew : goal.join_all-requires-clause-crew
join_all-requires-clause-crew g c = (crew-kept c.in-Ok.opened.0 _ _ c.work_all-stations.ensures).0

pub close-requires-clause-alone : goal.close-requires-clause-alone
close-requires-clause-alone g c =
    let split = c.in-Ok-split_all.ensures in
    let new : List ℕ = range_with_len (next_of c.in-Ok.opened.1) c.args.workers in
    let out : out_of c.split_all.new.opening ≡ new =
    split.split.out ∙ ap (λ (l : List ℕ). l ++ new) c.in-Ok.ensures.opening.2
    in
    let kept : numbers_at c.work_all-stations.result.items ≡ new =
    (crew-kept c.in-Ok.opened.0 _ _ c.work_all-stations.ensures).1 ∙ split.numbers
    in
    c.join_all.ensures.none_out (out ∙ sym kept)

pub returns-in-Err-NoMemory-clause-passes : goal.returns-in-Err-NoMemory-clause-passes
returns-in-Err-NoMemory-clause-passes g c =
    let none : length c.args.shop.world.firings ≡ 0 = unfired c.args.shop.world.firings c.requires.fresh in
    grind (arith, common_steps)

pub returns-in-Ok-split_all-clause-passes : goal.returns-in-Ok-split_all-clause-passes
returns-in-Ok-split_all-clause-passes g c =
    let opened = c.in-Ok.ensures in
    let split = c.in-Ok-split_all.ensures in
    let taken = c.join_all.ensures.taken_in in
    let last = c.join_all.new.opening in
    let passes = passes_at c.work_all-stations.result.items in
    let own : own_of last ≡ [] = taken.own ∙ (split.split.own ∙ opened.nothing_seen.1) in
    let ended : ended_of last ≡ map (λ p. (pass_number p, own_of p)) passes =
    taken.ended
    ∙ ap (λ l. l ++ map (λ p. (pass_number p, own_of p)) passes) (split.split.ended ∙ opened.opening.3)
    in
    let numbers : map pass_number passes ≡ range_with_len 1 c.args.workers =
    (crew-kept c.in-Ok.opened.0 _ _ c.work_all-stations.ensures).1
    ∙ (split.numbers ∙ ap (λ n. range_with_len n c.args.workers) opened.opening.1)
    in
    workers-fired c.args.workers c.close.result.world.firings
    (λ n out. c.close.ensures.entries n ∙ entries-none n c.args.workers last passes own ended numbers out)

pub returns-in-Err-clause-passes : goal.returns-in-Err-clause-passes
returns-in-Err-clause-passes g c =
    let opened = c.in-Ok.ensures in
    let last = c.split_all.new.opening in
    let same = c.in-Err.ensures.no_memory in
    let own : own_of last ≡ [] = ap own_of same ∙ opened.nothing_seen.1 in
    let ended : ended_of last ≡ [] = ap ended_of same ∙ opened.opening.3 in
    workers-fired c.args.workers c.close-in-Err.result.world.firings
    (λ n out. c.close-in-Err.ensures.entries n
    ∙ entries-none n 0 last [] own ended refl (λ is. omega (arith, is.0, is.1)))
