use Rattle.std.proofs.Common.{◌≡◌, ◌∙◌, ◌++◌, ℕ, List, ap, sym}
use Rattle.std.specs.List.{range_with_len}
use Rattle.nomos_floor.specs.FloorPass.{next_of, out_of}
use Rattle.nomos_floor.specs.FloorCrew.{numbers_at}
use Rattle.nomos_floor.proofs.CrewLaws.{crew-kept}
use Rattle.nomos_run.proofs.script_crew.run_shop.Goals as goal

pub join_all-requires-clause-crew : goal.join_all-requires-clause-crew
join_all-requires-clause-crew g c = (crew-kept c.in-Ok.opened.0 _ _ c.work_all-stations.ensures).0

pub close-requires-clause-alone : goal.close-requires-clause-alone
close-requires-clause-alone g c =
    let split = c.in-Ok-split_all.ensures in
    let new : List ℕ = range_with_len (next_of c.in-Ok.opened.1) c.args.workers in
    let out : out_of c.split_all.new.opening ≡ new =
    split.split.out ∙ ap (λ (l : List ℕ). l ++ new) c.in-Ok.ensures.opening.2
    in
    let kept : numbers_at c.work_all-stations.result.items ≡ new =
    (crew-kept c.in-Ok.opened.0 _ _ c.work_all-stations.ensures).1 ∙ split.numbers
    in
    c.join_all.ensures.none_out (out ∙ sym kept)
