use Rattle.std.proofs.Common.{◌≡◌, ◌∙◌, ◌++◌, ℕ, List, ap, sym}
use Rattle.std.specs.List.{range_with_len}
use Rattle.nomos_floor.specs.FloorPass.{next_of, out_of}
use Rattle.nomos_floor.specs.FloorCrew.{numbers_at}
use Rattle.nomos_floor.proofs.CrewLaws.{crew-kept}
use Rattle.nomos_run_tests.proofs.shop_tests.shop_behind.Goals as goal

pub join_all-requires-clause-crew : goal.join_all-requires-clause-crew
join_all-requires-clause-crew g c = (crew-kept c.in-Ok.floor _ _ c.stations_behind-stations.ensures).0

pub close-requires-clause-alone : goal.close-requires-clause-alone
close-requires-clause-alone g c =
    let split = c.in-Ok-split_all.ensures in
    let new : List ℕ = range_with_len (next_of c.in-Ok.opening) 2 in
    let out : out_of c.split_all.new.opening ≡ new =
    split.split.out ∙ ap (λ (l : List ℕ). l ++ new) c.in-Ok.ensures.opening.2
    in
    let kept : numbers_at c.stations_behind-stations.result.items ≡ new =
    (crew-kept c.in-Ok.floor _ _ c.stations_behind-stations.ensures).1 ∙ split.numbers
    in
    c.join_all.ensures.none_out (out ∙ sym kept)
