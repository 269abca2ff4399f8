use Rattle.std.proofs.Common.{◌≡◌, ◌∙◌, List, [], ◌∷◌, ◌++◌, length, ap, sym, subst, arith, append_assoc, append-nil}
use Rattle.std.specs.Prelude.{All, option_to_list}
use Rattle.std.specs.Vec.Iter.{into_iter_items}
use Rattle.nomos_floor.specs.FloorCrew.{without_numbers, HasTakenIn, IsStationOf, passes_at, numbers_at}
use Rattle.nomos_floor.proofs.CrewLemmas.{took_more, passes_at-push, next_of_all, without_numbers-all}
use Rattle.nomos_floor.proofs.crew.join_all.Goals as goal

none_left : {X : Type 0} (xs : List X) → length xs ≡ 0 → xs ≡ []
none_left [] none = cc
none_left (x ∷ xs) none = absurd (omega arith)

pub join_one-requires-clause-one : goal.join_one-requires-clause-one
join_one-requires-clause-one g c =
    let at = c.loop-station in
    let after = into_iter_items c.next.new.self in
    let station = c.in-Some.station in
    let items : at.yielded ++ station ∷ after ≡ c.args.stations.items = ap (λ l. at.yielded ++ l)
    (sym c.in-Some.ensures.steps.0) ∙ at.invariant.rest in
    next_of_all (IsStationOf c.args.floor.now) at.yielded after station
    (subst (All (IsStationOf c.args.floor.now)) (sym items) c.requires.crew)

pub loop-station-preserved : goal.loop-station-preserved
loop-station-preserved g c =
    let at = c.loop-station in
    let old = at.invariant in
    let first = c.args.opening.now in
    let after = c.join_one.new.opening in
    let station = c.in-Some.station in
    let steps = c.in-Some.ensures.steps in
    record {
      of_floor = c.join_one.ensures.of_floor;
      rest =
          append_assoc at.yielded (station ∷ []) (into_iter_items c.next.new.self)
          ∙ (ap (λ l. at.yielded ++ l) (sym steps.0) ∙ old.rest);
      long = omega (arith, steps.1, old.long, ap length steps.0);
      taken_in =
          subst (λ l. HasTakenIn l first after) (sym (passes_at-push at.yielded station))
          (took_more (passes_at at.yielded) (option_to_list station.pass) first at.opening after old.taken_in
          c.join_one.ensures.taken_in);
    }

pub returns : goal.returns
returns g c =
    let at = c.loop-station in
    let old = at.invariant in
    let first = c.args.opening.now in
    let stations = c.args.stations.items in
    let left = into_iter_items at.station-iterator in
    let none = none_left left (sym old.long ∙ c.in-None.ensures.steps.0) in
    let all = sym (append-nil at.yielded) ∙ (ap (λ l. at.yielded ++ l) (sym none) ∙ old.rest) in
    let taken : HasTakenIn (passes_at stations) first at.opening = subst
    (λ l. HasTakenIn (passes_at l) first at.opening) all old.taken_in in
    record {
      of_floor = old.of_floor;
      taken_in = taken;
      none_out =
          λ out. taken.out ∙ (ap (without_numbers (numbers_at stations)) out
          ∙ without_numbers-all (numbers_at stations));
    }
