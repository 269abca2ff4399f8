use Rattle.std.proofs.Common.{◌≡◌, ℕ, ◌+◌, ◌∙◌, List, ◌∷◌, [], ◌++◌, refl, ap, sym, subst, arith}
use Rattle.std.specs.Prelude.{All}
use Rattle.std.proofs.lemmas.List.Elements.{All-push}
use Rattle.nomos_floor.specs.FloorPass.{seen_by, next_of}
use Rattle.nomos_floor.specs.FloorCrew.{IsManned, IsNewStation, numbers_at}
use Rattle.nomos_floor.proofs.CrewLemmas.{split_one_more, numbers_at-push, range_with_len-push}
use Rattle.nomos_floor.proofs.crew.split_all.Goals as goal

pub loop-preserved : goal.loop-preserved
loop-preserved g c =
    let old = c.loop.invariant in
    let split = c.split-pass.ensures in
    let made = c.push_reserved.ensures in
    let floor = c.args.floor.now in
    let first = c.args.opening.now in
    let before = c.loop.opening in
    let items = c.loop.stations.items in
    let pass = c.split-pass.result in
    let n : ℕ = c.loop.counter in
    let number : pass.number ≡ next_of first + n = omega (arith, split.new.0, old.split.next) in
    record {
      of_floor = split.of_floor.0;
      split =
          split_one_more n first before c.split-pass.new.pass old.split split.kept split.next split.out split.ended;
      long = omega (arith, made.len, old.long);
      room = omega (arith, made.capacity, old.room);
      manned =
          subst (All (IsManned floor)) (sym made.items)
          (All-push (IsManned floor) items _ old.manned split.of_floor.1);
      new =
          subst (All (IsNewStation (seen_by first))) (sym made.items)
          (All-push (IsNewStation (seen_by first)) items _ old.new
          ((split.new.1 ∙ old.split.seen, split.new.2), refl));
      numbers =
          ap numbers_at made.items ∙ (numbers_at-push items _ pass refl
          ∙ (ap (λ (l : List ℕ). l ++ pass.number ∷ []) old.numbers
          ∙ range_with_len-push (next_of first) n pass.number number));
    }
