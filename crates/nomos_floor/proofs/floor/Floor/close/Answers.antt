use Rattle.std.proofs.Common.{◌≡◌, ◌∙◌, ap, sym, subst, Some, IsSome, refl}
use Rattle.std.specs.Slots.{slots_items, slots_counts}
use mathlib.Core.List.{IsPrefix}
use Rattle.nomos_floor.specs.OwnEntries.{mine}
use Rattle.nomos_floor.proofs.Ends.{closes}
use Rattle.nomos_floor.proofs.floor.Floor.close.Goals as goal

pub unwrap-work-requires : goal.unwrap-work-requires
unwrap-work-requires g c =
    let pass = c.requires.of_floor in
    let seat = c.args.pass.seat in
    let closed = c.close_with-closed in
    let last = closes g.W.Shared.start g.W.Shared.history c.args.self.table.shared.key.value seat.id seat.me.0
    (slots_items closed.result.words) (slots_items closed.result.slots) closed.ensures.values.2
    (sym (slots_counts closed.result.slots).0 ∙ (closed.ensures.counts.1 ∙ c.args.self.sized.1)) pass.idle
    (pass.of_floor.number ∙ c.requires.opening) c.requires.alone in
    let is : c.take.result ≡ Some last.0 = cc (c.take.ensures.value, last.1) in subst IsSome (sym is) refl

pub returns : goal.returns
returns g c =
    let pass = c.requires.of_floor in
    let seat = c.args.pass.seat in
    let closed = c.close_with-closed in
    let history = g.W.Shared.history in
    let last = closes g.W.Shared.start history c.args.self.table.shared.key.value seat.id seat.me.0
    (slots_items closed.result.words) (slots_items closed.result.slots) closed.ensures.values.2
    (sym (slots_counts closed.result.slots).0 ∙ (closed.ensures.counts.1 ∙ c.args.self.sized.1)) pass.idle
    (pass.of_floor.number ∙ c.requires.opening) c.requires.alone in
    let is : last.0 ≡ c.unwrap-work.result = cc (c.take.ensures.value, last.1, c.unwrap-work.ensures) in
    record {
      start = ap g.W.Shared.start (sym is) ∙ last.2;
      seen = subst (λ w. IsPrefix seat.me.0.seen (history w)) is last.3;
      entries = λ n. ap (λ w. mine n (history w)) (sym is) ∙ last.4 n;
    }
