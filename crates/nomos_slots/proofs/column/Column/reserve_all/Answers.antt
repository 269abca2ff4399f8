use Rattle.std.proofs.Common.{◌≤◌, length, rules}
use Rattle.std.proofs.lemmas.List.{length-map}
use Rattle.nomos_slots.specs.declared.column.Logged.{Logged}
use Rattle.nomos_slots.proofs.SeatLemmas.{log-within}
use Rattle.nomos_slots.proofs.column.Column.reserve_all.Goals as goal

pub returns-clause-ok : goal.returns-clause-ok
returns-clause-ok g c =
    let s = c.self.inside in
    let few : length s.log.items ≤ length s.items.items = log-within s.items.items s.log.items s.marked
    c.self.invariant in
    let same = length-map c.reserve.new.self.items (λ (e : Logged _). e.item) in
    let kept = s.items.ok.0 in
    let logs = s.log.ok.0 in
    let news = c.reserve.new.self.ok.0 in
    search (rules, few, same, kept, logs, news)
