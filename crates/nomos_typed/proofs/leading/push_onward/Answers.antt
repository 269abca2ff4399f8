use Rattle.std.proofs.Common.{◌≤◌, All, List, OnOk, subst, sym}
use Rattle.std.specs.List.Sorted.{IsNonDecreasingBy}
use Rattle.nomos_typed.specs.declared.leading.Onward.{Onward}
use Rattle.nomos_typed.specs.mirror.Leading.{PushesOnward}
use Rattle.nomos_typed.proofs.LeadingLemmas.{late-behind, pushes-all, slice-behind, sorted-behind}
use Rattle.nomos_typed.proofs.leading.push_onward.Goals as goal

pub push_later-requires : goal.push_later-requires
push_later-requires c =
    let onwards = c.args.onwards.now in
    let name = c.args.from.name in
    let start = c.first_at-start.result in
    let same = slice-behind onwards start in
    record {
      sorted =
          subst (λ (os : List Onward). IsNonDecreasingBy (λ (o : Onward). o.end) os) (sym same)
          (sorted-behind onwards start c.requires);
      late =
          subst (λ (os : List Onward). All (λ (o : Onward). name ≤ o.end) os) (sym same)
          (late-behind onwards name start c.first_at-start.ensures.point);
    }

pub returns : goal.returns
returns c =
    let onwards = c.args.onwards.now in
    let start = c.first_at-start.result in
    let old = c.args.led.now.items in
    let new = c.push_later.new.led.items in
    pushes-all onwards c.args.from start c.first_at-start.ensures.bound c.first_at-start.ensures.point old new
    c.push_later.result
    (subst (λ (os : List Onward). OnOk c.push_later.result (PushesOnward os c.args.from old new))
    (slice-behind onwards start) c.push_later.ensures)
