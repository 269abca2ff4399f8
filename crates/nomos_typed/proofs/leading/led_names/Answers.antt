use Rattle.std.proofs.Common.{List, IfOk, flat_map, subst, sym}
use Rattle.std.proofs.lemmas.Result.{IfOk-weaker}
use Rattle.std.specs.List.Sorted.{IsPermutation}
use Rattle.nomos_typed.specs.declared.leading.Led.{Led}
use Rattle.nomos_typed.specs.declared.leading.Onward.{Onward}
use Rattle.nomos_typed.specs.mirror.Leading.{AreLed, led_of, onward_of}
use Rattle.nomos_typed.proofs.LeadingLemmas.{led-permuted}
use Rattle.nomos_typed.proofs.leading.led_names.Goals as goal

pub returns : goal.returns
returns c =
    let objects = c.args.objects.now in
    let start : List Led = flat_map led_of objects in
    let onwards : List Onward = flat_map onward_of objects in
    let sorted : List Onward = c.as_slice.result.now in
    let same : IsPermutation onwards sorted =
    subst (λ (os : List Onward). IsPermutation onwards os) (sym c.as_slice.ensures.value)
    (subst (λ (os : List Onward). IsPermutation os c.by_end-onwards.result.items) c.in_ok-all_onward.ensures
    c.by_end-onwards.ensures.same) in
    let led = subst (λ (ls : List Led). IfOk c.all_led.result (λ made. AreLed ls sorted made.items))
    c.in_ok-first.ensures c.all_led.ensures in
    IfOk-weaker c.all_led.result _ _ (λ made are. led-permuted start onwards sorted made.items same are) led
