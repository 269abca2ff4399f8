use Rattle.std.proofs.Common.{◌∙◌, ◌++◌, ℕ, List, ap, refl}
use Rattle.nomos_ir.specs.Bindings.{bindings_of}
use Rattle.nomos_ir.specs.Value.{Value}
use Rattle.nomos_ir.specs.declared.declaration.ProcDecl.{ProcDecl}
use Rattle.nomos_ir.specs.declared.ids.VarId.{VarId}
use Rattle.nomos_deeds.specs.declared.sight.SeenProcess.{SeenProcess}
use Rattle.nomos_machine.specs.Given.{Given, me_value}
use Rattle.nomos_machine.specs.Revised.{standing_at}
use Rattle.nomos_machine.specs.declared.object.PotentialList.{PotentialList}
use Rattle.nomos_machine.specs.declared.object.Process.{Process}
use Rattle.nomos_changes.specs.Gives.{given_in}
use Rattle.nomos_changes.specs.SmallChanges.{with_channels, with_lists, with_process, with_values}
use Rattle.nomos_changes.proofs.BecomesLemmas.{becomes-next, becomes-then, fields-end}
use Rattle.nomos_changes.proofs.BeginLemmas.{begun-is, if-told}
use Rattle.nomos_changes.proofs.calling.go_on_at.Goals as goal

pub returns-clause-ok : goal.returns-clause-ok
returns-clause-ok g c p d args gives there begins_with =
    let state = g.P.Sight.state in
    let s = state c.args.parts.now in
    let pid = c.args.call.pid in
    let begun = c.in-Some.begun in
    let has = if-told _ c.in_ok-begun.field-0 begun c.in-Some.is c.in_ok-begun.ensures.found in
    let same = begun-is c.args.accepted.now s pid c.args.call.declaration c.args.values begun.declaration.now d
    begun.args.now args (given_in begun.given) gives begun.process p has there begins_with in
    let payer = begun.process.payer in
    let channels = begun.given.channels.items in
    let values = c.in_ok-values.values.items in
    let lists = c.in_ok-lists.lists.items in
    let first : Process = with_channels channels p in
    let second : Process = with_values values first in
    let third : Process = with_lists lists second in
    let goes_at : ProcDecl → List (VarId × Value) → List (VarId × PotentialList) → List (VarId × ℕ) → Process =
    λ (d : ProcDecl) (values : List (VarId × Value)) (lists : List (VarId × PotentialList))
    (channels : List (VarId × ℕ)).
    standing_at d.first (with_lists lists (with_values values (with_channels channels p))) in
    let valued = becomes-then s (state c.replace_channels.new.self) (state c.put_values.new.self) pid p first
    (with_values values) there refl (c.in_ok-replace_channels.ensures.ok p there) c.put_values.ensures.state in
    let listing = state c.put_lists_if_any.new.parts in
    let written = state c.set_fields.new.self in
    let listed = becomes-then s (state c.put_values.new.self) listing pid p second
    (with_lists lists) there refl valued c.put_lists_if_any.ensures.state in
    let goes : Process = standing_at begun.declaration.now.first third in
    becomes-next s listing written pid p third goes there refl listed
    (λ at. fields-end listing written pid third goes c.going_on.result at (c.going_on.ensures p same.seen_is) refl refl
    c.set_fields.ensures.state)
    ∙ ap (λ (values : List (VarId × Value)). with_process pid (goes_at begun.declaration.now values lists channels) s)
    c.in_ok-values.ensures
    ∙ ap (λ (lists : List (VarId × PotentialList)). with_process pid (goes_at begun.declaration.now
    (bindings_of (me_value begun.declaration.now.me payer ++ begun.given.values.items)) lists channels) s)
    c.in_ok-lists.ensures.items
    ∙ ap (λ (d : ProcDecl). with_process pid (goes_at d
    (bindings_of (me_value d.me payer ++ begun.given.values.items)) (bindings_of begun.given.lists.items)
    channels) s) same.declaration
    ∙ ap (λ (gives : Given). with_process pid (goes_at d (bindings_of (me_value d.me payer ++ gives.values))
    (bindings_of gives.lists) gives.channels) s) same.gives
    ∙ ap (λ (seen : SeenProcess). with_process pid (goes_at d (bindings_of (me_value d.me seen.payer ++ gives.values))
    (bindings_of gives.lists) gives.channels) s) same.seen_is
