use Rattle.std.proofs.Common.{◌≡◌, ◌∙◌, ◌<◌, ◌^◌, ℕ, List, ap, refl, sym, subst, arith}
use Rattle.std.proofs.lemmas.Option.{slice_get_within}
use Rattle.std.specs.Global.{Vec}
use Rattle.std.specs.Option.{option_map}
use Rattle.nomos_ir.specs.declared.ids.VarId.{VarId}
use Rattle.nomos_machine.specs.declared.object.PotentialList.{PotentialList}
use Rattle.nomos_ir.specs.declared.code_node.Args.{Args}
use Rattle.nomos_ir.specs.declared.code_node.ValueArg.{ValueArg}
use Rattle.nomos_ir.specs.declared.declaration.ProcDecl.{ProcDecl}
use Rattle.nomos_types.specs.Amount.{dths}
use Rattle.nomos_deeds.specs.declared.sight.SeenProcess.{SeenProcess}
use Rattle.nomos_machine.specs.Deeds.{hands_over_lists}
use Rattle.nomos_machine.specs.Given.{Given, begins}
use Rattle.nomos_machine.specs.Revised.{poorer}
use Rattle.nomos_machine.specs.State.{State}
use Rattle.nomos_machine.specs.declared.object.Process.{Process}
use Rattle.nomos_changes.specs.Gives.{given_in}
use Rattle.nomos_changes.specs.SmallChanges.{process_born}
use Rattle.nomos_changes.proofs.BecomesLemmas.{not-some}
use Rattle.nomos_changes.proofs.BeginLemmas.{begun-is, if-told}
use Rattle.nomos_changes.proofs.BirthLemmas.{parent-stays, spawned-is}
use Rattle.nomos_changes.proofs.spawning.spawn_child.Goals as goal

pub begin-requires : goal.begin-requires
begin-requires g c =
    let s = g.P.Sight.state c.args.parts.now in
    let begun = c.in-Some.begun in
    let has = if-told _ c.in_ok-begun.field-0 begun c.in-Some.is c.in_ok-begun.ensures.found in
    let d = begun.declaration.now in
    let gives = given_in begun.given in
    let fits = c.requires.fits has.process d begun.args.now gives has.there has.begins in
    let bound = if-told _ _ d has.begins.declared c.bound.ensures in
    subst (λ (gas : ℕ). (begins d gives s.next_object s.next_name gas begun.process.payer).purse < 2 ^ 128) (sym bound)
    fits

pub bound-requires : goal.bound-requires
bound-requires g c =
    let has = if-told _ c.in_ok-begun.field-0 c.in-Some.begun c.in-Some.is c.in_ok-begun.ensures.found in
    slice_get_within c.args.accepted.now.program.procs c.args.spawn.declaration.0 c.in-Some.begun.declaration.now
    has.begins.declared

pub returns-in_default-clause-ok : goal.returns-in_default-clause-ok
returns-in_default-clause-ok g c p d args gives there begins_with =
    absurd (not-some c.in_ok-begun.field-0 c.in_default.is
    (c.in_ok-begun.ensures.some p d args gives there begins_with))

pub come_name-requires-clause-fits : goal.come_name-requires-clause-fits
come_name-requires-clause-fits g c =
    let a = c.args.accepted.now in
    let s = g.P.Sight.state c.args.parts.now in
    let t = g.P.Sight.state c.come_process.new.self in
    let has = if-told _ c.in_ok-begun.field-0 c.in-Some.begun c.in-Some.is c.in_ok-begun.ensures.found in
    let there = parent-stays a s t has.process (process_born c.in_ok-child.child) c.args.spawn has.there
    c.in_ok-come_process.ensures.ok in
    let purse = c.in_ok-child.child.fields.purse in
    let fields = c.going_on.ensures (poorer purse has.process) (c.spending.ensures has.process has.seen_is) in
    let goes = c.give_birth.ensures.state a has.process purse (sym c.program.ensures.program) there fields in
    let same : (g.P.Sight.state c.give_birth.new.parts).next_name ≡ s.next_name =
    ap (λ (t : State). t.next_name) goes ∙ ap (λ (t : State). t.next_name) c.in_ok-come_process.ensures.ok in
    omega (arith, same, c.requires.numbers.name)

pub returns-clause-ok : goal.returns-clause-ok
returns-clause-ok g c p d args gives there begins_with =
    let a = c.args.accepted.now in
    let s = g.P.Sight.state c.args.parts.now in
    let t = g.P.Sight.state c.come_process.new.self in
    let spawn = c.args.spawn in
    let begun = c.in-Some.begun in
    let has = if-told _ c.in_ok-begun.field-0 begun c.in-Some.is c.in_ok-begun.ensures.found in
    let same = begun-is a s spawn.pid spawn.declaration c.args.values begun.declaration.now d begun.args.now args
    (given_in begun.given) gives begun.process p has there begins_with in
    let bound = if-told _ _ begun.declaration.now has.begins.declared c.bound.ensures in
    let k = process_born c.in_ok-child.child in
    let at : ProcDecl → Given → ℕ → ℕ → Process =
    λ (d : ProcDecl) (gives : Given) (gas payer : ℕ). begins d gives s.next_object s.next_name gas payer in
    let e = begun.declaration.now in
    let kept : Given = given_in begun.given in
    let payer = begun.process.payer in
    let purse = c.in_ok-child.child.fields.purse in
    let born : k ≡ at d gives (dths a.annotations d.amount) p.payer =
    c.in_ok-child.ensures
    ∙ ap (λ (n : ℕ). begins e kept n c.fresh_name.result c.bound.result payer) c.next_number.ensures
    ∙ ap (λ (n : ℕ). begins e kept s.next_object n c.bound.result payer) c.fresh_name.ensures
    ∙ ap (λ (gas : ℕ). at e kept gas payer) bound
    ∙ ap (λ (d : ProcDecl). at d kept (dths a.annotations d.amount) payer) same.declaration
    ∙ ap (λ (gives : Given). at d gives (dths a.annotations d.amount) payer) same.gives
    ∙ ap (λ (seen : SeenProcess). at d gives (dths a.annotations d.amount) seen.payer) same.seen_is
    in
    let came = c.in_ok-come_process.ensures.ok in
    let stays = parent-stays a s t p k spawn there came in
    spawned-is a s t p k spawn there came (g.P.Sight.state c.give_birth.new.parts)
    (g.P.Sight.state c.come_name.new.self)
    (option_map (λ (kept : Vec (VarId × PotentialList)). kept.items) c.in_ok-lists.lists) c.as_slice-2.result.now
    purse begun.declaration.now.offers d args gives
    (c.give_birth.ensures.state a p purse (sym c.program.ensures.program) stays
    (c.going_on.ensures (poorer purse p) (c.spending.ensures p same.seen_is))) c.come_name.ensures.state
    (c.in_ok-lists.ensures a s p there
    ∙ ap (λ (left : List ValueArg). hands_over_lists a s p left p) c.as_slice.ensures
    ∙ ap (λ (all : Args). hands_over_lists a s p all.values p) same.args_are)
    (c.as_slice-2.ensures ∙ ap (λ (all : Args). all.channels) same.args_are) refl born
    (ap (λ (d : ProcDecl). d.offers) same.declaration)
