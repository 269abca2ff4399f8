use Rattle.std.proofs.Common.{◌≡◌, ◌∙◌, ℕ, sym, ap, arith, refl}
use Rattle.nomos_ir.specs.declared.declaration.ProcDecl.{ProcDecl}
use Rattle.nomos_types.specs.Amount.{dths}
use Rattle.nomos_deeds.specs.SeenObjects.{seen_process}
use Rattle.nomos_deeds.specs.declared.act.Act.TheVariants as act
use Rattle.nomos_deeds.specs.declared.sight.SeenProcess.{SeenProcess}
use Rattle.nomos_machine.specs.Change.{Change}
use Rattle.nomos_machine.specs.Deeds.{spawns}
use Rattle.nomos_machine.specs.Given.{Given, begins}
use Rattle.nomos_changes.specs.Beginnings.{HasBegun}
use Rattle.nomos_changes.proofs.BeginActLemmas.{begun-change, comes-in, spawn-made}
use Rattle.nomos_changes.proofs.BeginLemmas.{begun-is}
use Rattle.nomos_changes.proofs.MadeLemmas.{can-acts}
use Rattle.nomos_changes.proofs.BecomesLemmas.{on_ok}
use Rattle.nomos_changes.proofs.spawning.act_spawn.Goals as goal

pub spawn_child-requires-clause-fits : goal.spawn_child-requires-clause-fits
spawn_child-requires-clause-fits g c p d args gives there begins_with =
    let s = g.P.Sight.state c.args.parts.now in
    let a = c.args.accepted.now in
    let spawn = c.args.spawn in
    let acts = can-acts a s spawn.pid c.args.values (act.Spawn spawn.variable spawn.declaration spawn.next)
    c.requires.can in
    let own = acts.process in
    let got = begun-change a s own spawn.declaration c.args.values acts.change
    (λ d args g. spawns a s own spawn.variable d args g spawn.next) acts.changes in
    let has : HasBegun a s spawn.pid spawn.declaration c.args.values got.declaration got.args got.gives
    (seen_process own) =
    record { process = own; there = acts.there; begins = got.begins; seen_is = refl } in
    let same = begun-is a s spawn.pid spawn.declaration c.args.values got.declaration d got.args args
    got.gives gives (seen_process own) p has there begins_with in
    let child = comes-in s acts.change _ (ap (λ (c : Change). c.comes) got.is) in
    let purse : ProcDecl → Given → ℕ → ℕ =
    λ (d : ProcDecl) (g : Given) (payer : ℕ).
    (begins d g s.next_object s.next_name (dths a.annotations d.amount) payer).purse in
    let alike : purse got.declaration got.gives own.payer ≡ purse d gives p.payer =
    ap (λ (d : ProcDecl). purse d got.gives own.payer) same.declaration
    ∙ ap (λ (g : Given). purse d g own.payer) same.gives
    ∙ ap (λ (seen : SeenProcess). purse d gives seen.payer) same.seen_is
    in
    omega (arith, child, alike, acts.gas_after)

pub returns-clause-ok : goal.returns-clause-ok
returns-clause-ok g c =
    let s = g.P.Sight.state c.args.parts.now in
    let a = c.args.accepted.now in
    let spawn = c.args.spawn in
    let acts = can-acts a s spawn.pid c.args.values (act.Spawn spawn.variable spawn.declaration spawn.next)
    c.requires.can in
    let p = acts.process in
    let got = begun-change a s p spawn.declaration c.args.values acts.change
    (λ d args g. spawns a s p spawn.variable d args g spawn.next) acts.changes in
    on_ok c.spawn_child.result
    (λ is. is ∙ spawn-made a s p spawn got.declaration got.args got.gives acts.change got.is ∙ sym acts.makes)
    (c.spawn_child.ensures.ok p got.declaration got.args got.gives acts.there got.begins)
