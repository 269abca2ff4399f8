-- A process of which a channel goes on under another name, as its plain fields have it, and as its channels have it.
use Rattle.std.specs.Prelude.{ℕ}
use Rattle.nomos_ir.specs.Bindings.{bind}
use Rattle.nomos_ir.specs.declared.code_node.Chan.{Chan}
use Rattle.nomos_ir.specs.declared.code_node.Chan.TheVariants as chan
use Rattle.nomos_machine.specs.declared.object.Process.{Process}

-- where the channel is its own one, it offers the name
abbrev pub provides_under : Chan → ℕ → Process → Process
provides_under chan.Own name p = record p { offers = name }
provides_under (chan.Var v) name p = p

-- where the channel is one that it uses, that has the name
abbrev pub uses_under : Chan → ℕ → Process → Process
uses_under chan.Own name p = p
uses_under (chan.Var v) name p = record p { channels = bind v name p.channels }
