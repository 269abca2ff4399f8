use Rattle.std.proofs.Common.{◌≡◌, ◌∙◌, ℕ, Option, sym, subst}
use Rattle.nomos_ir.specs.Unfold.{unfolded}
use Rattle.nomos_ir.specs.declared.lists.ProgramLists.{ProgramLists}
use Rattle.nomos_ir.specs.declared.type_node.TypeNode.{TypeNode}
use Rattle.nomos_deeds.proofs.WayLemmas.{way-none, way-found, node-amounts}
use Rattle.nomos_deeds.proofs.awaiting.way_on.Goals as goal

at-program : {lists others : ProgramLists} (t : ℕ) {found : Option TypeNode} → lists ≡ others
    → unfolded lists t ≡ found → unfolded others t ≡ found
at-program t {found} same is = subst (λ (ls : ProgramLists). unfolded ls t ≡ found) same is

pub way_at-requires : goal.way_at-requires
way_at-requires g c =
    node-amounts c.args.accepted.now c.program-program.ensures.accepted c.in-Some.t.0 c.in-Some-unfolded.node.now
    (at-program c.in-Some.t.0 c.program-program.ensures.program (sym c.in-Some-unfolded.ensures))

pub returns-in-Some-unfolded : goal.returns-in-Some-unfolded
returns-in-Some-unfolded g c =
    way-found c.args.accepted.now c.program-program.ensures.accepted (g.S.Sight.state c.args.sight.now).types
    c.args.name c.args.said.now c.in-Some.t c.in-Some-unfolded.node.now c.way_at.result
    (sym c.type_of.ensures ∙ c.in-Some.is) (at-program c.in-Some.t.0 c.program-program.ensures.program
    (sym c.in-Some-unfolded.ensures)) c.way_at.ensures

pub returns-in-None : goal.returns-in-None
returns-in-None g c =
    way-none c.args.accepted.now c.program-program.ensures.accepted (g.S.Sight.state c.args.sight.now).types
    c.args.name c.args.said.now c.in-Some.t (sym c.type_of.ensures ∙ c.in-Some.is)
    (at-program c.in-Some.t.0 c.program-program.ensures.program (sym c.in-None.ensures))
