use Rattle.std.proofs.Common.{◌<◌, ◌∙◌, List, length, All, refl, sym, subst}
use Rattle.nomos_ir.specs.declared.ids.TypeId.{TypeId}
use Rattle.nomos_ir.specs.declared.ids.VarId.{VarId}
use Rattle.nomos_ir.specs.declared.code_node.CodeNode.TheVariants as code
use Rattle.nomos_ir.specs.declared.mode.Mode.TheVariants as mode
use Rattle.nomos_types.specs.Modes.{HasMode}
use Rattle.nomos_types.specs.TypingRule as row
use Rattle.nomos_types.proofs.ModeLaws.{mode-in_range}
use Rattle.nomos_check.specs.mirror.StandingData.{shape_of}
use Rattle.nomos_check.proofs.LeadLemmas.{leads-on, not-true}
use Rattle.nomos_check.proofs.StepRows.{detach-stuck}
use Rattle.nomos_check.proofs.sharing.at_detach.Goals as goal

pub all_at_r-requires-clause-in_range : goal.all_at_r-requires-clause-in_range
all_at_r-requires-clause-in_range c =
    let Inside : VarId × TypeId → Type 0 = λ b. b.1.0 < length c.args.program.now.types in
    let inside : All Inside c.args.now.now.linear =
    λ k d within. mode-in_range c.requires.formed.program (c.requires.within.judgement.linear_modes k d within).1
    in
    subst (λ (bs : List (VarId × TypeId)). All Inside bs) (sym (c.as_slice.ensures ∙ c.pairs.ensures)) inside

pub returns-then-not-is_mode : goal.returns-then-not-is_mode
returns-then-not-is_mode c =
    detach-stuck c.requires.stands.1 (λ t says. not-true c.if-not-is_mode.true (c.is_mode.ensures.1 says.mode))

pub returns-then-not-all_at_r : goal.returns-then-not-all_at_r
returns-then-not-all_at_r c =
    let AtR : VarId × TypeId → Type 0 = λ b. HasMode c.args.program.now b.1 mode.R in
    let same = sym (c.as_slice.ensures ∙ c.pairs.ensures) in
    detach-stuck c.requires.stands.1
    (λ t says.
    not-true c.if-not-all_at_r.true
    (c.all_at_r.ensures.1 (subst (λ (bs : List (VarId × TypeId)). All AtR bs) same says.nothing_held)))

pub returns-in-Some : goal.returns-in-Some
returns-in-Some c =
    let s = c.args.now.now in
    let t = c.in-Some.t in
    let AtR : VarId × TypeId → Type 0 = λ b. HasMode c.args.program.now b.1 mode.R in
    let same = c.as_slice.ensures ∙ c.pairs.ensures in
    let held = c.all_at_r.ensures.0 c.if-not-all_at_r.false in
    leads-on s (record s { mode = mode.S; offers = t; code = c.args.next })
    (record (shape_of s) { mode = mode.S; offers = t; code = c.args.next })
    (code.Detach c.requires.stands.0 c.args.next)
    c.requires.stands.1 (λ a. refl)
    (row.detach c.requires.stands.1 t (record {
      mode = c.is_mode.ensures.0 c.if-not-is_mode.false;
      channel = c.in-Some.ensures;
      nothing_held = subst (λ (bs : List (VarId × TypeId)). All AtR bs) same held;
    }))
    refl (record { lists = refl; potential = refl })

pub returns-in-None : goal.returns-in-None
returns-in-None c = detach-stuck c.requires.stands.1 (λ t says. c.in-None.ensures t says.channel)
