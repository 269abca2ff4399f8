-- A leap over one variable, or over what the two leaps behind it pass too.
use Rattle.std.proofs.Common.{◌<◌, ℕ, min, max, length, refl, ap, ◌∙◌, arith}
use Rattle.nomos_eval.proofs.ScopeLemmas.{leads_at, leads-far, long, some_at}
use Rattle.nomos_eval.proofs.scopes.Scopes.leap_from.Goals as goal

pub index-requires : goal.index-requires
index-requires c =
    omega (
      arith,
      long c.self.inside.cells.items c.args.self.now c.self.view_is c.self.invariant,
      c.self.inside.cells.ok.0,
      c.requires,
    )

pub index-requires-2 : goal.index-requires-2
index-requires-2 c =
    let leads = leads_at c.self.inside.cells.items c.args.self.now c.self.view_is c.self.invariant c.args.others
    c.index.result.now c.in-More.field-0 c.in-More.field-1 c.in-More.field-2 c.in-More.first c.requires c.index.ensures
    c.in-More.is in
    let behind = some_at c.self.inside.cells.items c.args.self.now c.self.view_is c.self.invariant 0 c.args.others
    c.index.result.now c.in-More.field-0 c.in-More.field-1 c.in-More.field-2 c.in-More.first c.requires c.index.ensures
    c.in-More.is in
    omega (
      arith,
      long c.self.inside.cells.items c.args.self.now c.self.view_is c.self.invariant,
      c.self.inside.cells.ok.0,
      c.requires,
      leads.there,
      behind.0,
    )

pub returns : goal.returns
returns c =
    let leads = leads_at c.self.inside.cells.items c.args.self.now c.self.view_is c.self.invariant c.args.others
    c.index.result.now c.in-More.field-0 c.in-More.field-1 c.in-More.field-2 c.in-More.first c.requires c.index.ensures
    c.in-More.is in
    let behind = λ (v : ℕ). some_at c.self.inside.cells.items c.args.self.now c.self.view_is c.self.invariant v
    c.args.others c.index.result.now c.in-More.field-0 c.in-More.field-1 c.in-More.field-2 c.in-More.first c.requires
    c.index.ensures c.in-More.is in
    let inside : c.in-More.first.place < length c.args.self.now =
    omega (arith, leads.there, (behind 0).0, c.requires) in
    let leads2 = leads_at c.self.inside.cells.items c.args.self.now c.self.view_is c.self.invariant
    c.in-More.first.place c.index-2.result.now c.in-More-index.field-0 c.in-More-index.field-1 c.in-More-index.field-2
    c.in-More-index.second inside c.index-2.ensures c.in-More-index.is in
    let behind2 = λ (v : ℕ). some_at c.self.inside.cells.items c.args.self.now c.self.view_is c.self.invariant v
    c.in-More.first.place c.index-2.result.now c.in-More-index.field-0 c.in-More-index.field-1 c.in-More-index.field-2
    c.in-More-index.second inside c.index-2.ensures c.in-More-index.is in
    leads-far c.args.self.now c.args.v c.in-More.field-0 c.in-More-index.field-0 c.in-More.field-1
    c.in-More-index.field-1 c.args.others c.in-More.field-2 c.in-More-index.field-2 c.in-More.first
    c.in-More-index.second _ leads leads2 behind behind2 refl
    (c.min-2.ensures ∙ ap (λ n. min n c.in-More-index.second.least) c.min.ensures)
    (c.max-2.ensures ∙ ap (λ n. max n c.in-More-index.second.most) c.max.ensures)
