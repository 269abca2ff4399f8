-- The first variable with the number is found, going from one binding to the others.
use Rattle.std.proofs.Common.{◌≡◌, ◌==◌, true, false, sym, ◌∙◌, arith, rules, tests}
use Rattle.nomos_eval.specs.mirror.EvalScope.{IsOutside}
use Rattle.nomos_eval.proofs.ScopeLemmas.{call_at, none_at, some_at, leads_at, found_here, missed_here, long}
use Rattle.nomos_eval.proofs.scopes.Scopes.look_up.Goals as goal

pub index-requires : goal.index-requires
index-requires c =
    omega (
      arith,
      long c.self.inside.cells.items c.args.self.now c.self.view_is c.self.invariant,
      c.self.inside.cells.ok.0,
      c.loop-w.invariant.0,
    )

pub returns-in-Nothing : goal.returns-in-Nothing
returns-in-Nothing c =
    sym (c.loop-w.invariant.1 ∙ none_at c.self.inside.cells.items c.args.self.now c.self.view_is c.self.invariant
    c.args.v.0 c.loop-w.at c.index.result.now c.loop-w.invariant.0 c.index.ensures c.in-Nothing.is)

pub returns-in-Call : goal.returns-in-Call
returns-in-Call c =
    c.look_up.ensures
    ∙ sym (c.loop-w.invariant.1 ∙ call_at c.self.inside.cells.items c.args.self.now c.self.view_is c.self.invariant
    c.args.v.0 c.loop-w.at c.index.result.now c.in-Call.frame c.loop-w.invariant.0 c.index.ensures c.in-Call.is)

pub returns-then-eq : goal.returns-then-eq
returns-then-eq c =
    let found = some_at c.self.inside.cells.items c.args.self.now c.self.view_is c.self.invariant c.args.v.0 c.loop-w.at
    c.index.result.now c.in-More.w c.in-More.value c.in-More.others c.in-More.leap c.loop-w.invariant.0 c.index.ensures
    c.in-More.is in
    let same : (c.in-More.w.0 == c.args.v.0) ≡ true = search (tests, rules, c.if-eq.ensures) in
    sym (c.loop-w.invariant.1 ∙ found_here _ _ _ c.in-More.value found.1 same)

pub loop-w-smaller : goal.loop-w-smaller
loop-w-smaller c =
    (some_at c.self.inside.cells.items c.args.self.now c.self.view_is c.self.invariant c.args.v.0 c.loop-w.at
    c.index.result.now c.in-More.w c.in-More.value c.in-More.others c.in-More.leap c.loop-w.invariant.0 c.index.ensures
    c.in-More.is).0

pub loop-w-preserved : goal.loop-w-preserved
loop-w-preserved c =
    let found = some_at c.self.inside.cells.items c.args.self.now c.self.view_is c.self.invariant c.args.v.0 c.loop-w.at
    c.index.result.now c.in-More.w c.in-More.value c.in-More.others c.in-More.leap c.loop-w.invariant.0 c.index.ensures
    c.in-More.is in
    let other : (c.in-More.w.0 == c.args.v.0) ≡ false = search (tests, rules, c.if-eq.ensures) in (
      omega (arith, found.0, c.loop-w.invariant.0),
      c.loop-w.invariant.1
          ∙ missed_here _ _ _ c.in-More.value found.1 other,
    )

pub loop-w-smaller-then-passes : goal.loop-w-smaller-then-passes
loop-w-smaller-then-passes c =
    let found = some_at c.self.inside.cells.items c.args.self.now c.self.view_is c.self.invariant c.args.v.0 c.loop-w.at
    c.index.result.now c.in-More.w c.in-More.value c.in-More.others c.in-More.leap c.loop-w.invariant.0 c.index.ensures
    c.in-More.is in
    let leads = leads_at c.self.inside.cells.items c.args.self.now c.self.view_is c.self.invariant c.loop-w.at
    c.index.result.now c.in-More.w c.in-More.value c.in-More.others c.in-More.leap c.loop-w.invariant.0 c.index.ensures
    c.in-More.is in
    omega (arith, found.0, leads.there)

pub loop-w-preserved-then-passes : goal.loop-w-preserved-then-passes
loop-w-preserved-then-passes c =
    let found = some_at c.self.inside.cells.items c.args.self.now c.self.view_is c.self.invariant c.args.v.0 c.loop-w.at
    c.index.result.now c.in-More.w c.in-More.value c.in-More.others c.in-More.leap c.loop-w.invariant.0 c.index.ensures
    c.in-More.is in
    let leads = leads_at c.self.inside.cells.items c.args.self.now c.self.view_is c.self.invariant c.loop-w.at
    c.index.result.now c.in-More.w c.in-More.value c.in-More.others c.in-More.leap c.loop-w.invariant.0 c.index.ensures
    c.in-More.is in
    let outside : IsOutside c.in-More.leap c.args.v.0 = c.passes.ensures.0 c.if-passes.true in (
      omega (arith, found.0, leads.there, c.loop-w.invariant.0),
      c.loop-w.invariant.1
          ∙ missed_here _ _ _ c.in-More.value found.1 (leads.apart c.args.v.0 outside) ∙ leads.same c.args.v.0 outside,
    )
