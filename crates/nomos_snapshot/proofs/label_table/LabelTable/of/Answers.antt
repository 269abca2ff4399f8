-- A label differs from those before it, and so it is put behind them.
use Rattle.std.proofs.Common.{◌≢◌, ℕ, List, ap, subst, sym, ◌∙◌}
use Rattle.std.specs.Prelude.{AllPairs}
use Rattle.nomos_ir.specs.declared.lists.ProgramLists.{ProgramLists}
use Rattle.nomos_snapshot.proofs.LabelLemmas.{label-put}
use Rattle.nomos_snapshot.proofs.label_table.LabelTable.of.Goals as goal

pub loop-label-preserved : goal.loop-label-preserved
loop-label-preserved c =
    let labels = c.as_slice-label-items.ensures ∙ ap (λ (p : ProgramLists). p.labels) c.lists.ensures.lists in
    let differ = subst (λ (ls : List (List ℕ)). AllPairs (λ k l. k ≢ l) ls) (sym labels)
    c.lists.ensures.program.spaces.labels in
    label-put (λ k. k.items) c.loop-label.texts.keys c.insert.new.self.keys c.in_ok-from_slice.field-0
    c.as_slice-label-items.result.now c.loop-label.label-index c.label-item.result differ c.loop-label-test.true
    c.loop-label.invariant (c.in_ok-from_slice.ensures.items ∙ c.as_bytes.ensures) c.label-item.is
    c.in_ok-insert.ensures.keys
