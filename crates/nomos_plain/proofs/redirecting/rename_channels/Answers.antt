use Rattle.std.proofs.Common.{rules, ◌∙◌, ℕ, ap}
use Rattle.nomos_ir.specs.declared.ids.VarId.{VarId}
use Rattle.nomos_machine.specs.Revised.{renamed}
use Rattle.nomos_plain.proofs.RedirectLemmas.{mapped-more}
use Rattle.nomos_plain.proofs.redirecting.rename_channels.Goals as goal

pub loop-at-preserved : goal.loop-at-preserved
loop-at-preserved c = record {
  items =
      let instead : VarId × ℕ → VarId × ℕ = λ e. (e.0, renamed c.args.old c.args.new e.1) in
      mapped-more instead c.args.channels.now.items c.loop-at.channels.items c.loop-at.at c.index.result.now
      c.renamed_channel.result (search rules) (search rules) c.loop-at.invariant.items
      (c.renamed_channel.ensures ∙ ap instead c.index.ensures);
  len = search rules;
  capacity = search rules;
}
