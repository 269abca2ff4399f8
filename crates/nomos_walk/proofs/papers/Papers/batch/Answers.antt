use Rattle.std.proofs.Common.{◌∙◌, ap, sym}
use Rattle.nomos_machine.specs.State.{State}
use Rattle.nomos_walk.proofs.PaperLemmas.{batch-written}
use Rattle.nomos_walk.proofs.papers.Papers.batch.Goals as goal

pub returns : goal.returns
returns g c = λ batch after same.
    batch-written c.args.accepted.now batch c.args.outset.line c.args.world.now c.args.end.now after c.args.self.now
    (record {
      report = c.batch_on_report.new.sheet;
      text = c.batch_on_text.new.sheet;
      result = c.note.new.self;
    })
    c.requires.stands same
    c.in_ok-batch_on_report.ensures c.in_ok-batch_on_text.ensures
    (c.in_ok-note.ensures c.args.world.now.state
    (sym (c.results.ensures ∙ ap (λ (s : State). s.results) c.state.ensures.state)))
