use Rattle.std.proofs.Common.{◌∙◌, refl, ap}
use Rattle.nomos_machine.specs.declared.object.Object.TheVariants as object
use Rattle.nomos_machine.specs.declared.object.Process.{Process}
use Rattle.nomos_changes.specs.SmallChanges.{with_list_change}
use Rattle.nomos_changes.proofs.BecomesLemmas.{on_ok}
use Rattle.nomos_plain.specs.Parts.{process_in, state_of}
use Rattle.nomos_plain.proofs.TakeLemmas.{becomes-taken, put-taken_back, on_err}
use Rattle.nomos_plain.proofs.plain_parts.PlainParts.change_lists.Goals as goal

pub returns-clause-ok : goal.returns-clause-ok
returns-clause-ok c =
    on_ok c.change_lists-done.result
    (λ becomes p there. becomes-taken (state_of c.args.self.now) (state_of c.take.new.self) (state_of c.put.new.self)
    c.args.pid c.change_lists-done.new.self.pid (object.Process (process_in c.change_lists-done.new.self))
    c.in-Some.ensures.state c.put.ensures.state (c.change_lists-done.ensures.pid ∙ c.in-Some.ensures.pid)
    (with_list_change c.args.change) (process_in c.in-Some.process) p (process_in c.change_lists-done.new.self)
    (c.in-Some.ensures.found p there) becomes refl)
    c.change_lists-done.ensures.ok

pub returns-clause-err : goal.returns-clause-err
returns-clause-err c =
    on_err c.change_lists-done.result
    (λ stays. put-taken_back (state_of c.args.self.now) (state_of c.take.new.self) (state_of c.put.new.self) c.args.pid
    c.change_lists-done.new.self.pid (object.Process (process_in c.change_lists-done.new.self)) c.in-Some.ensures.state
    c.put.ensures.state (c.change_lists-done.ensures.pid ∙ c.in-Some.ensures.pid) (process_in c.in-Some.process)
    c.in-Some.ensures.there (ap (λ (q : Process). object.Process q) stays))
    c.change_lists-done.ensures.err

pub put-requires-clause-channels : goal.put-requires-clause-channels
put-requires-clause-channels c =
    rw c.take.ensures.room
    (rw c.change_lists-done.ensures.channels (c.take.ensures.channels c.in-Some.process c.in-Some.is))
