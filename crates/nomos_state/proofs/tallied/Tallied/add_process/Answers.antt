use Rattle.std.proofs.Common.{◌≡◌, ◌∙◌, refl, sym, ap, subst, arith}
use Rattle.std.specs.List.Sorted.{IsStrictlySortedBy}
use Rattle.std.specs.Ordering.{nat_cmp}
use Rattle.nomos_state.specs.Indexed.{Indexed}
use Rattle.nomos_machine.specs.State.{State, process_at}
use Rattle.nomos_machine.specs.declared.object.Object.TheVariants as object
use Rattle.nomos_changes.specs.SmallChanges.{process_born}
use Rattle.nomos_state.specs.Tallying.{channels_used, names_of, nothing}
use Rattle.nomos_state.proofs.MoveLaws.{moves-both}
use Rattle.nomos_state.specs.Counting.{fields_seen}
use Rattle.nomos_state.specs.Tallied.{AreTalliesOf}
use Rattle.nomos_state.proofs.KeepLemmas.{come-tallied, marked-kept, process-come, process-counted}
use Rattle.nomos_state.proofs.tallied.Tallied.add_process.Goals as goal

pub count_fields-requires : goal.count_fields-requires
count_fields-requires c =
    let p = process_born c.args.born in
    let pid = c.free_number-pid.result in
    let own : p.pid ≡ pid =
    c.requires.number
    ∙ sym (ap (λ (i : Indexed). i.state.next_object) c.self.view_is)
    ∙ sym c.free_number-pid.ensures.next
    in
    let channels = c.count_channels.ensures.moves p
    (ap (λ (u : State). process_at u pid) c.in_ok-come_process.ensures.ok
    ∙ process-come c.self.inside.inside.state pid p own c.free_number-pid.ensures.free)
    in
    subst (IsStrictlySortedBy nat_cmp) (sym channels.order) c.self.invariant.now.order

pub invariant_of-self-2 : goal.invariant_of-self-2
invariant_of-self-2 c =
    let t = c.self.inside in
    let p = process_born c.args.born in
    let between = c.count_channels.new.tallies in
    let after = c.count_fields.new.tallies in
    let pid = c.free_number-pid.result in
    let own : p.pid ≡ pid =
    c.requires.number
    ∙ sym (ap (λ (i : Indexed). i.state.next_object) c.self.view_is)
    ∙ sym c.free_number-pid.ensures.next
    in
    let channels = c.count_channels.ensures.moves p
    (ap (λ (u : State). process_at u pid) c.in_ok-come_process.ensures.ok
    ∙ process-come c.self.inside.inside.state pid p own c.free_number-pid.ensures.free)
    in
    let moves = moves-both t.tallies between after nothing (channels_used p) nothing (fields_seen c.args.born.fields)
    nothing
    (λ d. names_of d (object.Process p)) channels c.count_fields.ensures
    (λ d name. omega (arith, process-counted p c.args.born.fields refl refl d name))
    in
    record {
      now =
          subst (AreTalliesOf after) (sym c.in_ok-come_process.ensures.ok)
          (come-tallied t.tallies after t.inside.state (object.Process p) c.self.invariant.now moves);
      marked =
          marked-kept t.was_exact t.was_lost _ _ _ _ c.self.invariant.marked moves.marked c.come_process.ensures.marked;
    }
