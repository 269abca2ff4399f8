use Rattle.std.proofs.Common.{◌≡◌, ◌-◌, length, sym, ◌∙◌, arith}
use Rattle.nomos_reader.specs.mirror.Codes.{read_names}
use Rattle.nomos_reader.specs.mirror.Front.{is_comma, read_name}
use Rattle.nomos_reader.proofs.PartedLemmas.{last_plain, next_plain, no_plain, until_none, until_some}
use Rattle.nomos_reader.proofs.step_reader.read_names.Goals as goal

pub returns-then-at_list_end : goal.returns-then-at_list_end
returns-then-at_list_end c =
    rw c.new-names.ensures.items
    (sym (until_none read_name (length c.args.tokens.now) c.args.tokens.now
    (sym c.at_list_end.ensures ∙ c.if-at_list_end.true)))

pub loop-init : goal.loop-init
loop-init c =
    let k : c.len-end.result - 0 ≡ length c.args.tokens.now = omega arith in
    rw (k, c.new-names.ensures.items)
    (sym (until_some read_name (length c.args.tokens.now) c.args.tokens.now
    (sym c.at_list_end.ensures ∙ c.if-at_list_end.false)))

pub returns-then-not-at_comma : goal.returns-then-not-at_comma
returns-then-not-at_comma c =
    last_plain read_name is_comma c.len-end.result c.loop.counter c.loop.names.items c.loop.tokens
    (read_names c.args.tokens.now)
    c.in_ok-name.field-0 c.name.new.self c.push.new.self.items c.loop-test.true c.in_ok-name.ensures
    (sym c.at_comma.ensures ∙ c.if-not-at_comma.true) c.in_ok-push.ensures.items c.loop.invariant

pub loop-preserved : goal.loop-preserved
loop-preserved c =
    next_plain read_name is_comma c.len-end.result c.loop.counter c.loop.names.items c.loop.tokens
    (read_names c.args.tokens.now)
    c.in_ok-name.field-0 c.name.new.self c.push.new.self.items c.skip.new.self c.loop-test.true c.in_ok-name.ensures
    (sym c.at_comma.ensures ∙ c.if-not-at_comma.false) c.in_ok-push.ensures.items c.skip.ensures.rest c.loop.invariant

pub returns : goal.returns
returns c =
    no_plain read_name is_comma c.len-end.result c.loop.counter c.loop.names.items c.loop.tokens
    (read_names c.args.tokens.now)
    c.loop-test.false c.loop.invariant
