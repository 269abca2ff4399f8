use Rattle.std.proofs.Common.{◌≡◌, ◌-◌, length, sym, ◌∙◌, arith}
use Rattle.nomos_surface.specs.FileView.{chan_par_tree}
use Rattle.nomos_reader.specs.mirror.Files.{read_chan_par, read_chan_pars}
use Rattle.nomos_reader.specs.mirror.Front.{is_comma}
use Rattle.nomos_reader.proofs.PartedLemmas.{last_item, next_item, no_item, until_none, until_some}
use Rattle.nomos_reader.proofs.decl_reader.read_chan_pars.Goals as goal

pub returns-then-at_list_end : goal.returns-then-at_list_end
returns-then-at_list_end c =
    rw c.new-pars.ensures.items
    (sym (until_none read_chan_par (length c.args.tokens.now) c.args.tokens.now
    (sym c.at_list_end.ensures ∙ c.if-at_list_end.true)))

pub loop-init : goal.loop-init
loop-init c =
    let k : c.len-end.result - 0 ≡ length c.args.tokens.now = omega arith in
    rw (k, c.new-pars.ensures.items)
    (sym (until_some read_chan_par (length c.args.tokens.now) c.args.tokens.now
    (sym c.at_list_end.ensures ∙ c.if-at_list_end.false)))

pub returns-then-not-at_comma : goal.returns-then-not-at_comma
returns-then-not-at_comma c =
    last_item chan_par_tree read_chan_par is_comma c.len-end.result c.loop.counter c.loop.pars.items c.loop.tokens
    (read_chan_pars c.args.tokens.now)
    c.in_ok-read_chan_par.field-0 c.read_chan_par.new.tokens c.push.new.self.items c.loop-test.true
    c.in_ok-read_chan_par.ensures
    (sym c.at_comma.ensures ∙ c.if-not-at_comma.true) c.in_ok-push.ensures.items c.loop.invariant

pub loop-preserved : goal.loop-preserved
loop-preserved c =
    next_item chan_par_tree read_chan_par is_comma c.len-end.result c.loop.counter c.loop.pars.items c.loop.tokens
    (read_chan_pars c.args.tokens.now)
    c.in_ok-read_chan_par.field-0 c.read_chan_par.new.tokens c.push.new.self.items c.skip.new.self c.loop-test.true
    c.in_ok-read_chan_par.ensures
    (sym c.at_comma.ensures ∙ c.if-not-at_comma.false) c.in_ok-push.ensures.items c.skip.ensures.rest c.loop.invariant

pub returns : goal.returns
returns c =
    no_item chan_par_tree read_chan_par is_comma c.len-end.result c.loop.counter c.loop.pars.items c.loop.tokens
    (read_chan_pars c.args.tokens.now)
    c.loop-test.false c.loop.invariant
