use Rattle.std.proofs.Common.{◌≡◌, ◌-◌, map}
use Rattle.nomos_surface.specs.FileView.{chan_par_tree}
use Rattle.nomos_reader.specs.mirror.Files.{read_chan_par, read_chan_pars}
use Rattle.nomos_reader.specs.mirror.Front.{is_comma, read_parted}
use Rattle.nomos_reader.proofs.decl_reader.read_chan_pars.Given as goal

-- the parameters that are left, behind those that were read, are all of them
abbrev pub invariant-loop : goal.invariant-loop
invariant-loop l =
    read_parted read_chan_par is_comma (l.end - l.counter) (map chan_par_tree l.pars.items) l.tokens
    ≡ read_chan_pars l.fn.tokens
