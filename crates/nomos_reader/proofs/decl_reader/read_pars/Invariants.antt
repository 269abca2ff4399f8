use Rattle.std.proofs.Common.{◌≡◌, ◌-◌}
use Rattle.nomos_reader.specs.mirror.Files.{read_par, read_pars}
use Rattle.nomos_reader.specs.mirror.Front.{is_comma, read_parted}
use Rattle.nomos_reader.proofs.decl_reader.read_pars.Given as goal

-- the parameters that are left, behind those that were read, are all of them
abbrev pub invariant-loop : goal.invariant-loop
invariant-loop l = read_parted read_par is_comma (l.end - l.counter) l.pars.items l.tokens ≡ read_pars l.fn.tokens
