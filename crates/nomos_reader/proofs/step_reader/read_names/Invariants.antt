use Rattle.std.proofs.Common.{◌≡◌, ◌-◌}
use Rattle.nomos_reader.specs.mirror.Codes.{read_names}
use Rattle.nomos_reader.specs.mirror.Front.{is_comma, read_name, read_parted}
use Rattle.nomos_reader.proofs.step_reader.read_names.Given as goal

-- the names that are left, behind those that were read, are all of them
abbrev pub invariant-loop : goal.invariant-loop
invariant-loop l = read_parted read_name is_comma (l.end - l.counter) l.names.items l.tokens ≡ read_names l.fn.tokens
