use Rattle.std.proofs.Common.{◌≡◌, map, take}
use Rattle.nomos_ledger.proofs.declared.ProcNames.of.Given as goal

-- the names so far are those of the first declarations
abbrev pub invariant-loop-d : goal.invariant-loop-d
invariant-loop-d l = map (λ n. n.now) l.names.keys ≡ map (λ d. d.name) (take l.d-index l.procs)
