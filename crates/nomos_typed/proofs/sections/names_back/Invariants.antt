use Rattle.std.proofs.Common.{◌↔◌, ℕ, take, Contains, IfSome}
use Rattle.nomos_typed.specs.mirror.TypedTalks.{HasBack, IsDecided}
use Rattle.nomos_typed.proofs.sections.names_back.Given as goal

-- those of the talks so far
abbrev pub invariant-loop-talk : goal.invariant-loop-talk
invariant-loop-talk l =
    record {
      known : IfSome l.last (IsDecided l.accepted);
      names : (name : ℕ) → Contains l.names.items name ↔ HasBack l.accepted (take l.talk-index l.talks) name;
    }
