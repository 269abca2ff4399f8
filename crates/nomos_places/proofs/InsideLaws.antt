-- A judgement that stands in an accepted program.
use Rattle.std.proofs.Common.{◌<◌, length}
use Rattle.std.proofs.lemmas.Option.{slice_get_within}
use Rattle.nomos_ir.proofs.NodeLaws.{All-at}
use Rattle.nomos_ir.specs.declared.declaration.ProcDecl.{ProcDecl}
use Rattle.nomos_types.proofs.DerivationLaws.{derives-following}
use Rattle.nomos_types.proofs.InversionLaws.{derives-row}
use Rattle.nomos_types.proofs.RowLaws.{row-at}
use Rattle.nomos_types.specs.Acceptance.{Acceptance, IsAccepted}
use Rattle.nomos_types.specs.Derivation.{Derives}
use Rattle.nomos_types.specs.Judgement.{Judgement, start_of}
use Rattle.nomos_places.specs.WantedPlaces.{StandsIn}

module _ {a : Acceptance} (accepted : IsAccepted a) where
  -- it has a derivation
  pub place-derives : (j : Judgement) → StandsIn a j → Derives a.program a.annotations j
  place-derives j stands =
      derives-following accepted.typed.formed
      (All-at (λ (d : ProcDecl). Derives a.program a.annotations (start_of a.program a.annotations d)) a.program.procs
      stands.number stands.declaration accepted.typed.procs stands.declared) stands.follows

  -- and stands at one of the program's instructions
  pub place-inside : (j : Judgement) → StandsIn a j → j.code.0 < length a.program.code
  place-inside j stands =
      let (after, row) = derives-row accepted.typed.formed (place-derives j stands) in
      let (n, there, says) = row-at row in
      slice_get_within a.program.code j.code.0 n there
