-- The lines that are printed of least bounds.
use Rattle.std.specs.Prelude.{ℕ, List, ◌++◌, codes, decimal}
use Rattle.std.specs.List.{flat_map}
use Rattle.nomos_base.specs.Gas.{gas_text}
use Rattle.nomos_least.specs.declared.least.LeastBounds.{LeastBounds}
use Rattle.nomos_simplex.specs.declared.solved.Proof.{Proof}
use Rattle.nomos_report.specs.Block.{accepted_block}
use Rattle.nomos_report.specs.ReportLines.{line}
use Rattle.nomos_top.specs.Refusal.{weight_line}

-- `least G`: what the transactions declare in all
abbrev pub least_line : ℕ → ℕ → List ℕ
least_line total unit = line (codes "least " ++ gas_text total unit)

-- `scale W`, and the weights
abbrev pub proof_lines : Proof → List ℕ
proof_lines proof = line (codes "scale " ++ decimal proof.scale) ++ flat_map weight_line proof.weights

-- what is printed of least bounds
abbrev pub least_block : LeastBounds → List ℕ
least_block b =
    accepted_block b.accepted
    ++ least_line b.proof.total b.accepted.annotations.unit
    ++ proof_lines b.proof
