use Rattle.std.proofs.Common.{◌++◌}
use Rattle.std.specs.List.{flat_map}
use Rattle.nomos_ir.specs.TypeParts.{type_amounts}
use Rattle.nomos_ir.specs.CodeParts.{code_amounts}
use Rattle.nomos_ir.specs.Amounts.{proc_amounts}
use Rattle.nomos_ir.proofs.StarLemmas.{most_star-append}
use Rattle.nomos_ir.proofs.program.Program.stars.Goals as goal

-- the amounts of the three lists stand one after another
pub returns : goal.returns
returns c =
    let lists = c.args.self.now in
    let in_types = flat_map (λ t. type_amounts t.node) lists.types in
    let in_code = flat_map code_amounts lists.code in
    cc
    (most_star-append (in_types ++ in_code) (flat_map proc_amounts lists.procs), most_star-append in_types in_code)
