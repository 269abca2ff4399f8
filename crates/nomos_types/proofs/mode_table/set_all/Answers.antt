use Rattle.std.proofs.Common.{◌≡◌, ◌<◌, ◌-◌, ℕ, suc, List, Some, get_or, length, slice_get, ap, subst, ◌∙◌, arith}
use Rattle.std.specs.Option.{option_map}
use Rattle.std.proofs.lemmas.Option.{slice_get-get_or}
use Rattle.nomos_ir.specs.declared.lists.ProgramLists.{ProgramLists}
use Rattle.nomos_ir.specs.declared.mode.Mode.TheVariants as mode
use Rattle.nomos_ir.specs.declared.type_node.TypeAt.{TypeAt}
use Rattle.nomos_ir.specs.Nodes.{type_node}
use Rattle.nomos_types.proofs.ModeTableLaws.{IsDoneFrom, done-init, done-step, done-all}
use Rattle.nomos_types.proofs.Nodes.{type_node-in_range}
use Rattle.nomos_types.proofs.mode_table.set_all.Goals as goal

-- the slice has the program's types
types-of : (lists other : ProgramLists) (types : List TypeAt) → types ≡ other.types → other ≡ lists
    → types ≡ lists.types
types-of lists other types slice same = slice ∙ ap (λ (l : ProgramLists). l.types) same

-- the node that stands at a place below the length
node-at : (lists : ProgramLists) (types : List TypeAt) (i : ℕ) (d : TypeAt) → types ≡ lists.types → i < length types
    → type_node lists i ≡ Some (get_or types i d).node
node-at lists types i d same inside =
    let found : slice_get lists.types i
    ≡ Some (get_or types i d) = subst (λ (ts : List TypeAt). slice_get ts i ≡ Some (get_or types i d)) same
    (slice_get-get_or types i d inside) in
    ap (option_map (λ (at : TypeAt). at.node)) found

pub loop-i-init : goal.loop-i-init
loop-i-init c =
    let lists = c.args.program.now in
    let same = types-of lists c.lists.result.now c.as_slice-types.result.now c.as_slice-types.ensures
    c.lists.ensures.lists in
    rw (same, c.set_wholes.ensures) (done-init c.lists.ensures.program c.args.modes.now c.requires)

pub set_parts-requires-clause-parts : goal.set_parts-requires-clause-parts
set_parts-requires-clause-parts c =
    let lists = c.args.program.now in
    let same = types-of lists c.lists.result.now c.as_slice-types.result.now c.as_slice-types.ensures
    c.lists.ensures.lists in
    let k = c.loop-i.i - 1 in
    let types_length : length c.as_slice-types.result.now ≡ length lists.types = ap length same in
    let inside : k < length c.as_slice-types.result.now = omega (arith, c.loop-i.invariant.within) in
    let there = node-at lists c.as_slice-types.result.now k c.index-types-i.result same inside in
    (type_node-in_range lists k _ c.lists.ensures.program there).parts

pub loop-i-preserved : goal.loop-i-preserved
loop-i-preserved c =
    let lists = c.args.program.now in
    let same = types-of lists c.lists.result.now c.as_slice-types.result.now c.as_slice-types.ensures
    c.lists.ensures.lists in
    let k = c.loop-i.i - 1 in
    let types_length : length c.as_slice-types.result.now ≡ length lists.types = ap length same in
    let inside : k < length c.as_slice-types.result.now = omega (arith, c.loop-i.invariant.within) in
    let there = node-at lists c.as_slice-types.result.now k c.index-types-i.result same inside in
    let in_modes : k < length c.loop-i.modes = omega (arith, c.loop-i.invariant.each) in
    let set = slice_get-get_or c.loop-i.modes k mode.R in_modes in
    let up : c.loop-i.i ≡ suc k = omega arith in
    let done : IsDoneFrom lists (suc k) c.loop-i.modes = subst (λ (n : ℕ). IsDoneFrom lists n c.loop-i.modes) up
    c.loop-i.invariant in
    rw c.set_parts.ensures (done-step c.lists.ensures.program k c.loop-i.modes _ _ done there set)

pub returns : goal.returns
returns c =
    let none : c.loop-i.i ≡ 0 = omega arith in
    let done : IsDoneFrom c.args.program.now 0 c.loop-i.modes =
    subst (λ (n : ℕ). IsDoneFrom c.args.program.now n c.loop-i.modes) none c.loop-i.invariant in
    done-all c.lists.ensures.program c.loop-i.modes done
