use Rattle.std.proofs.Common.{◌≡◌, ◌<◌, ℕ, List, Some, get_or, length, slice_get, ap, sym, subst, ◌∙◌, arith}
use Rattle.std.specs.Option.{option_map}
use Rattle.std.proofs.lemmas.Option.{slice_get-get_or}
use Rattle.nomos_ir.specs.declared.lists.ProgramLists.{ProgramLists}
use Rattle.nomos_ir.specs.declared.mode.Mode.TheVariants as mode
use Rattle.nomos_ir.specs.declared.type_node.TypeAt.{TypeAt}
use Rattle.nomos_types.proofs.Nodes.{type_node-in_range}
use Rattle.nomos_types.proofs.OffenceLemmas.{forbidden-more}
use Rattle.nomos_types.proofs.forming.first_forbidden.Goals as goal
use Rattle.nomos_types.specs.mirror.Least.{IsLeast}
use Rattle.nomos_types.specs.mirror.Offences.{ForbiddenBelow}

-- the slice has the program's types
types-of : (lists other : ProgramLists) (types : List TypeAt) → types ≡ other.types → other ≡ lists
    → types ≡ lists.types
types-of lists other types slice same = slice ∙ ap (λ (l : ProgramLists). l.types) same

-- what stands at a place of it
place-at : (lists : ProgramLists) (types : List TypeAt) (i : ℕ) (d : TypeAt) → types ≡ lists.types → i < length types
    → slice_get lists.types i ≡ Some (get_or types i d)
place-at lists types i d same inside =
    subst (λ (ts : List TypeAt). slice_get ts i ≡ Some (get_or types i d)) same (slice_get-get_or types i d inside)

pub forbidden_at-requires : goal.forbidden_at-requires
forbidden_at-requires c =
    let lists = c.args.program.now in
    let same = types-of lists c.lists.result.now c.as_slice-types.result.now c.as_slice-types.ensures
    c.lists.ensures.lists in
    let found = place-at lists c.as_slice-types.result.now c.loop-i.i c.index-types-i.result same c.loop-i-test.true
    ∙ ap Some (sym c.index-types-i.is) in
    (type_node-in_range lists c.loop-i.i _ c.lists.ensures.program
    (ap (option_map (λ (at : TypeAt). at.node)) found)).names

-- one type node more
pub loop-i-preserved : goal.loop-i-preserved
loop-i-preserved c =
    let lists = c.args.program.now in
    let same = types-of lists c.lists.result.now c.as_slice-types.result.now c.as_slice-types.ensures
    c.lists.ensures.lists in
    let found = place-at lists c.as_slice-types.result.now c.loop-i.i c.index-types-i.result same c.loop-i-test.true
    ∙ ap Some (sym c.index-types-i.is) in
    let types_length : length c.as_slice-types.result.now ≡ length lists.types = ap length same in
    let inside : c.loop-i.i < length c.args.modes.now = omega (arith, c.requires.each) in
    let set = slice_get-get_or c.args.modes.now c.loop-i.i mode.R inside in
    let more = forbidden-more lists c.loop-i.i c.lists.ensures.program c.args.modes.now c.requires _ found _ set
    c.loop-i.first c.forbidden_at.result c.loop-i.invariant c.forbidden_at.ensures in
    rw c.lesser-first.ensures more

pub returns-clause-least : goal.returns-clause-least
returns-clause-least c =
    let lists = c.args.program.now in
    let same = types-of lists c.lists.result.now c.as_slice-types.result.now c.as_slice-types.ensures
    c.lists.ensures.lists in
    let types_length : length c.as_slice-types.result.now ≡ length lists.types = ap length same in
    let all : c.loop-i.i ≡ length lists.types = omega arith in
    subst (λ (n : ℕ). IsLeast (ForbiddenBelow lists n) c.loop-i.first) all c.loop-i.invariant
