use Rattle.std.proofs.Common.{◌≡◌, ℕ, length, ap, subst, arith}
use Rattle.nomos_ir.specs.declared.lists.ProgramLists.{ProgramLists}
use Rattle.nomos_rows.proofs.TellingLemmas.{tells-more}
use Rattle.nomos_rows.proofs.UpsLemmas.{back-not_astray, pairs-more}
use Rattle.nomos_rows.proofs.shared_types.first_astray.Goals as goal
use Rattle.nomos_rows.specs.mirror.FirstFault.{TellsBelow}
use Rattle.nomos_rows.specs.mirror.Ups.{GoesAstray, GoesBack, IfNone, PairsBelow}

-- one type node more
pub loop-t-preserved : goal.loop-t-preserved
loop-t-preserved c =
    let lists = c.args.program.now in
    let found = c.in_ok-found.found in
    let more = tells-more (GoesAstray lists) (GoesBack lists)
    (back-not_astray lists) c.loop-t.t c.loop-t.first found c.loop-t.invariant.1 c.in_ok-found.ensures.tells in
    let pairs = pairs-more lists c.loop-t.t c.args.equalities.now c.loop-t.equalities c.astray_at.new.equalities
    c.loop-t.first found c.loop-t.invariant.2 c.in_ok-found.ensures.pairs in
    rw c.earliest-first.ensures (c.astray_at.ensures.compared, more, pairs)

pub returns-clause-tell : goal.returns-clause-tell
returns-clause-tell c =
    let lists = c.args.program.now in
    let same = ap (λ (l : ProgramLists). length l.types) c.lists.ensures.lists in
    let all : c.loop-t.t ≡ length lists.types = omega arith in
    subst (λ (n : ℕ). TellsBelow (GoesAstray lists) (GoesBack lists) n c.loop-t.first) all c.loop-t.invariant.1

pub returns-clause-pairs : goal.returns-clause-pairs
returns-clause-pairs c =
    let lists = c.args.program.now in
    let same = ap (λ (l : ProgramLists). length l.types) c.lists.ensures.lists in
    let all : c.loop-t.t ≡ length lists.types = omega arith in
    subst (λ (n : ℕ). IfNone (PairsBelow lists n c.args.equalities.now c.loop-t.equalities) c.loop-t.first) all
    c.loop-t.invariant.2
