-- The lines of one word.
use Rattle.std.proofs.Common.{rules, ◌≡◌, codes, refl}
use Rattle.nomos_script.specs.Form.{begin, end, show}
use Rattle.nomos_script.proofs.FormLemmas.{bare_read}
use Rattle.nomos_script.proofs.line.read_behind.Goals as goal

pub returns-then-eq-4-clause-read : goal.returns-then-eq-4-clause-read
returns-then-eq-4-clause-read c =
    let same : c.args.first.now ≡ codes "begin" = search rules in
    bare_read c.args.number c.args.first.now c.args.tokens.now begin c.read_end.result tt (rw same refl)
    c.read_end.ensures.read

pub returns-then-eq-5-clause-read : goal.returns-then-eq-5-clause-read
returns-then-eq-5-clause-read c =
    let same : c.args.first.now ≡ codes "end" = search rules in
    bare_read c.args.number c.args.first.now c.args.tokens.now end c.read_end-then-eq-5.result tt (rw same refl)
    c.read_end-then-eq-5.ensures.read

pub returns-then-eq-6-clause-read : goal.returns-then-eq-6-clause-read
returns-then-eq-6-clause-read c =
    let same : c.args.first.now ≡ codes "show" = search rules in
    bare_read c.args.number c.args.first.now c.args.tokens.now show c.read_end-then-eq-6.result tt (rw same refl)
    c.read_end-then-eq-6.ensures.read
