use Rattle.std.proofs.Common.{◌∙◌, List, [], ◌∷◌, ℕ, Bor, get_or, map, take, ap, sym}
use Rattle.std.proofs.lemmas.List.{map-append, take_more}
use Rattle.nomos_ir.specs.declared.declaration.ProcDecl.{ProcDecl}
use Rattle.nomos_ledger.proofs.AccountLemmas.{put-account}
use Rattle.nomos_ledger.proofs.DeclaredLemmas.{names_of, new-name}
use Rattle.nomos_ledger.proofs.declared.ProcNames.of.Goals as goal

pub loop-d-preserved : goal.loop-d-preserved
loop-d-preserved c =
    let procs = c.args.procs.now in
    let k = c.loop-d.d-index in
    let d = c.d-item.result in
    let is = c.as_bytes.ensures ∙ ap (λ (e : ProcDecl). e.name) c.d-item.is in
    let more = take_more procs k d c.loop-d-test.true in
    put-account (λ (n : Bor (List ℕ)). n.now) c.loop-d.names.keys c.insert.new.self.keys c.as_bytes.result
    (names_of (take k procs)) (get_or procs k d).name c.loop-d.invariant is
    (new-name procs k d c.requires c.loop-d-test.true) c.in_ok-insert.ensures.keys
    ∙ sym (ap (map (λ (e : ProcDecl). e.name)) more
    ∙ map-append (λ (e : ProcDecl). e.name) (take k procs) (get_or procs k d ∷ []))
