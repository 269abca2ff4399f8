use Rattle.nomos_ledger.specs.mirror.StartedLines.{Extends}
use Rattle.nomos_ledger.proofs.LineLemmas.{SoFar}
use Rattle.nomos_ledger.proofs.books.Books.start_lines.Given as goal

-- the lines so far started
abbrev pub invariant-loop-start : goal.invariant-loop-start
invariant-loop-start g l = record {
  so_far : SoFar l.fn.arguments l.arguments l.fn.self.now l.self.now l.starts l.start-index l.made.items;
  extends : Extends l.fn.self l.self;
}
