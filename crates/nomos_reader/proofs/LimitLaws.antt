-- The law of limits: a tree as which a text reads is within the limits of texts.
use Rattle.std.proofs.Common.{ℕ, List, [], Ok, Err, Result, IfOk}
use Rattle.nomos_surface.proofs.CountedLaws.{counted-within}
use Rattle.nomos_surface.proofs.KeptLaws.{spelled-kept, file-kept}
use Rattle.nomos_reader.specs.declared.parse.ParseError.{ParseError}
use Rattle.nomos_surface.specs.declared.surface.Surface.{Surface}
use Rattle.nomos_surface.specs.TreeBounds.{IsWithinLimits}
use Rattle.nomos_surface.specs.FileView.{file_tree}
use Rattle.nomos_reader.specs.Parsing.{AnswersParse}
use Rattle.nomos_surface.specs.Print.{print_file}
use Rattle.nomos_surface.specs.TreeReading.{ReadsAs}
use Rattle.nomos_surface.specs.Tree.{FileTree}
use Rattle.nomos_syntax.proofs.NameLaws.{names_are_names}
use Rattle.nomos_syntax.specs.Scan.{tokens_of}

pub reads-within : (text : List ℕ) (tree : FileTree) → ReadsAs text tree → IsWithinLimits tree
reads-within text tree reads =
    let tokens = tokens_of text in
    let is = reads.tokens in
    let (nodes, stars, shallow) = counted-within tree is.grammatical tokens is.printed is.limits in
    let kept = spelled-kept (print_file tree) [] tokens is.printed is.limits (names_are_names text) in
    record { decls = file-kept tree shallow kept; nodes = nodes; stars = stars }

-- so is the tree that is answered
pub answered-within : (text : List ℕ) (answer : Result Surface ParseError) → AnswersParse text answer
    → IfOk answer (λ surface. IsWithinLimits (file_tree surface))
answered-within text (Ok surface) answers = reads-within text (file_tree surface) answers.reads
answered-within text (Err e) answers = tt
