-- A tree as which a text reads is nested within the limit, and so is each declaration of such a tree.
use Rattle.std.proofs.Common.{◌≡◌, ℕ, List, [], ◌∷◌, ◌++◌, ◌∙◌, refl, append_assoc}
use Rattle.nomos_elaborate.specs.Nesting.{AllNestWithinLimit, NestsWithinLimit, IsNestedWithinLimit}
use Rattle.nomos_grammar.specs.Offence.{AllKeep}
use Rattle.nomos_surface.specs.Grammatical.{Each}
use Rattle.nomos_surface.specs.Tree.{DeclTree, FileTree}
use Rattle.nomos_surface.specs.TreeReading.{ReadsAs}
use Rattle.nomos_syntax.specs.Lexeme.{Placed}
use Rattle.nomos_syntax.specs.Scan.{tokens_of}

-- tokens that keep to all rules keep to that of nesting
all-nest : (front tokens : List Placed) → AllKeep front tokens → AllNestWithinLimit front tokens
all-nest front [] keep = tt
all-nest front (x ∷ tokens) ((before, (short, (small, (may, (nested, others))))), keep) =
    (nested, all-nest (front ++ x ∷ []) tokens keep)

pub reads-nested : (text : List ℕ) (tree : FileTree) → ReadsAs text tree → NestsWithinLimit tree
reads-nested text tree reads = record {
  tokens = tokens_of text;
  printed = reads.tokens.printed;
  nested = all-nest [] (tokens_of text) reads.tokens.limits;
}

-- the declarations that stand behind these
left-nested : (tree : FileTree) → NestsWithinLimit tree → (front decls : List DeclTree) → front ++ decls ≡ tree.decls
    → Each IsNestedWithinLimit decls
left-nested tree nests front [] stands = tt
left-nested tree nests front (d ∷ decls) stands = (
  record { tree = tree; nests = nests; earlier = front; later = decls; stands = stands },
  left-nested tree nests (front ++ d ∷ []) decls (append_assoc front (d ∷ []) decls ∙ stands),
)

pub decls-nested : (tree : FileTree) → NestsWithinLimit tree → Each IsNestedWithinLimit tree.decls
decls-nested tree nests = left-nested tree nests [] tree.decls refl
