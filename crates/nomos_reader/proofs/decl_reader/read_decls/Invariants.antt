use Rattle.std.proofs.Common.{◌≡◌, ◌-◌, [], length, map}
use Rattle.nomos_surface.specs.FileView.{decl_tree}
use Rattle.nomos_reader.specs.mirror.Files.{read_decls}
use Rattle.nomos_reader.proofs.decl_reader.read_decls.Given as goal

-- the declarations that are left, behind those that were read, are all of them
abbrev pub invariant-loop : goal.invariant-loop
invariant-loop l =
    read_decls (l.end - l.counter) (map decl_tree l.decls.items) l.tokens
    ≡ read_decls (length l.fn.tokens) [] l.fn.tokens
