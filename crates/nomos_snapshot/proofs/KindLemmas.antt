-- A line is told by the kind that its first word says.
use Rattle.std.proofs.Common.{◌≡◌, ◌≢◌, ℕ, List, [], ◌∷◌, drop, Result, Ok, Err, Option, Some, None, IfOk, refl, sym, ◌∙◌, ap, subst}
use Rattle.std.specs.Prelude.{MatchOption}
use Rattle.nomos_ir.specs.Naming.{NamesAreShort}
use Rattle.nomos_ir.specs.declared.lists.ProgramLists.{ProgramLists}
use Rattle.nomos_printing.proofs.NamingLaws.{ReadsAs-named}
use Rattle.nomos_snapshot.specs.Line.{IsLine, line_text, line_words}
use Rattle.nomos_snapshot.specs.LineWords.{joined, words_in}
use Rattle.nomos_snapshot.specs.declared.line_kind.LineKind.{LineKind}
use Rattle.nomos_snapshot.specs.declared.line_kind.LineKind.TheVariants as kind
use Rattle.nomos_snapshot.specs.declared.line.SnapshotLine.{SnapshotLine}
use Rattle.nomos_snapshot.specs.declared.line.SnapshotLine.TheVariants as line
use Rattle.nomos_snapshot.specs.mirror.LineKinds.{IsOfKind, ReadsWords, all_kinds, kind_named, kind_of, kind_word}
use Rattle.nomos_snapshot.proofs.OneLineLaws.{line-words}
use Rattle.nomos_snapshot.proofs.WordLemmas.{joined-words, no-words}

-- ---- first words

-- the table has each kind
named-itself : (k : LineKind) → kind_named (kind_word k) ≡ Some k
unfolding kind_named
named-itself kind.Head = refl
named-itself kind.Unit = refl
named-itself kind.Next = refl
named-itself kind.Spent = refl
named-itself kind.Account = refl
named-itself kind.Contract = refl
named-itself kind.Name = refl
named-itself kind.Process = refl
named-itself kind.Value = refl
named-itself kind.List = refl
named-itself kind.Channel = refl
named-itself kind.Message = refl

-- a word that names a kind is the kind's
named-word : (text : List ℕ) (k : LineKind) → kind_named text ≡ Some k → text ≡ kind_word k
unfolding kind_named
named-word text k named =
    let reads = ReadsAs-named kind_word all_kinds named-itself text in
    let told = rw named at reads.found in
    told.1

-- the first word of a line says its kind
first-word : (lists : ProgramLists) (l : SnapshotLine)
    → line_words lists l ≡ kind_word (kind_of l) ∷ drop 1 (line_words lists l)
first-word lists line.Head = refl
first-word lists (line.Unit x) = refl
first-word lists (line.Next x y) = refl
first-word lists (line.Spent x) = refl
first-word lists (line.Account x y) = refl
first-word lists (line.Contract x y) = refl
first-word lists (line.Name x y) = refl
first-word lists (line.Process p) = refl
first-word lists (line.Value x y) = refl
first-word lists (line.List x y z) = refl
first-word lists (line.Channel x y) = refl
first-word lists (line.Message m) = refl

-- ---- lines of a kind

-- a line is one of its kind
line-of-kind : (lists : ProgramLists) (l : SnapshotLine) → IsLine lists l → IsOfKind lists (kind_of l) l
line-of-kind lists line.Head is = is
line-of-kind lists (line.Unit x) is = is
line-of-kind lists (line.Next x y) is = is
line-of-kind lists (line.Spent x) is = is
line-of-kind lists (line.Account x y) is = is
line-of-kind lists (line.Contract x y) is = is
line-of-kind lists (line.Name x y) is = is
line-of-kind lists (line.Process p) is = is
line-of-kind lists (line.Value x y) is = is
line-of-kind lists (line.List x y z) is = is
line-of-kind lists (line.Channel x y) is = is
line-of-kind lists (line.Message m) is = is

-- and one of a kind is a line of that kind
record OfKind (lists : ProgramLists) (k : LineKind) (l : SnapshotLine) : Type 0 where
  is : IsLine lists l
  same : kind_of l ≡ k

kind-line : (lists : ProgramLists) (k : LineKind) (l : SnapshotLine) → IsOfKind lists k l → OfKind lists k l
kind-line lists kind.Head line.Head is = record { is = is; same = refl }
kind-line lists kind.Unit (line.Unit x) is = record { is = is; same = refl }
kind-line lists kind.Next (line.Next x y) is = record { is = is; same = refl }
kind-line lists kind.Spent (line.Spent x) is = record { is = is; same = refl }
kind-line lists kind.Account (line.Account x y) is = record { is = is; same = refl }
kind-line lists kind.Contract (line.Contract x y) is = record { is = is; same = refl }
kind-line lists kind.Name (line.Name x y) is = record { is = is; same = refl }
kind-line lists kind.Process (line.Process p) is = record { is = is; same = refl }
kind-line lists kind.Value (line.Value x y) is = record { is = is; same = refl }
kind-line lists kind.List (line.List x y z) is = record { is = is; same = refl }
kind-line lists kind.Channel (line.Channel x y) is = record { is = is; same = refl }
kind-line lists kind.Message (line.Message m) is = record { is = is; same = refl }
kind-line lists kind.Head l is = absurd is
kind-line lists kind.Unit l is = absurd is
kind-line lists kind.Next l is = absurd is
kind-line lists kind.Spent l is = absurd is
kind-line lists kind.Account l is = absurd is
kind-line lists kind.Contract l is = absurd is
kind-line lists kind.Name l is = absurd is
kind-line lists kind.Process l is = absurd is
kind-line lists kind.Value l is = absurd is
kind-line lists kind.List l is = absurd is
kind-line lists kind.Channel l is = absurd is
kind-line lists kind.Message l is = absurd is

-- ---- whole lines

-- the words of a text that is a line
parts : (lists : ProgramLists) (text first : List ℕ) (words : List (List ℕ)) (l : SnapshotLine) → NamesAreShort lists
    → words_in text ≡ first ∷ words → IsLine lists l → text ≡ line_text lists l
    → first ∷ words ≡ kind_word (kind_of l) ∷ drop 1 (line_words lists l)
parts lists text first words l short is_words is e =
    sym is_words ∙ ap words_in e ∙ line-words lists l short is ∙ first-word lists l

pub unnamed-none : (lists : ProgramLists) (text first : List ℕ) (words : List (List ℕ)) → NamesAreShort lists
    → words_in text ≡ first ∷ words → kind_named first ≡ None → (l : SnapshotLine) → IsLine lists l
    → text ≢ line_text lists l
unnamed-none lists text first words short is_words none l is e =
    let both = parts lists text first words l short is_words is e in
    let word : first ≡ kind_word (kind_of l) = cc in
    let named : Some (kind_of l) ≡ None = sym (named-itself (kind_of l)) ∙ ap kind_named (sym word) ∙ none in
    cc

-- the line of the kind is the line of the text
pub kind-reads : {E : Type 0} (lists : ProgramLists) (text first : List ℕ) (words : List (List ℕ)) (k : LineKind)
    (result : Result (Option SnapshotLine) E) → NamesAreShort lists → words_in text ≡ first ∷ words
    → kind_named first ≡ Some k → IfOk result (ReadsWords (IsOfKind lists k) lists words)
    → IfOk result (λ found. MatchOption found ((l : SnapshotLine) → IsLine lists l → text ≢ line_text lists l)
    (λ l. IsLine lists l × (text ≡ line_text lists l)))
kind-reads lists text first words k (Err e) short is_words named reads = tt
kind-reads lists text first words k (Ok None) short is_words named reads = λ l is e.
    let both = parts lists text first words l short is_words is e in
    let word : first ≡ kind_word (kind_of l) = cc in
    let rest : words ≡ drop 1 (line_words lists l) = cc in
    let kinds : Some (kind_of l) ≡ Some k = sym (named-itself (kind_of l)) ∙ ap kind_named (sym word) ∙ named in
    let same : kind_of l ≡ k = cc in
    reads l (subst (λ (j : LineKind). IsOfKind lists j l) same (line-of-kind lists l is)) rest
kind-reads lists text first words k (Ok (Some l)) short is_words named reads =
    let of_kind = kind-line lists k l reads.0 in
    let word : first ≡ kind_word (kind_of l) = named-word first k named ∙ ap kind_word (sym of_kind.same) in
    let whole : words_in text ≡ line_words lists l =
    is_words ∙ ap (λ (w : List ℕ). w ∷ words) word ∙ ap (λ (ws : List (List ℕ)). kind_word (kind_of l) ∷ ws) reads.1
    ∙ sym (first-word lists l) in
    (of_kind.is, sym (joined-words text) ∙ ap joined whole)
