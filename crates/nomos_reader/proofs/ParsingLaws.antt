-- What the tokens of a text tell of its trees.
use Rattle.std.proofs.Common.{◌≡◌, ◌<◌, ℕ, List, [], ◌∷◌, ◌++◌, All, get_or, length, true, nat_le, inl, inr, IsErrOf, map, Err, refl, sym, subst, arith}
use Rattle.std.proofs.lemmas.List.{get_or-map, length-map}
use Rattle.std.proofs.lemmas.List.Elements.{All-cons, All-nil}
use Rattle.std.proofs.lemmas.Bool.Decides.{leb_tells}
use Rattle.std.proofs.lemmas.List.Quantifiers.{position-Some}
use Rattle.nomos_grammar.proofs.NumeralLaws.{numbers_are_numerals}
use Rattle.nomos_grammar.proofs.OffenceLaws.{passed_once}
use Rattle.nomos_grammar.specs.declared.offence.GrammarError.{GrammarError}
use Rattle.nomos_grammar.specs.declared.offence.GrammarError.TheVariants as grammar
use Rattle.nomos_grammar.specs.Producing.{IsFile}
use Rattle.nomos_grammar.specs.mirror.ReaderStates.{IsWritten}
use Rattle.nomos_grammar.specs.Offence.{AllKeep, Answers, IsSmall}
use Rattle.nomos_surface.proofs.PrintLaws.{printed-is-file}
use Rattle.nomos_surface.proofs.TreeLaws.{file-has_tree}
use Rattle.nomos_reader.specs.Readable.{HasNumeral, AreReadable}
use Rattle.nomos_reader.specs.TreeOf.{IsTreeOf}
use Rattle.nomos_reader.specs.mirror.Errors.{of_tokens, of_grammar}
use Rattle.nomos_reader.specs.Parsing.{ReadsOnlyAs, ReadsAsNone, Offends, AnswersParse}
use Rattle.nomos_surface.specs.TreeReading.{ReadsAs}
use Rattle.nomos_surface.specs.Tree.{FileTree}
use Rattle.nomos_syntax.specs.declared.scan.TokenError.{TokenError}
use Rattle.nomos_syntax.specs.declared.scan.TokenError.TheVariants as scan
use Rattle.nomos_syntax.specs.declared.token.Token.{Token}
use Rattle.nomos_syntax.specs.Lexeme.{Lexeme, name, reserved, number, symbol, bad, Placed}
use Rattle.nomos_ir.specs.Limits.{text_limit}
use Rattle.nomos_syntax.specs.Reading.{IsPlainText}
use Rattle.nomos_syntax.specs.Scan.{tokens_of}
use Rattle.nomos_syntax.specs.Spans.{StandFor, placed_of, IsFirstNotAscii}

-- tokens that keep to the rules have small numbers
all-small : (front tokens : List Placed) → AllKeep front tokens → All (λ t. IsSmall t.lexeme) tokens
all-small front [] keep = All-nil (λ t. IsSmall t.lexeme)
all-small front (x ∷ tokens) ((before, (short, (small, others))), keep) =
    All-cons (λ t. IsSmall t.lexeme) x tokens small (all-small (front ++ x ∷ []) tokens keep)

-- a number that is written and small is a numeral within the limit
has-numeral : (l : Lexeme) → IsWritten l → IsSmall l → HasNumeral l
has-numeral (name text) written small = tt
has-numeral (reserved w) written small = tt
has-numeral (number digits) written small = (written, small)
has-numeral (symbol s) written small = tt
has-numeral (bad byte) written small = tt

all-numerals : (tokens : List Placed) → All (λ t. IsWritten t.lexeme) tokens → All (λ t. IsSmall t.lexeme) tokens
    → All (λ t. HasNumeral t.lexeme) tokens
all-numerals tokens written small = λ k x inside. has-numeral (get_or tokens k x).lexeme (written k x inside)
    (small k x inside)

-- what holds of what elements are mapped to holds of them
all-mapped : {X Y : Type 0} (P : Y → Type 0) (f : X → Y) (xs : List X) → All P (map f xs) → All (λ x. P (f x)) xs
all-mapped P f xs all k x inside =
    let within : k < length (map f xs) = rw length-map inside in
    subst P (get_or-map f xs k x (f x) inside) (all k (f x) within)

-- the tokens that are left to read are those of a text that keeps to the rules
pub tokens-left : (text : List ℕ) (tokens : List Token) → StandFor text tokens (tokens_of text)
    → AllKeep [] (tokens_of text) → AreReadable text tokens
tokens-left text tokens stand keep =
    let numerals = all-numerals (tokens_of text) (numbers_are_numerals text) (all-small [] (tokens_of text) keep) in
    record {
      inside = stand.inside;
      spelled = stand.spelled;
      numerals =
          all-mapped (λ t. HasNumeral t.lexeme) (placed_of text) tokens
          (subst (λ (ts : List Placed). All (λ t. HasNumeral t.lexeme) ts) (sym stand.same) numerals);
    }

-- a text that keeps to the rules and is a file reads as the tree whose tokens it has, and as no other
pub read-only_as : (text : List ℕ) (tree : FileTree) → IsPlainText text → AllKeep [] (tokens_of text)
    → IsFile (tokens_of text) → IsTreeOf (tokens_of text) tree → ReadsOnlyAs text tree
read-only_as text tree plain keep file is =
    let (f, grammatical, spelled) = file-has_tree (tokens_of text) file in
    let reads : ReadsAs text f = record {
      plain = plain;
      tokens = record { grammatical = grammatical; printed = spelled; limits = keep };
    } in
    record {
      reads = subst (ReadsAs text) (sym (is f grammatical spelled)) reads;
      only = λ other given. sym (is other given.tokens.grammatical given.tokens.printed);
    }

-- a text whose tokens are refused reads as no tree
pub refused-none : (text : List ℕ) (e : GrammarError) → (e ≡ grammar.NoMemory → ⊥) → IsPlainText text
    → Answers {T = Unit {0}} (tokens_of text) (length text) (Err e) → Offends text e
refused-none text e some plain refused =
    record {
      plain = plain;
      refused = refused;
      none =
          λ tree reads.
          let file = printed-is-file tree reads.tokens.grammatical (tokens_of text) reads.tokens.printed in
          let unit : Unit {0} = tt in
          passed_once (tokens_of text) (length text) unit e some (reads.tokens.limits, file) refused;
    }

-- a text that is too long reads as no tree, nor does one with a byte over 127
pub long-none : (text : List ℕ) → text_limit < length text → ReadsAsNone text
long-none text long tree reads = let short = reads.plain.length_limit in omega arith

-- the byte at the place of the first over 127 is over 127
over-at : (text : List ℕ) (at : ℕ) → IsFirstNotAscii text at → (at < length text)
    × (nat_le 128 (get_or text at 0) ≡ true)
over-at text at first =
    let found = position-Some (λ (byte : ℕ). nat_le 128 byte) text at 0 first.first in
    (found.0, found.1)

pub not_ascii-none : (text : List ℕ) (at : ℕ) → IsFirstNotAscii text at → ReadsAsNone text
not_ascii-none text at first tree reads =
    let (inside, over) = over-at text at first in
    let below : get_or text at 0 < 128 = reads.plain.ascii at 0 inside in
    elim (leb_tells 128 (get_or text at 0)) [ inl (test, high) ↦ omega arith | inr (test, low) ↦ absurd cc ]

-- what is answered where the tokens are refused
pub refused-answer : (T : Type 0) (text : List ℕ) (e : GrammarError) → IsPlainText text
    → Answers {T = T} (tokens_of text) (length text) (Err e) → AnswersParse text (Err (of_grammar e))
refused-answer T text (grammar.Syntax at) plain refused = refused-none text (grammar.Syntax at)
    (λ same. cc) plain refused
refused-answer T text (grammar.Limit which at) plain refused = refused-none text (grammar.Limit which at)
    (λ same. cc) plain refused
refused-answer T text grammar.NoMemory plain refused = tt

-- what is answered where the text has no tokens
pub tokens-answer : (T : Type 0) (text : List ℕ) (e : TokenError) → (IsErrOf {T = T} (Err e) scan.TooLong
    → text_limit < length text) → ((at : ℕ) → IsErrOf {T = T} (Err e) (scan.NotAscii at) → IsFirstNotAscii text at)
    → AnswersParse text (Err (of_tokens e))
tokens-answer T text scan.TooLong long first = (long refl, long-none text (long refl))
tokens-answer T text (scan.NotAscii at) long first = (first at refl, not_ascii-none text at (first at refl))
tokens-answer T text scan.NoMemory long first = tt
