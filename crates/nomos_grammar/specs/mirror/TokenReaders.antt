-- A mirror of the code: where the reader is, and what reading a token does.
use Rattle.std.specs.Prelude.{◌≡◌, List, [], ◌∷◌, ◌++◌, Bool, IsTrue, ◌↔◌, Result, Ok, Err}
use Rattle.nomos_syntax.specs.Lexeme.{Placed}
use Rattle.nomos_grammar.specs.declared.offence.GrammarError.{GrammarError}
use Rattle.nomos_grammar.specs.declared.offence.GrammarError.TheVariants.{Syntax, Limit, NoMemory}
use Rattle.nomos_grammar.specs.declared.reader.Reader.{Reader}
use Rattle.nomos_grammar.specs.declared.token_sight.TokenSight.{TokenSight}
use Rattle.nomos_grammar.specs.Producing.{IsFile}
use Rattle.nomos_grammar.specs.Offence.{last_offset, rules, KeepsAll}
use Rattle.nomos_grammar.specs.mirror.ReaderStates.{IsReady, HasRead, BreaksBy}
use Rattle.nomos_grammar.specs.mirror.Sights.{IsSeen}
use Rattle.nomos_grammar.specs.mirror.Tallies.{counts_of, IsKept}

-- the reader can read on
pub record IsSteady (r : Reader) : Type 0 where
  pub kept : IsKept r.tally
  pub ready : IsReady r.parts (counts_of r.tally)

-- the reader has read these tokens
pub record IsBehind (front : List Placed) (r : Reader) : Type 0 where
  pub read : HasRead front r.parts (counts_of r.tally)
  pub last : r.last ≡ last_offset front

-- nothing is read
pub record HasBegun (r : Reader) : Type 0 where
  pub steady : IsSteady r
  pub behind : IsBehind [] r

abbrev pub ReadsAs : {T : Type 0} → List Placed → Placed → Reader → Result T GrammarError → Type 0
ReadsAs front x after (Ok found) = KeepsAll front x rules × IsBehind (front ++ x ∷ []) after
ReadsAs front x after (Err NoMemory) = Unit {0}
ReadsAs front x after (Err (Syntax at)) = BreaksBy front x (Syntax at)
ReadsAs front x after (Err (Limit which at)) = BreaksBy front x (Limit which at)

-- behind any tokens, a token of which this is seen is read, or breaks a rule
abbrev pub ReadsOn : {T : Type 0} → Reader → TokenSight → Reader → Result T GrammarError → Type 0
ReadsOn before sight after result =
    (front : List Placed) (x : Placed) → IsSeen x sight → IsBehind front before → ReadsAs front x after result

-- behind any tokens, these are a file just where the text may end
abbrev pub EndsWell : Reader → Bool → Type 0
EndsWell r ends = (front : List Placed) → IsBehind front r → IsTrue ends ↔ IsFile front
