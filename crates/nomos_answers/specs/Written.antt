-- How what is due is written: the output, and behind it the text of the journal, or the snapshot.
use Rattle.std.specs.Prelude.{◌≡◌, ℕ, List, Option, Some, None}
use Rattle.nomos_base.specs.Sink.{with_end, AppendsSome}
use Rattle.nomos_answers.specs.Outside.{HaveRisen, SinkState}

-- what a sink has got, and a text behind it if there is one
abbrev pub with_text : Option (List ℕ) → Option (List ℕ) → Option (List ℕ)
with_text before None = before
with_text before (Some text) = with_end before text

-- The status that stands once these bytes were to be written to the output, and this text of a journal, or this
-- snapshot, if there is one, to its sink. All is written; or the output failed, has a front of its bytes, and the
-- journal's sink has nothing. Or the output has all, and the journal's sink failed and has a front of the text.
pub data HasWrittenOut (status : ℕ) (bytes : List ℕ) (kept : Option (List ℕ)) (out journal_out : SinkState) : ℕ
    → Type 0 where
  whole : out.after ≡ with_end out.before bytes → journal_out.after ≡ with_text journal_out.before kept
      → HasWrittenOut status bytes kept out journal_out status
  out_fault : HaveRisen out.counts → AppendsSome bytes out.before out.after → journal_out.after ≡ journal_out.before
      → HasWrittenOut status bytes kept out journal_out 6
  journal_fault : (text : List ℕ) → kept ≡ Some text → out.after ≡ with_end out.before bytes
      → HaveRisen journal_out.counts → AppendsSome text journal_out.before journal_out.after
      → HasWrittenOut status bytes kept out journal_out 6
