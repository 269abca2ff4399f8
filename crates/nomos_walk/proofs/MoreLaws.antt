-- What is written of a walk, and what its journal tells, with one passage more.
use Rattle.std.proofs.Common.{◌≡◌, ◌∙◌, ℕ, ◌+◌, List, [], ◌∷◌, ◌++◌, length, Option, Some, None, refl, sym, ap, subst, arith}
use Rattle.std.specs.Prelude.{Bool, true, false}
use Rattle.std.specs.Option.{option_to_list}
use Rattle.std.proofs.lemmas.Grind.{flat_map-append}
use Rattle.std.proofs.lemmas.List.{flat_map_more, length-map}
use Rattle.nomos_ir.specs.Value.{Value}
use Rattle.nomos_types.specs.Acceptance.{Acceptance}
use Rattle.nomos_script.specs.declared.item.Batch.{Batch}
use Rattle.nomos_script.specs.declared.item.ScriptItem.{ScriptItem}
use Rattle.nomos_legal.proofs.LegalLaws.{entries_of-append, first-made, firings_made-append, journal_with, tells-more}
use Rattle.nomos_legal.specs.Leaving.{passage_of}
use Rattle.nomos_legal.specs.Ledger.{LedgerState}
use Rattle.nomos_legal.specs.Legal.{TellsFrom, batch_limit, entries_of, firings_in, firings_made}
use Rattle.nomos_legal.specs.Passage.{IsPassage, Passage}
use Rattle.nomos_legal.specs.World.{WorldState}
use Rattle.nomos_legal.specs.declared.journal.End.{End}
use Rattle.nomos_legal.specs.declared.journal.Entry.{Entry}
use Rattle.nomos_legal.specs.declared.journal.Firing.{Firing}
use Rattle.nomos_journal.specs.JournalText as journal
use Rattle.nomos_journal.specs.Text.{lines_text}
use Rattle.nomos_journal.specs.declared.line.JournalLine.{JournalLine}
use Rattle.nomos_journal.specs.declared.line.JournalLine.TheVariants as line
use Rattle.nomos_journal.specs.Line.{line_text}
use Rattle.nomos_journal.specs.declared.line.Version.TheVariants as version
use Rattle.nomos_report.proofs.PassageLaws.{report-next}
use Rattle.nomos_walk.specs.Coming.{journal_of}
use Rattle.nomos_walk.specs.Papers.{kept_result, kept_where_wanted, papers_of, papers_with, result_with, with_lines}
use Rattle.nomos_walk.specs.WalkState.{WalkState}
use Rattle.nomos_walk.specs.Walks.{walk_counting, walk_of, walk_with, walk_writing}
use Rattle.nomos_walk.specs.Wanted.{entry_result, journal_text_of, result_behind, result_where_wanted, where_wanted}
use Rattle.nomos_walk.specs.declared.papers.WantedTexts.{WantedTexts}

lines_text-append : (unit : ℕ) (ls ms : List JournalLine)
    → lines_text unit (ls ++ ms) ≡ lines_text unit ls ++ lines_text unit ms
lines_text-append unit ls ms = flat_map-append (λ (l : JournalLine). line_text unit l ++ 10 ∷ []) ls ms

-- the text of a journal grows passage by passage
pub text-next : (a : Acceptance) (limit : ℕ) (ps : List Passage) (p : Passage)
    → journal_text_of a limit ps ++ lines_text a.annotations.unit (journal.passage_lines version.Two a p)
    ≡ journal_text_of a limit (ps ++ p ∷ [])
text-next a limit ps p =
    let unit : ℕ = a.annotations.unit in
    sym (lines_text-append unit (journal.journal_lines version.Two a limit ps) (journal.passage_lines version.Two a p))
    ∙ ap (lines_text unit)
    (flat_map_more (journal.passage_lines version.Two a) (line.Head version.Two ∷ line.Steps limit ∷ []) ps p)

-- so does a text where it is wanted
wanted-next : (wanted : Bool) (text more all : List ℕ) → text ++ more ≡ all
    → with_lines (where_wanted wanted text) more ≡ where_wanted wanted all
wanted-next true text more all same = ap Some same
wanted-next false text more all same = refl

-- so does the last result
result-next : (before : Option Value) (ps : List Passage) (p : Passage)
    → entry_result p.last (result_behind before ps) p.entry ≡ result_behind before (ps ++ p ∷ [])
result-next before [] p = refl
result-next before (q ∷ ps) p = result-next (entry_result q.last before q.entry) ps p

kept-next : (wanted : Bool) (before after : Option Value) (p : Passage) → entry_result p.last before p.entry ≡ after
    → result_with p (kept_where_wanted wanted before) ≡ kept_where_wanted wanted after
kept-next true before after p same = ap Some same
kept-next false before after p same = refl

-- the last result is given where it is wanted
pub result-given : (wanted : Bool) (ps : List Passage)
    → kept_result (kept_where_wanted wanted (result_behind None ps)) ≡ result_where_wanted wanted ps
result-given true ps = refl
result-given false ps = refl

papers-next : (a : Acceptance) (limit : ℕ) (wanted : WantedTexts) (ps : List Passage) (p : Passage)
    → papers_with a p (papers_of a limit wanted ps) ≡ papers_of a limit wanted (ps ++ p ∷ [])
papers-next a limit wanted ps p =
    let printed = wanted-next wanted.report _ _ _ (report-next a ps p) in
    let written = wanted-next wanted.text _ _ _ (text-next a limit ps p) in
    let kept = kept-next wanted.result (result_behind None ps) _ p (result-next None ps p) in
    λ i. record { report = printed i; text = written i; result = kept i }

made-next : (ps : List Passage) (p : Passage)
    → firings_made (entries_of ps) + length (firings_in p.entry) ≡ firings_made (entries_of (ps ++ p ∷ []))
made-next ps p =
    let all = ap firings_made (entries_of-append ps (p ∷ [])) in
    let parts = firings_made-append (entries_of ps) (entries_of (p ∷ [])) in
    let one = first-made p [] in
    omega (arith, all, parts, one)

-- a walk goes on by one passage
pub walk-next : (a : Acceptance) (limit : ℕ) (wanted : WantedTexts) (ps : List Passage) (p : Passage)
    → walk_with p (walk_of a limit wanted ps) ≡ walk_of a limit wanted (ps ++ p ∷ [])
walk-next a limit wanted ps p =
    let made = made-next ps p in
    let papers = papers-next a limit wanted ps p in
    λ i. record { accepted = a; limit = limit; made = made i; papers = papers i }

-- what one item more leads to
pub tells-next : {a : Acceptance} {first : LedgerState} {limit : ℕ} {items : List ScriptItem} {entries : List Entry}
    {ps : List Passage} {l : LedgerState} (i : ScriptItem) (p : Passage) (kept : List Entry) (last : LedgerState)
    → TellsFrom a first items (journal_of limit entries) ps l → p.before ≡ l
    → IsPassage a (batch_limit limit (firings_made (entries_of ps))) p → p.item ≡ i
    → entries ++ option_to_list p.entry ≡ kept → p.after ≡ last
    → TellsFrom a first (items ++ i ∷ []) (journal_of limit kept) (ps ++ p ∷ []) last
tells-next {a} {first} {limit} {items} {entries} {ps} i p kept last tells before is item_is kept_is after =
    let here : IsPassage a (batch_limit limit (firings_made entries)) p =
    subst (λ (es : List Entry). IsPassage a (batch_limit limit (firings_made es)) p) tells.entries_are is
    in
    let more = tells-more tells p before here in
    subst (λ (m : LedgerState). TellsFrom a first (items ++ i ∷ []) (journal_of limit kept) (ps ++ p ∷ []) m) after
    (subst (λ (es : List Entry). TellsFrom a first (items ++ i ∷ []) (journal_of limit es) (ps ++ p ∷ []) p.after)
    kept_is
    (subst
    (λ (j : ScriptItem). TellsFrom a first (items ++ j ∷ []) (journal_with (journal_of limit entries) p.entry)
    (ps ++ p ∷ []) p.after) item_is more))

-- ---- a batch

-- so many firings
pub ended-firings : (a : Acceptance) (batch : Batch) (v : WorldState) (e : End)
    → length (firings_in (passage_of a batch v e).entry) ≡ length v.firings
ended-firings a batch v e = length-map v.firings (λ (f : Firing). f.pid)

-- a batch whose lines are written and whose firings are counted has passed
pub walk-finished : (before there after : WalkState) (batch : Batch) (v : WorldState) (e : End)
    → there ≡ walk_writing (passage_of before.accepted batch v e) before
    → after ≡ walk_counting (length v.firings) there
    → after ≡ walk_with (passage_of before.accepted batch v e) before
walk-finished before there after batch v e written counted =
    let p : Passage = passage_of before.accepted batch v e in
    let n : ℕ = length v.firings in
    let made : before.made + n ≡ before.made + length (firings_in p.entry) =
    ap (λ (k : ℕ). before.made + k) (sym (ended-firings before.accepted batch v e))
    in
    counted
    ∙ ap (walk_counting n) written
    ∙ (λ i. record {
      accepted = before.accepted;
      limit = before.limit;
      made = made i;
      papers = papers_with before.accepted p before.papers;
    })
