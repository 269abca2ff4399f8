-- Which lines are of a form that may stand at one place.
use Rattle.std.proofs.Common.{◌≡◌, ◌≢◌, ◌∙◌, ℕ, List, ◌∷◌, Some, refl, sym, ap}
use Rattle.std.proofs.lemmas.Option.{none-some, same_Some}
use Rattle.nomos_script.specs.declared.item.ScriptItem.{ScriptItem}
use Rattle.nomos_script.specs.declared.item.ScriptItem.TheVariants as item
use Rattle.nomos_legal.specs.Ledger.{LedgerState}
use Rattle.nomos_legal.specs.Legal.{IsLimit}
use Rattle.nomos_legal.specs.declared.journal.End.{End}
use Rattle.nomos_journal.specs.declared.line.JournalLine.{JournalLine}
use Rattle.nomos_journal.specs.declared.line.JournalLine.TheVariants as line
use Rattle.nomos_journal.specs.declared.line.Version.{Version}
use Rattle.nomos_replay.specs.Answers.{WantsLine}
use Rattle.nomos_replay.specs.Stand.{MayStand, Stand, at_head, at_steps, entry_at}
use Rattle.nomos_replay.specs.Told.{Told}
use Rattle.nomos_replay.specs.Stand as stand

pub head-form : (l : JournalLine) → ((v : Version) → l ≢ line.Head v) → ¬ MayStand at_head l
head-form l never (stand.head v) = never v refl

pub steps-form : (w : Version) (l : JournalLine) → ((n : ℕ) → IsLimit n → l ≢ line.Steps n) → ¬ MayStand (at_steps w) l
steps-form w l never (stand.steps v limit is) = never limit is refl

-- an item with an entry wants a line
pub wants-item : (v : Version) (told : Told) (i : ScriptItem) (items : List ScriptItem) (at : ℕ) (text : List ℕ)
    → entry_at i ≡ Some at → WantsLine (stand.before v told (i ∷ items)) text
wants-item v told (item.Deposit n name units) items at text is = tt
wants-item v told (item.Batch batch) items at text is = tt
wants-item v told (item.Show n) items at text is = absurd (none-some at is)

pub item-form : (v : Version) (told : Told) (i : ScriptItem) (items : List ScriptItem) (at : ℕ) (l : JournalLine)
    → entry_at i ≡ Some at → l ≢ line.Line at → ¬ MayStand (stand.before v told (i ∷ items)) l
item-form v told i items at l is differs (stand.item_line w told2 i2 items2 n named) =
    differs (ap (λ (k : ℕ). line.Line k) (same_Some n at (sym named ∙ is)))

pub owes-form : (v : Version) (told : Told) (i : ScriptItem) (at : ℕ) (own : End) (after : LedgerState)
    (items : List ScriptItem) (l : JournalLine) → ((e : End) → l ≢ line.End e)
    → ¬ MayStand (stand.owes v told i at own after items) l
owes-form v told i at own after items l never (stand.own_end w told2 i2 n own2 after2 items2 kept) = never kept refl
