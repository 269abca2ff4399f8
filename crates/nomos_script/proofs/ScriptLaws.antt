-- What each script keeps: items that are read keep it, and so do no items, the first of items that keep it, and the
-- rest.
use Rattle.std.proofs.Common.{◌≡◌, ℕ, ◌+◌, List, [], ◌∷◌, ◌++◌, arith}
use Rattle.std.proofs.lemmas.List.Elements.{All-nil}
use Rattle.nomos_script.specs.ScriptReading.{ReadsAs}
use Rattle.nomos_script.specs.Size.{entry_count, start_count}
use Rattle.nomos_script.specs.WrittenItems.{IsScript, IsWrittenItem}
use Rattle.nomos_script.specs.declared.item.ScriptItem.{ScriptItem}
use Rattle.nomos_script.specs.declared.item.ScriptItem.TheVariants as item
use Rattle.nomos_script.proofs.PartLaws.{all-first, all-last}
use Rattle.nomos_script.proofs.SizeLemmas.{reads_within_size}
use Rattle.nomos_script.proofs.WrittenLaws.{reads-written}

-- the items of a text that reads are those of a script
pub reads-script : (text : List ℕ) (items : List ScriptItem) → ReadsAs text items → IsScript items
reads-script text items h = record { size = reads_within_size text items h; written = reads-written text items h }

-- lists that are put together are counted together
pub entry_count-append : (items others : List ScriptItem)
    → entry_count (items ++ others) ≡ entry_count items + entry_count others
entry_count-append [] others = omega arith
entry_count-append (item.Deposit line name units ∷ items) others = omega (arith, entry_count-append items others)
entry_count-append (item.Batch batch ∷ items) others = omega (arith, entry_count-append items others)
entry_count-append (item.Show line ∷ items) others = omega (arith, entry_count-append items others)

pub start_count-append : (items others : List ScriptItem)
    → start_count (items ++ others) ≡ start_count items + start_count others
start_count-append [] others = omega arith
start_count-append (item.Deposit line name units ∷ items) others = omega (arith, start_count-append items others)
start_count-append (item.Batch batch ∷ items) others = omega (arith, start_count-append items others)
start_count-append (item.Show line ∷ items) others = omega (arith, start_count-append items others)

-- no items are those of a script
pub script-none : IsScript []
script-none = record {
  size = record { entries = omega arith; starts = omega arith };
  written = All-nil IsWrittenItem;
}

-- the first items of a script are those of a script
pub script-first : (items others : List ScriptItem) → IsScript (items ++ others) → IsScript items
script-first items others h = record {
  size = record {
    entries = omega (arith, h.size.entries, entry_count-append items others);
    starts = omega (arith, h.size.starts, start_count-append items others);
  };
  written = all-first IsWrittenItem items others h.written;
}

-- and so is the rest
pub script-rest : (items others : List ScriptItem) → IsScript (items ++ others) → IsScript others
script-rest items others h = record {
  size = record {
    entries = omega (arith, h.size.entries, entry_count-append items others);
    starts = omega (arith, h.size.starts, start_count-append items others);
  };
  written = all-last IsWrittenItem items others h.written;
}
