-- What `bench` prints.
use Rattle.std.specs.Prelude.{ℕ, List, [], ◌++◌, Option, Some, None, codes, decimal}
use Rattle.nomos_base.specs.Gas.{gas_text}
use Rattle.nomos_ir.specs.Value.{Value}
use Rattle.nomos_printing.specs.ValueTexts.{value_text}
use Rattle.nomos_words.specs.declared.summary.Figures.{Figures}

-- the best bid, if there is one
abbrev pub best_line : Option Value → List ℕ
best_line None = []
best_line (Some value) = codes "best " ++ value_text value ++ codes "\n"

-- a word, a number and a line feed
abbrev pub counted_line : List ℕ → ℕ → List ℕ
counted_line word n = word ++ decimal n ++ codes "\n"

-- the load, the entries of the journal, the firings of what was committed, the gas spent, and the best bid
abbrev pub summary_text : Figures → Option Value → List ℕ
summary_text figures best =
    codes "bench " ++ decimal figures.seed ++ counted_line (codes " ") figures.bidders
    ++ counted_line (codes "entries ") figures.entries
    ++ counted_line (codes "firings ") figures.firings
    ++ (codes "spent " ++ gas_text figures.spent figures.unit ++ codes "\n")
    ++ best_line best
