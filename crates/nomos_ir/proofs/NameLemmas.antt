-- Which bytes are names.
use Rattle.std.proofs.Common.{◌≡◌, ◌≤◌, ℕ, Bool, true, false, List, length, slice_get, Some, ap, ◌∙◌}
use Rattle.std.specs.List.{list_any, list_all}
use Rattle.std.specs.Str.{bytes_eq}
use Rattle.std.proofs.lemmas.Slice.Eq.{bytes_eq-Decides}
use Rattle.std.proofs.lemmas.List.Sums.{AllPass-from_list_all}
use Rattle.std.proofs.lemmas.Option.{slice_get-get_or}
use Rattle.std.proofs.lemmas.Map.Keys.{any_passes_from_place}
use Rattle.nomos_ir.specs.declared.word.Word.TheVariants as word
use Rattle.nomos_ir.specs.declared.word.TheConstants.Word.{ALL}
use Rattle.nomos_ir.specs.Word.{text_of}
use Rattle.nomos_ir.specs.Name.{IsReserved, IsShortName, BeginsWithLetter, is_word_byte}
use Rattle.nomos_ir.proofs.WordTable.{place_of, place_of-below, word_at-place_of}

-- whether a reserved word has these bytes
abbrev pub is_reserved : List ℕ → Bool
is_reserved bytes = list_any (λ w. bytes_eq (text_of w) bytes) ALL

-- bytes of which the test is false are free
pub not_reserved : (bytes : List ℕ) → is_reserved bytes ≡ false → ¬ IsReserved bytes
not_reserved bytes none (w, same) =
    let there : slice_get ALL (place_of w) ≡ Some w =
    slice_get-get_or ALL (place_of w) word.Cost (place_of-below w) ∙ ap Some (word_at-place_of w) in
    let found : is_reserved bytes ≡ true =
    any_passes_from_place (λ v. bytes_eq (text_of v) bytes) ALL (place_of w) w there
    ((bytes_eq-Decides (text_of w) bytes).1 same) in
    cc

-- a word that passes the tests is a name
pub short_name : (bytes : List ℕ) → BeginsWithLetter bytes → list_all is_word_byte bytes ≡ true
    → is_reserved bytes ≡ false → length bytes ≤ 64 → IsShortName bytes
short_name bytes first word_bytes free short =
    record {
      name =
          record {
            word = record { first = first; each = AllPass-from_list_all is_word_byte bytes word_bytes };
            free = not_reserved bytes free;
          };
      short = short;
    }
