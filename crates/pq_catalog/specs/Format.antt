-- What stands before the text in a definition's pair: its format and its mark.
use Rattle.std.specs.Prelude.{ℕ, ◌==◌, Bool, false, List, ◌∷◌, length, drop, Option, Some, None, option_map, if◌then◌else◌}
use Rattle.std.specs.Str.{is_utf8}
use Rattle.pq_builds.specs.declared.mark.TheConstants.{READY, BUILDING}
use Rattle.pq_schema.specs.declared.made.Definition.{Definition}
use Rattle.pq_schema.specs.declared.made.Definition.TheVariants.{OfTable, OfQuery, OfColumn, OfCounter}
use Rattle.pq_schema.specs.Schema.{Schema, definition_at}
use Rattle.pq_catalog.specs.declared.format.Mark.{Mark}
use Rattle.pq_catalog.specs.declared.format.Mark.TheVariants.{Ready, Building}

-- the format of a definition's pair, by its kind
abbrev pub format_of : Definition → ℕ
format_of (OfTable table columns made) = 1
format_of (OfQuery query made) = 1
format_of (OfColumn table col) = 2
format_of (OfCounter counter) = 2

abbrev pub last_definition : Schema → Definition
last_definition schema = definition_at schema (length schema.definitions)

-- behind the format the mark that the definition is ready, or that its index is being filled
abbrev pub mark_of : List ℕ → Option Mark
mark_of (format ∷ mark ∷ text) =
    if mark == READY then Some Ready else if mark == BUILDING then Some Building else None
mark_of _ = None

-- the mark, and behind it a text
abbrev pub marked_text : List ℕ → Option (Mark × List ℕ)
marked_text value = if is_utf8 (drop 2 value) then option_map (λ mark. (mark, drop 2 value)) (mark_of value) else None

-- the format is that of the last definition
abbrev pub has_format : List ℕ → Schema → Bool
has_format (format ∷ rest) schema = format == format_of (last_definition schema)
has_format _ schema = false
