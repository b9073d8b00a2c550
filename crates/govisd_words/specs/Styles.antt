-- How faults are written, by the words behind options.
use Rattle.std.specs.Prelude.{ℕ, Bool, true, false, List, Option, Some, None, codes, if◌then◌else◌}
use Rattle.std.specs.Str.{bytes_eq}
use Rattle.go_folder_core.specs.declared.orders.Color.{Color}
use Rattle.go_folder_core.specs.declared.orders.Color.TheVariants as color
use Rattle.go_folder_core.specs.declared.orders.Format.{Format}
use Rattle.go_folder_core.specs.declared.orders.Format.TheVariants as format
use Rattle.go_folder_core.specs.declared.orders.Style.{Style}

-- the form that a word names
abbrev pub format_named : List ℕ → Option Format
format_named word =
    if bytes_eq word (codes "text") then Some format.Text
    else (if bytes_eq word (codes "json") then Some format.Json
    else (if bytes_eq word (codes "github") then Some format.Github
    else (if bytes_eq word (codes "sarif") then Some format.Sarif else None)))

-- the form that is told: text where none is, and nothing where what is told names none
abbrev pub format_in : Option (List ℕ) → Option Format
format_in None = Some format.Text
format_in (Some word) = format_named word

-- when there are colours, by a word
abbrev pub color_named : List ℕ → Option Color
color_named word =
    if bytes_eq word (codes "auto") then Some color.Auto
    else (if bytes_eq word (codes "always") then Some color.Always
    else (if bytes_eq word (codes "never") then Some color.Never else None))

-- when there are colours, as it is told: where a terminal reads them, where nothing is
abbrev pub color_in : Option (List ℕ) → Option Color
color_in None = Some color.Auto
color_in (Some word) = color_named word

-- as JSON where that is asked for, and else in a form
abbrev pub style_of : Bool → Bool → Bool → Format → Color → Style
style_of json all source form when = record { format = if json then format.Json else form; all = all; color = when; source = source }

-- as a text of the faults that follow from none
abbrev pub plain_style : Style
plain_style = style_of false false false format.Text color.Auto

-- as JSON
abbrev pub json_style : Style
json_style = style_of true false false format.Text color.Auto
