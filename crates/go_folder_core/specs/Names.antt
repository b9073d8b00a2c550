-- The names of source files and of folders.
use Rattle.std.specs.Prelude.{ℕ, Bool, false, ◌==◌, ◌&&◌, ◌||◌, not, List, [], ◌∷◌, length, nat_le, nat_eq, codes, if◌then◌else◌}
use Rattle.std.specs.List.{list_all, ends_with}
use Rattle.std.specs.Char.{is_ascii_alphanumeric}
use Rattle.std.specs.Str.{bytes_eq}
use Rattle.go_folder_core.specs.declared.names.FileKind.{FileKind}
use Rattle.go_folder_core.specs.declared.names.FileKind.TheVariants.{Other, Source, BadName}

-- it begins with a dot or an underscore
abbrev pub begins_hidden : List ℕ → Bool
begins_hidden [] = false
begins_hidden (b ∷ bs) = (b == 46) || (b == 95)

-- the `go` command takes it for a source file of a package
abbrev pub is_source : List ℕ → Bool
is_source name = not (begins_hidden name) && (ends_with nat_eq name (codes ".go") && not (ends_with nat_eq name (codes "_test.go")))

-- a letter, a digit, `_`, `-` or `.`
abbrev pub name_byte : ℕ → Bool
name_byte b = is_ascii_alphanumeric b || ((b == 95) || ((b == 45) || (b == 46)))

-- at most 64 bytes, each of those
abbrev pub is_good_name : List ℕ → Bool
is_good_name name = nat_le (length name) 64 && list_all name_byte name

abbrev pub kind_of_file : List ℕ → FileKind
kind_of_file name = if is_source name then (if is_good_name name then Source else BadName) else Other

-- a folder that is passed over
abbrev pub passed_over : List ℕ → Bool
passed_over name = begins_hidden name || (bytes_eq name (codes "testdata") || bytes_eq name (codes "vendor"))
