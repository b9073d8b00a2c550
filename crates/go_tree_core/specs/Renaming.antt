-- Which occurrence is given another spelling, where it begins, and what the file then writes.
use Rattle.std.specs.Prelude.{◌≡◌, ℕ, ◌<◌, true, nat_eq, List, length, slice_get, map, HoldsAt, Option, Some, None, if◌then◌else◌}
use Rattle.go_tree_nodes.specs.text_core.declared.span.Span.{Span}
use Rattle.go_tree_nodes.specs.Terminals.{Terminal, TerminalKind, Spelled, terminal}
use Rattle.go_tree_nodes.specs.Trees.{FileTree}
use Rattle.go_tree_nodes.specs.Spelling.{spell_file}
use Rattle.go_tree_core.specs.copies.Respelled.{respelled_file}
use Rattle.go_tree_core.specs.declared.occurrence.Occ.{Occ}
use Rattle.go_tree_core.specs.Occurrences.{is_identifier}

-- the occurrence of this number is an identifier: a name, a selector, a qualifier or a key, and no import's string and no call
abbrev pub IsNameAt : List Occ → ℕ → Type 0
IsNameAt os i = (i < length os) × HoldsAt (λ o. is_identifier o.role ≡ true) os i

-- the offset at which the occurrence of a number begins

abbrev pub start_of_some : Option Occ → ℕ
start_of_some None = 0
start_of_some (Some o) = o.span.start

abbrev pub occ_start : List Occ → ℕ → ℕ
occ_start os i = start_of_some (slice_get os i)

-- a terminal, with another spelling where it is a name that begins at an offset

abbrev pub respelled_kind : ℕ → List ℕ → Span → TerminalKind → TerminalKind
respelled_kind start name s (Spelled old) = Spelled (if nat_eq s.start start then name else old)
respelled_kind start name s kind = kind

abbrev pub respelled_terminal : ℕ → List ℕ → Terminal → Terminal
respelled_terminal start name t = terminal (respelled_kind start name t.span t.kind) t.span

-- the file with another spelling of an identifier writes what it wrote, but for that spelling
abbrev pub RespelledFilesWriteTheSame : Type 0
RespelledFilesWriteTheSame = (start : ℕ) (name : List ℕ) (f : FileTree) → spell_file (respelled_file start name f) ≡ map (respelled_terminal start name) (spell_file f)
