-- Laws of the occurrences of a file: which names of the file they are, and that the file writes them.
use Rattle.std.specs.Prelude.{◌≡◌, ℕ, List, [], ◌∷◌, Option, Some, None, if◌then◌else◌}
use Rattle.std.specs.List.{filter_map}
use Rattle.go_tree_nodes.specs.text_core.declared.span.Span.{Span}
use Rattle.go_tree_nodes.specs.token_core.declared.kind.Operator.TheVariants as operator
use Rattle.go_tree_nodes.specs.declared.names.Ident.{Ident}
use Rattle.go_tree_nodes.specs.declared.names.TextLiteral.{TextLiteral}
use Rattle.go_tree_nodes.specs.Terminals.{Terminal, TerminalKind, Spelled, Quoted, Mark}
use Rattle.go_tree_nodes.specs.Trees.{FileTree}
use Rattle.go_tree_nodes.specs.Spelling.{spell_file}
use Rattle.go_tree_core.specs.declared.occurrence.Role.{Role}
use Rattle.go_tree_core.specs.declared.occurrence.Role.TheVariants as role
use Rattle.go_tree_core.specs.declared.occurrence.Occ.{Occ}
use Rattle.go_tree_core.specs.Occurrences.{is_identifier, file_occs}
use Rattle.go_tree_core.specs.Names.{declared_names, blank_targets, file_calls, import_strings}

-- the names among terminals
abbrev pub terminal_name : TerminalKind → Span → Option Ident
terminal_name (Spelled name) s = Some (record { name = name; span = s })
terminal_name _ s = None

abbrev pub written_names : List Terminal → List Ident
written_names ts = filter_map (λ t. terminal_name t.kind t.span) ts

-- the identifiers, the calls and the imports among occurrences
abbrev pub used_name : Occ → Option Ident
used_name o = if is_identifier o.role then Some (record { name = o.spelling; span = o.span }) else None

abbrev pub used_names : List Occ → List Ident
used_names os = filter_map used_name os

abbrev pub call_of : Role → Span → Option Span
call_of role.Call s = Some s
call_of _ s = None

abbrev pub used_calls : List Occ → List Span
used_calls os = filter_map (λ o. call_of o.role o.span) os

abbrev pub string_of : Role → List ℕ → Span → Option TextLiteral
string_of role.Import spelled s = Some (record { spelled = spelled; span = s })
string_of _ spelled s = None

abbrev pub used_imports : List Occ → List TextLiteral
used_imports os = filter_map (λ o. string_of o.role o.spelling o.span) os

-- three lists, each in its order, are together the fourth
pub data Interleave {A : Type 0} : List A → List A → List A → List A → Type 0 where
  Done : Interleave [] [] [] []
  First : {x : A} {xs ys zs all : List A} → Interleave xs ys zs all → Interleave (x ∷ xs) ys zs (x ∷ all)
  Second : {y : A} {xs ys zs all : List A} → Interleave xs ys zs all → Interleave xs (y ∷ ys) zs (y ∷ all)
  Third : {z : A} {xs ys zs all : List A} → Interleave xs ys zs all → Interleave xs ys (z ∷ zs) (z ∷ all)

-- each name that a file writes is one of these, once: an identifier among the occurrences, a name that is declared, a blank target
abbrev pub NamesAreUsedOrDeclared : Type 0
NamesAreUsedOrDeclared = (f : FileTree) → Interleave (used_names (file_occs f)) (declared_names f) (blank_targets f) (written_names (spell_file f))

-- the calls and the imports among the occurrences are those of the file
abbrev pub CallsAreOccurrences : Type 0
CallsAreOccurrences = (f : FileTree) → used_calls (file_occs f) ≡ file_calls f

abbrev pub ImportsAreOccurrences : Type 0
ImportsAreOccurrences = (f : FileTree) → used_imports (file_occs f) ≡ import_strings f.imports

-- how an occurrence is written: an import's string and an identifier as they are spelled, a call as its opening parenthesis
abbrev pub IsKindOf : Role → List ℕ → TerminalKind → Type 0
IsKindOf role.Import spelling kind = kind ≡ Quoted spelling
IsKindOf role.Call spelling kind = (spelling ≡ 40 ∷ []) × (kind ≡ Mark operator.OpenParen)
IsKindOf _ spelling kind = kind ≡ Spelled spelling

abbrev pub IsWritten : Occ → Terminal → Type 0
IsWritten o t = (t.span ≡ o.span) × IsKindOf o.role o.spelling t.kind

-- occurrences are terminals, each another one, in this order
pub data AreWritten : List Occ → List Terminal → Type 0 where
  NoneLeft : AreWritten [] []
  Passed : {t : Terminal} {os : List Occ} {ts : List Terminal} → AreWritten os ts → AreWritten os (t ∷ ts)
  Written : {o : Occ} {t : Terminal} {os : List Occ} {ts : List Terminal} → IsWritten o t → AreWritten os ts → AreWritten (o ∷ os) (t ∷ ts)

-- each occurrence of a file is a terminal that the file writes
abbrev pub OccurrencesAreWritten : Type 0
OccurrencesAreWritten = (f : FileTree) → AreWritten (file_occs f) (spell_file f)
