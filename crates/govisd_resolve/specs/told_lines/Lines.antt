-- The lines that tell what stands in a file.
--
-- docs/RULES.md, "Output".
use Rattle.std.specs.Prelude.{ℕ, List, [], ◌∷◌, ◌++◌, flat_map, codes, decimal}
use Rattle.std.specs.Option.{unwrap_or}
use Rattle.go_path_core.specs.text_core.Rules.{rule_number}
use Rattle.go_universe_core.specs.Universe.{spelling_of}
use Rattle.go_tree_nodes.specs.Trees.{FileTree}
use Rattle.go_parse_core.specs.tree_core.declared.occurrence.Occ.{Occ}
use Rattle.go_parse_core.specs.tree_core.Occurrences.{file_occs, role_word}
use Rattle.go_term_core.specs.decl_core.declared.places.Place.{Place}
use Rattle.go_term_core.specs.decl_core.Outer.{places_of}
use Rattle.go_term_core.specs.decl_core.Table.{offset_of}
use Rattle.go_term_core.specs.declared.term.MemberPlace.{MemberPlace}
use Rattle.go_term_core.specs.declared.term.MemberPlace.TheVariants as places
use Rattle.go_handle_core.specs.Declarations.{Declaration, Universe, OfError, Package, InFile}
use Rattle.go_expr_core.specs.denote_core.declared.things.Outcome.{Outcome}
use Rattle.go_expr_core.specs.denote_core.declared.things.Outcome.TheVariants as outcomes
use Rattle.go_expr_core.specs.declared.things.Use.{Use}
use Rattle.go_expr_core.specs.local_core.declared.Fault.{Fault}

-- an identifier of a file of the package of a path, by its offset
abbrev pub place_text : List ℕ → List ℕ → ℕ → List ℕ
place_text path name offset = path ++ (codes "/" ++ (name ++ (codes ":" ++ decimal offset)))

-- the offset of an identifier of a file that declares these outside functions: by its number there, where the file has that number, or as it is
abbrev pub offset_in : List Place → MemberPlace → ℕ
offset_in ps (places.Declared d) = unwrap_or (offset_of ps d.number) 0
offset_in ps (places.Local l) = l.offset

-- a declaration, where the file has this name and declares these identifiers outside functions
abbrev pub declaration_text : List ℕ → List Place → Declaration → List ℕ
declaration_text name ps (Universe predeclared) = codes "universe." ++ spelling_of predeclared
declaration_text name ps OfError = codes "universe.error.Error"
declaration_text name ps (Package path) = codes "package " ++ path
declaration_text name ps (InFile path place) = place_text path name (offset_in ps place)

-- what an occurrence has: its declaration, or the number of the rule that it breaks
abbrev pub answer_text : List ℕ → List Place → Outcome Declaration (List ℕ) → List ℕ
answer_text name ps (outcomes.Declared d) = declaration_text name ps d
answer_text name ps (outcomes.Selected d path) = declaration_text name ps d
answer_text name ps (outcomes.Refused rule) = rule_number rule

-- OFFSET ROLE TEXT ANSWER
abbrev pub occurrence_line : List ℕ → List Place → Occ → Use Declaration (List ℕ) → List ℕ
occurrence_line name ps o u =
    decimal o.span.start ++ codes " " ++ role_word o.role ++ codes " " ++ o.spelling ++ codes " " ++ answer_text name ps u.outcome ++ codes "\n"

-- of each occurrence, with what it has
abbrev pub occurrence_lines : List ℕ → List Place → List Occ → List (Use Declaration (List ℕ)) → List ℕ
occurrence_lines name ps [] us = []
occurrence_lines name ps (o ∷ os) [] = []
occurrence_lines name ps (o ∷ os) (u ∷ us) = occurrence_line name ps o u ++ occurrence_lines name ps os us

-- fault OFFSET RULE
abbrev pub fault_line : Fault → List ℕ
fault_line f = codes "fault " ++ decimal f.offset ++ codes " " ++ rule_number f.rule ++ codes "\n"

-- all lines of the file of a name and a tree: what its occurrences have, and then its faults
abbrev pub file_lines : List ℕ → FileTree → List (Use Declaration (List ℕ)) → List Fault → List ℕ
file_lines name f us fs = occurrence_lines name (places_of f) (file_occs f) us ++ flat_map fault_line fs
