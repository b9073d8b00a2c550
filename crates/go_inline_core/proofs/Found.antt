-- The types of a function, and of a file, are found.
use Rattle.std.proofs.Common.{◌≡◌, ℕ, List, Option, ap, ◌∙◌}
use Rattle.go_tree_nodes.specs.Trees.{FuncTree, FileTree}
use Rattle.go_term_core.specs.decl_core.declared.keys.DeclKey.{DeclKey}
use Rattle.go_term_core.specs.decl_core.TopDecls.{TopDeclTree, top_decls}
use Rattle.go_term_core.specs.declared.settling.kind.Kind.{Kind}
use Rattle.go_typexpr_core.specs.written.Written.{InFile, Meaning}
use Rattle.go_names_core.specs.local_core.declared.Fault.{Fault}
use Rattle.go_names_core.specs.local_core.Binding.{bound}
use Rattle.go_names_core.specs.local_core.Outline.{func_opens, func_closes, func_steps}
use Rattle.go_names_core.specs.local_core.Tables.{IsFuncPlaced}
use Rattle.go_names_core.specs.Body.{AreGiven}
use Rattle.go_inline_core.specs.declared.scoped.Scoped.{Scoped}
use Rattle.go_inline_core.specs.Types.{InlineOf, inline_at}
use Rattle.go_inline_core.specs.Trees.{outline_types, file_types, func_types}
use Rattle.go_inline_core.specs.Inline.{inlines, AreFoundAlike}
use Rattle.go_inline_core.specs.Functions.{inlines_in, inline_note_rules, AreInlines}
use Rattle.go_inline_core.specs.Laws.{TypesAreFound}
use Rattle.go_inline_core.proofs.Spread.{AreSpread, func_begins, file_begins}
use Rattle.go_inline_core.proofs.AtStarts.{found_spread}
use Rattle.go_inline_core.proofs.ByIntervals.{func_all, steps_noted}
use Rattle.go_inline_core.proofs.Outlines.{outline_all, offsets_kept}
use Rattle.go_tree_nodes.specs.Spelling.{IsPlaced}

func_spread : (f : FuncTree) (h : IsFuncPlaced f) → AreSpread h.0 (func_types f) h.1.0
func_spread f h = (func_begins f).rise h.0 h.1.0 h.1.1

file_spread : (f : FileTree) (h : IsPlaced f) → AreSpread 0 (file_types f) h.0
file_spread f h = (file_begins f).rise 0 h.0 h.1

-- what the rules note of a function
pub noted_inlines : (kind : DeclKey → Kind) (f : InFile) (top : Meaning) (beyond : List ℕ → Option Scoped) (func : FuncTree) (types notes : List (ℕ × InlineOf)) (faults : List Fault)
    → AreGiven (inline_note_rules kind f top) beyond func notes faults → types ≡ notes → AreInlines kind f top beyond func types
noted_inlines kind f top beyond func types notes faults given is all table =
    let look = bound beyond all in
    let noted : notes ≡ inlines_in kind f top look (func_types func) =
    (given all table).0 ∙ (steps_noted kind f top beyond all (func_opens func) (func_closes func) (func_steps func) ∙ ap (inlines_in kind f top look) (func_all func)) in
    is ∙ noted

module _ (kind : DeclKey → Kind) (f : InFile) (mean : Meaning) where
  -- listed types are found as they are listed
  pub listed_alike : (ds : List TopDeclTree) (types : List (ℕ × InlineOf)) → types ≡ inlines kind f mean (outline_types ds) → AreFoundAlike types (inlines kind f mean (outline_types ds))
  listed_alike ds types is n = ap (λ l. inline_at l n) is

  -- and an outline lists those of its file
  pub listed_placed : (ds : List TopDeclTree) (types : List (ℕ × InlineOf)) → types ≡ inlines kind f mean (outline_types ds) → (file : FileTree) → ds ≡ top_decls file → types ≡ inlines kind f mean (file_types file)
  listed_placed ds types is file same = is ∙ ap (inlines kind f mean) (ap outline_types same ∙ outline_all file)

pub types_are_found : TypesAreFound
types_are_found = record {
  in_function = λ f h kind file mean t there. found_spread kind file mean (func_types f) h.0 h.1.0 t (func_spread f h) there;
  in_file = λ f h kind file mean t there. found_spread kind file mean (file_types f) 0 h.0 t (file_spread f h) there;
  in_outline = outline_all;
  offsets = offsets_kept;
}
