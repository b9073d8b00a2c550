-- What a table of types has at the first byte of a type is what the type's names make it where they stand.
use Rattle.std.proofs.Common.{◌≡◌, ℕ, List, Some, Contains, refl, sym, ap, ◌∙◌}
use Rattle.std.specs.Prelude.{if◌then◌else◌}
use Rattle.go_tree_nodes.specs.declared.types.TypeName.{TypeName}
use Rattle.go_tree_nodes.specs.Starts.{type_start}
use Rattle.go_tree_nodes.specs.Trees.{TypeTree, FuncTree}
use Rattle.go_term_core.specs.Terms.{NoType}
use Rattle.go_typexpr_core.specs.written.Written as types
use Rattle.go_local_core.specs.Binding.{Local, NameLook, bound}
use Rattle.go_local_core.specs.Tables.{IsFuncPlaced}
use Rattle.go_inline_core.specs.Types.{InlineOf, inline_at}
use Rattle.go_inline_core.specs.Trees.{func_types}
use Rattle.go_inline_core.specs.Inline.{inline_of, inlines}
use Rattle.go_inline_core.specs.Functions.{looked_up_ident}
use Rattle.go_inline_core.specs.Hiding.{meaning_beside}
use Rattle.go_inline_core.proofs.Found.{types_are_found}
use Rattle.go_inline_core.proofs.Tellings.{any_table_tells}
use Rattle.go_env_core.specs.declared.meaning.Meaning.{Meaning}
use Rattle.go_env_core.specs.Looks.{inline_type, inline_faults, inline_rules}
use Rattle.go_body_core.specs.Notes.{NoteOf}
use Rattle.go_body_core.specs.function.Types.{named_where}
use Rattle.go_body_core.specs.function.Stands.{FileStand, kinds_in_scene, types_where, outer_meanings, outer_look}
use Rattle.go_body_core.specs.function.Functions.{func_rules, AreFuncDeclarations}
use Rattle.go_body_core.specs.function.Laws.{AreFuncTypes, MakeSame, TypesAreSeenAlike}
use Rattle.go_body_core.proofs.FunctionRegions.{hidden, none_outside}

-- a table has at the first byte of a type what it is by these names
abbrev pub HasAt : FileStand → List (ℕ × InlineOf) → types.Meaning → TypeTree → Type 0
HasAt st types mean t = inline_at types (type_start t) ≡ Some (inline_of (kinds_in_scene st.scene) st.file mean t)

abbrev pub here_named : FileStand → List (Local Meaning) → types.Meaning
here_named st all = named_where (bound (outer_meanings st) all) st.top

module _ (st : FileStand) (types : List (ℕ × InlineOf)) (f : FuncTree) (placed : IsFuncPlaced f) (are : AreFuncTypes st f types) (all : List (Local Meaning)) (table : AreFuncDeclarations st f all) where
  named_same : (n : TypeName) → meaning_beside all st.top n ≡ here_named st all n
  named_same n =
      let x = looked_up_ident n in
      ap (λ b. if b then NoType else st.top n)
      (sym (hidden (func_rules st f) (λ look firsts p k. refl) (outer_meanings st) all f table x.name x.span.start (none_outside st.scene.blocks st.file.file x.name)))

  told : types ≡ inlines (kinds_in_scene st.scene) st.file (here_named st all) (func_types f)
  told =
      any_table_tells {X = Meaning} {N = NoteOf} (func_rules st f) (outer_meanings st) all (kinds_in_scene st.scene) st.file st.top st.scene.blocks st.file.file f types placed table are
      ∙ ap (λ mean. inlines (kinds_in_scene st.scene) st.file mean (func_types f)) (λ j n. named_same n j)

  pub has_at : (t : TypeTree) → Contains (func_types f) t → HasAt st types (here_named st all) t
  has_at t there =
      ap (λ l. inline_at l (type_start t)) told ∙ types_are_found.in_function f placed (kinds_in_scene st.scene) st.file (here_named st all) t there

pub outside : (st : FileStand) (n : TypeName) → named_where (outer_look st) st.top n ≡ st.top n
outside st n = ap (λ b. if b then NoType else st.top n) (none_outside st.scene.blocks st.file.file (looked_up_ident n).name)

same_at : (st : FileStand) (types : List (ℕ × InlineOf)) (look : NameLook Meaning) (t : TypeTree) → HasAt st types (named_where look st.top) t → MakeSame (types_where st look) (inline_rules st.scene types) t
same_at st types look t h named = (ap (inline_type st.scene.types) (sym h), ap inline_faults (sym h))

pub types_are_seen_alike : TypesAreSeenAlike
types_are_seen_alike = record {
  in_function = λ st types f placed are all table t there. same_at st types (bound (outer_meanings st) all) t (has_at st types f placed are all table t there);
  in_file = λ st types f placed are t there.
      same_at st types (outer_look st) t
      (ap (λ l. inline_at l (type_start t)) are
      ∙ (types_are_found.in_file f placed (kinds_in_scene st.scene) st.file st.top t there
      ∙ ap (λ mean. Some (inline_of (kinds_in_scene st.scene) st.file mean t)) (λ j n. sym (outside st n) j)));
  outside = outside;
}
