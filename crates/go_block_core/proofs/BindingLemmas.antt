-- The bindings of what a program keeps in lists.
use Rattle.std.proofs.Common.{◌≡◌, ℕ, List, [], ◌∷◌, ◌++◌, map, refl, ap, sym, ◌∙◌}
use Rattle.std.specs.List.{flat_map}
use Rattle.std.proofs.lemmas.List.{map-append}
use Rattle.go_block_core.specs.declared.binding.BoundName.{BoundName}
use Rattle.go_block_core.specs.declared.exports.NamedDecl.{NamedDecl}
use Rattle.go_block_core.specs.declared.imports.NamedImport.{NamedImport}
use Rattle.go_block_core.specs.Exports.{name_and_decl}
use Rattle.go_block_core.specs.Bindings.{Bound, exported_bound, import_bound, file_bound}
use Rattle.go_block_core.specs.mirrors.Shown.{bound_shown}

pub imports_list : (is : List NamedImport) → file_bound is ≡ flat_map import_bound is
imports_list [] = refl
imports_list (i ∷ is) = ap (λ bs. import_bound i ++ bs) (imports_list is)

-- a name that a package shows
abbrev pub named_bound_at : ℕ → List ℕ → NamedDecl → List Bound
named_bound_at at path n = exported_bound at path (name_and_decl n) ∷ []

pub exported_list : (at : ℕ) (path : List ℕ) (ns : List NamedDecl) → map (exported_bound at path) (map name_and_decl ns) ≡ flat_map (named_bound_at at path) ns
exported_list at path [] = refl
exported_list at path (n ∷ ns) = ap (λ bs. exported_bound at path (name_and_decl n) ∷ bs) (exported_list at path ns)

-- one binding more
pub shown_more : (old new : List BoundName) (b : BoundName) (x : Bound) → new ≡ old ++ b ∷ [] → bound_shown b ≡ x → map bound_shown new ≡ map bound_shown old ++ x ∷ []
shown_more old new b x e is = ap (map bound_shown) e ∙ (map-append bound_shown old (b ∷ []) ∙ ap (λ y. map bound_shown old ++ y ∷ []) is)
