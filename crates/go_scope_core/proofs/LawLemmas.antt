-- The laws of what names denote.
use Rattle.std.proofs.Common.{◌≡◌, ℕ, List, Option, Some, None, refl, sym, ap, ◌∙◌}
use Rattle.std.specs.Prelude.{is_some, option_map, Any}
use Rattle.std.proofs.lemmas.Bool.{true≢false}
use Rattle.std.proofs.lemmas.List.Elements.{All-contains}
use Rattle.go_block_core.specs.Blocks.{file_binding}
use Rattle.go_block_core.proofs.HoldingLaws.{never_hidden}
use Rattle.go_block_core.specs.scope_stack.declared.DeclId.{DeclId}
use Rattle.go_block_core.specs.scope_stack.Blocks.{in_block, found_in, NoneHas}
use Rattle.go_block_core.specs.declared.binding.Binding.{Binding}
use Rattle.go_block_core.specs.decl_core.declared.keys.DeclRef.{DeclRef}
use Rattle.go_universe_core.specs.declared.Predeclared.{Predeclared}
use Rattle.go_universe_core.specs.Universe.{spelling_of, found}
use Rattle.go_universe_core.proofs.Spellings.{each_is_found}
use Rattle.go_scope_core.specs.Models.{ScopesModel}
use Rattle.go_scope_core.specs.Scopes.{Denoted, Universe, inside_universe, scope_blocks}
use Rattle.go_scope_core.specs.Laws.{DenotesInnermost, DenotesOne, DenotesLocal, BlockHas, LocalHides, PackageNeverHidden, FileInside, UniverseOutermost, denotes}
use Rattle.go_block_core.specs.scope_stack.Innermost.{found_innermost, innermost_found, found_none, none_found}
use Rattle.go_scope_core.proofs.Lookups.{inner_parts, by_parts, in_inside, by_inside, in_scope}

pub denotes_innermost : DenotesInnermost
denotes_innermost s name d = (found_innermost (scope_blocks s) name d, innermost_found (scope_blocks s) name d)

pub denotes_one : DenotesOne
denotes_one s name d e at_d at_e =
    let same : Some d ≡ Some e = sym (innermost_found (scope_blocks s) name d at_d) ∙ innermost_found (scope_blocks s) name e at_e in
    cc

pub local_hides : LocalHides
local_hides s name h = by (found_in s.open_blocks name) refl
  where
    by : (o : Option DeclId) → found_in s.open_blocks name ≡ o → DenotesLocal s name
    by None is =
        let none = All-contains (λ block. in_block block name ≡ None) s.open_blocks h.1 (found_none s.open_blocks name is) (h.0, h.2, h.3) in
        absurd (true≢false (sym h.4 ∙ ap is_some none))
    by (Some id) is = (id, found_innermost s.open_blocks name id is, in_scope s name ∙ ap (λ o. by_parts o (file_binding s.blocks s.file name) (in_block s.blocks.names name) (found name)) is)

pub package_never_hidden : PackageNeverHidden
package_never_hidden s name d none h =
    in_scope s name
    ∙ (ap (λ o. by_parts o (file_binding s.blocks s.file name) (in_block s.blocks.names name) (found name)) (none_found s.open_blocks name none)
    ∙ (ap (λ o. by_parts None o (in_block s.blocks.names name) (found name)) (never_hidden s.blocks s.file name d h) ∙ ap (λ o. by_parts None None o (found name)) h))

pub file_inside : FileInside
file_inside s name b none h =
    in_scope s name
    ∙ (ap (λ o. by_parts o (file_binding s.blocks s.file name) (in_block s.blocks.names name) (found name)) (none_found s.open_blocks name none)
    ∙ ap (λ o. by_parts None o (in_block s.blocks.names name) (found name)) h)

-- a predeclared name is what no part inside has
only_predeclared : (l : Option DeclId) (f : Option Binding) (d : Option DeclRef) (u : Option Predeclared) (p : Predeclared) → by_parts l f d u ≡ Some (Universe p) → (inner_parts l f d ≡ None) × (u ≡ Some p)
only_predeclared (Some l) f d u p e = cc
only_predeclared None (Some f) d u p e = cc
only_predeclared None None (Some d) u p e = cc
only_predeclared None None None (Some q) p e = (refl, cc)
only_predeclared None None None None p e = cc

pub universe_outermost : UniverseOutermost
universe_outermost = record {
  denotes_predeclared = λ s name p. (to s name p, from s name p);
  is_hidden = λ s name h. hidden s name h (found_in (inside_universe s) name) refl;
}
  where
    to : (s : ScopesModel) (name : List ℕ) (p : Predeclared) → denotes s name ≡ Some (Universe p) → NoneHas (inside_universe s) name × (name ≡ spelling_of p)
    to s name p h =
        let parts = only_predeclared (found_in s.open_blocks name) (file_binding s.blocks s.file name) (in_block s.blocks.names name) (found name) p (sym (in_scope s name) ∙ h) in
        (found_none (inside_universe s) name (in_inside s name ∙ parts.0), (each_is_found name p).0 parts.1)

    from : (s : ScopesModel) (name : List ℕ) (p : Predeclared) → NoneHas (inside_universe s) name × (name ≡ spelling_of p) → denotes s name ≡ Some (Universe p)
    from s name p h = by_inside s name None (none_found (inside_universe s) name h.0) ∙ ap (option_map Universe) ((each_is_found name p).1 h.1)

    hidden : (s : ScopesModel) (name : List ℕ) → Any (BlockHas name) (inside_universe s) → (o : Option Denoted) → found_in (inside_universe s) name ≡ o → denotes s name ≡ found_in (inside_universe s) name
    hidden s name h None is =
        let none = All-contains (λ block. in_block block name ≡ None) (inside_universe s) h.1 (found_none (inside_universe s) name is) (h.0, h.2, h.3) in
        absurd (true≢false (sym h.4 ∙ ap is_some none))
    hidden s name h (Some d) is = by_inside s name (Some d) is ∙ sym is
