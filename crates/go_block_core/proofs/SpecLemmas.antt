-- The imports of a tree, behind references.
use Rattle.std.proofs.Common.{◌≡◌, ℕ, ◌+◌, ◌<◌, List, [], ◌∷◌, ◌++◌, map, length, get_or, take, Bor, refl, sym, ap, ◌∙◌, append_assoc}
use Rattle.std.proofs.lemmas.List.{map-append, map_more}
use Rattle.go_tree_nodes.specs.declared.files.ImportLine.{ImportLine}
use Rattle.go_tree_nodes.specs.declared.files.ImportSpec.{ImportSpec}
use Rattle.go_tree_nodes.specs.Shapes.{shape_import_spec, shape_import_line}
use Rattle.go_tree_nodes.specs.Trees.{ImportSpecTree}
use Rattle.go_block_core.specs.mirrors.Shown.{spec_shown}

-- the import of a line
abbrev pub line_spec : ImportLine → ImportSpecTree
line_spec line = (shape_import_line line).0

-- one line more
pub line_more : (old new : List (Bor ImportSpec)) (spec : Bor ImportSpec) (first : List ImportSpecTree) (lines : List ImportLine) (i : ℕ) (line : ImportLine) → i < length lines → line ≡ get_or lines i line → spec.now ≡ line.spec → new ≡ old ++ spec ∷ [] → map spec_shown old ≡ first ++ map line_spec (take i lines) → map spec_shown new ≡ first ++ map line_spec (take (i + 1) lines)
line_more old new spec first lines i line lt is now e before =
    ap (map spec_shown) e
    ∙ (map-append spec_shown old (spec ∷ [])
    ∙ (ap (λ l. l ++ spec_shown spec ∷ []) before
    ∙ (append_assoc first (map line_spec (take i lines)) (spec_shown spec ∷ [])
    ∙ ap (λ l. first ++ l)
    (ap (λ s. map line_spec (take i lines) ++ shape_import_spec s ∷ []) now
    ∙ (ap (λ x. map line_spec (take i lines) ++ line_spec x ∷ []) is ∙ sym (map_more line_spec lines i line lt))))))

pub group_lines : (lines : List ImportLine) → map (λ i. i.0) (map shape_import_line lines) ≡ map line_spec lines
group_lines [] = refl
group_lines (line ∷ lines) = ap (λ l. line_spec line ∷ l) (group_lines lines)
