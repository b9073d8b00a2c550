-- A walk over imports and over what they come to, side by side.
use Rattle.std.proofs.Common.{◌≡◌, List, [], ◌∷◌, ◌++◌, map, Bor, refl, sym, ap, ◌∙◌, append_assoc, append-nil}
use Rattle.go_tree_nodes.specs.declared.files.ImportSpec.{ImportSpec}
use Rattle.go_tree_nodes.specs.Trees.{ImportSpecTree}
use Rattle.go_block_core.specs.declared.imports.Imported.{Imported}
use Rattle.go_body_core.specs.Notes.{TheUse}
use Rattle.go_body_core.specs.file.Imports.{import_use, imports_uses}
use Rattle.go_block_core.specs.mirrors.Shown.{spec_shown}

-- one import further
pub import_step : (specs more : List (Bor ImportSpec)) (given rest : List Imported) (s : Bor ImportSpec) (i : Imported) (old new all : List TheUse)
    → specs ≡ s ∷ more → given ≡ i ∷ rest → new ≡ old ++ import_use (spec_shown s) i ∷ [] → old ++ imports_uses (map spec_shown specs) given ≡ all
    → new ++ imports_uses (map spec_shown more) rest ≡ all
import_step specs more given rest s i old new all e f added before =
    ap (λ l. l ++ imports_uses (map spec_shown more) rest) added
    ∙ (append_assoc old (import_use (spec_shown s) i ∷ []) (imports_uses (map spec_shown more) rest)
    ∙ (ap (λ l. old ++ imports_uses (map spec_shown l) (i ∷ rest)) (sym e) ∙ (ap (λ l. old ++ imports_uses (map spec_shown specs) l) (sym f) ∙ before)))

-- behind the last import, or behind what the last comes to
pub no_specs : (specs : List (Bor ImportSpec)) (given : List Imported) (now all : List TheUse) → specs ≡ [] → now ++ imports_uses (map spec_shown specs) given ≡ all → now ≡ all
no_specs specs given now all e done = sym (append-nil now) ∙ (ap (λ l. now ++ imports_uses (map spec_shown l) given) (sym e) ∙ done)

nothing_given : (ss : List ImportSpecTree) → imports_uses ss [] ≡ []
nothing_given [] = refl
nothing_given (s ∷ ss) = refl

pub none_given : (specs : List (Bor ImportSpec)) (given : List Imported) (now all : List TheUse) → given ≡ [] → now ++ imports_uses (map spec_shown specs) given ≡ all → now ≡ all
none_given specs given now all e done =
    sym (append-nil now) ∙ (ap (λ l. now ++ l) (sym (nothing_given (map spec_shown specs))) ∙ (ap (λ l. now ++ imports_uses (map spec_shown specs) l) (sym e) ∙ done))
