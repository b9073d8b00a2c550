-- The objects of parts are those of the parts of which nothing is reported.
use Rattle.std.proofs.Common.{◌≡◌, ℕ, Bool, true, false, cond, if◌then◌else◌, List, [], ◌∷◌, ◌++◌, map, filter, Option, Some, None, refl, sym, ap, ap₂}
use Rattle.go_declared_core.specs.handle_core.Declarations.{Declaration}
use Rattle.go_package_core.specs.summary_core.Summaries.{SummaryModel}
use Rattle.go_object_core.specs.Objects.{ObjectOf}
use Rattle.go_package_core.specs.package_part.Inputs.{path_in}
use Rattle.go_package_core.specs.package_part.Parts.{PartModel}
use Rattle.go_emit_core.specs.Emitted.{object_over, objects_over, code_scene_over, told_by, whole_object}
use Rattle.go_emit_core.specs.Laws.{ObjectsAreOfTheirParts, is_unreported}
use Rattle.go_package_core.specs.package_part.Slots.{if_there}

module _ (all : List SummaryModel) where
  abbrev object_at : PartModel → Option (ObjectOf Declaration)
  object_at p = object_over all p.input p.content

  abbrev whole_at : PartModel → ObjectOf Declaration
  whole_at p = whole_object (code_scene_over all p.input p.content) p.input p.content

  abbrev left : List PartModel → List PartModel
  left ps = filter is_unreported ps

  these : (ps : List PartModel) → map Some (objects_over all ps) ≡ map object_at (left ps)
  these [] = refl
  these (p ∷ ps) = by (is_unreported p) refl (these ps)
    where
      by : (b : Bool) → is_unreported p ≡ b → map Some (objects_over all ps) ≡ map object_at (left ps)
          → map Some (if_there (if b then Some (whole_at p) else None) ++ objects_over all ps) ≡ map object_at (cond b (p ∷ left ps) (left ps))
      by true e rest = ap₂ ◌∷◌ (sym (ap (λ (t : Bool). if t then Some (whole_at p) else None) e)) rest
      by false e rest = rest

  their_paths : (ps : List PartModel) → map (λ (o : ObjectOf Declaration). o.path) (objects_over all ps) ≡ map (λ (p : PartModel). path_in p.input) (left ps)
  their_paths [] = refl
  their_paths (p ∷ ps) = by (is_unreported p) (their_paths ps)
    where
      by : (b : Bool) → map (λ (o : ObjectOf Declaration). o.path) (objects_over all ps) ≡ map (λ (p : PartModel). path_in p.input) (left ps)
          → map (λ (o : ObjectOf Declaration). o.path) (if_there (if b then Some (whole_at p) else None) ++ objects_over all ps) ≡ map (λ (p : PartModel). path_in p.input) (cond b (p ∷ left ps) (left ps))
      by true rest = ap (λ (l : List (List ℕ)). path_in p.input ∷ l) rest
      by false rest = rest

pub objects_are_of_their_parts : ObjectsAreOfTheirParts
objects_are_of_their_parts ps = record { objects = these (told_by ps) ps; paths = their_paths (told_by ps) ps }
