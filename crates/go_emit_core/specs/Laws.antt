-- Laws of objects.
use Rattle.std.specs.Prelude.{◌≡◌, ◌↔◌, ◌<◌, ◌&&◌, ℕ, Bool, true, nat_le, nat_lt, List, [], ◌∷◌, Option, Some, None, is_some, slice_get, All, AllPairs, Contains, filter, map}
use Rattle.go_tree_nodes.specs.Trees.{FileTree, FuncTree}
use Rattle.go_tree_nodes.specs.Rules.{Wf_file}
use Rattle.go_expr_core.specs.denote_core.declared.things.Outcome.{Outcome}
use Rattle.go_expr_core.specs.denote_core.declared.things.Outcome.TheVariants as outcomes
use Rattle.go_declared_core.specs.handle_core.Declarations.{Declaration}
use Rattle.go_declared_core.specs.block_core.declared.imports.Imported.{Imported}
use Rattle.go_package_core.specs.summary_core.Summaries.{SummaryModel}
use Rattle.go_package_core.specs.body_core.Notes.{TheUse}
use Rattle.go_package_core.specs.prepare.Packages.{trees_in}
use Rattle.go_package_core.specs.report_core.UsageUsed.{is_declared}
use Rattle.go_package_core.specs.package_part.Inputs.{InputModel, IsInput, path_in}
use Rattle.go_package_core.specs.package_part.Parts.{ContentOf, FileOf, IsPart, PartModel}
use Rattle.go_object_core.specs.Objects.{ObjectOf}
use Rattle.go_emit_core.specs.Emitted.{are_clean, body_first, body_uses, declarations_in, object_of, object_over, objects_of, code_scene_over, told_by}
use Rattle.go_emit_core.specs.Imports.{imported_paths}
use Rattle.go_emit_core.specs.meaning.Looking.{looks_of}
use Rattle.go_tree_nodes.specs.Spelling.{IsPlaced}

-- nothing is wrong with a file: each of its occurrences has a declaration, and there is no fault beside
pub record HasNoFault (f : FileOf) : Type 0 where
  pub declared : All (λ (u : TheUse). is_declared u.outcome ≡ true) f.answers.uses
  pub unfaulted : f.answers.faults ≡ []

-- whatever packages tell, there is an object of a package exactly where nothing is wrong with any of its files
abbrev pub ObjectsAreOfFaultless : Type 0
ObjectsAreOfFaultless = (all : List SummaryModel) (i : InputModel) (c : ContentOf) → IsPart i c → (is_some (object_over all i c) ≡ true) ↔ All HasNoFault c.files

-- there is one object of a package whose files' tokens follow one another, if any: equal inputs have equal objects, each by itself, and over the same
-- that packages tell
abbrev pub OneObject : Type 0
OneObject =
    (i : InputModel) (one other : ContentOf) → All IsPlaced (trees_in i.source) → IsPart i one → IsPart i other
    → (object_of i one ≡ object_of i other) × ((all : List SummaryModel) → object_over all i one ≡ object_over all i other)

-- the occurrence stands between the braces of a body
abbrev pub is_between : FuncTree → TheUse → Bool
is_between g u = nat_le g.open_brace.start u.offset && nat_lt u.offset g.close_brace.start

-- the occurrences of a function's body are those of its file that stand between its braces, in order of place, where the file is one of the grammar
-- whose tokens follow one another
abbrev pub BodiesAreBetweenBraces : Type 0
BodiesAreBetweenBraces =
    (i : InputModel) (c : ContentOf) → IsInput i → IsPart i c → (n : ℕ) (t : FileTree) (f : FileOf) → slice_get (trees_in i.source) n ≡ Some t → slice_get c.files n ≡ Some f → Wf_file t → IsPlaced t
    → AllPairs (λ (u v : TheUse). u.offset < v.offset) f.answers.uses × ((g : FuncTree) → body_uses f.answers.uses g ≡ filter (is_between g) f.answers.uses)

-- the declaration of an occurrence
abbrev pub declaration_of : Outcome Declaration (List ℕ) → Option Declaration
declaration_of (outcomes.Declared d) = Some d
declaration_of (outcomes.Selected d path) = Some d
declaration_of (outcomes.Refused rule) = None

-- a reference of a function is the declaration of the occurrence of its number in the function's body; and code that calls what stands at the
-- occurrence's place calls this reference
pub record IsReferred (all : List SummaryModel) (i : InputModel) (c : ContentOf) (n : ℕ) (f : FileOf) (g : FuncTree) (number : ℕ) (u : TheUse) : Type 0 where
  pub declared : slice_get (declarations_in (body_uses f.answers.uses g)) number ≡ declaration_of u.outcome
  pub called : (looks_of (code_scene_over all i c) n f.answers.uses f.answers.locals (body_first f.answers.uses g)).reference u.offset ≡ number

-- in an object it is so of each occurrence of each body of a file whose occurrences stand one behind another
abbrev pub CallsNameTheirOwn : Type 0
CallsNameTheirOwn =
    (all : List SummaryModel) (i : InputModel) (c : ContentOf) → IsPart i c → is_some (object_over all i c) ≡ true → (n : ℕ) (f : FileOf) → slice_get c.files n ≡ Some f → AllPairs (λ (u v : TheUse). u.offset < v.offset) f.answers.uses
    → (g : FuncTree) (number : ℕ) (u : TheUse) → slice_get (body_uses f.answers.uses g) number ≡ Some u → IsReferred all i c n f g number u

-- an import of a file of a package comes to the package of a path
pub record HasImportOf (i : InputModel) (path : List ℕ) : Type 0 where
  pub file : ℕ
  pub number : ℕ
  pub of_file : List Imported
  pub import : Imported
  pub there : slice_get i.imports file ≡ Some of_file
  pub here : slice_get of_file number ≡ Some import
  pub comes_to : imported_paths import ≡ path ∷ []

-- the imports of an object are the packages that imports of its package come to
abbrev pub ImportsPass : Type 0
ImportsPass = (all : List SummaryModel) (i : InputModel) (c : ContentOf) (o : ObjectOf Declaration) → object_over all i c ≡ Some o → (path : List ℕ) → Contains o.imports path ↔ HasImportOf i path

-- nothing is reported of any file of a part
abbrev pub is_unreported : PartModel → Bool
is_unreported p = are_clean p.content.files

-- the objects of parts are those of the parts of which nothing is reported, one of each, in their order: each over what all parts tell, and with the
-- path of its own
pub record AreOfTheirParts (ps : List PartModel) : Type 0 where
  pub objects : map Some (objects_of ps) ≡ map (λ p. object_over (told_by ps) p.input p.content) (filter is_unreported ps)
  pub paths : map (λ o. o.path) (objects_of ps) ≡ map (λ p. path_in p.input) (filter is_unreported ps)

abbrev pub ObjectsAreOfTheirParts : Type 0
ObjectsAreOfTheirParts = (ps : List PartModel) → AreOfTheirParts ps
