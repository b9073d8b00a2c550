-- A name put in place of an identifier has a declaration there exactly where the identifier's context gives it one.
--
-- docs/RULES.md, "Occurrences", "Names, selectors and calls in expressions". The Go specification, "Declarations and scope", "Selectors",
-- "Qualified identifiers".
use Rattle.std.specs.Prelude.{◌≡◌, ◌↔◌, ℕ, true, List, Contains}
use Rattle.go_site_core.specs.text_core.Text.{is_blank}
use Rattle.go_graph_core.specs.Sources.{SourceModel}
use Rattle.go_tree_nodes.specs.Trees.{FileTree}
use Rattle.go_tree_core.specs.declared.occurrence.Occ.{Occ}
use Rattle.go_cursor_core.specs.Opened.{FileUsed}
use Rattle.go_query_core.specs.complete_core.PlaceCompletions.{AreNamesAt}
use Rattle.go_query_core.specs.package_core.PackagePartInputs.{InputModel, IsInput}
use Rattle.go_query_core.specs.package_core.PackagePartParts.{ContentOf, IsPart, PartModel, part_with}
use Rattle.go_answer_laws.specs.completions.Respelled.{put_in_place, IsPutInPlace, MayBePut, HaveOtherTree, with_files, is_declared_at}

-- each identifier that is used can be spelled as any other name: it stands in one place of the file's declarations
abbrev pub IdentifiersCanBeRespelled : Type 0
IdentifiersCanBeRespelled = (name : List ℕ) (f : FileTree) (k : ℕ) (o : Occ) → MayBePut name f k o → IsPutInPlace name o f (put_in_place name o f)

-- the package block, the blocks of files and their faults look at no identifier that is used
abbrev pub BlocksStay : Type 0
BlocksStay =
    (i : InputModel) (files : List SourceModel) (c d : ContentOf) (name : List ℕ) (n : ℕ) (f : FileTree) (k : ℕ) (o : Occ) → MayBePut name f k o
    → HaveOtherTree n f (put_in_place name o f) i.source.1 files → IsPart i c → IsPart (with_files i files) d → d.blocks ≡ c.blocks

-- The names that have a declaration in place of an identifier, by its context in a part, are exactly those with which the same package, with the name
-- put in its place, answers a declaration for its occurrence: in each content that this package has.
abbrev pub NamesFit : Type 0
NamesFit =
    (i : InputModel) (files : List SourceModel) (c d : ContentOf) (name : List ℕ) (n : ℕ) (f : FileTree) (k : ℕ) (o : Occ) (u : FileUsed) (found : List (List ℕ)) → IsInput i → MayBePut name f k o
    → HaveOtherTree n f (put_in_place name o f) i.source.1 files → IsPart (with_files i files) d → u.used.ident.span.start ≡ o.span.start → AreNamesAt (part_with i c) n f u found
    → Contains found name ↔ (is_declared_at d n k ≡ true)

-- `_` is none of these names, whether it would be an occurrence there or the target of an assignment
abbrev pub BlankNeverFits : Type 0
BlankNeverFits = (p : PartModel) (n : ℕ) (f : FileTree) (u : FileUsed) (found : List (List ℕ)) (name : List ℕ) → is_blank name ≡ true → AreNamesAt p n f u found → Contains found name → ⊥
