-- What is made of a package is what its trees say.
use Rattle.std.proofs.Common.{◌≡◌, ℕ, ◌+◌, ◌<◌, ◌≤◌, List, [], ◌∷◌, ◌++◌, All, map, length, take, get_or, refl, sym, ap, subst, ◌∙◌}
use Rattle.std.specs.Prelude.{Result, Ok, Err, slice_index_or}
use Rattle.std.specs.List.{AllByRecursion, AllZip}
use Rattle.std.proofs.lemmas.List.{take_all}
use Rattle.std.proofs.lemmas.List.Elements.{All-map}
use Rattle.go_tree_nodes.specs.Trees.{FuncTree, FileTree}
use Rattle.go_parse_core.specs.declared.error.SynFault.{SynFault}
use Rattle.go_block_core.specs.graph_core.Packages.{trees_of, tree_shown}
use Rattle.go_block_core.specs.graph_core.Sources.{SourceModel, source, IsPlacedContent, IsPlacedSource}
use Rattle.go_term_core.specs.decl_core.declared.keys.DeclRef.{DeclRef}
use Rattle.go_term_core.specs.decl_core.declared.places.Place.{Place}
use Rattle.go_term_core.specs.decl_core.declared.tops.TopDecl.{TopDecl}
use Rattle.go_term_core.specs.decl_core.Shown.{decl_shown, form_shown}
use Rattle.go_term_core.specs.Terms.{Term}
use Rattle.go_block_core.specs.Blocks.{BlocksModel}
use Rattle.go_term_core.specs.settling.Settled.{kind_of_term}
use Rattle.go_type_core.specs.table_core.Entries.{Entry, find_entry, term_in}
use Rattle.go_type_core.specs.declared.build.TypeFault.{TypeFault}
use Rattle.go_type_core.specs.Built.{IsBuilt}
use Rattle.go_body_core.specs.typexpr_core.EntryMeanings.{Shows, file_meaning, raw}
use Rattle.go_body_core.specs.typexpr_core.EntryEntries.{all_entries, declared_entries, package_meanings}
use Rattle.go_body_core.specs.typexpr_core.EntryOutlines.{FileOutline, IsOutline, outline_of}
use Rattle.go_body_core.specs.typexpr_core.EntryNumbered.{flat_item}
use Rattle.go_body_core.specs.typexpr_core.AliasesLaws.{AreLoopedAliases}
use Rattle.go_report_core.specs.declared.type_faults.places.PackageFault.{PackageFault}
use Rattle.go_report_core.specs.type_faults.TypeFaults.{faults_of_types}
use Rattle.go_inline_core.specs.names_core.Scope.{beyond_in}
use Rattle.go_inline_core.specs.Types.{InlineOf}
use Rattle.go_inline_core.specs.Functions.{AreInlines, scoped_outside}
use Rattle.go_package_core.specs.prepare.Inlines.{form_funcs, outline_funcs}
use Rattle.go_package_core.specs.prepare.Packages.{PackageIn, entries_in, outlines_in, shows_in, targets_in, written_in}
use Rattle.go_package_core.specs.prepare.Types.{AreTypes}
use Rattle.go_package_core.specs.prepare.mirrors.Adding.{Adds}
use Rattle.go_package_core.proofs.PrepareLists.{zip_both}
use Rattle.go_tree_nodes.specs.Spelling.{IsPlaced}

-- trees

pub trees_placed : (ss : List SourceModel) → AllByRecursion IsPlacedSource ss → AllByRecursion IsPlaced (map tree_shown (trees_of ss))
trees_placed [] h = tt
trees_placed (s ∷ ss) h = by s.name s.text s.content h.0 (trees_placed ss h.1)
  where
    by : (name text : List ℕ) (r : Result FileTree SynFault) → IsPlacedContent r → AllByRecursion IsPlaced (map tree_shown (trees_of ss)) → AllByRecursion IsPlaced (map tree_shown (trees_of (source name text r ∷ ss)))
    by name text (Ok f) one rest = (one, rest)
    by name text (Err e) one rest = rest

-- outlines

pub all_outlines : (os : List FileOutline) (fs : List FileTree) → os ≡ map outline_of fs → All IsOutline os
all_outlines os fs is = subst (All IsOutline) (sym is) (All-map IsOutline outline_of fs (λ k d lt. (slice_index_or fs k d, refl)))

-- types

-- what is amiss, by what its names lead to
abbrev faults_by : BlocksModel → List Entry → Shows → List ℕ → List FileOutline → List Entry → List DeclRef → List TypeFault → List PackageFault
faults_by b table shows path os written looped loops = faults_of_types table (package_meanings (raw shows) path b) (package_meanings shows path b) path os written looped loops

pub types_are : (p : PackageIn) (shows : Shows) (far own table : List Entry) (path : List ℕ) (os : List FileOutline) (written built faulted : List Entry) (looped said : List DeclRef) (loops found : List TypeFault) (faults : List PackageFault)
    → shows ≡ shows_in p → path ≡ p.path → os ≡ outlines_in p → written ≡ declared_entries shows path p.blocks os → built ≡ written → IsBuilt (find_entry far) built own loops → table ≡ far ++ own → faulted ≡ written
    → AreLoopedAliases (written_in p) (targets_in p) looped → said ≡ looped → found ≡ loops → faults ≡ faults_of_types table (package_meanings (raw shows) path p.blocks) (package_meanings shows path p.blocks) path os faulted said found
    → AreTypes p far own faults
types_are p shows far own table path os written built faulted looped said loops found faults shows_is path_is os_is written_is built_is is table_is faulted_is looped_are said_is found_is faults_is =
    let entries : written ≡ entries_in p = written_is ∙ (λ i. declared_entries (shows_is i) (path_is i) p.blocks (os_is i)) in
    let listed : faulted ≡ entries_in p = faulted_is ∙ entries in
    record {
      loops = loops;
      looped = looped;
      looped_are = looped_are;
      built = subst (λ w. IsBuilt (find_entry far) w own loops) (built_is ∙ entries) is;
      faults_are = faults_is ∙ (λ i. faults_by p.blocks (table_is i) (shows_is i) (path_is i) (os_is i) (listed i) (said_is i) (found_is i));
    }

-- aliases

pub looped_in : (p : PackageIn) (written : List Entry) (path : List ℕ) (os : List FileOutline) (xs : List (DeclRef × Term)) (looped : List DeclRef) → written ≡ all_entries p.shows path p.blocks os → path ≡ p.path → os ≡ outlines_in p → xs ≡ targets_in p
    → AreLoopedAliases written xs looped → AreLoopedAliases (written_in p) (targets_in p) looped
looped_in p written path os xs looped written_is path_is os_is xs_is are =
    let entries : written ≡ written_in p = written_is ∙ (λ i. all_entries p.shows (path_is i) p.blocks (os_is i)) in
    subst (λ x. AreLoopedAliases (written_in p) x looped) xs_is (subst (λ w. AreLoopedAliases w xs looped) entries are)

-- types inside functions

-- those of a function of a file of this path and number
abbrev pub MadeOf : Shows → BlocksModel → List Entry → ℕ → List Place → List ℕ → FuncTree → List (ℕ × InlineOf) → Type 0
MadeOf shows b es file places path =
    AreInlines (λ k. kind_of_term (term_in (find_entry es k))) (record { path = path; file = file; places = places }) (file_meaning shows path b file) (beyond_in scoped_outside b file)

pub funcs_step : {B : Type 0} (R : FuncTree → B → Type 0) (ds : List TopDecl) (i : ℕ) (d : TopDecl) (old new : List B) → i < length ds → d ≡ get_or ds i d → Adds R (form_funcs (form_shown d.form)) old new
    → AllZip R (outline_funcs (map decl_shown (take i ds))) old → AllZip R (outline_funcs (map decl_shown (take (i + 1) ds))) new
funcs_step R ds i d old new lt is added before =
    subst (λ l. AllZip R l new) (sym (flat_item decl_shown (λ t. form_funcs t.form) ds i d lt is))
    (subst (λ l. AllZip R (outline_funcs (map decl_shown (take i ds)) ++ form_funcs (form_shown d.form)) l) (sym added.is)
    (zip_both R (outline_funcs (map decl_shown (take i ds))) (form_funcs (form_shown d.form)) old added.more before added.each))

pub funcs_end : {B : Type 0} (R : FuncTree → B → Type 0) (ds : List TopDecl) (i : ℕ) (now : List B) → length ds ≤ i → AllZip R (outline_funcs (map decl_shown (take i ds))) now → AllZip R (outline_funcs (map decl_shown ds)) now
funcs_end R ds i now le done = subst (λ l. AllZip R (outline_funcs (map decl_shown l)) now) (take_all i ds le) done
