-- Integer literals have values in code.
use Rattle.std.proofs.Common.{◌≡◌, inl, inr, ℕ, zero, suc, List, [], ◌∷◌, map, Option, Some, refl, sym, subst}
use Rattle.std.specs.Prelude.{Result, Ok, Err, slice_get}
use Rattle.std.specs.List.{AllByRecursion}
use Rattle.std.proofs.lemmas.List.Elements.{recursion_from_All}
use Rattle.std.proofs.lemmas.Option.{none-some}
use Rattle.go_tree_nodes.specs.token_core.declared.kind.Operator.TheVariants as operator
use Rattle.go_tree_nodes.specs.Spelling.{mark, spell_decl, spell_file, spell_func, spell_imports, spell_tops}
use Rattle.go_tree_nodes.specs.Terminals.{Terminal, terminal, Number}
use Rattle.go_tree_nodes.specs.Trees.{FileTree, FuncTree, Integer, TopTree}
use Rattle.go_report_core.specs.denote_core.declared.things.Stand.TheVariants as stands
use Rattle.go_code_core.specs.fragments.Names.{CodeLooks}
use Rattle.go_meaning_laws.specs.source_meaning.Meaning.{SourceOf}
use Rattle.go_graph_core.specs.parse_core.Correct.{HasTree}
use Rattle.go_graph_core.specs.parse_core.declared.error.SynFault.{SynFault}
use Rattle.go_graph_core.specs.Lists.{AllNumbered}
use Rattle.go_graph_core.specs.Packages.{tree_shown, trees_of}
use Rattle.go_graph_core.specs.Sources.{IsContent, IsRead, SourceModel, source}
use Rattle.go_graph_core.specs.Workspaces.{AreAllRead, PackageModel}
use Rattle.go_emit_core.specs.package_core.PreparePackages.{trees_in}
use Rattle.go_emit_core.specs.package_core.PackagePartParts.{PartModel}
use Rattle.go_emit_core.specs.Emitted.{body_first, code_scene_over, told_by}
use Rattle.go_emit_core.specs.meaning.Looking.{looks_of}
use Rattle.go_snap_core.specs.whole_workspace.Inputs.{IsPartOf}
use Rattle.go_workspace_laws.specs.Standing.{piece_exprs, pieces_of}
use Rattle.go_workspace_laws.proofs.ConstantLists.{HasItem, contained, has, has_get, has_left, has_of_all, has_right}
use Rattle.go_workspace_laws.proofs.Declaring.{Declares}
use Rattle.go_workspace_laws.specs.folding.Parts.{parts}
use Rattle.go_program_laws.specs.calls.Integers.{HaveValues, PartsAreRead, PiecesHaveValues, SourcesHaveValues, TextsHaveValues}
use Rattle.go_program_laws.proofs.CallsNumbers.{given, terminals_low}
use Rattle.go_program_laws.proofs.CallsSourced.{source_among}
use Rattle.go_program_laws.proofs.CallsSpelled.{func_has, part_spelled, piece_has}

pub texts_have_values : TextsHaveValues
texts_have_values text t tree looks n span h =
    given n (terminals_low text tree.tokens n span (subst (λ ts. HasItem ts (terminal (Number n) span)) tree.tree.spelled (has (spell_file t) (terminal (Number n) span) h)))

-- what a function writes its file writes

tops_write : (ts : List TopTree) (g : FuncTree) (x : Terminal) → Declares ts g → HasItem (spell_func g) x → HasItem (spell_tops ts) x
tops_write [] g x h k = absurd h
tops_write (t ∷ ts) g x (inl e) k = has_left (spell_decl t.decl) (mark operator.Semicolon t.semicolon ∷ spell_tops ts) x (subst (λ d. HasItem (spell_decl d) x) (sym e) k)
tops_write (t ∷ ts) g x (inr h) k = has_right (spell_decl t.decl) (mark operator.Semicolon t.semicolon ∷ spell_tops ts) x (inr (tops_write ts g x h k))

file_writes : (t : FileTree) (g : FuncTree) (x : Terminal) → Declares t.decls g → HasItem (spell_func g) x → HasItem (spell_file t) x
file_writes t g x h k = inr (inr (inr (has_right (spell_imports t.imports) (spell_tops t.decls) x (tops_write t.decls g x h k))))

-- the trees of files that are read are those of texts

abbrev HasText : FileTree → Type 0
HasText t = (text : List ℕ) × HasTree text t

tree_read : (ss : List SourceModel) → AllByRecursion IsRead ss → (t : FileTree) → HasItem (map tree_shown (trees_of ss)) t → HasText t
tree_read [] h t k = absurd k
tree_read (s ∷ ss) h t k = by s.name s.text s.content h.0 (tree_read ss h.1 t) k
  where
    by : (name text : List ℕ) (r : Result FileTree SynFault) → IsContent text r → (HasItem (map tree_shown (trees_of ss)) t → HasText t) → HasItem (map tree_shown (trees_of (source name text r ∷ ss))) t → HasText t
    by name text (Ok f) one rest (inl e) = (text, subst (λ u. HasTree text u) e one.found)
    by name text (Ok f) one rest (inr k) = rest k
    by name text (Err e) one rest k = rest k

-- sources

func_values : (t : FileTree) (g : FuncTree) (looks : CodeLooks) → HasText t → Declares t.decls g → HaveValues looks (spell_func g)
func_values t g looks text h n span k =
    texts_have_values text.0 t text.1 looks n span (contained (spell_file t) (terminal (Number n) span) (file_writes t g (terminal (Number n) span) h (has (spell_func g) (terminal (Number n) span) k)))

pub sources_have_values : SourcesHaveValues
sources_have_values place ps read number s is =
    let a = source_among place ps number s is in
    let all_read : AreAllRead a.part.input.source = read a.part (contained ps a.part a.there) in
    let text = tree_read a.part.input.source.1 (recursion_from_All IsRead a.part.input.source.1 all_read) a.source.tree (has_get (trees_in a.part.input.source) a.source.place a.source.tree a.source.in_package) in
    let answers = a.source.file.answers in
    let looks = looks_of (code_scene_over (told_by ps) a.part.input a.part.content) a.source.place answers.uses answers.locals (body_first answers.uses a.source.func) in
    subst (λ (x : SourceOf). HaveValues x.looks (spell_func x.tree)) (sym a.source.is) (func_values a.source.tree a.source.func looks text a.source.declared)

pub pieces_have_values : PiecesHaveValues
pieces_have_values looks g all p piece e expr q n span there =
    let x = terminal (Number n) span in
    let k = part_spelled q (Integer n span) x (inl refl) stands.«Value» e (has (parts stands.«Value» e) (q, Integer n span) there) in
    all n span (contained (spell_func g) x (func_has p x (piece_has e x k p (has (piece_exprs p) e expr)) g (has (pieces_of g) p piece)))

-- parts

module _ (ws : List PackageModel) (all : List (Option PartModel)) where
  package_there : (k : ℕ) (ps : List PackageModel) (parts : List (Option PartModel)) (n : ℕ) (p : PartModel) → AllNumbered (λ n p part. IsPartOf ws all n p part) k ps parts → slice_get parts n ≡ Some (Some p) → HasItem ps p.input.source
  package_there k [] [] n p h e = absurd (none-some (Some p) e)
  package_there k [] (part ∷ parts) n p h e = absurd h
  package_there k (q ∷ ps) [] n p h e = absurd (none-some (Some p) e)
  package_there k (q ∷ ps) (part ∷ parts) zero p h e =
      let same : part ≡ Some p = cc in
      let one = subst (λ o. IsPartOf ws all k q o) same h.0 in
      inl (sym one.1.source)
  package_there k (q ∷ ps) (part ∷ parts) (suc n) p h e = inr (package_there (suc k) ps parts n p h.1 e)

pub parts_are_read : PartsAreRead
parts_are_read ps parts as_read right n p there = has_of_all AreAllRead ps p.input.source as_read.read (package_there ps parts 0 ps parts n p right there)
