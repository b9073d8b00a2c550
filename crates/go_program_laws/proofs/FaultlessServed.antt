-- What the laws on functions ask beside what the check says, of the functions of a workspace.
use Rattle.std.proofs.Common.{inl, inr, ℕ, List, [], ◌∷◌, map, All, sym, subst}
use Rattle.std.specs.Prelude.{Result, Ok, Err}
use Rattle.std.specs.List.{AllByRecursion, flat_map}
use Rattle.std.proofs.lemmas.List.Elements.{recursion_from_All}
use Rattle.go_tree_nodes.specs.token_core.declared.kind.Operator.TheVariants as operator
use Rattle.go_tree_nodes.specs.Spelling.{IsPlaced, mark, spell_decl, spell_file, spell_func, spell_imports, spell_tops}
use Rattle.go_tree_nodes.specs.Terminals.{Number, Terminal, terminal}
use Rattle.go_tree_nodes.specs.Trees.{DeclTree, FileTree, Func, FuncTree, TopTree, Types, Value}
use Rattle.go_graph_core.specs.Packages.{tree_shown, trees_of}
use Rattle.go_graph_core.specs.Sources.{IsContent, IsRead, SourceModel, source}
use Rattle.go_graph_core.specs.Workspaces.{AreAllRead}
use Rattle.go_graph_core.specs.parse_core.Correct.{HasTree}
use Rattle.go_graph_core.specs.parse_core.declared.error.SynFault.{SynFault}
use Rattle.go_body_core.specs.file.Stands.{decl_funcs, file_funcs}
use Rattle.go_emit_core.specs.package_core.PreparePackages.{trees_in}
use Rattle.go_emit_core.specs.package_core.PackagePartSlots.{somes}
use Rattle.go_body_core.specs.typexpr_core.EntryAmong.{among_from}
use Rattle.go_snap_core.proofs.WholeWorkspaceChecks.{trees_are_placed}
use Rattle.go_snap_core.proofs.WholeWorkspacePartsWhole.{all_right}
use Rattle.go_workspace_laws.specs.ConstantLaws.{PartsAreFit, code_names_of}
use Rattle.go_workspace_laws.proofs.ConstantLists.{HasItem, contained, has, has_either, has_get, has_left, has_right}
use Rattle.go_program_laws.specs.calls.Integers.{HaveValues, PartsAreRead, PiecesHaveValues, TextsHaveValues}
use Rattle.go_program_laws.specs.calls.Packages.{FunctionsKeepTypes, PartsTellKept}
use Rattle.go_program_laws.specs.faultless.Served.{ConstantsAreServed, FunctionsAreServed, IntegersAreGiven, NamesAreRead}
use Rattle.go_program_laws.proofs.FaultlessAlike.{numbered_in}

-- integer literals

decl_writes : (d : DeclTree) (g : FuncTree) (x : Terminal) → HasItem (decl_funcs d) g → HasItem (spell_func g) x → HasItem (spell_decl d) x
decl_writes (Value v) g x h k = absurd h
decl_writes (Types v) g x h k = absurd h
decl_writes (Func f) g x (inl e) k = subst (λ y. HasItem (spell_func y) x) (sym e) k
decl_writes (Func f) g x (inr h) k = absurd h

tops_write : (ts : List TopTree) (g : FuncTree) (x : Terminal) → HasItem (flat_map (λ (d : TopTree). decl_funcs d.decl) ts) g → HasItem (spell_func g) x → HasItem (spell_tops ts) x
tops_write [] g x h k = absurd h
tops_write (t ∷ ts) g x h k = elim (has_either (decl_funcs t.decl) (flat_map (λ (d : TopTree). decl_funcs d.decl) ts) g h) [
  | inl here ↦ has_left (spell_decl t.decl) (mark operator.Semicolon t.semicolon ∷ spell_tops ts) x (decl_writes t.decl g x here k)
  | inr later ↦ has_right (spell_decl t.decl) (mark operator.Semicolon t.semicolon ∷ spell_tops ts) x (inr (tops_write ts g x later k))
]

file_writes : (t : FileTree) (g : FuncTree) (x : Terminal) → HasItem (file_funcs t) g → HasItem (spell_func g) x → HasItem (spell_file t) x
file_writes t g x h k = inr (inr (inr (has_right (spell_imports t.imports) (spell_tops t.decls) x (tops_write t.decls g x h k))))

-- the trees of files that are read are those of texts

abbrev HasText : FileTree → Type 0
HasText t = (text : List ℕ) × HasTree text t

tree_read : (ss : List SourceModel) → AllByRecursion IsRead ss → (t : FileTree) → HasItem (map tree_shown (trees_of ss)) t → HasText t
tree_read [] h t k = absurd k
tree_read (s ∷ ss) h t k = by s.name s.text s.content h.0 (tree_read ss h.1 t) k
  where
    by : (name text : List ℕ) (r : Result FileTree SynFault) → IsContent text r → (HasItem (map tree_shown (trees_of ss)) t → HasText t) → HasItem (map tree_shown (trees_of (source name text r ∷ ss))) t → HasText t
    by name text (Ok f) one rest (inl e) = (text, subst (λ u. HasTree text u) e one.found)
    by name text (Ok f) one rest (inr k) = rest k
    by name text (Err e) one rest k = rest k

pub integers_given : TextsHaveValues → PiecesHaveValues → PartsAreRead → IntegersAreGiven
integers_given texts pieces read ws parts as_read made p h n t f g all func =
    let r = numbered_in parts p (among_from (somes parts) p h) in
    let all_read : AreAllRead p.input.source = read ws parts as_read made r.number p r.there in
    let text = tree_read p.input.source.1 (recursion_from_All IsRead p.input.source.1 all_read) t (has_get (trees_in p.input.source) n t func.tree) in
    let looks = code_names_of p.input p.content n f g in
    let values : HaveValues looks (spell_func g) = λ k span at.
    texts text.0 t text.1 looks k span (contained (spell_file t) (terminal (Number k) span) (file_writes t g (terminal (Number k) span) (has (file_funcs t) g func.func) (has (spell_func g) (terminal (Number k) span) at))) in
    pieces looks g values

-- constants

pub constants_served : PartsAreFit → FunctionsKeepTypes → PartsTellKept → ConstantsAreServed
constants_served fit keep tell ws parts well made p h n t f g all func =
    let r = numbered_in parts p (among_from (somes parts) p h) in
    let placed : All IsPlaced (trees_in p.input.source) = trees_are_placed ws r.number p.input.source well (all_right ws parts made r.number p r.there).numbered in
    keep p.input p.content (fit ws parts well made r.number p r.there).part placed (tell ws parts well made r.number p r.there) n t func.tree g func.func all func.right

pub functions_served : IntegersAreGiven → ConstantsAreServed → NamesAreRead → FunctionsAreServed
functions_served integers constants names ws parts as_read made program callees p h n t f g all func calls = record {
  calls = calls;
  methods = names ws parts as_read.well made p h n t f g all func;
  constants = constants ws parts as_read.well made p h n t f g all func;
  integers = integers ws parts as_read made p h n t f g all func;
}
