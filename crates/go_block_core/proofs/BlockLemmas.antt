-- Blocks and faults along lists of declarations and bindings.
use Rattle.std.proofs.Common.{◌≡◌, ℕ, ◌+◌, ◌<◌, suc, Bool, Vec, List, [], ◌∷◌, ◌++◌, map, length, get_or, take, refl, ap, sym, ◌∙◌, append-nil, append_assoc, arith}
use Rattle.std.specs.Str.{bytes_eq}
use Rattle.std.proofs.lemmas.List.{take_more, map_more, map-append, length-map}
use Rattle.std.specs.Global.{Global}
use Rattle.go_graph_core.specs.collections_core.NameTableNamed.{Named}
use Rattle.go_block_core.specs.Exports.{clause_name}
use Rattle.go_block_core.specs.Tables.{block_of}
use Rattle.go_tree_nodes.specs.Trees.{FileTree}
use Rattle.go_graph_core.specs.Packages.{Trees, IsPackageName}
use Rattle.go_decl_core.specs.declared.keys.DeclRef.{DeclRef}
use Rattle.go_block_core.specs.declared.binding.Binding.{Binding}
use Rattle.go_block_core.specs.declared.imports.NamedImport.{NamedImport}
use Rattle.go_block_core.specs.declared.fault.BlockFault.{BlockFault}
use Rattle.go_block_core.specs.Bindings.{Bound, file_bound}
use Rattle.go_graph_core.specs.Imports.{main}
use Rattle.go_block_core.specs.Declarations.{PackageDeclaration, is_main_package}
use Rattle.go_block_core.specs.Holding.{with_declared, declared_block, with_bound, bound_block, file_block, file_blocks, imports_in}
use Rattle.go_block_core.specs.Faults.{fault_if, decl_faults_at, block_decl_faults, bound_faults_at, bound_faults, block_file_faults}

-- declarations behind others
pub declared_join : (b : List (List ℕ × DeclRef)) (ds es : List PackageDeclaration) → declared_block b (ds ++ es) ≡ declared_block (declared_block b ds) es
declared_join b [] es = refl
declared_join b (d ∷ ds) es = declared_join (with_declared b d) ds es

pub decl_faults_join : (is_main : Bool) (b : List (List ℕ × DeclRef)) (ds es : List PackageDeclaration) → block_decl_faults is_main b (ds ++ es) ≡ block_decl_faults is_main b ds ++ block_decl_faults is_main (declared_block b ds) es
decl_faults_join is_main b [] es = refl
decl_faults_join is_main b (d ∷ ds) es =
    ap (λ fs. decl_faults_at is_main b d ++ fs) (decl_faults_join is_main (with_declared b d) ds es)
    ∙ sym (append_assoc (decl_faults_at is_main b d) (block_decl_faults is_main (with_declared b d) ds) (block_decl_faults is_main (declared_block (with_declared b d) ds) es))

-- one step of a loop that declares: the block and the faults of what was declared and of what comes
pub block_step : (first old new : List (List ℕ × DeclRef)) (ds more all : List PackageDeclaration) → old ≡ declared_block first ds → new ≡ declared_block old more → all ≡ ds ++ more → new ≡ declared_block first all
block_step first old new ds more all before step is = step ∙ (ap (λ b. declared_block b more) before ∙ (sym (declared_join first ds more) ∙ ap (declared_block first) (sym is)))

pub block_faults_step : (is_main : Bool) (first old : List (List ℕ × DeclRef)) (ds more all : List PackageDeclaration) (front fs new : List BlockFault) → old ≡ declared_block first ds → fs ≡ front ++ block_decl_faults is_main first ds → new ≡ fs ++ block_decl_faults is_main old more → all ≡ ds ++ more → new ≡ front ++ block_decl_faults is_main first all
block_faults_step is_main first old ds more all front fs new block before step is =
    step
    ∙ (ap (λ b. fs ++ block_decl_faults is_main b more) block
    ∙ (ap (λ l. l ++ block_decl_faults is_main (declared_block first ds) more) before
    ∙ (append_assoc front (block_decl_faults is_main first ds) (block_decl_faults is_main (declared_block first ds) more)
    ∙ ap (λ l. front ++ l) (sym (decl_faults_join is_main first ds more) ∙ ap (block_decl_faults is_main first) (sym is)))))

-- what one declaration declares
pub one_declared : (ds : List PackageDeclaration) (d : PackageDeclaration) (b new : List (List ℕ × DeclRef)) → d ∷ [] ≡ ds → new ≡ with_declared b d → new ≡ declared_block b ds
one_declared ds d b new is step = step ∙ ap (declared_block b) is

pub one_faults : (is_main : Bool) (ds : List PackageDeclaration) (d : PackageDeclaration) (b : List (List ℕ × DeclRef)) (old new : List BlockFault) → d ∷ [] ≡ ds → new ≡ old ++ decl_faults_at is_main b d → new ≡ old ++ block_decl_faults is_main b ds
one_faults is_main ds d b old new is step = step ∙ ap (λ fs. old ++ fs) (sym (append-nil (decl_faults_at is_main b d)) ∙ ap (block_decl_faults is_main b) is)

-- bindings, of which some are left
pub bound_step : (table new whole : List (List ℕ × Binding)) (b : Bound) (left rest : List Bound) → left ≡ b ∷ rest → new ≡ with_bound table b → bound_block table left ≡ whole → bound_block new rest ≡ whole
bound_step table new whole b left rest is step before = ap (λ t. bound_block t rest) step ∙ (ap (bound_block table) (sym is) ∙ before)

pub bound_faults_step : (names : List (List ℕ × DeclRef)) (file : ℕ) (table new : List (List ℕ × Binding)) (b : Bound) (left rest : List Bound) (old more whole : List BlockFault) → left ≡ b ∷ rest → new ≡ with_bound table b → more ≡ old ++ bound_faults_at names file table b → old ++ bound_faults names file table left ≡ whole → more ++ bound_faults names file new rest ≡ whole
bound_faults_step names file table new b left rest old more whole is step added before =
    ap (λ t. more ++ bound_faults names file t rest) step
    ∙ (ap (λ l. l ++ bound_faults names file (with_bound table b) rest) added
    ∙ (append_assoc old (bound_faults_at names file table b) (bound_faults names file (with_bound table b) rest)
    ∙ (ap (λ l. old ++ bound_faults names file table l) (sym is) ∙ before)))

-- one file more
pub file_faults_more : (names : List (List ℕ × DeclRef)) (file : ℕ) (fs : List (List NamedImport)) (f : List NamedImport) → block_file_faults names file (fs ++ f ∷ []) ≡ block_file_faults names file fs ++ bound_faults names (file + length fs) [] (file_bound f)
file_faults_more names file [] f = append-nil (bound_faults names file [] (file_bound f)) ∙ ap (λ i. bound_faults names i [] (file_bound f)) (let e : file ≡ file + 0 = omega arith in e)
file_faults_more names file (g ∷ fs) f =
    ap (λ l. bound_faults names file [] (file_bound g) ++ l) (file_faults_more names (file + 1) fs f)
    ∙ sym (append_assoc (bound_faults names file [] (file_bound g)) (block_file_faults names (file + 1) fs) (bound_faults names (file + 1 + length fs) [] (file_bound f)))
    ∙ ap (λ i. (bound_faults names file [] (file_bound g) ++ block_file_faults names (file + 1) fs) ++ bound_faults names i [] (file_bound f)) (let e : file + 1 + length fs ≡ file + suc (length fs) = omega arith in e)

-- the name in the first clause is that of the package
pub main_of_name : (ts : Trees) (name : List ℕ) → IsPackageName ts name → bytes_eq name main ≡ is_main_package ts
main_of_name [] name h = absurd (let l : 0 < length {A = List ℕ × FileTree} [] = h.some in omega arith)
main_of_name (t ∷ ts) name h = ap (λ n. bytes_eq n main) (sym (h.same 0 t (omega arith)))

-- steps of loops

pub faults_step : (first old new a at b : List BlockFault) → old ≡ first ++ a → new ≡ old ++ at → b ≡ a ++ at → new ≡ first ++ b
faults_step first old new a at b old_is new_is b_is = new_is ∙ (ap (λ l. l ++ at) old_is ∙ (append_assoc first a at ∙ ap (λ l. first ++ l) (sym b_is)))

-- the faults of two tests
pub two_faults : (first mid new : List BlockFault) (f g : BlockFault) {is_f is_g f_holds g_holds : Bool} → is_f ≡ f_holds → is_g ≡ g_holds → mid ≡ first ++ fault_if is_f f → new ≡ mid ++ fault_if is_g g → new ≡ first ++ (fault_if f_holds f ++ fault_if g_holds g)
two_faults first mid new f g {f_holds = f_holds} {g_holds = g_holds} same_f same_g mid_is new_is =
    new_is
    ∙ (ap (λ b. mid ++ fault_if b g) same_g
    ∙ (ap (λ l. l ++ fault_if g_holds g) (mid_is ∙ ap (λ b. first ++ fault_if b f) same_f)
    ∙ append_assoc first (fault_if f_holds f) (fault_if g_holds g)))

pub files_step : (files : List (Vec NamedImport Global)) (i : ℕ) (d : Vec NamedImport Global) → i < length files → d ≡ get_or files i d → map imports_in (take (i + 1) files) ≡ map imports_in (take i files) ++ d.items ∷ []
files_step files i d lt is = map_more imports_in files i d lt ∙ ap (λ x. map imports_in (take i files) ++ imports_in x ∷ []) (sym is)

pub same_count : (ts : List (Named Binding)) (fs : List (List NamedImport)) → map block_of ts ≡ file_blocks fs → length ts ≡ length fs
same_count ts fs e = sym (length-map ts block_of) ∙ (ap length e ∙ length-map fs file_block)

pub tables_step : (old new : List (Named Binding)) (t : Named Binding) (files : List (Vec NamedImport Global)) (i : ℕ) (d : Vec NamedImport Global) → i < length files → d ≡ get_or files i d → map block_of old ≡ file_blocks (map imports_in (take i files)) → block_of t ≡ file_block d.items → new ≡ old ++ t ∷ [] → map block_of new ≡ file_blocks (map imports_in (take (i + 1) files))
tables_step old new t files i d lt is before table e =
    ap (map block_of) e
    ∙ (map-append block_of old (t ∷ [])
    ∙ (ap (λ l. l ++ block_of t ∷ []) before
    ∙ (ap (λ b. file_blocks (map imports_in (take i files)) ++ b ∷ []) table
    ∙ (sym (map-append file_block (map imports_in (take i files)) (d.items ∷ []))
    ∙ ap file_blocks (sym (files_step files i d lt is))))))

pub file_faults_step : (names : List (List ℕ × DeclRef)) (files : List (Vec NamedImport Global)) (i : ℕ) (d : Vec NamedImport Global) (number : ℕ) → i < length files → d ≡ get_or files i d → number ≡ length (map imports_in (take i files)) → block_file_faults names 0 (map imports_in (take (i + 1) files)) ≡ block_file_faults names 0 (map imports_in (take i files)) ++ bound_faults names number [] (file_bound d.items)
file_faults_step names files i d number lt is count =
    ap (block_file_faults names 0) (files_step files i d lt is)
    ∙ (file_faults_more names 0 (map imports_in (take i files)) d.items
    ∙ ap (λ n. block_file_faults names 0 (map imports_in (take i files)) ++ bound_faults names n [] (file_bound d.items)) (let e : 0 + length (map imports_in (take i files)) ≡ number = omega arith in e))

-- the name of a package is that in its first clause
pub clause_of_name : (ts : Trees) (name : List ℕ) → IsPackageName ts name → name ≡ clause_name ts
clause_of_name [] name h = absurd (let l : 0 < length {A = List ℕ × FileTree} [] = h.some in omega arith)
clause_of_name (t ∷ ts) name h = sym (h.same 0 t (omega arith))
