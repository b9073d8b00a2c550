-- The blocks of a package where an identifier that is used in it has another spelling.
use Rattle.std.proofs.Common.{◌≡◌, ℕ, ◌+◌, Bool, false, ◌&&◌, List, [], ◌∷◌, ◌++◌, length, map, Option, Some, None, refl, sym, ap, subst, ◌∙◌}
use Rattle.std.specs.List.{flat_map}
use Rattle.std.proofs.lemmas.List.{map-append}
use Rattle.go_site_core.specs.text_core.declared.span.Span.{Span}
use Rattle.go_tree_nodes.specs.declared.names.Ident.{Ident}
use Rattle.go_tree_nodes.specs.declared.decls.ValueKind.{ValueKind}
use Rattle.go_tree_nodes.specs.declared.files.Receiver.{Receiver}
use Rattle.go_tree_nodes.specs.Trees.{Separated, One, Then, ParamTrees, NoParams, Param, ResultTree, NoResult, OneResult, Results, SignatureTree, Signed, ValueSpecTree, TypeSpecTree, Specs, Single, Group, FuncTree, Lines, DeclTree, Value, Types, Func, TopTree, FileTree, of_specs}
use Rattle.go_tree_core.specs.copies.Respelled.{some_with, params_with, result_with, signature_with, receiver_with, top_with}
use Rattle.go_term_core.specs.decl_core.declared.places.DeclKind.{DeclKind}
use Rattle.go_term_core.specs.decl_core.Outer.{Outer, kind_of_value, kind_of_func, value_spec_outers, type_spec_outers, decl_outers}
use Rattle.go_term_core.specs.decl_core.TopDecls.{FormTree, ValueForm, TypeForm, FuncForm, TopDeclTree, top_decl, numbered, named_decls, value_spec_decls, type_spec_decls, specs_decls, decl_decls, tops_decls}
use Rattle.go_graph_core.specs.Packages.{Trees}
use Rattle.go_names_core.specs.block_core.declared.imports.Imported.{Imported}
use Rattle.go_names_core.specs.block_core.declared.imports.NamedImport.{NamedImport}
use Rattle.go_names_core.specs.block_core.declared.fault.BlockFault.{BlockFault}
use Rattle.go_names_core.specs.block_core.Blocks.{BlocksModel, AreBlocks, HoldsEachOnce}
use Rattle.go_names_core.specs.block_core.Declarations.{PackageDeclaration, decl_ref, without_params, without_results, is_procedure, has_receiver, unless_method, top_declared, file_declared, files_declared, package_declared, is_main_package}
use Rattle.go_names_core.specs.block_core.Faults.{block_decl_faults, block_file_faults, all_block_faults}
use Rattle.go_names_core.specs.block_core.Holding.{declared_block, file_blocks}
use Rattle.go_names_core.specs.block_core.Naming.{specs_named, file_specs, file_named, package_named}
use Rattle.go_names_core.specs.block_core.OneBlocks.{one_blocks_alone}
use Rattle.go_query_core.specs.complete_core.SpellingTrees.{RespellsValues, InValues, value_spec_with}
use Rattle.go_query_core.specs.complete_core.SpellingFiles.{WritesInGroup, AtFirst, AtLater, WritesInSpecs, InTheOnly, InTheGroup, WritesInTops, InTop, InLaterTops, WritesBody, InFunc, BehindTop}
use Rattle.go_query_core.specs.complete_core.SpellingOuter.{RespellsTypeGroup, InFirstType, InLaterTypes, RespellsTypeSpecs, InOneType, InTypeGroup, RespellsOuterType, InValueType, InTypeDecl, InReceiverType, InHeaderType, RespellsOuterTops, InOuterTop, BehindOuterTop}
use Rattle.go_query_core.specs.complete_core.SpellingSpellings.{RespellsTops, InInitialiser, InOuterTypes, InBody}
use Rattle.go_answer_laws.proofs.CompletionsOuters.{form_with, decl_anew, tops_with}

-- the identifiers of declarations

abbrev listed : Separated Ident → List Ident
listed (One x) = x ∷ []
listed (Then x comma xs) = x ∷ listed xs

abbrev spec_idents : ValueSpecTree → List Ident
spec_idents v = listed v.names

abbrev type_ident : TypeSpecTree → List Ident
type_ident t = t.name ∷ []

abbrev decl_idents : DeclTree → List Ident
decl_idents (Value v) = of_specs spec_idents v.specs
decl_idents (Types t) = of_specs type_ident t.specs
decl_idents (Func f) = f.name ∷ []

abbrev tops_idents : List TopTree → List Ident
tops_idents ds = flat_map (λ d. decl_idents d.decl) ds

abbrev idents_of : List TopDeclTree → List Ident
idents_of ds = map (λ d. d.ident) ds

named_listed : (k : ValueKind) (v : ValueSpecTree) (n i : ℕ) (xs : Separated Ident) → idents_of (named_decls k v n i xs) ≡ listed xs
named_listed k v n i (One x) = refl
named_listed k v n i (Then x comma xs) = ap (λ l. x ∷ l) (named_listed k v n (i + 1) xs)

numbered_listed : {A : Type 0} (names : A → List Outer) (decls : ℕ → A → List TopDeclTree) (ids : A → List Ident) → ((n : ℕ) (a : A) → idents_of (decls n a) ≡ ids a) → (n : ℕ) (items : List A) → idents_of (numbered names decls n items) ≡ flat_map ids items
numbered_listed names decls ids each n [] = refl
numbered_listed names decls ids each n (a ∷ items) =
    map-append (λ (d : TopDeclTree). d.ident) (decls n a) (numbered names decls (n + length (names a)) items)
    ∙ (ap (λ l. l ++ idents_of (numbered names decls (n + length (names a)) items)) (each n a) ∙ ap (λ l. ids a ++ l) (numbered_listed names decls ids each (n + length (names a)) items))

specs_listed : {A : Type 0} (names : A → List Outer) (decls : ℕ → A → List TopDeclTree) (ids : A → List Ident) → ((n : ℕ) (a : A) → idents_of (decls n a) ≡ ids a) → (n : ℕ) (s : Specs A) → idents_of (specs_decls names decls n s) ≡ of_specs ids s
specs_listed names decls ids each n (Single a) = each n a
specs_listed names decls ids each n (Group first ls last) = numbered_listed (λ l. names l.0) (λ n l. decls n l.0) (λ l. ids l.0) (λ n l. each n l.0) n ls

decl_listed : (n : ℕ) (d : DeclTree) → idents_of (decl_decls n d) ≡ decl_idents d
decl_listed n (Value v) = specs_listed (value_spec_outers v.kind) (value_spec_decls v.kind) spec_idents (λ n w. named_listed v.kind w n 0 w.names) n v.specs
decl_listed n (Types t) = specs_listed type_spec_outers type_spec_decls type_ident (λ n s. refl) n t.specs
decl_listed n (Func f) = refl

tops_listed : (n : ℕ) (ds : List TopTree) → idents_of (tops_decls n ds) ≡ tops_idents ds
tops_listed n ds = numbered_listed (λ (t : TopTree). decl_outers t.decl) (λ n (t : TopTree). decl_decls n t.decl) (λ (t : TopTree). decl_idents t.decl) (λ n t. decl_listed n t.decl) n ds

-- they keep their spelling

module _ (x : Ident) (name : List ℕ) where
  spec_keeps : (v w : ValueSpecTree) → RespellsValues x name v w → spec_idents w ≡ spec_idents v
  spec_keeps v w (InValues r) = refl

  -- a specification of the same names

  group_keeps : (v w : ValueSpecTree) → spec_idents w ≡ spec_idents v → (vs ws : List (ValueSpecTree × Option Span)) → WritesInGroup v w vs ws → flat_map (λ l. spec_idents l.0) ws ≡ flat_map (λ l. spec_idents l.0) vs
  group_keeps v w same vs ws (AtFirst {more = more}) = ap (λ l. l ++ flat_map (λ (l : ValueSpecTree × Option Span). spec_idents l.0) more) same
  group_keeps v w same vs ws (AtLater {u = u} {more = more} {rest = rest} s) = ap (λ l. spec_idents u.0 ++ l) (group_keeps v w same more rest s)

  specs_keep : (v w : ValueSpecTree) → spec_idents w ≡ spec_idents v → (vs ws : Specs ValueSpecTree) → WritesInSpecs v w vs ws → of_specs spec_idents ws ≡ of_specs spec_idents vs
  specs_keep v w same vs ws InTheOnly = same
  specs_keep v w same vs ws (InTheGroup {vs = olds} {ws = news} s) = group_keeps v w same olds news s

  tops_keep : (v w : ValueSpecTree) → spec_idents w ≡ spec_idents v → (ds es : List TopTree) → WritesInTops v w ds es → tops_idents es ≡ tops_idents ds
  tops_keep v w same ds es (InTop {vs = vs} {ws = ws} {more = more} s) = ap (λ l. l ++ tops_idents more) (specs_keep v w same vs ws s)
  tops_keep v w same ds es (InLaterTops {d = d} {more = more} {rest = rest} s) = ap (λ l. decl_idents d.decl ++ l) (tops_keep v w same more rest s)

  body_keeps : (f : FuncTree) (body : Lines) (ds es : List TopTree) → WritesBody f body ds es → tops_idents es ≡ tops_idents ds
  body_keeps f body ds es InFunc = refl
  body_keeps f body ds es (BehindTop {d = d} {more = more} {rest = rest} s) = ap (λ l. decl_idents d.decl ++ l) (body_keeps f body more rest s)

  type_group_keeps : (ts us : List (TypeSpecTree × Option Span)) → RespellsTypeGroup x name ts us → flat_map (λ l. type_ident l.0) us ≡ flat_map (λ l. type_ident l.0) ts
  type_group_keeps ts us (InFirstType r) = refl
  type_group_keeps ts us (InLaterTypes {a = a} {more = more} {rest = rest} r) = ap (λ l. type_ident a.0 ++ l) (type_group_keeps more rest r)

  type_specs_keep : (ts us : Specs TypeSpecTree) → RespellsTypeSpecs x name ts us → of_specs type_ident us ≡ of_specs type_ident ts
  type_specs_keep ts us (InOneType r) = refl
  type_specs_keep ts us (InTypeGroup {ts = olds} {us = news} r) = type_group_keeps olds news r

  outer_keeps : (d e : DeclTree) → RespellsOuterType x name d e → decl_idents e ≡ decl_idents d
  outer_keeps d e (InValueType {vs = vs} {ws = ws} {xs = xs} {t = t} {u = u} {values = values} r s) = specs_keep (value_spec_with xs (Some t) values) (value_spec_with xs (Some u) values) refl vs ws s
  outer_keeps d e (InTypeDecl {ts = ts} {us = us} r) = type_specs_keep ts us r
  outer_keeps d e (InReceiverType is r) = refl
  outer_keeps d e (InHeaderType r) = refl

  outers_keep : (ds es : List TopTree) → RespellsOuterTops x name ds es → tops_idents es ≡ tops_idents ds
  outers_keep ds es (InOuterTop {d = d} {e = e} {more = more} r) = ap (λ l. l ++ tops_idents more) (outer_keeps d e r)
  outers_keep ds es (BehindOuterTop {d = d} {more = more} {rest = rest} r) = ap (λ l. decl_idents d.decl ++ l) (outers_keep more rest r)

  idents_stay : (ds es : List TopTree) → RespellsTops x name ds es → tops_idents es ≡ tops_idents ds
  idents_stay ds es (InInitialiser {v = v} {w = w} r s) = tops_keep v w (spec_keeps v w r) ds es s
  idents_stay ds es (InOuterTypes r) = outers_keep ds es r
  idents_stay ds es (InBody {f = f} {body = body} r s) = body_keeps f body ds es s

-- what the package block is given

abbrev first_or : Ident → List Ident → Ident
first_or y [] = y
first_or y (x ∷ xs) = x

abbrev rest_of : List Ident → List Ident
rest_of [] = []
rest_of (x ∷ xs) = xs

abbrev view : ℕ → ℕ → Bool → DeclKind → Bool → Ident → List PackageDeclaration
view k n method kind procedure x = unless_method method (record { name = x.name; at = x.span.start; decl = decl_ref k n kind; is_procedure = procedure })

module _ (h : Ident → Ident) where
  no_params : (ps : ParamTrees) → without_params (params_with h ps) ≡ without_params ps
  no_params NoParams = refl
  no_params (Param xs t comma ps) = refl

  no_results : (q : ResultTree) → without_results (result_with h q) ≡ without_results q
  no_results NoResult = refl
  no_results (OneResult t) = refl
  no_results (Results first ps last) = no_params ps

  procedure_same : (g : SignatureTree) → is_procedure (signature_with h g) ≡ is_procedure g
  procedure_same (Signed first ps last q) = ap (λ b. b && without_results (result_with h q)) (no_params ps) ∙ ap (λ b. without_params ps && b) (no_results q)

  method_same : (q : Option Receiver) → has_receiver (some_with (receiver_with h) q) ≡ has_receiver q
  method_same None = refl
  method_same (Some q) = refl

  kind_same : (q : Option Receiver) → kind_of_func (some_with (receiver_with h) q) ≡ kind_of_func q
  kind_same None = refl
  kind_same (Some q) = refl

  one_same : (k : ℕ) (x : Ident) (n : ℕ) (form : FormTree) → h x ≡ x → top_declared k (top_decl (h x) n (form_with h form)) ≡ top_declared k (top_decl x n form)
  one_same k x n (ValueForm v w i) e = ap (view k n false (kind_of_value v) false) e
  one_same k x n (TypeForm t) e = ap (λ y. top_declared k (top_decl y n (TypeForm t))) e
  one_same k x n (FuncForm f) e =
      ap (view k n (has_receiver (some_with (receiver_with h) f.receiver)) (kind_of_func (some_with (receiver_with h) f.receiver)) (is_procedure (signature_with h f.signature))) e
      ∙ (ap (λ b. view k n b (kind_of_func (some_with (receiver_with h) f.receiver)) (is_procedure (signature_with h f.signature)) x) (method_same f.receiver)
      ∙ (ap (λ d. view k n (has_receiver f.receiver) d (is_procedure (signature_with h f.signature)) x) (kind_same f.receiver)
      ∙ ap (λ b. view k n (has_receiver f.receiver) (kind_of_func f.receiver) b x) (procedure_same f.signature)))

  all_same : (k : ℕ) (ds : List TopDeclTree) → idents_of (map (decl_anew h) ds) ≡ idents_of ds → flat_map (top_declared k) (map (decl_anew h) ds) ≡ flat_map (top_declared k) ds
  all_same k [] e = refl
  all_same k (d ∷ ds) e =
      let first : h d.ident ≡ d.ident = ap (first_or d.ident) e in
      ap (λ l. l ++ flat_map (top_declared k) (map (decl_anew h) ds)) (one_same k d.ident d.number d.form first) ∙ ap (λ l. top_declared k d ++ l) (all_same k ds (ap rest_of e))

  -- of a file
  pub file_same : (k : ℕ) (x : Ident) (name : List ℕ) (f g : FileTree) → g.decls ≡ map (top_with h) f.decls → RespellsTops x name f.decls g.decls → file_declared k g ≡ file_declared k f
  file_same k x name f g is r =
      let anew : tops_decls 0 g.decls ≡ map (decl_anew h) (tops_decls 0 f.decls) = ap (tops_decls 0) is ∙ tops_with h 0 f.decls in
      let kept : idents_of (map (decl_anew h) (tops_decls 0 f.decls)) ≡ idents_of (tops_decls 0 f.decls) =
      ap idents_of (sym anew) ∙ (tops_listed 0 g.decls ∙ (idents_stay x name f.decls g.decls r ∙ sym (tops_listed 0 f.decls))) in
      ap (λ l. flat_map (top_declared k) l) anew ∙ all_same k (tops_decls 0 f.decls) kept

-- packages in which one file has another tree, that declares and imports the same

module _ (file : List ℕ) (f g : FileTree) (declares : (k : ℕ) → file_declared k g ≡ file_declared k f) (specs : file_specs g ≡ file_specs f) (clause : g.name ≡ f.name) (back : Trees) where
  abbrev old : Trees → Trees
  old front = front ++ (file, f) ∷ back

  abbrev new : Trees → Trees
  new front = front ++ (file, g) ∷ back

  declared_same : (k : ℕ) (front : Trees) → files_declared k (new front) ≡ files_declared k (old front)
  declared_same k [] = ap (λ l. l ++ files_declared (k + 1) back) (declares k)
  declared_same k (t ∷ ts) = ap (λ l. file_declared k t.1 ++ l) (declared_same (k + 1) ts)

  named_same : (front : Trees) (is : List (List Imported)) → package_named (new front) is ≡ package_named (old front) is
  named_same [] [] = refl
  named_same [] (i ∷ is) = ap (λ ss. specs_named ss i ∷ package_named back is) specs
  named_same (t ∷ ts) [] = refl
  named_same (t ∷ ts) (i ∷ is) = ap (λ l. file_named t.1 i ∷ l) (named_same ts is)

  main_same : (front : Trees) → is_main_package (new front) ≡ is_main_package (old front)
  main_same [] = ap (λ (n : Ident). is_main_package ((file, record { clause = f.clause; name = n; semicolon = f.semicolon; imports = f.imports; decls = f.decls }) ∷ back)) clause
  main_same (t ∷ ts) = refl

  abbrev faults_by : Bool → List PackageDeclaration → List (List NamedImport) → List BlockFault
  faults_by main ds is = block_decl_faults main [] ds ++ block_file_faults (declared_block [] ds) 0 is

  pub blocks_same : (front : Trees) (is : List (List Imported)) (b c : BlocksModel) → AreBlocks (old front) (package_named (old front) is) b → AreBlocks (new front) (package_named (new front) is) c → c ≡ b
  blocks_same front is b c one two =
      let same = declared_same 0 front in
      let names = named_same front is in
      let faults : all_block_faults (new front) (package_named (new front) is) ≡ all_block_faults (old front) (package_named (old front) is) =
      ap (λ m. faults_by m (package_declared (new front)) (package_named (new front) is)) (main_same front)
      ∙ (ap (λ ds. faults_by (is_main_package (old front)) ds (package_named (new front) is)) same ∙ ap (λ ns. faults_by (is_main_package (old front)) (package_declared (old front)) ns) names) in
      one_blocks_alone (old front) (package_named (old front) is) c b
      (record {
        package_names = two.package_names ∙ ap (declared_block []) same;
        file_names = two.file_names ∙ ap file_blocks names;
        faults = subst (λ fs. HoldsEachOnce fs c.faults) faults two.faults;
      })
      one
