-- The declarations and the bindings of a package are listed in order.
use Rattle.std.proofs.Common.{◌≡◌, ℕ, ◌+◌, ◌<◌, ◌≤◌, suc, Bool, true, false, cond, inl, inr, List, [], ◌∷◌, ◌++◌, map, length, All, Option, Some, None, refl, sym, ap, subst, arith}
use Rattle.std.specs.Prelude.{⊤, AllPairs}
use Rattle.std.specs.List.{flat_map}
use Rattle.std.proofs.lemmas.List.Elements.{All-cons, All-append, All-head, All-tail}
use Rattle.std.proofs.lemmas.List.{length-map, length-append, get_or-map}
use Rattle.std.proofs.lemmas.List.Kept.{AllPairs-cons, AllPairs-from_increasing}
use Rattle.go_tree_nodes.specs.text_core.declared.span.Span.{Span}
use Rattle.go_tree_nodes.specs.text_core.Text.{is_blank}
use Rattle.go_tree_nodes.specs.declared.names.Ident.{Ident}
use Rattle.go_tree_nodes.specs.declared.decls.ValueKind.{ValueKind}
use Rattle.go_tree_nodes.specs.declared.files.Receiver.{Receiver}
use Rattle.go_tree_nodes.specs.Terminals.{Terminal}
use Rattle.go_tree_nodes.specs.Trees.{Separated, One, Then, Specs, Single, Group, ValueSpecTree, TypeSpecTree, FuncTree, DeclTree, Value, Types, Func, TopTree, FileTree, of_specs}
use Rattle.go_tree_nodes.specs.Spelling.{spell_ident, spell_idents, spell_value_spec, spell_specs_of, spell_specs, spell_type_spec, spell_receiver, spell_decl, spell_tops, spell_file, IsPlaced}
use Rattle.go_graph_core.specs.Packages.{Trees}
use Rattle.go_decl_core.specs.declared.places.DeclKind.{DeclKind}
use Rattle.go_decl_core.specs.Outer.{Outer, Manner, outer, idents_outers, kind_of_value, kind_of_func, rest_outers, value_spec_outers, type_spec_outers, receiver_outers, signature_outers, func_outers, decl_outers, outer_names, Whole}
use Rattle.go_decl_core.specs.TopDecls.{FormTree, ValueForm, TypeForm, FuncForm, TopDeclTree, top_decl, numbered, named_decls, value_spec_decls, type_spec_decls, specs_decls, func_decls, decl_decls, top_decls}
use Rattle.go_block_core.specs.declared.binding.Target.{Target}
use Rattle.go_block_core.specs.declared.imports.ImportForm.{ImportForm}
use Rattle.go_block_core.specs.declared.imports.ImportForm.TheVariants as forms
use Rattle.go_block_core.specs.declared.imports.Imported.{Imported}
use Rattle.go_block_core.specs.declared.imports.Imported.TheVariants as given
use Rattle.go_block_core.specs.declared.imports.NamedImport.{NamedImport}
use Rattle.go_decl_core.specs.declared.keys.DeclRef.{DeclRef}
use Rattle.go_block_core.specs.Bindings.{Bound, bound_as, bound_if, import_target, exported_bound, dot_bound, form_bound, import_bound, file_bound}
use Rattle.go_block_core.specs.Declarations.{PackageDeclaration, declaration, is_method_form, unless_method, top_declared, file_declared, files_declared}
use Rattle.go_block_core.specs.Laws.{StandsBefore, ArePlaced, DeclarationsInOrder, BindingsInOrder}
use Rattle.go_block_core.proofs.Rising.{Rises, Gives, rises_lower, rises_join, gives_none, gives_skip, gives_one, gives_both, gives_first, gives_second}

-- pairs of lists that are put together
module _ {T : Type 0} (R : T → T → Type 0) where
  pub pairs_append : (xs ys : List T) → AllPairs R xs → AllPairs R ys → All (λ x. All (R x) ys) xs → AllPairs R (xs ++ ys)
  pairs_append [] ys p q cross = q
  pairs_append (x ∷ xs) ys p q cross =
      AllPairs-cons R x (xs ++ ys)
      (All-append (R x) xs ys (λ k d lt. p 0 (suc k) d (omega arith) (omega arith)) (cross 0 x (omega arith)))
      (pairs_append xs ys (λ i j d low high. p (suc i) (suc j) d (omega arith) (omega arith)) q (λ k d lt. cross (suc k) d (omega arith)))

-- the declarations of a file, by place and by number

abbrev Any : TopDeclTree → Type 0
Any d = ⊤

abbrev place : TopDeclTree → ℕ
place d = d.ident.span.start

abbrev number : TopDeclTree → ℕ
number d = d.number

abbrev GivesTops : List Terminal → List TopDeclTree → Type 0
GivesTops ts ds = Gives Any place ts ds

gives_name : {x : Ident} {n : ℕ} {form : FormTree} {ts : List Terminal} {ds : List TopDeclTree} → GivesTops ts ds → GivesTops (spell_ident x ∷ ts) (top_decl x n form ∷ ds)
gives_name m = gives_one tt refl refl m

idents_give : (k : ValueKind) (v : ValueSpecTree) (n i : ℕ) (xs : Separated Ident) → GivesTops (spell_idents xs) (named_decls k v n i xs)
idents_give k v n i (One x) = gives_name gives_none
idents_give k v n i (Then x comma xs) = gives_name (gives_skip (idents_give k v n (i + 1) xs))

value_gives : (k : ValueKind) (n : ℕ) (v : ValueSpecTree) → GivesTops (spell_value_spec v) (value_spec_decls k n v)
value_gives k n v = gives_first _ (idents_give k v n 0 v.names)

type_gives : (n : ℕ) (t : TypeSpecTree) → GivesTops (spell_type_spec t) (type_spec_decls n t)
type_gives n t = gives_name gives_none

group_gives : {A : Type 0} (spell : A → List Terminal) (names : A → List Outer) (decls : ℕ → A → List TopDeclTree) → ((n : ℕ) (x : A) → GivesTops (spell x) (decls n x)) → (n : ℕ) (ls : List (A × Option Span)) → GivesTops (spell_specs_of spell ls) (numbered (λ l. names l.0) (λ n l. decls n l.0) n ls)
group_gives spell names decls each n [] = gives_none
group_gives spell names decls each n (l ∷ ls) = gives_both (each n l.0) (gives_second _ (group_gives spell names decls each (n + length (names l.0)) ls))

specs_give : {A : Type 0} (spell : A → List Terminal) (names : A → List Outer) (decls : ℕ → A → List TopDeclTree) → ((n : ℕ) (x : A) → GivesTops (spell x) (decls n x)) → (n : ℕ) (s : Specs A) → GivesTops (spell_specs spell s) (specs_decls names decls n s)
specs_give spell names decls each n (Single x) = each n x
specs_give spell names decls each n (Group first ls last) = gives_skip (gives_first _ (group_gives spell names decls each n ls))

func_gives : (r : Option Receiver) (x : Ident) (n : ℕ) (form : FormTree) (rest : List Terminal) → GivesTops (spell_receiver r ++ (spell_ident x ∷ rest)) (top_decl x n form ∷ [])
func_gives r x n form rest = gives_second (spell_receiver r) (gives_name gives_none)

decl_gives : (n : ℕ) (d : DeclTree) → GivesTops (spell_decl d) (decl_decls n d)
decl_gives n (Value v) = gives_skip (specs_give spell_value_spec (value_spec_outers v.kind) (value_spec_decls v.kind) (value_gives v.kind) n v.specs)
decl_gives n (Types t) = gives_skip (specs_give spell_type_spec type_spec_outers type_spec_decls type_gives n t.specs)
decl_gives n (Func f) = gives_skip (func_gives f.receiver f.name (n + length (receiver_outers f.receiver)) (FuncForm f) _)

tops_give : (n : ℕ) (ts : List TopTree) → GivesTops (spell_tops ts) (numbered (λ t. decl_outers t.decl) (λ n t. decl_decls n t.decl) n ts)
tops_give n [] = gives_none
tops_give n (t ∷ ts) = gives_both (decl_gives n t.decl) (gives_skip (tops_give (n + length (decl_outers t.decl)) ts))

file_gives : (f : FileTree) → GivesTops (spell_file f) (top_decls f)
file_gives f = gives_skip (gives_skip (gives_skip (gives_second _ (tops_give 0 f.decls))))

-- numbers rise

abbrev Numbers : ℕ → List TopDeclTree → ℕ → Type 0
Numbers low ds high = Rises Any number low ds high

longer : {A : Type 0} (n : ℕ) (xs ys : List A) → n + length xs + length ys ≡ n + length (xs ++ ys)
longer n xs ys = omega (arith, length-append xs ys)

numbered_rise : {A : Type 0} (names : A → List Outer) (decls : ℕ → A → List TopDeclTree) → ((n : ℕ) (x : A) → Numbers n (decls n x) (n + length (names x))) → (n : ℕ) (xs : List A) → Numbers n (numbered names decls n xs) (n + length (flat_map names xs))
numbered_rise names decls each n [] = (let e : n ≤ n + 0 = omega arith in e)
numbered_rise names decls each n (x ∷ xs) =
    rises_join Any number (decls n x) (numbered names decls (n + length (names x)) xs) n (n + length (names x)) (n + length (names x ++ flat_map names xs)) (each n x)
    (subst (Numbers (n + length (names x)) (numbered names decls (n + length (names x)) xs)) (longer n (names x) (flat_map names xs)) (numbered_rise names decls each (n + length (names x)) xs))

idents_rise : (k : ValueKind) (v : ValueSpecTree) (n i : ℕ) (xs : Separated Ident) → Numbers (n + i) (named_decls k v n i xs) (n + i + length (idents_outers (kind_of_value k) Whole xs))
idents_rise k v n i (One x) = (tt, (let e : n + i ≤ n + i = omega arith in e), (let e : n + i + 1 ≤ n + i + 1 = omega arith in e))
idents_rise k v n i (Then x comma xs) =
    let low : n + (i + 1) ≡ n + i + 1 = omega arith in
    let high : n + (i + 1) + length (idents_outers (kind_of_value k) Whole xs) ≡ n + i + suc (length (idents_outers (kind_of_value k) Whole xs)) = omega arith in (
      tt,
      (let e : n + i ≤ n + i = omega arith in e),
      subst (λ l. Numbers l (named_decls k v n (i + 1) xs) (n + i + suc (length (idents_outers (kind_of_value k) Whole xs)))) low
          (subst (Numbers (n + (i + 1)) (named_decls k v n (i + 1) xs)) high (idents_rise k v n (i + 1) xs)),
    )

-- a larger bound
rises_higher : (ds : List TopDeclTree) (low high higher : ℕ) → high ≤ higher → Numbers low ds high → Numbers low ds higher
rises_higher [] low high higher le h = omega (arith, le, h)
rises_higher (d ∷ ds) low high higher le h = (tt, h.1, rises_higher ds (number d + 1) high higher le h.2)

value_rise : (k : ValueKind) (n : ℕ) (v : ValueSpecTree) → Numbers n (value_spec_decls k n v) (n + length (value_spec_outers k v))
value_rise k n v =
    let names = idents_outers (kind_of_value k) Whole v.names in
    let low : n + 0 ≡ n = omega arith in
    let le : n + 0 + length names ≤ n + length (names ++ rest_outers v) = omega (arith, length-append names (rest_outers v)) in
    rises_higher (value_spec_decls k n v) n (n + 0 + length names) (n + length (names ++ rest_outers v)) le
    (subst (λ l. Numbers l (value_spec_decls k n v) (n + 0 + length names)) low (idents_rise k v n 0 v.names))

one_rises : (x : Ident) (n m : ℕ) (form : FormTree) (high : ℕ) → n ≤ m → m < high → Numbers n (top_decl x m form ∷ []) high
one_rises x n m form high le lt = (tt, le, (let e : m + 1 ≤ high = omega arith in e))

type_rise : (n : ℕ) (t : TypeSpecTree) → Numbers n (type_spec_decls n t) (n + length (type_spec_outers t))
type_rise n t = one_rises t.name n n (TypeForm t) (n + length (type_spec_outers t)) (omega arith) (omega arith)

specs_rise : {A : Type 0} (names : A → List Outer) (decls : ℕ → A → List TopDeclTree) → ((n : ℕ) (x : A) → Numbers n (decls n x) (n + length (names x))) → (n : ℕ) (s : Specs A) → Numbers n (specs_decls names decls n s) (n + length (of_specs names s))
specs_rise names decls each n (Single x) = each n x
specs_rise names decls each n (Group first ls last) = numbered_rise (λ l. names l.0) (λ n l. decls n l.0) (λ n l. each n l.0) n ls

func_rise : (n : ℕ) (f : FuncTree) → Numbers n (func_decls n f) (n + length (func_outers f))
func_rise n f = one_rises f.name n (n + length (receiver_outers f.receiver)) (FuncForm f) (n + length (func_outers f)) (omega arith) (omega (arith, length-append (receiver_outers f.receiver) (outer (kind_of_func f.receiver) Whole f.name ∷ signature_outers f.signature)))

decl_rise : (n : ℕ) (d : DeclTree) → Numbers n (decl_decls n d) (n + length (decl_outers d))
decl_rise n (Value v) = specs_rise (value_spec_outers v.kind) (value_spec_decls v.kind) (value_rise v.kind) n v.specs
decl_rise n (Types t) = specs_rise type_spec_outers type_spec_decls type_rise n t.specs
decl_rise n (Func f) = func_rise n f

file_numbers : (f : FileTree) → Numbers 0 (top_decls f) (0 + length (outer_names f))
file_numbers f = numbered_rise (λ t. decl_outers t.decl) (λ n t. decl_decls n t.decl) (λ n t. decl_rise n t.decl) 0 f.decls

-- each before those behind it

module _ (p : TopDeclTree → ℕ) where
  rises_all : (low : ℕ) (ds : List TopDeclTree) (high : ℕ) → Rises Any p low ds high → All (λ d. low ≤ p d) ds
  rises_all low [] high h = λ k e lt. absurd (omega arith)
  rises_all low (d ∷ ds) high h =
      All-cons (λ e. low ≤ p e) d ds h.1
      (λ k e lt. (let r = rises_all (p d + 1) ds high h.2 k e lt in omega (arith, r, h.1)))

  rises_pairs : (low : ℕ) (ds : List TopDeclTree) (high : ℕ) → Rises Any p low ds high → AllPairs (λ d e. p d < p e) ds
  rises_pairs low [] high h = λ i j e low high. absurd (omega arith)
  rises_pairs low (d ∷ ds) high h =
      AllPairs-cons (λ d e. p d < p e) d ds
      (λ k e lt. (let r = rises_all (p d + 1) ds high h.2 k e lt in omega (arith, r)))
      (rises_pairs (p d + 1) ds high h.2)

abbrev IsAhead : TopDeclTree → TopDeclTree → Type 0
IsAhead d e = (number d < number e) × (place d < place e)

tops_before : (f : FileTree) → IsPlaced f → AllPairs IsAhead (top_decls f)
tops_before f placed = λ i j d low high. (rises_pairs number 0 (top_decls f) (0 + length (outer_names f)) (file_numbers f) i j d low high, rises_pairs place 0 (top_decls f) placed.0 ((file_gives f).rise 0 placed.0 placed.1) i j d low high)

-- what is declared

unless_all : (P : PackageDeclaration → Type 0) (b : Bool) (x : PackageDeclaration) → P x → All P (unless_method b x)
unless_all P true x h = λ k d lt. absurd (omega arith)
unless_all P false x h = All-cons P x [] h (λ k d lt. absurd (omega arith))

unless_pairs : (b : Bool) (x : PackageDeclaration) → AllPairs StandsBefore (unless_method b x)
unless_pairs true x = λ i j d low high. absurd (omega arith)
unless_pairs false x = λ i j d low high. absurd (omega arith)

module _ (file : ℕ) where
  declared_all : (P : PackageDeclaration → Type 0) (ds : List TopDeclTree) → All (λ d. P (declaration file d)) ds → All P (flat_map (top_declared file) ds)
  declared_all P [] h = λ k d lt. absurd (omega arith)
  declared_all P (d ∷ ds) h =
      All-append P (top_declared file d) (flat_map (top_declared file) ds)
      (unless_all P (is_method_form d.form) (declaration file d) (All-head (λ e. P (declaration file e)) d ds h))
      (declared_all P ds (All-tail (λ e. P (declaration file e)) d ds h))

  declared_pairs : (ds : List TopDeclTree) → AllPairs IsAhead ds → AllPairs StandsBefore (flat_map (top_declared file) ds)
  declared_pairs [] h = λ i j d low high. absurd (omega arith)
  declared_pairs (d ∷ ds) h =
      let behind : All (λ e. StandsBefore (declaration file d) (declaration file e)) ds = λ k e lt. (let b = h 0 (suc k) e (omega arith) (omega arith) in inr (refl, b.0, b.1)) in
      pairs_append StandsBefore (top_declared file d) (flat_map (top_declared file) ds)
      (unless_pairs (is_method_form d.form) (declaration file d))
      (declared_pairs ds (λ i j e low high. h (suc i) (suc j) e (omega arith) (omega arith)))
      (unless_all (λ x. All (StandsBefore x) (flat_map (top_declared file) ds)) (is_method_form d.form) (declaration file d) (declared_all (StandsBefore (declaration file d)) ds behind))

  in_file : (f : FileTree) → All (λ d. d.decl.file ≡ file) (file_declared file f)
  in_file f = declared_all (λ d. d.decl.file ≡ file) (top_decls f) (λ k d lt. refl)

files_all : (first : ℕ) (ts : Trees) → All (λ d. first ≤ d.decl.file) (files_declared first ts)
files_all first [] = λ k e lt. absurd (omega arith)
files_all first (t ∷ ts) =
    All-append (λ d. first ≤ d.decl.file) (file_declared first t.1) (files_declared (first + 1) ts)
    (λ k e lt. (let r = in_file first t.1 k e lt in omega (arith, r)))
    (λ k e lt. (let r = files_all (first + 1) ts k e lt in omega (arith, r)))

files_pairs : (first : ℕ) (ts : Trees) → ArePlaced ts → AllPairs StandsBefore (files_declared first ts)
files_pairs first [] h = λ i j e low high. absurd (omega arith)
files_pairs first (t ∷ ts) h =
    pairs_append StandsBefore (file_declared first t.1) (files_declared (first + 1) ts)
    (declared_pairs first (top_decls t.1) (tops_before t.1 (All-head (λ (x : List ℕ × FileTree). IsPlaced x.1) t ts h)))
    (files_pairs (first + 1) ts (All-tail (λ (x : List ℕ × FileTree). IsPlaced x.1) t ts h))
    (λ k e lt. λ j d l. (let r = in_file first t.1 k e lt in let s = files_all (first + 1) ts j d l in inl (omega (arith, r, s))))

pub declarations_in_order : DeclarationsInOrder
declarations_in_order trees h = files_pairs 0 trees h

-- bindings

abbrev IsNotBehind : Bound → Bound → Type 0
IsNotBehind a b = a.binding.at ≤ b.binding.at

abbrev AreAt : ℕ → List Bound → Type 0
AreAt at bs = All (λ b. b.binding.at ≡ at) bs

no_binding : (at : ℕ) → AreAt at []
no_binding at = λ k e lt. absurd (omega arith)

one_binding : (at : ℕ) (name : List ℕ) (t : Target) → AreAt at (bound_as at name t ∷ [])
one_binding at name t = All-cons (λ b. b.binding.at ≡ at) (bound_as at name t) [] refl (no_binding at)

if_binding : (at : ℕ) (name : Option (List ℕ)) (t : Target) → AreAt at (bound_if at name t)
if_binding at None t = no_binding at
if_binding at (Some name) t = one_binding at name t

unless_at : (at : ℕ) (name : List ℕ) (t : Target) (b : Bool) → AreAt at (cond b [] (bound_as at name t ∷ []))
unless_at at name t true = no_binding at
unless_at at name t false = one_binding at name t

exported_at : (at : ℕ) (path : List ℕ) (ns : List (List ℕ × DeclRef)) → AreAt at (map (exported_bound at path) ns)
exported_at at path [] = no_binding at
exported_at at path (n ∷ ns) = All-cons (λ b. b.binding.at ≡ at) (exported_bound at path n) (map (exported_bound at path) ns) refl (exported_at at path ns)

dot_at : (at : ℕ) (i : Imported) → AreAt at (dot_bound at i)
dot_at at (given.«Package» e) = exported_at at e.path e.names
dot_at at (given.Refused rule) = no_binding at

form_at : (at : ℕ) (i : Imported) (f : ImportForm) → AreAt at (form_bound at i f)
form_at at i (forms.Own name) = if_binding at name (import_target i)
form_at at i (forms.Named name) = unless_at at name (import_target i) (is_blank name)
form_at at i forms.Dot = dot_at at i

-- all bindings of later imports stand at or behind a place that is before these
later_at : (low : ℕ) (is : List NamedImport) → All (λ i. low ≤ i.at) is → All (λ b. low ≤ b.binding.at) (file_bound is)
later_at low [] h = λ k e lt. absurd (omega arith)
later_at low (i ∷ is) h =
    let here = h 0 i (omega arith) in
    All-append (λ b. low ≤ b.binding.at) (import_bound i) (file_bound is)
    (λ k e lt. (let r = form_at i.at i.imported i.form k e lt in omega (arith, r, here)))
    (later_at low is (λ k e lt. h (suc k) e (omega arith)))

pairs_of_imports : (is : List NamedImport) → AllPairs (λ i j. i.at < j.at) is → AllPairs IsNotBehind (file_bound is)
pairs_of_imports [] h = λ i j e low high. absurd (omega arith)
pairs_of_imports (i ∷ is) h =
    let here = form_at i.at i.imported i.form in
    pairs_append IsNotBehind (import_bound i) (file_bound is)
    (λ a b e low high. (let r = here a e (omega arith) in let s = here b e high in omega (arith, r, s)))
    (pairs_of_imports is (λ a b e low high. h (suc a) (suc b) e (omega arith) (omega arith)))
    (λ k e lt. λ j d l. (let r = here k e lt in let s = later_at i.at is (λ a f m. (let q = h 0 (suc a) f (omega arith) (omega arith) in omega (arith, q))) j d l in omega (arith, r, s)))

pub bindings_in_order : BindingsInOrder
bindings_in_order is h =
    let pairs = AllPairs-from_increasing (map (λ i. i.at) is) h in
    pairs_of_imports is (λ i j d low high.
    (let less = pairs i j d.at low (omega (arith, length-map is (λ (k : NamedImport). k.at), high)) in
    omega (arith, less, get_or-map (λ (k : NamedImport). k.at) is i d, get_or-map (λ (k : NamedImport). k.at) is j d)))
