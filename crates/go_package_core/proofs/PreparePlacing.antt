-- Functions of files whose tokens follow one another.
use Rattle.std.proofs.Common.{ℕ, List, [], ◌∷◌, ◌++◌, map, refl, sym, subst}
use Rattle.std.specs.List.{AllByRecursion}
use Rattle.go_tree_nodes.specs.Terminals.{InOrder}
use Rattle.go_tree_nodes.specs.Trees.{DeclTree, Value, Types, Func, FuncTree, TopTree, FileTree}
use Rattle.go_tree_nodes.specs.Spelling.{spell_decl, spell_tops, spell_imports, IsPlaced}
use Rattle.go_tree_nodes.proofs.InOrder.{in_order_split}
use Rattle.go_term_core.specs.decl_core.TopDecls.{TopDeclTree, FormTree, ValueForm, TypeForm, top_decls}
use Rattle.go_local_core.specs.Tables.{IsFuncPlaced}
use Rattle.go_body_core.specs.typexpr_core.EntryOutlines.{FileOutline, outline_of}
use Rattle.go_package_core.specs.prepare.Inlines.{IsPlacedOutline, form_funcs, outline_funcs}
use Rattle.go_package_core.proofs.PrepareForms.{DeclHolds, Forms, file_holds, specs_all}

abbrev IsFormPlaced : FormTree → Type 0
IsFormPlaced form = AllByRecursion IsFuncPlaced (form_funcs form)

decl_placed : (d : DeclTree) (low high : ℕ) → InOrder low (spell_decl d) high → DeclHolds IsFormPlaced d
decl_placed (Value v) low high h = specs_all (λ s. (i : ℕ) → IsFormPlaced (ValueForm v.kind s i)) (λ s i. tt) v.specs
decl_placed (Types t) low high h = specs_all (λ s. IsFormPlaced (TypeForm s)) (λ s. tt) t.specs
decl_placed (Func f) low high h = ((low, (high, h)), tt)

tops_placed : (ts : List TopTree) (low high : ℕ) → InOrder low (spell_tops ts) high → AllByRecursion (λ (t : TopTree). DeclHolds IsFormPlaced t.decl) ts
tops_placed [] low high h = tt
tops_placed (t ∷ ts) low high h =
    let s = in_order_split (spell_decl t.decl) _ low high h in
    (decl_placed t.decl low s.0 s.1.0, tops_placed ts t.semicolon.end high s.1.1.2)

forms_placed : (f : FileTree) → IsPlaced f → Forms IsFormPlaced (top_decls f)
forms_placed f h =
    let s = in_order_split (spell_imports f.imports) _ f.semicolon.end h.0 h.1.2.2.2 in
    file_holds IsFormPlaced f (tops_placed f.decls s.0 h.0 s.1.1)

both_placed : (a b : List FuncTree) → AllByRecursion IsFuncPlaced a → AllByRecursion IsFuncPlaced b → AllByRecursion IsFuncPlaced (a ++ b)
both_placed [] b h k = k
both_placed (f ∷ a) b h k = (h.0, both_placed a b h.1 k)

funcs_placed : (ds : List TopDeclTree) → Forms IsFormPlaced ds → AllByRecursion IsFuncPlaced (outline_funcs ds)
funcs_placed [] h = tt
funcs_placed (d ∷ ds) h = both_placed (form_funcs d.form) (outline_funcs ds) h.0 (funcs_placed ds h.1)

-- those of an outline
pub outline_placed : (o : FileOutline) → IsPlacedOutline o → AllByRecursion IsFuncPlaced (outline_funcs o.decls)
outline_placed o h = subst (λ (x : FileOutline). AllByRecursion IsFuncPlaced (outline_funcs x.decls)) (sym h.is) (funcs_placed (top_decls h.file) (forms_placed h.file h.placed))

-- one of them
pub form_placed : (ds : List TopDeclTree) → AllByRecursion IsFuncPlaced (outline_funcs ds) → Forms IsFormPlaced ds
form_placed [] h = tt
form_placed (d ∷ ds) h = (left (form_funcs d.form) (outline_funcs ds) h, form_placed ds (right (form_funcs d.form) (outline_funcs ds) h))
  where
    left : (a b : List FuncTree) → AllByRecursion IsFuncPlaced (a ++ b) → AllByRecursion IsFuncPlaced a
    left [] b h = tt
    left (f ∷ a) b h = (h.0, left a b h.1)

    right : (a b : List FuncTree) → AllByRecursion IsFuncPlaced (a ++ b) → AllByRecursion IsFuncPlaced b
    right [] b h = h
    right (f ∷ a) b h = right a b h.1

-- the outlines of files whose tokens follow one another
pub outlines_placed : (fs : List FileTree) → AllByRecursion IsPlaced fs → AllByRecursion IsPlacedOutline (map outline_of fs)
outlines_placed [] h = tt
outlines_placed (f ∷ fs) h = (record { file = f; placed = h.0; is = refl }, outlines_placed fs h.1)
