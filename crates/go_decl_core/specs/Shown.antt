-- What contracts see of the declarations that the program lists.
use Rattle.go_tree_nodes.specs.Shapes.{shape_value_spec, shape_type_spec, func_of}
use Rattle.go_decl_core.specs.declared.tops.DeclForm.{DeclForm}
use Rattle.go_decl_core.specs.declared.tops.DeclForm.TheVariants as forms
use Rattle.go_decl_core.specs.declared.tops.TopDecl.{TopDecl}
use Rattle.go_decl_core.specs.TopDecls.{FormTree, ValueForm, TypeForm, FuncForm, TopDeclTree}

abbrev pub form_shown : DeclForm → FormTree
form_shown (forms.«Value» k v i) = ValueForm k (shape_value_spec v.now) i
form_shown (forms.«Type» t) = TypeForm (shape_type_spec t.now)
form_shown (forms.Func f) = FuncForm (func_of f.now)

abbrev pub decl_shown : TopDecl → TopDeclTree
decl_shown d = record { ident = d.ident.now; number = d.number; form = form_shown d.form }
