-- What operands and names are judged by, over the types of a table.
use Rattle.std.specs.Prelude.{ℕ, Bool, false, List, [], ◌∷◌, Option, Some, None, Result, Ok, Err, if◌then◌else◌}
use Rattle.go_denote_core.specs.text_core.declared.rule.Rule.{Rule}
use Rattle.go_term_core.specs.declared.term.Basic.TheVariants as basics
use Rattle.go_term_core.specs.Terms.{Term, NoType, Predeclared, ErrorType, Defined, PointerTo, StructOf, InterfaceOf, NoMethod, Sign, SignOf, Terms, NoTerm, ATerm}
use Rattle.go_table_core.specs.Entries.{Entry, EntryLook, find_entry, underlying_in}
use Rattle.go_table_core.specs.Assign.{AValue}
use Rattle.go_mset_core.specs.embed_core.Owners.{Found, AFieldOf, AMethodOf, AnInterfaces, TheErrorMethod}
use Rattle.go_mset_core.specs.Implementing.{error_sign}
use Rattle.go_denote_core.specs.operand_core.declared.types.TypeForm.{TypeForm}
use Rattle.go_denote_core.specs.operand_core.declared.types.TypeForm.TheVariants as forms
use Rattle.go_denote_core.specs.operand_core.TypeRules.{TypeRules}
use Rattle.go_denote_core.specs.declared.things.Selection.{Selection}
use Rattle.go_denote_core.specs.declared.things.Selection.TheVariants as selections
use Rattle.go_handle_core.specs.deciding.Identity.{identical_of}
use Rattle.go_handle_core.specs.deciding.Conversion.{is_type_term, convertible_of}
use Rattle.go_handle_core.specs.deciding.Assigning.{assignable_of}
use Rattle.go_handle_core.specs.deciding.Selecting.{Choice}

-- an underlying type is no name of a declared type
abbrev pub form_under : Term → TypeForm Term
form_under NoType = forms.Nothing
form_under (Predeclared b) = forms.Basic b
form_under ErrorType = forms.Interface
form_under (Defined k) = forms.Nothing
form_under (PointerTo t) = forms.Pointer t
form_under (StructOf path fs) = forms.Struct
form_under (InterfaceOf path ms) = forms.Interface

abbrev pub form_of : EntryLook → Term → TypeForm Term
form_of look t = form_under (underlying_in look t)

-- the types of a table, seen from a package
abbrev pub term_rules : List Entry → List ℕ → TypeRules Term
term_rules es path =
    record {
      form = form_of (find_entry es);
      pointer_to = PointerTo;
      int = Predeclared basics.Int;
      string = Predeclared basics.Text;
      bool = Predeclared basics.Bool;
      any = InterfaceOf path NoMethod;
      identical = identical_of;
      assignable = λ v t. assignable_of es (AValue v) t;
      convertible = convertible_of (find_entry es);
    }

-- a type, where it is one
abbrev pub typed : EntryLook → Term → Option Term
typed look t = if is_type_term look t then Some t else None

abbrev pub all_typed : EntryLook → Terms → List (Option Term)
all_typed look NoTerm = []
all_typed look (ATerm t ts) = typed look t ∷ all_typed look ts

-- of the parameters, and of the results
abbrev pub param_types_of : EntryLook → Sign → List (Option Term)
param_types_of look (SignOf ps rs) = all_typed look ps

abbrev pub results_of : EntryLook → Sign → List (Option Term)
results_of look (SignOf ps rs) = all_typed look rs

module _ {D P : Type 0} (decl : Found → D) (path_of : List ℕ → P) (look : EntryLook) where
  abbrev pub member_selection : List ℕ → Bool → Found → Selection Term Sign D P
  member_selection path passes (AFieldOf home place t) = selections.«Field» (decl (AFieldOf home place t)) (path_of path) (typed look t) passes
  member_selection path passes (AMethodOf home place pointer g) = selections.Method (decl (AMethodOf home place pointer g)) (path_of path) g pointer passes
  member_selection path passes (AnInterfaces home place g) = selections.Method (decl (AnInterfaces home place g)) (path_of path) g false passes
  member_selection path passes TheErrorMethod = selections.Method (decl TheErrorMethod) (path_of path) error_sign false passes

  -- what a selector chooses, with a declaration for the member and what stands for the embedded fields that lead to it
  abbrev pub selection_of : Result Choice Rule → Selection Term Sign D P
  selection_of (Ok c) = member_selection c.path c.passes c.member
  selection_of (Err rule) = selections.Missing rule
