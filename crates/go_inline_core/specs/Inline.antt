-- What a type is that is written inside a function or in an initialiser, and what is broken in it.
--
-- docs/RULES.md, "Types inside functions". The Go specification, "Types", "Declarations and scope", "Struct types", "Interface types".
use Rattle.std.specs.Prelude.{◌≡◌, ℕ, List, [], ◌∷◌, ◌++◌, map, Option, Some, None, slice_get, if◌then◌else◌}
use Rattle.go_tree_nodes.specs.text_core.declared.rule.Rule.TheVariants as rules
use Rattle.go_tree_nodes.specs.declared.names.Ident.{Ident}
use Rattle.go_tree_nodes.specs.Trees.{TypeTree, NamedType, Pointer, ParenType, Struct, Interface, FieldTrees, NoFields, NamedFields, EmbeddedField, MethodTrees, NoMethods, Method, SignatureTree, Signed, ResultTree, NoResult, OneResult, Results, ParamTrees, NoParams, Param}
use Rattle.go_term_core.specs.decl_core.declared.keys.DeclKey.{DeclKey}
use Rattle.go_term_core.specs.decl_core.declared.places.Place.{Place}
use Rattle.go_term_core.specs.declared.term.MemberPlace.{MemberPlace}
use Rattle.go_term_core.specs.declared.term.MemberPlace.TheVariants as places
use Rattle.go_term_core.specs.declared.settling.kind.Kind.{Kind}
use Rattle.go_term_core.specs.settling.Settled.{settled, repeats_earlier}
use Rattle.go_embed_core.specs.declared.faults.MemberFault.{MemberFault}
use Rattle.go_embed_core.specs.Faults.{term_faults}
use Rattle.go_typexpr_core.specs.written.Written.{InFile, Meaning, term_of}
use Rattle.go_names_core.specs.local_core.declared.Fault.{Fault}
use Rattle.go_names_core.specs.local_core.Faults.{ident_fault}
use Rattle.go_names_core.specs.local_core.Outline.{signature_idents}
use Rattle.go_inline_core.specs.Types.{InlineOf, inline_at}
use Rattle.go_tree_nodes.specs.Starts.{type_start}

-- faults

abbrev pub at_place : Option Place → ℕ
at_place None = 0
at_place (Some p) = p.at

-- the offset of a member's identifier in a file that declares these outside function bodies
abbrev pub member_offset : List Place → MemberPlace → ℕ
member_offset ps (places.Declared d) = at_place (slice_get ps d.number)
member_offset ps (places.Local l) = l.offset

abbrev pub located_fault : List Place → MemberFault → Fault
located_fault ps f = record { offset = member_offset ps f.place; rule = f.rule }

-- parameters and results that are not blank and have the name of an earlier one of their signature
abbrev pub repeat_faults : List (List ℕ) → List Ident → List Fault
repeat_faults seen [] = []
repeat_faults seen (x ∷ xs) = (if repeats_earlier seen x.name then ident_fault x rules.B1 ∷ [] else []) ++ repeat_faults (x.name ∷ seen) xs

-- those of the methods of the interface types in a type, at any depth
abbrev mutual
  pub repeated_params : TypeTree → List Fault
  repeated_params (NamedType n) = []
  repeated_params (Pointer star t) = repeated_params t
  repeated_params (ParenType first t last) = repeated_params t
  repeated_params (Struct k first ls last) = repeated_in_fields ls
  repeated_params (Interface k first ms last) = repeated_in_methods ms

  pub repeated_in_fields : FieldTrees → List Fault
  repeated_in_fields NoFields = []
  repeated_in_fields (NamedFields xs t tag s rest) = repeated_params t ++ repeated_in_fields rest
  repeated_in_fields (EmbeddedField star n tag s rest) = repeated_in_fields rest

  -- of a method its own come before those in its types
  pub repeated_in_methods : MethodTrees → List Fault
  repeated_in_methods NoMethods = []
  repeated_in_methods (Method x g s rest) = (repeat_faults [] (signature_idents g) ++ repeated_in_signature g) ++ repeated_in_methods rest

  pub repeated_in_signature : SignatureTree → List Fault
  repeated_in_signature (Signed first params last result) = repeated_in_entries params ++ repeated_in_result result

  pub repeated_in_result : ResultTree → List Fault
  repeated_in_result NoResult = []
  repeated_in_result (OneResult t) = repeated_params t
  repeated_in_result (Results first params last) = repeated_in_entries params

  pub repeated_in_entries : ParamTrees → List Fault
  repeated_in_entries NoParams = []
  repeated_in_entries (Param xs t comma rest) = repeated_params t ++ repeated_in_entries rest

-- types

-- what a type is, by what is known of declared types, by the file where it is written, and by what names of types mean there
abbrev pub inline_of : (DeclKey → Kind) → InFile → Meaning → TypeTree → InlineOf
inline_of kind f mean t =
    record { term = settled kind (term_of mean f t); faults = map (located_fault f.places) (term_faults kind (term_of mean f t)) ++ repeated_params t }

-- types by their first bytes
abbrev pub inline_with : (DeclKey → Kind) → InFile → Meaning → TypeTree → ℕ × InlineOf
inline_with kind f mean t = (type_start t, inline_of kind f mean t)

abbrev pub inlines : (DeclKey → Kind) → InFile → Meaning → List TypeTree → List (ℕ × InlineOf)
inlines kind f mean ts = map (inline_with kind f mean) ts

-- the same is found at each offset
abbrev pub AreFoundAlike : List (ℕ × InlineOf) → List (ℕ × InlineOf) → Type 0
AreFoundAlike types other = (offset : ℕ) → inline_at types offset ≡ inline_at other offset
