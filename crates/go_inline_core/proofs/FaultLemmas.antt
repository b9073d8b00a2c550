-- Faults of what a program keeps in lists.
use Rattle.std.proofs.Common.{◌≡◌, ℕ, ◌+◌, ◌<◌, true, List, [], ◌∷◌, ◌++◌, length, get_or, drop, Bor, refl, ap, sym, ◌∙◌, append_assoc}
use Rattle.std.specs.Prelude.{if◌then◌else◌, not, ◌&&◌}
use Rattle.std.specs.List.{flat_map}
use Rattle.std.specs.Str.{bytes_eq}
use Rattle.std.proofs.lemmas.List.{drop_more}
use Rattle.go_tree_nodes.specs.text_core.Text.{is_blank}
use Rattle.go_tree_nodes.specs.text_core.declared.rule.Rule.TheVariants as rules
use Rattle.go_tree_nodes.specs.declared.names.Ident.{Ident}
use Rattle.go_tree_nodes.specs.declared.types.Signature.{Signature, out-Signature}
use Rattle.go_tree_nodes.specs.declared.types.Results as declared_results
use Rattle.go_tree_nodes.specs.declared.types.Results.TheVariants as results
use Rattle.go_tree_nodes.specs.declared.types.Params.{Params, out-Params}
use Rattle.go_tree_nodes.specs.declared.types.FieldLine.{FieldLine}
use Rattle.go_tree_nodes.specs.declared.types.MethodLine.{MethodLine, MethodLine', out-MethodLine, is-MethodLine'}
use Rattle.go_tree_nodes.specs.declared.types.Fields.TheVariants as fields
use Rattle.go_tree_nodes.specs.declared.types.Fields.{Fields}
use Rattle.go_tree_nodes.specs.declared.types.«Param» as declared_param
use Rattle.go_tree_nodes.specs.Trees.{FieldTrees}
use Rattle.go_tree_nodes.specs.TypeShapes.{shape_type, shape_signature, shape_results, fields_before, fields_of, methods_of, params_of}
use Rattle.go_tree_nodes.proofs.TypeShapes.{listed_parts, signature_parts}
use Rattle.go_term_core.specs.settling.Settled.{repeats_earlier}
use Rattle.go_names_core.specs.local_core.declared.Fault.{Fault}
use Rattle.go_names_core.specs.local_core.Faults.{ident_fault}
use Rattle.go_names_core.specs.local_core.Outline.{signature_idents}
use Rattle.go_inline_core.specs.Inline.{repeat_faults, repeated_params, repeated_in_fields, repeated_in_methods, repeated_in_signature, repeated_in_result, repeated_in_entries}
use Rattle.go_inline_core.specs.mirrors.Names.{names_of, field_repeated}
use Rattle.go_embed_core.specs.mirrors.Passing.{SameNames}

abbrev pub line_repeated : FieldLine → List Fault
line_repeated l = field_repeated l.fields

-- of a signature: its names, and then its types
abbrev pub both_repeated : Signature → List Fault
both_repeated s = repeat_faults [] (signature_idents (shape_signature s)) ++ repeated_in_signature (shape_signature s)

abbrev pub method_repeated : MethodLine → List Fault
method_repeated (MethodLine' x s semicolon) = both_repeated s

abbrev pub entry_repeated : declared_param.Param → List Fault
entry_repeated p = repeated_params (shape_type p.type_expr)

pub method_breaks : (m : MethodLine) → method_repeated m ≡ both_repeated (out-MethodLine m).signature
method_breaks m = ap method_repeated (is-MethodLine' m)

before_repeated : (f : Fields) (tag : _) (s : _) (rest : FieldTrees) → repeated_in_fields (fields_before f tag s rest) ≡ field_repeated f ++ repeated_in_fields rest
before_repeated (fields.Named xs t) tag s rest = refl
before_repeated (fields.Embedded star n) tag s rest = refl

pub fields_repeated_list : (ls : List FieldLine) → repeated_in_fields (fields_of ls) ≡ flat_map line_repeated ls
fields_repeated_list [] = refl
fields_repeated_list (l ∷ ls) = before_repeated l.fields l.tag l.semicolon (fields_of ls) ∙ ap (λ fs. line_repeated l ++ fs) (fields_repeated_list ls)

pub methods_repeated_list : (ms : List MethodLine) → repeated_in_methods (methods_of ms) ≡ flat_map method_repeated ms
methods_repeated_list [] = refl
methods_repeated_list (MethodLine' x s semicolon ∷ ms) = ap (λ fs. both_repeated s ++ fs) (methods_repeated_list ms)

pub entries_repeated_list : (ps : List declared_param.Param) → repeated_in_entries (params_of ps) ≡ flat_map entry_repeated ps
entries_repeated_list [] = refl
entries_repeated_list (p ∷ ps) = ap (λ fs. entry_repeated p ++ fs) (entries_repeated_list ps)

pub signature_breaks : (s : Signature) → repeated_in_signature (shape_signature s) ≡ repeated_in_entries (params_of (out-Params (out-Signature s).params).entries.items) ++ repeated_in_result (shape_results (out-Signature s).results)
signature_breaks s = ap repeated_in_signature (signature_parts s)

pub listed_breaks : (r : declared_results.Results) (p : Params) → r ≡ results.Listed p → repeated_in_result (shape_results r) ≡ repeated_in_entries (params_of (out-Params p).entries.items)
listed_breaks r p is = ap (λ r. repeated_in_result (shape_results r)) is ∙ ap repeated_in_result (listed_parts p)

-- names that were seen

same_more : (a b : List (List ℕ)) (n : List ℕ) → SameNames a b → SameNames (n ∷ a) (n ∷ b)
same_more a b n same m = ap (λ x. if bytes_eq n m then true else x) (same m)

-- which names repeat one rests on the names alone that were seen
repeated_same : (xs : List Ident) (a b : List (List ℕ)) → SameNames a b → repeat_faults a xs ≡ repeat_faults b xs
repeated_same [] a b same = refl
repeated_same (x ∷ xs) a b same =
    ap (λ h. (if not (is_blank x.name) && h then ident_fault x rules.B1 ∷ [] else []) ++ repeat_faults (x.name ∷ a) xs) (same x.name)
    ∙ ap (λ fs. (if repeats_earlier b x.name then ident_fault x rules.B1 ∷ [] else []) ++ fs) (repeated_same xs (x.name ∷ a) (x.name ∷ b) (same_more a b x.name same))

-- one turn of the loop over the names of a signature
pub repeated_step : (xs : List (Bor Ident)) (i : ℕ) (x : Bor Ident) (seen next : List (List ℕ)) (faults more all : List Fault) → i < length xs → x ≡ get_or xs i x → SameNames next (x.now.name ∷ seen)
    → more ≡ faults ++ (if repeats_earlier seen x.now.name then ident_fault x.now rules.B1 ∷ [] else [])
    → all ≡ faults ++ repeat_faults seen (names_of (drop i xs)) → all ≡ more ++ repeat_faults next (names_of (drop (i + 1) xs))
repeated_step xs i x seen next faults more all below is names now before =
    let own : List Fault = if repeats_earlier seen x.now.name then ident_fault x.now rules.B1 ∷ [] else [] in
    let rest : List Ident = names_of (drop (i + 1) xs) in
    before
    ∙ (ap (λ l. faults ++ repeat_faults seen (names_of l)) (drop_more xs i x below ∙ ap (λ y. y ∷ drop (i + 1) xs) (sym is))
    ∙ (sym (append_assoc faults own (repeat_faults (x.now.name ∷ seen) rest))
    ∙ (ap (λ l. l ++ repeat_faults (x.now.name ∷ seen) rest) (sym now) ∙ ap (λ l. more ++ l) (sym (repeated_same rest next (x.now.name ∷ seen) names)))))
