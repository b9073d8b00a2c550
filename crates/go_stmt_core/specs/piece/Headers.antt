-- Receivers, parameters and results.
--
-- docs/RULES.md, "Types", "Expressions: roles, order, faults of parts", "Assignments, declarations, returns, statements". The Go
-- specification, "Function types", "Method declarations", "Return statements".
use Rattle.std.specs.Prelude.{Bool, true, false, List, [], ◌∷◌, ◌++◌, length, replicate, Option, Some, None, if◌then◌else◌}
use Rattle.go_constant_core.specs.text_core.declared.span.Span.{Span}
use Rattle.go_tree_nodes.specs.declared.names.Ident.{Ident}
use Rattle.go_tree_nodes.specs.declared.files.Receiver.{Receiver}
use Rattle.go_tree_nodes.specs.Trees.{Separated, SignatureTree, ResultTree, ParamTrees, Signed, NoResult, OneResult, Results, NoParams, Param}
use Rattle.go_tree_nodes.specs.Rules.{is_grouped}
use Rattle.go_expr_core.specs.local_core.Outline.{idents}
use Rattle.go_expr_core.specs.operand_core.TypeRules.{TypeRules}
use Rattle.go_expr_core.specs.declared.things.Use.{Use}
use Rattle.go_expr_core.specs.local_core.declared.Fault.{Fault}
use Rattle.go_expr_core.specs.Looks.{Looks}
use Rattle.go_expr_core.specs.Denoting.{named_type, written_type}
use Rattle.go_expr_core.specs.Uses.{type_name_uses}
use Rattle.go_expr_core.specs.TypeUses.{signature_uses}
use Rattle.go_stmt_core.specs.piece.Types.{type_faults}

-- receivers

abbrev pub receiver_uses : {T S D P : Type 0} → Looks T S D P → Option Receiver → List (Use D P)
receiver_uses looks None = []
receiver_uses looks (Some r) = type_name_uses looks r.base

-- a type behind a star, if one stands there
abbrev pub some_starred : {T : Type 0} → TypeRules T → Option Span → Option T → Option T
some_starred rules None t = t
some_starred rules (Some star) None = None
some_starred rules (Some star) (Some t) = Some (rules.pointer_to t)

abbrev pub receiver_type : {T S D P : Type 0} → Looks T S D P → Receiver → Option T
receiver_type looks r = some_starred looks.types r.star (named_type looks r.base)

-- a receiver may have no name
abbrev pub named_receiver : {T : Type 0} → Option Ident → Option T → List (Option T)
named_receiver None t = []
named_receiver (Some x) t = t ∷ []

abbrev pub receiver_types : {T S D P : Type 0} → Looks T S D P → Option Receiver → List (Option T)
receiver_types looks None = []
receiver_types looks (Some r) = named_receiver r.name (receiver_type looks r)

-- parameters and results

-- the type of an entry once for each name; that of one without names once where all are wanted, and not where names are
abbrev pub of_entry : {T : Type 0} → Bool → Option (Separated Ident) → Option T → List (Option T)
of_entry all None t = if all then t ∷ [] else []
of_entry all (Some xs) t = replicate (length (idents xs)) t

-- the types of the names of a list of parameters, or those of all its parameters
abbrev pub entry_types : {T S D P : Type 0} → Looks T S D P → Bool → ParamTrees → List (Option T)
entry_types looks all NoParams = []
entry_types looks all (Param xs t comma rest) = of_entry all xs (written_type looks t) ++ entry_types looks all rest

abbrev pub types_of_result : {T S D P : Type 0} → Looks T S D P → Bool → ResultTree → List (Option T)
types_of_result looks all NoResult = []
types_of_result looks all (OneResult t) = of_entry all None (written_type looks t)
types_of_result looks all (Results first params last) = entry_types looks all params

-- of the names of a signature
abbrev pub types_of_signature : {T S D P : Type 0} → Looks T S D P → SignatureTree → List (Option T)
types_of_signature looks (Signed first params last result) = entry_types looks false params ++ types_of_result looks false result

abbrev pub params_faults : {T S D P : Type 0} → Looks T S D P → ParamTrees → List Fault
params_faults looks NoParams = []
params_faults looks (Param xs t comma rest) = type_faults looks t ++ params_faults looks rest

abbrev pub result_faults : {T S D P : Type 0} → Looks T S D P → ResultTree → List Fault
result_faults looks NoResult = []
result_faults looks (OneResult t) = type_faults looks t
result_faults looks (Results first params last) = params_faults looks params

abbrev pub signature_faults : {T S D P : Type 0} → Looks T S D P → SignatureTree → List Fault
signature_faults looks (Signed first params last result) = params_faults looks params ++ result_faults looks result

-- headers

abbrev pub header_uses : {T S D P : Type 0} → Looks T S D P → Option Receiver → SignatureTree → List (Use D P)
header_uses looks r s = receiver_uses looks r ++ signature_uses looks s

-- the types of the names of the receiver, the parameters and the results
abbrev pub header_types : {T S D P : Type 0} → Looks T S D P → Option Receiver → SignatureTree → List (Option T)
header_types looks r s = receiver_types looks r ++ types_of_signature looks s

-- what a function returns: the types of its results, with names or without, and whether they have names

abbrev pub has_result_names : ResultTree → Bool
has_result_names NoResult = false
has_result_names (OneResult t) = false
has_result_names (Results first params last) = is_grouped params

-- of a signature
abbrev pub returned_types : {T S D P : Type 0} → Looks T S D P → SignatureTree → List (Option T)
returned_types looks (Signed first _ last result) = types_of_result looks true result

abbrev pub returned_names : SignatureTree → Bool
returned_names (Signed first _ last result) = has_result_names result
