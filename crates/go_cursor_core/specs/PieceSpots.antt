-- The identifiers of the pieces of functions in their contexts, and their calls, in order of their places.
--
-- docs/RULES.md, "Occurrences", "Expressions: roles, order, faults of parts". The Go specification, "Declarations and scope", "Statements".
use Rattle.std.specs.Prelude.{List, [], ◌++◌, Option, Some, None, if◌then◌else◌}
use Rattle.go_tree_nodes.specs.text_core.declared.span.Span.{Span}
use Rattle.go_tree_nodes.specs.declared.files.Receiver.{Receiver}
use Rattle.go_tree_nodes.specs.Trees.{Separated, One, Then, TypeTree, SignatureTree, ExprTree, ValueSpecTree, SimpleTree, Alone, Step, Assign, Update, Define}
use Rattle.go_expr_core.specs.local_core.WalksEnds.{is_blank_target}
use Rattle.go_expr_core.specs.local_core.Steps.{Piece, Header, Spec, Act, Condition, Given}
use Rattle.go_expr_core.specs.denote_core.declared.things.Stand.TheVariants as stands
use Rattle.go_expr_core.specs.Looks.{Looks}
use Rattle.go_expr_core.specs.Uses.{Spot, spots, type_name_spots, type_spots, signature_spots}

abbrev pub exprs_spots : {T S D P : Type 0} → Looks T S D P → Separated ExprTree → List (Spot T D P)
exprs_spots looks (One e) = spots looks stands.«Value» e
exprs_spots looks (Then e comma more) = spots looks stands.«Value» e ++ exprs_spots looks more

abbrev pub some_type_spots : {T S D P : Type 0} → Looks T S D P → Option TypeTree → List (Spot T D P)
some_type_spots looks None = []
some_type_spots looks (Some t) = type_spots looks t

abbrev pub values_spots : {T S D P : Type 0} → Looks T S D P → Option (Span × Separated ExprTree) → List (Spot T D P)
values_spots looks None = []
values_spots looks (Some v) = exprs_spots looks v.1

abbrev pub spec_spots : {T S D P : Type 0} → Looks T S D P → ValueSpecTree → List (Spot T D P)
spec_spots looks v = some_type_spots looks v.type_expr ++ values_spots looks v.values

-- left of `=`, where `_` is no occurrence

abbrev pub target_spots : {T S D P : Type 0} → Looks T S D P → ExprTree → List (Spot T D P)
target_spots looks e = if is_blank_target e then [] else spots looks stands.«Value» e

abbrev pub targets_spots : {T S D P : Type 0} → Looks T S D P → Separated ExprTree → List (Spot T D P)
targets_spots looks (One e) = target_spots looks e
targets_spots looks (Then e comma more) = target_spots looks e ++ targets_spots looks more

abbrev pub simple_spots : {T S D P : Type 0} → Looks T S D P → SimpleTree → List (Spot T D P)
simple_spots looks (Alone e) = spots looks stands.«Value» e
simple_spots looks (Step e op span) = spots looks stands.«Value» e
simple_spots looks (Assign ts span es) = targets_spots looks ts ++ exprs_spots looks es
simple_spots looks (Update e op span v) = spots looks stands.«Value» e ++ spots looks stands.«Value» v
simple_spots looks (Define xs span es) = exprs_spots looks es

abbrev pub receiver_spots : {T S D P : Type 0} → Looks T S D P → Option Receiver → List (Spot T D P)
receiver_spots looks None = []
receiver_spots looks (Some r) = type_name_spots looks r.base

abbrev pub header_spots : {T S D P : Type 0} → Looks T S D P → Option Receiver → SignatureTree → List (Spot T D P)
header_spots looks r g = receiver_spots looks r ++ signature_spots looks g

abbrev pub given_spots : {T S D P : Type 0} → Looks T S D P → Option (Separated ExprTree) → List (Spot T D P)
given_spots looks None = []
given_spots looks (Some es) = exprs_spots looks es

-- of a piece
abbrev pub piece_spots : {T S D P : Type 0} → Looks T S D P → Piece → List (Spot T D P)
piece_spots looks (Header r g) = header_spots looks r g
piece_spots looks (Spec k v) = spec_spots looks v
piece_spots looks (Act s) = simple_spots looks s
piece_spots looks (Condition e) = spots looks stands.«Value» e
piece_spots looks (Given place es) = given_spots looks es
