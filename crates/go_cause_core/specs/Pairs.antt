-- Which rules may follow from which.
use Rattle.std.specs.Prelude.{Bool, true, false, ◌&&◌, ◌||◌}
use Rattle.go_denote_core.specs.text_core.declared.rule.Rule.{Rule}
use Rattle.go_denote_core.specs.text_core.declared.rule.Rule.TheVariants as rule

-- of a text that has no tree
abbrev pub is_of_text : Rule → Bool
is_of_text rule.L1 = true
is_of_text rule.L2 = true
is_of_text rule.L3 = true
is_of_text rule.P1 = true
is_of_text rule.P2 = true
is_of_text rule.E3 = true
is_of_text _ = false

-- files that make no package
abbrev pub is_of_assembly : Rule → Bool
is_of_assembly rule.K2 = true
is_of_assembly rule.K3 = true
is_of_assembly rule.K4 = true
is_of_assembly _ = false

-- an import is refused
abbrev pub is_of_import : Rule → Bool
is_of_import rule.I1 = true
is_of_import rule.I2 = true
is_of_import rule.I3 = true
is_of_import rule.I4 = true
is_of_import rule.I5 = true
is_of_import rule.I6 = true
is_of_import _ = false

-- second declarations
abbrev pub is_of_block : Rule → Bool
is_of_block rule.B1 = true
is_of_block rule.B2 = true
is_of_block _ = false

-- a name is refused, so that its import is not used by it
abbrev pub is_of_name : Rule → Bool
is_of_name rule.N1 = true
is_of_name rule.N2 = true
is_of_name rule.N3 = true
is_of_name rule.N4 = true
is_of_name rule.N5 = true
is_of_name rule.N6 = true
is_of_name rule.N7 = true
is_of_name rule.N8 = true
is_of_name _ = false

-- a selector, a literal or a call is refused
abbrev pub is_of_operand : Rule → Bool
is_of_operand rule.N9 = true
is_of_operand rule.S1 = true
is_of_operand rule.S2 = true
is_of_operand rule.S3 = true
is_of_operand rule.S4 = true
is_of_operand rule.S5 = true
is_of_operand rule.S6 = true
is_of_operand rule.S7 = true
is_of_operand rule.S8 = true
is_of_operand rule.F8 = true
is_of_operand rule.C1 = true
is_of_operand rule.C2 = true
is_of_operand rule.C3 = true
is_of_operand rule.C4 = true
is_of_operand _ = false

-- a declaration or an operator gives no type
abbrev pub is_of_type : Rule → Bool
is_of_type rule.Y1 = true
is_of_type rule.Y3 = true
is_of_type rule.Y4 = true
is_of_type rule.Y7 = true
is_of_type rule.X1 = true
is_of_type _ = false

abbrev pub is_to_blame : Rule → Bool
is_to_blame r = is_of_name r || is_of_operand r || is_of_type r

-- what stands on an operand or on a type
abbrev pub needs_type : Rule → Bool
needs_type rule.S1 = true
needs_type rule.S4 = true
needs_type rule.F1 = true
needs_type rule.F3 = true
needs_type rule.F8 = true
needs_type rule.C1 = true
needs_type rule.X1 = true
needs_type _ = false

abbrev pub is_k4 : Rule → Bool
is_k4 rule.K4 = true
is_k4 _ = false

abbrev pub is_i6 : Rule → Bool
is_i6 rule.I6 = true
is_i6 _ = false

abbrev pub is_i7 : Rule → Bool
is_i7 rule.I7 = true
is_i7 _ = false

abbrev pub is_n9 : Rule → Bool
is_n9 rule.N9 = true
is_n9 _ = false

abbrev pub is_n5 : Rule → Bool
is_n5 rule.N5 = true
is_n5 _ = false

abbrev pub is_n7 : Rule → Bool
is_n7 rule.N7 = true
is_n7 _ = false

abbrev pub is_i4 : Rule → Bool
is_i4 rule.I4 = true
is_i4 _ = false

abbrev pub is_f4 : Rule → Bool
is_f4 rule.F4 = true
is_f4 _ = false

abbrev pub is_f5 : Rule → Bool
is_f5 rule.F5 = true
is_f5 _ = false

abbrev pub is_f8 : Rule → Bool
is_f8 rule.F8 = true
is_f8 _ = false

abbrev pub is_y1 : Rule → Bool
is_y1 rule.Y1 = true
is_y1 _ = false

abbrev pub is_y7 : Rule → Bool
is_y7 rule.Y7 = true
is_y7 _ = false

abbrev pub is_n1 : Rule → Bool
is_n1 rule.N1 = true
is_n1 _ = false

-- of packages and imports
abbrev pub may_follow_outside : Rule → Rule → Bool
may_follow_outside cause follower =
    (is_k4 follower && is_of_text cause)
    || (is_i6 follower && is_of_assembly cause)
    || (is_n9 follower && is_of_import cause)
    || (is_i7 follower && (is_of_block cause || is_of_name cause))

-- of what stands in declarations and expressions
abbrev pub may_follow_inside : Rule → Rule → Bool
may_follow_inside cause follower = (needs_type follower && is_to_blame cause) || (is_n5 follower && is_n7 cause)

-- of what is told once for each of several places
abbrev pub may_repeat : Rule → Rule → Bool
may_repeat cause follower =
    (is_i4 follower && is_i4 cause)
    || (is_f4 follower && is_f4 cause)
    || (is_f5 follower && is_f5 cause)
    || (is_f8 follower && is_f8 cause)
    || (is_y1 follower && is_y1 cause)
    || (is_y7 follower && is_y7 cause)

-- a fault of the one rule may be the direct cause of a fault of the other
abbrev pub may_follow : Rule → Rule → Bool
may_follow cause follower = may_follow_outside cause follower || may_follow_inside cause follower || may_repeat cause follower
