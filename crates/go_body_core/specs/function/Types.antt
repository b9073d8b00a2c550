-- Types inside functions, by what names mean where they stand.
--
-- docs/RULES.md, "Types inside functions". The Go specification, "Types", "Declarations and scope".
use Rattle.std.specs.Prelude.{Bool, true, false, Option, Some, None, if◌then◌else◌}
use Rattle.go_term_core.specs.Terms.{NoType}
use Rattle.go_typexpr_core.specs.written.Written as types
use Rattle.go_local_core.specs.Binding.{NameLook}
use Rattle.go_inline_core.specs.Functions.{looked_up_ident}
use Rattle.go_env_core.specs.declared.meaning.Meaning.{Meaning}
use Rattle.go_env_core.specs.declared.meaning.Meaning.TheVariants as meanings

-- whether a name means a local of the function
abbrev pub is_local_meaning : Option Meaning → Bool
is_local_meaning None = false
is_local_meaning (Some (meanings.Outside o)) = false
is_local_meaning (Some (meanings.Local at value)) = true

-- no type is declared inside a function: a name that is a local where it stands means no type, and any other what it means at the top of the file
abbrev pub named_where : NameLook Meaning → types.Meaning → types.Meaning
named_where look top n = if is_local_meaning (look (looked_up_ident n).name (looked_up_ident n).span.start) then NoType else top n
