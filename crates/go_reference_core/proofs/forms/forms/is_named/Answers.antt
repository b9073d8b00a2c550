use Rattle.std.proofs.Common.{Bool, map, sym, subst, rules}
use Rattle.std.specs.Prelude.{◌↔◌, IsTrue, string_bytes}
use Rattle.std.specs.declared.alloc.Global.{Global}
use Rattle.std.specs.declared.string.String.{String}
use Rattle.std.proofs.lemmas.Fn.{always_returns_same}
use Rattle.go_graph_core.specs.Workspaces.{by_bytes}
use Rattle.go_reference_core.specs.forms.Forms.{IsNamed}
use Rattle.go_reference_core.proofs.FormsNamed.{searched}
use Rattle.go_reference_core.proofs.forms.forms.is_named.Goals as goal

pub returns : goal.returns
returns c =
    subst (λ (b : Bool). IsTrue b ↔ IsNamed (map string_bytes c.args.names.now) c.args.name.now) (sym c.is_ok.ensures.value)
    (searched string_bytes c.args.names.now c.args.name.now c.binary_search_by.result c.requires c.binary_search_by.ensures.bound
    (c.binary_search_by.ensures.position (λ (s : String Global). by_bytes (string_bytes s) c.args.name.now) (always_returns_same _ _ _ (λ a r f' k. search rules))))
