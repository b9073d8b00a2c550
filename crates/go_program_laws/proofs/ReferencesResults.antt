-- What a call gives by the signature of a function is what its header gives.
use Rattle.std.proofs.Common.{◌&&◌}
use Rattle.std.proofs.lemmas.Bool.{and_parts}
use Rattle.go_tree_nodes.specs.WrittenTypes.{signature_types}
use Rattle.go_body_core.specs.typexpr_core.EntryAmong.{among_to}
use Rattle.go_report_core.specs.expr_core.Denoting.{written_type}
use Rattle.go_emit_core.specs.package_core.PackagePartInputs.{path_in}
use Rattle.go_code_core.specs.fragments.Inside.{receiver_inside, signature_inside}
use Rattle.go_workspace_laws.specs.ConstantLaws.{code_names_of}
use Rattle.go_workspace_laws.proofs.ConstantLists.{has}
use Rattle.go_workspace_laws.specs.Standing.{stand_in_part}
use Rattle.go_program_laws.specs.types.Functions.{function_looks, known_types}
use Rattle.go_program_laws.proofs.TypesReady.{AreGiven}
use Rattle.go_program_laws.proofs.TypesTypes.{header_over}
use Rattle.go_program_laws.specs.references.Shown.{HeadersGiveTheirResults}
use Rattle.go_program_laws.proofs.ReferencesGives.{gives_same}
use Rattle.go_program_laws.proofs.ReferencesHeaders.{type_same}

pub headers_give : AreGiven → HeadersGiveTheirResults
headers_give laws i c n t f g all h shows inside =
    let code = code_names_of i c n f g in
    let looks = function_looks i c n t all in
    let st = stand_in_part i c n t in
    let us = signature_types g.signature in
    let head = and_parts (receiver_inside code g.receiver) (signature_inside code g.signature) (and_parts (receiver_inside code g.receiver && signature_inside code g.signature) _ inside).0 in
    gives_same (known_types i c) (path_in i) st.top st.file code (written_type looks) g.signature (λ u k. type_same laws i c n t f g all h u (has us u (among_to us u k)))
    (λ u k w e. header_over laws i c n t f g all h shows u (has us u (among_to us u k)) w e) head.1
