use Rattle.std.proofs.Common.{◌≡◌, ◌||◌, ℕ, List, drop, map}
use Rattle.go_term_core.specs.settling.Settled.{is_among_names}
use Rattle.go_type_core.specs.table_core.Shown.{member_shown}
use Rattle.go_embed_core.specs.Faults.{own_names}
use Rattle.go_embed_core.proofs.hidden.own_names.Given as goal

abbrev pub invariant-loop-method : goal.invariant-loop-method
invariant-loop-method l =
    (n : List ℕ) → (is_among_names (map (λ y. y.now) l.names.keys) n || is_among_names (own_names l.path l.fields (map member_shown (drop l.method-index l.methods))) n) ≡ is_among_names (own_names l.path l.fields (map member_shown l.methods)) n
