-- The end of the walk.
use Rattle.std.proofs.Common.{ℕ, ◌≤◌, List, length, Option, Some, None, subst, arith}
use Rattle.go_term_core.specs.Terms.{Term}
use Rattle.go_embed_core.specs.table_core.Entries.{Entry, find_entry}
use Rattle.go_embed_core.specs.OwnersShown.{found_shown}
use Rattle.go_select_core.specs.declared.levels.level.Reached.{Reached}
use Rattle.go_select_core.specs.levels.Paths.{HasHit, IsSelected}
use Rattle.go_select_core.specs.levels.mirrors.Ways.{Way, ways}
use Rattle.go_select_core.specs.levels.mirrors.Levels.{IsAbove, HasOne}
use Rattle.go_select_core.proofs.LevelsWalks.{no_more}
use Rattle.go_select_core.proofs.LevelsWayLemmas.{ways_length, ways_back}
use Rattle.go_select_core.specs.declared.names.Known.{Known}
use Rattle.go_select_core.specs.declared.names.Known.TheVariants.{One, More}
use Rattle.go_select_core.specs.mirrors.Names.{Identifier, identifier_of, known_of}
use Rattle.go_select_core.proofs.Surveying.{KnownTo, NamesTo}
use Rattle.go_select_core.specs.surveys.mirrors.Walks.{IsDenotedSo, AreDenoted}

module _ (es : List Entry) (t : Term) (first : ℕ) (paths : List (List ℕ)) (types : List Reached) (met : List (ℕ × ℕ)) (ns : List (Identifier × Known)) (s : NamesTo es t first paths types met ns) (all : length types ≤ first) where
  nothing : (name from : List ℕ) → IsAbove (find_entry es) t (HasOne (find_entry es) name from) s.k → HasHit (find_entry es) t name from → ⊥
  nothing name from above h =
      let size = ways_length paths types s.sized in
      no_more (find_entry es) t (HasOne (find_entry es) name from) s.k first (ways paths types) s.level above (omega (arith, size, all)) h.0 h.1 h.4.at h.4.leads (h.2, h.3, h.4.has)

  denoted : (name from : List ℕ) (known : Option Known) → KnownTo es t name from s.k first (ways paths types) known → IsDenotedSo (find_entry es) t name from paths types known
  denoted name from None h = nothing name from h
  denoted name from (Some (One n m)) h =
      let r = ways_back paths types n h.1.0 h.1.1 in
      (r.0, r.1, subst (λ (w : Way). IsSelected (find_entry es) t name from w.path w.pointer (found_shown m)) r.2 h.1.2)
  denoted name from (Some More) h = h

  pub walk_end : AreDenoted (find_entry es) t paths types ns
  walk_end = record { sized = s.sized; each = λ name from. denoted name from (known_of ns (identifier_of name from)) (s.each name from) }
