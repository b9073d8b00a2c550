-- What an identifier has in its context, which is known without its spelling.
use Rattle.std.specs.Prelude.{ℕ, List}
use Rattle.go_tree_nodes.specs.declared.usage.Usage.{Usage}
use Rattle.go_denote_core.specs.declared.things.Stand.{Stand}
use Rattle.go_denote_core.specs.declared.things.Dot.{Dot}
use Rattle.go_denote_core.specs.declared.things.Outcome.{Outcome}
use Rattle.go_denote_core.specs.Look.{Look}
use Rattle.go_denote_core.specs.Answers.{name_answer}
use Rattle.go_denote_core.specs.Selectors.{selector_answer}

pub data NameContext (T D : Type 0) : Type 0 where
  -- a name alone, where it stands
  NameAt : Stand → NameContext T D
  -- a selector, by how the whole is used and what stands left of its dot
  SelectorBehind : Usage → Dot T D → NameContext T D

-- the outcome of a name, which the context leaves open
abbrev pub name_outcome : {T S D P : Type 0} → Look T S D P → NameContext T D → List ℕ → Outcome D P
name_outcome look (NameAt place) name = (name_answer look place name).outcome
name_outcome look (SelectorBehind usage dot) name = (selector_answer look usage dot name).outcome
