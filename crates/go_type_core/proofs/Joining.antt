-- What the parts of the code give one another, over what is written.
use Rattle.std.proofs.Common.{◌≡◌, ℕ, Bool, List, Option, All, map, length, sym, ◌∙◌, subst}
use Rattle.std.proofs.lemmas.List.{length-map}
use Rattle.go_term_core.specs.decl_core.declared.keys.DeclKey.{DeclKey}
use Rattle.go_digraph_core.specs.declared.cycle.edge.Edge.{Edge}
use Rattle.go_digraph_core.specs.cycle.Cycle.{InRange, IsRanking}
use Rattle.go_digraph_core.specs.chain.Chains.{AllInside, AreEnds}
use Rattle.go_term_core.specs.declared.settling.kind.Kind.{Kind}
use Rattle.go_table_core.specs.declared.entry.TypeEntry.{TypeEntry}
use Rattle.go_table_core.specs.Entries.{Entry, EntryLook, find_entry, IsUnnamed}
use Rattle.go_table_core.specs.Shown.{entry_shown}
use Rattle.go_table_core.specs.Tables.{AreOf, KeysRise}
use Rattle.go_type_core.specs.declared.build.TypeFault.{TypeFault}
use Rattle.go_type_core.specs.Built.{AreLoopedEntries, base, IsBuilt}
use Rattle.go_type_core.specs.mirrors.Numbers.{keys_of, IsTable}
use Rattle.go_type_core.specs.mirrors.Edges.{all_uses, Falls, MarksTo, SameEdges}
use Rattle.go_type_core.specs.mirrors.Chained.{next_bare, next_named, nothing_at, kind_at, known_kind, AreNothing, AreRootEnds}
use Rattle.go_type_core.specs.mirrors.Making.{marked_faults, entry_at, AreShared, IsMade}
use Rattle.go_type_core.proofs.Keyed.{rise_apart}
use Rattle.go_type_core.proofs.Looping.{in_range, marked_looped, marked_falls}
use Rattle.go_type_core.proofs.OnceEach.{range_same, ranking_same, marks_same}
use Rattle.go_type_core.proofs.Nothings.{inside, are_nothing}
use Rattle.go_type_core.proofs.Unders.{IsRooted}
use Rattle.go_type_core.proofs.Steps.{table_all, types_shared, plain_found, plain_types}
use Rattle.go_type_core.proofs.Building.{is_built, same_keys, own_kept, rise_kept}

abbrev pub shown : List TypeEntry → List Entry
shown es = map entry_shown es

count_shown : (es : List TypeEntry) → length es ≡ length (shown es)
count_shown es = sym (length-map es entry_shown)

module _ (keys : List DeclKey) (es : List TypeEntry) (view : keys ≡ keys_of (shown es)) (rise : KeysRise (shown es)) where
  -- edges

  all_of : (edges slice : List Edge) → SameEdges edges (all_uses keys 0 (shown es)) → slice ≡ edges → SameEdges slice (all_uses (keys_of (shown es)) 0 (shown es))
  all_of edges slice is same = subst (λ l. SameEdges l (all_uses (keys_of (shown es)) 0 (shown es))) (sym same) (subst (λ k. SameEdges edges (all_uses k 0 (shown es))) view is)

  pub range_of : (edges slice : List Edge) (count : ℕ) → SameEdges edges (all_uses keys 0 (shown es)) → slice ≡ edges → count ≡ length es → InRange count slice
  range_of edges slice count is same counted =
      range_same count slice (all_uses (keys_of (shown es)) 0 (shown es)) (all_of edges slice is same) (subst (λ n. InRange n (all_uses (keys_of (shown es)) 0 (shown es))) (sym (counted ∙ count_shown es)) (in_range (shown es) (rise_apart (shown es) rise)))

  marks_of : (edges slice : List Edge) (count : ℕ) (marks : List Bool) → SameEdges edges (all_uses keys 0 (shown es)) → slice ≡ edges → count ≡ length es → MarksTo slice slice count marks → MarksTo (all_uses (keys_of (shown es)) 0 (shown es)) (all_uses (keys_of (shown es)) 0 (shown es)) (length (shown es)) marks
  marks_of edges slice count marks is same counted m =
      marks_same slice (all_uses (keys_of (shown es)) 0 (shown es)) (length (shown es)) marks (all_of edges slice is same) (subst (λ n. MarksTo slice slice n marks) (counted ∙ count_shown es) m)

  pub looped_of : (edges slice : List Edge) (count : ℕ) (marks : List Bool) → SameEdges edges (all_uses keys 0 (shown es)) → slice ≡ edges → count ≡ length es → MarksTo slice slice count marks → AreLoopedEntries (shown es) marks
  looped_of edges slice count marks is same counted m = marked_looped (shown es) (rise_apart (shown es) rise) marks (marks_of edges slice count marks is same counted m)

  pub falls_of : (edges slice ranked : List Edge) (count : ℕ) (marks : List Bool) (ranks : List ℕ) → SameEdges edges (all_uses keys 0 (shown es)) → slice ≡ edges → ranked ≡ edges → count ≡ length es → IsRanking ranked ranks → MarksTo slice slice count marks → Falls (shown es) marks
  falls_of edges slice ranked count marks ranks is same also counted ranking m =
      marked_falls (shown es) (rise_apart (shown es) rise) marks ranks (ranking_same ranked (all_uses (keys_of (shown es)) 0 (shown es)) ranks (all_of edges ranked is also) ranking) (marks_of edges slice count marks is same counted m)

  -- chains

  bare_table : (looped : List Bool) (next slice : List (Option ℕ)) → IsTable next (length es) (next_bare keys looped (shown es)) → slice ≡ next → IsTable slice (length (shown es)) (next_bare (keys_of (shown es)) looped (shown es))
  bare_table looped next slice table same =
      subst (λ l. IsTable l (length (shown es)) (next_bare (keys_of (shown es)) looped (shown es))) (sym same)
      (subst (λ k. IsTable next (length (shown es)) (next_bare k looped (shown es))) view (table_all next (length es) (length (shown es)) (next_bare keys looped (shown es)) (count_shown es) table))

  named_table : (looped : List Bool) (next slice : List (Option ℕ)) → IsTable next (length es) (next_named keys looped (shown es)) → slice ≡ next → IsTable slice (length (shown es)) (next_named (keys_of (shown es)) looped (shown es))
  named_table looped next slice table same =
      subst (λ l. IsTable l (length (shown es)) (next_named (keys_of (shown es)) looped (shown es))) (sym same)
      (subst (λ k. IsTable next (length (shown es)) (next_named k looped (shown es))) view (table_all next (length es) (length (shown es)) (next_named keys looped (shown es)) (count_shown es) table))

  pub bare_inside : (looped : List Bool) (next slice : List (Option ℕ)) → IsTable next (length es) (next_bare keys looped (shown es)) → slice ≡ next → AllInside slice
  bare_inside looped next slice table same = inside (shown es) (rise_apart (shown es) rise) looped base slice (bare_table looped next slice table same)

  pub named_inside : (looped : List Bool) (next slice : List (Option ℕ)) → IsTable next (length es) (next_named keys looped (shown es)) → slice ≡ next → AllInside slice
  named_inside looped next slice table same = inside (shown es) (rise_apart (shown es) rise) looped (λ t. t) slice (named_table looped next slice table same)

  pub nothing_of : (far : EntryLook) (looped : List Bool) (next slice ends given : List (Option ℕ)) (marks : List Bool) → IsTable next (length es) (next_bare keys looped (shown es)) → slice ≡ next → AreLoopedEntries (shown es) looped → AreEnds slice ends → given ≡ ends → IsTable marks (length es) (nothing_at far looped (shown es) given) → AreNothing (shown es) far marks
  nothing_of far looped next slice ends given marks table same are ends_are handed made =
      are_nothing (shown es) (rise_apart (shown es) rise) far looped are slice (bare_table looped next slice table same) ends marks ends_are
      (subst (λ l. IsTable marks (length (shown es)) (nothing_at far looped (shown es) l)) handed (table_all marks (length es) (length (shown es)) (nothing_at far looped (shown es) given) (count_shown es) made))

  pub roots_of : (looped : List Bool) (next slice ends : List (Option ℕ)) → IsTable next (length es) (next_named keys looped (shown es)) → slice ≡ next → AreEnds slice ends → AreRootEnds (shown es) looped ends
  roots_of looped next slice ends table same ends_are = record { next = slice; table = named_table looped next slice table same; ends_are = ends_are }

-- the whole

-- what the parts of the code have found of a package
pub record IsPrepared (es : List TypeEntry) (imported : List Entry) (keys : List DeclKey) (looped nothing : List Bool) (ends : List (Option ℕ)) (ks : List Kind) (types : List Entry) : Type 0 where
  pub rise : KeysRise (shown es)
  pub view : keys ≡ keys_of (shown es)
  pub are : AreLoopedEntries (shown es) looped
  pub falls : Falls (shown es) looped
  pub nothing_are : AreNothing (shown es) (find_entry imported) nothing
  pub roots : AreRootEnds (shown es) looped ends
  pub made : IsTable ks (length es) (kind_at (find_entry imported) nothing (shown es) ends)
  pub shared : AreShared (find_entry imported) (known_kind keys ks (find_entry imported)) nothing ends (shown es) types

-- types as they are made, where lists were handed on as slices
pub made_of : (es : List TypeEntry) (imported : List Entry) (keys : List DeclKey) (looped nothing : List Bool) (ends : List (Option ℕ)) (ks : List Kind) (types : List Entry) (nothing' nothing'' : List Bool) (ends' ends'' : List (Option ℕ)) (ks' : List Kind)
    → nothing' ≡ nothing → nothing'' ≡ nothing → ends' ≡ ends → ends'' ≡ ends → ks' ≡ ks → AreNothing (shown es) (find_entry imported) nothing
    → AreRootEnds (shown es) looped ends → IsTable ks (length es) (kind_at (find_entry imported) nothing' (shown es) ends')
    → AreShared (find_entry imported) (known_kind keys ks' (find_entry imported)) nothing'' ends'' (shown es) types → IsMade (length es) (shown es) (find_entry imported) keys looped types
made_of es imported keys looped nothing ends ks types nothing' nothing'' ends' ends'' ks' n m e f k nothing_are roots made shared = record {
  nothing = nothing;
  ends = ends;
  ks = ks;
  nothing_are = nothing_are;
  roots = roots;
  made = subst (λ x. IsTable ks (length es) (kind_at (find_entry imported) x (shown es) ends)) n (subst (λ x. IsTable ks (length es) (kind_at (find_entry imported) nothing' (shown es) x)) e made);
  shared = subst (λ x. AreShared (find_entry imported) (known_kind keys ks (find_entry imported)) x ends (shown es) types) m
      (subst (λ x. AreShared (find_entry imported) (known_kind keys ks (find_entry imported)) nothing'' x (shown es) types) f (subst (λ x. AreShared (find_entry imported) (known_kind keys x (find_entry imported)) nothing'' ends'' (shown es) types) k shared));
}

module _ (es : List TypeEntry) (imported : List Entry) (keys : List DeclKey) (looped nothing : List Bool) (ends : List (Option ℕ)) (ks : List Kind) (types : List Entry) (p : IsPrepared es imported keys looped nothing ends ks types) where
  rooted : IsRooted (shown es) (find_entry imported) looped nothing p.roots.next ends
  rooted = record { apart = rise_apart (shown es) p.rise; are = p.are; falls = p.falls; nothing_is = p.nothing_are; table = p.roots.table; ends_are = p.roots.ends_are }

  kinds_table : IsTable ks (length (shown es)) (kind_at (find_entry imported) nothing (shown es) ends)
  kinds_table = table_all ks (length es) (length (shown es)) (kind_at (find_entry imported) nothing (shown es) ends) (count_shown es) p.made

  the_shared : AreShared (find_entry imported) (known_kind (keys_of (shown es)) ks (find_entry imported)) nothing ends (shown es) types
  the_shared = subst (λ k. AreShared (find_entry imported) (known_kind k ks (find_entry imported)) nothing ends (shown es) types) p.view p.shared

  types_are : IsTable types (length (shown es)) (entry_at (find_entry imported) (known_kind (keys_of (shown es)) ks (find_entry imported)) nothing (shown es) ends)
  types_are = types_shared (shown es) (find_entry imported) looped nothing p.roots.next ends (known_kind (keys_of (shown es)) ks (find_entry imported)) rooted the_shared.0 types the_shared.1 the_shared.2

  pub built_of : (faults : List TypeFault) → length looped ≡ length es → faults ≡ marked_faults 0 looped → IsBuilt (find_entry imported) (shown es) types faults
  built_of faults count is = is_built (shown es) (find_entry imported) looped nothing p.roots.next ends ks rooted kinds_table types faults (count ∙ count_shown es) types_are is

  pub own_of : (path : List ℕ) → AreOf path (shown es) → AreOf path types
  own_of path own = own_kept path (shown es) types (same_keys (shown es) types (find_entry imported) (known_kind (keys_of (shown es)) ks (find_entry imported)) nothing ends types_are) own

  pub rise_of : KeysRise types
  rise_of = rise_kept (shown es) types (same_keys (shown es) types (find_entry imported) (known_kind (keys_of (shown es)) ks (find_entry imported)) nothing ends types_are) p.rise

  pub plain_of : All (λ e. IsUnnamed e.term) imported → All (λ e. IsUnnamed e.term) types
  plain_of plain = plain_types (shown es) types (find_entry imported) (known_kind (keys_of (shown es)) ks (find_entry imported)) nothing ends types_are (λ k. plain_found imported k plain)

-- types that were made, by those that reach themselves
module _ (es : List TypeEntry) (imported : List Entry) (keys : List DeclKey) (looped looped' : List Bool) (types : List Entry) (rise : KeysRise (shown es)) (view : keys ≡ keys_of (shown es)) (are : AreLoopedEntries (shown es) looped) (falls : Falls (shown es) looped)
    (same : looped' ≡ looped) (made : IsMade (length es) (shown es) (find_entry imported) keys looped' types) where
  m : IsMade (length es) (shown es) (find_entry imported) keys looped types
  m = subst (λ l. IsMade (length es) (shown es) (find_entry imported) keys l types) same made

  prepared : IsPrepared es imported keys looped m.nothing m.ends m.ks types
  prepared = record { rise = rise; view = view; are = are; falls = falls; nothing_are = m.nothing_are; roots = m.roots; made = m.made; shared = m.shared }

  pub made_own : (path : List ℕ) → AreOf path (shown es) → AreOf path types
  made_own path own = own_of es imported keys looped m.nothing m.ends m.ks types prepared path own

  pub made_rise : KeysRise types
  made_rise = rise_of es imported keys looped m.nothing m.ends m.ks types prepared

  pub made_plain : All (λ e. IsUnnamed e.term) imported → All (λ e. IsUnnamed e.term) types
  made_plain plain = plain_of es imported keys looped m.nothing m.ends m.ks types prepared plain

  pub made_built : (faults : List TypeFault) → length looped ≡ length es → faults ≡ marked_faults 0 looped → IsBuilt (find_entry imported) (shown es) types faults
  made_built faults count is = built_of es imported keys looped m.nothing m.ends m.ks types prepared faults count is
