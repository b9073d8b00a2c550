-- What is noted on the way through a function is so wherever names mean what is.
use Rattle.std.proofs.Common.{ℕ, suc, Bool, List, [], ◌∷◌, ◌++◌}
use Rattle.std.specs.Prelude.{Option, Some, None, if◌then◌else◌}
use Rattle.std.specs.Str.{bytes_eq}
use Rattle.go_tree_nodes.specs.declared.names.Ident.{Ident}
use Rattle.go_names_core.specs.scope_stack.Blocks.{or_else}
use Rattle.go_names_core.specs.local_core.Steps.{Piece, Steps, Done, Check, Declare, Inner}
use Rattle.go_names_core.specs.local_core.Binding.{NameLook}
use Rattle.go_names_core.specs.local_core.Law.{Rules}
use Rattle.go_names_core.specs.local_core.mirrors.Walk.{Names, latest, look_in, is_new, with_name, with_names, news, names_of, walk_out}
use Rattle.go_snap_core.specs.near.Near.{IfAny}
use Rattle.go_snap_core.proofs.NearClosing.{either}
use Rattle.go_snap_core.proofs.NearPieces.{each_both}
use Rattle.go_snap_core.proofs.NearWalking.{MeansNear}
use Rattle.go_body_core.specs.stmt_core.StatementLocality.{Each}

or_in : {X : Type 0} (Is : X → Type 0) (a b : Option X) → IfAny Is a → IfAny Is b → IfAny Is (or_else a b)
or_in Is None b h k = k
or_in Is (Some x) b h k = h

-- what a piece notes is so, and what its names mean, where names mean what is
pub record SayIn {X N : Type 0} (Near : X → Type 0) (Is : N → Type 0) (rules : Rules X N) : Type 0 where
  pub notes : (look : NameLook X) (firsts : List Bool) (p : Piece) → MeansNear Near look → Each Is (rules.notes look firsts p)
  pub means : (look : NameLook X) (firsts : List Bool) (p : Piece) (n : ℕ) → MeansNear Near look → Near (rules.means look firsts p n)

module _ {X N : Type 0} (Near : X → Type 0) (Is : N → Type 0) (beyond : List ℕ → Option X) (outside : (name : List ℕ) → IfAny Near (beyond name)) (rules : Rules X N) (law : SayIn Near Is rules) where
  abbrev AreNamesIn : Names X → Type 0
  AreNamesIn es = Each (λ (e : List ℕ × X). Near e.1) es

  latest_in : (es : Names X) (name : List ℕ) → AreNamesIn es → IfAny Near (latest es name)
  latest_in [] name h = tt
  latest_in (e ∷ es) name h = or_in Near (latest es name) (if bytes_eq name e.0 then Some e.1 else None) (latest_in es name h.1) (either (IfAny Near) (bytes_eq name e.0) _ _ h.0 tt)

  sees : (es : Names X) → AreNamesIn es → MeansNear Near (look_in beyond es)
  sees es h name place = or_in Near (latest es name) (beyond name) (latest_in es name h) (outside name)

  with_in : (block : Names X) (means : ℕ → X) (n : ℕ) (xs : List Ident) → AreNamesIn block → ((k : ℕ) → Near (means k)) → AreNamesIn (with_names block means n xs)
  with_in block means n [] h k = h
  with_in block means n (x ∷ xs) h k =
      with_in (with_name block x (means n)) means (suc n) xs (either AreNamesIn (is_new block x) _ _ (each_both (λ (e : List ℕ × X). Near e.1) block ((x.name, means n) ∷ []) h (k n, tt)) h) k

  open_in : (outer block : Names X) → AreNamesIn outer → AreNamesIn block → AreNamesIn (outer ++ block)
  open_in outer block h k = each_both (λ (e : List ℕ × X). Near e.1) outer block h k

  pub walk_in : (outer block : Names X) (opens closes : ℕ) (steps : Steps) → AreNamesIn outer → AreNamesIn block → Each Is (walk_out rules beyond outer block opens closes steps).notes
  walk_in outer block opens closes Done h k = tt
  walk_in outer block opens closes (Check p rest) h k =
      let look = look_in beyond (outer ++ block) in
      each_both Is (rules.notes look [] p) (walk_out rules beyond outer block opens closes rest).notes
      (law.notes look [] p (sees (outer ++ block) (open_in outer block h k))) (walk_in outer block opens closes rest h k)
  walk_in outer block opens closes (Declare m from p xs rest) h k =
      let look = look_in beyond (outer ++ block) in
      let firsts = news (names_of block) xs in
      let here = sees (outer ++ block) (open_in outer block h k) in
      let inner = with_names block (rules.means look firsts p) 0 xs in
      each_both Is (rules.notes look firsts p) (walk_out rules beyond outer inner opens closes rest).notes
      (law.notes look firsts p here) (walk_in outer inner opens closes rest h (with_in block (rules.means look firsts p) 0 xs k (λ n. law.means look firsts p n here)))
  walk_in outer block opens closes (Inner o c steps rest) h k =
      each_both Is (walk_out rules beyond (outer ++ block) [] o c steps).notes (walk_out rules beyond outer block opens closes rest).notes
      (walk_in (outer ++ block) [] o c steps (open_in outer block h k) tt) (walk_in outer block opens closes rest h k)
