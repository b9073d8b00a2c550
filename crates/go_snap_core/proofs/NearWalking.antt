-- Two rules of pieces that say the same where names mean near things say the same of the steps of a function.
use Rattle.std.proofs.Common.{◌≡◌, ℕ, suc, Bool, List, [], ◌∷◌, ◌++◌, refl, ap, ◌∙◌}
use Rattle.std.specs.Prelude.{Option, Some, None, if◌then◌else◌}
use Rattle.std.specs.Str.{bytes_eq}
use Rattle.go_tree_nodes.specs.declared.names.Ident.{Ident}
use Rattle.go_names_core.specs.scope_stack.Blocks.{or_else}
use Rattle.go_names_core.specs.local_core.Steps.{Piece, Steps, Done, Check, Declare, Inner}
use Rattle.go_names_core.specs.local_core.Binding.{NameLook}
use Rattle.go_names_core.specs.local_core.Faults.{name_faults}
use Rattle.go_names_core.specs.local_core.Law.{Rules, out, both, declared_from, declare_out}
use Rattle.go_names_core.specs.local_core.mirrors.Walk.{Names, latest, look_in, is_new, with_name, with_names, news, names_of, walk_out}
use Rattle.go_snap_core.specs.near.Near.{IfAny}
use Rattle.go_snap_core.proofs.NearClosing.{either}
use Rattle.go_snap_core.proofs.NearPieces.{each_both}
use Rattle.go_body_core.specs.stmt_core.StatementLocality.{Each}

or_near : {X : Type 0} (Near : X → Type 0) (a b : Option X) → IfAny Near a → IfAny Near b → IfAny Near (or_else a b)
or_near Near None b h k = k
or_near Near (Some x) b h k = h

abbrev pub MeansNear : {X : Type 0} → (X → Type 0) → NameLook X → Type 0
MeansNear Near look = (name : List ℕ) (place : ℕ) → IfAny Near (look name place)

-- the same is noted where names mean near things, the names of a piece mean the same there, and mean near things
pub record SayAlike {X N : Type 0} (Near : X → Type 0) (rules others : Rules X N) : Type 0 where
  pub notes : (look : NameLook X) (firsts : List Bool) (p : Piece) → MeansNear Near look → rules.notes look firsts p ≡ others.notes look firsts p
  pub means : (look : NameLook X) (firsts : List Bool) (p : Piece) → MeansNear Near look → rules.means look firsts p ≡ others.means look firsts p
  pub are_near : (look : NameLook X) (firsts : List Bool) (p : Piece) (n : ℕ) → MeansNear Near look → Near (rules.means look firsts p n)

module _ {X N : Type 0} (Near : X → Type 0) (beyond : List ℕ → Option X) (outside : (name : List ℕ) → IfAny Near (beyond name)) (rules others : Rules X N) (law : SayAlike Near rules others) where
  abbrev NearNames : Names X → Type 0
  NearNames es = Each (λ (e : List ℕ × X). Near e.1) es

  latest_near : (es : Names X) (name : List ℕ) → NearNames es → IfAny Near (latest es name)
  latest_near [] name h = tt
  latest_near (e ∷ es) name h = or_near Near (latest es name) (if bytes_eq name e.0 then Some e.1 else None) (latest_near es name h.1) (either (IfAny Near) (bytes_eq name e.0) _ _ h.0 tt)

  look_near : (es : Names X) → NearNames es → MeansNear Near (look_in beyond es)
  look_near es h name place = or_near Near (latest es name) (beyond name) (latest_near es name h) (outside name)

  with_near : (block : Names X) (means : ℕ → X) (n : ℕ) (xs : List Ident) → NearNames block → ((k : ℕ) → Near (means k)) → NearNames (with_names block means n xs)
  with_near block means n [] h k = h
  with_near block means n (x ∷ xs) h k =
      with_near (with_name block x (means n)) means (suc n) xs (either NearNames (is_new block x) _ _ (each_both (λ (e : List ℕ × X). Near e.1) block ((x.name, means n) ∷ []) h (k n, tt)) h) k

  open_near : (outer block : Names X) → NearNames outer → NearNames block → NearNames (outer ++ block)
  open_near outer block h k = each_both (λ (e : List ℕ × X). Near e.1) outer block h k

  pub walk_same : (outer block : Names X) (opens closes : ℕ) (steps : Steps) → NearNames outer → NearNames block → walk_out rules beyond outer block opens closes steps ≡ walk_out others beyond outer block opens closes steps
  walk_same outer block opens closes Done h k = refl
  walk_same outer block opens closes (Check p rest) h k =
      let look = look_in beyond (outer ++ block) in
      λ j. both (out [] (law.notes look [] p (look_near (outer ++ block) (open_near outer block h k)) j) []) (walk_same outer block opens closes rest h k j)
  walk_same outer block opens closes (Declare m from p xs rest) h k =
      let look = look_in beyond (outer ++ block) in
      let firsts = news (names_of block) xs in
      let sees = look_near (outer ++ block) (open_near outer block h k) in
      let inner = with_names block (rules.means look firsts p) 0 xs in
      ap (both (declare_out rules opens closes look firsts m from p xs)) (walk_same outer inner opens closes rest h (with_near block (rules.means look firsts p) 0 xs k (λ n. law.are_near look firsts p n sees)))
      ∙ (λ j. both (out (declared_from opens closes from (law.means look firsts p sees j) 0 xs) (law.notes look firsts p sees j) (name_faults m firsts xs))
      (walk_out others beyond outer (with_names block (law.means look firsts p sees j) 0 xs) opens closes rest))
  walk_same outer block opens closes (Inner o c steps rest) h k =
      λ j. both (walk_same (outer ++ block) [] o c steps (open_near outer block h k) tt j) (walk_same outer block opens closes rest h k j)
